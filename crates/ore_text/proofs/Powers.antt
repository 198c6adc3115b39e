-- The factor of one variable in the text of a term, and what follows it.
--     name_bytes                 a name has name bytes alone
--     exponent_end               an exponent, or what follows it, ends the name
--     star_at                    the length of a `*` in front, 0 where there is none
--     IsOther                    another word stands there
--     IsFront                    the variable has no exponent and another word stands there, or its factor does
--     power_front                the text from behind `*` on
--     word_length, word_taken    the length of the word there, and the word
--     same_word, another_word    what the test of two words says
--     nothing_read               a variable without exponent takes no text
--     stays_no_bare              a factor is written for an exponent that isn't 0
--     behind_name                the text behind a name
use Rattle.std.proofs.Common.{◌≡◌, ◌≢◌, ◌⊎◌, inl, inr, ℕ, zero, suc, ◌+◌, ◌-◌, ◌<◌, Bool, true, false, List, [], ◌∷◌, ◌++◌, length, take, drop, get_or, refl, sym, ap, ◌∙◌, append_assoc, arith, true≢false}
use Rattle.std.specs.Prelude.{decimal, not, if◌then◌else◌, nat_eq, ◌==◌}
use Rattle.std.specs.List.{AllByRecursion}
use Rattle.std.specs.Char.{is_ascii_alphabetic}
use Rattle.std.specs.Cmp.Lexicographic.{pointwise}
use Rattle.std.proofs.lemmas.Bool.Decides.{nat_tests}
use Rattle.std.proofs.Common.{drop-drop}
use Rattle.std.proofs.lemmas.List.{drop_at, append-nil}
use Rattle.std.proofs.lemmas.List.Elements.{recursion_from_All}
use Rattle.std.proofs.lemmas.Slice.Eq.{bytes_eq-Decides}
use Rattle.ore_text.specs.CanonicalParts.{starred, stays_bare, exponent_text, IsWordEnd, IsFactorEnd, IsTermEnd}
use Rattle.ore_text.specs.CanonicalText.{power_text, factor_texts}
use Rattle.ore_text.specs.Names.{IsName, is_name_byte}
use Rattle.ore_text.proofs.CanonicalReading.{AreNameBytes, front_length, front_at, take_front, rest_at, rest_at-drop, FactorEnd-WordEnd, TermEnd-FactorEnd}
use Rattle.ore_text.proofs.ByteTests.{letter_in_name}

pub name_bytes : (name : List ℕ) → IsName name → AreNameBytes name
name_bytes [] h = absurd h
name_bytes (b ∷ bs) h = (letter_in_name b h.0, recursion_from_All (λ b. is_name_byte b ≡ true) bs h.2)

pub exponent_end : (e : ℕ) (more : List ℕ) → IsFactorEnd more → IsWordEnd (exponent_text e ++ more)
exponent_end zero more h = FactorEnd-WordEnd more h
exponent_end (suc zero) more h = FactorEnd-WordEnd more h
exponent_end (suc (suc e)) more h = refl

power_text-exponent : (name : List ℕ) (e : ℕ) → 0 < e → power_text name e ≡ (name ++ exponent_text e) ∷ []
power_text-exponent name zero h = absurd (omega arith)
power_text-exponent name (suc zero) h = ap (λ x. x ∷ []) (sym (append-nil name))
power_text-exponent name (suc (suc e)) h = ap (λ x. x ∷ []) (append_assoc name (94 ∷ []) (decimal (suc (suc e))))

abbrev pub star_at : List ℕ → ℕ
star_at text = if get_or text 0 0 == 42 then 1 else 0

no_star : (b : ℕ) → is_ascii_alphabetic b ≡ true → nat_eq b 42 ≡ false
no_star b h = grind (arith, nat_tests)

-- what stands behind the `*` of a factor that begins with a letter
star_passed : (bare : Bool) (name more : List ℕ) (fs : List (List ℕ)) (tail text : List ℕ) (start : ℕ) → IsName name → start ≡ star_at text
    → text ≡ starred bare ((name ++ more) ∷ fs) ++ tail → drop start text ≡ name ++ (more ++ (starred false fs ++ tail))
star_passed bare [] more fs tail text start h s e = absurd h
star_passed true (b ∷ bs) more fs tail text start h s e =
    let none : start ≡ 0 = s ∙ ap star_at e ∙ ap (λ c. if c then 1 else 0) (no_star b h.0) in
    (λ i. drop (none i) (e i))
    ∙ append_assoc ((b ∷ bs) ++ more) (starred false fs) tail
    ∙ append_assoc (b ∷ bs) more (starred false fs ++ tail)
star_passed false (b ∷ bs) more fs tail text start h s e =
    let one : start ≡ 1 = s ∙ ap star_at e in
    (λ i. drop (one i) (e i))
    ∙ append_assoc ((b ∷ bs) ++ more) (starred false fs) tail
    ∙ append_assoc (b ∷ bs) more (starred false fs ++ tail)

no_star_passed : (tail text : List ℕ) (start : ℕ) → IsTermEnd tail → start ≡ star_at text → text ≡ tail → drop start text ≡ tail
no_star_passed [] text start h s e = let none : start ≡ 0 = s ∙ ap star_at e in (λ i. drop (none i) (e i))
no_star_passed (b ∷ bs) text start h s e = let none : start ≡ 0 = s ∙ ap star_at e ∙ ap (λ x. if x == 42 then 1 else 0) h in (λ i. drop (none i) (e i))

pub record IsOther (name front : List ℕ) : Type 0 where
  pub word : List ℕ
  pub more : List ℕ
  pub bytes : AreNameBytes word
  pub end : IsWordEnd more
  pub front_is : front ≡ word ++ more
  pub other : word ≢ name

abbrev pub IsFront : List ℕ → ℕ → List (List ℕ) → List ℕ → List ℕ → List ℕ → Type 0
IsFront name e names es tail front = ((e ≡ 0) × IsOther name front) ⊎ ((0 < e) × (front ≡ name ++ (exponent_text e ++ (starred false (factor_texts names es) ++ tail))))

not_empty : (name : List ℕ) → IsName name → [] ≢ name
not_empty [] h e = h
not_empty (b ∷ bs) h e = nil_cons b bs e
  where
    nil_cons : (b : ℕ) (bs : List ℕ) → ◌≡◌ {A = List ℕ} [] (b ∷ bs) → ⊥
    nil_cons b bs e = cc

-- the factors of other variables
others_front : (bare : Bool) (name : List ℕ) (names : List (List ℕ)) (es tail text : List ℕ) (start : ℕ) → IsName name → AllByRecursion IsName names → AllByRecursion (λ n. n ≢ name) names → IsTermEnd tail → start ≡ star_at text
    → text ≡ starred bare (factor_texts names es) ++ tail → IsOther name (drop start text)
others_front bare name [] es tail text start h hs ns end s e =
    record { word = []; more = tail; bytes = tt; end = FactorEnd-WordEnd tail (TermEnd-FactorEnd [] tail end); front_is = no_star_passed tail text start end s e; other = not_empty name h }
others_front bare name (n ∷ names) [] tail text start h hs ns end s e =
    record { word = []; more = tail; bytes = tt; end = FactorEnd-WordEnd tail (TermEnd-FactorEnd [] tail end); front_is = no_star_passed tail text start end s e; other = not_empty name h }
others_front bare name (n ∷ names) (zero ∷ es) tail text start h hs ns end s e = others_front bare name names es tail text start h hs.1 ns.1 end s e
others_front bare name (n ∷ names) (suc k ∷ es) tail text start h hs ns end s e =
    let fs = factor_texts names es in
    record {
      word = n;
      more = exponent_text (suc k) ++ (starred false fs ++ tail);
      bytes = name_bytes n hs.0;
      end = exponent_end (suc k) (starred false fs ++ tail) (TermEnd-FactorEnd fs tail end);
      front_is = star_passed bare n (exponent_text (suc k)) fs tail text start hs.0 s (e ∙ ap (λ f. starred bare (f ++ fs) ++ tail) (power_text-exponent n (suc k) (omega arith)));
      other = ns.0;
    }

pub power_front : (bare : Bool) (name : List ℕ) (e : ℕ) (names : List (List ℕ)) (es tail text : List ℕ) (start : ℕ) → IsName name → AllByRecursion IsName names → AllByRecursion (λ n. n ≢ name) names → IsTermEnd tail → start ≡ star_at text
    → text ≡ starred bare (power_text name e ++ factor_texts names es) ++ tail → IsFront name e names es tail (drop start text)
power_front bare name zero names es tail text start h hs ns end s eq = inl (refl, others_front bare name names es tail text start h hs ns end s eq)
power_front bare name (suc k) names es tail text start h hs ns end s eq =
    let fs = factor_texts names es in
    let positive : 0 < suc k = omega arith in
    inr (positive, star_passed bare name (exponent_text (suc k)) fs tail text start h s (eq ∙ ap (λ f. starred bare (f ++ fs) ++ tail) (power_text-exponent name (suc k) positive)))

-- the word that stands there
pub word_length : (start l : ℕ) (text word more : List ℕ) → drop start text ≡ word ++ more → AreNameBytes word → IsWordEnd more → l ≡ front_length (rest_at start text) → length word ≡ l
word_length start l text word more e b end f = front_at word more (rest_at start text) l b end f (rest_at-drop start text ∙ e)

pub word_taken : (start l : ℕ) (text word more : List ℕ) → drop start text ≡ word ++ more → length word ≡ l → take (start + l - start) (drop start text) ≡ word
word_taken start l text word more e f = ap (λ n. take n (drop start text)) (less start l) ∙ take_front word more (drop start text) l f e
  where
    less : (start l : ℕ) → start + l - start ≡ l
    less start l = omega arith

pub same_word : (xs ys : List ℕ) → false ≡ not (pointwise nat_eq xs ys) → xs ≡ ys
same_word xs ys h = (bytes_eq-Decides xs ys).0 (by (pointwise nat_eq xs ys) h)
  where
    by : (b : Bool) → false ≡ not b → b ≡ true
    by true h = refl
    by false h = absurd (true≢false (sym h))

pub another_word : (xs ys : List ℕ) → true ≡ not (pointwise nat_eq xs ys) → xs ≢ ys
another_word xs ys h e = true≢false (h ∙ ap not ((bytes_eq-Decides xs ys).1 e))

-- no exponent: nothing is read
pub nothing_read : (bare : Bool) (name : List ℕ) (e : ℕ) (fs : List (List ℕ)) (tail text : List ℕ) → e ≡ 0 → text ≡ starred bare (power_text name e ++ fs) ++ tail → text ≡ starred (stays_bare bare (power_text name e)) fs ++ tail
nothing_read bare name zero fs tail text z h = h
nothing_read bare name (suc e) fs tail text z h = absurd (omega arith)

pub stays_no_bare : (bare : Bool) (name : List ℕ) (e : ℕ) → 0 < e → stays_bare bare (power_text name e) ≡ false
stays_no_bare bare name zero h = absurd (omega arith)
stays_no_bare bare name (suc zero) h = refl
stays_no_bare bare name (suc (suc e)) h = refl

-- what follows the name
pub behind_name : (start l : ℕ) (text name more : List ℕ) → drop start text ≡ name ++ more → length name ≡ l → drop (start + l) text ≡ more
behind_name start l text name more e f = sym (drop-drop l start text) ∙ ap (drop l) e ∙ drop_at name more l f
