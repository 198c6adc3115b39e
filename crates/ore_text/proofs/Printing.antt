-- The parts of a canonical text make it up.
--     stays_false                          where something stands, something stands behind factors
--     starred-append, stays_bare-append    of factors behind other factors
--     factor_texts-drop, factor_texts-none
--                                          the factors from a variable on: its own, and those behind it; none behind
--                                          the last
--     factor_written, bare_after           the text, and whether the term is bare still, once the factor of a variable
--                                          is written
--     flat_map-drop                        the terms from a place on: the one there, and those behind it
--     take_one-none, take_one-some         the item at a place as a list, where there is none and where there is one
--     exponent_is                          the exponent of a variable is that at its place
--     term_text-starred                    a term: the magnitude unless it is 1, the factors, and the magnitude 1 where
--                                          nothing stands there
--     full_text, bare_text, one_text       a term is written whose magnitude isn't 1; that is 1, with factors; and
--                                          without them
--     terms_written, no_terms_written      the first term and those behind it are written; `0` where there is none
--     later_written                        the term at a place is written
use Rattle.std.proofs.Common.{◌≡◌, ℕ, zero, suc, ◌<◌, ◌≤◌, Bool, true, false, cond, List, [], ◌∷◌, ◌++◌, length, take, drop, get_or, slice_get, Some, None, refl, sym, ap, ◌∙◌, append_assoc, arith}
use Rattle.std.specs.Prelude.{codes}
use Rattle.std.specs.List.{flat_map, join_with_byte}
use Rattle.std.proofs.lemmas.List.{drop_all, append-nil}
use Rattle.ore_rational.specs.Fraction.{Fraction}
use Rattle.ore_text.proofs.Known.{same_some, not_none}
use Rattle.ore_text.specs.CanonicalParts.{starred, stays_bare}
use Rattle.ore_monomial.specs.Monomial.{Monomial, exponent}
use Rattle.ore_ring.specs.Terms.{Summand, Terms}
use Rattle.ore_text.specs.CanonicalText.{power_text, factor_texts, magnitude_text, is_one, with_factors, sign_text, term_text, later_text, terms_text}

pub stays_false : (fs : List (List ℕ)) → stays_bare false fs ≡ false
stays_false [] = refl
stays_false (f ∷ fs) = refl

pub starred-append : (b : Bool) (xs ys : List (List ℕ)) → starred b (xs ++ ys) ≡ starred b xs ++ starred (stays_bare b xs) ys
starred-append b [] ys = refl
starred-append true (f ∷ fs) ys = ap (λ t. f ++ t) (starred-append false fs ys ∙ ap (λ b. starred false fs ++ starred b ys) (stays_false fs)) ∙ sym (append_assoc f (starred false fs) (starred false ys))
starred-append false (f ∷ fs) ys = ap (λ t. 42 ∷ (f ++ t)) (starred-append false fs ys ∙ ap (λ b. starred false fs ++ starred b ys) (stays_false fs)) ∙ ap (λ t. 42 ∷ t) (sym (append_assoc f (starred false fs) (starred false ys)))

pub stays_bare-append : (b : Bool) (xs ys : List (List ℕ)) → stays_bare b (xs ++ ys) ≡ stays_bare (stays_bare b xs) ys
stays_bare-append b [] ys = refl
stays_bare-append b (f ∷ fs) [] = refl
stays_bare-append b (f ∷ fs) (y ∷ ys) = refl

pub factor_texts-drop : (k : ℕ) (names : List (List ℕ)) (es name : List ℕ) → slice_get names k ≡ Some name → k < length es
    → factor_texts (drop k names) (drop k es) ≡ power_text name (get_or es k 0) ++ factor_texts (drop (suc k) names) (drop (suc k) es)
factor_texts-drop k [] es name h l = absurd (not_none h refl)
factor_texts-drop k (n ∷ names) [] name h l = absurd (omega arith)
factor_texts-drop zero (n ∷ names) (e ∷ es) name h l = ap (λ m. power_text m e ++ factor_texts names es) (same_some refl h)
factor_texts-drop (suc k) (n ∷ names) (e ∷ es) name h l = factor_texts-drop k names es name h (let m : k < length es = omega arith in m)

-- what was written up to a variable, and its factor
pub factor_written : (bare now next : Bool) (old before after : List ℕ) (names : List (List ℕ)) (es name : List ℕ) (k : ℕ)
    → slice_get names k ≡ Some name → k < length es
    → before ++ starred now (factor_texts (drop k names) (drop k es)) ≡ old ++ starred bare (factor_texts names es)
    → after ≡ before ++ starred now (power_text name (get_or es k 0))
    → next ≡ stays_bare now (power_text name (get_or es k 0))
    → after ++ starred next (factor_texts (drop (suc k) names) (drop (suc k) es)) ≡ old ++ starred bare (factor_texts names es)
factor_written bare now next old before after names es name k h l so_far written stays =
    let rest = factor_texts (drop (suc k) names) (drop (suc k) es) in
    (λ i. written i ++ starred (stays i) rest)
    ∙ append_assoc before (starred now (power_text name (get_or es k 0))) (starred (stays_bare now (power_text name (get_or es k 0))) rest)
    ∙ ap (λ t. before ++ t) (sym (starred-append now (power_text name (get_or es k 0)) rest) ∙ ap (starred now) (sym (factor_texts-drop k names es name h l)))
    ∙ so_far

pub bare_after : (bare now next : Bool) (names : List (List ℕ)) (es name : List ℕ) (k : ℕ)
    → slice_get names k ≡ Some name → k < length es
    → stays_bare now (factor_texts (drop k names) (drop k es)) ≡ stays_bare bare (factor_texts names es)
    → next ≡ stays_bare now (power_text name (get_or es k 0))
    → stays_bare next (factor_texts (drop (suc k) names) (drop (suc k) es)) ≡ stays_bare bare (factor_texts names es)
bare_after bare now next names es name k h l so_far stays =
    let rest = factor_texts (drop (suc k) names) (drop (suc k) es) in
    ap (λ b. stays_bare b rest) stays
    ∙ sym (stays_bare-append now (power_text name (get_or es k 0)) rest)
    ∙ ap (stays_bare now) (sym (factor_texts-drop k names es name h l))
    ∙ so_far

pub flat_map-drop : {X : Type 0} (f : X → List ℕ) (k : ℕ) (xs : List X) → flat_map f (drop k xs) ≡ flat_map f (take 1 (drop k xs)) ++ flat_map f (drop (suc k) xs)
flat_map-drop f zero [] = refl
flat_map-drop f (suc k) [] = refl
flat_map-drop f zero (x ∷ xs) = sym (append_assoc (f x) [] (flat_map f xs))
flat_map-drop f (suc k) (x ∷ xs) = flat_map-drop f k xs

joined : (fs : List (List ℕ)) (f : List ℕ) → join_with_byte 42 (f ∷ fs) ≡ f ++ starred false fs
joined [] f = sym (append-nil f)
joined (g ∷ fs) f = ap (λ t. f ++ 42 ∷ t) (joined fs g)

-- the factors of a term whose magnitude is 1 or not, and the magnitude where the term is bare still
pub term_text-starred : (q : Fraction) (fs : List (List ℕ)) (b : Bool) → is_one q ≡ b
    → with_factors q fs ≡ (cond b [] (magnitude_text q) ++ starred b fs) ++ cond (stays_bare b fs) (magnitude_text q) []
term_text-starred q [] true e = refl
term_text-starred q [] false e = sym (append-nil (magnitude_text q ++ []) ∙ append-nil (magnitude_text q))
term_text-starred q (f ∷ fs) true e = rw e (joined fs f ∙ sym (append-nil (f ++ starred false fs)))
term_text-starred q (f ∷ fs) false e = rw e (joined (f ∷ fs) (magnitude_text q) ∙ sym (append-nil (magnitude_text q ++ starred false (f ∷ fs))))

pub factor_texts-none : (k : ℕ) (names : List (List ℕ)) (es : List ℕ) → length names ≤ k → factor_texts (drop k names) es ≡ []
factor_texts-none k names es h = rw (drop_all k names h) refl

pub take_one-none : {X : Type 0} (xs : List X) (k : ℕ) → slice_get xs k ≡ None → take 1 (drop k xs) ≡ []
take_one-none [] zero h = refl
take_one-none [] (suc k) h = refl
take_one-none (x ∷ xs) zero h = absurd (not_none refl h)
take_one-none (x ∷ xs) (suc k) h = take_one-none xs k h

pub take_one-some : {X : Type 0} (xs : List X) (k : ℕ) (x : X) → slice_get xs k ≡ Some x → take 1 (drop k xs) ≡ x ∷ []
take_one-some [] k x h = absurd (not_none h refl)
take_one-some (y ∷ xs) zero x h = ap (λ z. z ∷ []) (same_some refl h)
take_one-some (y ∷ xs) (suc k) x h = take_one-some xs k x h

pub exponent_is : (m : Monomial) (x : ℕ) → exponent m x ≡ get_or m.exponents x 0
unfolding exponent
exponent_is m x = refl

-- a term whose magnitude isn't 1
pub full_text : (q : Fraction) (fs : List (List ℕ)) (old mid new : List ℕ) → is_one q ≡ false → mid ≡ old ++ magnitude_text q → new ≡ mid ++ starred false fs → new ≡ old ++ with_factors q fs
full_text q fs old mid new e f g =
    g ∙ ap (λ t. t ++ starred false fs) f ∙ append_assoc old (magnitude_text q) (starred false fs)
    ∙ ap (λ t. old ++ t) (sym (term_text-starred q fs false e ∙ ap (λ b. (magnitude_text q ++ starred false fs) ++ cond b (magnitude_text q) []) (stays_false fs) ∙ append-nil (magnitude_text q ++ starred false fs)))

-- a term whose magnitude is 1, where it has factors
pub bare_text : (q : Fraction) (fs : List (List ℕ)) (old new : List ℕ) → is_one q ≡ true → new ≡ old ++ starred true fs → stays_bare true fs ≡ false → new ≡ old ++ with_factors q fs
bare_text q fs old new e g b = g ∙ ap (λ t. old ++ t) (sym (term_text-starred q fs true e ∙ ap (λ b. starred true fs ++ cond b (magnitude_text q) []) b ∙ append-nil (starred true fs)))

-- and where it has none
pub one_text : (q : Fraction) (fs : List (List ℕ)) (old mid new : List ℕ) → is_one q ≡ true → mid ≡ old ++ starred true fs → stays_bare true fs ≡ true → new ≡ mid ++ magnitude_text q → new ≡ old ++ with_factors q fs
one_text q fs old mid new e g b f =
    f ∙ ap (λ t. t ++ magnitude_text q) g ∙ append_assoc old (starred true fs) (magnitude_text q)
    ∙ ap (λ t. old ++ t) (sym (term_text-starred q fs true e ∙ ap (λ b. starred true fs ++ cond b (magnitude_text q) []) b))

-- the first term and those behind it
pub terms_written : (names : List (List ℕ)) (ts : Terms) (t : Summand) (old mid new : List ℕ) → slice_get ts 0 ≡ Some t
    → mid ≡ old ++ (sign_text t.1.num [] (codes "-") ++ term_text names t) → new ≡ mid ++ flat_map (later_text names) (drop 1 ts) → new ≡ old ++ terms_text names ts
terms_written names [] t old mid new h f g = absurd (not_none h refl)
terms_written names (u ∷ ts) t old mid new h f g =
    g ∙ ap (λ x. x ++ flat_map (later_text names) ts) (f ∙ ap (λ v. old ++ (sign_text v.1.num [] (codes "-") ++ term_text names v)) (sym (same_some refl h)))
    ∙ append_assoc old (sign_text u.1.num [] (codes "-") ++ term_text names u) (flat_map (later_text names) ts)

pub no_terms_written : (names : List (List ℕ)) (ts : Terms) → slice_get ts 0 ≡ None → terms_text names ts ≡ codes "0"
no_terms_written names [] h = refl
no_terms_written names (u ∷ ts) h = absurd (not_none refl h)

-- the term at a place, if there is one
pub later_written : (names : List (List ℕ)) (ts : Terms) (k : ℕ) (t : Summand) (old new : List ℕ) → slice_get ts k ≡ Some t → new ≡ old ++ later_text names t → new ≡ old ++ flat_map (later_text names) (take 1 (drop k ts))
later_written names ts k t old new h e = e ∙ ap (λ x. old ++ x) (sym (append-nil (later_text names t))) ∙ sym (ap (λ us. old ++ flat_map (later_text names) us) (take_one-some ts k t h))
