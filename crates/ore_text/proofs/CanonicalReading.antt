-- Reading back the parts of a canonical text.
--     AreNameBytes                       all bytes may stand in a name
--     front_length                       how many bytes of a text may stand in a name, from the front on
--     front_length-append                name bytes before a text that begins with none are such a front
--     digits_in_name, decimal_in_name    digits may stand in a name, and so may those of a number below 2^127
--     small_decimal, decimal_first       a number below 2^127 has at most 64 digits; its text begins with a digit
--     FactorEnd-WordEnd                  where a factor may end, so may a name or number
--     TermEnd-FactorEnd                  where a term may end, so may a factor that others of the term follow
--     front_at                           a word of name bytes has the length of the front
--     take_front, drop_front             the word that so many bytes of a text are, and what follows it
--     IsNoNameByte, IsNameByte           a byte that can't stand in a name, and one that can
--     front_stops, front_goes_on         the length of the front, where the first byte can't, and where it can
--     rest_at                            the text from a place on, as a slice
--     rest_at-drop                       it is the text without the bytes before the place
--     drop_rest, length_rest             what follows so many bytes of it in the whole text; its length
use Rattle.std.proofs.Common.{◌≡◌, inl, inr, ℕ, suc, ◌+◌, ◌-◌, ◌<◌, ◌^◌, true, false, cond, List, [], ◌∷◌, ◌++◌, length, take, drop, get_or, refl, sym, ap, ◌∙◌, arith}
use Rattle.std.specs.Prelude.{decimal, not}
use Rattle.std.specs.List.{AllByRecursion, position_or_len}
use Rattle.std.specs.Char.{is_ascii_digit}
use Rattle.std.specs.Int.{IsInRange}
use Rattle.std.specs.Str.Parse.{AllDigits, IsNumeral}
use Rattle.std.proofs.lemmas.Bool.Decides.{nat_tests}
use Rattle.std.proofs.lemmas.Fmt.{decimal_is_IsNumeral_wide}
use Rattle.std.proofs.lemmas.Str.Parse.{digit_from_value}
use Rattle.std.proofs.Common.{drop-drop}
use Rattle.std.proofs.lemmas.List.{take_at, drop_at, take_all, length-drop}
use Rattle.ore_text.specs.CanonicalParts.{starred, IsWordEnd, IsFactorEnd, IsTermEnd}
use Rattle.ore_text.specs.Names.{is_name_byte}

abbrev pub AreNameBytes : List ℕ → Type 0
AreNameBytes w = AllByRecursion (λ b. is_name_byte b ≡ true) w

abbrev pub front_length : List ℕ → ℕ
front_length text = position_or_len (λ b. not (is_name_byte b)) text

pub front_length-append : (w tail : List ℕ) → AreNameBytes w → IsWordEnd tail → front_length (w ++ tail) ≡ length w
front_length-append [] [] h e = refl
front_length-append [] (b ∷ bs) h e = ap (λ c. cond (not (not c)) (1 + front_length bs) 0) e
front_length-append (x ∷ w) tail h e = ap (λ c. cond (not (not c)) (1 + front_length (w ++ tail)) 0) h.0 ∙ ap (λ n. 1 + n) (front_length-append w tail h.1 e) ∙ one_more (length w)
  where
    one_more : (n : ℕ) → 1 + n ≡ suc n
    one_more n = omega arith

digit_in_name : (c : ℕ) → IsInRange 48 57 c → is_name_byte c ≡ true
digit_in_name c r = grind (arith, nat_tests)

pub digits_in_name : (ds : List ℕ) → AllDigits 10 ds → AreNameBytes ds
digits_in_name [] h = tt
digits_in_name (c ∷ cs) h = (digit_in_name c (digit_from_value c h.0), digits_in_name cs h.1)

pub small_decimal : (n : ℕ) → n < 2 ^ 127 → n < 10 ^ 64
small_decimal n h = omega arith

pub decimal_in_name : (n : ℕ) → n < 2 ^ 127 → AreNameBytes (decimal n)
decimal_in_name n h = digits_in_name (decimal n) (decimal_is_IsNumeral_wide n (small_decimal n h)).0.1

first_digit : (c : ℕ) → IsInRange 48 57 c → is_ascii_digit c ≡ true
first_digit c r = grind (arith, nat_tests)

pub decimal_first : (n : ℕ) (tail : List ℕ) → n < 2 ^ 127 → is_ascii_digit (get_or (decimal n ++ tail) 0 0) ≡ true
decimal_first n tail h = by (decimal n) (decimal_is_IsNumeral_wide n (small_decimal n h)).0
  where
    by : (ds : List ℕ) → IsNumeral 10 ds → is_ascii_digit (get_or (ds ++ tail) 0 0) ≡ true
    by [] k = absurd (omega (arith, k.0))
    by (c ∷ cs) k = first_digit c (digit_from_value c k.1.0)

pub FactorEnd-WordEnd : (tail : List ℕ) → IsFactorEnd tail → IsWordEnd tail
FactorEnd-WordEnd [] h = tt
FactorEnd-WordEnd (b ∷ bs) (inl e) = ap is_name_byte e
FactorEnd-WordEnd (b ∷ bs) (inr e) = ap is_name_byte e

pub TermEnd-FactorEnd : (fs : List (List ℕ)) (tail : List ℕ) → IsTermEnd tail → IsFactorEnd (starred false fs ++ tail)
TermEnd-FactorEnd [] [] h = tt
TermEnd-FactorEnd [] (x ∷ xs) h = inr h
TermEnd-FactorEnd (f ∷ fs) tail h = inl refl

pub front_at : (w tail text : List ℕ) (l : ℕ) → AreNameBytes w → IsWordEnd tail → l ≡ front_length text → text ≡ w ++ tail → length w ≡ l
front_at w tail text l a b f e = sym (f ∙ ap front_length e ∙ front_length-append w tail a b)

pub take_front : (w tail text : List ℕ) (l : ℕ) → length w ≡ l → text ≡ w ++ tail → take l text ≡ w
take_front w tail text l f e = ap (take l) e ∙ take_at w tail l f

pub drop_front : (w tail text : List ℕ) (l : ℕ) → length w ≡ l → text ≡ w ++ tail → drop l text ≡ tail
drop_front w tail text l f e = ap (drop l) e ∙ drop_at w tail l f

abbrev pub IsNoNameByte : ℕ → Type 0
IsNoNameByte b = is_name_byte b ≡ false

abbrev pub IsNameByte : ℕ → Type 0
IsNameByte b = is_name_byte b ≡ true

pub front_stops : (x : ℕ) (xs : List ℕ) → IsNoNameByte x → front_length (x ∷ xs) ≡ 0
front_stops x xs e = ap (λ c. cond (not (not c)) (1 + front_length xs) 0) e

pub front_goes_on : (x : ℕ) (xs : List ℕ) → IsNameByte x → front_length (x ∷ xs) ≡ front_length xs + 1
front_goes_on x xs e = ap (λ c. cond (not (not c)) (1 + front_length xs) 0) e ∙ turned (front_length xs)
  where
    turned : (n : ℕ) → 1 + n ≡ n + 1
    turned n = omega arith

-- a slice from a place to the end
abbrev pub rest_at : ℕ → List ℕ → List ℕ
rest_at l text = take (length text - l) (drop l text)

pub rest_at-drop : (l : ℕ) (text : List ℕ) → rest_at l text ≡ drop l text
rest_at-drop l text = take_all (length text - l) (drop l text) (let e = length-drop l text in omega arith)

-- what was read of the rest is read of the whole
pub drop_rest : (l k : ℕ) (text : List ℕ) → drop (l + k) text ≡ drop k (rest_at l text)
drop_rest l k text = sym (ap (drop k) (rest_at-drop l text) ∙ drop-drop k l text)

pub length_rest : (l : ℕ) (text : List ℕ) → length (rest_at l text) ≡ length text - l
length_rest l text = ap length (rest_at-drop l text) ∙ length-drop l text
