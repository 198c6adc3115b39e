-- Words and the numbers that they write.
--     are_words_apart      lists of words with different lengths are different
--     value_next           the value up to a limit, with one digit more
--     is_name_form         what passes the test of a name has the form of one
use Rattle.ore_text.proofs.ByteTests.{digit_value-is}
use Rattle.std.proofs.Common.{◌≡◌, ◌≢◌, ℕ, suc, ◌+◌, ◌*◌, ◌-◌, ◌<◌, Bool, true, false, ◌&&◌, min, nat_le, List, [], ◌∷◌, length, take, get_or, refl, sym, ap, ◌∙◌, arith, true≢false}
use Rattle.std.specs.Char.{is_ascii_digit, is_ascii_alphabetic, digit_value}
use Rattle.std.specs.List.{list_all}
use Rattle.std.specs.Str.{bytes_eq}
use Rattle.std.specs.Str.Parse.{digits_value}
use Rattle.std.proofs.lemmas.Bool.Decides.{nat_tests}
use Rattle.std.proofs.lemmas.Int.Digits.{digits_value_more}
use Rattle.std.proofs.lemmas.List.Folds.{list_all_at}
use Rattle.std.proofs.lemmas.List.Sums.{AllPass-from_list_all}
use Rattle.std.proofs.lemmas.Bool.{and_parts}
use Rattle.ore_expr.specs.Tokens.{IsName, is_name_byte}
use Rattle.ore_problem.specs.Declarations.{is_name}
use Rattle.ore_problem.specs.Problems.{are_words}

pub are_words_apart : (ws vs : List (List ℕ)) → length ws ≢ length vs → are_words ws vs ≡ false
are_words_apart [] [] n = absurd (n refl)
are_words_apart [] (v ∷ vs) n = refl
are_words_apart (w ∷ ws) [] n = refl
are_words_apart (w ∷ ws) (v ∷ vs) n = by (bytes_eq w v) (are_words_apart ws vs (λ e. n (ap suc e)))
  where
    by : (b : Bool) → are_words ws vs ≡ false → (b && are_words ws vs) ≡ false
    by true e = e
    by false e = refl

is_digit_at : (ds : List ℕ) (i : ℕ) → list_all is_ascii_digit ds ≡ true → i < length ds → is_ascii_digit (get_or ds i 0) ≡ true
is_digit_at ds i a h = by (is_ascii_digit (get_or ds i 0)) refl
  where
    by : (b : Bool) → is_ascii_digit (get_or ds i 0) ≡ b → is_ascii_digit (get_or ds i 0) ≡ true
    by true e = e
    by false e = absurd (true≢false (sym a ∙ list_all_at is_ascii_digit ds i 0 h e))

capped : (v d most : ℕ) → min (min v most * 10 + d) most ≡ min (v * 10 + d) most
capped v d most = omega arith

pub value_next : (ds : List ℕ) (i most : ℕ) → list_all is_ascii_digit ds ≡ true → i < length ds
    → min (min (digits_value 10 (take i ds)) most * 10 + (get_or ds i 0 - 48)) most ≡ min (digits_value 10 (take (i + 1) ds)) most
value_next ds i most a h =
    ap (λ d. min (min (digits_value 10 (take i ds)) most * 10 + d) most) (sym (digit_value-is _ (is_digit_at ds i a h)))
    ∙ capped (digits_value 10 (take i ds)) (digit_value (get_or ds i 0)) most
    ∙ ap (λ v. min v most) (sym (digits_value_more 10 ds i h))

pub is_name_form : (n : List ℕ) → is_name n ≡ true → IsName n
is_name_form [] e = absurd (true≢false (sym e))
is_name_form (b ∷ bs) e =
    let first : (is_ascii_alphabetic b ≡ true) × ((nat_le (length bs) 15 && list_all is_name_byte bs) ≡ true) = and_parts _ _ e in
    let second : (nat_le (length bs) 15 ≡ true) × (list_all is_name_byte bs ≡ true) = and_parts _ _ first.1 in
    (first.0, grind (arith, nat_tests), AllPass-from_list_all is_name_byte bs second.1)
