-- Texts without a byte, and texts cut at it.
--     LacksByte-append, LacksByte-cons, LacksByte-decimal       texts that lack a byte
--     cut_none, cut_here       where the first byte of a value stands
--     byte_cancel              what stands before a byte, and behind it, where the front lacks it
--     lacks_none, no_line      a text without the byte, or without a line end, begins with nothing that has it
--     to_end                   a range that goes to the end
--     line_cancel, same_words     the first line of a text, and the rest
--     is_other, either_lacks, digit_is_other, LacksByte-digits_onto     a byte, a choice of two texts, a digit, digits before a text
--     first_place, IsFirst, all_past, place_is     the number of bytes before the first of a value; what it says
--     not_first, rest_lacks    the first byte of a text that lacks a byte, and the others
--     line_is                  a line by what stands before its end
use Rattle.std.proofs.Common.{◌≡◌, ℕ, zero, suc, ◌+◌, ◌-◌, ◌/◌, ◌%◌, ◌<◌, ◌≤◌, Bool, true, false, true≢false, not, ◌&&◌, cond, if◌then◌else◌, List, [], ◌∷◌, ◌++◌, length, take, drop, None, Some, refl, sym, ap, subst, ◌∙◌, append_assoc, arith}
use Rattle.std.specs.Prelude.{nat_eq, decimal}
use Rattle.std.specs.Fmt.{digits, digits_onto, digit_glyph}
use Rattle.std.specs.List.{list_all, position, position_or_len}
use Rattle.std.proofs.lemmas.Bool.{eqb-true, eq-eqb}
use Rattle.std.proofs.lemmas.Bool.Decides.{nat_tests}
use Rattle.std.proofs.lemmas.List.{length-drop, take_all, take-append-drop}
use Rattle.std.proofs.lemmas.List.Folds.{list_all-append}
use Rattle.ore_algebra.proofs.ListLaws.{same_cons}
use Rattle.ore_parts.specs.Lines.{LacksByte, IsLine}

module _ (byte : ℕ) where
  abbrev is_other : ℕ → Bool
  is_other b = not (nat_eq b byte)

  pub LacksByte-append : (a b : List ℕ) → LacksByte byte a → LacksByte byte b → LacksByte byte (a ++ b)
  LacksByte-append a b h k = list_all-append is_other a b ∙ (λ i. h i && k i)

  pub LacksByte-cons : (x : ℕ) (a : List ℕ) → is_other x ≡ true → LacksByte byte a → LacksByte byte (x ∷ a)
  LacksByte-cons x a h k = λ i. h i && k i

  -- ---- numbers

  either_lacks : (b : Bool) (xs ys : List ℕ) → LacksByte byte xs → LacksByte byte ys → LacksByte byte (if b then xs else ys)
  either_lacks true xs ys h k = h
  either_lacks false xs ys h k = k

  digit_is_other : (d : ℕ) → byte < 48 → is_other (digit_glyph false (d % 10)) ≡ true
  digit_is_other d low = let h : d % 10 < 10 = omega arith in grind (arith, nat_tests)

  LacksByte-digits_onto : (k n : ℕ) (acc : List ℕ) → byte < 48 → LacksByte byte acc → LacksByte byte (digits_onto k 10 false n acc)
  LacksByte-digits_onto zero n acc low h = h
  LacksByte-digits_onto (suc k) n acc low h =
      let more = LacksByte-cons (digit_glyph false (n % 10)) acc (digit_is_other n low) h in
      either_lacks (nat_eq (n / 10) 0) (digit_glyph false (n % 10) ∷ acc) (digits_onto k 10 false (n / 10) (digit_glyph false (n % 10) ∷ acc)) more (LacksByte-digits_onto k (n / 10) (digit_glyph false (n % 10) ∷ acc) low more)

  pub LacksByte-decimal : (n : ℕ) → byte < 48 → LacksByte byte (decimal n)
  unfolding digits
  LacksByte-decimal n low = LacksByte-digits_onto 64 n [] low refl

  -- ---- the first place of the byte

  abbrev first_place : List ℕ → ℕ
  first_place xs = position_or_len (λ b. nat_eq b byte) xs

  all_past : (xs : List ℕ) → length xs ≤ first_place xs → LacksByte byte xs
  all_past [] h = refl
  all_past (x ∷ xs) h = by (nat_eq x byte) refl h (all_past xs)
    where
      by : (t : Bool) → nat_eq x byte ≡ t → suc (length xs) ≤ cond (not t) (1 + first_place xs) 0 → (length xs ≤ first_place xs → LacksByte byte xs) → LacksByte byte (x ∷ xs)
      by true e h more = absurd (let z : ⊥ = omega arith in z)
      by false e h more = λ i. not (e i) && more (let l : length xs ≤ first_place xs = omega arith in l) i

  -- the byte stands at this place, and not before it
  abbrev IsFirst : List ℕ → ℕ → Type 0
  IsFirst xs n = LacksByte byte (take n xs) × (drop n xs ≡ byte ∷ drop 1 (drop n xs))

  here : (xs : List ℕ) → first_place xs < length xs → IsFirst xs (first_place xs)
  here [] h = absurd (let z : ⊥ = omega arith in z)
  here (x ∷ xs) h = by (nat_eq x byte) refl h (here xs)
    where
      by : (t : Bool) → nat_eq x byte ≡ t → cond (not t) (1 + first_place xs) 0 < suc (length xs) → (first_place xs < length xs → IsFirst xs (first_place xs)) → IsFirst (x ∷ xs) (cond (not t) (1 + first_place xs) 0)
      by true e h more = (refl, ap (λ y. y ∷ xs) (eqb-true x byte e))
      by false e h more =
          let s : suc (first_place xs) ≡ 1 + first_place xs = omega arith in
          let r = more (let l : first_place xs < length xs = omega arith in l) in
          subst (IsFirst (x ∷ xs)) s (λ i. not (e i) && r.0 i, r.1)

  pub cut_none : (xs : List ℕ) → position (λ b. nat_eq b byte) xs ≡ None → LacksByte byte xs
  cut_none xs e = all_past xs (let l : length xs ≤ first_place xs = grind (arith, nat_tests) in l)

  place_is : (xs : List ℕ) (place : ℕ) → position (λ b. nat_eq b byte) xs ≡ Some place → (first_place xs < length xs) × (first_place xs ≡ place)
  place_is xs place e = grind (arith, nat_tests)

  pub cut_here : (xs front back : List ℕ) (place : ℕ) → position (λ b. nat_eq b byte) xs ≡ Some place → front ≡ take place xs → back ≡ drop place xs
      → LacksByte byte front × (xs ≡ front ++ byte ∷ drop 1 back)
  cut_here xs front back place e f b =
      let at = place_is xs place e in
      let q = subst (IsFirst xs) at.1 (here xs at.0) in
      (subst (LacksByte byte) (sym f) q.0, sym (take-append-drop place xs) ∙ (λ i. sym f i ++ (q.1 ∙ ap (λ t. byte ∷ drop 1 t) (sym b)) i))

  -- a range of a slice that goes to its end
  pub to_end : (front back : List ℕ) → front ++ byte ∷ drop 1 back ≡ front ++ byte ∷ take (length back - 1) (drop 1 back)
  to_end front back = ap (λ t. front ++ byte ∷ t) (sym (take_all (length back - 1) (drop 1 back) (omega (arith, length-drop 1 back))))

  -- ---- equal texts

  not_first : (x : ℕ) (xs : List ℕ) → LacksByte byte (x ∷ xs) → x ≡ byte → ⊥
  not_first x xs h e = true≢false (sym h ∙ (λ i. not (eq-eqb x byte e i) && list_all is_other xs))

  rest_lacks : (x : ℕ) (xs : List ℕ) → LacksByte byte (x ∷ xs) → LacksByte byte xs
  rest_lacks x xs h = by (is_other x) h
    where
      by : (t : Bool) → (t && list_all is_other xs) ≡ true → LacksByte byte xs
      by true h = h
      by false h = absurd (true≢false (sym h))

  pub byte_cancel : (a b u v : List ℕ) → LacksByte byte a → LacksByte byte b → a ++ byte ∷ u ≡ b ++ byte ∷ v → (a ≡ b) × (u ≡ v)
  byte_cancel [] [] u v h k e = (refl, ap (drop 1) e)
  byte_cancel [] (y ∷ b) u v h k e = absurd (not_first y b k (sym (same_cons byte y u (b ++ byte ∷ v) e).0))
  byte_cancel (x ∷ a) [] u v h k e = absurd (not_first x a h (same_cons x byte (a ++ byte ∷ u) v e).0)
  byte_cancel (x ∷ a) (y ∷ b) u v h k e =
      let r = byte_cancel a b u v (rest_lacks x a h) (rest_lacks y b k) (ap (drop 1) e) in
      (λ i. (same_cons x y (a ++ byte ∷ u) (b ++ byte ∷ v) e).0 i ∷ r.0 i, r.1)

  -- no byte of the front is this one, so a text that lacks it is no such text
  pub lacks_none : (a u text : List ℕ) → LacksByte byte text → text ≡ a ++ byte ∷ u → ⊥
  lacks_none [] u text h e = not_first byte u (subst (LacksByte byte) e h) refl
  lacks_none (x ∷ a) u text h e = lacks_none a u (a ++ byte ∷ u) (rest_lacks x (a ++ byte ∷ u) (subst (LacksByte byte) e h)) refl

-- ---- lines

line_is : (line u : List ℕ) (is : IsLine line) → line ++ u ≡ is.0 ++ 10 ∷ u
line_is line u is = ap (λ t. t ++ u) is.2 ∙ append_assoc is.0 (10 ∷ []) u

pub line_cancel : (a b u v : List ℕ) → IsLine a → IsLine b → a ++ u ≡ b ++ v → (a ≡ b) × (u ≡ v)
line_cancel a b u v h k e =
    let r = byte_cancel 10 h.0 k.0 u v h.1 k.1 (sym (line_is a u h) ∙ e ∙ line_is b v k) in
    (h.2 ∙ ap (λ t. t ++ 10 ∷ []) r.0 ∙ sym k.2, r.1)

pub no_line : (line u text : List ℕ) → IsLine line → LacksByte 10 text → text ≡ line ++ u → ⊥
no_line line u text is h e = lacks_none 10 is.0 u text h (e ∙ line_is line u is)

-- two lines by what stands before their ends
pub same_words : (a b u v : List ℕ) → LacksByte 10 a → LacksByte 10 b → a ++ 10 ∷ u ≡ (b ++ 10 ∷ []) ++ v → a ≡ b
same_words a b u v h k e = (byte_cancel 10 a b u v h k (e ∙ append_assoc b (10 ∷ []) v)).0
