-- What the tests of the reader show, one at a time.
--     passed_test, found                  a test that was passed; a value that was found
--     same_words                          words that pass the test are these
--     deg_lex_words, deg_rev_lex_words    the words of the second line, for each order
--     order_words, order_of-words         the words of an order, from the reader's and to it
--     name_test                           a name passes the test of names
--     decimal_count, decimal_value        a number up to 64, as a text, is a count; the digits of a number have its
--                                         value
--     AreSizes, size_words, sizes_of-words    the words of a matrix line
use Rattle.std.proofs.Common.{◌≡◌, ℕ, zero, suc, ◌<◌, ◌≤◌, ◌^◌, Bool, true, false, ◌&&◌, not, List, [], ◌∷◌, length, refl, sym, ap, ◌∙◌, subst, arith}
use Rattle.std.specs.Prelude.{if◌then◌else◌, nat_eq, nat_lt, codes, decimal}
use Rattle.std.specs.declared.option.Option.{Option}
use Rattle.std.specs.declared.option.Option.TheVariants.{None, Some}
use Rattle.std.specs.declared.result.Result.TheVariants.{Ok, Err}
use Rattle.std.specs.Char.{is_ascii_digit, digit_value}
use Rattle.std.specs.List.{list_all}
use Rattle.std.specs.Fmt.{digits}
use Rattle.std.specs.Str.{bytes_eq}
use Rattle.std.specs.Str.Parse.{AllDigits, digits_value}
use Rattle.std.proofs.lemmas.Slice.Eq.{bytes_eq-Decides}
use Rattle.std.proofs.lemmas.List.Sums.{list_all-from_AllPass}
use Rattle.std.proofs.lemmas.Bool.{le-leb}
use Rattle.std.proofs.lemmas.Bool.Decides.{nat_tests}
use Rattle.std.proofs.lemmas.Fmt.{decimal-digits_value, decimal_is_IsNumeral}
use Rattle.std.proofs.lemmas.Str.Parse.{numerals_by_value, tells_digits}
use Rattle.std.proofs.lemmas.Option.{same_Some}
use Rattle.ore_algebra.proofs.ResultLaws.{same_ok}
use Rattle.ore_monomial.specs.declared.order.Order.{Order}
use Rattle.ore_monomial.specs.declared.order.Order.TheVariants.{DegLex, DegRevLex}
use Rattle.ore_ring.proofs.Falls.{left_true, right_true}
use Rattle.ore_expr.specs.Tokens.{is_name_byte, IsName}
use Rattle.ore_problem.specs.declared.fault.ProblemReason.{ProblemReason}
use Rattle.ore_problem.specs.declared.fault.ProblemReason.TheVariants as reason
use Rattle.ore_problem.specs.Lines.{Cursor}
use Rattle.ore_problem.specs.Declarations.{is_name, is_digits, is_count}
use Rattle.ore_problem.specs.Problems.{Read, accepted_where, fault_at, found_or, are_words, order_named, is_matrix, sizes_of}
use Rattle.ore_algebra.specs.Results.{◌>>=◌}
use Rattle.ore_problem.specs.ProblemText.{order_word}

-- ---- readings

pub passed_test : {A : Type 0} (b : Bool) (c : Cursor) (r : ProblemReason) (x y : A) → accepted_where b c r x ≡ Ok y → (b ≡ true) × (x ≡ y)
passed_test true c r x y e = (refl, same_ok x y e)
passed_test false c r x y e = cc

pub found : {A : Type 0} (o : Option A) (line : ℕ) (r : ProblemReason) (y : A) → found_or o line r ≡ Ok y → o ≡ Some y
found None line r y e = cc
found (Some x) line r y e = cc

-- ---- words

pub same_words : (ws vs : List (List ℕ)) → are_words ws vs ≡ true → ws ≡ vs
same_words [] [] e = refl
same_words [] (v ∷ vs) e = cc
same_words (w ∷ ws) [] e = cc
same_words (w ∷ ws) (v ∷ vs) e = λ i. (bytes_eq-Decides w v).0 (left_true (bytes_eq w v) (are_words ws vs) e) i ∷ same_words ws vs (right_true (bytes_eq w v) (are_words ws vs) e) i

abbrev pub deg_lex_words : List (List ℕ)
deg_lex_words = codes "order" ∷ codes "deglex" ∷ []

abbrev pub deg_rev_lex_words : List (List ℕ)
deg_rev_lex_words = codes "order" ∷ codes "degrevlex" ∷ []

pub order_words : (ws : List (List ℕ)) (o : Order) → order_named ws ≡ Some o → ws ≡ codes "order" ∷ order_word o ∷ []
order_words ws o e = by (are_words ws deg_lex_words) (are_words ws deg_rev_lex_words) (same_words ws deg_lex_words) (same_words ws deg_rev_lex_words) e
  where
    spelled : (u : Order) → Some u ≡ Some o → ws ≡ codes "order" ∷ order_word u ∷ [] → ws ≡ codes "order" ∷ order_word o ∷ []
    spelled u e f = f ∙ ap (λ x. codes "order" ∷ order_word x ∷ []) (same_Some u o e)

    by : (b c : Bool) → (b ≡ true → ws ≡ deg_lex_words) → (c ≡ true → ws ≡ deg_rev_lex_words) → (if b then Some DegLex else if c then Some DegRevLex else None) ≡ Some o → ws ≡ codes "order" ∷ order_word o ∷ []
    by true c f g e = spelled DegLex e (f refl)
    by false true f g e = spelled DegRevLex e (g refl)
    by false false f g e = cc

pub order_of-words : (o : Order) → order_named (codes "order" ∷ order_word o ∷ []) ≡ Some o
order_of-words DegLex = refl
order_of-words DegRevLex = refl

-- ---- names

pub name_test : (name : List ℕ) → IsName name → is_name name ≡ true
name_test [] h = absurd h
name_test (b ∷ bs) h = λ i. h.0 i && (le-leb (length bs) 15 h.1 i && list_all-from_AllPass is_name_byte bs h.2 i)

-- ---- counts

digit_small : (c : ℕ) → is_ascii_digit c ≡ true → digit_value c < 10
digit_small c h = grind (arith, nat_tests)

all_digits : (ds : List ℕ) → list_all is_ascii_digit ds ≡ true → AllDigits 10 ds
all_digits [] h = tt
all_digits (c ∷ cs) h = (digit_small c (left_true (is_ascii_digit c) (list_all is_ascii_digit cs) h), all_digits cs (right_true (is_ascii_digit c) (list_all is_ascii_digit cs) h))

no_zero : (b : ℕ) → not (nat_eq b 48) ≡ true → b ≡ 48 → ⊥
no_zero b h e = grind (arith, nat_tests)

count_decimal : (q : List ℕ) → is_count q ≡ true → digits_value 10 q ≤ 64 → q ≡ decimal (digits_value 10 q)
count_decimal [] h k = cc
count_decimal (b ∷ []) h k =
    sym (decimal-digits_value (numerals_by_value (AllDigits 10) tells_digits) (b ∷ []) (digit_small b h, tt) (omega arith) (λ e. refl) (omega arith))
count_decimal (b ∷ c ∷ bs) h k =
    let digits = all_digits (b ∷ c ∷ bs) (right_true (not (nat_eq b 48)) (is_digits (b ∷ c ∷ bs)) h) in
    sym (decimal-digits_value (numerals_by_value (AllDigits 10) tells_digits) (b ∷ c ∷ bs) digits (omega arith) (λ e. absurd (no_zero b (left_true (not (nat_eq b 48)) (is_digits (b ∷ c ∷ bs)) h) e)) (omega arith))

abbrev all_count : ℕ → Bool
all_count zero = is_count (decimal zero)
all_count (suc n) = is_count (decimal (suc n)) && all_count n

counts_to : (k n : ℕ) → all_count k ≡ true → n ≤ k → is_count (decimal n) ≡ true
counts_to zero n h l = let e : 0 ≡ n = omega arith in subst (λ m. is_count (decimal m) ≡ true) e h
counts_to (suc k) n h l = by (nat_eq n (suc k)) refl (counts_to k n (right_true (is_count (decimal (suc k))) (all_count k) h))
  where
    by : (b : Bool) → nat_eq n (suc k) ≡ b → (n ≤ k → is_count (decimal n) ≡ true) → is_count (decimal n) ≡ true
    by true e more = let f : suc k ≡ n = grind (arith, nat_tests) in subst (λ m. is_count (decimal m) ≡ true) f (left_true (is_count (decimal (suc k))) (all_count k) h)
    by false e more = let f : n ≤ k = grind (arith, nat_tests) in more f

all_64 : all_count 64 ≡ true
unfolding digits
all_64 = refl

pub decimal_count : (n : ℕ) → n ≤ 64 → is_count (decimal n) ≡ true
decimal_count n h = counts_to 64 n all_64 h

pub decimal_value : (n : ℕ) → n < 2 ^ 64 → digits_value 10 (decimal n) ≡ n
decimal_value n h = (decimal_is_IsNumeral n h).1

not_above : (n : ℕ) → n ≤ 64 → nat_lt 64 n ≡ false
not_above n h = grind (arith, nat_tests)

not_below : (n : ℕ) → nat_lt 64 n ≡ false → n ≤ 64
not_below n h = grind (arith, nat_tests)

-- ---- sizes

pub record AreSizes (ws : List (List ℕ)) (n : ℕ × ℕ) : Type 0 where
  pub spelled : ws ≡ codes "matrix" ∷ decimal n.0 ∷ decimal n.1 ∷ []
  pub rows : n.0 ≤ 64
  pub cols : n.1 ≤ 64

pub sizes_of-words : (line : ℕ) (ws : List (List ℕ)) (n : ℕ × ℕ) → AreSizes ws n → sizes_of line ws ≡ Ok n
unfolding sizes_of
sizes_of-words line ws n h = subst (λ vs. sizes_of line vs ≡ Ok n) (sym h.spelled) (
    rw (decimal_count n.0 h.rows, decimal_count n.1 h.cols, decimal_value n.0 (omega (arith, h.rows)), decimal_value n.1 (omega (arith, h.cols)), not_above n.0 h.rows, not_above n.1 h.cols) refl)

pub size_words : (line : ℕ) (ws : List (List ℕ)) (n : ℕ × ℕ) → is_matrix ws ≡ true → sizes_of line ws ≡ Ok n → AreSizes ws n
unfolding sizes_of
size_words line [] n m e = cc
size_words line (word ∷ []) n m e = cc
size_words line (word ∷ q ∷ []) n m e = cc
size_words line (word ∷ q ∷ p ∷ []) n m e =
    by (is_count q) (is_count p) (nat_lt 64 (digits_value 10 q)) (nat_lt 64 (digits_value 10 p)) refl refl refl refl e
  where
    by : (a b c d : Bool) → is_count q ≡ a → is_count p ≡ b → nat_lt 64 (digits_value 10 q) ≡ c → nat_lt 64 (digits_value 10 p) ≡ d
        → (if a && b then (if c then fault_at line reason.TooManyRows else if d then fault_at line reason.TooManyColumns else Ok (digits_value 10 q, digits_value 10 p)) else fault_at line reason.BadMatrix) ≡ Ok n
        → AreSizes (word ∷ q ∷ p ∷ []) n
    by true true false false f g h k e =
        let few = not_below (digits_value 10 q) h in
        let narrow = not_below (digits_value 10 p) k in
        subst (AreSizes (word ∷ q ∷ p ∷ [])) (same_ok (digits_value 10 q, digits_value 10 p) n e)
        (record { spelled = λ i. (bytes_eq-Decides word (codes "matrix")).0 m i ∷ count_decimal q f few i ∷ count_decimal p g narrow i ∷ []; rows = few; cols = narrow })
    by true true true d f g h k e = cc
    by true true false true f g h k e = cc
    by true false c d f g h k e = cc
    by false b c d f g h k e = cc
size_words line (word ∷ q ∷ p ∷ more ∷ rest) n m e = cc
