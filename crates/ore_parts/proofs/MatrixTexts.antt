-- The lines of the text of a matrix.
--     lacks_end, operator_lacks_end, listed_lacks_end     no canonical text, and no list of such, has a line end
--     words_lack_end, sizes_line      the words of the sizes have no line end; their line, with its end
--     line_of_row, line_of_words      each is one whole line
--     words_same, words_cancel        the sizes that some words say, or a line, and what follows
--     rows_text                       the lines of some rows
--     whole_rows, whole_matrix        rows are as many whole lines; a matrix is one more
--     empty, terms-none, none_printable     zero has no terms, and may be written
--     all_same                        what holds of one row holds of copies of it
--     zeros, zero_rows, zero_fits     a row of zeros, and some of them, which may be written
use Rattle.std.proofs.Common.{◌≡◌, ℕ, zero, suc, ◌+◌, ◌<◌, Bool, true, false, true≢false, not, ◌&&◌, ◌||◌, List, [], ◌∷◌, ◌++◌, length, map, drop, replicate, refl, sym, ap, subst, arith}
use Rattle.std.specs.Prelude.{nat_eq, codes, decimal}
use Rattle.std.specs.List.{list_all, flat_map, AllByRecursion}
use Rattle.std.proofs.lemmas.List.{append_cancel_left, append_cancel_right, length-replicate}
use Rattle.ore_algebra.specs.Free.{empty_sum, terms}
use Rattle.ore_rational.specs.Field.{rationals}
use Rattle.ore_monomial.specs.declared.order.Order.{Order}
use Rattle.ore_monomial.specs.declared.order.Order.TheVariants.{DegLex}
use Rattle.ore_monomial.specs.Monomial.{plain_cmp}
use Rattle.ore_monomial.specs.Signature.{Signature}
use Rattle.ore_monomial.specs.LetterRule.{Operator}
use Rattle.ore_ring.specs.Terms.{Summand}
use Rattle.ore_ring.proofs.AllTerms.{all_terms}
use Rattle.ore_ring.proofs.Belonging.{of_none}
use Rattle.ore_ring.proofs.Falls.{falls_none}
use Rattle.ore_rows.specs.Rows.{Row}
use Rattle.ore_text.specs.CanonicalText.{operator_text}
use Rattle.ore_text.specs.Printable.{IsPrintable, IsStorableTerm}
use Rattle.ore_text.specs.Names.{AreNames}
use Rattle.ore_text.specs.RowParts.{is_stop, LacksStops}
use Rattle.ore_text.specs.RowText.{listed, row_text}
use Rattle.ore_text.proofs.RowBytes.{LacksStops-operator}
use Rattle.ore_parts.specs.CertificateText.{number_bound, matrix_words, named_matrix_text, IsRowOf}
use Rattle.ore_parts.specs.Lines.{LacksByte, IsLine}
use Rattle.ore_parts.proofs.Bytes.{LacksByte-append, LacksByte-cons, LacksByte-decimal, line_cancel}
use Rattle.ore_parts.proofs.FaultyLines.{IsWhole, whole_none, whole_line, whole_append}
use Rattle.ore_parts.proofs.Numbers.{numbers_cancel, same_decimal}

-- ---- each line is one

lacks_end : (text : List ℕ) → LacksStops text → LacksByte 10 text
lacks_end [] h = refl
lacks_end (b ∷ bs) h = by (nat_eq b 44) (nat_eq b 10) (list_all (λ b. not (is_stop b)) bs) (list_all (λ b. not (nat_eq b 10)) bs) h (lacks_end bs)
  where
    by : (x y u v : Bool) → (not (x || y) && u) ≡ true → (u ≡ true → v ≡ true) → (not y && v) ≡ true
    by true y u v h more = absurd (true≢false (sym h))
    by false true u v h more = h
    by false false u v h more = more h

module _ (names : List (List ℕ)) (o : Order) (are : AreNames names) where
  pub operator_lacks_end : (f : Operator rationals) → LacksByte 10 (operator_text names o f)
  operator_lacks_end f = lacks_end (operator_text names o f) (LacksStops-operator names o f are)

  listed_lacks_end : (fs : Row rationals) → LacksByte 10 (listed (map (operator_text names o) fs))
  listed_lacks_end [] = refl
  listed_lacks_end (f ∷ []) = operator_lacks_end f
  listed_lacks_end (f ∷ g ∷ fs) =
      LacksByte-append 10 (operator_text names o f) (codes ", " ++ listed (map (operator_text names o) (g ∷ fs))) (operator_lacks_end f)
      (LacksByte-append 10 (codes ", ") (listed (map (operator_text names o) (g ∷ fs))) refl (listed_lacks_end (g ∷ fs)))

  pub line_of_row : (row : Row rationals) → IsLine (row_text names o row)
  line_of_row [] = (codes "row", refl, refl)
  line_of_row (f ∷ fs) = (
    codes "row " ++ listed (map (operator_text names o) (f ∷ fs)),
    LacksByte-append 10 (codes "row ") (listed (map (operator_text names o) (f ∷ fs))) refl (listed_lacks_end (f ∷ fs)),
    refl,
  )

  -- ---- rows

  abbrev pub rows_text : List (Row rationals) → List ℕ
  rows_text rows = flat_map (row_text names o) rows

  pub whole_rows : (rows : List (Row rationals)) → IsWhole (length rows) (rows_text rows)
  whole_rows [] = whole_none
  whole_rows (row ∷ rows) =
      let s : 1 + length rows ≡ suc (length rows) = omega arith in
      subst (λ k. IsWhole k (row_text names o row ++ rows_text rows)) s
      (whole_append 1 (length rows) (row_text names o row) (rows_text rows) (whole_line (row_text names o row) (line_of_row row)) (whole_rows rows))

-- ---- sizes

pub words_lack_end : (name : List ℕ) (rows cols : ℕ) → LacksByte 10 name → LacksByte 10 (matrix_words name rows cols)
words_lack_end name rows cols h =
    LacksByte-append 10 (codes "matrix ") (name ++ 32 ∷ (decimal rows ++ 32 ∷ decimal cols)) refl
    (LacksByte-append 10 name (32 ∷ (decimal rows ++ 32 ∷ decimal cols)) h
    (LacksByte-cons 10 32 (decimal rows ++ 32 ∷ decimal cols) refl
    (LacksByte-append 10 (decimal rows) (32 ∷ decimal cols) (LacksByte-decimal 10 rows (omega arith)) (LacksByte-cons 10 32 (decimal cols) refl (LacksByte-decimal 10 cols (omega arith))))))

-- the line, with its end
abbrev pub sizes_line : List ℕ → ℕ → ℕ → List ℕ
sizes_line name rows cols = matrix_words name rows cols ++ 10 ∷ []

pub line_of_words : (name : List ℕ) (rows cols : ℕ) → LacksByte 10 name → IsLine (sizes_line name rows cols)
line_of_words name rows cols h = (matrix_words name rows cols, words_lack_end name rows cols h, refl)

-- the sizes that some words say
pub words_same : (name : List ℕ) (a b c d : ℕ) → a < number_bound → b < number_bound → c < number_bound → d < number_bound → matrix_words name a b ≡ matrix_words name c d → (a ≡ c) × (b ≡ d)
words_same name a b c d ha hb hc hd words =
    let named = append_cancel_left (codes "matrix ") (name ++ 32 ∷ (decimal a ++ 32 ∷ decimal b)) (name ++ 32 ∷ (decimal c ++ 32 ∷ decimal d)) words in
    let spaced = append_cancel_left name (32 ∷ (decimal a ++ 32 ∷ decimal b)) (32 ∷ (decimal c ++ 32 ∷ decimal d)) named in
    let numbers = numbers_cancel a c (decimal b) (decimal d) (ap (drop 1) spaced) in
    (same_decimal a c ha hc numbers.0, same_decimal b d hb hd numbers.1)

pub words_cancel : (name : List ℕ) (a b c d : ℕ) (u v : List ℕ) → LacksByte 10 name → a < number_bound → b < number_bound → c < number_bound → d < number_bound
    → sizes_line name a b ++ u ≡ sizes_line name c d ++ v → (a ≡ c) × (b ≡ d) × (u ≡ v)
words_cancel name a b c d u v h ha hb hc hd e =
    let parts = line_cancel (sizes_line name a b) (sizes_line name c d) u v (line_of_words name a b h) (line_of_words name c d h) e in
    let words : matrix_words name a b ≡ matrix_words name c d = append_cancel_right (matrix_words name a b) (matrix_words name c d) (10 ∷ []) parts.0 in
    let same = words_same name a b c d ha hb hc hd words in
    (same.0, same.1, parts.1)

-- ---- matrices

module _ (name : List ℕ) (names : List (List ℕ)) (o : Order) (are : AreNames names) (named : LacksByte 10 name) where
  pub whole_matrix : (cols : ℕ) (rows : List (Row rationals)) → IsWhole (1 + length rows) (named_matrix_text name names o cols rows)
  whole_matrix cols rows =
      whole_append 1 (length rows) (sizes_line name (length rows) cols) (rows_text names o are rows) (whole_line (sizes_line name (length rows) cols) (line_of_words name (length rows) cols named)) (whole_rows names o are rows)

-- ---- zeros

empty : (ts : List Summand) → list_all (λ _. false) ts ≡ true → ts ≡ []
empty [] e = refl
empty (t ∷ ts) e = absurd (true≢false (sym e))

terms-none : terms rationals plain_cmp (empty_sum rationals plain_cmp) ≡ []
unfolding empty_sum
terms-none = empty (terms rationals plain_cmp (empty_sum rationals plain_cmp)) (all_terms (λ _. false) DegLex [] (falls_none DegLex))

pub none_printable : (s : Signature) (names : List (List ℕ)) → AreNames names → length names ≡ length s.kinds → IsPrintable s names (empty_sum rationals plain_cmp)
none_printable s names are count = record {
  names_fit = are;
  count = count;
  variables = of_none rationals s;
  storable = subst (AllByRecursion IsStorableTerm) (sym terms-none) tt;
}

all_same : {X : Type 0} (P : X → Type 0) (x : X) (n : ℕ) → P x → AllByRecursion P (replicate n x)
all_same P x zero h = tt
all_same P x (suc n) h = (h, all_same P x n h)

abbrev pub zeros : ℕ → Row rationals
zeros cols = replicate cols (empty_sum rationals plain_cmp)

abbrev pub zero_rows : ℕ → ℕ → List (Row rationals)
zero_rows count cols = replicate count (zeros cols)

pub zero_fits : (s : Signature) (names : List (List ℕ)) → AreNames names → length names ≡ length s.kinds → (count cols : ℕ) → AllByRecursion (IsRowOf s names cols) (zero_rows count cols)
zero_fits s names are fit count cols = all_same (IsRowOf s names cols) (zeros cols) count (record {
  width = length-replicate cols (empty_sum rationals plain_cmp);
  entries = all_same (IsPrintable s names) (empty_sum rationals plain_cmp) cols (none_printable s names are fit);
})
