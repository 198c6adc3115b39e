-- Rows and matrices are formats, and what their readers answer.
--     zero_entry, zero_belongs, sums-zeros, some_row     a row of zeros
--     row_line, StoredRow                      the line of a row; a stored row that may be written
--     stored_row_is, rows_are, sizes_are, matrix_is, row_is     formats
--     no_row_left, other_row, row_found        what the reader of a row answers
--     as_matrix, rows_make                     rows as a matrix
--     matrix_parts, row_parts                  a matrix, and a row, as two parts
--     matrix_sequence, row_sequence            the line of the sizes, and rows or a row
--     rows_both, rows_fit, rows_belong, matrix_lines, matrix_may, matrix_text_to, sizes_and_rows, matrix_makes, row_width, row_lines, row_makes
--                                              what these owe
--     matrix_passed                            the lines of a matrix that is read
use Rattle.std.proofs.Common.{◌≡◌, ℕ, zero, suc, ◌+◌, ◌<◌, List, [], ◌∷◌, ◌++◌, length, map, replicate, refl, sym, ap, subst, ◌∙◌, append-nil, arith}
use Rattle.std.specs.List.{All, AllByRecursion, flat_map}
use Rattle.std.proofs.lemmas.List.{length-map}
use Rattle.std.proofs.lemmas.List.Elements.{All-nil, All-cons, All-head, All-tail, All-replicate}
use Rattle.std.proofs.lemmas.List.Folds.{flat_map-map}
use Rattle.ore_algebra.specs.Free.{empty_sum}
use Rattle.ore_rational.specs.Field.{rationals}
use Rattle.ore_monomial.specs.Monomial.{plain_cmp}
use Rattle.ore_monomial.specs.Signature.{Signature}
use Rattle.ore_ring.specs.Belongs.{Belongs}
use Rattle.ore_ring.specs.Ordered.{Ordered}
use Rattle.ore_ring.proofs.Belonging.{of_none}
use Rattle.ore_rows.specs.Rows.{Row}
use Rattle.ore_rows.specs.Stored.{OperatorMatrix, sums_of, rows_of}
use Rattle.ore_text.specs.Printable.{IsPrintable}
use Rattle.ore_text.specs.Names.{AreNames}
use Rattle.ore_text.specs.RowText.{row_text}
use Rattle.ore_parts.specs.declared.fault.CertFault.TheVariants.{Malformed}
use Rattle.ore_parts.specs.BlockText.{matrix_part, row_part, IsWrittenMatrix}
use Rattle.ore_parts.specs.CertificateText.{number_bound, matrix_words, named_matrix_text, IsRowOf}
use Rattle.ore_parts.specs.Formats.{Format, IsTextOf, Finds, sequence, items}
use Rattle.ore_parts.specs.Lines.{LacksByte, IsLine, Unread}
use Rattle.ore_parts.specs.PartFormats.{sizes_format, columns_format, stored_row_format, rows_format, matrix_format, row_format}
use Rattle.ore_parts.specs.Reading.{IsStartFault}
use Rattle.ore_parts.proofs.Bytes.{line_cancel, no_line}
use Rattle.ore_parts.proofs.FaultyLines.{whole_line}
use Rattle.ore_parts.proofs.FormatLaws.{IsFormat, Makes, line_count-whole, line_count-line, whole_text, line_is, made_is, items_is}
use Rattle.ore_parts.proofs.FormatReads.{finds, line_fault}
use Rattle.ore_parts.proofs.MatrixTexts.{line_of_row, whole_matrix, sizes_line, zeros, zero_fits}
use Rattle.ore_parts.proofs.TwoParts.{TwoParts, two_are}
use Rattle.ore_parts.proofs.PartLaws.{sizes_words, columns_words}
use Rattle.ore_parts.proofs.RowTexts.{row_same, stored_same}

module _ (s : Signature) where
  abbrev pub zero_entry : Ordered
  zero_entry = record { by = s.order; sum = empty_sum rationals plain_cmp }

  pub zero_belongs : Belongs s zero_entry
  zero_belongs = record { order = refl; variables = of_none rationals s }

module _ (s : Signature) (names : List (List ℕ)) (are : AreNames names) (fit : length names ≡ length s.kinds) where
  -- ---- a row

  sums-zeros : (n : ℕ) → zeros n ≡ sums_of (replicate n (zero_entry s))
  sums-zeros zero = refl
  sums-zeros (suc n) = ap (λ r. empty_sum rationals plain_cmp ∷ r) (sums-zeros n)

  some_row : (cols : ℕ) → (stored_row_format s names cols).may (replicate cols (zero_entry s))
  some_row cols = (subst (IsRowOf s names cols) (sums-zeros cols) (zero_fits s names are fit 1 cols).0, All-replicate (Belongs s) cols (zero_entry s) (zero_belongs s))

  row_line : (r : List Ordered) → IsLine (row_text names s.order (sums_of r))
  row_line r = line_of_row names s.order are (sums_of r)

  pub stored_row_is : (cols : ℕ) → IsFormat (stored_row_format s names cols)
  stored_row_is cols = record {
    some = (replicate cols (zero_entry s), some_row cols);
    whole = λ r h. whole_text 1 (row_text names s.order (sums_of r)) (whole_line (row_text names s.order (sums_of r)) (row_line r));
    cancel = λ x y h k u v e.
        let r = line_cancel (row_text names s.order (sums_of x)) (row_text names s.order (sums_of y)) u v (row_line x) (row_line y) e in
        (stored_same s x y h.1 k.1 (row_same s names are cols (sums_of x) (sums_of y) h.0 k.0 r.0), r.1);
  }

  -- no line is left
  pub no_row_left : (cols : ℕ) (u new : Unread) (line : ℕ) → line ≡ u.at → LacksByte 10 u.left × (new ≡ u) → IsStartFault (IsTextOf (stored_row_format s names cols)) u (Malformed line)
  no_row_left cols u new line at empty_sum =
      line_fault (stored_row_format s names cols) (stored_row_is cols) (λ r h. row_line r) u line at (λ r rest h e. no_line (row_text names s.order (sums_of r)) rest u.left (row_line r) empty_sum.0 e)

  -- the line is that of no row
  pub other_row : (cols : ℕ) (u new : Unread) (line : ℕ) (due : List ℕ) → line ≡ u.at → IsLine due × (u.left ≡ due ++ new.left) × (new.at ≡ u.at + 1)
      → ((r : Row rationals) → AllByRecursion (IsPrintable s names) r → length r ≡ cols → due ≡ row_text names s.order r → ⊥) → IsStartFault (IsTextOf (stored_row_format s names cols)) u (Malformed line)
  other_row cols u new line due at taken empty_sum =
      line_fault (stored_row_format s names cols) (stored_row_is cols) (λ r h. row_line r) u line at
      (λ r rest h e. empty_sum (sums_of r) h.0.entries h.0.width (line_cancel due (row_text names s.order (sums_of r)) new.left rest taken.0 (row_line r) (sym taken.1 ∙ e)).0)

  pub row_found : (cols : ℕ) (old new : Unread) (due : List ℕ) (r : List Ordered) → IsLine due × (old.left ≡ due ++ new.left) × (new.at ≡ old.at + 1)
      → AllByRecursion (IsPrintable s names) (sums_of r) × (length r ≡ cols) × (due ≡ row_text names s.order (sums_of r)) → All (Belongs s) r → Finds (stored_row_format s names cols) old r new
  row_found cols old new due r taken is of =
      finds (stored_row_format s names cols) (stored_row_is cols) old r new (record { width = length-map r (λ (f : Ordered). f.sum) ∙ is.1; entries = is.0 }, of) (taken.1 ∙ ap (λ t. t ++ new.left) is.2)
      (taken.2 ∙ ap (λ k. old.at + k) (sym (line_count-line (row_text names s.order (sums_of r)) (row_line r))))

  -- ---- matrices

  abbrev StoredRow : ℕ → List Ordered → Type 0
  StoredRow cols = (stored_row_format s names cols).may

  pub rows_both : (cols : ℕ) (rows : List (List Ordered)) → AllByRecursion (IsRowOf s names cols) (map sums_of rows) → All (All (Belongs s)) rows → All (StoredRow cols) rows
  rows_both cols [] h k = All-nil (StoredRow cols)
  rows_both cols (r ∷ rows) h k = All-cons (StoredRow cols) r rows (h.0, All-head (All (Belongs s)) r rows k) (rows_both cols rows h.1 (All-tail (All (Belongs s)) r rows k))

  pub rows_fit : (cols : ℕ) (rows : List (List Ordered)) → All (StoredRow cols) rows → AllByRecursion (IsRowOf s names cols) (map sums_of rows)
  rows_fit cols [] h = tt
  rows_fit cols (r ∷ rows) h = ((All-head (StoredRow cols) r rows h).0, rows_fit cols rows (All-tail (StoredRow cols) r rows h))

  pub rows_belong : (cols : ℕ) (rows : List (List Ordered)) → All (StoredRow cols) rows → All (All (Belongs s)) rows
  rows_belong cols [] h = All-nil (All (Belongs s))
  rows_belong cols (r ∷ rows) h = All-cons (All (Belongs s)) r rows (All-head (StoredRow cols) r rows h).1 (rows_belong cols rows (All-tail (StoredRow cols) r rows h))

  abbrev pub as_matrix : ℕ → List (List Ordered) → OperatorMatrix
  as_matrix cols rows = record { cols = cols; rows = rows }

  pub rows_make : (count cols : ℕ) → Makes (items (stored_row_format s names cols) count) (rows_format s names count cols) (as_matrix cols)
  rows_make count cols = record { may_to = λ rows h. (refl, h); text_to = λ rows h. refl; from = λ m h. (m.rows, h.1, λ i. as_matrix (sym h.0 i) m.rows) }

  pub rows_are : (count cols : ℕ) → IsFormat (rows_format s names count cols)
  rows_are count cols = made_is (items (stored_row_format s names cols) count) (rows_format s names count cols) (as_matrix cols) (rows_make count cols) (items_is (stored_row_format s names cols) (stored_row_is cols) count)

  pub sizes_are : (name : List ℕ) → LacksByte 10 name → IsFormat (sizes_format name)
  sizes_are name named = line_is (λ (p : ℕ × ℕ). matrix_words name p.0 p.1) (λ p. (p.0 < number_bound) × (p.1 < number_bound)) (sizes_words name named)

  module _ (name : List ℕ) (named : LacksByte 10 name) where
    abbrev matrix_sequence : Format ((ℕ × ℕ) × OperatorMatrix)
    matrix_sequence = sequence (sizes_format name) (λ p. rows_format s names p.0 p.1)

    pub matrix_lines : (cols : ℕ) (rows : List (List Ordered)) → named_matrix_text name names s.order cols (map sums_of rows) ≡ sizes_line name (length rows) cols ++ flat_map (stored_row_format s names cols).text rows
    matrix_lines cols rows = λ i. sizes_line name (length-map rows sums_of i) cols ++ flat_map-map (row_text names s.order) sums_of rows i

    pub matrix_may : (p : (ℕ × ℕ) × OperatorMatrix) → matrix_sequence.may p → IsWrittenMatrix s names p.1
    matrix_may p h =
        let few : length (map sums_of p.1.rows) < number_bound = subst (λ n. n < number_bound) (sym (length-map p.1.rows sums_of ∙ h.1.1.0)) h.0.0 in
        let all = subst (λ n. All (StoredRow n) p.1.rows) (sym h.1.0) h.1.1.1 in
        record { written = record { few_rows = few; few_cols = subst (λ n. n < number_bound) (sym h.1.0) h.0.1; fits = rows_fit p.1.cols p.1.rows all }; of = rows_belong p.1.cols p.1.rows all }

    matrix_text_to : (p : (ℕ × ℕ) × OperatorMatrix) → matrix_sequence.may p → matrix_part names s.order name p.1 ≡ matrix_sequence.text p
    matrix_text_to p h = matrix_lines p.1.cols p.1.rows ∙ (λ i. sizes_line name (h.1.1.0 i) (h.1.0 i) ++ flat_map (stored_row_format s names p.1.cols).text p.1.rows)

    sizes_and_rows : (m : OperatorMatrix) → IsWrittenMatrix s names m → (p : (ℕ × ℕ) × OperatorMatrix) × matrix_sequence.may p × (p.1 ≡ m)
    sizes_and_rows m h = (((length m.rows, m.cols), m), ((subst (λ n. n < number_bound) (length-map m.rows sums_of) h.written.few_rows, h.written.few_cols), (refl, (refl, rows_both m.cols m.rows h.written.fits h.of))), refl)

    pub matrix_makes : Makes matrix_sequence (matrix_format s names name) (λ p. p.1)
    matrix_makes = record { may_to = matrix_may; text_to = matrix_text_to; from = sizes_and_rows }

    abbrev pub matrix_parts : TwoParts (ℕ × ℕ) OperatorMatrix OperatorMatrix
    matrix_parts = record {
      first = sizes_format name;
      second = λ p. rows_format s names p.0 p.1;
      whole = matrix_format s names name;
      to = λ p. p.1;
      first_is = sizes_are name named;
      second_is = λ p h. rows_are p.0 p.1;
      makes = matrix_makes;
    }

    pub matrix_is : IsFormat (matrix_format s names name)
    matrix_is = two_are matrix_parts

    -- the lines of a matrix are one more than its rows
    pub matrix_passed : (old new : Unread) (m : OperatorMatrix) → Finds (matrix_format s names name) old m new → new.at ≡ old.at + suc (length m.rows)
    matrix_passed old new m a =
        let count = line_count-whole (1 + length (rows_of m)) (matrix_part names s.order name m) (whole_matrix name names s.order are named m.cols (rows_of m)) in
        omega (arith, a.at, count, length-map m.rows sums_of)

    -- ---- a row as a matrix

    abbrev row_sequence : Format (ℕ × List Ordered)
    row_sequence = sequence (columns_format name) (stored_row_format s names)

    pub row_width : (p : ℕ × List Ordered) → row_sequence.may p → p.0 ≡ length p.1
    row_width p h = sym h.1.0.width ∙ length-map p.1 (λ (f : Ordered). f.sum)

    pub row_lines : (r : List Ordered) → row_part names s.order name r ≡ sizes_line name 1 (length r) ++ row_text names s.order (sums_of r)
    row_lines r = ap (λ t. sizes_line name 1 (length r) ++ t) (append-nil (row_text names s.order (sums_of r)))

    pub row_makes : Makes row_sequence (row_format s names name) (λ p. p.1)
    row_makes = record {
      may_to = λ p h. record { few = subst (λ n. n < number_bound) (row_width p h) h.0; written = subst (λ n. IsRowOf s names n (sums_of p.1)) (row_width p h) h.1.0; of = h.1.1 };
      text_to = λ p h. row_lines p.1 ∙ ap (λ n. sizes_line name 1 n ++ row_text names s.order (sums_of p.1)) (sym (row_width p h));
      from = λ r h. ((length r, r), (h.few, (h.written, h.of)), refl);
    }

    abbrev pub row_parts : TwoParts ℕ (List Ordered) (List Ordered)
    row_parts = record {
      first = columns_format name;
      second = stored_row_format s names;
      whole = row_format s names name;
      to = λ p. p.1;
      first_is = line_is (λ cols. matrix_words name 1 cols) (λ cols. cols < number_bound) (columns_words name named);
      second_is = λ cols h. stored_row_is cols;
      makes = row_makes;
    }

    pub row_is : IsFormat (row_format s names name)
    row_is = two_are row_parts
