-- A right certificate in range, whose steps aren't zero, may be written: its conditions bound each place by a length.
--     place_within                   a place below a length that is in range
--     operator_written, row_written, matrix_written     parts of the signature in range
--     step_written, steps_written    steps that name rows of a basis
--     entries_written                the list of the pairs of a basis
--     exact_written, outside_written     valid blocks
--     links_written, links_end       valid links, and what is known of the last two matrices
--     right_may_be_written           the law
use Rattle.std.proofs.Common.{◌≡◌, ℕ, suc, ◌<◌, List, [], ◌∷◌, length, map, refl, sym, subst, ◌∙◌, arith}
use Rattle.std.specs.List.{All, AllByRecursion}
use Rattle.std.proofs.ByRecursion as recursion
use Rattle.std.proofs.lemmas.List.{length-map}
use Rattle.std.proofs.lemmas.List.Elements.{All-nil, All-cons, All-head, All-tail}
use Rattle.ore_rational.specs.Field.{rationals}
use Rattle.ore_monomial.specs.Signature.{Signature, MonomialOf}
use Rattle.ore_monomial.specs.Term.{Term}
use Rattle.ore_ring.specs.Belongs.{Belongs}
use Rattle.ore_ring.specs.Ordered.{Ordered}
use Rattle.ore_ring.specs.Terms.{falling}
use Rattle.ore_ring.proofs.Falls.{single_falling}
use Rattle.ore_text.specs.CanonicalParts.{IsPrintableTerm}
use Rattle.ore_text.specs.Names.{AreNames}
use Rattle.ore_text.specs.Printable.{IsStorable, IsPrintable}
use Rattle.ore_text.proofs.PrintableTerms.{variables_of, storable_of}
use Rattle.ore_rows.specs.Rows.{Row, zero_row, unit_row, combine}
use Rattle.ore_rows.specs.Reduction.{Step, step_operator}
use Rattle.ore_rows.specs.Stored.{OperatorMatrix, HasColumns, sums_of, rows_of}
use Rattle.ore_pairs.specs.PairList.{DealtPair, AreLawful, IsBelowStep, pairs_of}
use Rattle.ore_pairs.specs.PairList as listed
use Rattle.ore_pairs.specs.Steps.{lcm_of_leads}
use Rattle.ore_pairs.proofs.CompleteStates.{treat_within}
use Rattle.ore_pairs.proofs.PairRuleLaws.{skip_from}
use Rattle.ore_parts.specs.CertificateText.{number_bound, IsRowOf}
use Rattle.ore_parts.specs.BlockText.{is_place, IsWrittenStep, IsWrittenSteps, IsWrittenEntry, IsWrittenMatrix, IsWrittenRow, IsWrittenExact, IsWrittenOutside}
use Rattle.ore_parts.specs.EachPart.{ExactMeets, OutsideMeets, LinkMeets}
use Rattle.ore_parts.specs.OfSignature.{MatrixOf, AreStoredStepsOf, IsEntryOf, IsExactOf, IsOutsideOf, IsLinkOf}
use Rattle.ore_parts.specs.declared.block.PairEntry.{PairEntry}
use Rattle.ore_parts.specs.declared.block.PairEntry.TheVariants.{Pair, Skip}
use Rattle.ore_parts.specs.declared.block.ExactBlock.{ExactBlock}
use Rattle.ore_parts.specs.declared.block.OutsideBlock.{OutsideBlock}
use Rattle.ore_parts.specs.declared.block.Link.{Link}
use Rattle.ore_cert.specs.declared.certificate.Side.TheVariants.{Left, Right}
use Rattle.ore_cert.specs.declared.certificate.Certificate.{Certificate}
use Rattle.ore_cert.specs.declared.certificate.Certificate.TheVariants.{Controllable, AutonomousElement, LeftInverse, RightInverse, NoLeftInverse, NoRightInverse, Kernel, Resolution, ExtZero, ExtNonzero, Halted}
use Rattle.ore_cert.specs.CertificateOf.{IsCertificateOf}
use Rattle.ore_cert.specs.Storable.{IsStorableStep, AreStorableSteps, IsStorableEntry, IsStorableRow, IsStorableMatrix, IsStorableExact, IsStorableOutside, IsStorableLink, IsStorableCertificate}
use Rattle.ore_cert.specs.WholeText.{IsWrittenOperator, IsWrittenLink, IsWrittenCertificate}
use Rattle.ore_blocks.specs.CheckBlock.{RowMatrix, row_matrix_of, dealt_pairs}
use Rattle.ore_blocks.specs.Valid.{IsValidExactFor, IsValidOutsideFor}
use Rattle.ore_check.specs.Meaning.{transposed_adjoint}
use Rattle.ore_check.specs.NonZeroSteps.{IsNonZeroStep, IsNonZeroEntry, nonzero, HasNonZeroSteps}
use Rattle.ore_check.specs.Valid.{AreValidLinks, IsValid}
use Rattle.ore_check.specs.Written.{RightMayBeWritten}

place_within : (k n bound : ℕ) → k < n → n < bound → suc k < bound
place_within k n bound low few = omega (arith, low, few)

module _ (s : Signature) (names : List (List ℕ)) (are : AreNames names) (fit : length names ≡ length s.kinds) where
  -- ---- matrices and rows

  printable : (f : Ordered) → Belongs s f → IsStorable f.sum → IsPrintable s names f.sum
  printable f of h = record { names_fit = are; count = fit; variables = of.variables; storable = h }

  operator_written : (f : Ordered) → Belongs s f → IsStorable f.sum → IsWrittenOperator s names f
  operator_written f of h = record { written = printable f of h; of = of }

  each_printable : (r : List Ordered) → All (Belongs s) r → All (λ f. IsStorable f.sum) r → AllByRecursion (IsPrintable s names) (sums_of r)
  each_printable [] of h = tt
  each_printable (f ∷ r) of h = (printable f (All-head (Belongs s) f r of) (All-head (λ (f : Ordered). IsStorable f.sum) f r h), each_printable r (All-tail (Belongs s) f r of) (All-tail (λ (f : Ordered). IsStorable f.sum) f r h))

  row_of : (cols : ℕ) (r : List Ordered) → length r ≡ cols → All (Belongs s) r → IsStorableRow r → IsRowOf s names cols (sums_of r)
  row_of cols r width of h = record { width = length-map r (λ (f : Ordered). f.sum) ∙ width; entries = each_printable r of h.all }

  rows_written : (cols : ℕ) (rows : List (List Ordered)) → HasColumns cols rows → All (All (Belongs s)) rows → All IsStorableRow rows → AllByRecursion (IsRowOf s names cols) (map sums_of rows)
  rows_written cols [] widths of h = tt
  rows_written cols (r ∷ rows) widths of h = (
    row_of cols r (All-head (λ (r : List Ordered). length r ≡ cols) r rows widths) (All-head (All (Belongs s)) r rows of) (All-head IsStorableRow r rows h),
    rows_written cols rows (All-tail (λ (r : List Ordered). length r ≡ cols) r rows widths) (All-tail (All (Belongs s)) r rows of) (All-tail IsStorableRow r rows h),
  )

  matrix_written : (m : OperatorMatrix) → MatrixOf s m → IsStorableMatrix m → IsWrittenMatrix s names m
  matrix_written m of h = record {
    written = record {
      few_rows = subst (λ n. n < number_bound) (sym (length-map m.rows sums_of)) h.few_rows;
      few_cols = h.few_cols;
      fits = rows_written m.cols m.rows of.columns of.of h.all;
    };
    of = of.of;
  }

  row_written : (r : List Ordered) → All (Belongs s) r → IsStorableRow r → IsWrittenRow s names r
  row_written r of h = record { few = h.few; written = row_of (length r) r refl of h; of = of }

  -- ---- steps and pairs

  step_written : (t : Step rationals) → is_place t.index → MonomialOf s t.monomial → IsNonZeroStep t → IsStorableStep t → IsWrittenStep s names t
  step_written t index of number h =
      let each : AllByRecursion (IsPrintableTerm s) (falling s.order (step_operator rationals t)) = subst (AllByRecursion (IsPrintableTerm s)) (sym (single_falling s.order t.monomial t.number number)) (record { variables = of; storable = h }, tt) in
      record {
        index = index;
        number = number;
        term = record { names_fit = are; count = fit; variables = variables_of s (step_operator rationals t) s.order each; storable = storable_of s (step_operator rationals t) s.order each };
      }

  module _ (leads : List Term) (few : length leads < number_bound) where
    abbrev IsWithin : Step rationals → Type 0
    IsWithin t = t.index < length leads

    abbrev OfSignature : Step rationals → Type 0
    OfSignature t = MonomialOf s t.monomial

    place_written : (k : ℕ) → k < length leads → is_place k
    place_written k low = place_within k (length leads) number_bound low few

    each_written : (steps : List (Step rationals)) → AllByRecursion IsWithin steps → AreStoredStepsOf s steps → AllByRecursion IsNonZeroStep steps → All IsStorableStep steps → All (IsWrittenStep s names) steps
    each_written [] low of number h = All-nil (IsWrittenStep s names)
    each_written (t ∷ steps) low of number h =
        All-cons (IsWrittenStep s names) t steps (step_written t (place_written t.index low.0) (All-head OfSignature t steps of) number.0 (All-head IsStorableStep t steps h))
        (each_written steps low.1 (All-tail OfSignature t steps of) number.1 (All-tail IsStorableStep t steps h))

    steps_written : (steps : List (Step rationals)) → AllByRecursion IsWithin steps → AreStoredStepsOf s steps → AllByRecursion IsNonZeroStep steps → AreStorableSteps steps → IsWrittenSteps s names steps
    steps_written steps low of number h = record { few = h.few; all = each_written steps low of number h.all }

    entries_written : (n : ℕ) (basis : List (Row rationals)) (before : List (DealtPair rationals)) (pairs : List PairEntry) → AreLawful rationals s s.order n basis leads before (dealt_pairs pairs) → All (IsEntryOf s) pairs → AllByRecursion IsNonZeroEntry pairs → All IsStorableEntry pairs → All (IsWrittenEntry s names) pairs
    entries_written n basis before [] lawful of number h = All-nil (IsWrittenEntry s names)
    entries_written n basis before (Pair i j steps ∷ pairs) lawful of number h =
        let both = treat_within leads (pairs_of before) i j lawful.0.0 in
        let low = recursion.All-weaker (IsBelowStep rationals s.order leads (lcm_of_leads leads i j)) IsWithin (λ t h. h.within) steps lawful.0.1.low in
        All-cons (IsWrittenEntry s names) (Pair i j steps) pairs
        (place_written i both.0, place_written j both.1, steps_written steps low (All-head (IsEntryOf s) (Pair i j steps) pairs of) number.0 (All-head IsStorableEntry (Pair i j steps) pairs h))
        (entries_written n basis (listed.Pair i j steps ∷ before) pairs lawful.1 (All-tail (IsEntryOf s) (Pair i j steps) pairs of) number.1 (All-tail IsStorableEntry (Pair i j steps) pairs h))
    entries_written n basis before (Skip i j via ∷ pairs) lawful of number h =
        let both = treat_within leads (pairs_of before) i j lawful.0.0 in
        let third = (skip_from leads (pairs_of before) i j via lawful.0.1).within in
        All-cons (IsWrittenEntry s names) (Skip i j via) pairs (place_written i both.0, place_written j both.1, place_written via third)
        (entries_written n basis (listed.Skip i j via ∷ before) pairs lawful.1 (All-tail (IsEntryOf s) (Skip i j via) pairs of) number.1 (All-tail IsStorableEntry (Skip i j via) pairs h))

  -- ---- blocks and links

  few_leads : (leads : List Term) (m : OperatorMatrix) → length leads ≡ length (rows_of m) → IsStorableMatrix m → length leads < number_bound
  few_leads leads m long h = subst (λ n. n < number_bound) (sym (long ∙ length-map m.rows sums_of)) h.few_rows

  exact_written : (a m : RowMatrix) (b : ExactBlock) → IsExactOf s b → IsValidExactFor s a m b → ExactMeets nonzero b → IsStorableExact b → IsWrittenExact s names b
  exact_written a m b of v number h =
      let leads = v.valid.leads in
      let few = few_leads leads b.basis v.valid.is_basis.monic.long h.basis in
      record {
        basis = matrix_written b.basis of.basis h.basis;
        from = matrix_written b.from of.from h.from;
        to = matrix_written b.to of.to h.to;
        pairs = record { few = h.pairs.few; all = entries_written leads few a.cols (rows_of b.basis) [] b.pairs v.valid.is_basis.lawful of.pairs number.pairs h.pairs.all };
        inside = matrix_written b.inside of.inside h.inside;
      }

  outside_written : (a : RowMatrix) (w : Row rationals) (b : OutsideBlock) → IsOutsideOf s b → IsValidOutsideFor s a w b → OutsideMeets nonzero b → IsStorableOutside b → IsWrittenOutside s names b
  outside_written a w b of v number h =
      let leads = v.valid.leads in
      let few = few_leads leads b.basis v.valid.is_basis.monic.long h.basis in
      record {
        basis = matrix_written b.basis of.basis h.basis;
        from = matrix_written b.from of.from h.from;
        pairs = record { few = h.pairs.few; all = entries_written leads few a.cols (rows_of b.basis) [] b.pairs v.valid.is_basis.lawful of.pairs number.pairs h.pairs.all };
        quotients = steps_written leads few b.quotients v.valid.steps_within of.quotients number.quotients h.quotients;
        rest = row_written b.rest of.rest h.rest;
      }

  -- a place below the columns of a matrix, which are those of the basis of its block
  column_written : (k cols : ℕ) (b : OutsideBlock) → k < cols → b.basis.cols ≡ cols → IsStorableOutside b → is_place k
  column_written k cols b low same h = place_within k cols number_bound low (subst (λ n. n < number_bound) same h.basis.few_cols)

  module _ (P : RowMatrix → RowMatrix → Type 0) where
    links_written : (before r : RowMatrix) (links : List Link) → AreValidLinks s before r links P → All (IsLinkOf s) links → AllByRecursion (LinkMeets nonzero) links → All IsStorableLink links → All (IsWrittenLink s names) links
    links_written before r [] v of number h = All-nil (IsWrittenLink s names)
    links_written before r (k ∷ links) v of number h =
        let own = All-head (IsLinkOf s) k links of in
        let fits = All-head IsStorableLink k links h in
        All-cons (IsWrittenLink s names) k links (record { l = matrix_written k.l own.l fits.l; block = exact_written r (row_matrix_of k.l) k.block own.block v.1 number.0.block fits.block })
        (links_written r (row_matrix_of k.l) links v.2 (All-tail (IsLinkOf s) k links of) number.1 (All-tail IsStorableLink k links h))

    links_end : (before r : RowMatrix) (links : List Link) → AreValidLinks s before r links P → (x : RowMatrix) × (y : RowMatrix) × P x y
    links_end before r [] v = (before, r, v)
    links_end before r (k ∷ links) v = links_end r (row_matrix_of k.l) links v.2

  -- ---- certificates

  -- what is asked of the last two matrices of a resolution where the extension module is zero, and where it isn't
  abbrev IsZeroEnd : ExactBlock → RowMatrix → RowMatrix → Type 0
  IsZeroEnd block before last = IsValidExactFor s (transposed_adjoint s last) (transposed_adjoint s before) block

  abbrev IsNonzeroEnd : List Ordered → OutsideBlock → RowMatrix → RowMatrix → Type 0
  IsNonzeroEnd element block before last =
      (length element ≡ length before.rows) × (combine rationals s (length last.rows) (sums_of element) (transposed_adjoint s last).rows ≡ zero_row rationals (length last.rows))
      × IsValidOutsideFor s (transposed_adjoint s before) (sums_of element) block

  written_by_kind : (r : RowMatrix) (c : Certificate) → IsCertificateOf s c → IsValid s r c → HasNonZeroSteps c → IsStorableCertificate c → IsWrittenCertificate s names c
  written_by_kind r (Controllable q block) of v number h = (matrix_written q of.0 h.0, exact_written (row_matrix_of q) r block of.1 v.1 number h.1)
  written_by_kind r (AutonomousElement element operator cofactor block) of v number h =
      (row_written element of.0 h.0, operator_written operator of.1 h.1, row_written cofactor of.2 h.2, outside_written r (sums_of element) block of.3 v.4 number h.3)
  written_by_kind r (LeftInverse m) of v number h = matrix_written m of h
  written_by_kind r (RightInverse m) of v number h = matrix_written m of h
  written_by_kind r (NoLeftInverse unit block) of v number h =
      (column_written unit r.cols block v.0 v.1.basis_columns h, outside_written r (unit_row rationals r.cols unit) block of.1 v.1 number h)
  written_by_kind r (NoRightInverse unit block) of v number h =
      (column_written unit (length r.rows) block v.0 v.1.basis_columns h, outside_written (transposed_adjoint s r) (unit_row rationals (length r.rows) unit) block of.1 v.1 number h)
  written_by_kind r (Kernel Left generators block) of v number h = (matrix_written generators of.0 h.0, exact_written r (row_matrix_of generators) block of.1 v.1 number h.1)
  written_by_kind r (Kernel Right generators block) of v number h =
      (matrix_written generators of.0 h.0, exact_written (transposed_adjoint s r) (transposed_adjoint s (row_matrix_of generators)) block of.1 v.1 number h.1)
  written_by_kind r (Resolution links) of v number h = record { count = of.count; all = links_written (λ before last. Unit {0}) r r links v of.all number h }
  written_by_kind r (ExtZero links block) of v number h =
      let last = links_end (IsZeroEnd block) r r links v in (
        record { count = of.0.count; all = links_written (IsZeroEnd block) r r links v of.0.all number.0 h.0 },
        exact_written (transposed_adjoint s last.1) (transposed_adjoint s last.0) block of.1 last.2 number.1 h.1,
      )
  written_by_kind r (ExtNonzero links element block) of v number h =
      let last = links_end (IsNonzeroEnd element block) r r links v in (
        record { count = of.0.count; all = links_written (IsNonzeroEnd element block) r r links v of.0.all number.0 h.0 },
        row_written element of.1 h.1,
        outside_written (transposed_adjoint s last.0) (sums_of element) block of.2 last.2.2 number.1 h.2,
      )
  written_by_kind r (Halted report) of v number h = absurd v

pub right_may_be_written : (s : Signature) → RightMayBeWritten s
right_may_be_written s names are fit r c right number h = written_by_kind s names are fit r c right.of right.valid number h
