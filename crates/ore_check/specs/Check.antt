-- The conditions of a certificate, place by place, and the answer of the check, by the lines of its text.
-- (Torsion and parametrisations of linear systems: Chyzak, Quadrat and Robertz 2005; extension modules: Robertz 2014.)
--     IsNoReport                 the certificate claims something of a matrix
--     check_links                the links of a resolution, each on the matrix before it
--     adjoints_of                the transposed adjoints of the last two matrices of a resolution
--     check                      all conditions of a certificate
--     capped                     a line, as a number below 2^64
--     answer_at, answer_of       the answer: valid, or the first line that isn't right
--     Answers                    what was answered, where there was memory
use Rattle.std.specs.Prelude.{◌≡◌, ℕ, suc, not, ◌&&◌, nat_eq, nat_lt, nat_le, cond, List, [], ◌∷◌, length}
use Rattle.std.specs.declared.result.Result.TheVariants.{Ok, Err}
use Rattle.ore_algebra.specs.Free.{empty_sum}
use Rattle.ore_algebra.specs.Limits.{Limits}
use Rattle.ore_algebra.specs.Limits as cause
use Rattle.ore_rational.specs.Field.{rationals}
use Rattle.ore_monomial.specs.Monomial.{plain_cmp}
use Rattle.ore_monomial.specs.Signature.{Signature}
use Rattle.ore_rows.specs.Rows.{unit_row, identity_rows}
use Rattle.ore_rows.specs.RowsWithin.{scale_within, combine_within, matrix_times_within}
use Rattle.ore_rows.specs.Stored.{sums_of, rows_of}
use Rattle.ore_parts.specs.declared.block.Link.{Link}
use Rattle.ore_cert.specs.declared.certificate.Side.TheVariants.{Left, Right}
use Rattle.ore_cert.specs.declared.certificate.Certificate.{Certificate}
use Rattle.ore_cert.specs.declared.certificate.Certificate.TheVariants.{Controllable, AutonomousElement, LeftInverse, RightInverse, NoLeftInverse, NoRightInverse, Kernel, Resolution, ExtZero, ExtNonzero, Halted}
use Rattle.ore_blocks.specs.declared.place.Section.TheVariants as section
use Rattle.ore_blocks.specs.declared.place.Name.TheVariants.{Generators, Inverse, Element, Cofactor}
use Rattle.ore_blocks.specs.declared.place.Place.{Place}
use Rattle.ore_blocks.specs.declared.place.Place.TheVariants as place
use Rattle.ore_blocks.specs.declared.reason.Reason.TheVariants as reason
use Rattle.ore_check.specs.declared.answer.Checked.{Checked as Answer}
use Rattle.ore_check.specs.declared.answer.Checked.TheVariants as answer
use Rattle.ore_blocks.specs.Conditions.{Checked, Trouble, Fails, Stops, formed, required, is_same}
use Rattle.ore_algebra.specs.Results.{◌>>=◌}
use Rattle.ore_blocks.specs.CheckBlock.{RowMatrix, row_matrix_of, rows_give, are_zero, check_exact, check_outside}
use Rattle.ore_blocks.specs.KernelCourse.{transposed_adjoint_within}
use Rattle.ore_blocks.specs.PlaceConditions.{same_row, same_rows}
use Rattle.ore_blocks.specs.Same.{operator_discrete}

-- a report claims nothing of a matrix, and is out of the domain of the check
abbrev pub IsNoReport : Certificate → Type 0
IsNoReport (Halted report) = ⊥
IsNoReport certificate = Unit {0}

module _ (l : Limits) (s : Signature) where
  -- the links from number i on: what takes the matrix of each to zeros is the row module of the next; the last two matrices
  unfoldable pub check_links : ℕ → RowMatrix → RowMatrix → List Link → Checked (RowMatrix × RowMatrix)
  check_links i before r [] = Ok (before, r)
  check_links i before r (k ∷ ks) = do
    _ ← required (place.Header (section.Link i) Generators) reason.Shape (nat_eq k.l.cols (length r.rows))
    _ ← check_exact l s (section.Link i) r (row_matrix_of k.l) k.block
    check_links (suc i) r (row_matrix_of k.l) ks

  -- the adjoints of the last two matrices of a resolution, the last first
  unfoldable pub adjoints_of : RowMatrix × RowMatrix → Checked (RowMatrix × RowMatrix)
  adjoints_of pair = do
    after ← formed (place.Block section.Body) (transposed_adjoint_within l s pair.1)
    before ← formed (place.Block section.Body) (transposed_adjoint_within l s pair.0)
    Ok (after, before)

  -- r is the matrix of the problem
  unfoldable pub check : RowMatrix → (c : Certificate) → IsNoReport c → Checked (Unit {0})
  check r (Controllable q block) claims = do
    _ ← required (place.Header section.Body Generators) reason.Shape (nat_eq (length q.rows) r.cols)
    check_exact l s section.Body (row_matrix_of q) r block
  check r (AutonomousElement element operator cofactor block) claims = do
    _ ← required (place.Header section.Body Element) reason.Shape (nat_eq (length element) r.cols)
    _ ← required place.Operator reason.ZeroOperator (not (is_same operator_discrete operator.sum (empty_sum rationals plain_cmp)))
    _ ← required (place.Header section.Body Cofactor) reason.Shape (nat_eq (length cofactor) (length r.rows))
    left ← formed (place.Row section.Body Cofactor 0) (scale_within l s operator.sum (sums_of element))
    right ← formed (place.Row section.Body Cofactor 0) (combine_within l s r.cols (sums_of cofactor) r.rows)
    _ ← required (place.Row section.Body Cofactor 0) reason.Cofactor (same_row left right)
    check_outside l s r (sums_of element) block
  check r (LeftInverse m) claims = do
    _ ← required (place.Header section.Body Inverse) reason.Shape (nat_eq (length m.rows) r.cols && nat_eq m.cols (length r.rows))
    rows_give l s reason.Identity r.cols r.rows section.Body Inverse 0 (rows_of m) (identity_rows rationals r.cols)
  check r (RightInverse m) claims = do
    _ ← required (place.Header section.Body Inverse) reason.Shape (nat_eq (length m.rows) r.cols && nat_eq m.cols (length r.rows))
    product ← formed place.End (matrix_times_within l s m.cols r.rows (rows_of m))
    required place.End reason.Identity (same_rows product (identity_rows rationals (length r.rows)))
  check r (NoLeftInverse unit block) claims = do
    _ ← required place.Unit reason.Unit (nat_lt unit r.cols)
    check_outside l s r (unit_row rationals r.cols unit) block
  check r (NoRightInverse unit block) claims = do
    _ ← required place.Unit reason.Unit (nat_lt unit (length r.rows))
    adjoint ← formed (place.Block section.Body) (transposed_adjoint_within l s r)
    check_outside l s adjoint (unit_row rationals (length r.rows) unit) block
  check r (Kernel Left generators block) claims = do
    _ ← required (place.Header section.Body Generators) reason.Shape (nat_eq generators.cols (length r.rows))
    check_exact l s section.Body r (row_matrix_of generators) block
  check r (Kernel Right generators block) claims = do
    _ ← required (place.Header section.Body Generators) reason.Shape (nat_eq (length generators.rows) r.cols)
    adjoint ← formed (place.Block section.Body) (transposed_adjoint_within l s r)
    generators_adjoint ← formed (place.Block section.Body) (transposed_adjoint_within l s (row_matrix_of generators))
    check_exact l s section.Body adjoint generators_adjoint block
  check r (Resolution links) claims = do
    _ ← check_links 0 r r links
    Ok tt
  check r (ExtZero links block) claims = do
    last ← check_links 0 r r links
    adjoint ← adjoints_of last
    check_exact l s section.Body adjoint.0 adjoint.1 block
  check r (ExtNonzero links element block) claims = do
    last ← check_links 0 r r links
    _ ← required (place.Header section.Body Element) reason.Shape (nat_eq (length element) (length last.0.rows))
    adjoint ← formed (place.Row section.Body Element 0) (transposed_adjoint_within l s last.1)
    product ← formed (place.Row section.Body Element 0) (combine_within l s adjoint.cols (sums_of element) adjoint.rows)
    _ ← required (place.Row section.Body Element 0) reason.NotInKernel (are_zero l s (product ∷ []))
    adjoint_before ← formed (place.Block section.Body) (transposed_adjoint_within l s last.0)
    check_outside l s adjoint_before (sums_of element) block
  check r (Halted report) claims = absurd claims

-- ---- the answer

-- a line past 2^64 - 1 is given as 2^64 - 1
abbrev pub capped : ℕ → ℕ
capped n = cond (nat_le n 18446744073709551615) n 18446744073709551615

-- the line with the reason of a condition that fails, or the cause of an operation that stops
abbrev pub answer_at : ℕ → Trouble → Answer
answer_at line (Fails why) = answer.Invalid (capped line) why
answer_at line (Stops cause.Overflow) = answer.Overflow (capped line)
answer_at line (Stops cause.Degree) = answer.Degree (capped line)

-- valid where each place is right, else the line of the first that isn't
abbrev pub answer_of : (Place → ℕ) → Checked (Unit {0}) → Answer
answer_of line (Ok x) = answer.Valid
answer_of line (Err failing) = answer_at (line failing.place) failing.trouble

-- by the lines of the places; of want of memory nothing is said
abbrev pub Answers : (Place → ℕ) → Answer → Checked (Unit {0}) → Type 0
Answers line answer.Memory checked = Unit {0}
Answers line given checked = given ≡ answer_of line checked
