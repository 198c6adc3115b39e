-- The plans of the commands: what each does with the matrix r of a problem, in order. A line of a plan is forced work,
-- or a run on the rows of a matrix, whose choices are free. Every plan but that of the adjoint ends with forming the
-- identities of its certificate, in the order of the check.
-- (Parametrisations: Chyzak, Quadrat and Robertz 2005; resolutions and extension modules: Robertz 2014.)
--     stored                        a matrix, with the order of the signature
--     formed_as, certified          a certificate whose identities are formed
--     IsFormed                      a call answers it, or stops as the last work of a plan does
--     reduced                       rows reduced by a complete run
--     kernel_left, kernel_right     the rows that take r to zeros; the columns that r takes to zeros
--     inverse_left, inverse_right   a left or right inverse, or that there is none
--     adjoint_course                the transposed adjoint
--     stacked                       a row above the rows of a matrix
--     first_nonzero                 the first row with a first entry that isn't zero
--     autonomous_element            the certificate of an element outside, by a syzygy of it and the rows of r
--     autonomous, analyse           which of the two verdicts is true
--     Resolution, next_link         a resolution so far, and one link more
--     links, resolution, resolve    so many links; those from r on; their certificate
--     extension_ends, extension     the certificate of an extension module; what plan ext does behind the links
--     ext                           whether an extension module is zero
--     AnswerOf, course_of           the answer of a plan, and the plan by its name
use Rattle.std.specs.Prelude.{ℕ, zero, suc, List, [], ◌∷◌, ◌++◌, length, cond}
use Rattle.std.specs.declared.result.Result.{Result}
use Rattle.std.specs.declared.result.Result.TheVariants.{Ok, Err}
use Rattle.ore_algebra.specs.Free.{empty_sum}
use Rattle.ore_algebra.specs.Limits.{Limits, Cause, program}
use Rattle.ore_course.specs.Course.{Done, ◌>>=◌, forced}
use Rattle.ore_rational.specs.Field.{rationals}
use Rattle.ore_monomial.specs.Gives.{Gives}
use Rattle.ore_monomial.specs.Monomial.{plain_cmp}
use Rattle.ore_monomial.specs.Signature.{Signature}
use Rattle.ore_monomial.specs.declared.stop.RingStop.{RingStop}
use Rattle.ore_monomial.specs.LetterRule.{Operator}
use Rattle.ore_rows.specs.Rows.{Row, zero_row, identity_rows}
use Rattle.ore_rows.specs.Arithmetic.{within}
use Rattle.ore_rows.specs.ReduceRows.{Reductions, AllReduce, LeavesRest, negated, reduce_rows}
use Rattle.ore_rows.specs.Stored.{OperatorMatrix}
use Rattle.ore_pairs.specs.Run.{RunState}
use Rattle.ore_parts.specs.declared.block.Link.{Link}
use Rattle.ore_cert.specs.declared.certificate.Side.TheVariants.{Left, Right}
use Rattle.ore_cert.specs.declared.certificate.Certificate.{Certificate}
use Rattle.ore_cert.specs.declared.certificate.Certificate.TheVariants.{Controllable, AutonomousElement, LeftInverse, RightInverse, NoLeftInverse, NoRightInverse, Kernel, Resolution as Resolved, ExtZero, ExtNonzero}
use Rattle.ore_cert.specs.declared.report.Plan.{Plan}
use Rattle.ore_cert.specs.declared.report.Plan.TheVariants as plan
use Rattle.ore_blocks.specs.Conditions.{Checked, Fails, Stops, is_same}
use Rattle.ore_blocks.specs.Same.{operator_discrete}
use Rattle.ore_blocks.specs.CheckBlock.{RowMatrix}
use Rattle.ore_blocks.specs.BlockOfRun.{ordered_row, stored_matrix, exact_block_of, outside_block_of}
use Rattle.ore_blocks.specs.KernelCourse.{RunCourse, syzygies_of, kernel_block, run_on, transposed_adjoint_within, right_kernel}
use Rattle.ore_check.specs.Check.{check, IsNoReport}

-- each entry with this order
abbrev pub stored : Signature → RowMatrix → OperatorMatrix
stored s m = stored_matrix s.order m.cols m.rows

-- forming the identities of a certificate stops for the cause of the first operation of its check that stops, where no
-- condition fails before
unfoldable pub formed_as : {X : Type 0} → X → Checked (Unit {0}) → Result X Cause
formed_as c (Ok x) = Ok c
formed_as c (Err failing) = elim failing.trouble [ Fails why ↦ Ok c | Stops cause ↦ Err cause ]

-- a row above the rows of a matrix
abbrev pub stacked : Row rationals → RowMatrix → RowMatrix
stacked z r = record { cols = r.cols; rows = z ∷ r.rows }

-- the first of some rows whose first entry isn't zero: that entry, and the n others; zeros where there is none
unfoldable pub first_nonzero : ℕ → List (Row rationals) → Operator rationals × Row rationals
first_nonzero n [] = (empty_sum rationals plain_cmp, zero_row rationals n)
first_nonzero n ([] ∷ rows) = first_nonzero n rows
first_nonzero n ((f ∷ others) ∷ rows) = cond (is_same operator_discrete f (empty_sum rationals plain_cmp)) (first_nonzero n rows) (f, others)

-- a certificate, or the matrix that plan adjoint answers in its place
abbrev pub AnswerOf : Plan → Type 0
AnswerOf plan.Adjoint = RowMatrix
AnswerOf named = Certificate

-- the links, each with its block, and the last two matrices: each is generated by the syzygies of the one before
pub record Resolution : Type 0 where
  pub links : List Link
  pub before : RowMatrix
  pub last : RowMatrix

module _ (s : Signature) where
  -- as the last work of a plan for the matrix r, within the limits of the program
  abbrev pub IsFormed : RowMatrix → Certificate → Result Certificate RingStop → Type 0
  IsFormed r c result = (claims : IsNoReport c) → Gives (λ c. c) result (formed_as c (check program s r c claims))

  -- the syzygies of a run on the last matrix are the next one
  abbrev pub next_link : Resolution → RunState rationals → Resolution
  next_link so_far a = record {
    links = so_far.links ++ record { l = stored s (syzygies_of so_far.last a); block = kernel_block s so_far.last a } ∷ [];
    before = so_far.last;
    last = syzygies_of so_far.last a;
  }

  -- an element outside, with the block of the run a on r; of a syzygy of it and the rows of r the first entry is its
  -- operator, and the others are the opposites of its cofactors
  abbrev pub autonomous_element : RowMatrix → RunState rationals → Row rationals → Operator rationals × Row rationals → Certificate
  autonomous_element r a z syzygy =
      AutonomousElement (ordered_row s.order z) (record { by = s.order; sum = syzygy.0 }) (ordered_row s.order (negated rationals syzygy.1)) (outside_block_of s r a [] z)

module _ (l : Limits) (s : Signature) where
  -- the certificate of r, once its identities are formed
  abbrev pub certified : RowMatrix → (c : Certificate) → IsNoReport c → RunCourse Certificate
  certified r c claims = forced (formed_as c (check l s r c claims))

  -- by the basis of the last state of a run on a
  abbrev pub reduced : RowMatrix → RunState rationals → List (Row rationals) → Result (Reductions rationals) Cause
  reduced a st rows = reduce_rows rationals s.order (within l s) (length a.rows) st.basis rows

  -- ---- kernels

  unfoldable pub kernel_left : RowMatrix → RunCourse Certificate
  kernel_left r = do
    a ← run_on l s r
    certified r (Kernel Left (stored s (syzygies_of r a)) (kernel_block s r a)) tt

  unfoldable pub kernel_right : RowMatrix → RunCourse Certificate
  kernel_right r = do
    k ← right_kernel l s r
    certified r (Kernel Right (stored s k.generators) (kernel_block s k.adjoint k.last)) tt

  -- ---- inverses

  -- the unit rows are combinations of the rows of r, or one of them isn't
  unfoldable pub inverse_left : RowMatrix → RunCourse Certificate
  inverse_left r = do
    a ← run_on l s r
    units ← forced (reduced r a (identity_rows rationals r.cols))
    elim units [
      | AllReduce combinations ↦ certified r (LeftInverse (stored s (record { cols = length r.rows; rows = combinations }))) tt
      | LeavesRest k w ↦ certified r (NoLeftInverse k (outside_block_of s r a w.steps w.row)) tt
    ]

  -- the same by the transposed adjoint
  unfoldable pub inverse_right : RowMatrix → RunCourse Certificate
  inverse_right r = do
    adjoint ← forced (transposed_adjoint_within l s r)
    a ← run_on l s adjoint
    units ← forced (reduced adjoint a (identity_rows rationals (length r.rows)))
    elim units [
      | AllReduce combinations ↦ do
        inverse ← forced (transposed_adjoint_within l s (record { cols = r.cols; rows = combinations }))
        certified r (RightInverse (stored s inverse)) tt
      | LeavesRest k w ↦ certified r (NoRightInverse k (outside_block_of s adjoint a w.steps w.row)) tt
    ]

  -- ---- the transposed adjoint

  abbrev pub adjoint_course : RowMatrix → RunCourse RowMatrix
  adjoint_course r = forced (transposed_adjoint_within l s r)

  -- ---- the two verdicts

  -- the element z, of which nothing more can be taken by the run a on r: a run on it and the rows of r finds the operator.
  -- Where z takes the right kernel of r to zeros, z is torsion, so some syzygy has a first entry that isn't zero
  unfoldable pub autonomous : RowMatrix → RunState rationals → Row rationals → RunCourse Certificate
  autonomous r a z = do
    d ← run_on l s (stacked z r)
    certified r (autonomous_element s r a z (first_nonzero (length r.rows) d.syzygies)) tt

  -- the columns of q generate what r takes to zeros, and what takes q to zeros is the row module of r, or has an element
  -- outside
  unfoldable pub analyse : RowMatrix → RunCourse Certificate
  analyse r = do
    a ← run_on l s r
    k ← right_kernel l s r
    c ← run_on l s k.generators
    elements ← forced (reduced r a c.syzygies)
    elim elements [
      | AllReduce combinations ↦ certified r (Controllable (stored s k.generators) (exact_block_of s k.generators c (record { cols = length r.rows; rows = combinations }))) tt
      | LeavesRest n w ↦ autonomous r a w.row
    ]

  -- ---- resolutions and extension modules

  -- so many links more
  unfoldable pub links : ℕ → Resolution → RunCourse Resolution
  links zero so_far = Done so_far
  links (suc more) so_far = do
    a ← run_on l s so_far.last
    links more (next_link s so_far a)

  -- from r on, which is the first matrix
  abbrev pub resolution : ℕ → RowMatrix → RunCourse Resolution
  resolution k r = links k (record { links = []; before = r; last = r })

  unfoldable pub resolve : ℕ → RowMatrix → RunCourse Certificate
  resolve k r = do
    resolved ← resolution k r
    certified r (Resolved resolved.links) tt

  -- what is left of the elements decides which certificate it is
  abbrev pub extension_ends : RowMatrix → Resolution → RowMatrix → RunState rationals → RowMatrix → RunState rationals → Reductions rationals → RunCourse Certificate
  extension_ends r resolved last e before f elements = elim elements [
    | AllReduce combinations ↦ certified r (ExtZero resolved.links (exact_block_of s last e (record { cols = length before.rows; rows = combinations }))) tt
    | LeavesRest n w ↦ certified r (ExtNonzero resolved.links (ordered_row s.order w.row) (outside_block_of s before f [] w.row)) tt
  ]

  -- what takes the adjoint of the last matrix to zeros is the row module of that before, or has an element outside
  abbrev pub extension : RowMatrix → Resolution → RunCourse Certificate
  extension r resolved = do
    last ← forced (transposed_adjoint_within l s resolved.last)
    e ← run_on l s last
    before ← forced (transposed_adjoint_within l s resolved.before)
    f ← run_on l s before
    elements ← forced (reduced before f e.syzygies)
    extension_ends r resolved last e before f elements

  unfoldable pub ext : ℕ → RowMatrix → RunCourse Certificate
  ext k r = do
    resolved ← resolution k r
    extension r resolved

  -- ---- by name

  abbrev pub course_of : (named : Plan) → RowMatrix → RunCourse (AnswerOf named)
  course_of plan.Analyse r = analyse r
  course_of plan.KernelLeft r = kernel_left r
  course_of plan.KernelRight r = kernel_right r
  course_of plan.InverseLeft r = inverse_left r
  course_of plan.InverseRight r = inverse_right r
  course_of (plan.Resolve k) r = resolve k r
  course_of (plan.Ext k) r = ext k r
  course_of plan.Adjoint r = adjoint_course r
