-- Plan analyse, part by part.
--     IsVerdict             a certificate says that there is no torsion, or gives an autonomous element
--     controllable_of       the certificate that there is no torsion
--     element_of            that of an autonomous element
--     verdict_course        what is left of the plan once the kernel rows are reduced
use Rattle.std.specs.Prelude.{List, length}
use Rattle.ore_algebra.specs.Limits.{program}
use Rattle.ore_rational.specs.Field.{rationals}
use Rattle.ore_monomial.specs.Signature.{Signature}
use Rattle.ore_ring.specs.Ordered.{Ordered}
use Rattle.ore_rows.specs.ReduceRows.{Reductions, AllReduce, LeavesRest}
use Rattle.ore_rows.specs.Stored.{OperatorMatrix, sums_of}
use Rattle.ore_pairs.specs.Run.{RunState}
use Rattle.ore_cert.specs.declared.certificate.Certificate.{Certificate}
use Rattle.ore_cert.specs.declared.certificate.Certificate.TheVariants.{Controllable, AutonomousElement}
use Rattle.ore_blocks.specs.BlockOfRun.{exact_block_of}
use Rattle.ore_blocks.specs.CheckBlock.{RowMatrix, row_matrix_of}
use Rattle.ore_blocks.specs.KernelCourse.{RunCourse}
use Rattle.ore_groebner.specs.Courses.{last_of}
use Rattle.ore_groebner.specs.declared.outcome.Finished.{Finished}
use Rattle.ore_check.specs.Plans.{stored, first_nonzero, certified, autonomous_element, autonomous}

-- one of the two
abbrev pub IsVerdict : Certificate → Type 0
IsVerdict (Controllable q block) = Unit {0}
IsVerdict (AutonomousElement element operator cofactor block) = Unit {0}
IsVerdict other = ⊥

module _ (s : Signature) where
  -- by the run f on q, whose syzygies are these combinations of the rows of the matrix
  abbrev pub controllable_of : OperatorMatrix → Finished → RowMatrix → Certificate
  controllable_of q f combinations = Controllable q (exact_block_of s (row_matrix_of q) (last_of f) combinations)

  -- z is outside by the run f on r; one of the rows, which take z above r to zeros, gives its operator
  abbrev pub element_of : RowMatrix → Finished → List Ordered → RowMatrix → Certificate
  element_of r f z syzygies = autonomous_element s r (last_of f) (sums_of z) (first_nonzero (length r.rows) syzygies.rows)

  -- the rows that take q to zeros are the syzygies of the run that ends in c; by the run on r that ends in a they were
  -- reduced
  abbrev pub verdict_course : RowMatrix → RunState rationals → RowMatrix → RunState rationals → Reductions rationals → RunCourse Certificate
  verdict_course r a q c elements = elim elements [
    | AllReduce combinations ↦ certified program s r (Controllable (stored s q) (exact_block_of s q c (record { cols = length r.rows; rows = combinations }))) tt
    | LeavesRest n w ↦ autonomous program s r a w.row
  ]
