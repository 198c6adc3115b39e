-- Resolutions and extension modules, as the code has them.
--     resolution_of      the resolution that links of a matrix are: the last two matrices stand before and in the last link
--     link_of            the link that the last state of a run makes
--     IsNextLink         the choices given since lead a run to the state that makes this link
--     run_on_adjoint     a run on the transposed adjoint of a matrix
--     IsResolutionOf     a certificate with so many links
--     IsExtensionOf      a certificate of the extension module at this place
use Rattle.std.specs.Prelude.{◌≡◌, ℕ, ◌-◌, Bool, List, length}
use Rattle.ore_algebra.specs.Limits.{program}
use Rattle.ore_course.specs.Course.{Done, ◌>>=◌, forced}
use Rattle.ore_rational.specs.Field.{rationals}
use Rattle.ore_monomial.specs.Signature.{Signature}
use Rattle.ore_rows.specs.BasisLeads.{BasisLeads}
use Rattle.ore_rows.specs.Stored.{OperatorMatrix}
use Rattle.ore_rows.specs.declared.choices.Choice.{Choice}
use Rattle.ore_pairs.specs.Run.{RunState}
use Rattle.ore_parts.specs.declared.block.Link.{Link}
use Rattle.ore_cert.specs.declared.certificate.Certificate.{Certificate}
use Rattle.ore_cert.specs.declared.certificate.Certificate.TheVariants.{Resolution as Resolved, ExtZero, ExtNonzero}
use Rattle.ore_blocks.specs.CheckBlock.{RowMatrix, row_matrix_of}
use Rattle.ore_blocks.specs.KernelCourse.{RunCourse, syzygies_of, kernel_block, run_on, transposed_adjoint_within}
use Rattle.ore_groebner.specs.Courses.{FollowsTo}
use Rattle.ore_check.specs.InnerContracts.{matrix_before}
use Rattle.ore_check.specs.Plans.{Resolution, stored}

-- of the matrix r
abbrev pub resolution_of : OperatorMatrix → List Link → Resolution
resolution_of r ks = record { links = ks; before = row_matrix_of (matrix_before r ks (length ks - 1)); last = row_matrix_of (matrix_before r ks (length ks)) }

-- it has so many links
abbrev pub IsResolutionOf : ℕ → Certificate → Type 0
IsResolutionOf n (Resolved links) = length links ≡ n
IsResolutionOf n other = ⊥

-- the module at this place is zero, or it isn't
abbrev pub IsExtensionOf : ℕ → Certificate → Type 0
IsExtensionOf n (ExtZero links block) = length links ≡ n
IsExtensionOf n (ExtNonzero links element block) = length links ≡ n
IsExtensionOf n other = ⊥

module _ (s : Signature) where
  -- its matrix has the syzygies of the run as rows
  abbrev pub link_of : RowMatrix → RunState rationals → Link
  link_of a st = record { l = stored s (syzygies_of a st); block = kernel_block s a st }

  -- on the matrix before it
  abbrev pub IsNextLink : (BasisLeads → List (ℕ × ℕ) → Choice → Bool) → (BasisLeads → List (ℕ × ℕ) → Bool) → RowMatrix → (before given : List (List Choice)) → Link → Type 0
  IsNextLink allows allows_spent a before given k = (st : RunState rationals) × FollowsTo s allows allows_spent (run_on program s a) before given st × (k ≡ link_of a st)

  -- a run on the transposed adjoint of a matrix, and its last state
  unfoldable pub run_on_adjoint : RowMatrix → RunCourse (RowMatrix × RunState rationals)
  run_on_adjoint m = do
    adjoint ← forced (transposed_adjoint_within program s m)
    last ← run_on program s adjoint
    Done (adjoint, last)
