-- The transposed adjoint of an inverse that the code has formed.
--     adjoint_is          what it has formed is the transposed adjoint
--     turned_found, turned_stops     an answer with an inverse is turned, or forming this has stopped
--     first_turned        an answer without one names the first unit row still
use Rattle.std.proofs.Common.{◌≡◌, ℕ, length, refl, sym, ap, ◌∙◌, subst}
use Rattle.std.specs.List.{All}
use Rattle.std.specs.declared.result.Result.{Result}
use Rattle.std.specs.declared.result.Result.TheVariants.{Ok, Err}
use Rattle.ore_algebra.specs.Limits.{Cause, program}
use Rattle.ore_algebra.proofs.ResultLaws.{same_ok, no_ok}
use Rattle.ore_monomial.specs.Gives.{Fails}
use Rattle.ore_monomial.specs.Signature.{Signature}
use Rattle.ore_monomial.proofs.Stops.{fails_like}
use Rattle.ore_monomial.specs.declared.stop.RingStop.{RingStop}
use Rattle.ore_ring.specs.Belongs.{Belongs}
use Rattle.ore_rows.specs.Stored.{OperatorMatrix, rows_of}
use Rattle.ore_adjoint.specs.AdjointMatrix.{transpose_adjoint_within}
use Rattle.ore_blocks.specs.CheckBlock.{RowMatrix, row_matrix_of}
use Rattle.ore_blocks.specs.KernelCourse.{transposed_adjoint_within}
use Rattle.ore_blocks.proofs.TransposedAdjoints.{adjoint_gives, adjoint_stop}
use Rattle.ore_check.specs.Meaning.{transposed_adjoint}
use Rattle.ore_check.specs.Plans.{stored}
use Rattle.ore_check.proofs.FormedKernels.{adjoint_value as formed_adjoint}
use Rattle.ore_inverse.specs.Inverses.{left_certificate_of, right_certificate_of, NamesFirstUnit}
use Rattle.ore_inverse.specs.Search.{found_within, turned}
use Rattle.ore_inverse.specs.declared.answer.InverseAnswer.{InverseAnswer}
use Rattle.ore_inverse.specs.declared.answer.InverseAnswer.TheVariants.{Found, None}
use Rattle.ore_inverse.proofs.FoundInverses.{stored_is}

module _ (s : Signature) where
  pub adjoint_is : (r a : OperatorMatrix) → a.cols ≡ length r.rows → transpose_adjoint_within program s r.cols (rows_of r) ≡ Ok (rows_of a) → row_matrix_of a ≡ transposed_adjoint s (row_matrix_of r)
  adjoint_is r a cols formed = formed_adjoint s (row_matrix_of r) (row_matrix_of a) (adjoint_gives s r (Ok a) cols formed)

  module _ (x : InverseAnswer) (m : OperatorMatrix) (is : x ≡ Found m) where
    pub turned_found : (t : OperatorMatrix) → t.cols ≡ length m.rows → All (All (Belongs s)) t.rows → transpose_adjoint_within program s m.cols (rows_of m) ≡ Ok (rows_of t) → turned s x ≡ Ok (Found t)
    turned_found t cols of formed =
        ap (turned s) is ∙ ap (found_within s) (adjoint_gives s m (Ok t) cols formed) ∙ ap (λ (t : OperatorMatrix). Ok (Found t)) (stored_is s t t.cols of refl)

    pub turned_stops : (e : RingStop) → Fails e (transpose_adjoint_within program s m.cols (rows_of m)) → Fails e (turned s x)
    turned_stops e fails =
        subst (λ (x : InverseAnswer). Fails e (turned s x)) (sym is) (fails_like e (transposed_adjoint_within program s (row_matrix_of m)) (turned s (Found m)) (λ c stopped. ap (found_within s) stopped) (adjoint_stop s (row_matrix_of m) e fails))

  found_first : (r : RowMatrix) (formed : Result RowMatrix Cause) (y : InverseAnswer) → found_within s formed ≡ Ok y → NamesFirstUnit s r (right_certificate_of y)
  found_first r (Ok t) y e = subst (λ (y : InverseAnswer). NamesFirstUnit s r (right_certificate_of y)) (same_ok (Found (stored s t)) y e) tt
  found_first r (Err cause) y e = absurd (no_ok e)

  pub first_turned : (r : RowMatrix) (x y : InverseAnswer) → turned s x ≡ Ok y → NamesFirstUnit s (transposed_adjoint s r) (left_certificate_of x) → NamesFirstUnit s r (right_certificate_of y)
  first_turned r (Found m) y e first = found_first r (transposed_adjoint_within program s (row_matrix_of m)) y e
  first_turned r (None k block) y e first = subst (λ (y : InverseAnswer). NamesFirstUnit s r (right_certificate_of y)) (same_ok (None k block) y e) first
