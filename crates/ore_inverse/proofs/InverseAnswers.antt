-- Answers of the search for an inverse, and their certificates.
--     left_kind, right_kind                 these are of a left, or of a right inverse
--     no_left_report, no_right_report       so they are no reports
--     left_answer, right_answer             where a certificate is right and names the first unit row, the answer is true, with
--                                           what shows it
use Rattle.ore_monomial.specs.Signature.{Signature}
use Rattle.ore_blocks.specs.CheckBlock.{RowMatrix}
use Rattle.ore_check.specs.Check.{IsNoReport}
use Rattle.ore_check.specs.PlanLaws.{IsCorrect}
use Rattle.ore_inverse.specs.Inverses.{left_certificate_of, right_certificate_of, IsOfLeftInverse, IsOfRightInverse, NamesFirstUnit, IsLeftInverseAnswer, IsRightInverseAnswer}
use Rattle.ore_inverse.specs.declared.answer.InverseAnswer.{InverseAnswer}
use Rattle.ore_inverse.specs.declared.answer.InverseAnswer.TheVariants.{Found, None}

pub left_kind : (x : InverseAnswer) → IsOfLeftInverse (left_certificate_of x)
left_kind (Found m) = tt
left_kind (None k block) = tt

pub right_kind : (x : InverseAnswer) → IsOfRightInverse (right_certificate_of x)
right_kind (Found m) = tt
right_kind (None k block) = tt

abbrev pub no_left_report : (x : InverseAnswer) → IsNoReport (left_certificate_of x)
no_left_report (Found m) = tt
no_left_report (None k block) = tt

abbrev pub no_right_report : (x : InverseAnswer) → IsNoReport (right_certificate_of x)
no_right_report (Found m) = tt
no_right_report (None k block) = tt

module _ (s : Signature) (r : RowMatrix) where
  pub left_answer : (x : InverseAnswer) → IsCorrect s r (left_certificate_of x) → NamesFirstUnit s r (left_certificate_of x) → IsLeftInverseAnswer s r x
  left_answer (Found m) right first = (right.of, right.valid)
  left_answer (None k block) right first = (right.means, first, right.of.1, right.valid.1)

  pub right_answer : (x : InverseAnswer) → IsCorrect s r (right_certificate_of x) → NamesFirstUnit s r (right_certificate_of x) → IsRightInverseAnswer s r x
  right_answer (Found m) right first = (right.of, right.valid)
  right_answer (None k block) right first = (right.means, first, right.of.1, right.valid.1)
