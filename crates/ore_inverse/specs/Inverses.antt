-- One-sided inverses of a matrix, and that there is none.
--     left_certificate_of, right_certificate_of     an answer as a certificate of a left or a right inverse
--     IsOfLeftInverse, IsOfRightInverse             a certificate is of such a kind
--     IsFirstOutside                                the first unit row that isn't in the row module of a matrix
--     NamesFirstUnit                                a certificate names such a unit row
--     IsLeftInverseAnswer, IsRightInverseAnswer     what an answer says of a matrix, with what shows it
use Rattle.std.specs.Prelude.{◌≡◌, ℕ, ◌<◌, length}
use Rattle.ore_rational.specs.Field.{rationals}
use Rattle.ore_monomial.specs.Signature.{Signature}
use Rattle.ore_rows.specs.Rows.{unit_row, InRowModule}
use Rattle.ore_parts.specs.OfSignature.{MatrixOf, IsOutsideOf}
use Rattle.ore_cert.specs.declared.certificate.Certificate.{Certificate}
use Rattle.ore_cert.specs.declared.certificate.Certificate.TheVariants.{LeftInverse, RightInverse, NoLeftInverse, NoRightInverse}
use Rattle.ore_blocks.specs.CheckBlock.{RowMatrix, row_matrix_of}
use Rattle.ore_blocks.specs.Valid.{IsValidOutsideFor}
use Rattle.ore_check.specs.Meaning.{IsLeftInverse, IsRightInverse, HasLeftInverse, HasRightInverse, transposed_adjoint}
use Rattle.ore_inverse.specs.declared.answer.InverseAnswer.{InverseAnswer}
use Rattle.ore_inverse.specs.declared.answer.InverseAnswer.TheVariants.{Found, None}

-- of a left inverse, or that there is none
abbrev pub left_certificate_of : InverseAnswer → Certificate
left_certificate_of (Found m) = LeftInverse m
left_certificate_of (None unit block) = NoLeftInverse unit block

-- of a right inverse, or that there is none
abbrev pub right_certificate_of : InverseAnswer → Certificate
right_certificate_of (Found m) = RightInverse m
right_certificate_of (None unit block) = NoRightInverse unit block

-- it gives a left inverse, or says that there is none
abbrev pub IsOfLeftInverse : Certificate → Type 0
IsOfLeftInverse (LeftInverse m) = Unit {0}
IsOfLeftInverse (NoLeftInverse unit block) = Unit {0}
IsOfLeftInverse other = ⊥

-- it gives a right inverse, or says that there is none
abbrev pub IsOfRightInverse : Certificate → Type 0
IsOfRightInverse (RightInverse m) = Unit {0}
IsOfRightInverse (NoRightInverse unit block) = Unit {0}
IsOfRightInverse other = ⊥

module _ (s : Signature) where
  -- unit row k of the matrix isn't in its row module, and those before it are
  pub record IsFirstOutside (a : RowMatrix) (k : ℕ) : Type 0 where
    pub within : k < a.cols
    pub before : (j : ℕ) → j < k → InRowModule rationals s a.cols a.rows (unit_row rationals a.cols j)
    pub outside : ¬ InRowModule rationals s a.cols a.rows (unit_row rationals a.cols k)

  -- the unit row that a certificate names, if it names one, is the first outside the row module of r, or of its transposed
  -- adjoint
  abbrev pub NamesFirstUnit : RowMatrix → Certificate → Type 0
  NamesFirstUnit r (NoLeftInverse k block) = IsFirstOutside r k
  NamesFirstUnit r (NoRightInverse k block) = IsFirstOutside (transposed_adjoint s r) k
  NamesFirstUnit r other = Unit {0}

  -- m of the signature, with m r the identity; or no matrix is such an inverse, as the first unit row shows that isn't in
  -- the row module of r, with a valid block of the signature
  abbrev pub IsLeftInverseAnswer : RowMatrix → InverseAnswer → Type 0
  IsLeftInverseAnswer r (Found m) = MatrixOf s m × IsLeftInverse s r (row_matrix_of m)
  IsLeftInverseAnswer r (None k block) = (¬ HasLeftInverse s r) × IsFirstOutside r k × IsOutsideOf s block × IsValidOutsideFor s r (unit_row rationals r.cols k) block

  -- m of the signature, with r m the identity; or no matrix is such an inverse, as the first unit row shows that isn't in
  -- the row module of the transposed adjoint of r, with a valid block of the signature
  abbrev pub IsRightInverseAnswer : RowMatrix → InverseAnswer → Type 0
  IsRightInverseAnswer r (Found m) = MatrixOf s m × IsRightInverse s r (row_matrix_of m)
  IsRightInverseAnswer r (None k block) =
      (¬ HasRightInverse s r) × IsFirstOutside (transposed_adjoint s r) k × IsOutsideOf s block × IsValidOutsideFor s (transposed_adjoint s r) (unit_row rationals (length r.rows) k) block
