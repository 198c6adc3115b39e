-- What the check of a block says, for a signature and its order: exactly whether the block is valid where there are no
-- limits, and within limits the same, or that an operation stops.
--     ExactCheckIsValid, OutsideCheckIsValid      without limits the places of a block are right where it is valid
--     ExactCheckAtMost, OutsideCheckAtMost        within limits they give what they give without, or stop
--     ValidExactPasses, ValidOutsidePasses        within limits the places of a valid block are right, or stop
use Rattle.std.specs.Prelude.{◌≡◌, ◌⊎◌, ◌↔◌, length}
use Rattle.std.specs.declared.result.Result.TheVariants.{Ok}
use Rattle.ore_algebra.specs.Limits.{Limits, unlimited}
use Rattle.ore_rational.specs.Field.{rationals}
use Rattle.ore_monomial.specs.Signature.{Signature}
use Rattle.ore_rows.specs.Rows.{Row, AreLong}
use Rattle.ore_parts.specs.declared.block.ExactBlock.{ExactBlock}
use Rattle.ore_parts.specs.declared.block.OutsideBlock.{OutsideBlock}
use Rattle.ore_parts.specs.OfSignature.{IsExactOf, IsOutsideOf}
use Rattle.ore_blocks.specs.declared.place.Section.{Section}
use Rattle.ore_blocks.specs.CheckBlock.{RowMatrix, check_exact, check_outside}
use Rattle.ore_blocks.specs.Valid.{IsValidExactFor, IsValidOutsideFor}
use Rattle.ore_blocks.specs.WithinLimits.{IsStopped, IsCheckedAtMost}

module _ (s : Signature) where
  -- without limits, for a block of the signature and matrices a and m, m with a column for each row of a
  abbrev pub ExactCheckIsValid : Type 0
  ExactCheckIsValid = (at : Section) (a m : RowMatrix) (b : ExactBlock) → AreLong rationals a.cols a.rows → AreLong rationals (length a.rows) m.rows → IsExactOf s b
      → (check_exact unlimited s at a m b ≡ Ok tt) ↔ IsValidExactFor s a m b

  -- without limits, for a block of the signature, a matrix a and a row w
  abbrev pub OutsideCheckIsValid : Type 0
  OutsideCheckIsValid = (a : RowMatrix) (w : Row rationals) (b : OutsideBlock) → IsOutsideOf s b
      → (check_outside unlimited s a w b ≡ Ok tt) ↔ IsValidOutsideFor s a w b

  -- of any block, for whatever matrices
  abbrev pub ExactCheckAtMost : Type 0
  ExactCheckAtMost = (l : Limits) (at : Section) (a m : RowMatrix) (b : ExactBlock) → IsCheckedAtMost (check_exact l s at a m b) (check_exact unlimited s at a m b)

  -- of any block, for whatever matrix and row
  abbrev pub OutsideCheckAtMost : Type 0
  OutsideCheckAtMost = (l : Limits) (a : RowMatrix) (w : Row rationals) (b : OutsideBlock) → IsCheckedAtMost (check_outside l s a w b) (check_outside unlimited s a w b)

  -- of a valid block of the signature no place fails a condition, whatever the limits
  abbrev pub ValidExactPasses : Type 0
  ValidExactPasses = (l : Limits) (at : Section) (a m : RowMatrix) (b : ExactBlock) → AreLong rationals a.cols a.rows → AreLong rationals (length a.rows) m.rows → IsExactOf s b
      → IsValidExactFor s a m b → (check_exact l s at a m b ≡ Ok tt) ⊎ IsStopped (check_exact l s at a m b)

  -- the same of an outside block
  abbrev pub ValidOutsidePasses : Type 0
  ValidOutsidePasses = (l : Limits) (a : RowMatrix) (w : Row rationals) (b : OutsideBlock) → IsOutsideOf s b
      → IsValidOutsideFor s a w b → (check_outside l s a w b ≡ Ok tt) ⊎ IsStopped (check_outside l s a w b)
