-- Blocks that pass within whatever limits are valid, and show what valid blocks show.
--     exact_block_checked          the rows that take a to zeros are the row module of m
--     outside_block_checked        w isn't in the row module of a
use Rattle.std.proofs.Common.{◌≡◌, length}
use Rattle.std.specs.declared.result.Result.TheVariants.{Ok}
use Rattle.ore_algebra.specs.Limits.{Limits, unlimited}
use Rattle.ore_rational.specs.Field.{rationals}
use Rattle.ore_monomial.specs.Signature.{Signature}
use Rattle.ore_rows.specs.Rows.{Row, AreLong, InRowModule, IsExact}
use Rattle.ore_parts.specs.declared.block.ExactBlock.{ExactBlock}
use Rattle.ore_parts.specs.declared.block.OutsideBlock.{OutsideBlock}
use Rattle.ore_parts.specs.OfSignature.{IsExactOf, IsOutsideOf}
use Rattle.ore_blocks.specs.declared.place.Section.{Section}
use Rattle.ore_blocks.specs.CheckBlock.{RowMatrix, check_exact, check_outside}
use Rattle.ore_blocks.proofs.BlockConditions.{exact_iff, outside_iff}
use Rattle.ore_blocks.proofs.BlocksAtMost.{check_exact_most, check_outside_most}
use Rattle.ore_blocks.proofs.CheckedAtMost.{value_without}
use Rattle.ore_blocks.proofs.ValidBlocks.{exact_shows, outside_shows}

module _ (l : Limits) (s : Signature) where
  -- for whatever a and m are handed in, of sizes that fit
  pub exact_block_checked : (at : Section) (a m : RowMatrix) (b : ExactBlock) → AreLong rationals a.cols a.rows → AreLong rationals (length a.rows) m.rows → IsExactOf s b
      → check_exact l s at a m b ≡ Ok tt → IsExact rationals s a.cols a.rows m.rows
  exact_block_checked at a m b long wide of h =
      exact_shows s a m b wide of ((exact_iff s at a m b long wide of).0 (value_without (check_exact l s at a m b) (check_exact unlimited s at a m b) tt (check_exact_most l s at a m b) h))

  -- for whatever a and w are handed in
  pub outside_block_checked : (a : RowMatrix) (w : Row rationals) (b : OutsideBlock) → IsOutsideOf s b → check_outside l s a w b ≡ Ok tt → ¬ InRowModule rationals s a.cols a.rows w
  outside_block_checked a w b of h =
      outside_shows s a w b of ((outside_iff s a w b of).0 (value_without (check_outside l s a w b) (check_outside unlimited s a w b) tt (check_outside_most l s a w b) h))
