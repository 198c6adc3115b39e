-- What valid blocks of the signature show, for matrices as they are checked.
--     exact_shows        the rows that take a to zeros are the row module of m
--     outside_shows      w isn't in the row module of a
use Rattle.std.proofs.Common.{length}
use Rattle.ore_rational.specs.Field.{rationals}
use Rattle.ore_monomial.specs.Signature.{Signature}
use Rattle.ore_monomial.proofs.Signatures.{lawful}
use Rattle.ore_rows.specs.Rows.{Row, AreLong, InRowModule, IsExact}
use Rattle.ore_pairs.proofs.Exact.{exact_block}
use Rattle.ore_pairs.proofs.Outside.{outside_block}
use Rattle.ore_parts.specs.declared.block.ExactBlock.{ExactBlock}
use Rattle.ore_parts.specs.declared.block.OutsideBlock.{OutsideBlock}
use Rattle.ore_parts.specs.OfSignature.{IsExactOf, IsOutsideOf}
use Rattle.ore_blocks.specs.CheckBlock.{RowMatrix}
use Rattle.ore_blocks.specs.Valid.{exact_of, outside_of, IsValidExactFor, IsValidOutsideFor}
use Rattle.ore_blocks.proofs.Converted.{exact_is_of, outside_is_of}

module _ (s : Signature) (a : RowMatrix) where
  pub exact_shows : (m : RowMatrix) (b : ExactBlock) → AreLong rationals (length a.rows) m.rows → IsExactOf s b → IsValidExactFor s a m b → IsExact rationals s a.cols a.rows m.rows
  exact_shows m b wide of v = exact_block rationals s (lawful s) s.order a.cols a.rows m.rows (exact_of b) wide (exact_is_of s b of) v.valid

  pub outside_shows : (w : Row rationals) (b : OutsideBlock) → IsOutsideOf s b → IsValidOutsideFor s a w b → ¬ InRowModule rationals s a.cols a.rows w
  outside_shows w b of v = outside_block rationals s (lawful s) s.order a.cols a.rows w (outside_of b) (outside_is_of s b of) v.valid
