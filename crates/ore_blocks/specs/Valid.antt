-- Valid blocks of a certificate: their sizes and identities, over numbers of any size, as the laws of blocks have them.
--     exact_of, outside_of                  a block, without the orders of its operators and the columns of its matrices
--     IsValidExactFor, IsValidOutsideFor    a block has its sizes, and is valid
use Rattle.std.specs.Prelude.{◌≡◌, length}
use Rattle.ore_rational.specs.Field.{rationals}
use Rattle.ore_monomial.specs.Signature.{Signature}
use Rattle.ore_rows.specs.Rows.{Row}
use Rattle.ore_rows.specs.Stored.{sums_of, rows_of}
use Rattle.ore_pairs.specs.Blocks as blocks
use Rattle.ore_parts.specs.declared.block.ExactBlock.{ExactBlock}
use Rattle.ore_parts.specs.declared.block.OutsideBlock.{OutsideBlock}
use Rattle.ore_blocks.specs.CheckBlock.{RowMatrix, dealt_pairs}

-- the matrices of an exact block as rows alone, and its pairs
abbrev pub exact_of : ExactBlock → blocks.ExactBlock rationals
exact_of b = record { basis = rows_of b.basis; from = rows_of b.from; to = rows_of b.to; entries = dealt_pairs b.pairs; inside = rows_of b.inside }

-- the matrices of an outside block as rows alone, its pairs, its steps and its rest
abbrev pub outside_of : OutsideBlock → blocks.OutsideBlock rationals
outside_of b = record { basis = rows_of b.basis; from = rows_of b.from; entries = dealt_pairs b.pairs; steps = b.quotients; rest = sums_of b.rest }

module _ (s : Signature) where
  -- each matrix has the columns that its products ask, and the block shows that what takes a to zeros is the row module
  -- of m
  pub record IsValidExactFor (a m : RowMatrix) (b : ExactBlock) : Type 0 where
    pub basis_columns : b.basis.cols ≡ a.cols
    pub from_columns : b.from.cols ≡ length b.basis.rows
    pub to_columns : b.to.cols ≡ length a.rows
    pub inside_columns : b.inside.cols ≡ length m.rows
    pub valid : blocks.IsValidExact rationals s s.order a.cols a.rows m.rows (exact_of b)

  -- each matrix has the columns that its products ask, the rest those of a, and the block shows that w is not in the row
  -- module of a
  pub record IsValidOutsideFor (a : RowMatrix) (w : Row rationals) (b : OutsideBlock) : Type 0 where
    pub basis_columns : b.basis.cols ≡ a.cols
    pub from_columns : b.from.cols ≡ length b.basis.rows
    pub rest_columns : length b.rest ≡ a.cols
    pub valid : blocks.IsValidOutside rationals s s.order a.cols a.rows w (outside_of b)
