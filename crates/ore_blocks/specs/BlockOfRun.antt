-- The blocks that a state of a run makes, as they stand in a certificate: their operators carry the order of a signature.
--     ordered_row, stored_matrix      a row, and a matrix of n columns, with the order
--     stored_entry                    an entry of a list of pairs
--     stored_exact, stored_outside    blocks, with the order
--     exact_block_of                  shows that what takes the matrix of the run to zeros is a row module
--     outside_block_of                shows that a row is not in the row module of this matrix
use Rattle.std.specs.Prelude.{ℕ, List, length, map}
use Rattle.ore_rational.specs.Field.{rationals}
use Rattle.ore_monomial.specs.Signature.{Signature}
use Rattle.ore_monomial.specs.declared.order.Order.{Order}
use Rattle.ore_ring.specs.Ordered.{Ordered}
use Rattle.ore_rows.specs.Rows.{Row}
use Rattle.ore_rows.specs.Reduction.{Step}
use Rattle.ore_rows.specs.Stored.{OperatorMatrix}
use Rattle.ore_pairs.specs.Blocks as blocks
use Rattle.ore_pairs.specs.PairList.{DealtPair}
use Rattle.ore_pairs.specs.PairList as listed
use Rattle.ore_pairs.specs.Run.{RunState}
use Rattle.ore_pairs.specs.RunBlocks.{exact_of_run, outside_of_run}
use Rattle.ore_parts.specs.declared.block.PairEntry.{PairEntry}
use Rattle.ore_parts.specs.declared.block.PairEntry.TheVariants.{Pair, Skip}
use Rattle.ore_parts.specs.declared.block.ExactBlock.{ExactBlock}
use Rattle.ore_parts.specs.declared.block.OutsideBlock.{OutsideBlock}
use Rattle.ore_blocks.specs.CheckBlock.{RowMatrix}

-- each entry with this order
abbrev pub ordered_row : Order → Row rationals → List Ordered
ordered_row o r = map (λ f. record { by = o; sum = f }) r

-- n columns, and these rows with this order
abbrev pub stored_matrix : Order → ℕ → List (Row rationals) → OperatorMatrix
stored_matrix o n rows = record { cols = n; rows = map (ordered_row o) rows }

-- a treated pair with its steps, or a skipped one
abbrev pub stored_entry : DealtPair rationals → PairEntry
stored_entry (listed.Pair i j steps) = Pair i j steps
stored_entry (listed.Skip i j via) = Skip i j via

-- for a matrix of n columns and q rows, and another of m rows
abbrev pub stored_exact : Order → ℕ → ℕ → ℕ → blocks.ExactBlock rationals → ExactBlock
stored_exact o n q m b = record { basis = stored_matrix o n b.basis; from = stored_matrix o (length b.basis) b.from; to = stored_matrix o q b.to; pairs = map stored_entry b.entries; inside = stored_matrix o m b.inside }

-- for a matrix of n columns
abbrev pub stored_outside : Order → ℕ → blocks.OutsideBlock rationals → OutsideBlock
stored_outside o n b = record { basis = stored_matrix o n b.basis; from = stored_matrix o (length b.basis) b.from; pairs = map stored_entry b.entries; quotients = b.steps; rest = ordered_row o b.rest }

module _ (s : Signature) (a : RowMatrix) (st : RunState rationals) where
  -- by a row for each syzygy, which has a column for each row of the other matrix
  abbrev pub exact_block_of : RowMatrix → ExactBlock
  exact_block_of inside = stored_exact s.order a.cols (length a.rows) inside.cols (exact_of_run rationals s.order a.rows st inside.cols inside.rows)

  -- by the steps that were taken from the row, and what they leave of it
  abbrev pub outside_block_of : List (Step rationals) → Row rationals → OutsideBlock
  outside_block_of steps rest = stored_outside s.order a.cols (outside_of_run rationals s.order a.rows st steps rest)
