-- Conditions on the parts of blocks and links, each met by every part of its type.
--     PartConditions                        what is asked of a matrix, pairs, steps and a row
--     ExactMeets, OutsideMeets, LinkMeets   each part of a block, or of a matrix with its block, meets its condition
use Rattle.std.specs.Prelude.{List}
use Rattle.ore_rational.specs.Field.{rationals}
use Rattle.ore_ring.specs.Ordered.{Ordered}
use Rattle.ore_rows.specs.Reduction.{Step}
use Rattle.ore_rows.specs.Stored.{OperatorMatrix}
use Rattle.ore_parts.specs.declared.block.PairEntry.{PairEntry}
use Rattle.ore_parts.specs.declared.block.ExactBlock.{ExactBlock}
use Rattle.ore_parts.specs.declared.block.OutsideBlock.{OutsideBlock}
use Rattle.ore_parts.specs.declared.block.Link.{Link}

-- one condition for each type of parts
pub record PartConditions : Type 1 where
  pub matrix : OperatorMatrix → Type 0
  pub pairs : List PairEntry → Type 0
  pub steps : List (Step rationals) → Type 0
  pub row : List Ordered → Type 0

module _ (C : PartConditions) where
  -- each part of an exact block meets its condition
  pub record ExactMeets (b : ExactBlock) : Type 0 where
    pub basis : C.matrix b.basis
    pub from : C.matrix b.from
    pub to : C.matrix b.to
    pub pairs : C.pairs b.pairs
    pub inside : C.matrix b.inside

  -- each part of an outside block meets its condition
  pub record OutsideMeets (b : OutsideBlock) : Type 0 where
    pub basis : C.matrix b.basis
    pub from : C.matrix b.from
    pub pairs : C.pairs b.pairs
    pub quotients : C.steps b.quotients
    pub rest : C.row b.rest

  -- the matrix meets its condition, and each part of the block its own
  pub record LinkMeets (k : Link) : Type 0 where
    pub l : C.matrix k.l
    pub block : ExactMeets k.block
