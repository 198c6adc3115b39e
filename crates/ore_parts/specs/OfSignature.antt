-- Parts of certificates of a signature: their operators belong to it, and the rows of a matrix have one entry a column.
--     MatrixOf                    a matrix
--     AreStoredStepsOf, IsEntryOf  steps; what was done with a pair
--     of_signature                these conditions, as those on parts
--     IsExactOf, IsOutsideOf      blocks
--     IsLinkOf                    a matrix with its block
use Rattle.std.specs.Prelude.{List}
use Rattle.std.specs.List.{All}
use Rattle.ore_rational.specs.Field.{rationals}
use Rattle.ore_monomial.specs.Signature.{Signature, MonomialOf}
use Rattle.ore_ring.specs.Belongs.{Belongs}
use Rattle.ore_rows.specs.Reduction.{Step}
use Rattle.ore_rows.specs.Stored.{OperatorMatrix, HasColumns}
use Rattle.ore_parts.specs.declared.block.PairEntry.{PairEntry}
use Rattle.ore_parts.specs.declared.block.PairEntry.TheVariants.{Pair, Skip}
use Rattle.ore_parts.specs.declared.block.ExactBlock.{ExactBlock}
use Rattle.ore_parts.specs.declared.block.OutsideBlock.{OutsideBlock}
use Rattle.ore_parts.specs.declared.block.Link.{Link}
use Rattle.ore_parts.specs.EachPart.{PartConditions, ExactMeets, OutsideMeets, LinkMeets}

module _ (s : Signature) where
  -- its rows have one entry a column, and its entries belong to the signature
  pub record MatrixOf (m : OperatorMatrix) : Type 0 where
    pub columns : HasColumns m.cols m.rows
    pub of : All (All (Belongs s)) m.rows

  -- the monomials of steps are of the signature
  abbrev pub AreStoredStepsOf : List (Step rationals) → Type 0
  AreStoredStepsOf steps = All (λ t. MonomialOf s t.monomial) steps

  -- the steps of a pair are of the signature
  abbrev pub IsEntryOf : PairEntry → Type 0
  IsEntryOf (Pair i j steps) = AreStoredStepsOf steps
  IsEntryOf (Skip i j via) = Unit {0}

  -- the part is of the signature
  abbrev pub of_signature : PartConditions
  of_signature = record { matrix = MatrixOf; pairs = All IsEntryOf; steps = AreStoredStepsOf; row = All (Belongs s) }

  -- each part of an exact block is of the signature
  abbrev pub IsExactOf : ExactBlock → Type 0
  IsExactOf = ExactMeets of_signature

  -- each part of an outside block is of the signature
  abbrev pub IsOutsideOf : OutsideBlock → Type 0
  IsOutsideOf = OutsideMeets of_signature

  -- the matrix and its block are of the signature
  abbrev pub IsLinkOf : Link → Type 0
  IsLinkOf = LinkMeets of_signature
