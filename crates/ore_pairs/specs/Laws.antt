-- What valid blocks show, and what complete states and choices are like, over the fractions, for a signature and its order.
--     ExactBlockIsExact      the rows which take a to zeros are the row module of l, of the size that this asks
--     OutsideBlockIsOutside  w is not in the row module of a
--     CompleteIsTested       the test that a state is complete is the definition
--     CompleteIsClosed       in a complete state no choice is lawful
--     HasFewChoicesWithin    in each state finitely many choices lead on
use Rattle.std.specs.Prelude.{◌≡◌, ◌↔◌, ℕ, true, List, length}
use Rattle.ore_algebra.specs.Limits.{Limits}
use Rattle.ore_course.specs.Bounded.{HasFewChoices}
use Rattle.ore_course.specs.Choices.{IsClosed}
use Rattle.ore_rational.specs.Field.{rationals}
use Rattle.ore_monomial.specs.Signature.{Signature}
use Rattle.ore_rows.specs.Rows.{Row, AreLong, InRowModule, IsExact}
use Rattle.ore_pairs.specs.Run.{RunState, IsComplete}
use Rattle.ore_pairs.specs.Runner.{is_complete, runner_within}
use Rattle.ore_pairs.specs.Blocks.{ExactBlock, OutsideBlock, IsValidExact, IsValidOutside, IsExactBlockOfSignature, IsOutsideBlockOfSignature}

-- each pair with equal lead columns is listed exactly where the test passes
abbrev pub CompleteIsTested : Type 0
CompleteIsTested = (st : RunState rationals) → (is_complete rationals st ≡ true) ↔ IsComplete rationals st

module _ (s : Signature) where
  -- whatever the limits are
  abbrev pub CompleteIsClosed : Type 0
  CompleteIsClosed = (l : Limits) → IsClosed (runner_within l s)

  -- whatever the limits are
  abbrev pub HasFewChoicesWithin : Type 0
  HasFewChoicesWithin = (l : Limits) → HasFewChoices (runner_within l s)

  -- where an exact block of the signature is valid for a, of n columns, and l, with a column for each row of a
  abbrev pub ExactBlockIsExact : Type 0
  ExactBlockIsExact = (n : ℕ) (a l : List (Row rationals)) (b : ExactBlock rationals) → AreLong rationals (length a) l
      → IsExactBlockOfSignature rationals s b → IsValidExact rationals s s.order n a l b → IsExact rationals s n a l

  -- where an outside block of the signature is valid for a, of n columns, and the row w
  abbrev pub OutsideBlockIsOutside : Type 0
  OutsideBlockIsOutside = (n : ℕ) (a : List (Row rationals)) (w : Row rationals) (b : OutsideBlock rationals)
      → IsOutsideBlockOfSignature rationals s b → IsValidOutside rationals s s.order n a w b → ¬ InRowModule rationals s n a w
