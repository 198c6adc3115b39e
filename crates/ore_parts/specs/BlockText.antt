-- The texts of the parts of a certificate. Words have one space between, and places count from 1.
--     place                  a place as it is written
--     step_text              a step: the place of the basis row, and a term
--     entry_text, pairs_text      a pair with its steps, or skipped; all pairs
--     steps_text             the steps of an outside block
--     matrix_part, row_part     a matrix, and a row as a matrix of one row
--     exact_text, outside_text    the two kinds of blocks
--     is_place               a place whose number is below the bound
--     IsWrittenStep, IsWrittenSteps, IsWrittenEntry, IsWrittenPairs, IsWrittenMatrix, IsWrittenRow
--                            numbers are in their ranges, and operators are of the signature
--     written, IsWrittenExact, IsWrittenOutside     so it is with each part of a block
use Rattle.std.specs.Prelude.{◌≢◌, ℕ, suc, ◌<◌, List, [], ◌∷◌, ◌++◌, length, codes, decimal}
use Rattle.std.specs.List.{All, flat_map}
use Rattle.ore_rational.specs.Field.{rationals}
use Rattle.ore_monomial.specs.declared.order.Order.{Order}
use Rattle.ore_monomial.specs.Signature.{Signature}
use Rattle.ore_ring.specs.Belongs.{Belongs}
use Rattle.ore_ring.specs.Ordered.{Ordered}
use Rattle.ore_text.specs.CanonicalText.{operator_text}
use Rattle.ore_text.specs.Lines.{line}
use Rattle.ore_text.specs.Printable.{IsPrintable}
use Rattle.ore_rows.specs.Reduction.{Step, step_operator}
use Rattle.ore_rows.specs.Stored.{OperatorMatrix, sums_of, rows_of}
use Rattle.ore_parts.specs.CertificateText.{number_bound, named_matrix_text, IsRowOf, IsWritten}
use Rattle.ore_parts.specs.EachPart.{PartConditions, ExactMeets, OutsideMeets}
use Rattle.ore_parts.specs.declared.block.PairEntry.{PairEntry}
use Rattle.ore_parts.specs.declared.block.PairEntry.TheVariants.{Pair, Skip}
use Rattle.ore_parts.specs.declared.block.ExactBlock.{ExactBlock}
use Rattle.ore_parts.specs.declared.block.OutsideBlock.{OutsideBlock}

-- a place counts from 0 where it is stored, and from 1 where it is written
abbrev pub place : ℕ → List ℕ
place k = decimal (suc k)

module _ (names : List (List ℕ)) (o : Order) where
  -- `step`, the place of the basis row, and the canonical text of the fraction times the monomial
  abbrev pub step_text : Step rationals → List ℕ
  step_text t = line (codes "step" ∷ place t.index ∷ operator_text names o (step_operator rationals t) ∷ [])

  -- two places and the number of steps on one line, and then the steps; or the three places of a skipped pair
  abbrev pub entry_text : PairEntry → List ℕ
  entry_text (Pair i j steps) = line (codes "pair" ∷ place i ∷ place j ∷ decimal (length steps) ∷ []) ++ flat_map step_text steps
  entry_text (Skip i j via) = line (codes "skip" ∷ place i ∷ place j ∷ place via ∷ [])

  -- `pairs` with their number on one line, and then each pair
  abbrev pub pairs_text : List PairEntry → List ℕ
  pairs_text pairs = line (codes "pairs" ∷ decimal (length pairs) ∷ []) ++ flat_map entry_text pairs

  -- `steps` with their number on one line, and then each step
  abbrev pub steps_text : List (Step rationals) → List ℕ
  steps_text steps = line (codes "steps" ∷ decimal (length steps) ∷ []) ++ flat_map step_text steps

  -- the line with the name and the sizes, and a line for each row
  abbrev pub matrix_part : List ℕ → OperatorMatrix → List ℕ
  matrix_part name m = named_matrix_text name names o m.cols (rows_of m)

  -- the matrix has a column for each entry of the row
  abbrev pub row_part : List ℕ → List Ordered → List ℕ
  row_part name r = named_matrix_text name names o (length r) (sums_of r ∷ [])

  -- the line `block exact`, and then the parts in this order
  abbrev pub exact_text : ExactBlock → List ℕ
  exact_text b = codes "block exact\n" ++ (matrix_part (codes "basis") b.basis ++ (matrix_part (codes "from") b.from ++ (matrix_part (codes "to") b.to ++ (pairs_text b.pairs ++ matrix_part (codes "inside") b.inside))))

  -- the line `block outside`, and then the parts in this order
  abbrev pub outside_text : OutsideBlock → List ℕ
  outside_text b = codes "block outside\n" ++ (matrix_part (codes "basis") b.basis ++ (matrix_part (codes "from") b.from ++ (pairs_text b.pairs ++ (steps_text b.quotients ++ row_part (codes "rest") b.rest))))

-- ---- what may be written

-- the number that is written, one more than the place, is below 2^63
abbrev pub is_place : ℕ → Type 0
is_place k = suc k < number_bound

module _ (s : Signature) (names : List (List ℕ)) where
  -- the place may be written, the fraction isn't zero, and the term is of the signature and in the program's ranges
  pub record IsWrittenStep (t : Step rationals) : Type 0 where
    pub index : is_place t.index
    pub number : t.number ≢ rationals.zero
    pub term : IsPrintable s names (step_operator rationals t)

  -- fewer than 2^63 steps, each of which may be written
  pub record IsWrittenSteps (steps : List (Step rationals)) : Type 0 where
    pub few : length steps < number_bound
    pub all : All IsWrittenStep steps

  -- the places may be written, and so may the steps of a treated pair
  abbrev pub IsWrittenEntry : PairEntry → Type 0
  IsWrittenEntry (Pair i j steps) = is_place i × is_place j × IsWrittenSteps steps
  IsWrittenEntry (Skip i j via) = is_place i × is_place j × is_place via

  -- fewer than 2^63 pairs, each of which may be written
  pub record IsWrittenPairs (pairs : List PairEntry) : Type 0 where
    pub few : length pairs < number_bound
    pub all : All IsWrittenEntry pairs

  -- the sizes are below 2^63, each row has an entry for each column, and each entry is of the signature, with its
  -- order, and in the program's ranges
  pub record IsWrittenMatrix (m : OperatorMatrix) : Type 0 where
    pub written : IsWritten s names m.cols (rows_of m)
    pub of : All (All (Belongs s)) m.rows

  -- fewer than 2^63 entries, each as in a matrix that may be written
  pub record IsWrittenRow (r : List Ordered) : Type 0 where
    pub few : length r < number_bound
    pub written : IsRowOf s names (length r) (sums_of r)
    pub of : All (Belongs s) r

  -- the part may be written
  abbrev pub written : PartConditions
  written = record { matrix = IsWrittenMatrix; pairs = IsWrittenPairs; steps = IsWrittenSteps; row = IsWrittenRow }

  -- each part of an exact block may be written
  abbrev pub IsWrittenExact : ExactBlock → Type 0
  IsWrittenExact = ExactMeets written

  -- each part of an outside block may be written
  abbrev pub IsWrittenOutside : OutsideBlock → Type 0
  IsWrittenOutside = OutsideMeets written
