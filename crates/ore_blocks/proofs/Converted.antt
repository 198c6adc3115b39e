-- The blocks of certificates as blocks of the laws, and what a signature says of them.
--     exact_of, outside_of                a block (of specs/Valid.antt)
--     rows_count                          a matrix has as many rows without the orders of their operators
--     wide_rows, rows_are_of              the rows of a matrix of a signature have an entry a column, and are of it
--     entries_are_of, exact_is_of, outside_is_of      entries and blocks of a signature are of it
use Rattle.std.proofs.Common.{◌≡◌, ℕ, List, [], ◌∷◌, map, length, ◌∙◌}
use Rattle.std.specs.List.{All, AllByRecursion}
use Rattle.std.proofs.lemmas.List.{length-map}
use Rattle.std.proofs.lemmas.List.Elements.{All-head, All-tail, recursion_from_All}
use Rattle.ore_rational.specs.Field.{rationals}
use Rattle.ore_monomial.specs.Signature.{Signature, MonomialOf}
use Rattle.ore_ring.specs.Ordered.{Ordered}
use Rattle.ore_rows.specs.Reduction.{Step}
use Rattle.ore_rows.specs.Rows.{RowOf, AreLong}
use Rattle.ore_rows.specs.Stored.{OperatorMatrix, HasColumns, sums_of, rows_of}
use Rattle.ore_rows.proofs.StoredRows.{rows_of_stored}
use Rattle.ore_pairs.specs.Steps.{AreStepsOf}
use Rattle.ore_pairs.specs.PairList.{AreEntriesOf}
use Rattle.ore_pairs.specs.Blocks as blocks
use Rattle.ore_parts.specs.declared.block.PairEntry.{PairEntry}
use Rattle.ore_parts.specs.declared.block.PairEntry.TheVariants.{Pair, Skip}
use Rattle.ore_parts.specs.declared.block.ExactBlock.{ExactBlock}
use Rattle.ore_parts.specs.declared.block.OutsideBlock.{OutsideBlock}
use Rattle.ore_parts.specs.OfSignature.{MatrixOf, IsEntryOf, IsExactOf, IsOutsideOf}
use Rattle.ore_blocks.specs.CheckBlock.{dealt_pairs}
pub use Rattle.ore_blocks.specs.Valid.{exact_of, outside_of}

pub rows_count : (m : OperatorMatrix) → length (rows_of m) ≡ length m.rows
rows_count m = length-map m.rows sums_of

wide : (n : ℕ) (rows : List (List Ordered)) → HasColumns n rows → AreLong rationals n (map sums_of rows)
wide n [] h = tt
wide n (r ∷ rows) h = (length-map r (λ f. f.sum) ∙ All-head (λ r. length r ≡ n) r rows h, wide n rows (All-tail (λ r. length r ≡ n) r rows h))

module _ (s : Signature) where
  pub wide_rows : (m : OperatorMatrix) → MatrixOf s m → AreLong rationals m.cols (rows_of m)
  wide_rows m h = wide m.cols m.rows h.columns

  pub rows_are_of : (m : OperatorMatrix) → MatrixOf s m → AllByRecursion (RowOf rationals s) (rows_of m)
  rows_are_of m h = rows_of_stored s m.rows h.of

  steps_are_of : (steps : List (Step rationals)) → All (λ t. MonomialOf s t.monomial) steps → AreStepsOf rationals s steps
  steps_are_of steps h = recursion_from_All (λ t. MonomialOf s t.monomial) steps h

  entries_are_of : (es : List PairEntry) → All (IsEntryOf s) es → AreEntriesOf rationals s (dealt_pairs es)
  entries_are_of [] h = tt
  entries_are_of (Pair i j steps ∷ es) h = (steps_are_of steps (All-head (IsEntryOf s) (Pair i j steps) es h), entries_are_of es (All-tail (IsEntryOf s) (Pair i j steps) es h))
  entries_are_of (Skip i j via ∷ es) h = entries_are_of es (All-tail (IsEntryOf s) (Skip i j via) es h)

  pub exact_is_of : (b : ExactBlock) → IsExactOf s b → blocks.IsExactBlockOfSignature rationals s (exact_of b)
  exact_is_of b h = record { basis = rows_are_of b.basis h.basis; from = rows_are_of b.from h.from; to = rows_are_of b.to h.to; entries = entries_are_of b.pairs h.pairs; inside = rows_are_of b.inside h.inside }

  pub outside_is_of : (b : OutsideBlock) → IsOutsideOf s b → blocks.IsOutsideBlockOfSignature rationals s (outside_of b)
  outside_is_of b h = record { basis = rows_are_of b.basis h.basis; from = rows_are_of b.from h.from; entries = entries_are_of b.pairs h.pairs; steps = steps_are_of b.quotients h.quotients }
