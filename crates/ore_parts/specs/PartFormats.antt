-- The formats of the parts of a certificate.
--     count_format           a word and a number
--     step_words, step_format      a step on its line
--     quotients_format       steps behind a line with their number
--     entry_words, IsWrittenLine, entry_line_format     the line of a pair, and how many steps follow it
--     entry_format, pairs_format   a pair with its steps, or skipped; all pairs
--     sizes_format, columns_format       the line of a matrix; that of a matrix of one row
--     stored_row_format, rows_format     a row on its line; so many rows
--     matrix_format, row_format    a matrix; a row as a matrix of one row
--     exact_format, outside_format       the two kinds of blocks
use Rattle.std.specs.Prelude.{◌≡◌, ℕ, ◌<◌, List, [], ◌∷◌, codes, decimal}
use Rattle.std.specs.List.{All, flat_map, join_with_byte}
use Rattle.ore_rational.specs.Field.{rationals}
use Rattle.ore_monomial.specs.declared.order.Order.{Order}
use Rattle.ore_monomial.specs.Signature.{Signature}
use Rattle.ore_ring.specs.Belongs.{Belongs}
use Rattle.ore_ring.specs.Ordered.{Ordered}
use Rattle.ore_text.specs.CanonicalText.{operator_text}
use Rattle.ore_text.specs.RowText.{row_text}
use Rattle.ore_rows.specs.Reduction.{Step, step_operator}
use Rattle.ore_rows.specs.Stored.{OperatorMatrix, sums_of}
use Rattle.ore_parts.specs.declared.block.ExactBlock.{ExactBlock}
use Rattle.ore_parts.specs.declared.block.OutsideBlock.{OutsideBlock}
use Rattle.ore_parts.specs.declared.block.PairEntry.{PairEntry}
use Rattle.ore_parts.specs.declared.pairs.EntryLine.{EntryLine}
use Rattle.ore_parts.specs.declared.pairs.EntryLine.TheVariants.{PairLine, SkipLine}
use Rattle.ore_parts.specs.CertificateText.{number_bound, matrix_words, IsRowOf}
use Rattle.ore_parts.specs.BlockText.{place, is_place, entry_text, pairs_text, steps_text, matrix_part, row_part, exact_text, outside_text, IsWrittenStep, IsWrittenSteps, IsWrittenEntry, IsWrittenPairs, IsWrittenMatrix, IsWrittenRow, IsWrittenExact, IsWrittenOutside}
use Rattle.ore_parts.specs.Formats.{Format, one_line, items}

-- the word and a number below 2^63, on one line
abbrev pub count_format : List ℕ → Format ℕ
count_format word = one_line (λ n. join_with_byte 32 (word ∷ decimal n ∷ [])) (λ n. n < number_bound)

-- the words of the line of a step, without its end
abbrev pub step_words : List (List ℕ) → Order → Step rationals → List ℕ
step_words names o t = join_with_byte 32 (codes "step" ∷ place t.index ∷ operator_text names o (step_operator rationals t) ∷ [])

-- the words of the line of a pair, without its end
abbrev pub entry_words : EntryLine → List ℕ
entry_words (PairLine i j count) = join_with_byte 32 (codes "pair" ∷ place i ∷ place j ∷ decimal count ∷ [])
entry_words (SkipLine i j via) = join_with_byte 32 (codes "skip" ∷ place i ∷ place j ∷ place via ∷ [])

-- the places may be written, and the number of steps is below 2^63
abbrev pub IsWrittenLine : EntryLine → Type 0
IsWrittenLine (PairLine i j count) = is_place i × is_place j × (count < number_bound)
IsWrittenLine (SkipLine i j via) = is_place i × is_place j × is_place via

-- the line of a pair alone; its steps are no part of it
abbrev pub entry_line_format : Format EntryLine
entry_line_format = one_line entry_words IsWrittenLine

-- the numbers of rows and columns, which the line of a matrix of this name says
abbrev pub sizes_format : List ℕ → Format (ℕ × ℕ)
sizes_format name = one_line (λ s. matrix_words name s.0 s.1) (λ s. (s.0 < number_bound) × (s.1 < number_bound))

-- the number of columns, which the line of a matrix of this name and of one row says
abbrev pub columns_format : List ℕ → Format ℕ
columns_format name = one_line (λ cols. matrix_words name 1 cols) (λ cols. cols < number_bound)

module _ (s : Signature) (names : List (List ℕ)) where
  -- a step, on one line
  abbrev pub step_format : Format (Step rationals)
  step_format = one_line (step_words names s.order) (IsWrittenStep s names)

  -- the line `steps` with their number, and then the steps of an outside block
  abbrev pub quotients_format : Format (List (Step rationals))
  quotients_format = record { text = steps_text names s.order; may = IsWrittenSteps s names }

  -- the line of a pair, and then its steps where it is treated
  abbrev pub entry_format : Format PairEntry
  entry_format = record { text = entry_text names s.order; may = IsWrittenEntry s names }

  -- the line `pairs` with their number, and then each pair
  abbrev pub pairs_format : Format (List PairEntry)
  pairs_format = record { text = pairs_text names s.order; may = IsWrittenPairs s names }

  -- a row of so many entries of the signature, with its order, on one line
  abbrev pub stored_row_format : ℕ → Format (List Ordered)
  stored_row_format cols = record { text = λ r. row_text names s.order (sums_of r); may = λ r. IsRowOf s names cols (sums_of r) × All (Belongs s) r }

  -- so many rows of so many entries, one after another, as a matrix
  abbrev pub rows_format : ℕ → ℕ → Format OperatorMatrix
  rows_format count cols = record { text = λ m. flat_map (stored_row_format cols).text m.rows; may = λ m. (m.cols ≡ cols) × (items (stored_row_format cols) count).may m.rows }

  -- the line of a matrix of this name, and then its rows
  abbrev pub matrix_format : List ℕ → Format OperatorMatrix
  matrix_format name = record { text = matrix_part names s.order name; may = IsWrittenMatrix s names }

  -- the line of a matrix of this name and of one row, and then the row
  abbrev pub row_format : List ℕ → Format (List Ordered)
  row_format name = record { text = row_part names s.order name; may = IsWrittenRow s names }

  -- an exact block, from its line `block exact` on
  abbrev pub exact_format : Format ExactBlock
  exact_format = record { text = exact_text names s.order; may = IsWrittenExact s names }

  -- an outside block, from its line `block outside` on
  abbrev pub outside_format : Format OutsideBlock
  outside_format = record { text = outside_text names s.order; may = IsWrittenOutside s names }
