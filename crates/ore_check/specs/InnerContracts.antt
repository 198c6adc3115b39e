-- What the contracts of inner functions speak of, beside the conditions and the lines.
--     IsLow         the lines of a layout are so low that sums of a few of them fit into 128 bits
--     place_of      the place that a refusal names
--     answer_stop   the stop that an answer tells of
--     matrix_before, last_two      the matrix before a link; the last two matrices of a resolution
--     check_link    the conditions of one link
--     AreSameLine   two lines are the same, or the answer has 2^64 - 1 for both
--     behind_first  the line behind the first k of some links
use Rattle.std.specs.Prelude.{◌≡◌, ◌⊎◌, ◌+◌, ◌-◌, ◌<◌, ◌≤◌, ◌^◌, ℕ, zero, suc, nat_eq, List, [], ◌∷◌, length}
use Rattle.std.specs.declared.result.Result.{Result}
use Rattle.std.specs.declared.result.Result.TheVariants.{Ok, Err}
use Rattle.ore_algebra.specs.Limits.{Limits}
use Rattle.ore_algebra.specs.Results.{◌>>=◌}
use Rattle.ore_monomial.specs.Signature.{Signature}
use Rattle.ore_monomial.specs.declared.stop.RingStop.{RingStop}
use Rattle.ore_monomial.specs.declared.stop.RingStop.TheVariants as stop
use Rattle.ore_rows.specs.Stored.{OperatorMatrix}
use Rattle.ore_parts.specs.declared.block.Link.{Link}
use Rattle.ore_blocks.specs.CheckBlock.{RowMatrix, row_matrix_of, check_exact}
use Rattle.ore_blocks.specs.Conditions.{Checked, required}
use Rattle.ore_blocks.specs.declared.place.Name.TheVariants.{Generators}
use Rattle.ore_blocks.specs.declared.place.Place.{Place}
use Rattle.ore_blocks.specs.declared.place.Place.TheVariants.{End, Header}
use Rattle.ore_blocks.specs.declared.place.Section.TheVariants as section
use Rattle.ore_blocks.specs.declared.reason.Reason.TheVariants.{Shape}
use Rattle.ore_blocks.specs.declared.refusal.Refusal.{Refusal}
use Rattle.ore_blocks.specs.declared.refusal.Refusal.TheVariants as refusal
use Rattle.ore_check.specs.declared.answer.Checked.{Checked as Answer}
use Rattle.ore_check.specs.declared.answer.Checked.TheVariants as answer
use Rattle.ore_check.specs.declared.layout.Layout.{Layout}
use Rattle.ore_check.specs.Layout.{link_layout}

-- the lines before the pairs are far below those behind them
pub record IsLow (l : Layout) : Type 0 where
  pub claim : l.claim < 2 ^ 70
  pub block : l.block < 2 ^ 70
  pub from : l.from < 2 ^ 70
  pub to : l.to < 2 ^ 70
  pub pairs : l.pairs < 2 ^ 70
  pub inside : l.inside < 2 ^ 127 + 2 ^ 71
  pub steps : l.steps < 2 ^ 127 + 2 ^ 71
  pub rest : l.rest < 2 ^ 127 + 2 ^ 72

-- want of memory has no place
abbrev pub place_of : Refusal → Place
place_of (refusal.Fails place reason) = place
place_of (refusal.Overflow place) = place
place_of (refusal.Degree place) = place
place_of refusal.Memory = End

-- none where each place is right, or a condition fails
abbrev pub answer_stop : Answer → Result (Unit {0}) RingStop
answer_stop answer.Valid = Ok tt
answer_stop (answer.Invalid line why) = Ok tt
answer_stop (answer.Overflow line) = Err stop.Overflow
answer_stop (answer.Degree line) = Err stop.Degree
answer_stop answer.Memory = Err stop.Memory

-- the matrix r of the problem before the first link, else that of the link before
unfoldable pub matrix_before : OperatorMatrix → List Link → ℕ → OperatorMatrix
matrix_before r ks zero = r
matrix_before r [] (suc k) = r
matrix_before r (x ∷ ks) (suc k) = matrix_before x.l ks k

-- the matrix before the last link, and that of the last link
abbrev pub last_two : OperatorMatrix → List Link → RowMatrix × RowMatrix
last_two r ks = (row_matrix_of (matrix_before r ks (length ks - 1)), row_matrix_of (matrix_before r ks (length ks)))

-- of link i, on the matrix before it
unfoldable pub check_link : Limits → Signature → ℕ → RowMatrix → Link → Checked (Unit {0})
check_link l s i before k = do
  _ ← required (Header (section.Link i) Generators) Shape (nat_eq k.l.cols (length before.rows))
  check_exact l s (section.Link i) before (row_matrix_of k.l) k.block

-- equal, or past 2^64 - 1
abbrev pub AreSameLine : ℕ → ℕ → Type 0
AreSameLine a b = (a ≡ b) ⊎ ((2 ^ 64 ≤ a) × (2 ^ 64 ≤ b))

-- where the first of them begins at a line
unfoldable pub behind_first : ℕ → List Link → ℕ → ℕ
behind_first line ks zero = line
behind_first line [] (suc k) = line
behind_first line (x ∷ ks) (suc k) = behind_first (link_layout line x).end ks k
