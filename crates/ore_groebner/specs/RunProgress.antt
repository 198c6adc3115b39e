-- What the code keeps of a run, beside the states of a run.
--     monic_with          a row and its cofactor row, with a lead
--     basis_with          some basis rows, and one more that is made
--     entries_from        the entries of events, where so many basis rows stood before the first
--     new_rows            how many events made a basis row
--     run_state           the state that is kept
--     IsProgressOf        the parts that are kept fit together
--     choice_of, choices_of    the choice that an event follows, and those of some events
--     HasShapeOf          the widths are the same, and one more choice was followed
--     with_basis_row      the state with one more basis row that is made
--     IsBegun             nothing was done with any pair
--     HasWidthsOf         the widths are the same
use Rattle.std.specs.Prelude.{◌≡◌, ℕ, suc, ◌+◌, List, [], ◌∷◌, ◌++◌, length, map}
use Rattle.std.specs.List.{All}
use Rattle.std.specs.declared.result.Result.{Result}
use Rattle.std.specs.declared.result.Result.TheVariants.{Ok}
use Rattle.ore_algebra.specs.Limits.{Cause, ◌>>=◌}
use Rattle.ore_rational.specs.Field.{rationals}
use Rattle.ore_monomial.specs.Monomial.{unit}
use Rattle.ore_monomial.specs.Signature.{Signature}
use Rattle.ore_monomial.specs.Term.{Term}
use Rattle.ore_ring.specs.Belongs.{Belongs}
use Rattle.ore_ring.specs.Ordered.{Ordered}
use Rattle.ore_rows.specs.Reduction.{BasisRow}
use Rattle.ore_rows.specs.Rows.{Row}
use Rattle.ore_pairs.specs.PairList.{DealtPair, pairs_of}
use Rattle.ore_pairs.specs.PairList as pair
use Rattle.ore_pairs.specs.PairRule.{HaveSamePairs}
use Rattle.ore_pairs.specs.Run.{RunState}
use Rattle.ore_rows.specs.Stored.{sums_of}
use Rattle.ore_rows.specs.StoredBasis.{BasisBelongs, monics}
use Rattle.ore_rows.specs.declared.choices.Choice.{Choice}
use Rattle.ore_rows.specs.declared.choices.Choice.TheVariants.{Treat, Skip}
use Rattle.ore_groebner.specs.declared.outcome.Event.{Event}
use Rattle.ore_groebner.specs.declared.outcome.Event.TheVariants.{Treated, Skipped}
use Rattle.ore_groebner.specs.declared.outcome.Outcome.TheVariants.{Zero, NewRow}
use Rattle.ore_groebner.specs.declared.progress.Progress.{Progress}

abbrev pub monic_with : Term → List Ordered × List Ordered → BasisRow (Row rationals)
monic_with t p = record { row = sums_of p.0; cofactor = sums_of p.1; lead = t }

-- some basis rows, and one more that is made
abbrev pub basis_with : List (BasisRow (Row rationals)) → Result (BasisRow (Row rationals)) Cause → Result (List (BasisRow (Row rationals))) Cause
basis_with basis made = made >>= λ b. Ok (basis ++ b ∷ [])

-- the last step of a treated pair that made a row has its lead coefficient and its place
unfoldable pub entries_from : ℕ → List Event → List (DealtPair rationals)
entries_from n [] = []
entries_from n (Treated i j steps Zero ∷ es) = pair.Pair i j steps ∷ entries_from n es
entries_from n (Treated i j steps (NewRow k) ∷ es) = pair.Pair i j (steps ++ record { index = n; monomial = unit; number = k } ∷ []) ∷ entries_from (suc n) es
entries_from n (Skipped i j via ∷ es) = pair.Skip i j via ∷ entries_from n es

unfoldable pub new_rows : List Event → ℕ
new_rows [] = 0
new_rows (Treated i j steps Zero ∷ es) = new_rows es
new_rows (Treated i j steps (NewRow k) ∷ es) = suc (new_rows es)
new_rows (Skipped i j via ∷ es) = new_rows es

abbrev pub run_state : Progress → RunState rationals
run_state p = record { basis = monics p.basis; listed = entries_from p.first p.events.items; syzygies = map sums_of p.syzygies.items; origins = p.origins.items }

pub record IsProgressOf (s : Signature) (p : Progress) : Type 0 where
  pub belongs : BasisBelongs s p.basis.items
  pub listed : HaveSamePairs p.listed (pairs_of (entries_from p.first p.events.items))
  pub counted : length p.basis.items ≡ p.first + new_rows p.events.items
  pub wide : All (λ r. length r ≡ p.basis.width) p.syzygies.items
  pub of : All (All (Belongs s)) p.syzygies.items

abbrev pub choice_of : Event → Choice
choice_of (Treated i j steps outcome) = Treat i j
choice_of (Skipped i j via) = Skip i j via

abbrev pub choices_of : List Event → List Choice
choices_of es = map choice_of es

-- the number of first rows, and the numbers of columns and of cofactors, are the same; the last event follows the choice
pub record HasShapeOf (p : Progress) (c : Choice) (q : Progress) : Type 0 where
  pub first : q.first ≡ p.first
  pub cols : q.basis.cols ≡ p.basis.cols
  pub width : q.basis.width ≡ p.basis.width
  pub events : choices_of q.events.items ≡ choices_of p.events.items ++ c ∷ []

-- ---- the first basis

-- one more basis row that is made
abbrev pub with_basis_row : RunState rationals → Result (BasisRow (Row rationals)) Cause → Result (RunState rationals) Cause
with_basis_row st made = made >>= λ b. Ok (record st { basis = st.basis ++ b ∷ [] })

-- nothing was done with any pair
pub record IsBegun (p : Progress) : Type 0 where
  pub events : p.events.items ≡ []
  pub listed : p.listed ≡ []

-- the numbers of columns and of cofactors are the same
pub record HasWidthsOf (p q : Progress) : Type 0 where
  pub cols : q.basis.cols ≡ p.basis.cols
  pub width : q.basis.width ≡ p.basis.width
