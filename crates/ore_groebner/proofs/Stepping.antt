-- A choice adds at most one basis row, and only where it treats a pair.
--     IsLonger        a state has basis rows behind those of another, no more than so many
--     with_row_longer, remainder_longer, treat_longer    treating a pair makes such a state
--     follow_longer, step_longer     so does a choice
use Rattle.std.proofs.Common.{◌≡◌, ℕ, ◌≤◌, List, [], ◌∷◌, ◌++◌, length, refl, sym, ap, ◌∙◌, arith}
use Rattle.std.specs.declared.option.Option.{Option}
use Rattle.std.specs.declared.option.Option.TheVariants.{None, Some}
use Rattle.std.specs.declared.result.Result.{Result}
use Rattle.std.specs.declared.result.Result.TheVariants.{Ok, Err}
use Rattle.std.proofs.lemmas.List.{append-nil}
use Rattle.ore_algebra.specs.Limits.{Cause, program, ◌>>=◌}
use Rattle.ore_rational.specs.Field.{rationals, rational_inverses}
use Rattle.ore_monomial.specs.Monomial.{unit}
use Rattle.ore_monomial.specs.Signature.{Signature}
use Rattle.ore_monomial.specs.Term.{Term}
use Rattle.ore_rows.specs.Arithmetic.{Arithmetic, within}
use Rattle.ore_rows.specs.Reduction.{BasisRow, ReductionState, reduce}
use Rattle.ore_rows.specs.RowLead.{coefficient_at, row_lead}
use Rattle.ore_rows.specs.Rows.{Row}
use Rattle.ore_pairs.specs.Run.{RunState, entries_with, s_rows, monic_multiple, with_syzygy, with_row, with_remainder, treat, follow}
use Rattle.ore_rows.specs.declared.choices.Choice.{Choice}
use Rattle.ore_pairs.specs.PairList as pair
use Rattle.ore_rows.specs.declared.choices.Choice.TheVariants.{Treat, Skip}
use Rattle.ore_course.specs.Choices as course
use Rattle.ore_groebner.specs.Choosing.{treated_pair_count}
use Rattle.ore_groebner.specs.Following.{state_after_choice}
use Rattle.ore_groebner.proofs.Limited.{step_given}
use Rattle.ore_algebra.proofs.ResultLaws.{no_ok, same_ok, bound}

abbrev pub IsLonger : RunState rationals → RunState rationals → ℕ → Type 0
IsLonger st next n = (rest : List (BasisRow (Row rationals))) × (next.basis ≡ st.basis ++ rest) × (length rest ≤ n)

module _ (s : Signature) (st next : RunState rationals) where
  abbrev arithmetic : Arithmetic rationals
  arithmetic = within program s

  no_longer : (n : ℕ) → next.basis ≡ st.basis → IsLonger st next n
  no_longer n e = ([], e ∙ sym (append-nil st.basis), omega arith)

  with_row_longer : (i j : ℕ) (w : ReductionState rationals) (t : Term) → with_row rationals rational_inverses arithmetic st i j w t ≡ Ok next → IsLonger st next 1
  unfolding with_row
  with_row_longer i j w t e =
      let x = bound (monic_multiple rationals rational_inverses arithmetic w.row w.cofactor t) (λ b. Ok (record { basis = st.basis ++ b ∷ []; listed = entries_with rationals st (pair.Pair i j (w.steps ++ record { index = length st.basis; monomial = unit; number = coefficient_at rationals w.row t } ∷ [])); syzygies = st.syzygies; origins = st.origins })) next e in
      (x.0 ∷ [], ap (λ (q : RunState rationals). q.basis) (sym (same_ok _ next x.2)), omega arith)

  remainder_longer : (i j : ℕ) (w : ReductionState rationals) → with_remainder rationals rational_inverses s.order arithmetic st i j w ≡ Ok next → IsLonger st next 1
  unfolding with_remainder with_syzygy
  remainder_longer i j w e = by (row_lead rationals s.order w.row) e
    where
      by : (x : Option Term) → ◌≡◌ {A = Result (RunState rationals) Cause} (elim x [ None ↦ Ok (with_syzygy rationals s.order st i j w) | Some t ↦ with_row rationals rational_inverses arithmetic st i j w t ]) (Ok next) → IsLonger st next 1
      by None e = no_longer 1 (ap (λ (q : RunState rationals). q.basis) (sym (same_ok (with_syzygy rationals s.order st i j w) next e)))
      by (Some t) e = with_row_longer i j w t e

  treat_longer : (i j : ℕ) → treat rationals rational_inverses s.order arithmetic st i j ≡ Ok next → IsLonger st next 1
  unfolding treat
  treat_longer i j e =
      let x = bound (s_rows rationals arithmetic st.basis i j) (λ start. reduce rationals s.order arithmetic st.basis start >>= λ rest. with_remainder rationals rational_inverses s.order arithmetic st i j rest) next e in
      let y = bound (reduce rationals s.order arithmetic st.basis x.0) (λ rest. with_remainder rationals rational_inverses s.order arithmetic st i j rest) next x.2 in
      remainder_longer i j y.0 y.2

  follow_longer : (c : Choice) → follow rationals rational_inverses s.order arithmetic st c ≡ Ok next → IsLonger st next (treated_pair_count (c ∷ []))
  unfolding follow course.treatment_count course.cost
  follow_longer (Treat i j) e = treat_longer i j e
  follow_longer (Skip i j via) e = no_longer 0 (ap (λ (q : RunState rationals). q.basis) (sym (same_ok _ next e)))

  pub step_longer : (c : Choice) → state_after_choice s st c ≡ Ok next → IsLonger st next (treated_pair_count (c ∷ []))
  step_longer c e = follow_longer c (step_given rationals rational_inverses s.order arithmetic st next c e).1
