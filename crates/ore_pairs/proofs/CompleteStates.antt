-- The test that a state is complete, beside the definition, and what a choice makes of such a state.
--     may_not, treatable_left, none_left     no pair may be treated where the test passes; where one may, it doesn't pass
--     not_lawful               no choice is lawful where the test passes
--     treat_within, skip_within    the rows that a lawful choice names are rows of the basis
--     tested, tests            the test passes in a complete state, and in no other
--     unlawful_step            a choice that isn't lawful leads nowhere
--     closed                   no choice is lawful in a complete state
use Rattle.std.proofs.Common.{◌≡◌, ℕ, ◌<◌, true, false, cond, not, ◌&&◌, List, length, sym, ap, ◌∙◌, true≢false, arith}
use Rattle.std.specs.declared.result.Result.TheVariants.{Err}
use Rattle.std.proofs.lemmas.Bool.{and_parts}
use Rattle.ore_algebra.specs.Domain.{Domain, HasInverses}
use Rattle.ore_monomial.specs.Term.{Term}
use Rattle.ore_monomial.specs.declared.order.Order.{Order}
use Rattle.ore_rows.specs.Arithmetic.{Arithmetic}
use Rattle.ore_rows.specs.Reduction.{leads_of}
use Rattle.ore_rows.specs.declared.choices.Choice.{Choice}
use Rattle.ore_rows.specs.declared.choices.Choice.TheVariants.{Treat, Skip}
use Rattle.ore_pairs.specs.PairList.{pairs_of}
use Rattle.ore_pairs.specs.PairRule.{may_treat, may_skip, is_lawful, none_treatable}
use Rattle.ore_pairs.specs.Run.{RunState, Unlawful, IsComplete, as_refusal, follow, step}
use Rattle.ore_pairs.specs.Runner.{is_complete}
use Rattle.ore_pairs.proofs.PairRuleLaws.{treat_from, treat_none, all_from, skip_from}
use Rattle.ore_pairs.proofs.SomePair.{not_true, pair_none, pair_some}

-- ---- by leads and listed pairs

module _ (leads : List Term) (listed : List (ℕ × ℕ)) where
  -- two rows whose pair may be treated are rows of the basis
  pub treat_within : (i j : ℕ) → may_treat leads listed i j ≡ true → (i < length leads) × (j < length leads)
  treat_within i j e =
      let h = treat_from leads listed i j e in
      let ordered = h.ordered in
      let within = h.within in
      (omega (arith, ordered, within), within)

  pub skip_within : (i j via : ℕ) → is_lawful leads listed (Skip i j via) ≡ true → (i < length leads) × (j < length leads) × (via < length leads)
  unfolding is_lawful
  skip_within i j via e =
      let h = and_parts (may_treat leads listed i j) (may_skip leads listed i j via) e in
      let both = treat_within i j h.0 in
      (both.0, both.1, (skip_from leads listed i j via h.1).within)

  pub treatable_left : (i j : ℕ) → may_treat leads listed i j ≡ true → none_treatable leads listed ≡ false
  unfolding none_treatable
  treatable_left i j e = let h = treat_within i j e in ap not (pair_some (length leads) (may_treat leads listed) i j h.0 h.1 e)

  pub may_not : none_treatable leads listed ≡ true → (i j : ℕ) → may_treat leads listed i j ≡ false
  may_not e i j = not_true (may_treat leads listed i j) (λ h. true≢false (sym e ∙ treatable_left i j h))

  pub none_left : ((i j : ℕ) → may_treat leads listed i j ≡ false) → none_treatable leads listed ≡ true
  unfolding none_treatable
  none_left h = ap not (pair_none (length leads) (may_treat leads listed) h)

  pub not_lawful : none_treatable leads listed ≡ true → (c : Choice) → is_lawful leads listed c ≡ false
  unfolding is_lawful
  not_lawful e (Treat i j) = may_not e i j
  not_lawful e (Skip i j via) = ap (λ b. b && may_skip leads listed i j via) (may_not e i j)

-- ---- states

module _ (K : Domain) (st : RunState K) where
  pub tested : IsComplete K st → is_complete K st ≡ true
  tested h = none_left (leads_of st.basis) (pairs_of st.listed) (λ i j. treat_none (leads_of st.basis) (pairs_of st.listed) i j h)

  pub tests : is_complete K st ≡ true → IsComplete K st
  tests e = all_from (leads_of st.basis) (pairs_of st.listed) (may_not (leads_of st.basis) (pairs_of st.listed) e)

module _ (K : Domain) (inverses : HasInverses K) (o : Order) (A : Arithmetic K) where
  pub unlawful_step : (st : RunState K) (c : Choice) → is_lawful (leads_of st.basis) (pairs_of st.listed) c ≡ false → step K inverses o A st c ≡ Err Unlawful
  unfolding step
  unlawful_step st c e = ap (λ b. cond b (as_refusal (follow K inverses o A st c)) (Err Unlawful)) e

  pub closed : (st : RunState K) (c : Choice) → is_complete K st ≡ true → step K inverses o A st c ≡ Err Unlawful
  closed st c e = unlawful_step st c (not_lawful (leads_of st.basis) (pairs_of st.listed) e c)
