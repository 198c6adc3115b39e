-- What the chain rule allows: one choice, while a pair may be treated, and that the budget is spent where it is a
-- treatment.
--     none_some, some_same, some_is      whether there is a least row, and which
--     one_choice, spent_where, some_choice, all_lawful     what the law function promises
--     strict                   of runs it is a strict rule
--     next_same, via_same, choice_same, by_pairs           lists with the same pairs
--     answer_same             an answer that is allowed by one of them
use Rattle.std.proofs.Common.{◌≡◌, ℕ, true, List, length, refl, sym, ap, ap₂, ◌∙◌, true≢false, arith}
use Rattle.std.specs.Prelude.{◌&&◌, not, nat_eq, is_none}
use Rattle.std.specs.List.{range_with_len, position}
use Rattle.std.specs.Option.{option_eq}
use Rattle.std.specs.Ordering.{is_lt}
use Rattle.std.specs.declared.option.Option.{Option}
use Rattle.std.specs.declared.option.Option.TheVariants.{None, Some}
use Rattle.std.proofs.lemmas.Bool.{and_parts}
use Rattle.std.proofs.lemmas.Bool.Decides.{nat_tests}
use Rattle.ore_monomial.specs.Term.{Term}
use Rattle.ore_monomial.specs.declared.order.Order.{Order}
use Rattle.ore_pairs.specs.PairRule.{HaveSamePairs, is_lawful, some_pair}
use Rattle.ore_pairs.proofs.PairRuleLaws.{treat_same, skip_same}
use Rattle.ore_pairs.proofs.SomePair.{some_pair_is}
use Rattle.ore_rows.specs.declared.choices.Choice.{Choice}
use Rattle.ore_rows.specs.declared.choices.Choice.TheVariants.{Treat, Skip}
use Rattle.ore_pairs.specs.PairList.{pairs_of}
use Rattle.ore_pairs.specs.Reached.{state_leads}
use Rattle.ore_pairs.specs.Runner.{treats_pair}
use Rattle.ore_groebner.specs.Rules.{IsAllowed}
use Rattle.ore_groebner.specs.BasisLeads.{BasisLeads}
use Rattle.ore_groebner.specs.declared.chooser.Next.{Next}
use Rattle.ore_groebner.specs.declared.chooser.Next.TheVariants.{Choose, Complete, Spent, NoLawful}
use Rattle.ore_report.specs.ChainRule.{order_shown, pair_cmp, is_next, least_via, chain_allows, chain_allows_spent}
use Rattle.ore_report.specs.RuleLaw.{AllowsOneChoice, AllowsSomeChoice, AllowsLawful, AllowsSpentAtTreatment, AllowsByPairs, IsStrictRule}
use Rattle.ore_report.proofs.Lawful.{treat_allowed, skip_allowed, spent_allowed}
use Rattle.ore_report.proofs.Nexts.{next_from, next_one}
use Rattle.ore_report.proofs.Leasts.{some_next}
use Rattle.ore_report.proofs.Vias.{via_is}

none_some : (o : Option ℕ) (n : ℕ) → is_none o ≡ true → option_eq nat_eq o (Some n) ≡ true → ⊥
none_some None n h k = true≢false (sym k)
none_some (Some m) n h k = true≢false (sym h)

some_same : (o : Option ℕ) (m n : ℕ) → option_eq nat_eq o (Some m) ≡ true → option_eq nat_eq o (Some n) ≡ true → m ≡ n
some_same None m n h k = absurd (true≢false (sym h))
some_same (Some x) m n h k = grind (arith, nat_tests)

pub one_choice : AllowsOneChoice chain_allows
one_choice shown ps c d = by c d
  where
    same : (i j x y : ℕ) → is_next (order_shown shown) shown.leads ps i j ≡ true → is_next (order_shown shown) shown.leads ps x y ≡ true → (i ≡ x) × (j ≡ y)
    same i j x y h k = next_one (order_shown shown) shown.leads ps i j x y (next_from (order_shown shown) shown.leads ps i j h) (next_from (order_shown shown) shown.leads ps x y k)

    by : (c d : Choice) → chain_allows shown ps c ≡ true → chain_allows shown ps d ≡ true → c ≡ d
    by (Treat i j) (Treat x y) h k =
        let a = and_parts (is_next (order_shown shown) shown.leads ps i j) (is_none (least_via shown.leads ps i j)) h in
        let b = and_parts (is_next (order_shown shown) shown.leads ps x y) (is_none (least_via shown.leads ps x y)) k in
        let e = same i j x y a.0 b.0 in
        ap₂ Treat e.0 e.1
    by (Treat i j) (Skip x y via) h k =
        let a = and_parts (is_next (order_shown shown) shown.leads ps i j) (is_none (least_via shown.leads ps i j)) h in
        let b = and_parts (is_next (order_shown shown) shown.leads ps x y) (option_eq nat_eq (least_via shown.leads ps x y) (Some via)) k in
        let e = same i j x y a.0 b.0 in
        absurd (none_some (least_via shown.leads ps x y) via (ap₂ (λ p q. is_none (least_via shown.leads ps p q)) (sym e.0) (sym e.1) ∙ a.1) b.1)
    by (Skip i j via) (Treat x y) h k =
        let a = and_parts (is_next (order_shown shown) shown.leads ps i j) (option_eq nat_eq (least_via shown.leads ps i j) (Some via)) h in
        let b = and_parts (is_next (order_shown shown) shown.leads ps x y) (is_none (least_via shown.leads ps x y)) k in
        let e = same i j x y a.0 b.0 in
        absurd (none_some (least_via shown.leads ps i j) via (ap₂ (λ p q. is_none (least_via shown.leads ps p q)) e.0 e.1 ∙ b.1) a.1)
    by (Skip i j via) (Skip x y third) h k =
        let a = and_parts (is_next (order_shown shown) shown.leads ps i j) (option_eq nat_eq (least_via shown.leads ps i j) (Some via)) h in
        let b = and_parts (is_next (order_shown shown) shown.leads ps x y) (option_eq nat_eq (least_via shown.leads ps x y) (Some third)) k in
        let e = same i j x y a.0 b.0 in
        let f = some_same (least_via shown.leads ps i j) via third a.1 (ap₂ (λ p q. option_eq nat_eq (least_via shown.leads ps p q) (Some third)) e.0 e.1 ∙ b.1) in
        ap₂ (λ p q. Skip p q via) e.0 e.1 ∙ ap (Skip x y) f

pub spent_where : AllowsSpentAtTreatment chain_allows chain_allows_spent
spent_where shown ps = (
  λ h. some_pair_is (length shown.leads) (λ i j. chain_allows shown ps (Treat i j)) h,
  λ h. spent_allowed shown ps h.0 h.1 (and_parts (is_next (order_shown shown) shown.leads ps h.0 h.1) (is_none (least_via shown.leads ps h.0 h.1)) h.2).0 h.2,
)

pub some_choice : AllowsSomeChoice chain_allows
some_choice shown ps i j e =
    let next = some_next (order_shown shown) shown.leads ps i j e in
    by next.0 next.1 next.2 (least_via shown.leads ps next.0 next.1) refl
  where
    by : (x y : ℕ) → is_next (order_shown shown) shown.leads ps x y ≡ true → (o : Option ℕ) → o ≡ least_via shown.leads ps x y → (c : Choice) × (chain_allows shown ps c ≡ true)
    by x y h None f = (Treat x y, treat_allowed shown ps x y h f)
    by x y h (Some via) f = (Skip x y via, skip_allowed shown ps x y h via f)

some_is : (o : Option ℕ) (n : ℕ) → option_eq nat_eq o (Some n) ≡ true → o ≡ Some n
some_is None n h = absurd (true≢false (sym h))
some_is (Some m) n h = ap Some (let e : m ≡ n = grind (arith, nat_tests) in e)

pub all_lawful : AllowsLawful chain_allows
unfolding is_lawful
all_lawful shown ps (Treat i j) h = (next_from (order_shown shown) shown.leads ps i j (and_parts (is_next (order_shown shown) shown.leads ps i j) (is_none (least_via shown.leads ps i j)) h).0).may
all_lawful shown ps (Skip i j via) h =
    let parts = and_parts (is_next (order_shown shown) shown.leads ps i j) (option_eq nat_eq (least_via shown.leads ps i j) (Some via)) h in
    λ n. (next_from (order_shown shown) shown.leads ps i j parts.0).may n && (via_is shown.leads ps i j via (some_is (least_via shown.leads ps i j) via parts.1)).1 n

-- where a treatment may come and a choice may, the choice is that treatment
pub strict : IsStrictRule chain_allows chain_allows_spent
strict l s = record {
  one = λ st c d h k. one_choice (state_leads s st) (pairs_of st.listed) c d h k;
  treats_last = λ st c spent h.
      let treatment = (spent_where (state_leads s st) (pairs_of st.listed)).0 spent in
      ap treats_pair (one_choice (state_leads s st) (pairs_of st.listed) c (Treat treatment.0 treatment.1) h treatment.2);
}

-- ---- lists with the same pairs

module _ (o : Order) (leads : List Term) (ps qs : List (ℕ × ℕ)) (same : HaveSamePairs ps qs) where
  next_same : (i j : ℕ) → is_next o leads ps i j ≡ is_next o leads qs i j
  unfolding is_next
  next_same i j = λ n. treat_same leads ps i j qs (same i j) n && not (some_pair (length leads) (λ x y. treat_same leads ps x y qs (same x y) n && is_lt (pair_cmp o leads (x, y) (i, j))))

  via_same : (i j : ℕ) → least_via leads ps i j ≡ least_via leads qs i j
  unfolding least_via
  via_same i j = λ n. position (λ via. skip_same leads ps i j via qs same n) (range_with_len 0 (length leads))

choice_same : (shown : BasisLeads) (ps qs : List (ℕ × ℕ)) → HaveSamePairs ps qs → (c : Choice) → chain_allows shown ps c ≡ chain_allows shown qs c
choice_same shown ps qs same (Treat i j) = λ n. next_same (order_shown shown) shown.leads ps qs same i j n && is_none (via_same (order_shown shown) shown.leads ps qs same i j n)
choice_same shown ps qs same (Skip i j via) = λ n. next_same (order_shown shown) shown.leads ps qs same i j n && option_eq nat_eq (via_same (order_shown shown) shown.leads ps qs same i j n) (Some via)

pub by_pairs : AllowsByPairs chain_allows chain_allows_spent
by_pairs shown ps qs same = (choice_same shown ps qs same, λ n. some_pair (length shown.leads) (λ i j. choice_same shown ps qs same (Treat i j) n))

-- an answer that the rule allows by one list it allows by the other
pub answer_same : (shown : BasisLeads) (ps qs : List (ℕ × ℕ)) → HaveSamePairs ps qs → (x : Next) → IsAllowed chain_allows chain_allows_spent shown ps x → IsAllowed chain_allows chain_allows_spent shown qs x
answer_same shown ps qs same (Choose c) h = sym (choice_same shown ps qs same c) ∙ h
answer_same shown ps qs same Complete h = tt
answer_same shown ps qs same Spent h = sym (by_pairs shown ps qs same).1 ∙ h
answer_same shown ps qs same NoLawful h = tt
