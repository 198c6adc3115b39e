use Rattle.std.proofs.Common.{◌≡◌, ◌≢◌, List, [], true, false, cond, length, Some, IfSome, sym, ap, ◌∙◌, subst}
use Rattle.ore_course.specs.Replaying.{AreFronts}
use Rattle.ore_rows.specs.Reduction.{leads_of}
use Rattle.ore_rows.specs.declared.choices.Choice.{Choice}
use Rattle.ore_pairs.specs.PairRule.{is_lawful, may_treat, some_pair}
use Rattle.ore_pairs.proofs.PairRuleLaws.{lawful_same}
use Rattle.ore_groebner.specs.Choosing.{next_kept, present, chosen_pairs, treated_pair_count_in, with_choice, IsWithinBudget}
use Rattle.ore_groebner.specs.BasisLeads.{basis_leads}
use Rattle.ore_groebner.specs.declared.chooser.Next.TheVariants.{Complete, NoLawful}
use Rattle.ore_report.specs.Replay.{ReplayState, given_by}
use Rattle.ore_report.proofs.Replays.{fronts_of-given, fronts_next, next_within_budget, unchosen_answer, unchosen_allowed, unchosen_given}
use Rattle.ore_report.proofs.replay.ReplayChooserChooser.next.Goals as goal

pub returns-in_default-clause-answer : goal.returns-in_default-clause-answer
returns-in_default-clause-answer c =
    let ps = c.args.listed.now in
    let leads = leads_of c.args.basis.now.items in
    let is = c.unchosen.ensures ∙ ap (λ ts. cond (some_pair (length ts) (may_treat ts ps)) NoLawful Complete) c.leads-in_default.ensures in
    unchosen_answer c.args.self.now leads ps c.unchosen.result is
    (subst (λ ts. IfSome (next_kept c.args.self.now.kept (given_by c.args.self.now)) (λ d. is_lawful ts ps d ≡ false)) c.leads.ensures
    (subst (λ (s : ReplayState). IfSome (next_kept s.kept (given_by s)) (λ d. is_lawful c.leads.result.now ps d ≡ false)) c.self.view_is c.in_default.ensures))

pub returns-in_default-clause-allowed : goal.returns-in_default-clause-allowed
returns-in_default-clause-allowed c =
    let self = c.args.self.now in
    unchosen_allowed self c.leads-in_default.result.now c.args.listed.now c.unchosen.result c.unchosen.ensures (basis_leads c.args.basis.now) (chosen_pairs (present (given_by self)))

pub returns-in_default-clause-given : goal.returns-in_default-clause-given
returns-in_default-clause-given c =
    let self = c.args.self.now in
    ap given_by c.self.view_is ∙ unchosen_given self c.leads-in_default.result.now c.args.listed.now c.unchosen.result c.unchosen.ensures (given_by self)

pub push-requires : goal.push-requires
push-requires c =
    let a = c.self.inside in
    λ e. c.requires.begun (sym (ap given_by c.self.view_is) ∙ fronts_of-given a.kept a.given c.self.invariant ∙ e)

module _ (kept given : List (List Choice)) (inv : AreFronts kept given) (self : ReplayState) (view : given_by self ≡ given) (kept_is : self.kept ≡ kept) (c : Choice) (next : next_kept self.kept (given_by self) ≡ Some c) where
  next_is : next_kept kept given ≡ Some c
  next_is = sym ((λ i. next_kept (kept_is i) (view i))) ∙ next

  next_inv : given ≢ [] → (now : List (List Choice)) → now ≡ with_choice given c → AreFronts kept now
  next_inv begun now e = subst (AreFronts kept) (sym e) (fronts_next kept given c inv begun next_is)

  next_within : given ≢ [] → IsWithinBudget (given_by self) (treated_pair_count_in self.kept) c
  next_within begun = subst (λ g. IsWithinBudget g (treated_pair_count_in self.kept) c) (sym view) (subst (λ k. IsWithinBudget given (treated_pair_count_in k) c) (sym kept_is) (next_within_budget kept given c inv begun next_is))

pub invariant_of-self-3 : goal.invariant_of-self-3
invariant_of-self-3 c =
    let a = c.self.inside in
    let self = c.args.self.now in
    let view = sym (ap given_by c.self.view_is) ∙ fronts_of-given a.kept a.given c.self.invariant in
    let next = subst (λ (s : ReplayState). next_kept s.kept (given_by s) ≡ Some c.in-Some.choice) c.self.view_is c.in-Some.ensures.0 in
    next_inv a.kept a.given c.self.invariant self view (sym (ap (λ (s : ReplayState). s.kept) c.self.view_is)) c.in-Some.choice next (λ e. c.requires.begun (view ∙ e)) c.push.new.self c.in_ok-push.ensures.pushed

pub returns-clause-answer : goal.returns-clause-answer
returns-clause-answer c =
    let a = c.self.inside in
    let self = c.args.self.now in
    let view = sym (ap given_by c.self.view_is) ∙ fronts_of-given a.kept a.given c.self.invariant in
    let next = subst (λ (s : ReplayState). next_kept s.kept (given_by s) ≡ Some c.in-Some.choice) c.self.view_is c.in-Some.ensures.0 in (
      subst (λ ts. is_lawful ts c.args.listed.now c.in-Some.choice ≡ true) c.leads.ensures c.in-Some.ensures.1,
      next_within a.kept a.given c.self.invariant self view (sym (ap (λ (s : ReplayState). s.kept) c.self.view_is)) c.in-Some.choice next (λ e. c.requires.begun (view ∙ e)),
    )

pub returns-clause-allowed : goal.returns-clause-allowed
returns-clause-allowed c =
    let leads = leads_of c.args.basis.now.items in
    sym (lawful_same leads c.args.listed.now (chosen_pairs (present (given_by c.args.self.now))) c.requires.lists c.in-Some.choice)
    ∙ subst (λ ts. is_lawful ts c.args.listed.now c.in-Some.choice ≡ true) c.leads.ensures c.in-Some.ensures.1

pub returns-clause-given : goal.returns-clause-given
returns-clause-given c =
    let a = c.self.inside in
    let self = c.args.self.now in
    let view = sym (ap given_by c.self.view_is) ∙ fronts_of-given a.kept a.given c.self.invariant in
    let next = subst (λ (s : ReplayState). next_kept s.kept (given_by s) ≡ Some c.in-Some.choice) c.self.view_is c.in-Some.ensures.0 in
    let inv = next_inv a.kept a.given c.self.invariant self view (sym (ap (λ (s : ReplayState). s.kept) c.self.view_is)) c.in-Some.choice next (λ e. c.requires.begun (view ∙ e)) c.push.new.self c.in_ok-push.ensures.pushed in
    fronts_of-given a.kept c.push.new.self inv ∙ c.in_ok-push.ensures.pushed ∙ ap (λ g. with_choice g c.in-Some.choice) (sym view)
