use Rattle.std.proofs.Common.{◌≡◌, false, IfSome, sym, ap, ap₂, ◌∙◌, subst}
use Rattle.ore_pairs.specs.PairRule.{is_lawful}
use Rattle.ore_groebner.specs.Choosing.{next_kept}
use Rattle.ore_report.specs.Replay.{ReplayState, given_by}
use Rattle.ore_report.proofs.Replays.{fronts_of-given}
use Rattle.ore_report.proofs.replay.ReplayChooser.lawful_next.Goals as goal

pub next_kept-requires : goal.next_kept-requires
next_kept-requires c =
    let a = c.self.inside in
    let g = sym (fronts_of-given a.kept a.given c.self.invariant) ∙ ap given_by c.self.view_is in
    record { begun = λ e. c.requires.begun (sym g ∙ sym c.runs-2.ensures ∙ e) }

pub returns-in_default : goal.returns-in_default
returns-in_default c =
    let a = c.self.inside in
    let g = sym (fronts_of-given a.kept a.given c.self.invariant) ∙ ap given_by c.self.view_is in
    let n = c.next_kept.ensures ∙ ap₂ next_kept (c.runs.ensures ∙ ap (λ (s : ReplayState). s.kept) c.self.view_is) (c.runs-2.ensures ∙ g) in
    subst (λ o. IfSome o (λ d. is_lawful c.args.leads.now c.args.listed.now d ≡ false)) (sym c.in_default.is ∙ n) tt

pub returns-then-is_lawful : goal.returns-then-is_lawful
returns-then-is_lawful c =
    let a = c.self.inside in
    let g = sym (fronts_of-given a.kept a.given c.self.invariant) ∙ ap given_by c.self.view_is in
    let n = c.next_kept.ensures ∙ ap₂ next_kept (c.runs.ensures ∙ ap (λ (s : ReplayState). s.kept) c.self.view_is) (c.runs-2.ensures ∙ g) in
    (sym n ∙ c.in-Some.is, sym c.is_lawful.ensures ∙ c.if-is_lawful.true)

pub returns-else-is_lawful : goal.returns-else-is_lawful
returns-else-is_lawful c =
    let a = c.self.inside in
    let g = sym (fronts_of-given a.kept a.given c.self.invariant) ∙ ap given_by c.self.view_is in
    let n = c.next_kept.ensures ∙ ap₂ next_kept (c.runs.ensures ∙ ap (λ (s : ReplayState). s.kept) c.self.view_is) (c.runs-2.ensures ∙ g) in
    subst (λ o. IfSome o (λ d. is_lawful c.args.leads.now c.args.listed.now d ≡ false)) (sym c.in-Some.is ∙ n) (sym c.is_lawful.ensures ∙ c.if-is_lawful.false)
