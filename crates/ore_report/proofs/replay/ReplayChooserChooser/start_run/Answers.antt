use Rattle.std.proofs.Common.{[], ◌∷◌, ◌++◌, sym, ap, ◌∙◌, subst}
use Rattle.ore_course.specs.Replaying.{AreFronts}
use Rattle.ore_report.specs.Replay.{given_by}
use Rattle.ore_report.proofs.Replays.{fronts_begun, fronts_of-given}
use Rattle.ore_report.proofs.replay.ReplayChooserChooser.start_run.Goals as goal

pub invariant_of-self-2 : goal.invariant_of-self-2
invariant_of-self-2 c = let a = c.self.inside in subst (AreFronts a.kept) (sym c.in_ok-begin.ensures.begun) (fronts_begun a.kept a.given c.self.invariant)

pub returns-clause-begun : goal.returns-clause-begun
returns-clause-begun c =
    let a = c.self.inside in
    let fronts = subst (AreFronts a.kept) (sym c.in_ok-begin.ensures.begun) (fronts_begun a.kept a.given c.self.invariant) in
    fronts_of-given a.kept c.begin.new.self fronts ∙ c.in_ok-begin.ensures.begun ∙ ap (λ g. g ++ [] ∷ []) (sym (fronts_of-given a.kept a.given c.self.invariant) ∙ ap given_by c.self.view_is)
