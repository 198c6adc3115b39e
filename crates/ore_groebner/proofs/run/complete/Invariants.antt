use Rattle.std.proofs.Common.{◌≡◌, ◌≢◌, []}
use Rattle.ore_groebner.specs.Choosing.{present, AreWithinBudget}
use Rattle.ore_groebner.specs.Following.{earlier, IsLed}
use Rattle.ore_groebner.specs.BasisLeads.{BeginsWithLeads}
use Rattle.ore_groebner.proofs.Bounding.{rows_left}
use Rattle.ore_groebner.proofs.Unlisted.{unlisted}
use Rattle.ore_groebner.proofs.run.complete.Given as goal

abbrev pub invariant-loop-progress : goal.invariant-loop-progress
invariant-loop-progress g l = record {
  begun : g.C.Chooser.given l.chooser ≢ [];
  led : IsLed (g.R.OreRing.sig l.ring) l.a g.C.Rule.allows (present (g.C.Chooser.given l.chooser)) l.progress;
  grown : BeginsWithLeads (g.C.Chooser.shown l.chooser) l.progress.basis;
  earlier : earlier (g.C.Chooser.given l.chooser) ≡ earlier (g.C.Chooser.given l.fn.chooser);
  within_budget : AreWithinBudget (g.C.Chooser.given l.fn.chooser) (g.C.Chooser.settings l.fn.chooser).budget → AreWithinBudget (g.C.Chooser.given l.chooser) (g.C.Chooser.settings l.chooser).budget;
  settings : g.C.Chooser.settings l.chooser ≡ g.C.Chooser.settings l.fn.chooser;
}

abbrev pub decreases-loop-progress : goal.decreases-loop-progress
decreases-loop-progress g l = unlisted l.progress.listed (rows_left l.progress.basis (g.C.Chooser.given l.chooser) (g.C.Chooser.settings l.chooser).budget)
