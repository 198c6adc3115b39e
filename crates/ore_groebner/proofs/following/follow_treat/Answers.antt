use Rattle.std.proofs.Common.{◌<◌, subst, sym}
use Rattle.std.proofs.lemmas.List.{length-map}
use Rattle.ore_groebner.specs.Following.{IsStopOf}
use Rattle.ore_groebner.specs.RunProgress.{run_state}
use Rattle.ore_rows.specs.declared.choices.Choice.TheVariants as choices
use Rattle.ore_groebner.proofs.LawfulSteps.{lawful_treat, lawful_kept, treat_followed, treat_stops}
use Rattle.ore_groebner.proofs.following.follow_treat.Goals as goal

pub returns-in-Ok-clause-followed : goal.returns-in-Ok-clause-followed
returns-in-Ok-clause-followed g c =
    let s = g.R.OreRing.sig c.args.ring.now in
    let p = c.args.progress in
    let lawful = lawful_kept s p (choices.Treat c.args.i c.args.j) c.requires.fits c.requires.lawful in
    let e = c.in-Ok.ensures in
    record {
      made = treat_followed s (run_state p) c.args.i c.args.j lawful _ e.gives;
      fits = e.fits;
      shape = e.shape;
      listed = e.listed;
    }

pub returns-in-Err-clause-halted : goal.returns-in-Err-clause-halted
returns-in-Err-clause-halted g c =
    let s = g.R.OreRing.sig c.args.ring.now in
    let p = c.args.progress in
    let lawful = lawful_kept s p (choices.Treat c.args.i c.args.j) c.requires.fits c.requires.lawful in
    subst (IsStopOf s (run_state p) (choices.Treat c.args.i c.args.j)) (sym c.halt_at.ensures) (treat_stops s (run_state p) c.args.i c.args.j lawful c.in-Err.stop c.in-Err.ensures.gives)

pub treat-requires-clause-ordered : goal.treat-requires-clause-ordered
treat-requires-clause-ordered g c = (lawful_treat _ _ (choices.Treat c.args.i c.args.j) c.requires.lawful).ordered

pub treat-requires-clause-inside : goal.treat-requires-clause-inside
treat-requires-clause-inside g c = subst (λ n. c.args.j < n) (length-map c.args.progress.basis.items (λ b. b.lead)) (lawful_treat _ _ (choices.Treat c.args.i c.args.j) c.requires.lawful).within

pub treat-requires-clause-columns : goal.treat-requires-clause-columns
treat-requires-clause-columns g c = (lawful_treat _ _ (choices.Treat c.args.i c.args.j) c.requires.lawful).columns
