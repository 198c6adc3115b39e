use Rattle.std.proofs.Common.{ap, sym, ◌∙◌}
use Rattle.std.specs.declared.result.Result.TheVariants.{Ok}
use Rattle.ore_rows.specs.declared.choices.Choice.TheVariants as choices
use Rattle.ore_groebner.specs.RunProgress.{run_state}
use Rattle.ore_groebner.proofs.LawfulSteps.{lawful_treat, lawful_kept, skip_followed}
use Rattle.ore_groebner.proofs.following.follow_skip.Goals as goal

pub returns : goal.returns
returns c =
    let s = c.args.sig.now in
    let p = c.args.progress in
    let lawful = lawful_kept s p (choices.Skip c.args.i c.args.j c.args.via) c.requires.fits c.requires.lawful in
    let e = c.in_ok-skip.ensures in
    record {
      followed = record {
        made = skip_followed s (run_state p) c.args.i c.args.j c.args.via lawful ∙ ap Ok (sym e.state);
        fits = e.fits s c.requires.fits;
        shape = e.shape;
        listed = e.listed;
      };
    }

pub skip-requires : goal.skip-requires
skip-requires c = (lawful_treat _ _ (choices.Skip c.args.i c.args.j c.args.via) c.requires.lawful).ordered
