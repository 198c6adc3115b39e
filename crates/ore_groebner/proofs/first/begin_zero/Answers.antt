use Rattle.std.proofs.Common.{refl}
use Rattle.ore_groebner.proofs.ProgressParts.{more_syzygies}
use Rattle.ore_groebner.proofs.first.begin_zero.Goals as goal

pub returns-clause-fits : goal.returns-clause-fits
returns-clause-fits c = more_syzygies c.args.sig.now c.args.progress _ c.args.unit c.requires.fits refl refl refl refl c.in_ok-push.ensures.items c.requires.width c.requires.of
