use Rattle.std.proofs.Common.{sym, subst}
use Rattle.ore_algebra.specs.Limits.{program}
use Rattle.ore_monomial.specs.Gives.{Gives}
use Rattle.ore_blocks.specs.CheckBlock.{row_matrix_of}
use Rattle.ore_check.specs.Check.{check}
use Rattle.ore_check.specs.Layout.{line_in}
use Rattle.ore_check.specs.Plans.{formed_as}
use Rattle.ore_check.proofs.FormedIdentities.{formed_gives}
use Rattle.ore_check.proofs.identities.form_identities.Goals as goal

pub returns : goal.returns
returns g c =
    let s = g.R.OreRing.sig c.args.ring.now in
    let cert = c.args.cert.now in
    record {
      formed = λ claims.
          let checked = check program s (row_matrix_of c.args.r.now) cert claims in
          subst (λ r. Gives (λ (u : Unit {0}). cert) r (formed_as cert checked)) (sym c.answer_stop.ensures)
          (formed_gives cert (line_in cert) c.check.result checked (c.check.ensures.answers claims));
    }
