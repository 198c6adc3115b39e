use Rattle.std.proofs.lemmas.Result.{err_from_is_err_and}
use Rattle.ore_monomial.proofs.Stops.{fails_like}
use Rattle.ore_rows.specs.Stored.{sums_of}
use Rattle.ore_groebner.proofs.StoredMonics.{made_first, made_second, made_gives, lead_is_one}
use Rattle.ore_groebner.proofs.monic.monic_multiple.Goals as goal

pub returns-in_err-monic-clause-gives : goal.returns-in_err-monic-clause-gives
returns-in_err-monic-clause-gives g c t lead =
    let p = err_from_is_err_and c.from_residual-in_err-monic.result c.from_residual-in_err-monic.ensures.1 in
    rw (p.1, p.2) (fails_like _ _ _ (λ e h. made_first (g.R.OreRing.sig c.args.ring.now) (sums_of c.args.row.now) (sums_of c.args.cofactor.now) t c.args.coef lead _ c.in_ok-factor.ensures.value e h) c.in_err-monic.ensures.gives)

pub returns-in_err-scaled-clause-gives : goal.returns-in_err-scaled-clause-gives
returns-in_err-scaled-clause-gives g c t lead =
    let p = err_from_is_err_and c.from_residual-in_err-scaled.result c.from_residual-in_err-scaled.ensures.1 in
    rw (p.1, p.2) (fails_like _ _ _ (λ e h. made_second (g.R.OreRing.sig c.args.ring.now) (sums_of c.args.row.now) (sums_of c.args.cofactor.now) t c.args.coef lead _ c.in_ok-factor.ensures.value _ e c.in_ok-monic.ensures.gives h) c.in_err-scaled.ensures.gives)

pub returns-clause-gives : goal.returns-clause-gives
returns-clause-gives g c t lead = made_gives (g.R.OreRing.sig c.args.ring.now) (sums_of c.args.row.now) (sums_of c.args.cofactor.now) t c.args.coef lead _ c.in_ok-factor.ensures.value _ _ c.in_ok-monic.ensures.gives c.in_ok-scaled.ensures.gives

pub returns-clause-monic : goal.returns-clause-monic
returns-clause-monic g c t lead = lead_is_one (g.R.OreRing.sig c.args.ring.now) (sums_of c.args.row.now) (sums_of c.args.cofactor.now) t c.args.coef lead _ c.in_ok-factor.ensures.value _ c.in_ok-monic.ensures.gives
