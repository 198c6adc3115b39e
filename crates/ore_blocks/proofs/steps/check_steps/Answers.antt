use Rattle.std.proofs.Common.{rules, ◌≤◌, ◌≡◌, length, sym, ap, ◌∙◌, subst, arith}
use Rattle.std.proofs.lemmas.Result.{err_from_is_err_and}
use Rattle.ore_algebra.specs.Limits.{program}
use Rattle.ore_rational.specs.Field.{rationals}
use Rattle.ore_monomial.specs.Signature.{Signature}
use Rattle.ore_rows.specs.RowLead.{row_lead}
use Rattle.ore_rows.specs.Stored.{rows_of, sums_of}
use Rattle.ore_blocks.specs.Conditions.{is_none, required}
use Rattle.ore_blocks.specs.Judging.{Judges}
use Rattle.ore_blocks.specs.declared.place.Place.TheVariants as place
use Rattle.ore_blocks.specs.declared.reason.Reason.TheVariants as reason
use Rattle.ore_blocks.proofs.Chains.{refuses_as, passed_as}
use Rattle.ore_blocks.proofs.GivenRows.{steps_next, steps_end}
use Rattle.ore_blocks.proofs.steps.check_steps.Goals as goal

pub returns-in_err-left : goal.returns-in_err-left
returns-in_err-left g c =
    let s = g.R.OreRing.sig c.args.ring.now in
    let n = c.loop-n.n in
    let p = err_from_is_err_and c.from_residual.result c.from_residual.ensures.1 in
    rw (p.1, p.2) (refuses_as _ _ _ _ (steps_next program s (rows_of c.args.basis.now) c.args.leads.now (record { monomial = c.args.multiple.now; column = c.args.column }) c.args.section c.args.pair (sums_of c.loop-n.left) c.args.steps.now n c.get.result.now c.get.ensures) c.loop-n.invariant.told _ c.in_err-left.ensures.judges)

pub loop-n-preserved : goal.loop-n-preserved
loop-n-preserved g c =
    let s = g.R.OreRing.sig c.args.ring.now in
    let n = c.loop-n.n in
    record {
      told =
          passed_as _ _ _ _ (steps_next program s (rows_of c.args.basis.now) c.args.leads.now (record { monomial = c.args.multiple.now; column = c.args.column }) c.args.section c.args.pair (sums_of c.loop-n.left) c.args.steps.now n c.get.result.now c.get.ensures) c.loop-n.invariant.told
          (sums_of c.in_ok-left.left) c.in_ok-left.ensures.judges;
      width = search rules;
      belongs = search rules;
    }

pub returns : goal.returns
returns g c =
    let s = g.R.OreRing.sig c.args.ring.now in
    let n = c.loop-n.n in
    let past : length c.args.steps.now ≤ n = omega arith in
    let e : c.len.result ≡ n = omega arith in
    let b = c.is_zero.ensures ∙ ap (λ (v : Signature). is_none (row_lead rationals v.order (sums_of c.loop-n.left))) c.signature.ensures in
    subst (Judges (λ u. u) c.required.result)
    ((λ i. required (place.Pair c.args.section c.args.pair (e i)) reason.Remainder (b i))
    ∙ sym (steps_end program s (rows_of c.args.basis.now) c.args.leads.now (record { monomial = c.args.multiple.now; column = c.args.column }) c.args.section c.args.pair (sums_of c.loop-n.left) c.args.steps.now n past)
    ∙ c.loop-n.invariant.told)
    c.required.ensures.judges
