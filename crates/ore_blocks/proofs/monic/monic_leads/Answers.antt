use Rattle.std.proofs.Common.{◌++◌, ◌+◌, drop, length, sym, ap, ◌∙◌, subst, arith}
use Rattle.std.specs.List.{All}
use Rattle.ore_monomial.specs.Signature.{MonomialOf}
use Rattle.ore_monomial.specs.Term.{Term}
use Rattle.ore_blocks.proofs.ReadItems.{pushed_has}
use Rattle.std.proofs.lemmas.List.{length-append}
use Rattle.std.proofs.lemmas.Result.{err_from_is_err_and}
use Rattle.std.specs.declared.result.Result.TheVariants.{Ok}
use Rattle.ore_rows.specs.Stored.{rows_of}
use Rattle.ore_blocks.specs.CheckBlock.{monic_leads}
use Rattle.ore_algebra.specs.Results.{◌>>=◌}
use Rattle.ore_blocks.proofs.Chains.{refuses_as, passed_as}
use Rattle.ore_blocks.proofs.MonicLeads.{leads_next, leads_end}
use Rattle.ore_blocks.proofs.monic.monic_leads.Goals as goal

pub returns-in_err-lead-clause-judges : goal.returns-in_err-lead-clause-judges
returns-in_err-lead-clause-judges c =
    let k = c.loop-k.k in
    let p = err_from_is_err_and c.from_residual.result c.from_residual.ensures.1 in
    rw (p.1, p.2) (refuses_as _ _ _ _ (leads_next c.args.sig.now.order c.args.section c.loop-k.leads c.args.basis.now k c.row.result.now c.row.ensures.value) c.loop-k.invariant.told _ c.in_err-lead.ensures.judges)

pub loop-k-preserved : goal.loop-k-preserved
loop-k-preserved c =
    let k = c.loop-k.k in
    record {
      told =
          ap (λ ls. monic_leads c.args.sig.now.order c.args.section (k + 1) (drop (k + 1) (rows_of c.args.basis.now)) >>= λ ts. Ok (ls ++ ts)) c.in_ok-push.ensures.pushed
          ∙ passed_as _ _ _ _ (leads_next c.args.sig.now.order c.args.section c.loop-k.leads c.args.basis.now k c.row.result.now c.row.ensures.value) c.loop-k.invariant.told _ c.in_ok-lead.ensures.judges;
      belongs = subst (All (λ (t : Term). MonomialOf c.args.sig.now t.monomial)) (sym c.in_ok-push.ensures.pushed) (pushed_has (λ (t : Term). MonomialOf c.args.sig.now t.monomial) c.loop-k.leads _ c.loop-k.invariant.belongs c.in_ok-lead.ensures.of);
      count = ap length c.in_ok-push.ensures.pushed ∙ length-append c.loop-k.leads _ ∙ ap (λ n. n + 1) c.loop-k.invariant.count;
    }

pub returns-clause-judges : goal.returns-clause-judges
returns-clause-judges c = sym c.loop-k.invariant.told ∙ leads_end c.args.sig.now.order c.args.section c.loop-k.leads c.args.basis.now c.loop-k.k (omega arith)
