use Rattle.std.proofs.Common.{◌≡◌, ℕ, suc, ◌+◌, List, [], ◌∷◌, ◌++◌, take, sym, ap, ◌∙◌, subst, arith}
use Rattle.std.specs.List.{slice_get}
use Rattle.std.specs.declared.option.Option.TheVariants.{Some}
use Rattle.std.proofs.Math.Seq.{take-suc}
use Rattle.std.proofs.lemmas.List.{append_assoc}
use Rattle.std.proofs.lemmas.Option.{slice_get_within, get_or_from_slice_get}
use Rattle.ore_monomial.specs.Term.{Term}
use Rattle.ore_rows.specs.Reduction.{leads_of}
use Rattle.ore_report.proofs.shown_leads.add_leads.Goals as goal

taken_more : (ts : List Term) (k : ℕ) (t : Term) → slice_get ts k ≡ Some t → take (k + 1) ts ≡ take k ts ++ t ∷ []
taken_more ts k t e =
    ap (λ n. take n ts) (let next : k + 1 ≡ suc k = omega arith in next)
    ∙ take-suc ts k t (slice_get_within ts k t e)
    ∙ ap (λ u. take k ts ++ u ∷ []) (get_or_from_slice_get ts k t t e)

pub loop-k-preserved : goal.loop-k-preserved
loop-k-preserved c =
    let i = c.loop-k.invariant in
    let t : Term = record { monomial = c.get-column.result.1; column = c.get-column.result.0 } in
    record {
      taken = c.in_ok-push.ensures.pushed ∙ ap (λ ts. ts ++ t ∷ []) i.taken ∙ sym (taken_more (leads_of c.args.basis.now.items) c.loop-k.k t (subst (λ ts. slice_get ts c.loop-k.k ≡ Some t) c.leads.ensures c.get-column.ensures));
      grown = (i.grown.0 ++ t ∷ [], c.in_ok-push.ensures.pushed ∙ ap (λ ts. ts ++ t ∷ []) i.grown.1 ∙ append_assoc c.args.leads.now i.grown.0 (t ∷ []));
    }
