use Rattle.std.proofs.Common.{◌≡◌, sym, ap, ◌∙◌, arith}
use Rattle.std.proofs.lemmas.Grind.{common_steps}
use Rattle.ore_rows.proofs.StoredBases.{has_lead, stored_same, stored_push, basis_push}
use Rattle.ore_rows.proofs.basis.Basis.push.Goals as goal

pub invariant_of-self-in-Ok : goal.invariant_of-self-in-Ok
invariant_of-self-in-Ok c =
    stored_same _ _ _ _ _ _ c.in_ok-push.ensures.items c.in-Ok.ensures.pushed
    (stored_push c.self.inside.cols c.self.inside.width c.self.inside.items.items c.self.inside.leads _ _ (c.requires.row_width ∙ sym (ap (λ b. b.cols) c.self.view_is)) (c.requires.cofactor_width ∙ sym (ap (λ b. b.width) c.self.view_is)) (has_lead c.args.sig.now _ _ c.requires.row_of c.monic_lead-column.ensures) c.self.invariant)

pub invariant_of-self-in-Err : goal.invariant_of-self-in-Err
invariant_of-self-in-Err c =
    let same : c.pop.new.self.items ≡ c.self.inside.items.items = grind (arith, common_steps) in
    stored_same _ _ _ _ _ _ same c.in-Err.ensures.kept c.self.invariant

pub returns-in-Ok-clause-pushed : goal.returns-in-Ok-clause-pushed
returns-in-Ok-clause-pushed c = (_, c.monic_lead-column.ensures, basis_push _ _ _ _ _ _ _ _ _ c.self.view_is c.in_ok-push.ensures.items c.in-Ok.ensures.pushed c.self.invariant.long)
