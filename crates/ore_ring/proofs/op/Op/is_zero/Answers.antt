use Rattle.std.proofs.Common.{◌==◌, sym, ap, ◌∙◌, length}
use Rattle.std.proofs.lemmas.Bool.Decides.{Decides-eqb}
use Rattle.ore_ring.specs.Terms.{falling}
use Rattle.ore_ring.proofs.Falls.{falling-none}
use Rattle.ore_ring.proofs.StoredOp.{stored_terms, no_terms, none_of}
use Rattle.ore_ring.proofs.op.Op.is_zero.Goals as goal

pub returns : goal.returns
returns c =
    let ts = c.self.inside.terms.items in
    let v = c.args.self.now in
    let d = Decides-eqb (length ts) 0 in
    let same = stored_terms c.self.inside.order ts v c.self.view_is c.self.invariant in (
      λ e. ap (λ w. w.sum) (sym c.self.view_is) ∙ none_of ts (no_terms ts (d.0 (ap (λ n. n == 0) (sym c.self.inside.terms.ok.0) ∙ sym c.is_empty.ensures ∙ e))),
      λ e. c.is_empty.ensures ∙ ap (λ n. n == 0) c.self.inside.terms.ok.0 ∙ d.1 (ap length (sym same ∙ ap (falling v.by) e ∙ falling-none v.by)),
    )
