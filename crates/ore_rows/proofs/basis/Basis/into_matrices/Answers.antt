use Rattle.std.proofs.Common.{◌≡◌, length, refl, sym, ap, ◌∙◌, subst}
use Rattle.std.proofs.lemmas.List.Elements.{All-map}
use Rattle.ore_rows.specs.Reduction.{basis_rows, cofactors_of}
use Rattle.ore_rows.specs.Stored.{HasColumns}
use Rattle.ore_rows.specs.StoredBasis.{StoredBasis}
use Rattle.ore_rows.specs.declared.basis.BasisEntry.{BasisEntry}
use Rattle.ore_rows.proofs.StoredBases.{parts-with_leads}
use Rattle.ore_rows.proofs.basis.Basis.into_matrices.Goals as goal

pub from_rows-requires-clause-fits : goal.from_rows-requires-clause-fits
from_rows-requires-clause-fits c =
    let b = c.self.inside in
    subst (HasColumns b.cols) (sym c.in_ok-rows.ensures.rows) (All-map (λ r. length r ≡ b.cols) (λ (e : BasisEntry). e.row) b.items.items (λ k d l. (c.self.invariant.widths k d l).0))

pub from_rows-requires-2-clause-fits : goal.from_rows-requires-2-clause-fits
from_rows-requires-2-clause-fits c =
    let b = c.self.inside in
    subst (HasColumns b.width) (sym c.in_ok-rows.ensures.cofactors) (All-map (λ r. length r ≡ b.width) (λ (e : BasisEntry). e.cofactor) b.items.items (λ k d l. (c.self.invariant.widths k d l).1))

pub returns-clause-rows : goal.returns-clause-rows
returns-clause-rows c =
    let b = c.self.inside in
    c.from_rows.ensures
    ∙ (λ i. record { cols = b.cols; rows = (c.in_ok-rows.ensures.rows ∙ sym (parts-with_leads (λ x. x.row) (λ e. e.row) (λ e t. refl) b.items.items b.leads c.self.invariant.long)) i })
    ∙ ap (λ (b : StoredBasis). record { cols = b.cols; rows = basis_rows b.items }) c.self.view_is

pub returns-clause-cofactors : goal.returns-clause-cofactors
returns-clause-cofactors c =
    let b = c.self.inside in
    c.from_rows-2.ensures
    ∙ (λ i. record { cols = b.width; rows = (c.in_ok-rows.ensures.cofactors ∙ sym (parts-with_leads (λ x. x.cofactor) (λ e. e.cofactor) (λ e t. refl) b.items.items b.leads c.self.invariant.long)) i })
    ∙ ap (λ (b : StoredBasis). record { cols = b.width; rows = cofactors_of b.items }) c.self.view_is
