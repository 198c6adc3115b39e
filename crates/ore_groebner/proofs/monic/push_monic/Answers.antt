use Rattle.std.proofs.Common.{subst, sym}
use Rattle.ore_rational.specs.Field.{rationals}
use Rattle.ore_monomial.specs.Signature.{Signature}
use Rattle.ore_rows.specs.RowLead.{IsRowLead}
use Rattle.ore_rows.specs.Stored.{sums_of}
use Rattle.ore_rows.specs.StoredBasis.{StoredBasis, BasisBelongs}
use Rattle.ore_rows.proofs.StoredBases.{all_belong-push}
use Rattle.ore_groebner.proofs.StoredMonics.{same_lead, pushed_gives}
use Rattle.ore_groebner.proofs.monic.push_monic.Goals as goal

pub push-requires-clause-monic : goal.push-requires-clause-monic
push-requires-clause-monic g c = (c.requires.lead.0, subst (λ (v : Signature). IsRowLead rationals v.order (sums_of c.in_ok-monic.monic) c.requires.lead.0 rationals.one) (sym c.signature.ensures) (c.in_ok-monic.ensures.monic c.requires.lead.0 c.requires.lead.1))

pub returns-clause-gives : goal.returns-clause-gives
returns-clause-gives g c t lead =
    let s = g.R.OreRing.sig c.args.ring.now in
    let p = c.in_ok-push.ensures.pushed in
    let one = subst (λ (v : Signature). IsRowLead rationals v.order (sums_of c.in_ok-monic.monic) p.0 rationals.one) c.signature.ensures p.1 in
    pushed_gives s c.args.basis c.push.new.self _ _ p.0 p.2 t _ (same_lead s _ p.0 t one (c.in_ok-monic.ensures.monic t lead)) (c.in_ok-monic.ensures.gives t lead)

pub returns-clause-basis_of : goal.returns-clause-basis_of
returns-clause-basis_of g c =
    let s = g.R.OreRing.sig c.args.ring.now in
    let p = c.in_ok-push.ensures.pushed in
    subst (λ (b : StoredBasis). BasisBelongs s b.items) (sym p.2) (all_belong-push s c.args.basis (record { row = c.in_ok-monic.monic; cofactor = c.in_ok-monic.scaled; lead = p.0 }) c.requires.basis_of c.in_ok-monic.ensures.row_of c.in_ok-monic.ensures.cofactor_of)
