use Rattle.std.proofs.Common.{pos, sym, ap, ◌∙◌, subst}
use Rattle.ore_algebra.specs.Limits.{program}
use Rattle.ore_monomial.specs.Gives.{Turns}
use Rattle.ore_monomial.specs.Numbers.{numbers}
use Rattle.ore_ring.specs.Contributions.{push_number}
use Rattle.ore_ring.specs.Meets.{MeetsNone}
use Rattle.ore_ring.specs.Products.{AreWhole}
use Rattle.ore_ring.proofs.PlainNumbers.{plain_push}
use Rattle.ore_ring.proofs.Wholes.{whole_of}
use Rattle.ore_ring.proofs.multiply.push_product.Goals as goal

pub push_numbers-requires : goal.push_numbers-requires
push_numbers-requires g c =
    subst AreWhole (sym c.deref.ensures.value) (whole_of (numbers (g.P.MonomialProduct.sig c.args.p.now) c.args.left.now c.args.right.now) c.in_ok-ks.ks.items c.in_ok-ks.ensures)

pub returns-then-meets_none : goal.returns-then-meets_none
returns-then-meets_none g c =
    let s = g.P.MonomialProduct.sig c.args.p.now in
    let none = c.meets_none.ensures c.if-meets_none.true in
    subst (Turns c.push_fraction.result c.push_fraction.new.out.items)
    (ap (λ m. push_number program c.args.uv c.args.out.now.items (m, pos 1)) c.in_ok-both.ensures.1
    ∙ sym (plain_push s c.args.uv c.args.out.now.items c.args.left.now c.args.right.now (subst (λ t. MeetsNone t c.args.left.now c.args.right.now) c.signature.ensures none)))
    c.push_fraction.ensures
