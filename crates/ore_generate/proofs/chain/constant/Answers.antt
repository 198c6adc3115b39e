use Rattle.std.proofs.Common.{◌≡◌, refl, sym, subst, to_z-of_z}
use Rattle.ore_rational.specs.Fraction.{whole}
use Rattle.ore_rational.specs.Field.{rationals}
use Rattle.ore_monomial.specs.Signature.{MonomialOf}
use Rattle.ore_monomial.proofs.Declared.{MonomialOf-unit}
use Rattle.ore_monomial.specs.LetterRule.{constant}
use Rattle.ore_rows.proofs.Dots.{term_belongs}
use Rattle.ore_generate.specs.Chain.{signature}
use Rattle.ore_generate.proofs.Chains.{term_sum, constant_is}
use Rattle.ore_generate.proofs.chain.constant.Goals as goal

pub returns-clause-value : goal.returns-clause-value
returns-clause-value c = term_sum _ c.zero.result c.whole.result c.term.result (constant rationals (whole c.args.number)) (constant_is c.zero.result c.whole.result (whole c.args.number) c.zero.ensures (let h : c.whole.result ≡ whole c.args.number = simp (to_z-of_z, c.ranges.number) at c.whole.ensures in h)) c.term.ensures

pub returns-clause-of : goal.returns-clause-of
returns-clause-of c = term_belongs signature _ c.zero.result c.whole.result c.term.result refl (subst (MonomialOf signature) (sym c.zero.ensures) (MonomialOf-unit signature)) c.term.ensures
