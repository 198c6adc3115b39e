-- A fraction is 0 where its numerator is.
use Rattle.std.proofs.Common.{◌≡◌, ℤ, pos, ap, ◌∙◌, sym, eqb→eq, T, refl, subst, of_z, ◌<◌, ◌^◌, arith}
use Rattle.std.specs.Int.{w128}
use lib.Signed.{mag}
use Rattle.std.proofs.lemmas.Int.{ints}
use Rattle.ore_rational.specs.FractionRing.{zero-num}
use Rattle.ore_rational.proofs.Rational.is_zero.Goals as goal

zero_bits : (z : ℤ) → mag z < 2 ^ 127 → of_z w128 z ≡ 0 → z ≡ pos 0
zero_bits z h e = omega (arith, ints)

pub returns : goal.returns
returns c = (
  λ h. zero-num c.args.self.now (sym c.numerator.ensures.value ∙ zero_bits _ c.numerator.type_inv (eqb→eq _ _ (subst T (sym h) tt))),
  λ e. let n : c.numerator.result ≡ pos 0 = c.numerator.ensures.value ∙ ap (λ r. r.num) e in rw n refl,
)
