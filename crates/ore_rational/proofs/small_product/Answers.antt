-- The product of two magnitudes below 2^63 is in range.
use Rattle.std.proofs.Common.{◌≡◌, ◌<◌, ◌^◌, ℤ, nat_abs, to_z, of_z, to_z-of_z, arith, ap, ◌∙◌}
use Rattle.std.proofs.lemmas.Int.{fits_signed_from_abs}
use Rattle.std.specs.Int.{w64, w128}
use Rattle.ore_rational.proofs.Stored.{read_range}
use Rattle.ore_rational.proofs.Whole.{small_range}
use Rattle.ore_rational.proofs.small_product.Goals as goal

-- a number that goes to 64 bits and back is itself
through_word : (a : ℤ) → nat_abs a < 2 ^ 63 → to_z w128 (of_z w128 (to_z w64 (of_z w64 (to_z w128 (of_z w128 a))))) ≡ a
through_word a h =
    let wide = read_range a (omega (arith, h)) in
    ap (λ z. to_z w128 (of_z w128 (to_z w64 (of_z w64 z)))) wide ∙ ap (λ z. to_z w128 (of_z w128 z)) (to_z-of_z (fits_signed_from_abs w64 a h)) ∙ wide

pub returns-clause-range : goal.returns-clause-range
returns-clause-range c =
    let r = small_range c.args.a c.args.b c.requires.a_is c.requires.b_is in
    rw (through_word c.args.a c.requires.a_is, through_word c.args.b c.requires.b_is, read_range _ r) r
