-- The laws of a domain's numbers, in the domain's words.
--     zero_plus, one_times, ..      laws that its ring has
--     times_left_comm               a product by two numbers, in either order
--     plus_cancel                   one part of two equal sums is dropped
use Rattle.std.proofs.Common.{◌≡◌, sym, ap, ◌∙◌}
use Rattle.ore_algebra.specs.Domain.{Domain}
use Rattle.ore_algebra.proofs.RingLaws

module _ (K : Domain) where
  pub zero_plus : (x : K.Number) → K.plus K.zero x ≡ x
  zero_plus = RingLaws.zero-add K.ring

  pub plus_left_comm : (x y z : K.Number) → K.plus x (K.plus y z) ≡ K.plus y (K.plus x z)
  plus_left_comm = RingLaws.add_left_comm K.ring

  pub plus_swap : (a b c d : K.Number) → K.plus (K.plus a b) (K.plus c d) ≡ K.plus (K.plus a c) (K.plus b d)
  plus_swap = RingLaws.add_middle K.ring

  pub plus_cancel : (x y z : K.Number) → K.plus x y ≡ K.plus x z → y ≡ z
  plus_cancel x y z e = RingLaws.add_cancel K.ring y z x (K.plus_comm y x ∙ e ∙ K.plus_comm x z)

  pub one_times : (x : K.Number) → K.times K.one x ≡ x
  one_times = K.ring.one-mul

  pub times_zero : (x : K.Number) → K.times x K.zero ≡ K.zero
  times_zero = RingLaws.mul-zero K.ring

  pub zero_times : (x : K.Number) → K.times K.zero x ≡ K.zero
  zero_times = RingLaws.zero-mul K.ring

  pub plus_times : (x y z : K.Number) → K.times (K.plus x y) z ≡ K.plus (K.times x z) (K.times y z)
  plus_times = K.ring.add-mul

  pub minus_minus : (x : K.Number) → K.minus (K.minus x) ≡ x
  minus_minus = RingLaws.neg_neg K.ring

  pub minus_times : (x y : K.Number) → K.times (K.minus x) y ≡ K.minus (K.times x y)
  minus_times = RingLaws.neg-mul K.ring

  pub times_left_comm : (x y z : K.Number) → K.times x (K.times y z) ≡ K.times y (K.times x z)
  times_left_comm x y z = sym (K.times_assoc x y z) ∙ ap (λ w. K.times w z) (K.times_comm x y) ∙ K.times_assoc y x z
