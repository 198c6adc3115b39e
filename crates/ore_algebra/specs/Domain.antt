-- The coefficients of operators.
--     Domain         a commutative ring whose elements are told apart, where no product of nonzero elements is zero.
--                    Its elements are called numbers
--     HasInverses    each number that is not zero has an inverse: with it, a domain is a field
use Rattle.std.specs.Prelude.{◌≡◌, ◌≢◌}
use Rattle.ore_algebra.specs.Ring.{Ring}

pub record Domain : Type 1 where
  pub ring : Ring
  pub open ring use {Elem as Number, zero, one, add as plus, mul as times, neg as minus, add_assoc as plus_assoc, add_comm as plus_comm, add-zero as plus_zero, add-neg as plus_minus, mul_assoc as times_assoc, mul-one as times_one, mul-add as times_plus}
  pub discrete : Discrete Number
  pub times_comm : (x y : Number) → times x y ≡ times y x
  pub one_apart : one ≢ zero
  pub times_apart : (x y : Number) → x ≢ zero → y ≢ zero → times x y ≢ zero

pub record HasInverses (K : Domain) : Type 0 where
  pub inverse : (x : K.Number) → x ≢ K.zero → K.Number
  pub times_inverse : (x : K.Number) (n : x ≢ K.zero) → K.times x (inverse x n) ≡ K.one
