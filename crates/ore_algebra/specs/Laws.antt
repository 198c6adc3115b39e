-- The laws of rings and of fields as statements that a contract can name: a clause is a term of `Type 0`,
-- and the records `Ring` and `Domain`, which carry a type, are not.
--     IsRing     the operations on A are those of a ring, whose product need not commute
--     IsField    a ring whose product commutes, with an inverse of each element but zero
use Rattle.std.specs.Prelude.{◌≡◌, ◌≢◌}

module _ (A : Type 0) (zero one : A) (neg : A → A) (add mul : A → A → A) where
  pub record IsRing : Type 0 where
    pub add_assoc : (a b c : A) → add (add a b) c ≡ add a (add b c)
    pub add_comm : (a b : A) → add a b ≡ add b a
    pub add-zero : (a : A) → add a zero ≡ a
    pub add-neg : (a : A) → add a (neg a) ≡ zero
    pub mul_assoc : (a b c : A) → mul (mul a b) c ≡ mul a (mul b c)
    pub one-mul : (a : A) → mul one a ≡ a
    pub mul-one : (a : A) → mul a one ≡ a
    pub mul-add : (a b c : A) → mul a (add b c) ≡ add (mul a b) (mul a c)
    pub add-mul : (a b c : A) → mul (add a b) c ≡ add (mul a c) (mul b c)

  pub record IsField (inverse : A → A) : Type 0 where
    pub ring : IsRing
    pub mul_comm : (a b : A) → mul a b ≡ mul b a
    pub one_apart : one ≢ zero
    pub mul-inverse : (a : A) → a ≢ zero → mul a (inverse a) ≡ one
    pub no_zero_divisors : (a b : A) → a ≢ zero → b ≢ zero → mul a b ≢ zero
