-- Rings, whose product need not commute, and left modules over them.
--     Ring              a type with zero, one, opposites, sums and products, and their laws
--     of_nat, of_int    a whole number in a ring
--     power             a power in a ring
--     Module            a type of vectors with zero, opposites, sums, and a ring that acts on it
use Rattle.std.specs.Prelude.{◌≡◌, ℕ, zero, suc, ℤ, pos, negsuc}

pub record Ring : Type 1 where
  pub Elem : Type 0
  pub is_set : IsSet Elem
  pub zero : Elem
  pub one : Elem
  pub neg : Elem → Elem
  pub add : Elem → Elem → Elem
  pub mul : Elem → Elem → Elem
  pub add_assoc : (a b c : Elem) → add (add a b) c ≡ add a (add b c)
  pub add_comm : (a b : Elem) → add a b ≡ add b a
  pub add-zero : (a : Elem) → add a zero ≡ a
  pub add-neg : (a : Elem) → add a (neg a) ≡ zero
  pub mul_assoc : (a b c : Elem) → mul (mul a b) c ≡ mul a (mul b c)
  pub one-mul : (a : Elem) → mul one a ≡ a
  pub mul-one : (a : Elem) → mul a one ≡ a
  pub mul-add : (a b c : Elem) → mul a (add b c) ≡ add (mul a b) (mul a c)
  pub add-mul : (a b c : Elem) → mul (add a b) c ≡ add (mul a c) (mul b c)

-- n times 1
abbrev pub of_nat : (R : Ring) → ℕ → R.Elem
of_nat R zero = R.zero
of_nat R (suc n) = R.add R.one (of_nat R n)

-- x to the n
abbrev pub power : (R : Ring) → R.Elem → ℕ → R.Elem
power R x zero = R.one
power R x (suc n) = R.mul x (power R x n)

-- a whole number as an element
abbrev pub of_int : (R : Ring) → ℤ → R.Elem
of_int R (pos n) = of_nat R n
of_int R (negsuc n) = R.neg (of_nat R (suc n))

pub record Module (R : Ring) : Type 1 where
  pub Vector : Type 0
  pub is_set : IsSet Vector
  pub zero : Vector
  pub neg : Vector → Vector
  pub add : Vector → Vector → Vector
  pub act : R.Elem → Vector → Vector
  pub add_assoc : (u v w : Vector) → add (add u v) w ≡ add u (add v w)
  pub add_comm : (u v : Vector) → add u v ≡ add v u
  pub add-zero : (u : Vector) → add u zero ≡ u
  pub add-neg : (u : Vector) → add u (neg u) ≡ zero
  pub act_assoc : (a b : R.Elem) (u : Vector) → act (R.mul a b) u ≡ act a (act b u)
  pub one-act : (u : Vector) → act R.one u ≡ u
  pub act-add : (a : R.Elem) (u v : Vector) → act a (add u v) ≡ add (act a u) (act a v)
  pub add-act : (a b : R.Elem) (u : Vector) → act (R.add a b) u ≡ add (act a u) (act b u)
