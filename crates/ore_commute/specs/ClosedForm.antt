-- The closed form of a product of two ordered monomials.
-- (Leibniz' rule for differential operators, the binomial theorem for shifts.)
--     falling_factorial  a!/(a-k)!
--     step_on           what a letter adds to a coordinate that it passes over: its step, or minus it
--     step_sum, total_step    the sum of the steps of all letters of a monomial over one coordinate
--     number            the number of the term that lowers the differential operator by k and its coordinate by k + j
--     fallen, divisor   a monomial lowered so; the monomial by which it is divided
--     differential_of   the differential operator of a coordinate, or 12 where it has none
--     axes              each coordinate, with its differential operator
--     lowered           terms lowered so, times that number
--     shifted_terms, axis_terms   what passing one coordinate makes of terms
--     passed            the terms of a product of monomials, where they pass these coordinates
--     closed_form       the terms of a product of monomials
--     differential_below, axes_below  the same among the first n variables
use Rattle.std.specs.Prelude.{ℕ, zero, suc, ◌+◌, ◌-◌, ◌*◌, min, nat_eq, cond, List, [], ◌∷◌, map}
use Rattle.std.specs.List.{flat_map}
use Rattle.ore_algebra.specs.Domain.{Domain}
use Rattle.ore_algebra.specs.Ring.{of_nat, power}
use Rattle.ore_monomial.specs.declared.signature.VarKind.{VarKind}
use Rattle.ore_monomial.specs.declared.signature.VarKind.TheVariants.{Shift, Delay}
use Rattle.ore_monomial.specs.Monomial.{Monomial, exponent, with_exponent, unit, lower, product}
use Rattle.ore_monomial.specs.Passing.{choose, numbers_to}
use Rattle.ore_monomial.specs.Signature.{Signature, kind_at, is_coordinate, is_differential_on}

-- a!/(a-k)!, the product of the k numbers from a down; 0 where k is greater than a
unfoldable pub falling_factorial : ℕ → ℕ → ℕ
falling_factorial a zero = 1
falling_factorial zero (suc k) = 0
falling_factorial (suc a) (suc k) = suc a * falling_factorial a k

-- The differential operator of t among the first n variables, or 12, which is no variable. Where there is more than one it is the last.
unfoldable pub differential_below : Signature → ℕ → ℕ → ℕ
differential_below s t zero = 12
differential_below s t (suc n) = cond (is_differential_on t (kind_at s n)) n (differential_below s t n)

-- the differential operator of t, or 12
abbrev pub differential_of : Signature → ℕ → ℕ
differential_of s t = differential_below s t 12

-- the coordinates among the first n variables, the last first, each with its differential operator
unfoldable pub axes_below : Signature → ℕ → List (ℕ × ℕ)
axes_below s zero = []
axes_below s (suc n) = cond (is_coordinate (kind_at s n)) ((n, differential_of s n) ∷ axes_below s n) (axes_below s n)

-- each coordinate of the signature with its differential operator
unfoldable pub axes : Signature → List (ℕ × ℕ)
axes s = axes_below s 12

-- a monomial with t lowered by k + j and d by k
abbrev pub fallen : ℕ → ℕ → ℕ → ℕ → Monomial → Monomial
fallen t d k j m = lower t (k + j) (lower d k m)

-- the monomial by which a monomial is divided where t falls by k + j and d by k
unfoldable pub divisor : ℕ → ℕ → ℕ → ℕ → Monomial
divisor t d k j = with_exponent t (k + j) (with_exponent d k unit)

module _ (K : Domain) where
  -- a shift adds its step to t, a delay takes it away
  abbrev pub step_on : ℕ → VarKind → K.Number
  step_on t (Shift on step) = cond (nat_eq on t) (of_nat K.ring step) K.zero
  step_on t (Delay on step) = cond (nat_eq on t) (K.minus (of_nat K.ring step)) K.zero
  step_on t kind = K.zero

  -- C(c,k) a!/(a-k)! C(a-k,j) h^j, where c is the exponent of the differential operator, a that of its coordinate,
  -- and h the sum of the steps over it
  unfoldable pub number : K.Number → ℕ → ℕ → ℕ → ℕ → K.Number
  number h c a k j = K.times (of_nat K.ring (choose c k * falling_factorial a k)) (K.times (of_nat K.ring (choose (a - k) j)) (power K.ring h j))

  -- the terms us, lowered and times this number; none where the number is zero
  abbrev pub lowered : K.Number → ℕ × ℕ → ℕ → ℕ → List (Monomial × K.Number) → List (Monomial × K.Number)
  lowered z p k j us = elim (K.discrete z K.zero) [
    | yes e ↦ []
    | no n ↦ map (λ u. (fallen p.0 p.1 k j u.0, K.times z u.1)) us
  ]

  -- the terms us, after a coordinate with exponent a is passed by k of c differential operators, and by shifts with the sum h
  unfoldable pub shifted_terms : K.Number → ℕ × ℕ → ℕ → ℕ → List (Monomial × K.Number) → ℕ → List (Monomial × K.Number)
  shifted_terms h p c a us k = flat_map (λ j. lowered (number h c a k j) p k j us) (numbers_to (a - k))

  -- the same for each k up to min(a, c), so each term of us gives one for each k and j whose number isn't zero
  unfoldable pub axis_terms : K.Number → ℕ × ℕ → ℕ → ℕ → List (Monomial × K.Number) → List (Monomial × K.Number)
  axis_terms h p c a us = flat_map (shifted_terms h p c a us) (numbers_to (min a c))

module _ (K : Domain) (s : Signature) where
  -- the steps over t of the variables from x on, each as often as its exponent says
  unfoldable pub step_sum : ℕ → ℕ → List ℕ → K.Number
  step_sum t x [] = K.zero
  step_sum t x (b ∷ es) = K.plus (K.times (of_nat K.ring b) (step_on K t (kind_at s x))) (step_sum t (suc x) es)

  -- the steps over t of all letters of m
  unfoldable pub total_step : ℕ → Monomial → K.Number
  total_step t m = step_sum t 0 m.exponents

  -- Where no coordinate is passed, the exponents are added. Each coordinate of the list with its differential operator
  -- makes of the terms before it what passing it makes.
  unfoldable pub passed : List (ℕ × ℕ) → Monomial → Monomial → List (Monomial × K.Number)
  passed [] m n = (product m n, K.one) ∷ []
  passed (p ∷ ts) m n = axis_terms K (total_step p.0 m) p (exponent m p.1) (exponent n p.0) (passed ts m n)

  -- the terms of m n, where all coordinates are passed
  unfoldable pub closed_form : Monomial → Monomial → List (Monomial × K.Number)
  closed_form m n = passed (axes s) m n
