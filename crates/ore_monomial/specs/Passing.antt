-- How a letter passes over a power of its coordinate t: as d t = t d + 1 for a differential operator, s t = t s + h s for
-- a shift by h, and D t = t D - h D for a delay by h. (Ore algebras: Chyzak and Salvy, Non-commutative elimination in Ore
-- algebras proves multivariate identities, 1998.)
--     choose            the number of choices of k among n
--     numbers_to        the numbers 0, 1, .., n
--     Passing           one term of a passing
--     shift_passings    the terms of a shift over t^a
--     passings          the terms of a letter over t^a
use Rattle.std.specs.Prelude.{ℕ, zero, suc, ◌+◌, Bool, true, false, List, [], ◌∷◌, map}
use Rattle.ore_algebra.specs.Domain.{Domain}
use Rattle.ore_algebra.specs.Ring.{of_nat, power}
use Rattle.ore_monomial.specs.declared.signature.VarKind.{VarKind}
use Rattle.ore_monomial.specs.declared.signature.VarKind.TheVariants.{Differential, Shift, Delay}

-- the number of choices of k among n
unfoldable pub choose : ℕ → ℕ → ℕ
choose n zero = 1
choose zero (suc k) = 0
choose (suc n) (suc k) = choose n k + choose n (suc k)

-- the numbers 0, 1, .., n
unfoldable pub numbers_to : ℕ → List ℕ
numbers_to zero = 0 ∷ []
numbers_to (suc n) = 0 ∷ map suc (numbers_to n)

-- one term of a letter's passing over t^a: its number, by how much t falls, and whether the letter stays
pub record Passing (K : Domain) : Type 0 where
  pub number : K.Number
  pub falls : ℕ
  pub stays : Bool

-- a shift by h over t^a gives, for each j from 0 to a, C(a,j) h^j t^(a-j) with the shift
unfoldable pub shift_passings : (K : Domain) → K.Number → ℕ → List (Passing K)
shift_passings K h a = map (λ j. record { number = K.times (of_nat K.ring (choose a j)) (power K.ring h j); falls = j; stays = true }) (numbers_to a)

-- d t^a = t^a d + a t^(a-1), a delay is a shift by the negative of its step, and all other letters pass as they are
unfoldable pub passings : (K : Domain) → VarKind → ℕ → List (Passing K)
passings K (Differential on) a = record { number = K.one; falls = 0; stays = true } ∷ record { number = of_nat K.ring a; falls = 1; stays = false } ∷ []
passings K (Shift on step) a = shift_passings K (of_nat K.ring step) a
passings K (Delay on step) a = shift_passings K (K.minus (of_nat K.ring step)) a
passings K kind a = record { number = K.one; falls = 0; stays = true } ∷ []
