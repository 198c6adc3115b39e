-- Operators of a signature are closed under the operations.
--     of_none, of_single, of_plus, of_scale    zero, one term, sums, multiples
--     of_times                                 products
use Rattle.std.proofs.Common.{◌≡◌, ℕ, ◌<◌, ◌≤◌, length, arith}
use native.Mathlib.Decide.{dec_lt}
use Rattle.ore_algebra.specs.Domain.{Domain}
use Rattle.ore_algebra.specs.Free.{empty_sum, single, plus, scale, coefficient}
use Rattle.ore_monomial.specs.Monomial.{Monomial, exponent, plain_cmp}
use Rattle.ore_monomial.specs.Signature.{Signature, MonomialOf}
use Rattle.ore_monomial.specs.LetterRule.{Operator}
use Rattle.ore_monomial.proofs.Signatures.{lawful}
use Rattle.ore_ring.specs.Product.{times}
use Rattle.ore_ring.specs.Belongs.{OperatorOf}
use Rattle.ore_ring.proofs.Support.{AtMost, most_none, most_plus, most_scale, most_single, times_most}

module _ (K : Domain) (s : Signature) where
  -- no variable past the declared ones has an exponent above 0
  abbrev pub IsClear : Operator K → Type 0
  IsClear f = (y : ℕ) → length s.kinds ≤ y → AtMost K y 0 f

  pub clear_of : (f : Operator K) → OperatorOf K s f → IsClear f
  clear_of f h y l q p = by (K.discrete (coefficient K plain_cmp f q) K.zero)
    where
      by : Dec (coefficient K plain_cmp f q ≡ K.zero) → coefficient K plain_cmp f q ≡ K.zero
      by (yes e) = e
      by (no n) = let z : exponent q y ≡ 0 = h q n y l in absurd (omega arith)

  pub of_clear : (f : Operator K) → IsClear f → OperatorOf K s f
  of_clear f h m n y l = by (dec_lt 0 (exponent m y))
    where
      by : Dec (0 < exponent m y) → exponent m y ≡ 0
      by (yes p) = absurd (n (h y l m p))
      by (no q) = omega arith

  pub of_none : OperatorOf K s (empty_sum K plain_cmp)
  of_none = of_clear _ (λ y l. most_none K y 0)

  pub of_single : (m : Monomial) (k : K.Number) → MonomialOf s m → OperatorOf K s (single K plain_cmp m k)
  of_single m k h = of_clear _ (λ y l. most_single K y 0 m k (let z : exponent m y ≡ 0 = h y l in omega arith))

  pub of_plus : (f g : Operator K) → OperatorOf K s f → OperatorOf K s g → OperatorOf K s (plus K plain_cmp f g)
  of_plus f g a b = of_clear _ (λ y l. most_plus K y 0 f g (clear_of f a y l) (clear_of g b y l))

  pub of_scale : (k : K.Number) (f : Operator K) → OperatorOf K s f → OperatorOf K s (scale K plain_cmp k f)
  of_scale k f a = of_clear _ (λ y l. most_scale K y 0 k f (clear_of f a y l))

  pub of_times : (f g : Operator K) → OperatorOf K s f → OperatorOf K s g → OperatorOf K s (times K s f g)
  of_times f g a b = of_clear _ (λ y l. times_most K s (lawful s) y 0 0 f g (clear_of f a y l) (clear_of g b y l))
