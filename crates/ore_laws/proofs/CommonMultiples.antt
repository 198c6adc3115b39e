-- Two nonzero operators of a signature have a nonzero common left multiple and a nonzero common right multiple.
-- The multipliers on the left have exponents up to n, which are unknown coefficients; the products have exponents up
-- to n + d, and are to agree at each monomial, which are equations. For a large n there are fewer equations.
-- (Ore 1933, by linear algebra in a box of monomials.)
--     count                  the number of variables
--     exponent_bound         no exponent of either operator is above it: d above
--     size                   the greatest exponent of the multipliers, n above
--     unknowns, equations    their coefficients; the monomials at which the products have to agree
--     vector                 what an unknown adds to an equation
--     multiplier             of the first operator, and of the second
--     common_left_multiple, common_right_multiple    the theorems
use Rattle.std.proofs.Common.{◌≡◌, ◌≢◌, ⊎_elim, ℕ, suc, ◌+◌, ◌*◌, ◌<◌, ◌≤◌, Bool, true, false, cond, List, ◌++◌, map, length, sym, ap, ◌∙◌, subst, true≢false, arith}
use native.Mathlib.Decide.{dec_lt}
use Rattle.std.proofs.lemmas.List.{length-append, length-map}
use Rattle.ore_algebra.specs.Domain.{Domain, HasInverses}
use Rattle.ore_algebra.specs.Free.{empty_sum, coefficient}
use Rattle.ore_algebra.proofs.DomainLaws as Numbers
use Rattle.ore_algebra.proofs.FreeLaws.{total, total_sum, total_multiple, total_same}
use Rattle.ore_algebra.proofs.Solve.{In, AreDistinct, Solution, solve}
use Rattle.ore_monomial.specs.Monomial.{Monomial, exponent, plain_cmp}
use Rattle.ore_monomial.specs.declared.order.Order.TheVariants.{DegLex}
use Rattle.ore_monomial.specs.Signature.{Signature, IsLawful}
use Rattle.ore_monomial.specs.LetterRule.{Operator, monomial_times}
use Rattle.ore_monomial.proofs.Signatures.{lawful, count_at_most_12}
use Rattle.ore_monomial.proofs.Box.{natural_power, room, box, length-box, box_small, box_past, box_has, apart-box, In-split, In-unmap, apart-append, apart-map}
use Rattle.ore_monomial.proofs.Operators
use Rattle.ore_ring.specs.Product.{times}
use Rattle.ore_ring.specs.Adjoint.{adjoint}
use Rattle.ore_ring.specs.Belongs.{OperatorOf}
use Rattle.ore_ring.proofs.Product.{times-linear_left}
use Rattle.ore_ring.proofs.Leads.{coefficient-times}
use Rattle.ore_ring.proofs.NoZeroDivisor.{no_zero_divisor}
use Rattle.ore_ring.proofs.Support.{AtMost, times_most, bound_of, most_more}
use Rattle.ore_ring.proofs.Belonging.{of_times}
use Rattle.ore_ring.proofs.Adjoints.{adjoint-linear, adjoint-times, adjoint-adjoint}
use Rattle.ore_ring.proofs.AdjointParts.{of_adjoint}
use Rattle.ore_laws.proofs.Unknowns.{Unknown, of_first, of_second, unknown_cmp, unknown_total, unknown_apart, is_on, part, total-part, coefficient-part}

module _ (K : Domain) (s : Signature) (law : IsLawful s) where
  pub adjoint_apart : (f : Operator K) → f ≢ empty_sum K plain_cmp → adjoint K s f ≢ empty_sum K plain_cmp
  adjoint_apart f n e = n (sym (adjoint-adjoint K s law f) ∙ ap (adjoint K s) e ∙ Operators.linear-empty_sum K (adjoint-linear K s))

module _ (K : Domain) where
  balance : (a b : K.Number) → K.plus a (K.times (K.minus K.one) b) ≡ K.zero → a ≡ b
  balance a b e =
      Numbers.plus_cancel K (K.minus b) a b
      (K.plus_comm (K.minus b) a
      ∙ ap (K.plus a) (sym (Numbers.minus_times K K.one b ∙ ap K.minus (Numbers.one_times K b)))
      ∙ e
      ∙ sym (K.plus_comm (K.minus b) b ∙ K.plus_minus b))

  module _ (s : Signature) where
    -- the number of variables
    abbrev count : ℕ
    count = length s.kinds

    -- where a product has a coefficient, no exponent is above the sum of the bounds
    product_in_box : (n d : ℕ) (p h : Operator K) → ((y : ℕ) → AtMost K y n p) → ((y : ℕ) → AtMost K y d h) → OperatorOf K s p → OperatorOf K s h
        → (q : Monomial) → coefficient K plain_cmp (times K s p h) q ≢ K.zero → In q (box count (n + d))
    product_in_box n d p h most_p most_h of_p of_h q apart =
        box_has count (n + d) (count_at_most_12 s) q (λ y. small y (dec_lt (n + d) (exponent q y))) (of_times K s p h of_p of_h q apart)
      where
        small : (y : ℕ) → Dec (n + d < exponent q y) → exponent q y ≤ n + d
        small y (yes l) = absurd (apart (times_most K s (lawful s) y n d p h (most_p y) (most_h y) q l))
        small y (no l) = omega arith

    module _ (inverses : HasInverses K) (f g : Operator K) (of_f : OperatorOf K s f) (of_g : OperatorOf K s g) (apart_f : f ≢ empty_sum K plain_cmp) (apart_g : g ≢ empty_sum K plain_cmp) where
      exponent_bound : ℕ
      exponent_bound = (bound_of K f).0 + (bound_of K g).0

      size : ℕ
      size = (count + count + 1) * exponent_bound

      unknowns : List Unknown
      unknowns = map of_first (box count size) ++ map of_second (box count size)

      equations : List Monomial
      equations = box count (size + exponent_bound)

      vector : Unknown → Monomial → K.Number
      vector i q = cond i.0 (coefficient K plain_cmp (monomial_times K s i.1 f) q) (K.times (K.minus K.one) (coefficient K plain_cmp (monomial_times K s i.1 g) q))

      unknowns_distinct : AreDistinct unknowns
      unfolding unknowns
      unknowns_distinct =
          let distinct = apart-box count size (count_at_most_12 s) in
          apart-append (map of_first (box count size)) (map of_second (box count size))
          (apart-map of_first (box count size) distinct (λ x y h k e. ap (λ (i : Unknown). i.1) e))
          (apart-map of_second (box count size) distinct (λ x y h k e. ap (λ (i : Unknown). i.1) e))
          (λ z h k. let a = In-unmap of_first z (box count size) h in let b = In-unmap of_second z (box count size) k in absurd (true≢false (ap (λ (i : Unknown). i.0) (sym a.2 ∙ b.2))))

      length-unknowns : length unknowns ≡ natural_power (suc size) count + natural_power (suc size) count
      unfolding unknowns
      length-unknowns =
          length-append (map of_first (box count size)) (map of_second (box count size))
          ∙ (λ i. (length-map (box count size) of_first ∙ length-box count size) i + (length-map (box count size) of_second ∙ length-box count size) i)

      room_for : natural_power (suc (size + exponent_bound)) count < natural_power (suc size) count + natural_power (suc size) count
      unfolding size
      room_for =
          let p : size + 1 ≡ suc size = omega arith in
          let q : size + 1 + exponent_bound ≡ suc (size + exponent_bound) = omega arith in
          subst (λ k. natural_power k count < natural_power (suc size) count + natural_power (suc size) count) q (subst (λ k. natural_power (size + 1 + exponent_bound) count < natural_power k count + natural_power k count) p (room exponent_bound count))

      fewer_equations : length equations < length unknowns
      unfolding equations
      fewer_equations =
          let e : length (box count (size + exponent_bound)) ≡ natural_power (suc (size + exponent_bound)) count = length-box count (size + exponent_bound) in
          subst (λ k. k < length unknowns) (sym e) (subst (λ k. natural_power (suc (size + exponent_bound)) count < k) (sym length-unknowns) room_for)

      solution : Solution K inverses unknown_total unknown_apart unknowns equations vector
      solution = solve K inverses unknown_total unknown_apart equations unknowns unknowns_distinct fewer_equations vector

      multiplier : Bool → Operator K
      multiplier b = part K b solution.value

      -- ---- the multipliers are of the box

      multiplier_in_box : (b : Bool) (q : Monomial) → coefficient K plain_cmp (multiplier b) q ≢ K.zero → In q (box count size)
      unfolding multiplier unknowns
      multiplier_in_box b q h =
          ⊎_elim
          (λ k. let r = In-unmap of_first (b, q) (box count size) k in subst (λ m. In m (box count size)) (sym (ap (λ (i : Unknown). i.1) r.2)) r.1)
          (λ k. let r = In-unmap of_second (b, q) (box count size) k in subst (λ m. In m (box count size)) (sym (ap (λ (i : Unknown). i.1) r.2)) r.1)
          (In-split (b, q) (map of_first (box count size)) (map of_second (box count size)) (solution.inside (b, q) (λ e. h (coefficient-part K b solution.value q ∙ e))))

      multiplier_most : (b : Bool) (y : ℕ) → AtMost K y size (multiplier b)
      multiplier_most b y q l = by (K.discrete (coefficient K plain_cmp (multiplier b) q) K.zero)
        where
          by : Dec (coefficient K plain_cmp (multiplier b) q ≡ K.zero) → coefficient K plain_cmp (multiplier b) q ≡ K.zero
          by (yes e) = e
          by (no k) = let p = box_small count size (count_at_most_12 s) q (multiplier_in_box b q k) y in absurd (omega arith)

      multiplier_of : (b : Bool) → OperatorOf K s (multiplier b)
      multiplier_of b m h y l = box_past count size m (multiplier_in_box b m h) y l

      -- ---- the products are the same

      most_f : (y : ℕ) → AtMost K y exponent_bound f
      unfolding exponent_bound
      most_f y = most_more K y (bound_of K f).0 ((bound_of K f).0 + (bound_of K g).0) f (omega arith) ((bound_of K f).1 y)

      most_g : (y : ℕ) → AtMost K y exponent_bound g
      unfolding exponent_bound
      most_g y = most_more K y (bound_of K g).0 ((bound_of K f).0 + (bound_of K g).0) g (omega arith) ((bound_of K g).1 y)

      vector-split : (i : Unknown) (q : Monomial) → vector i q ≡ K.plus (cond (is_on true i.0) (coefficient K plain_cmp (monomial_times K s i.1 f) q) K.zero) (K.times (K.minus K.one) (cond (is_on false i.0) (coefficient K plain_cmp (monomial_times K s i.1 g) q) K.zero))
      unfolding vector
      vector-split (true, m) q = sym (ap (K.plus (coefficient K plain_cmp (monomial_times K s m f) q)) (Numbers.times_zero K _) ∙ K.plus_zero _)
      vector-split (false, m) q = sym (Numbers.zero_plus K _)

      multiplier-times : (b : Bool) (h : Operator K) (q : Monomial) → coefficient K plain_cmp (times K s (multiplier b) h) q ≡ total K unknown_total unknown_apart (λ i. cond (is_on b i.0) (coefficient K plain_cmp (monomial_times K s i.1 h) q) K.zero) solution.value
      unfolding multiplier
      multiplier-times b h q = coefficient-times K s (lawful s) (part K b solution.value) h q ∙ total-part K b (λ m. coefficient K plain_cmp (monomial_times K s m h) q) solution.value

      at_equation : (q : Monomial) → In q equations → coefficient K plain_cmp (times K s (multiplier true) f) q ≡ coefficient K plain_cmp (times K s (multiplier false) g) q
      at_equation q h =
          balance _ _
          ((λ i. K.plus (multiplier-times true f q i) (K.times (K.minus K.one) (multiplier-times false g q i)))
          ∙ ap (K.plus _) (sym (total_multiple K unknown_total unknown_apart (K.minus K.one) _ solution.value))
          ∙ sym (total_sum K unknown_total unknown_apart _ _ solution.value)
          ∙ sym (total_same K unknown_total unknown_apart (λ i. vector i q) _ solution.value (λ i. vector-split i q))
          ∙ solution.solves q h)

      same_products : times K s (multiplier true) f ≡ times K s (multiplier false) g
      unfolding equations
      same_products = Operators.same_sum K _ _ (λ q. by q (K.discrete (coefficient K plain_cmp (times K s (multiplier true) f) q) K.zero) (K.discrete (coefficient K plain_cmp (times K s (multiplier false) g) q) K.zero))
        where
          by : (q : Monomial) → Dec (coefficient K plain_cmp (times K s (multiplier true) f) q ≡ K.zero) → Dec (coefficient K plain_cmp (times K s (multiplier false) g) q ≡ K.zero) → coefficient K plain_cmp (times K s (multiplier true) f) q ≡ coefficient K plain_cmp (times K s (multiplier false) g) q
          by q (yes a) (yes b) = a ∙ sym b
          by q (no n) b = at_equation q (product_in_box size exponent_bound (multiplier true) f (multiplier_most true) most_f (multiplier_of true) of_f q n)
          by q (yes a) (no n) = at_equation q (product_in_box size exponent_bound (multiplier false) g (multiplier_most false) most_g (multiplier_of false) of_g q n)

      multipliers_apart : (multiplier true ≢ empty_sum K plain_cmp) × (multiplier false ≢ empty_sum K plain_cmp)
      unfolding multiplier
      multipliers_apart = by solution.somewhere.0 solution.somewhere.1 solution.apart
        where
          some : (b : Bool) (m : Monomial) → coefficient K unknown_cmp solution.value (b, m) ≢ K.zero → multiplier b ≢ empty_sum K plain_cmp
          some b m h e = h (sym (coefficient-part K b solution.value m) ∙ ap (λ p. coefficient K plain_cmp p m) e ∙ Operators.coefficient-empty_sum K m)

          zero-times : (h : Operator K) → times K s (empty_sum K plain_cmp) h ≡ empty_sum K plain_cmp
          zero-times h = Operators.linear-empty_sum K (times-linear_left K s h)

          by : (b : Bool) (m : Monomial) → coefficient K unknown_cmp solution.value (b, m) ≢ K.zero → (multiplier true ≢ empty_sum K plain_cmp) × (multiplier false ≢ empty_sum K plain_cmp)
          by true m h = (some true m h, λ e. ⊎_elim (some true m h) apart_f (no_zero_divisor K DegLex s (lawful s) (multiplier true) f (same_products ∙ ap (λ p. times K s p g) e ∙ zero-times g)))
          by false m h = (λ e. ⊎_elim (some false m h) apart_g (no_zero_divisor K DegLex s (lawful s) (multiplier false) g (sym same_products ∙ ap (λ p. times K s p f) e ∙ zero-times f)), some false m h)

      pub common_left_multiple : (l : Operator K) × (m : Operator K) × OperatorOf K s l × OperatorOf K s m × (l ≢ empty_sum K plain_cmp) × (m ≢ empty_sum K plain_cmp) × (times K s l f ≡ times K s m g)
      common_left_multiple = (multiplier true, multiplier false, multiplier_of true, multiplier_of false, multipliers_apart.0, multipliers_apart.1, same_products)

    -- ---- on the right, by adjoints

    times-adjoint : (h p : Operator K) → times K s h (adjoint K s p) ≡ adjoint K s (times K s p (adjoint K s h))
    times-adjoint h p = sym (adjoint-times K s (lawful s) p (adjoint K s h) ∙ ap (λ k. times K s k (adjoint K s p)) (adjoint-adjoint K s (lawful s) h))

    pub common_right_multiple : HasInverses K → (f g : Operator K) → OperatorOf K s f → OperatorOf K s g → f ≢ empty_sum K plain_cmp → g ≢ empty_sum K plain_cmp
        → (l : Operator K) × (m : Operator K) × OperatorOf K s l × OperatorOf K s m × (l ≢ empty_sum K plain_cmp) × (m ≢ empty_sum K plain_cmp) × (times K s f l ≡ times K s g m)
    common_right_multiple inverses f g of_f of_g apart_f apart_g =
        let c = common_left_multiple inverses (adjoint K s f) (adjoint K s g) (of_adjoint K s f of_f) (of_adjoint K s g of_g) (adjoint_apart K s (lawful s) f apart_f) (adjoint_apart K s (lawful s) g apart_g) in (
          adjoint K s c.0,
          adjoint K s c.1,
          of_adjoint K s c.0 c.2,
          of_adjoint K s c.1 c.3,
          adjoint_apart K s (lawful s) c.0 c.4,
          adjoint_apart K s (lawful s) c.1 c.5,
          times-adjoint f c.0 ∙ ap (adjoint K s) c.6 ∙ sym (times-adjoint g c.1),
        )
