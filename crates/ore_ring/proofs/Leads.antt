-- The lead of a product.
--     IsUpto         q is not greater than m
--     HasDegreeBelow  an operator has no monomial from degree d up
--     Led            an operator is one monomial of degree d, and others of lesser degree
--     times-lead     the lead of a product has the product of the lead monomials and that of the lead coefficients
use Rattle.std.proofs.Common.{◌≡◌, ◌≢◌, ℕ, suc, ◌+◌, ◌<◌, ◌≤◌, Bool, true, false, refl, sym, ap, ◌∙◌, subst, true≢false, arith}
use native.Mathlib.Decide.{dec_lt}
use Rattle.std.specs.declared.cmp.Ordering.{Ordering}
use Rattle.std.specs.declared.cmp.Ordering.TheVariants.{Less, Equal, Greater}
use Rattle.std.specs.Ordering.{is_gt, nat_cmp, ordering_reverse, ordering_then, MatchOrdering}
use Rattle.std.proofs.lemmas.Cmp.{ranked}
use Rattle.std.specs.Cmp.{upto, tied_itself}
use Rattle.ore_algebra.specs.Domain.{Domain}
use Rattle.ore_algebra.specs.Free.{empty_sum, plus, scale, linear_extension, coefficient}
use Rattle.ore_monomial.specs.Monomial.{Monomial, degree, raise, product, plain_cmp, order_cmp}
use Rattle.ore_monomial.specs.declared.order.Order.{Order}
use Rattle.ore_monomial.specs.declared.order.Order.TheVariants.{DegLex, DegRevLex}
use Rattle.ore_monomial.specs.Signature.{Signature, kind_at, coordinate_of, is_acting, IsLawful}
use Rattle.ore_monomial.specs.LetterRule.{Operator, letter, letter_times, monomial_times}
use Rattle.ore_ring.specs.Product.{times}
use Rattle.ore_ring.specs.Lead.{IsLead}
use Rattle.ore_algebra.proofs.DomainLaws as Numbers
use Rattle.ore_algebra.proofs.Orderings.{reversed_greater}
use Rattle.ore_monomial.proofs.Monomials.{degree-raise, degree-product, raise_comm, by_first, by_exponent, IsBelow, product-unit, product_comm, product-cancel, product-raise, order_total, order_apart, order_sum}
use Rattle.ore_monomial.proofs.Letters.{one_term, rule_of, by_rule}
use Rattle.ore_monomial.proofs.Commute.{letter-linear, letter_one, letter_still, letter_clear, letter-raise_own}
use Rattle.ore_monomial.proofs.MonomialProducts.{monomial-linear, monomial_unit, monomial-raise}
use Rattle.ore_monomial.proofs.Operators

-- ---- at most, in an order

abbrev pub IsUpto : Order → Monomial → Monomial → Type 0
IsUpto o q m = is_gt (order_cmp o q m) ≡ false

degree_first : (a b : ℕ) (r : Ordering) → is_gt (ordering_then (nat_cmp a b) r) ≡ false → a ≤ b
degree_first a b r h = by (nat_cmp a b) (ranked a b (nat_cmp a b) refl) h
  where
    by : (c : Ordering) → MatchOrdering c (a < b) (a ≡ b) (b < a) → is_gt (ordering_then c r) ≡ false → a ≤ b
    by Less m h = omega arith
    by Equal m h = omega arith
    by Greater m h = absurd (true≢false h)

pub degree_upto : (o : Order) (q m : Monomial) → IsUpto o q m → degree q ≤ degree m
degree_upto DegLex q m h = degree_first _ _ _ h
degree_upto DegRevLex q m h = degree_first _ _ _ h

pub product_upto : (o : Order) (m' m n' n : Monomial) → IsUpto o m' m → IsUpto o n' n → IsUpto o (product m' n') (product m n)
product_upto o m' m n' n h k = upto (order_total o) (product m' n') (product m n') (product m n) (ap is_gt (order_sum o m' m n') ∙ h)
    (ap is_gt ((λ i. order_cmp o (product_comm m n' i) (product_comm m n i)) ∙ order_sum o n' n m) ∙ k)

pub both_upto : (r : Ordering) → is_gt r ≡ false → is_gt (ordering_reverse r) ≡ false → r ≡ Equal
both_upto Less h k = absurd (true≢false k)
both_upto Equal h k = refl
both_upto Greater h k = absurd (true≢false h)

-- the greatest product is reached by the greatest factors alone
product_reached : (o : Order) (m' m n' n : Monomial) → IsUpto o m' m → IsUpto o n' n → product m' n' ≡ product m n → (m' ≡ m) × (n' ≡ n)
product_reached o m' m n' n h k e =
    let back : IsUpto o m m' = ap is_gt (sym (order_sum o m m' n') ∙ (λ i. order_cmp o (product_comm m n' i) ((e ∙ product_comm m n) i)) ∙ order_sum o n' n m) ∙ k in
    let same : m' ≡ m = order_apart o m' m (both_upto _ h (ap is_gt (sym ((order_total o).antisymm m m')) ∙ back)) in
    (same, product-cancel m n' n (ap (λ p. product p n') (sym same) ∙ e))

-- ---- operators of low degree

module _ (K : Domain) where
  abbrev pub HasDegreeBelow : ℕ → Operator K → Type 0
  HasDegreeBelow d f = (q : Monomial) → d ≤ degree q → coefficient K plain_cmp f q ≡ K.zero

  degree_below-empty_sum : (d : ℕ) → HasDegreeBelow d (empty_sum K plain_cmp)
  degree_below-empty_sum d q h = Operators.coefficient-empty_sum K q

  degree_below-plus : (d : ℕ) (f g : Operator K) → HasDegreeBelow d f → HasDegreeBelow d g → HasDegreeBelow d (plus K plain_cmp f g)
  degree_below-plus d f g a b q h = Operators.coefficient-plus K f g q ∙ (λ i. K.plus (a q h i) (b q h i)) ∙ K.plus_zero _

  degree_below-scale : (d : ℕ) (k : K.Number) (f : Operator K) → HasDegreeBelow d f → HasDegreeBelow d (scale K plain_cmp k f)
  degree_below-scale d k f a q h = Operators.coefficient-scale K k f q ∙ ap (K.times k) (a q h) ∙ Numbers.times_zero K k

  degree_below-one_term : (d : ℕ) (m : Monomial) → degree m < d → HasDegreeBelow d (one_term K m)
  degree_below-one_term d m l q h = Operators.coefficient-other K m K.one q (λ e. let same : degree q ≡ degree m = ap degree e in absurd (omega arith))

  degree_below-more : (d e : ℕ) (f : Operator K) → d ≤ e → HasDegreeBelow d f → HasDegreeBelow e f
  degree_below-more d e f l a q h = a q (omega arith)

  degree_below-linear_extension : (d e : ℕ) (h : Monomial → Operator K) (f : Operator K) → ((m : Monomial) → degree m < d → HasDegreeBelow e (h m)) → HasDegreeBelow d f → HasDegreeBelow e (linear_extension K plain_cmp h f)
  degree_below-linear_extension d e h f a b q l = Operators.coefficient-linear_extension K h f q ∙ Operators.total_vanish K _ f (λ m. by m (dec_lt (degree m) d))
    where
      by : (m : Monomial) → Dec (degree m < d) → K.times (coefficient K plain_cmp f m) (coefficient K plain_cmp (h m) q) ≡ K.zero
      by m (yes s) = ap (K.times _) (a m s q l) ∙ Numbers.times_zero K _
      by m (no n) = ap (λ k. K.times k (coefficient K plain_cmp (h m) q)) (b m (omega arith)) ∙ Numbers.zero_times K _

  -- f is the monomial m and what has lower degree than d
  abbrev pub Led : ℕ → Monomial → Operator K → Type 0
  Led d m f = (r : Operator K) × (f ≡ plus K plain_cmp (one_term K m) r) × HasDegreeBelow d r

module _ (K : Domain) (s : Signature) (lawful : IsLawful s) where
  letter_led : (x : ℕ) → x < 12 → (m : Monomial) → Led K (suc (degree m)) (raise x m) (letter K s x m)
  unfolding by_rule letter_times
  letter_led x xl = by (is_acting (kind_at s x)) refl
    where
      plain : (m : Monomial) → letter K s x m ≡ one_term K (raise x m) → Led K (suc (degree m)) (raise x m) (letter K s x m)
      plain m e = (empty_sum K plain_cmp, e ∙ sym (Operators.plus_zero K _), degree_below-empty_sum K _)

      more : is_acting (kind_at s x) ≡ true → (m : Monomial) → Led K (suc (degree m)) (raise x m) (letter K s x m) → Led K (suc (degree (raise (coordinate_of (kind_at s x)) m))) (raise x (raise (coordinate_of (kind_at s x)) m)) (letter K s x (raise (coordinate_of (kind_at s x)) m))
      more h m ih = (rest, is, low)
        where
          t : ℕ
          t = coordinate_of (kind_at s x)

          tl : t < 12
          tl = let e = (lawful x h).0 in omega arith

          still : is_acting (kind_at s t) ≡ false
          still = ap is_acting (lawful x h).1

          others : Operator K
          others = plus K plain_cmp (scale K plain_cmp (rule_of K (kind_at s x)).alpha (letter K s x m)) (plus K plain_cmp (scale K plain_cmp (rule_of K (kind_at s x)).beta (one_term K m)) (scale K plain_cmp (rule_of K (kind_at s x)).gamma (one_term K (raise t m))))

          rest : Operator K
          rest = plus K plain_cmp (letter_times K s t ih.0) others

          ruled : (r : _) (a b c d : Operator K) → by_rule K r a b c d ≡ plus K plain_cmp a (plus K plain_cmp (scale K plain_cmp r.alpha b) (plus K plain_cmp (scale K plain_cmp r.beta c) (scale K plain_cmp r.gamma d)))
          ruled r a b c d = refl

          is : letter K s x (raise t m) ≡ plus K plain_cmp (one_term K (raise x (raise t m))) rest
          is = letter-raise_own K s lawful x m xl h ∙ ruled _ _ _ _ _
              ∙ ap (λ f. plus K plain_cmp f others) (ap (letter_times K s t) ih.1 ∙ (letter-linear K s t).plus _ _ ∙ ap (λ f. plus K plain_cmp f (letter_times K s t ih.0)) (letter_one K s t (raise x m) ∙ letter_still K s t _ still ∙ ap (one_term K) (raise_comm t x m)))
              ∙ Operators.plus_assoc K _ _ _

          d : ℕ
          d = suc (degree (raise t m))

          dt : degree (raise t m) ≡ suc (degree m)
          dt = degree-raise t m tl

          dx : degree (raise x m) ≡ suc (degree m)
          dx = degree-raise x m xl

          raised : HasDegreeBelow K d (letter_times K s t ih.0)
          raised = degree_below-linear_extension K (suc (degree m)) d (letter K s t) ih.0 (λ n l. subst (HasDegreeBelow K d) (sym (letter_still K s t n still)) (degree_below-one_term K d (raise t n) (let e = degree-raise t n tl in omega (arith, dt)))) ih.2

          itself : HasDegreeBelow K d (letter K s x m)
          itself = subst (HasDegreeBelow K d) (sym ih.1) (degree_below-plus K d _ _ (degree_below-one_term K d (raise x m) (omega (arith, dt, dx))) (degree_below-more K (suc (degree m)) d ih.0 (omega (arith, dt)) ih.2))

          low : HasDegreeBelow K d rest
          low = degree_below-plus K d _ _ raised (degree_below-plus K d _ _ (degree_below-scale K d _ _ itself) (degree_below-plus K d _ _ (degree_below-scale K d _ _ (degree_below-one_term K d m (omega (arith, dt)))) (degree_below-scale K d _ _ (degree_below-one_term K d (raise t m) (omega arith)))))

      by : (c : Bool) → is_acting (kind_at s x) ≡ c → (m : Monomial) → Led K (suc (degree m)) (raise x m) (letter K s x m)
      by false h m = plain m (letter_still K s x m h)
      by true h m = by_exponent (coordinate_of (kind_at s x)) (let e = (lawful x h).0 in omega arith) (λ m. Led K (suc (degree m)) (raise x m) (letter K s x m)) (λ m e. plain m (letter_clear K s x m e)) (more h) m

  letter_within : (x : ℕ) → x < 12 → (d : ℕ) (f : Operator K) → HasDegreeBelow K d f → HasDegreeBelow K (suc d) (letter_times K s x f)
  unfolding letter_times
  letter_within x xl d f h = degree_below-linear_extension K d (suc d) (letter K s x) f (λ m l. by m l (letter_led x xl m)) h
    where
      by : (m : Monomial) → degree m < d → Led K (suc (degree m)) (raise x m) (letter K s x m) → HasDegreeBelow K (suc d) (letter K s x m)
      by m l p = subst (HasDegreeBelow K (suc d)) (sym p.1) (degree_below-plus K (suc d) _ _ (degree_below-one_term K (suc d) (raise x m) (let e = degree-raise x m xl in omega arith)) (degree_below-more K (suc (degree m)) (suc d) p.0 (omega arith) p.2))

  product_led : (m n : Monomial) → Led K (degree m + degree n) (product m n) (monomial_times K s m (one_term K n))
  product_led m n = by_first (λ m. Led K (degree m + degree n) (product m n) (monomial_times K s m (one_term K n)))
      (empty_sum K plain_cmp, monomial_unit K s _ ∙ ap (one_term K) (sym (product-unit n)) ∙ sym (Operators.plus_zero K _), degree_below-empty_sum K _)
      (λ x xl m b ih. more x xl m b ih (letter_led x xl (product m n))) m
    where
      more : (x : ℕ) → x < 12 → (m : Monomial) → IsBelow x m → Led K (degree m + degree n) (product m n) (monomial_times K s m (one_term K n)) → Led K (suc (degree (product m n))) (raise x (product m n)) (letter K s x (product m n)) → Led K (degree (raise x m) + degree n) (product (raise x m) n) (monomial_times K s (raise x m) (one_term K n))
      more x xl m b ih l =
          let e = degree-raise x m xl in let p = degree-product m n in (
            plus K plain_cmp l.0 (letter_times K s x ih.0),
            monomial-raise K s x m _ xl b ∙ ap (letter_times K s x) ih.1 ∙ (letter-linear K s x).plus _ _
                ∙ ap (λ f. plus K plain_cmp f (letter_times K s x ih.0)) (letter_one K s x (product m n) ∙ l.1)
                ∙ Operators.plus_assoc K _ _ _ ∙ ap (λ q. plus K plain_cmp (one_term K q) (plus K plain_cmp l.0 (letter_times K s x ih.0))) (sym (product-raise x m n xl)),
            degree_below-plus K (degree (raise x m) + degree n) _ _ (degree_below-more K (suc (degree (product m n))) _ l.0 (omega arith) l.2)
                (degree_below-more K (suc (degree m + degree n)) _ _ (omega arith) (letter_within x xl (degree m + degree n) ih.0 ih.2)),
          )

  product_at : (m n : Monomial) → coefficient K plain_cmp (monomial_times K s m (one_term K n)) (product m n) ≡ K.one
  product_at m n =
      let l = product_led m n in let p = degree-product m n in
      ap (λ f. coefficient K plain_cmp f (product m n)) l.1 ∙ Operators.coefficient-plus K _ _ _ ∙ (λ i. K.plus (Operators.coefficient-own K (product m n) K.one i) (l.2 (product m n) (omega arith) i)) ∙ K.plus_zero _

  product_off : (m n q : Monomial) → q ≢ product m n → degree (product m n) ≤ degree q → coefficient K plain_cmp (monomial_times K s m (one_term K n)) q ≡ K.zero
  product_off m n q a d =
      let l = product_led m n in let p = degree-product m n in
      ap (λ f. coefficient K plain_cmp f q) l.1 ∙ Operators.coefficient-plus K _ _ _ ∙ (λ i. K.plus (Operators.coefficient-other K (product m n) K.one q a i) (l.2 q (omega arith) i)) ∙ K.plus_zero _

  coefficient-monomial : (m : Monomial) (g : Operator K) (q : Monomial) → coefficient K plain_cmp (monomial_times K s m g) q ≡ Operators.total K (λ n. coefficient K plain_cmp (monomial_times K s m (one_term K n)) q) g
  coefficient-monomial m g q = ap (λ f. coefficient K plain_cmp f q) (Operators.linear_is K (monomial-linear K s m) g) ∙ Operators.coefficient-linear_extension K _ g q

  pub coefficient-times : (f g : Operator K) (q : Monomial) → coefficient K plain_cmp (times K s f g) q ≡ Operators.total K (λ m. coefficient K plain_cmp (monomial_times K s m g) q) f
  unfolding times
  coefficient-times f g q = Operators.coefficient-linear_extension K _ f q

  module _ (o : Order) {f g : Operator K} {m n : Monomial} {j k : K.Number} (a : IsLead K o f m j) (b : IsLead K o g n k) where
    -- a part of the product at q, which is not below the product of the leads, is none where q is not its own product
    part : (m' n' q : Monomial) → IsUpto o (product m n) q → coefficient K plain_cmp f m' ≢ K.zero → coefficient K plain_cmp g n' ≢ K.zero → q ≢ product m' n' → coefficient K plain_cmp (monomial_times K s m' (one_term K n')) q ≡ K.zero
    part m' n' q h u v apart = product_off m' n' q apart (degree_upto o _ _ (upto (order_total o) (product m' n') (product m n) q (product_upto o m' m n' n (a.greatest m' u) (b.greatest n' v)) h))

    off : (x y : K.Number) → (x ≢ K.zero → y ≡ K.zero) → K.times x y ≡ K.zero
    off x y h = by (K.discrete x K.zero)
      where
        by : Dec (x ≡ K.zero) → K.times x y ≡ K.zero
        by (yes e) = ap (λ z. K.times z y) e ∙ Numbers.zero_times K y
        by (no n) = ap (K.times x) (h n) ∙ Numbers.times_zero K x

    above : (q : Monomial) → is_gt (order_cmp o q (product m n)) ≡ true → coefficient K plain_cmp (times K s f g) q ≡ K.zero
    above q h = coefficient-times f g q ∙ Operators.total_vanish K _ f (λ m'. off _ _ (λ u. coefficient-monomial m' g q ∙ Operators.total_vanish K _ g (λ n'. off _ _ (λ v. part m' n' q beyond u v (λ e. true≢false (sym h ∙ ap (λ p. is_gt (order_cmp o p (product m n))) e ∙ product_upto o m' m n' n (a.greatest m' u) (b.greatest n' v)))))))
      where
        beyond : IsUpto o (product m n) q
        beyond = ap is_gt ((order_total o).antisymm (product m n) q) ∙ reversed_greater _ h

    itself : IsUpto o (product m n) (product m n)
    itself = ap is_gt (tied_itself (order_total o) (product m n))

    at_lead : coefficient K plain_cmp (times K s f g) (product m n) ≡ K.times j k
    at_lead =
        coefficient-times f g _
        ∙ Operators.total_only K _ f m (λ m' ne. off _ _ (λ u. coefficient-monomial m' g _ ∙ Operators.total_vanish K _ g (λ n'. off _ _ (λ v. part m' n' _ itself u v (λ e. ne (product_reached o m' m n' n (a.greatest m' u) (b.greatest n' v) (sym e)).0)))))
        ∙ (λ i. K.times (a.stands i) ((coefficient-monomial m g _
        ∙ Operators.total_only K _ g n (λ n' ne. off _ _ (λ v. part m n' _ itself (λ z. a.apart (sym a.stands ∙ z)) v (λ e. ne (sym (product-cancel m n n' e)))))
        ∙ (λ i. K.times (b.stands i) (product_at m n i)) ∙ K.times_one k) i))

    -- the lead of a product is the product of the leads
    pub times-lead : IsLead K o (times K s f g) (product m n) (K.times j k)
    times-lead = record {
      stands = at_lead;
      apart = K.times_apart j k a.apart b.apart;
      greatest = λ q u. by q u (is_gt (order_cmp o q (product m n))) refl;
    }
      where
        by : (q : Monomial) → coefficient K plain_cmp (times K s f g) q ≢ K.zero → (c : Bool) → is_gt (order_cmp o q (product m n)) ≡ c → is_gt (order_cmp o q (product m n)) ≡ false
        by q u true h = absurd (u (above q h))
        by q u false h = h
