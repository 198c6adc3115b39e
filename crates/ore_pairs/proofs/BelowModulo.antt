-- Rows of cofactors, weighed by the leads of a basis: each term of a row of cofactors has as its weight the lead of its
-- product with the basis row at its place.
--     weight                   the lead of a monomial times basis row k
--     weight_cmp, shift-weight     weights of one row are ordered as their monomials; a monomial times a weight
--     IsBelow, AreWeightsAtMost        all weights of a row are below t; none is above t
--     below-zero_row, below-row_plus, below-place, below-row_scale, below-row_minus
--     IsSubmodule              rows closed under sums and multiples by operators of the signature
--     IsBelowModulo            a row is a member of such a module and a row below t
--     below_modulo_member, below_modulo_below, below_modulo_zero, below_modulo_number
--     below_modulo-row_plus, below_modulo-row_scale
use Rattle.std.proofs.Common.{◌≡◌, ◌≢◌, ◌⊎◌, inl, inr, ⊎_elim, ℕ, ◌<◌, false, List, length, get_or, refl, sym, ap, ◌∙◌, subst}
use Rattle.std.specs.declared.cmp.Ordering.TheVariants.{Less}
use Rattle.std.specs.Ordering.{is_gt}
use native.Mathlib.Decide.{ℕ_discrete}
use Rattle.ore_algebra.specs.Domain.{Domain}
use Rattle.ore_algebra.specs.Free.{empty_sum, single, coefficient}
use Rattle.ore_monomial.specs.Monomial.{Monomial, unit, product, order_cmp, plain_cmp}
use Rattle.ore_monomial.specs.Term.{Term, term_cmp, shift}
use Rattle.ore_monomial.specs.declared.order.Order.{Order}
use Rattle.ore_monomial.specs.Signature.{Signature, MonomialOf, IsLawful}
use Rattle.ore_monomial.specs.LetterRule.{Operator}
use Rattle.ore_monomial.proofs.Declared.{MonomialOf-unit}
use Rattle.ore_monomial.proofs.Divisors.{product_assoc}
use Rattle.ore_monomial.proofs.Monomials.{order_sum, product-unit}
use Rattle.ore_monomial.proofs.Orders.{upto_less}
use Rattle.ore_monomial.proofs.TermOrder.{term_total, term-shift, term_one_column, same_term}
use Rattle.ore_monomial.proofs.Operators
use Rattle.ore_ring.specs.Belongs.{OperatorOf}
use Rattle.ore_ring.specs.Lead.{IsLead}
use Rattle.ore_ring.specs.Product.{times}
use Rattle.ore_ring.proofs.Belonging.{of_single}
use Rattle.ore_ring.proofs.Leads.{IsUpto, times-lead}
use Rattle.ore_ring.proofs.NoZeroDivisor.{lead_of}
use Rattle.ore_ring.proofs.Product.{times-linear_left, times-linear_right}
use Rattle.ore_rows.specs.Rows.{Row, RowOf, zero_row, row_plus, row_minus, row_scale}
use Rattle.ore_rows.proofs.Differences.{row_minus_scaled}
use Rattle.ore_rows.proofs.RowLaws as Rows
use Rattle.ore_rows.proofs.RowLeads.{lead-single}
use Rattle.ore_rows.proofs.RowLaws.{plus-zero_row}
use Rattle.ore_pairs.specs.Steps.{lead_at}
use Rattle.ore_pairs.proofs.Places.{place, entry-place_same, entry-place_other}

abbrev pub weight : List Term → ℕ → Monomial → Term
weight leads k q = shift q (lead_at leads k)

pub weight_cmp : (o : Order) (leads : List Term) (k : ℕ) (q r : Monomial) → term_cmp o (weight leads k q) (weight leads k r) ≡ order_cmp o q r
weight_cmp o leads k q r = term_one_column o (product q (lead_at leads k).monomial) (product r (lead_at leads k).monomial) (lead_at leads k).column ∙ order_sum o q r (lead_at leads k).monomial

pub shift-weight : (leads : List Term) (w q : Monomial) (k : ℕ) → shift w (weight leads k q) ≡ weight leads k (product w q)
shift-weight leads w q k = same_term _ _ (sym (product_assoc w q (lead_at leads k).monomial)) refl

module _ (K : Domain) where
  sum_apart : (x y : K.Number) → K.plus x y ≢ K.zero → (x ≢ K.zero) ⊎ (y ≢ K.zero)
  sum_apart x y h = by (K.discrete x K.zero)
    where
      by : Dec (x ≡ K.zero) → (x ≢ K.zero) ⊎ (y ≢ K.zero)
      by (yes e) = inr (λ f. h ((λ i. K.plus (e i) (f i)) ∙ K.plus_zero K.zero))
      by (no n) = inl n

  -- the coefficient of the entry at place k
  abbrev pub at_place : Row K → ℕ → Monomial → K.Number
  at_place z k q = coefficient K plain_cmp (get_or z k (empty_sum K plain_cmp)) q

module _ (K : Domain) (o : Order) (leads : List Term) where
  abbrev pub IsBelow : Term → Row K → Type 0
  IsBelow t z = (k : ℕ) (q : Monomial) → at_place K z k q ≢ K.zero → term_cmp o (weight leads k q) t ≡ Less

  abbrev pub AreWeightsAtMost : Term → Row K → Type 0
  AreWeightsAtMost t z = (k : ℕ) (q : Monomial) → at_place K z k q ≢ K.zero → is_gt (term_cmp o (weight leads k q) t) ≡ false

module _ (K : Domain) (s : Signature) (lawful : IsLawful s) (o : Order) (leads : List Term) where
  abbrev Below : Term → Row K → Type 0
  Below t z = IsBelow K o leads t z

  pub below-zero_row : (t : Term) (n : ℕ) → Below t (zero_row K n)
  below-zero_row t n k q h = absurd (h (ap (λ f. coefficient K plain_cmp f q) (Rows.entry-zero_row K s n k) ∙ Operators.coefficient-empty_sum K q))

  pub below-row_plus : (t : Term) (a b : Row K) → length a ≡ length b → Below t a → Below t b → Below t (row_plus K a b)
  below-row_plus t a b e h g k q u = ⊎_elim (h k q) (g k q) (sum_apart K _ _ (λ z. u (ap (λ f. coefficient K plain_cmp f q) (Rows.entry-row_plus K s a b k e) ∙ Operators.coefficient-plus K _ _ q ∙ z)))

  pub below-place : (t : Term) (n k : ℕ) (f : Operator K) → k < n → ((q : Monomial) → coefficient K plain_cmp f q ≢ K.zero → term_cmp o (weight leads k q) t ≡ Less) → Below t (place K s n k f)
  below-place t n k f l h j q u = by (ℕ_discrete j k)
    where
      by : Dec (j ≡ k) → term_cmp o (weight leads j q) t ≡ Less
      by (yes e) = subst (λ j. at_place K (place K s n k f) j q ≢ K.zero → term_cmp o (weight leads j q) t ≡ Less) (sym e) (λ v. h q (λ z. v (ap (λ f. coefficient K plain_cmp f q) (entry-place_same K s lawful n k f l) ∙ z))) u
      by (no a) = absurd (u (ap (λ f. coefficient K plain_cmp f q) (entry-place_other K s lawful n k j f a) ∙ Operators.coefficient-empty_sum K q))

  -- a monomial of a term times an operator is at most a product with one of the operator
  from_factor : (w : Monomial) (j : K.Number) (f : Operator K) (q : Monomial) → coefficient K plain_cmp (times K s (single K plain_cmp w j) f) q ≢ K.zero → (p : Monomial) × (coefficient K plain_cmp f p ≢ K.zero) × IsUpto o q (product w p)
  from_factor w j f q h = by (K.discrete j K.zero) (lead_of K o f)
    where
      by : Dec (j ≡ K.zero) → (f ≡ empty_sum K plain_cmp) ⊎ ((m : Monomial) × IsLead K o f m (coefficient K plain_cmp f m)) → (p : Monomial) × (coefficient K plain_cmp f p ≢ K.zero) × IsUpto o q (product w p)
      by (yes e) l = absurd (h (ap (λ g. coefficient K plain_cmp (times K s g f) q) (ap (single K plain_cmp w) e ∙ Operators.single_zero K w) ∙ ap (λ g. coefficient K plain_cmp g q) (Operators.linear-empty_sum K (times-linear_left K s f)) ∙ Operators.coefficient-empty_sum K q))
      by (no a) (inl e) = absurd (h (ap (λ g. coefficient K plain_cmp (times K s (single K plain_cmp w j) g) q) e ∙ ap (λ g. coefficient K plain_cmp g q) (Operators.linear-empty_sum K (times-linear_right K s (single K plain_cmp w j))) ∙ Operators.coefficient-empty_sum K q))
      by (no a) (inr (p, b)) = (p, b.apart, (times-lead K s lawful o (lead-single K o w j a) b).greatest q h)

  pub below-row_scale : (t : Term) (w : Monomial) (j : K.Number) (z : Row K) → Below t z → Below (shift w t) (row_scale K s (single K plain_cmp w j) z)
  below-row_scale t w j z h k q u =
      let c = from_factor w j (get_or z k (empty_sum K plain_cmp)) q (λ e. u (ap (λ f. coefficient K plain_cmp f q) (Rows.entry-row_scale K s (single K plain_cmp w j) z k) ∙ e)) in
      upto_less (term_total o) (weight leads k q) (weight leads k (product w c.0)) (shift w t)
      (ap is_gt (weight_cmp o leads k q (product w c.0)) ∙ c.2)
      (ap (λ v. term_cmp o v (shift w t)) (sym (shift-weight leads w c.0 k)) ∙ term-shift o w (weight leads k c.0) t ∙ h k c.0 c.1)

  pub shift_unit : (t : Term) → shift unit t ≡ t
  shift_unit t = same_term _ _ (product-unit t.monomial) refl

  below_number : (t : Term) (j : K.Number) (z : Row K) → Below t z → Below t (row_scale K s (single K plain_cmp unit j) z)
  below_number t j z h = subst (λ t. Below t (row_scale K s (single K plain_cmp unit j) z)) (shift_unit t) (below-row_scale t unit j z h)

  pub below-row_minus : (t : Term) (a b : Row K) → length a ≡ length b → Below t a → Below t b → Below t (row_minus K a b)
  below-row_minus t a b e h g = subst (Below t) (sym (row_minus_scaled K s lawful a b)) (below-row_plus t a _ (e ∙ sym (Rows.length-row_scale K s lawful _ b)) h (below_number t (K.minus K.one) b g))

-- ---- rows that are in a module but for what is below t

-- N is a module of rows of n entries, over the operators of the signature
pub record IsSubmodule (K : Domain) (s : Signature) (n : ℕ) (N : Row K → Type 0) : Type 0 where
  pub long : (r : Row K) → N r → length r ≡ n
  pub has_zero : N (zero_row K n)
  pub has_sum : (r q : Row K) → N r → N q → N (row_plus K r q)
  pub has_multiple : (d : Operator K) (r : Row K) → OperatorOf K s d → N r → N (row_scale K s d r)

-- z is a member of N and a row of the signature below t
pub record IsBelowModulo (K : Domain) (s : Signature) (o : Order) (leads : List Term) (n : ℕ) (N : Row K → Type 0) (t : Term) (z : Row K) : Type 0 where
  pub part : Row K
  pub rest : Row K
  pub member : N part
  pub long : length rest ≡ n
  pub of : RowOf K s rest
  pub low : IsBelow K o leads t rest
  pub is : z ≡ row_plus K part rest

module _ (K : Domain) (s : Signature) (lawful : IsLawful s) (o : Order) (leads : List Term) (n : ℕ) (N : Row K → Type 0) (sub : IsSubmodule K s n N) where
  abbrev BelowModulo : Term → Row K → Type 0
  BelowModulo t z = IsBelowModulo K s o leads n N t z

  pub below_modulo_member : (t : Term) (z : Row K) → N z → BelowModulo t z
  below_modulo_member t z h = record { part = z; rest = zero_row K n; member = h; long = Rows.length-zero_row K s lawful n; of = Rows.of_zero_row K s n; low = below-zero_row K s lawful o leads t n; is = sym (plus-zero_row K n z (sub.long z h)) }

  pub below_modulo_below : (t : Term) (z : Row K) → length z ≡ n → RowOf K s z → IsBelow K o leads t z → BelowModulo t z
  below_modulo_below t z l oz h = record { part = zero_row K n; rest = z; member = sub.has_zero; long = l; of = oz; low = h; is = sym (Rows.zero_row_plus K n z l) }

  pub below_modulo_zero : (t : Term) → BelowModulo t (zero_row K n)
  below_modulo_zero t = below_modulo_member t _ sub.has_zero

  pub below_modulo-row_plus : (t : Term) (a b : Row K) → BelowModulo t a → BelowModulo t b → BelowModulo t (row_plus K a b)
  below_modulo-row_plus t a b h g = record {
    part = row_plus K h.part g.part;
    rest = row_plus K h.rest g.rest;
    member = sub.has_sum h.part g.part h.member g.member;
    long = Rows.length-row_plus K s lawful n h.rest g.rest h.long g.long;
    of = Rows.of_row_plus K s h.rest g.rest h.of g.of;
    low = below-row_plus K s lawful o leads t h.rest g.rest (h.long ∙ sym g.long) h.low g.low;
    is = (λ i. row_plus K (h.is i) (g.is i)) ∙ Rows.row_swap K _ _ _ _;
  }

  pub below_modulo-row_scale : (t : Term) (w : Monomial) (j : K.Number) (z : Row K) → MonomialOf s w → BelowModulo t z → BelowModulo (shift w t) (row_scale K s (single K plain_cmp w j) z)
  below_modulo-row_scale t w j z ow h =
      let od : OperatorOf K s (single K plain_cmp w j) = of_single K s w j ow in
      record {
        part = row_scale K s (single K plain_cmp w j) h.part;
        rest = row_scale K s (single K plain_cmp w j) h.rest;
        member = sub.has_multiple (single K plain_cmp w j) h.part od h.member;
        long = Rows.length-row_scale K s lawful _ h.rest ∙ h.long;
        of = Rows.of_row_scale K s _ h.rest od h.of;
        low = below-row_scale K s lawful o leads t w j h.rest h.low;
        is = ap (row_scale K s (single K plain_cmp w j)) h.is ∙ Rows.scale-row_plus K s _ h.part h.rest;
      }

  pub below_modulo_number : (t : Term) (j : K.Number) (z : Row K) → BelowModulo t z → BelowModulo t (row_scale K s (single K plain_cmp unit j) z)
  below_modulo_number t j z h = subst (λ t. BelowModulo t (row_scale K s (single K plain_cmp unit j) z)) (shift_unit K s lawful o leads t) (below_modulo-row_scale t unit j z (MonomialOf-unit s) h)
