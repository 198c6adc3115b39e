-- What a row of cofactors times the basis has at a term t is moved to one place, whose weight is t.
--     moved                    the row, with what its product has at t taken away at that place
--     moved_nothing            a row whose product has nothing at t stays
--     moved-row_plus           it is additive
--     below_modulo-moved               of a row whose weights are at most t, the moved row is in N but for what is below t
use Rattle.std.proofs.Common.{◌≡◌, ◌≢◌, ◌⊎◌, inl, inr, ℕ, ◌<◌, false, List, length, get_or, refl, sym, ap, ◌∙◌, subst, true≢false}
use Rattle.std.specs.declared.cmp.Ordering.{Ordering}
use Rattle.std.specs.declared.cmp.Ordering.TheVariants.{Less, Equal, Greater}
use Rattle.std.specs.Ordering.{is_gt, ordering_reverse}
use Rattle.ore_algebra.specs.Domain.{Domain}
use Rattle.ore_algebra.specs.Free.{empty_sum, single, coefficient}
use Rattle.ore_algebra.proofs.DomainLaws as Numbers
use Rattle.ore_monomial.specs.Monomial.{Monomial, unit, plain_cmp}
use Rattle.ore_monomial.specs.Term.{Term, term_cmp}
use Rattle.ore_monomial.specs.declared.order.Order.{Order}
use Rattle.ore_monomial.specs.Signature.{Signature, MonomialOf, IsLawful}
use Rattle.ore_monomial.specs.LetterRule.{Operator}
use Rattle.ore_monomial.proofs.Orders.{upto_less}
use Rattle.ore_monomial.proofs.TermOrder.{term_total, term_apart}
use Rattle.ore_monomial.proofs.Operators
use Rattle.ore_ring.specs.Belongs.{OperatorOf}
use Rattle.ore_ring.specs.Lead.{IsLead}
use Rattle.ore_ring.specs.Product.{times}
use Rattle.ore_ring.proofs.NoZeroDivisor.{lead_of}
use Rattle.ore_rows.specs.Rows.{Row, RowOf, AreLong, zero_row, row_plus, row_minus, row_scale}
use Rattle.ore_rows.specs.RowLead.{coefficient_at}
use Rattle.ore_rows.proofs.Differences.{number-times, row_minus_scaled}
use Rattle.ore_rows.proofs.RowLaws as Rows
use Rattle.ore_rows.proofs.RowLaws.{row_comm, plus-zero_row}
use Rattle.ore_pairs.specs.Steps.{row_at, lead_at, AreLeads}
use Rattle.ore_pairs.proofs.RowSums.{row_assoc, of_entry, scale-row_minus}
use Rattle.ore_pairs.proofs.Places.{place, of_place, length-place, place_none, place-plus, scale-place, by_places}
use Rattle.ore_pairs.proofs.Tails.{tail, term_and_tail, of_tail, tail_below}
use Rattle.ore_pairs.proofs.BelowModulo.{weight, weight_cmp, IsBelow, AreWeightsAtMost, below-place, IsSubmodule, IsBelowModulo, below_modulo_below, below_modulo_zero, below_modulo-row_plus, below_modulo_number}
use Rattle.ore_pairs.proofs.Close.{difference, AreClose}
use Rattle.ore_pairs.proofs.Products.{at, at-zero_row, at-row_plus, at-place, lead-product}

reversed : (c : Ordering) → c ≡ Less → is_gt (ordering_reverse c) ≡ false → ⊥
reversed Less e h = true≢false h
reversed Equal e h = cc
reversed Greater e h = cc

module _ (K : Domain) (s : Signature) (lawful : IsLawful s) (o : Order) (p : ℕ) (basis : List (Row K)) (leads : List Term) (long : AreLong K p basis) (monic : AreLeads K o basis leads) where
  abbrev n : ℕ
  n = length basis

  abbrev term : Monomial → K.Number → Operator K
  term q x = single K plain_cmp q x

  abbrev number : K.Number → Operator K
  number x = single K plain_cmp unit x

  -- what the product has at t
  abbrev found : Term → Row K → K.Number
  found t z = at K s lawful o p basis leads long monic t z

  minus_zero : K.minus K.zero ≡ K.zero
  minus_zero = sym (Numbers.zero_plus K _) ∙ K.plus_minus K.zero

  minus-plus : (x y : K.Number) → K.minus (K.plus x y) ≡ K.plus (K.minus x) (K.minus y)
  minus-plus x y = Numbers.plus_cancel K (K.plus x y) _ _ (K.plus_minus (K.plus x y) ∙ sym (Numbers.plus_swap K x y (K.minus x) (K.minus y) ∙ (λ i. K.plus (K.plus_minus x i) (K.plus_minus y i)) ∙ K.plus_zero K.zero))

  number-term : (q : Monomial) (x y : K.Number) → times K s (number x) (term q y) ≡ term q (K.times x y)
  number-term q x y = number-times K s lawful x _ ∙ Operators.scale-single K x y q

  module _ (N : Row K → Type 0) (sub : IsSubmodule K s n N) (t : Term) (k₀ : ℕ) (q₀ : Monomial) (declared : MonomialOf s q₀) (is : weight leads k₀ q₀ ≡ t) where
    abbrev BelowModulo : Row K → Type 0
    BelowModulo z = IsBelowModulo K s o leads n N t z

    abbrev IsCloseTo : ℕ → Type 0
    IsCloseTo k = AreClose K s lawful o leads n N sub k k₀

    abbrev moved : Row K → Row K
    moved z = row_plus K z (place K s n k₀ (term q₀ (K.minus (found t z))))

    pub moved_nothing : (z : Row K) → length z ≡ n → found t z ≡ K.zero → moved z ≡ z
    moved_nothing z l e = ap (λ c. row_plus K z (place K s n k₀ (term q₀ c))) (ap K.minus e ∙ minus_zero) ∙ ap (λ f. row_plus K z (place K s n k₀ f)) (Operators.single_zero K q₀) ∙ ap (row_plus K z) (place_none K s n k₀) ∙ plus-zero_row K n z l

    moved-row_plus : (a b : Row K) → length a ≡ length b → moved (row_plus K a b) ≡ row_plus K (moved a) (moved b)
    moved-row_plus a b e =
        ap (λ f. row_plus K (row_plus K a b) (place K s n k₀ f))
        (ap (λ c. term q₀ (K.minus c)) (at-row_plus K s lawful o p basis leads long monic t a b e)
        ∙ ap (term q₀) (minus-plus (found t a) (found t b))
        ∙ Operators.single-plus K q₀ (K.minus (found t a)) (K.minus (found t b)))
        ∙ ap (row_plus K (row_plus K a b)) (place-plus K s n k₀ _ _) ∙ Rows.row_swap K a b _ _

    -- one entry, whose lead has the weight t
    below_modulo_lead : (k : ℕ) → k < n → IsCloseTo k → (f : Operator K) (m : Monomial) → OperatorOf K s f → weight leads k m ≡ t → IsLead K o f m (coefficient K plain_cmp f m) → BelowModulo (moved (place K s n k f))
    below_modulo_lead k kl close f m of e a = subst BelowModulo (sym split)
        (below_modulo-row_plus K s lawful o leads n N sub t _ _
        (below_modulo_number K s lawful o leads n N sub t j _ both)
        (below_modulo_below K s lawful o leads n N sub t _ (length-place K s lawful n k rest) (of_place K s n k rest (of_tail K s f m j of om)) low))
      where
        j : K.Number
        j = coefficient K plain_cmp f m

        om : MonomialOf s m
        om = of m a.apart

        rest : Operator K
        rest = tail K f m j

        both : BelowModulo (difference K s n k m k₀ q₀)
        both = subst (λ u. IsBelowModulo K s o leads n N u (difference K s n k m k₀ q₀)) e (close m q₀ om declared (e ∙ sym is))

        here : found t (place K s n k f) ≡ j
        here = at-place K s lawful o p basis leads long monic t k f kl ∙ ap (coefficient_at K (row_scale K s f (row_at basis k))) (sym e) ∙ (lead-product K s lawful o p basis leads long monic k f m j kl a).stands ∙ K.times_one j

        opposite : (r : Row K) → row_minus K r (place K s n k₀ (term q₀ j)) ≡ row_plus K r (place K s n k₀ (term q₀ (K.minus j)))
        opposite r = row_minus_scaled K s lawful r _ ∙ ap (row_plus K r) (scale-place K s lawful _ n k₀ _ ∙ ap (place K s n k₀) (number-term q₀ (K.minus K.one) j ∙ ap (term q₀) (Numbers.minus_times K K.one j ∙ ap K.minus (Numbers.one_times K j))))

        placed : (i : ℕ) (q : Monomial) → row_scale K s (number j) (place K s n i (term q K.one)) ≡ place K s n i (term q j)
        placed i q = scale-place K s lawful _ n i _ ∙ ap (place K s n i) (number-term q j K.one ∙ ap (term q) (K.times_one j))

        scaled : row_scale K s (number j) (difference K s n k m k₀ q₀) ≡ row_plus K (place K s n k (term m j)) (place K s n k₀ (term q₀ (K.minus j)))
        scaled = scale-row_minus K s _ _ _ ∙ (λ i. row_minus K (placed k m i) (placed k₀ q₀ i)) ∙ opposite (place K s n k (term m j))

        split : moved (place K s n k f) ≡ row_plus K (row_scale K s (number j) (difference K s n k m k₀ q₀)) (place K s n k rest)
        split = ap (λ c. row_plus K (place K s n k f) (place K s n k₀ (term q₀ (K.minus c)))) here
            ∙ ap (λ r. row_plus K r (place K s n k₀ (term q₀ (K.minus j)))) (ap (place K s n k) (sym (term_and_tail K f m j)) ∙ place-plus K s n k _ rest)
            ∙ row_assoc K _ _ _ ∙ ap (row_plus K (place K s n k (term m j))) (row_comm K _ _) ∙ sym (row_assoc K _ _ _)
            ∙ ap (λ r. row_plus K r (place K s n k rest)) (sym scaled)

        low : IsBelow K o leads t (place K s n k rest)
        low = below-place K s lawful o leads t n k rest kl (λ q u. ap (term_cmp o (weight leads k q)) (sym e) ∙ weight_cmp o leads k q m ∙ tail_below K o f m j a q u)

    below_modulo_unmoved : (z : Row K) → length z ≡ n → found t z ≡ K.zero → BelowModulo z → BelowModulo (moved z)
    below_modulo_unmoved z l e h = subst BelowModulo (sym (moved_nothing z l e)) h

    below_modulo_blank : BelowModulo (moved (zero_row K n))
    below_modulo_blank = below_modulo_unmoved _ (Rows.length-zero_row K s lawful n) (at-zero_row K s lawful o p basis leads long monic t) (below_modulo_zero K s lawful o leads n N sub t)

    abbrev IsUnder : ℕ → Operator K → Type 0
    IsUnder k f = (q : Monomial) → coefficient K plain_cmp f q ≢ K.zero → is_gt (term_cmp o (weight leads k q) t) ≡ false

    -- one entry, whose lead has a weight below t
    below_modulo_less : (k : ℕ) → k < n → (f : Operator K) (m : Monomial) → OperatorOf K s f → term_cmp o (weight leads k m) t ≡ Less → IsLead K o f m (coefficient K plain_cmp f m) → BelowModulo (moved (place K s n k f))
    below_modulo_less k kl f m of e a =
        below_modulo_unmoved _ (length-place K s lawful n k f) (by (K.discrete (found t (place K s n k f)) K.zero))
        (below_modulo_below K s lawful o leads n N sub t _ (length-place K s lawful n k f) (of_place K s n k f of)
        (below-place K s lawful o leads t n k f kl (λ q u. upto_less (term_total o) (weight leads k q) (weight leads k m) t (ap is_gt (weight_cmp o leads k q m) ∙ a.greatest q u) e)))
      where
        by : Dec (found t (place K s n k f) ≡ K.zero) → found t (place K s n k f) ≡ K.zero
        by (yes z) = z
        by (no d) =
            let lead = lead-product K s lawful o p basis leads long monic k f m _ kl a in
            let above = lead.greatest t (λ z. d (at-place K s lawful o p basis leads long monic t k f kl ∙ z)) in
            absurd (reversed (term_cmp o (weight leads k m) t) e (ap is_gt (sym ((term_total o).antisymm t (weight leads k m))) ∙ above))

    below_modulo_place : (k : ℕ) → k < n → ((lead_at leads k).column ≡ (lead_at leads k₀).column → IsCloseTo k) → (f : Operator K) → OperatorOf K s f → IsUnder k f → BelowModulo (moved (place K s n k f))
    below_modulo_place k kl close f of h = by (lead_of K o f)
      where
        compared : (m : Monomial) → IsLead K o f m (coefficient K plain_cmp f m) → (c : Ordering) → term_cmp o (weight leads k m) t ≡ c → BelowModulo (moved (place K s n k f))
        compared m a Less e = below_modulo_less k kl f m of e a
        compared m a Equal e = let same = term_apart o (weight leads k m) t e in below_modulo_lead k kl (close (ap (λ t. t.column) (same ∙ sym is))) f m of same a
        compared m a Greater e = absurd (true≢false (ap is_gt (sym e) ∙ h m a.apart))

        by : (f ≡ empty_sum K plain_cmp) ⊎ ((m : Monomial) × IsLead K o f m (coefficient K plain_cmp f m)) → BelowModulo (moved (place K s n k f))
        by (inl e) = subst (λ z. BelowModulo (moved z)) (sym (ap (place K s n k) e ∙ place_none K s n k)) below_modulo_blank
        by (inr (m, a)) = compared m a (term_cmp o (weight leads k m) t) refl

    pub below_modulo-moved : (z : Row K) → length z ≡ n → RowOf K s z → AreWeightsAtMost K o leads t z → ((k : ℕ) → k < n → (lead_at leads k).column ≡ (lead_at leads k₀).column → IsCloseTo k) → BelowModulo (moved z)
    below_modulo-moved z l oz h close = by_places K s lawful (λ z. BelowModulo (moved z)) n z l
        below_modulo_blank
        (λ a b la lb x y. subst BelowModulo (sym (moved-row_plus a b (la ∙ sym lb))) (below_modulo-row_plus K s lawful o leads n N sub t _ _ x y))
        (λ k kl. below_modulo_place k kl (close k kl) (get_or z k (empty_sum K plain_cmp)) (of_entry K s z k oz) (h k))
