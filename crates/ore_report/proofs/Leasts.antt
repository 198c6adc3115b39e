-- Where a pair may be treated, one comes next.
--     HasLeast                none has a property, or one of those that have it is least
--     lt_less, not_behind     what the tests of an order say
--     join, same_ones, one    of two properties, of the same one said otherwise, and of one element
--     below_next              a number below the next one
--     in_row, in_rows         of the pairs of a row, and of all
--     some_next               one of the pairs that may be treated comes next
use Rattle.std.proofs.Common.{◌≡◌, ◌⊎◌, inl, inr, ⊎_elim, ℕ, zero, suc, ◌<◌, Bool, true, false, List, length, refl, sym, ap, ◌∙◌, true≢false, arith}
use Rattle.std.specs.Cmp.{IsTotalOrder, on_total, tied_itself}
use Rattle.std.specs.Ordering.{is_gt, is_lt, ordering_reverse}
use Rattle.std.specs.declared.cmp.Ordering.{Ordering}
use Rattle.std.specs.declared.cmp.Ordering.TheVariants.{Less, Equal, Greater}
use Rattle.std.proofs.lemmas.Bool.{cases_lt}
use Rattle.ore_monomial.specs.Term.{Term}
use Rattle.ore_monomial.specs.declared.order.Order.{Order}
use Rattle.ore_monomial.proofs.Orders.{less_upto}
use Rattle.ore_pairs.specs.PairRule.{may_treat}
use Rattle.ore_report.specs.ChainRule.{is_next}
use Rattle.ore_report.specs.Queue.{place_cmp, place_at}
use Rattle.ore_report.proofs.Nexts.{may_within, next_to}
use Rattle.ore_report.proofs.Places.{place_total, pair_place}

lt_less : (r : Ordering) → is_lt r ≡ true → r ≡ Less
lt_less Less h = refl
lt_less Equal h = absurd (true≢false (sym h))
lt_less Greater h = absurd (true≢false (sym h))

not_behind : (r s : Ordering) → s ≡ ordering_reverse r → is_lt r ≡ false → is_gt s ≡ false
not_behind Less s e h = absurd (true≢false h)
not_behind Equal s e h = ap is_gt e
not_behind Greater s e h = ap is_gt e

module _ {K : Type 0} {R : K → K → Ordering} (total : IsTotalOrder R) where
  abbrev pub HasLeast : (K → Type 0) → Type 0
  HasLeast P = ((x : K) → P x → ⊥) ⊎ ((x : K) × P x × ((y : K) → P y → is_lt (R y x) ≡ false))

  same_ones : (P Q : K → Type 0) → ((x : K) → P x → Q x) → ((x : K) → Q x → P x) → HasLeast P → HasLeast Q
  same_ones P Q there back (inl none) = inl (λ x h. none x (back x h))
  same_ones P Q there back (inr (x, h, least)) = inr (x, there x h, λ y k. least y (back y k))

  still : (x y z : K) → is_lt (R y x) ≡ false → is_lt (R z y) ≡ false → is_lt (R z x) ≡ false
  still x y z h k = by (R z x) refl
    where
      by : (r : Ordering) → R z x ≡ r → is_lt r ≡ false
      by Less e = absurd (true≢false (sym (ap is_lt (less_upto total z x y e (not_behind (R y x) (R x y) (total.antisymm x y) h))) ∙ k))
      by Equal e = refl
      by Greater e = refl

  after : (x y z : K) → R y x ≡ Less → is_lt (R z x) ≡ false → is_lt (R z y) ≡ false
  after x y z h k = by (R z y) refl
    where
      by : (r : Ordering) → R z y ≡ r → is_lt r ≡ false
      by Less e = absurd (true≢false (sym (ap is_lt (total.trans z y x e h)) ∙ k))
      by Equal e = refl
      by Greater e = refl

  join : (P Q : K → Type 0) → HasLeast P → HasLeast Q → HasLeast (λ x. P x ⊎ Q x)
  join P Q (inl none) (inl other) = inl (λ x h. ⊎_elim (none x) (other x) h)
  join P Q (inl none) (inr (y, h, least)) = inr (y, inr h, λ z k. ⊎_elim (λ p. absurd (none z p)) (least z) k)
  join P Q (inr (x, h, least)) (inl other) = inr (x, inl h, λ z k. ⊎_elim (least z) (λ q. absurd (other z q)) k)
  join P Q (inr (x, h, least)) (inr (y, k, other)) = by (is_lt (R y x)) refl
    where
      by : (b : Bool) → is_lt (R y x) ≡ b → HasLeast (λ z. P z ⊎ Q z)
      by true e = inr (y, inr k, λ z l. ⊎_elim (λ p. after x y z (lt_less (R y x) e) (least z p)) (other z) l)
      by false e = inr (x, inl h, λ z l. ⊎_elim (least z) (λ q. still x y z e (other z q)) l)

below_next : (k n : ℕ) → k < suc n → (k < n) ⊎ (k ≡ n)
below_next k n l = ⊎_elim inl (λ h. inr (let e : k ≡ n = omega arith in e)) (cases_lt k n)

module _ (o : Order) (leads : List Term) (ps : List (ℕ × ℕ)) where
  abbrev cmp : ℕ × ℕ → ℕ × ℕ → Ordering
  cmp p q = place_cmp (place_at o leads p.0 p.1) (place_at o leads q.0 q.1)

  cmp_total : IsTotalOrder cmp
  cmp_total = on_total (λ (p : ℕ × ℕ). place_at o leads p.0 p.1) place_total

  abbrev IsOf : (ℕ × ℕ → Type 0) → ℕ × ℕ → Type 0
  IsOf P p = P p × (may_treat leads ps p.0 p.1 ≡ true)

  -- of one pair
  one : (i j : ℕ) → HasLeast cmp_total (IsOf (λ p. (p.0 ≡ i) × (p.1 ≡ j)))
  one i j = by (may_treat leads ps i j) refl
    where
      by : (b : Bool) → may_treat leads ps i j ≡ b → HasLeast cmp_total (IsOf (λ p. (p.0 ≡ i) × (p.1 ≡ j)))
      by true e = inr ((i, j), ((refl, refl), e), λ q h. ap is_lt (λ n. cmp (h.0.0 n, h.0.1 n) (i, j)) ∙ ap is_lt (tied_itself cmp_total (i, j)))
      by false e = inl (λ q h. true≢false (sym h.1 ∙ (λ n. may_treat leads ps (h.0.0 n) (h.0.1 n)) ∙ e))

  in_row : (i n : ℕ) → HasLeast cmp_total (IsOf (λ p. (p.0 ≡ i) × (p.1 < n)))
  in_row i zero = inl (λ q h. let l = h.0.1 in omega arith)
  in_row i (suc n) =
      same_ones cmp_total (λ p. IsOf (λ q. (q.0 ≡ i) × (q.1 < n)) p ⊎ IsOf (λ q. (q.0 ≡ i) × (q.1 ≡ n)) p) (IsOf (λ q. (q.0 ≡ i) × (q.1 < suc n)))
      (λ p. ⊎_elim (λ h. ((h.0.0, let l = h.0.1 in omega arith), h.1)) (λ h. ((h.0.0, let e = h.0.1 in omega arith), h.1)))
      (λ p h. ⊎_elim (λ l. inl ((h.0.0, l), h.1)) (λ e. inr ((h.0.0, e), h.1)) (below_next p.1 n h.0.1))
      (join cmp_total (IsOf (λ q. (q.0 ≡ i) × (q.1 < n))) (IsOf (λ q. (q.0 ≡ i) × (q.1 ≡ n))) (in_row i n) (one i n))

  in_rows : (m n : ℕ) → HasLeast cmp_total (IsOf (λ p. (p.0 < m) × (p.1 < n)))
  in_rows zero n = inl (λ q h. let l = h.0.0 in omega arith)
  in_rows (suc m) n =
      same_ones cmp_total (λ p. IsOf (λ q. (q.0 < m) × (q.1 < n)) p ⊎ IsOf (λ q. (q.0 ≡ m) × (q.1 < n)) p) (IsOf (λ q. (q.0 < suc m) × (q.1 < n)))
      (λ p. ⊎_elim (λ h. ((let l = h.0.0 in omega arith, h.0.1), h.1)) (λ h. ((let e = h.0.0 in omega arith, h.0.1), h.1)))
      (λ p h. ⊎_elim (λ l. inl ((l, h.0.1), h.1)) (λ e. inr ((e, h.0.1), h.1)) (below_next p.0 m h.0.0))
      (join cmp_total (IsOf (λ q. (q.0 < m) × (q.1 < n))) (IsOf (λ q. (q.0 ≡ m) × (q.1 < n))) (in_rows m n) (in_row m n))

  pub some_next : (i j : ℕ) → may_treat leads ps i j ≡ true → (x : ℕ) × (y : ℕ) × (is_next o leads ps x y ≡ true)
  some_next i j e = by (in_rows (length leads) (length leads))
    where
      by : HasLeast cmp_total (IsOf (λ p. (p.0 < length leads) × (p.1 < length leads))) → (x : ℕ) × (y : ℕ) × (is_next o leads ps x y ≡ true)
      by (inl none) = absurd (none (i, j) (may_within leads ps i j e, e))
      by (inr (p, h, least)) = (p.0, p.1, next_to o leads ps p.0 p.1 (record { may = h.1; least = λ x y k. ap is_lt (pair_place o leads x y p.0 p.1) ∙ least (x, y) (may_within leads ps x y k, k) }))
