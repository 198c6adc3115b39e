-- More unknowns than equations: over a domain with inverses, some combination of the unknowns is not none and is
-- taken to none by each of finitely many functionals. One functional at a time takes away one unknown.
--     In, AreDistinct      membership in a list; a list with no member twice
--     Pivot             a member of a list at which P holds, and the rest of the list
--     Solution          a combination of some of the unknowns that solves all equations
--     solve             the theorem
use Rattle.std.proofs.Common.{◌≡◌, ◌≢◌, ◌⊎◌, inl, inr, ⊎_elim, suc, ◌<◌, Bool, true, false, List, [], ◌∷◌, length, refl, sym, ap, ◌∙◌, subst, true≢false, arith}
use Rattle.std.specs.declared.cmp.Ordering.{Ordering}
use Rattle.std.specs.Cmp.{IsTotalOrder, tied_itself}
use Rattle.std.specs.Ordering.{eq_by_cmp, is_eq}
use Rattle.std.specs.FinMap.{IsAntisymmetric}
use Rattle.ore_algebra.specs.Domain.{Domain, HasInverses}
use Rattle.ore_algebra.specs.Free.{Free, coefficient, plus, single}
use Rattle.ore_algebra.proofs.DomainLaws as Numbers
use Rattle.ore_algebra.proofs.FreeLaws.{same_key, total, total-plus, total-single, total_sum, total_multiple, total_same, total_vanish, coefficient-plus, coefficient-own, coefficient-other}

abbrev pub In : {I : Type 0} → I → List I → Type 0
In j [] = ⊥
In j (i ∷ is) = (j ≡ i) ⊎ In j is

abbrev pub AreDistinct : {I : Type 0} → List I → Type 0
AreDistinct [] = Unit {0}
AreDistinct (i ∷ is) = (¬ (In i is)) × AreDistinct is

-- one member of a list taken out, at which P holds
record Pivot {I : Type 0} (P : I → Type 0) (is : List I) : Type 0 where
  at : I
  rest : List I
  holds : P at
  member : In at is
  gone : ¬ (In at rest)
  fewer : length is ≡ suc (length rest)
  apart : AreDistinct rest
  within : (j : I) → In j rest → In j is
  others : (j : I) → In j is → (j ≡ at) ⊎ In j rest

pivot : {I : Type 0} (P : I → Type 0) → ((i : I) → Dec (P i)) → (is : List I) → AreDistinct is → ((i : I) → In i is → ¬ (P i)) ⊎ Pivot P is
pivot P dec [] a = inl (λ i h p. h)
pivot {I} P dec (i ∷ is) a = by (dec i) (pivot P dec is a.1)
  where
    by : Dec (P i) → ((j : I) → In j is → ¬ (P j)) ⊎ Pivot P is → ((j : I) → In j (i ∷ is) → ¬ (P j)) ⊎ Pivot P (i ∷ is)
    by (yes p) r = inr record { at = i; rest = is; holds = p; member = inl refl; gone = a.0; fewer = refl; apart = a.1; within = λ j h. inr h; others = λ j h. h }
    by (no n) (inl none) = inl (λ j h. ⊎_elim (λ e. subst (λ k. ¬ (P k)) (sym e) n) (λ k. none j k) h)
    by (no n) (inr v) = inr record {
      at = v.at;
      rest = i ∷ v.rest;
      holds = v.holds;
      member = inr v.member;
      gone = λ h. ⊎_elim (λ e. a.0 (subst (λ k. In k is) e v.member)) v.gone h;
      fewer = ap suc v.fewer;
      apart = (λ h. a.0 (v.within i h), v.apart);
      within = λ j h. ⊎_elim inl (λ k. inr (v.within j k)) h;
      others = λ j h. ⊎_elim (λ e. inr (inl e)) (λ k. ⊎_elim inl (λ l. inr (inr l)) (v.others j k)) h;
    }

abbrev opposite : (K : Domain) → K.Number
opposite K = K.minus K.one

module _ (K : Domain) {I : Type 0} {R : I → I → Ordering} (o : IsTotalOrder R) (same : IsAntisymmetric R) where
  dec_key : (j i : I) → Dec (j ≡ i)
  dec_key j i = by (eq_by_cmp R j i) refl
    where
      by : (b : Bool) → eq_by_cmp R j i ≡ b → Dec (j ≡ i)
      by true e = yes (same_key K o same j i e)
      by false e = no (λ p. true≢false (sym (ap is_eq (tied_itself o i)) ∙ ap (λ k. eq_by_cmp R k i) (sym p) ∙ e))

module _ (K : Domain) (inverses : HasInverses K) {I Q : Type 0} {R : I → I → Ordering} (o : IsTotalOrder R) (same : IsAntisymmetric R) where
  pub record Solution (is : List I) (W : List Q) (v : I → Q → K.Number) : Type 0 where
    pub value : Free K R
    pub somewhere : I
    pub apart : coefficient K R value somewhere ≢ K.zero
    pub inside : (j : I) → coefficient K R value j ≢ K.zero → In j is
    pub solves : (q : Q) → In q W → total K o same (λ i. v i q) value ≡ K.zero

  one_key : (i : I) (is : List I) (v : I → Q → K.Number) → Solution (i ∷ is) [] v
  one_key i is v = record {
    value = single K R i K.one;
    somewhere = i;
    apart = λ e. K.one_apart (sym (coefficient-own K o same i K.one) ∙ e);
    inside = λ j h. inside j h (dec_key K o same j i);
    solves = λ q h. absurd h;
  }
    where
      inside : (j : I) → coefficient K R (single K R i K.one) j ≢ K.zero → Dec (j ≡ i) → (j ≡ i) ⊎ In j is
      inside j h (yes e) = inl e
      inside j h (no n) = absurd (h (coefficient-other K o same i K.one j n))

  -- no vector has anything at w
  flat : (w : Q) (W : List Q) (is : List I) (v : I → Q → K.Number) → ((i : I) → In i is → ¬ (v i w ≢ K.zero)) → Solution is W v → Solution is (w ∷ W) v
  flat w W is v none r = record {
    value = r.value;
    somewhere = r.somewhere;
    apart = r.apart;
    inside = r.inside;
    solves = λ q h. ⊎_elim (λ e. subst (λ q. total K o same (λ i. v i q) r.value ≡ K.zero) (sym e) (total_vanish K o same (λ i. v i w) r.value (λ i. by i (K.discrete (coefficient K R r.value i) K.zero) (K.discrete (v i w) K.zero)))) (r.solves q) h;
  }
    where
      by : (i : I) → Dec (coefficient K R r.value i ≡ K.zero) → Dec (v i w ≡ K.zero) → K.times (coefficient K R r.value i) (v i w) ≡ K.zero
      by i (yes e) d = ap (λ k. K.times k (v i w)) e ∙ Numbers.zero_times K _
      by i (no n) (yes e) = ap (K.times (coefficient K R r.value i)) e ∙ Numbers.times_zero K _
      by i (no n) (no m) = absurd (none i (r.inside i n) m)

  -- what is left of each vector when a pivot has taken its part at w
  cleared : (w : Q) (v : I → Q → K.Number) (p : I) (inv : K.Number) → I → Q → K.Number
  cleared w v p inv j q = K.plus (v j q) (K.times (K.times (opposite K) (v p q)) (K.times (v j w) inv))

  with_pivot : (w : Q) (W : List Q) (is : List I) (v : I → Q → K.Number) (p : Pivot (λ i. v i w ≢ K.zero) is) → Solution p.rest W (cleared w v p.at (inverses.inverse (v p.at w) p.holds)) → Solution is (w ∷ W) v
  unfolding cleared
  with_pivot w W is v p r = record {
    value = x;
    somewhere = r.somewhere;
    apart = λ e. r.apart (sym (away r.somewhere (λ z. p.gone (subst (λ k. In k p.rest) z (r.inside r.somewhere r.apart)))) ∙ e);
    inside = λ j h. member j h (dec_key K o same j p.at);
    solves = λ q h. ⊎_elim (λ e. subst (λ q. total K o same (λ i. v i q) x ≡ K.zero) (sym e) at_pivot) (elsewhere q) h;
  }
    where
      inv : K.Number
      inv = inverses.inverse (v p.at w) p.holds

      part : I → K.Number
      part j = K.times (v j w) inv

      s : K.Number
      s = total K o same part r.value

      x : Free K R
      x = plus K R r.value (single K R p.at (K.times (opposite K) s))

      away : (j : I) → j ≢ p.at → coefficient K R x j ≡ coefficient K R r.value j
      away j n = coefficient-plus K o same r.value _ j ∙ ap (K.plus (coefficient K R r.value j)) (coefficient-other K o same p.at _ j n) ∙ K.plus_zero _

      member : (j : I) → coefficient K R x j ≢ K.zero → Dec (j ≡ p.at) → In j is
      member j h (yes e) = subst (λ k. In k is) (sym e) p.member
      member j h (no n) = p.within j (r.inside j (λ e. h (away j n ∙ e)))

      whole : (q : Q) → total K o same (λ i. v i q) x ≡ K.plus (total K o same (λ i. v i q) r.value) (K.times (K.times (opposite K) s) (v p.at q))
      whole q = total-plus K o same _ r.value _ ∙ ap (K.plus (total K o same (λ i. v i q) r.value)) (total-single K o same (λ i. v i q) p.at _)

      elsewhere : (q : Q) → In q W → total K o same (λ i. v i q) x ≡ K.zero
      elsewhere q h =
          whole q
          ∙ ap (K.plus (total K o same (λ i. v i q) r.value)) (simp (K.times_assoc, K.times_comm))
          ∙ ap (K.plus (total K o same (λ i. v i q) r.value)) (sym (total_multiple K o same (K.times (opposite K) (v p.at q)) part r.value))
          ∙ sym (total_sum K o same (λ i. v i q) (λ i. K.times (K.times (opposite K) (v p.at q)) (part i)) r.value)
          ∙ r.solves q h

      at_pivot : total K o same (λ i. v i w) x ≡ K.zero
      at_pivot =
          whole w
          ∙ (λ i. K.plus ((total_same K o same (λ i. v i w) (λ i. K.times (v p.at w) (part i)) r.value back ∙ total_multiple K o same (v p.at w) part r.value) i) ((ap (λ k. K.times k (v p.at w)) (Numbers.minus_times K K.one s ∙ ap K.minus (Numbers.one_times K s)) ∙ Numbers.minus_times K s (v p.at w) ∙ ap K.minus (K.times_comm s (v p.at w))) i))
          ∙ K.plus_minus _
        where
          back : (j : I) → v j w ≡ K.times (v p.at w) (part j)
          back j = sym (Numbers.times_left_comm K (v p.at w) (v j w) inv ∙ ap (K.times (v j w)) (inverses.times_inverse (v p.at w) p.holds) ∙ K.times_one _)

  pub solve : (W : List Q) (is : List I) → AreDistinct is → length W < length is → (v : I → Q → K.Number) → Solution is W v
  solve [] [] a l v = absurd (omega arith)
  solve [] (i ∷ is) a l v = one_key i is v
  solve (w ∷ W) is a l v = by (pivot (λ i. v i w ≢ K.zero) (λ i. dec (K.discrete (v i w) K.zero)) is a) (solve W)
    where
      dec : {A : Type 0} → Dec A → Dec (¬ A)
      dec (yes e) = no (λ n. n e)
      dec (no n) = yes n

      by : ((i : I) → In i is → ¬ (v i w ≢ K.zero)) ⊎ Pivot (λ i. v i w ≢ K.zero) is → ((is : List I) → AreDistinct is → length W < length is → (v : I → Q → K.Number) → Solution is W v) → Solution is (w ∷ W) v
      by (inl none) next = flat w W is v none (next is a (omega arith) v)
      by (inr p) next = with_pivot w W is v p (next p.rest p.apart (let f = p.fewer in omega arith) (cleared w v p.at (inverses.inverse (v p.at w) p.holds)))
