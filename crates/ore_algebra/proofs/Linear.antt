-- Finite sums of terms are a module with the keys as a basis, and linear maps are told by what they do to keys.
--     linear_extension h                            the linear map that takes each key m to h m
--     IsLinear                            a map keeps sums and multiples
--     linear_is, same_linear              a linear map is the extension of what it does to keys; two that agree there are equal
--     linear_extension-linear, linear_after, ..     linear maps that are formed from others
--     by_terms                            induction on a sum, a term at a time
--     plus_comm, linear_extension-plus, ..          laws, named by their left sides
use Rattle.std.proofs.Common.{◌≡◌, List, [], ◌∷◌, ◌++◌, map, refl, sym, ap, ◌∙◌, subst}
use Rattle.std.specs.declared.cmp.Ordering.{Ordering}
use Rattle.std.specs.Cmp.{IsTotalOrder}
use Rattle.std.specs.FinMap.{IsAntisymmetric}
use Rattle.ore_algebra.specs.Domain.{Domain}
use Rattle.ore_algebra.specs.Free.{Free, terms, collect, empty_sum, single, plus, scale, linear_extension}
use Rattle.ore_algebra.proofs.DomainLaws.{zero_plus, plus_left_comm, one_times, times_zero, zero_times, plus_swap, plus_times, minus_times}
use Rattle.ore_algebra.proofs.FreeLaws.{weigh-append, weigh-scaled, weigh, total-empty_sum, total-single, total-plus, total-scale, total-linear_extension, total_same, total_sum, total_multiple, same_totals, same_sum, coefficient-collect, sum_at-terms, total-collect}

module _ (K : Domain) {M : Type 0} {R : M → M → Ordering} (o : IsTotalOrder R) (same : IsAntisymmetric R) where
  pub plus_comm : (f g : Free K R) → plus K R f g ≡ plus K R g f
  plus_comm f g = same_totals K o same _ _ (λ w. simp (total-plus K o same) (K.plus_comm _ _))

  pub plus_assoc : (f g h : Free K R) → plus K R (plus K R f g) h ≡ plus K R f (plus K R g h)
  plus_assoc f g h = same_totals K o same _ _ (λ w. simp (total-plus K o same) (K.plus_assoc _ _ _))

  pub plus-left_comm : (f g h : Free K R) → plus K R f (plus K R g h) ≡ plus K R g (plus K R f h)
  plus-left_comm f g h = same_totals K o same _ _ (λ w. simp (total-plus K o same) (plus_left_comm K _ _ _))

  pub plus_zero : (f : Free K R) → plus K R f (empty_sum K R) ≡ f
  plus_zero f = same_totals K o same _ _ (λ w. simp (total-plus K o same, total-empty_sum K o same) (K.plus_zero _))

  pub zero-plus : (f : Free K R) → plus K R (empty_sum K R) f ≡ f
  zero-plus f = same_totals K o same _ _ (λ w. simp (total-plus K o same, total-empty_sum K o same) (zero_plus K _))

  pub plus_opposite : (f : Free K R) → plus K R f (scale K R (K.minus K.one) f) ≡ empty_sum K R
  plus_opposite f = same_totals K o same _ _ (λ w. simp (total-plus K o same, total-scale K o same, total-empty_sum K o same, minus_times K, one_times K) (K.plus_minus _))

  pub scale-plus : (k : K.Number) (f g : Free K R) → scale K R k (plus K R f g) ≡ plus K R (scale K R k f) (scale K R k g)
  scale-plus k f g = same_totals K o same _ _ (λ w. simp (total-plus K o same, total-scale K o same) (K.times_plus _ _ _))

  pub plus-scale : (j k : K.Number) (f : Free K R) → scale K R (K.plus j k) f ≡ plus K R (scale K R j f) (scale K R k f)
  plus-scale j k f = same_totals K o same _ _ (λ w. simp (total-plus K o same, total-scale K o same) (plus_times K _ _ _))

  pub scale-scale : (j k : K.Number) (f : Free K R) → scale K R j (scale K R k f) ≡ scale K R (K.times j k) f
  scale-scale j k f = same_totals K o same _ _ (λ w. simp (total-scale K o same) (sym (K.times_assoc _ _ _)))

  pub scale_one : (f : Free K R) → scale K R K.one f ≡ f
  scale_one f = same_totals K o same _ _ (λ w. simp (total-scale K o same) (one_times K _))

  pub scale-empty_sum : (k : K.Number) → scale K R k (empty_sum K R) ≡ empty_sum K R
  scale-empty_sum k = same_totals K o same _ _ (λ w. simp (total-scale K o same, total-empty_sum K o same) (times_zero K _))

  pub zero_scale : (f : Free K R) → scale K R K.zero f ≡ empty_sum K R
  zero_scale f = same_totals K o same _ _ (λ w. simp (total-scale K o same, total-empty_sum K o same) (zero_times K _))

  pub scale-single : (j k : K.Number) (m : M) → scale K R j (single K R m k) ≡ single K R m (K.times j k)
  scale-single j k m = same_totals K o same _ _ (λ w. simp (total-scale K o same, total-single K o same) (sym (K.times_assoc _ _ _)))

  pub single_scale : (m : M) (k : K.Number) → single K R m k ≡ scale K R k (single K R m K.one)
  single_scale m k = sym (scale-single k K.one m ∙ ap (single K R m) (K.times_one k))

  pub single_zero : (m : M) → single K R m K.zero ≡ empty_sum K R
  single_zero m = same_totals K o same _ _ (λ w. simp (total-single K o same, total-empty_sum K o same) (zero_times K _))

  pub single-plus : (m : M) (j k : K.Number) → single K R m (K.plus j k) ≡ plus K R (single K R m j) (single K R m k)
  single-plus m j k = same_totals K o same _ _ (λ w. simp (total-single K o same, total-plus K o same) (plus_times K _ _ _))

  -- ---- linear maps

  pub linear_extension-single : (h : M → Free K R) (m : M) (k : K.Number) → linear_extension K R h (single K R m k) ≡ scale K R k (h m)
  linear_extension-single h m k = same_totals K o same _ _ (λ w. simp (total-linear_extension K o same, total-single K o same, total-scale K o same))

  pub linear_extension_one : (h : M → Free K R) (m : M) → linear_extension K R h (single K R m K.one) ≡ h m
  linear_extension_one h m = linear_extension-single h m K.one ∙ scale_one (h m)

  pub linear_extension-empty_sum : (h : M → Free K R) → linear_extension K R h (empty_sum K R) ≡ empty_sum K R
  linear_extension-empty_sum h = same_totals K o same _ _ (λ w. simp (total-linear_extension K o same, total-empty_sum K o same))

  pub linear_extension-plus : (h : M → Free K R) (f g : Free K R) → linear_extension K R h (plus K R f g) ≡ plus K R (linear_extension K R h f) (linear_extension K R h g)
  linear_extension-plus h f g = same_totals K o same _ _ (λ w. simp (total-linear_extension K o same, total-plus K o same))

  pub linear_extension-scale : (h : M → Free K R) (k : K.Number) (f : Free K R) → linear_extension K R h (scale K R k f) ≡ scale K R k (linear_extension K R h f)
  linear_extension-scale h k f = same_totals K o same _ _ (λ w. simp (total-linear_extension K o same, total-scale K o same))

  pub linear_extension_same : (h g : M → Free K R) (f : Free K R) → ((m : M) → h m ≡ g m) → linear_extension K R h f ≡ linear_extension K R g f
  linear_extension_same h g f e = ap (λ (u : M → Free K R). linear_extension K R u f) (λ i m. e m i)

  pub linear_extension-linear_extension : (g h : M → Free K R) (f : Free K R) → linear_extension K R g (linear_extension K R h f) ≡ linear_extension K R (λ m. linear_extension K R g (h m)) f
  linear_extension-linear_extension g h f = same_totals K o same _ _ (λ w. simp (total-linear_extension K o same))

  pub linear_extension_plus : (h g : M → Free K R) (f : Free K R) → linear_extension K R (λ m. plus K R (h m) (g m)) f ≡ plus K R (linear_extension K R h f) (linear_extension K R g f)
  linear_extension_plus h g f = same_totals K o same _ _ (λ w. simp (total-linear_extension K o same, total-plus K o same) (total_sum K o same _ _ f))

  pub linear_extension_scale : (k : K.Number) (h : M → Free K R) (f : Free K R) → linear_extension K R (λ m. scale K R k (h m)) f ≡ scale K R k (linear_extension K R h f)
  linear_extension_scale k h f = same_totals K o same _ _ (λ w. simp (total-linear_extension K o same, total-scale K o same) (total_multiple K o same k _ f))

  pub linear_extension_singles : (f : Free K R) → linear_extension K R (λ m. single K R m K.one) f ≡ f
  linear_extension_singles f = same_totals K o same _ _ (λ w. total-linear_extension K o same w _ f ∙ total_same K o same _ _ f (λ m. total-single K o same w m K.one ∙ one_times K _))

  pub linear_extension_empty_sum : (f : Free K R) → linear_extension K R (λ m. empty_sum K R) f ≡ empty_sum K R
  linear_extension_empty_sum f = ap (λ (u : M → Free K R). linear_extension K R u f) (λ i m. sym (zero_scale (empty_sum K R)) i) ∙ linear_extension_scale K.zero (λ m. empty_sum K R) f ∙ zero_scale _

  -- ---- induction on a sum, a term at a time

  pub collect_more : (m : M) (k : K.Number) (ts : List (M × K.Number)) → collect K R ((m, k) ∷ ts) ≡ plus K R (single K R m k) (collect K R ts)
  unfolding weigh
  collect_more m k ts = same_totals K o same _ _ (λ w. total-collect K o same w ((m, k) ∷ ts) ∙ sym (total-plus K o same w _ _ ∙ (λ i. K.plus (total-single K o same w m k i) (total-collect K o same w ts i))))

  pub collect-append : (ts us : List (M × K.Number)) → collect K R (ts ++ us) ≡ plus K R (collect K R ts) (collect K R us)
  collect-append ts us = same_totals K o same _ _ (λ w. total-collect K o same w (ts ++ us) ∙ weigh-append K w ts us ∙ sym (total-plus K o same w _ _ ∙ (λ i. K.plus (total-collect K o same w ts i) (total-collect K o same w us i))))

  pub collect-scaled : (k : K.Number) (ts : List (M × K.Number)) → collect K R (map (λ t. (t.0, K.times k t.1)) ts) ≡ scale K R k (collect K R ts)
  collect-scaled k ts = same_totals K o same _ _ (λ w. total-collect K o same w _ ∙ weigh-scaled K w k ts ∙ sym (total-scale K o same w k _ ∙ ap (K.times k) (total-collect K o same w ts)))

  pub collect-terms : (f : Free K R) → collect K R (terms K R f) ≡ f
  collect-terms f = same_sum K o same _ _ (λ q. coefficient-collect K o same (terms K R f) q ∙ sum_at-terms K o same f q)

  pub by_terms {ℓ} : (P : Free K R → Type ℓ) → P (empty_sum K R) → ((m : M) (k : K.Number) (f : Free K R) → P f → P (plus K R (single K R m k) f)) → (f : Free K R) → P f
  unfolding empty_sum
  by_terms P empty more f = subst P (collect-terms f) (over (terms K R f))
    where
      over : (ts : List (M × K.Number)) → P (collect K R ts)
      over [] = empty
      over (t ∷ ts) = subst P (sym (collect_more t.0 t.1 ts)) (more t.0 t.1 (collect K R ts) (over ts))

pub record IsLinear (K : Domain) {M : Type 0} (R : M → M → Ordering) (S : Free K R → Free K R) : Type 0 where
  pub plus : (f g : Free K R) → S (plus K R f g) ≡ plus K R (S f) (S g)
  pub scale : (k : K.Number) (f : Free K R) → S (scale K R k f) ≡ scale K R k (S f)

module _ (K : Domain) {M : Type 0} {R : M → M → Ordering} (o : IsTotalOrder R) (same : IsAntisymmetric R) where
  pub linear-empty_sum : {S : Free K R → Free K R} → IsLinear K R S → S (empty_sum K R) ≡ empty_sum K R
  linear-empty_sum {S} l = ap S (sym (zero_scale K o same (empty_sum K R))) ∙ l.scale K.zero (empty_sum K R) ∙ zero_scale K o same _

  -- a linear map is told by what it does to the keys
  pub linear_is : {S : Free K R → Free K R} → IsLinear K R S → (f : Free K R) → S f ≡ linear_extension K R (λ m. S (single K R m K.one)) f
  linear_is {S} l = by_terms K o same (λ f. S f ≡ linear_extension K R (λ m. S (single K R m K.one)) f) (linear-empty_sum l ∙ sym (linear_extension-empty_sum K o same h))
      (λ m k f e. l.plus _ f ∙ (λ i. plus K R ((ap S (single_scale K o same m k) ∙ l.scale k _ ∙ sym (linear_extension-single K o same h m k)) i) (e i)) ∙ sym (linear_extension-plus K o same h _ f))
    where
      h : M → Free K R
      h m = S (single K R m K.one)

  pub same_linear : {S T : Free K R → Free K R} → IsLinear K R S → IsLinear K R T → ((m : M) → S (single K R m K.one) ≡ T (single K R m K.one)) → (f : Free K R) → S f ≡ T f
  same_linear l k e f = linear_is l f ∙ linear_extension_same K o same _ _ f e ∙ sym (linear_is k f)

  pub linear_itself : IsLinear K R (λ f. f)
  linear_itself = record { plus = λ f g. refl; scale = λ k f. refl }

  pub linear_extension-linear : (h : M → Free K R) → IsLinear K R (linear_extension K R h)
  linear_extension-linear h = record { plus = linear_extension-plus K o same h; scale = linear_extension-scale K o same h }

  pub linear_after : {S T : Free K R → Free K R} → IsLinear K R S → IsLinear K R T → IsLinear K R (λ f. S (T f))
  linear_after {S} l k = record { plus = λ f g. ap S (k.plus f g) ∙ l.plus _ _; scale = λ c f. ap S (k.scale c f) ∙ l.scale c _ }

  pub plus-swap : (a b c d : Free K R) → plus K R (plus K R a b) (plus K R c d) ≡ plus K R (plus K R a c) (plus K R b d)
  plus-swap a b c d = same_totals K o same _ _ (λ w. simp (total-plus K o same) (plus_swap K _ _ _ _))

  pub linear_plus : {S T : Free K R → Free K R} → IsLinear K R S → IsLinear K R T → IsLinear K R (λ f. plus K R (S f) (T f))
  linear_plus {S} {T} l k = record {
    plus = λ f g. (λ i. plus K R (l.plus f g i) (k.plus f g i)) ∙ plus-swap _ _ _ _;
    scale = λ c f. (λ i. plus K R (l.scale c f i) (k.scale c f i)) ∙ sym (scale-plus K o same c _ _);
  }

  pub linear_scale : {S : Free K R → Free K R} (j : K.Number) → IsLinear K R S → IsLinear K R (λ f. scale K R j (S f))
  linear_scale {S} j l = record {
    plus = λ f g. ap (scale K R j) (l.plus f g) ∙ scale-plus K o same j _ _;
    scale = λ c f. ap (scale K R j) (l.scale c f) ∙ scale-scale K o same j c _ ∙ ap (λ x. scale K R x (S f)) (K.times_comm j c) ∙ sym (scale-scale K o same c j _);
  }

  -- linear in the map that is extended
  pub linear_weights : (f : Free K R) (h : M → Free K R → Free K R) → ((m : M) → IsLinear K R (h m)) → IsLinear K R (λ g. linear_extension K R (λ m. h m g) f)
  linear_weights f h l = record {
    plus = λ g j. linear_extension_same K o same _ _ f (λ m. (l m).plus g j) ∙ linear_extension_plus K o same (λ m. h m g) (λ m. h m j) f;
    scale = λ c g. linear_extension_same K o same _ _ f (λ m. (l m).scale c g) ∙ linear_extension_scale K o same c (λ m. h m g) f;
  }
