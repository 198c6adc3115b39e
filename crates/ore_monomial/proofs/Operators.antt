-- The laws of sums of terms of ore_algebra, for operators: sums whose keys are monomials in the plain order.
--     same_linear, linear_is          a linear map is what it is on monomials
--     by_terms                        induction on the terms of an operator
--     linear_..                       maps that are linear
--     coefficient-.., total-..        coefficients and weighed totals of sums, multiples and linear maps
--     the others                      sums, multiples and collected terms, each named for its left side
use Rattle.std.proofs.Common.{◌≡◌, ◌≢◌, T, List, ◌∷◌, ◌++◌, map}
use Rattle.ore_algebra.specs.Domain.{Domain}
use Rattle.ore_algebra.specs.Free.{empty_sum, single, plus, scale, linear_extension, collect, terms, coefficient, sum_at}
use Rattle.ore_monomial.specs.Monomial.{Monomial, plain_cmp}
use Rattle.ore_monomial.specs.LetterRule.{Operator}
use Rattle.ore_algebra.proofs.FreeLaws
use Rattle.ore_algebra.proofs.Linear
use Rattle.ore_algebra.proofs.Linear.{IsLinear}
use Rattle.ore_monomial.proofs.Monomials.{plain_cmp_total, plain_cmp_apart}

module _ (K : Domain) where
  abbrev pub total : (Monomial → K.Number) → Operator K → K.Number
  total = FreeLaws.total K plain_cmp_total plain_cmp_apart

  pub plus_comm : (f g : Operator K) → plus K plain_cmp f g ≡ plus K plain_cmp g f
  plus_comm = Linear.plus_comm K plain_cmp_total plain_cmp_apart

  pub plus_assoc : (f g h : Operator K) → plus K plain_cmp (plus K plain_cmp f g) h ≡ plus K plain_cmp f (plus K plain_cmp g h)
  plus_assoc = Linear.plus_assoc K plain_cmp_total plain_cmp_apart

  pub plus-left_comm : (f g h : Operator K) → plus K plain_cmp f (plus K plain_cmp g h) ≡ plus K plain_cmp g (plus K plain_cmp f h)
  plus-left_comm = Linear.plus-left_comm K plain_cmp_total plain_cmp_apart

  pub plus_zero : (f : Operator K) → plus K plain_cmp f (empty_sum K plain_cmp) ≡ f
  plus_zero = Linear.plus_zero K plain_cmp_total plain_cmp_apart

  pub zero-plus : (f : Operator K) → plus K plain_cmp (empty_sum K plain_cmp) f ≡ f
  zero-plus = Linear.zero-plus K plain_cmp_total plain_cmp_apart

  pub plus_opposite : (f : Operator K) → plus K plain_cmp f (scale K plain_cmp (K.minus K.one) f) ≡ empty_sum K plain_cmp
  plus_opposite = Linear.plus_opposite K plain_cmp_total plain_cmp_apart

  pub scale-plus : (k : K.Number) (f g : Operator K) → scale K plain_cmp k (plus K plain_cmp f g) ≡ plus K plain_cmp (scale K plain_cmp k f) (scale K plain_cmp k g)
  scale-plus = Linear.scale-plus K plain_cmp_total plain_cmp_apart

  pub plus-scale : (j k : K.Number) (f : Operator K) → scale K plain_cmp (K.plus j k) f ≡ plus K plain_cmp (scale K plain_cmp j f) (scale K plain_cmp k f)
  plus-scale = Linear.plus-scale K plain_cmp_total plain_cmp_apart

  pub scale-scale : (j k : K.Number) (f : Operator K) → scale K plain_cmp j (scale K plain_cmp k f) ≡ scale K plain_cmp (K.times j k) f
  scale-scale = Linear.scale-scale K plain_cmp_total plain_cmp_apart

  pub scale_one : (f : Operator K) → scale K plain_cmp K.one f ≡ f
  scale_one = Linear.scale_one K plain_cmp_total plain_cmp_apart

  pub scale-empty_sum : (k : K.Number) → scale K plain_cmp k (empty_sum K plain_cmp) ≡ empty_sum K plain_cmp
  scale-empty_sum = Linear.scale-empty_sum K plain_cmp_total plain_cmp_apart

  pub zero_scale : (f : Operator K) → scale K plain_cmp K.zero f ≡ empty_sum K plain_cmp
  zero_scale = Linear.zero_scale K plain_cmp_total plain_cmp_apart

  pub scale-single : (j k : K.Number) (m : Monomial) → scale K plain_cmp j (single K plain_cmp m k) ≡ single K plain_cmp m (K.times j k)
  scale-single = Linear.scale-single K plain_cmp_total plain_cmp_apart

  pub single_scale : (m : Monomial) (k : K.Number) → single K plain_cmp m k ≡ scale K plain_cmp k (single K plain_cmp m K.one)
  single_scale = Linear.single_scale K plain_cmp_total plain_cmp_apart

  pub single_zero : (m : Monomial) → single K plain_cmp m K.zero ≡ empty_sum K plain_cmp
  single_zero = Linear.single_zero K plain_cmp_total plain_cmp_apart

  pub single-plus : (m : Monomial) (j k : K.Number) → single K plain_cmp m (K.plus j k) ≡ plus K plain_cmp (single K plain_cmp m j) (single K plain_cmp m k)
  single-plus = Linear.single-plus K plain_cmp_total plain_cmp_apart

  pub linear_extension-single : (h : Monomial → Operator K) (m : Monomial) (k : K.Number) → linear_extension K plain_cmp h (single K plain_cmp m k) ≡ scale K plain_cmp k (h m)
  linear_extension-single = Linear.linear_extension-single K plain_cmp_total plain_cmp_apart

  pub linear_extension_one : (h : Monomial → Operator K) (m : Monomial) → linear_extension K plain_cmp h (single K plain_cmp m K.one) ≡ h m
  linear_extension_one = Linear.linear_extension_one K plain_cmp_total plain_cmp_apart

  pub linear_extension-empty_sum : (h : Monomial → Operator K) → linear_extension K plain_cmp h (empty_sum K plain_cmp) ≡ empty_sum K plain_cmp
  linear_extension-empty_sum = Linear.linear_extension-empty_sum K plain_cmp_total plain_cmp_apart

  pub linear_extension-plus : (h : Monomial → Operator K) (f g : Operator K) → linear_extension K plain_cmp h (plus K plain_cmp f g) ≡ plus K plain_cmp (linear_extension K plain_cmp h f) (linear_extension K plain_cmp h g)
  linear_extension-plus = Linear.linear_extension-plus K plain_cmp_total plain_cmp_apart

  pub linear_extension-scale : (h : Monomial → Operator K) (k : K.Number) (f : Operator K) → linear_extension K plain_cmp h (scale K plain_cmp k f) ≡ scale K plain_cmp k (linear_extension K plain_cmp h f)
  linear_extension-scale = Linear.linear_extension-scale K plain_cmp_total plain_cmp_apart

  pub linear_extension_same : (h g : Monomial → Operator K) (f : Operator K) → ((m : Monomial) → h m ≡ g m) → linear_extension K plain_cmp h f ≡ linear_extension K plain_cmp g f
  linear_extension_same = Linear.linear_extension_same K plain_cmp_total plain_cmp_apart

  pub linear_extension-linear_extension : (g h : Monomial → Operator K) (f : Operator K) → linear_extension K plain_cmp g (linear_extension K plain_cmp h f) ≡ linear_extension K plain_cmp (λ m. linear_extension K plain_cmp g (h m)) f
  linear_extension-linear_extension = Linear.linear_extension-linear_extension K plain_cmp_total plain_cmp_apart

  pub linear_extension_plus : (h g : Monomial → Operator K) (f : Operator K) → linear_extension K plain_cmp (λ m. plus K plain_cmp (h m) (g m)) f ≡ plus K plain_cmp (linear_extension K plain_cmp h f) (linear_extension K plain_cmp g f)
  linear_extension_plus = Linear.linear_extension_plus K plain_cmp_total plain_cmp_apart

  pub linear_extension_scale : (k : K.Number) (h : Monomial → Operator K) (f : Operator K) → linear_extension K plain_cmp (λ m. scale K plain_cmp k (h m)) f ≡ scale K plain_cmp k (linear_extension K plain_cmp h f)
  linear_extension_scale = Linear.linear_extension_scale K plain_cmp_total plain_cmp_apart

  pub linear_extension_singles : (f : Operator K) → linear_extension K plain_cmp (λ m. single K plain_cmp m K.one) f ≡ f
  linear_extension_singles = Linear.linear_extension_singles K plain_cmp_total plain_cmp_apart

  pub linear_extension_empty_sum : (f : Operator K) → linear_extension K plain_cmp (λ m. empty_sum K plain_cmp) f ≡ empty_sum K plain_cmp
  linear_extension_empty_sum = Linear.linear_extension_empty_sum K plain_cmp_total plain_cmp_apart

  pub collect_more : (m : Monomial) (k : K.Number) (ts : List (Monomial × K.Number)) → collect K plain_cmp ((m, k) ∷ ts) ≡ plus K plain_cmp (single K plain_cmp m k) (collect K plain_cmp ts)
  collect_more = Linear.collect_more K plain_cmp_total plain_cmp_apart

  pub collect-append : (ts us : List (Monomial × K.Number)) → collect K plain_cmp (ts ++ us) ≡ plus K plain_cmp (collect K plain_cmp ts) (collect K plain_cmp us)
  collect-append = Linear.collect-append K plain_cmp_total plain_cmp_apart

  pub collect-scaled : (k : K.Number) (ts : List (Monomial × K.Number)) → collect K plain_cmp (map (λ t. (t.0, K.times k t.1)) ts) ≡ scale K plain_cmp k (collect K plain_cmp ts)
  collect-scaled = Linear.collect-scaled K plain_cmp_total plain_cmp_apart

  pub collect-terms : (f : Operator K) → collect K plain_cmp (terms K plain_cmp f) ≡ f
  collect-terms = Linear.collect-terms K plain_cmp_total plain_cmp_apart

  pub by_terms {ℓ} : (P : Operator K → Type ℓ) → P (empty_sum K plain_cmp) → ((m : Monomial) (k : K.Number) (f : Operator K) → P f → P (plus K plain_cmp (single K plain_cmp m k) f)) → (f : Operator K) → P f
  by_terms = Linear.by_terms K plain_cmp_total plain_cmp_apart

  pub linear-empty_sum : {S : Operator K → Operator K} → IsLinear K plain_cmp S → S (empty_sum K plain_cmp) ≡ empty_sum K plain_cmp
  linear-empty_sum = Linear.linear-empty_sum K plain_cmp_total plain_cmp_apart

  pub linear_is : {S : Operator K → Operator K} → IsLinear K plain_cmp S → (f : Operator K) → S f ≡ linear_extension K plain_cmp (λ m. S (single K plain_cmp m K.one)) f
  linear_is = Linear.linear_is K plain_cmp_total plain_cmp_apart

  pub same_linear : {S T : Operator K → Operator K} → IsLinear K plain_cmp S → IsLinear K plain_cmp T → ((m : Monomial) → S (single K plain_cmp m K.one) ≡ T (single K plain_cmp m K.one)) → (f : Operator K) → S f ≡ T f
  same_linear = Linear.same_linear K plain_cmp_total plain_cmp_apart

  pub linear_itself : IsLinear K plain_cmp (λ f. f)
  linear_itself = Linear.linear_itself K plain_cmp_total plain_cmp_apart

  pub linear_extension-linear : (h : Monomial → Operator K) → IsLinear K plain_cmp (linear_extension K plain_cmp h)
  linear_extension-linear = Linear.linear_extension-linear K plain_cmp_total plain_cmp_apart

  pub linear_after : {S T : Operator K → Operator K} → IsLinear K plain_cmp S → IsLinear K plain_cmp T → IsLinear K plain_cmp (λ f. S (T f))
  linear_after = Linear.linear_after K plain_cmp_total plain_cmp_apart

  pub plus-swap : (a b c d : Operator K) → plus K plain_cmp (plus K plain_cmp a b) (plus K plain_cmp c d) ≡ plus K plain_cmp (plus K plain_cmp a c) (plus K plain_cmp b d)
  plus-swap = Linear.plus-swap K plain_cmp_total plain_cmp_apart

  pub linear_plus : {S T : Operator K → Operator K} → IsLinear K plain_cmp S → IsLinear K plain_cmp T → IsLinear K plain_cmp (λ f. plus K plain_cmp (S f) (T f))
  linear_plus = Linear.linear_plus K plain_cmp_total plain_cmp_apart

  pub linear_scale : {S : Operator K → Operator K} (j : K.Number) → IsLinear K plain_cmp S → IsLinear K plain_cmp (λ f. scale K plain_cmp j (S f))
  linear_scale = Linear.linear_scale K plain_cmp_total plain_cmp_apart

  pub linear_weights : (f : Operator K) (h : Monomial → Operator K → Operator K) → ((m : Monomial) → IsLinear K plain_cmp (h m)) → IsLinear K plain_cmp (λ g. linear_extension K plain_cmp (λ m. h m g) f)
  linear_weights = Linear.linear_weights K plain_cmp_total plain_cmp_apart

  pub coefficient-collect : (ts : List (Monomial × K.Number)) (q : Monomial) → coefficient K plain_cmp (collect K plain_cmp ts) q ≡ sum_at K plain_cmp q ts
  coefficient-collect = FreeLaws.coefficient-collect K plain_cmp_total plain_cmp_apart

  pub same_sum : (f g : Operator K) → ((q : Monomial) → coefficient K plain_cmp f q ≡ coefficient K plain_cmp g q) → f ≡ g
  same_sum = FreeLaws.same_sum K plain_cmp_total plain_cmp_apart

  pub total-linear_extension : (w : Monomial → K.Number) (h : Monomial → Operator K) (f : Operator K) → total w (linear_extension K plain_cmp h f) ≡ total (λ m. total w (h m)) f
  total-linear_extension = FreeLaws.total-linear_extension K plain_cmp_total plain_cmp_apart

  pub total_same : (w v : Monomial → K.Number) (f : Operator K) → ((m : Monomial) → w m ≡ v m) → total w f ≡ total v f
  total_same = FreeLaws.total_same K plain_cmp_total plain_cmp_apart

  pub total_sum : (w v : Monomial → K.Number) (f : Operator K) → total (λ m. K.plus (w m) (v m)) f ≡ K.plus (total w f) (total v f)
  total_sum = FreeLaws.total_sum K plain_cmp_total plain_cmp_apart

  pub total_multiple : (k : K.Number) (w : Monomial → K.Number) (f : Operator K) → total (λ m. K.times k (w m)) f ≡ K.times k (total w f)
  total_multiple = FreeLaws.total_multiple K plain_cmp_total plain_cmp_apart

  pub total_vanish : (w : Monomial → K.Number) (f : Operator K) → ((q : Monomial) → K.times (coefficient K plain_cmp f q) (w q) ≡ K.zero) → total w f ≡ K.zero
  total_vanish = FreeLaws.total_vanish K plain_cmp_total plain_cmp_apart

  pub total_only : (w : Monomial → K.Number) (f : Operator K) (m : Monomial) → ((q : Monomial) → q ≢ m → K.times (coefficient K plain_cmp f q) (w q) ≡ K.zero) → total w f ≡ K.times (coefficient K plain_cmp f m) (w m)
  total_only = FreeLaws.total_only K plain_cmp_total plain_cmp_apart

  pub coefficient-plus : (f g : Operator K) (q : Monomial) → coefficient K plain_cmp (plus K plain_cmp f g) q ≡ K.plus (coefficient K plain_cmp f q) (coefficient K plain_cmp g q)
  coefficient-plus = FreeLaws.coefficient-plus K plain_cmp_total plain_cmp_apart

  pub coefficient-scale : (k : K.Number) (f : Operator K) (q : Monomial) → coefficient K plain_cmp (scale K plain_cmp k f) q ≡ K.times k (coefficient K plain_cmp f q)
  coefficient-scale = FreeLaws.coefficient-scale K plain_cmp_total plain_cmp_apart

  pub coefficient-empty_sum : (q : Monomial) → coefficient K plain_cmp (empty_sum K plain_cmp) q ≡ K.zero
  coefficient-empty_sum = FreeLaws.coefficient-empty_sum K plain_cmp_total plain_cmp_apart

  pub coefficient-own : (m : Monomial) (k : K.Number) → coefficient K plain_cmp (single K plain_cmp m k) m ≡ k
  coefficient-own = FreeLaws.coefficient-own K plain_cmp_total plain_cmp_apart

  pub coefficient-other : (m : Monomial) (k : K.Number) (q : Monomial) → q ≢ m → coefficient K plain_cmp (single K plain_cmp m k) q ≡ K.zero
  coefficient-other = FreeLaws.coefficient-other K plain_cmp_total plain_cmp_apart

  pub coefficient-linear_extension : (h : Monomial → Operator K) (f : Operator K) (q : Monomial) → coefficient K plain_cmp (linear_extension K plain_cmp h f) q ≡ total (λ m. coefficient K plain_cmp (h m) q) f
  coefficient-linear_extension = FreeLaws.coefficient-linear_extension K plain_cmp_total plain_cmp_apart

  pub named_of_apart : (f : Operator K) (q : Monomial) → coefficient K plain_cmp f q ≢ K.zero → T (FreeLaws.named K plain_cmp_total plain_cmp_apart q (terms K plain_cmp f))
  named_of_apart = FreeLaws.named_of_apart K plain_cmp_total plain_cmp_apart
