-- As many entries as there are pairs, none of them twice, list every pair; and a list of every pair has as many.
--     all_listed               the first
--     count-all                the second
--     listed_most              no list has more
--     listed_member            a pair is listed where it is a member of the list
--     pairs_from               all pairs of leads in one column, in order
use Rattle.std.proofs.Common.{◌≡◌, ℕ, zero, suc, ◌+◌, ◌<◌, ◌≤◌, Bool, true, false, ◌&&◌, ◌||◌, cond, nat_eq, List, [], ◌∷◌, ◌++◌, length, map, refl, sym, ap, ◌∙◌, subst, true≢false, arith}
use Rattle.std.specs.Ordering.{on, eq_of_both}
use Rattle.std.specs.Cmp.{IsEquivalence}
use Rattle.std.specs.List.{AllByRecursion, IsDistinct, count_by}
use Rattle.std.specs.Set.{is_member}
use Rattle.std.proofs.lemmas.Cmp.{nat_eq_equiv, on_equiv, and_equiv}
use Rattle.std.proofs.ByRecursion.{All-append, All-map}
use Rattle.std.proofs.lemmas.Bool.{or_parts, and_parts, or_right, or_left}
use Rattle.std.proofs.lemmas.Bool.Decides.{nat_tests}
use Rattle.std.proofs.lemmas.List.{length-append, length-map}
use Rattle.std.proofs.lemmas.List.Folds.{list_any-append}
use Rattle.std.proofs.lemmas.List.Sums.{sum_by-cons}
use Rattle.std.proofs.lemmas.Map.Made.{length-le_from_is_member}
use Rattle.ore_algebra.specs.Domain.{Domain}
use Rattle.ore_monomial.specs.Term.{Term}
use Rattle.ore_monomial.specs.declared.order.Order.{Order}
use Rattle.ore_monomial.specs.Signature.{Signature}
use Rattle.ore_rows.specs.Rows.{Row}
use Rattle.ore_pairs.specs.Steps.{lead_at}
use Rattle.ore_pairs.specs.PairList.{DealtPair, Pair, Skip, first, second, pairs_of, IsLawfulEntry, AreLawful, pair_count}
use Rattle.ore_pairs.specs.PairRule.{is_listed, AreAllListed}
use Rattle.ore_pairs.proofs.PairRuleLaws.{CanTreat, treat_from, pair_from, pair_to, listed_first, listed_later}

abbrev Two : Type 0
Two = ℕ × ℕ

abbrev same : Two → Two → Bool
same = eq_of_both {K = Two} (on (λ p. p.0) nat_eq) (on (λ p. p.1) nat_eq)

same_laws : IsEquivalence same
same_laws = and_equiv {K = Two} (on_equiv {K = Two} (λ p. p.0) nat_eq_equiv) (on_equiv {K = Two} (λ p. p.1) nat_eq_equiv)

same_from : (p q : Two) → p ≡ q → same p q ≡ true
same_from p q e = subst (λ q. same p q ≡ true) e (same_laws.refl p)

nat_eq_true : (a b : ℕ) → nat_eq a b ≡ true → a ≡ b
nat_eq_true a b h = grind (arith, nat_tests)

nat_eq_from : (a b : ℕ) → a ≡ b → nat_eq a b ≡ true
nat_eq_from a b h = grind (arith, nat_tests)

to_same : (p q : Two) → same p q ≡ true → (p.0 ≡ q.0) × (p.1 ≡ q.1)
to_same p q h = let b = and_parts _ _ h in (nat_eq_true p.0 q.0 b.0, nat_eq_true p.1 q.1 b.1)

apart : (p q : Two) → ((p.0 ≡ q.0) × (p.1 ≡ q.1) → ⊥) → same p q ≡ false
apart p q h = by (same p q) refl
  where
    by : (b : Bool) → same p q ≡ b → same p q ≡ false
    by true e = absurd (h (to_same p q e))
    by false e = e

-- ---- all pairs, as a list

places : ℕ → ℕ → List Term → List ℕ
places k c [] = []
places k c (t ∷ ts) = cond (nat_eq t.column c) (k ∷ places (suc k) c ts) (places (suc k) c ts)

length_cond : (b : Bool) (k : ℕ) (xs : List ℕ) → length (cond b (k ∷ xs) xs) ≡ cond b 1 0 + length xs
length_cond true k xs = omega arith
length_cond false k xs = omega arith

length-places : (k c : ℕ) (ts : List Term) → length (places k c ts) ≡ count_by (λ t. nat_eq t.column c) ts
unfolding places
length-places k c [] = refl
length-places k c (t ∷ ts) = length_cond (nat_eq t.column c) k (places (suc k) c ts) ∙ ap (λ n. cond (nat_eq t.column c) 1 0 + n) (length-places (suc k) c ts) ∙ sym (sum_by-cons (λ (t : Term). cond (nat_eq t.column c) 1 0) t ts)

abbrev with : ℕ → List ℕ → List Two
with k xs = map (λ j. (k, j)) xs

pairs_from : ℕ → List Term → List Two
pairs_from k [] = []
pairs_from k (t ∷ ts) = with k (places (suc k) t.column ts) ++ pairs_from (suc k) ts

length-with : (k : ℕ) (xs : List ℕ) → length (with k xs) ≡ length xs
length-with k [] = refl
length-with k (x ∷ xs) = ap suc (length-with k xs)

length-pairs : (k : ℕ) (ts : List Term) → length (pairs_from k ts) ≡ pair_count ts
unfolding pairs_from pair_count
length-pairs k [] = refl
length-pairs k (t ∷ ts) = length-append (with k (places (suc k) t.column ts)) (pairs_from (suc k) ts) ∙ (λ i. (length-with k (places (suc k) t.column ts) ∙ length-places (suc k) t.column ts) i + length-pairs (suc k) ts i)

member_left : (q : Two) (xs ys : List Two) → is_member same xs q ≡ true → is_member same (xs ++ ys) q ≡ true
member_left q xs ys h = list_any-append (same q) xs ys ∙ or_left (is_member same xs q) (is_member same ys q) h

member_right : (q : Two) (xs ys : List Two) → is_member same ys q ≡ true → is_member same (xs ++ ys) q ≡ true
member_right q xs ys h = list_any-append (same q) xs ys ∙ or_right (is_member same xs q) (is_member same ys q) h

member_more : (q : Two) (k p : ℕ) (b : Bool) (xs : List ℕ) → is_member same (with k xs) q ≡ true → is_member same (with k (cond b (p ∷ xs) xs)) q ≡ true
member_more q k p true xs h = or_right (same q (k, p)) (is_member same (with k xs) q) h
member_more q k p false xs h = h

member_here : (q : Two) (k p : ℕ) (b : Bool) (xs : List ℕ) → b ≡ true → same q (k, p) ≡ true → is_member same (with k (cond b (p ∷ xs) xs)) q ≡ true
member_here q k p true xs e h = or_left (same q (k, p)) (is_member same (with k xs) q) h
member_here q k p false xs e h = absurd (true≢false (sym e))

-- the pair (k, j) is among those of k with the places of its column
has_place : (k p c : ℕ) (ts : List Term) (j : ℕ) → j < length ts → (lead_at ts j).column ≡ c → (i : ℕ) → i ≡ p + j → is_member same (with k (places p c ts)) (k, i) ≡ true
unfolding places
has_place k p c [] j l e i h = absurd (omega arith)
has_place k p c (t ∷ ts) zero l e i h = member_here (k, i) k p (nat_eq t.column c) (places (suc p) c ts) (nat_eq_from t.column c e) (let x : i ≡ p = omega arith in same_from (k, i) (k, p) (λ z. (k, x z)))
has_place k p c (t ∷ ts) (suc j) l e i h = member_more (k, i) k p (nat_eq t.column c) (places (suc p) c ts) (has_place k (suc p) c ts j (omega arith) e i (omega arith))

has_pair : (k : ℕ) (ts : List Term) (i j : ℕ) → i < j → j < length ts → (lead_at ts i).column ≡ (lead_at ts j).column → (x y : ℕ) → x ≡ k + i → y ≡ k + j → is_member same (pairs_from k ts) (x, y) ≡ true
unfolding pairs_from
has_pair k [] i j l h e x y a b = absurd (omega arith)
has_pair k (t ∷ ts) i zero l h e x y a b = absurd (omega arith)
has_pair k (t ∷ ts) zero (suc j) l h e x y a b =
    let c : k ≡ x = omega arith in
    member_left (x, y) (with k (places (suc k) t.column ts)) (pairs_from (suc k) ts) (subst (λ x. is_member same (with k (places (suc k) t.column ts)) (x, y) ≡ true) c (has_place k (suc k) t.column ts j (omega arith) (sym e) y (omega arith)))
has_pair k (t ∷ ts) (suc i) (suc j) l h e x y a b = member_right (x, y) (with k (places (suc k) t.column ts)) (pairs_from (suc k) ts) (has_pair (suc k) ts i j (omega arith) (omega arith) e x y (omega arith) (omega arith))

-- ---- the listed pairs

listed_member : (i j : ℕ) (ps : List Two) → is_listed i j ps ≡ is_member same ps (i, j)
unfolding is_listed
listed_member i j [] = refl
listed_member i j (p ∷ ps) = ap (λ b. (nat_eq i p.0 && nat_eq j p.1) || b) (listed_member i j ps)

unlisted_apart : (i j : ℕ) (ps : List Two) → is_listed i j ps ≡ false → AllByRecursion (λ y. same (i, j) y ≡ false) ps
unfolding is_listed
unlisted_apart i j [] h = tt
unlisted_apart i j (p ∷ ps) h = let both = or_parts (nat_eq i p.0 && nat_eq j p.1) (is_listed i j ps) h in (both.0, unlisted_apart i j ps both.1)

module _ (K : Domain) (s : Signature) (o : Order) (n : ℕ) (basis : List (Row K)) (leads : List Term) where
  new_of : (before : List (DealtPair K)) (e : DealtPair K) → IsLawfulEntry K s o n basis leads before e → CanTreat leads (pairs_of before) (first e) (second e)
  new_of before (Pair i j steps) h = treat_from leads (pairs_of before) i j h.0
  new_of before (Skip i j k) h = treat_from leads (pairs_of before) i j h.0

  later_apart : (i j : ℕ) (before es : List (DealtPair K)) → is_listed i j (pairs_of before) ≡ true → AreLawful K s o n basis leads before es → AllByRecursion (λ y. same (i, j) y ≡ false) (pairs_of es)
  later_apart i j before [] h laws = tt
  later_apart i j before (e ∷ es) h laws =
      (apart (i, j) (first e, second e) (λ q. true≢false ((λ n. sym h n) ∙ (λ n. is_listed (q.0 n) (q.1 n) (pairs_of before)) ∙ (new_of before e laws.0).unlisted)), later_apart i j (e ∷ before) es (listed_later i j (first e, second e) (pairs_of before) h) laws.1)

  pairs_distinct : (before es : List (DealtPair K)) → AreLawful K s o n basis leads before es → IsDistinct same (pairs_of es)
  unfolding IsDistinct
  pairs_distinct before [] laws = tt
  pairs_distinct before (e ∷ es) laws = (later_apart (first e) (second e) (e ∷ before) es (listed_first (first e) (second e) (first e, second e) (pairs_of before) refl refl) laws.1, pairs_distinct (e ∷ before) es laws.1)

  member_of : (i j : ℕ) → i < j → j < length leads → (lead_at leads i).column ≡ (lead_at leads j).column → (q : Two) → same q (i, j) ≡ true → is_member same (pairs_from 0 leads) q ≡ true
  member_of i j l h c q e =
      let b = to_same q (i, j) e in
      has_pair 0 leads i j l h c q.0 q.1 (omega (arith, b.0)) (omega (arith, b.1))

  -- q is among all pairs
  abbrev IsPair : Two → Type 0
  IsPair q = is_member same (pairs_from 0 leads) q ≡ true

  by_head : (q p : Two) (ys : List Two) → (same q p ≡ true → IsPair q) → (is_member same ys q ≡ true → IsPair q) → is_member same (p ∷ ys) q ≡ true → IsPair q
  by_head q p ys here there h = by (same q p) refl h
    where
      by : (b : Bool) → same q p ≡ b → (b || is_member same ys q) ≡ true → IsPair q
      by true e h = here e
      by false e h = there h

  pairs_members : (before es : List (DealtPair K)) → AreLawful K s o n basis leads before es → (q : Two) → is_member same (pairs_of es) q ≡ true → is_member same (pairs_from 0 leads) q ≡ true
  pairs_members before [] laws q h = absurd (true≢false (sym h))
  pairs_members before (e ∷ es) laws q h =
      let new = new_of before e laws.0 in
      by_head q (first e, second e) (pairs_of es) (member_of (first e) (second e) new.ordered new.within new.columns q) (pairs_members (e ∷ before) es laws.1 q) h

  pub all_listed : (es : List (DealtPair K)) → AreLawful K s o n basis leads [] es → length es ≡ pair_count leads → AreAllListed leads (pairs_of es)
  unfolding IsDistinct
  all_listed es laws count i j pair = by (is_listed i j (pairs_of es)) refl
    where
      by : (b : Bool) → is_listed i j (pairs_of es) ≡ b → b ≡ true
      by true e = refl
      by false e =
          let parts = pair_from leads i j pair in
          let most = length-le_from_is_member same_laws ((i, j) ∷ pairs_of es) (pairs_from 0 leads) (unlisted_apart i j (pairs_of es) e, pairs_distinct [] es laws)
          (λ q. by_head q (i, j) (pairs_of es) (member_of i j parts.0 parts.1 parts.2 q) (pairs_members [] es laws q)) in
          let many : length (pairs_of es) ≡ length es = length-map es (λ e. (first e, second e)) in
          let all = length-pairs 0 leads in
          absurd (omega arith)

-- ---- the way back: the list of all pairs has none twice

all_cond : (P : ℕ → Type 0) (b : Bool) (x : ℕ) (xs : List ℕ) → (b ≡ true → P x) → AllByRecursion P xs → AllByRecursion P (cond b (x ∷ xs) xs)
all_cond P true x xs h g = (h refl, g)
all_cond P false x xs h g = g

all_places : (P : ℕ → Type 0) (p c : ℕ) (ts : List Term) → ((j : ℕ) → j < length ts → (lead_at ts j).column ≡ c → (x : ℕ) → x ≡ p + j → P x) → AllByRecursion P (places p c ts)
unfolding places
all_places P p c [] f = tt
all_places P p c (t ∷ ts) f = all_cond P (nat_eq t.column c) p (places (suc p) c ts) (λ e. f 0 (omega arith) (nat_eq_true t.column c e) p (omega arith)) (all_places P (suc p) c ts (λ j l e x h. f (suc j) (omega arith) e x (omega arith)))

all_with : (P : Two → Type 0) (k : ℕ) (xs : List ℕ) → AllByRecursion (λ x. P (k, x)) xs → AllByRecursion P (with k xs)
all_with P k xs h = All-map P (λ j. (k, j)) xs h

-- what holds of every pair of equal columns holds of the list of pairs
all_pairs : (P : Two → Type 0) (k : ℕ) (ts : List Term) → ((i j : ℕ) → i < j → j < length ts → (lead_at ts i).column ≡ (lead_at ts j).column → (x y : ℕ) → x ≡ k + i → y ≡ k + j → P (x, y)) → AllByRecursion P (pairs_from k ts)
unfolding pairs_from
all_pairs P k [] f = tt
all_pairs P k (t ∷ ts) f = All-append P (with k (places (suc k) t.column ts)) (pairs_from (suc k) ts)
    (all_with P k (places (suc k) t.column ts) (all_places (λ x. P (k, x)) (suc k) t.column ts (λ j l e x h. f 0 (suc j) (omega arith) (omega arith) (sym e) k x (omega arith) (omega arith))))
    (all_pairs P (suc k) ts (λ i j l m e x y a b. f (suc i) (suc j) (omega arith) (omega arith) e x y (omega arith) (omega arith)))

distinct_cond : (k x : ℕ) (b : Bool) (xs : List ℕ) → AllByRecursion (λ y. same (k, x) y ≡ false) (with k xs) → IsDistinct same (with k xs) → IsDistinct same (with k (cond b (x ∷ xs) xs))
unfolding IsDistinct
distinct_cond k x true xs h g = (h, g)
distinct_cond k x false xs h g = g

distinct_with : (k p c : ℕ) (ts : List Term) → IsDistinct same (with k (places p c ts))
unfolding places IsDistinct
distinct_with k p c [] = tt
distinct_with k p c (t ∷ ts) = distinct_cond k p (nat_eq t.column c) (places (suc p) c ts)
    (all_with (λ y. same (k, p) y ≡ false) k (places (suc p) c ts) (all_places (λ x. same (k, p) (k, x) ≡ false) (suc p) c ts (λ j l e x h. apart (k, p) (k, x) (λ z. let y = z.1 in absurd (omega arith)))))
    (distinct_with k (suc p) c ts)

distinct_append : (xs ys : List Two) → IsDistinct same xs → IsDistinct same ys → AllByRecursion (λ x. AllByRecursion (λ y. same x y ≡ false) ys) xs → IsDistinct same (xs ++ ys)
unfolding IsDistinct
distinct_append [] ys h g a = g
distinct_append (x ∷ xs) ys h g a = (All-append (λ y. same x y ≡ false) xs ys h.0 a.0, distinct_append xs ys h.1 g a.1)

distinct_pairs : (k : ℕ) (ts : List Term) → IsDistinct same (pairs_from k ts)
unfolding pairs_from IsDistinct
distinct_pairs k [] = tt
distinct_pairs k (t ∷ ts) = distinct_append (with k (places (suc k) t.column ts)) (pairs_from (suc k) ts) (distinct_with k (suc k) t.column ts) (distinct_pairs (suc k) ts)
    (all_with (λ x. AllByRecursion (λ y. same x y ≡ false) (pairs_from (suc k) ts)) k (places (suc k) t.column ts)
    (all_places (λ x. AllByRecursion (λ y. same (k, x) y ≡ false) (pairs_from (suc k) ts)) (suc k) t.column ts
    (λ j l e z h. all_pairs (λ y. same (k, z) y ≡ false) (suc k) ts (λ i j l m e x y a b. apart (k, z) (x, y) (λ w. let v = w.0 in absurd (omega arith))))))

members_from : (xs ys : List Two) → AllByRecursion (λ y. (q : Two) → same q y ≡ true → is_member same ys q ≡ true) xs → (q : Two) → is_member same xs q ≡ true → is_member same ys q ≡ true
members_from [] ys h q m = absurd (true≢false (sym m))
members_from (x ∷ xs) ys h q m = by (same q x) refl (members_from xs ys h.1 q) m
  where
    by : (b : Bool) → same q x ≡ b → (is_member same xs q ≡ true → is_member same ys q ≡ true) → (b || is_member same xs q) ≡ true → is_member same ys q ≡ true
    by true e ih m = h.0 q e
    by false e ih m = ih m

module _ (K : Domain) (s : Signature) (o : Order) (n : ℕ) (basis : List (Row K)) (leads : List Term) where
  -- a list of all pairs, none of them twice, has as many entries as there are pairs
  pub count-all : (es : List (DealtPair K)) → AreLawful K s o n basis leads [] es → AreAllListed leads (pairs_of es) → length es ≡ pair_count leads
  count-all es laws all =
      let most = length-le_from_is_member same_laws (pairs_of es) (pairs_from 0 leads) (pairs_distinct K s o n basis leads [] es laws) (pairs_members K s o n basis leads [] es laws) in
      let least = length-le_from_is_member same_laws (pairs_from 0 leads) (pairs_of es) (distinct_pairs 0 leads)
      (members_from (pairs_from 0 leads) (pairs_of es) (all_pairs (λ y. (q : Two) → same q y ≡ true → is_member same (pairs_of es) q ≡ true) 0 leads
      (λ i j l m e x y a b q h. listed x y q h (all x y (pair_to leads x y (omega arith) (omega arith) (subst (λ k. (lead_at leads k).column ≡ (lead_at leads y).column) (let z : i ≡ x = omega arith in z) (subst (λ k. (lead_at leads i).column ≡ (lead_at leads k).column) (let z : j ≡ y = omega arith in z) e))))))) in
      let many : length (pairs_of es) ≡ length es = length-map es (λ e. (first e, second e)) in
      let pairs = length-pairs 0 leads in
      omega arith
    where
      listed : (x y : ℕ) (q : Two) → same q (x, y) ≡ true → is_listed x y (pairs_of es) ≡ true → is_member same (pairs_of es) q ≡ true
      listed x y q h k = let b = to_same q (x, y) h in (λ n. is_member same (pairs_of es) (b.0 n, b.1 n)) ∙ sym (listed_member x y (pairs_of es)) ∙ k

  pub listed_most : (es : List (DealtPair K)) → AreLawful K s o n basis leads [] es → length es ≤ pair_count leads
  listed_most es laws =
      let most = length-le_from_is_member same_laws (pairs_of es) (pairs_from 0 leads) (pairs_distinct K s o n basis leads [] es laws) (pairs_members K s o n basis leads [] es laws) in
      let many : length (pairs_of es) ≡ length es = length-map es (λ e. (first e, second e)) in
      let pairs = length-pairs 0 leads in
      omega arith
