-- The height of a term of a row: a number that goes down with the term, so that no descent is longer than its first height.
--     value            the number with some digits after those of another
--     value_less       of two lists of digits of one length the smaller has the smaller number
--     value_base       a greater base has no smaller number
--     height           the number whose digits are the degree, the exponents in the order's way, and how far the column is from the end
--     height_less      a smaller term has a smaller height
--     height_room      how large it is at most
--     degree_less      a smaller term has no greater degree
use Rattle.std.proofs.Common.{◌≡◌, false, ℕ, zero, suc, pred, ◌+◌, ◌-◌, ◌*◌, ◌^◌, ◌<◌, ◌≤◌, List, [], ◌∷◌, ◌++◌, length, map, reverse, replicate, refl, sym, ap, ◌∙◌, subst, true≢false, arith}
use Rattle.std.specs.List.{AllByRecursion, sum}
use Rattle.std.specs.declared.cmp.Ordering.{Ordering}
use Rattle.std.specs.declared.cmp.Ordering.TheVariants.{Less, Equal, Greater}
use Rattle.std.specs.Ordering.{nat_cmp, ordering_then, is_gt, is_lt, MatchOrdering}
use Rattle.std.specs.Cmp.Lexicographic.{slice_cmp}
use Rattle.std.proofs.lemmas.Cmp.{ranked, nat_cmp_total}
use Rattle.std.specs.Cmp.{tied_itself}
use Rattle.std.proofs.Math.Nat.{mul-le-mul, mul-le-mul_right, pow-zero, pow-suc}
use Rattle.std.proofs.lemmas.List.Sums.{sum_by-cons}
use Rattle.ore_monomial.specs.Monomial.{Monomial, order_cmp, degree, rank}
use Rattle.ore_monomial.specs.Term.{Term, term_cmp}
use Rattle.ore_monomial.specs.declared.order.Order.{Order}
use Rattle.ore_monomial.specs.declared.order.Order.TheVariants.{DegLex, DegRevLex}
use Rattle.ore_monomial.proofs.Monomials.{order_apart}
use Rattle.ore_monomial.proofs.WellFounded.{length-rank, rank_less}
use Rattle.ore_ring.proofs.Leads.{degree_upto}

-- the number with these digits after those of v
value : ℕ → ℕ → List ℕ → ℕ
value B v [] = v
value B v (d ∷ ds) = value B (v * B + d) ds

abbrev AllBelow : ℕ → List ℕ → Type 0
AllBelow B ds = AllByRecursion (λ d. d < B) ds

next_less : (B v w d e : ℕ) → v < w → d < B → v * B + d < w * B + e
next_less B v w d e h l = let m : suc v * B ≤ w * B = mul-le-mul_right B h in let x : suc v * B ≡ v * B + B = omega arith in omega arith

value_up : (B v w : ℕ) (ds es : List ℕ) → length ds ≡ length es → AllBelow B ds → v < w → value B v ds < value B w es
unfolding value
value_up B v w [] [] e a h = h
value_up B v w [] (x ∷ es) e a h = absurd (omega arith)
value_up B v w (d ∷ ds) [] e a h = absurd (omega arith)
value_up B v w (d ∷ ds) (x ∷ es) e a h = value_up B (v * B + d) (w * B + x) ds es (ap pred e) a.1 (next_less B v w d x h a.0)

value_less : (B v : ℕ) (ds es : List ℕ) → length ds ≡ length es → AllBelow B ds → slice_cmp nat_cmp ds es ≡ Less → value B v ds < value B v es
unfolding value
value_less B v [] [] e a h = absurd (true≢false (ap is_lt (sym h)))
value_less B v [] (x ∷ es) e a h = absurd (omega arith)
value_less B v (d ∷ ds) [] e a h = absurd (omega arith)
value_less B v (d ∷ ds) (x ∷ es) e a h = by (λ w. value_less B w ds es (ap pred e) a.1) (nat_cmp d x) (ranked d x (nat_cmp d x) refl) h
  where
    by : ((w : ℕ) → slice_cmp nat_cmp ds es ≡ Less → value B w ds < value B w es) → (r : Ordering) → MatchOrdering r (d < x) (d ≡ x) (x < d) → ordering_then r (slice_cmp nat_cmp ds es) ≡ Less → value B (v * B + d) ds < value B (v * B + x) es
    by more Less m k = value_up B (v * B + d) (v * B + x) ds es (ap pred e) a.1 (omega arith)
    by more Equal m k = subst (λ y. value B (v * B + d) ds < value B (v * B + y) es) m (more (v * B + d) k)
    by more Greater m k = absurd (true≢false (ap is_lt (sym k)))

value_base : (B C v w : ℕ) (ds : List ℕ) → B ≤ C → v ≤ w → value B v ds ≤ value C w ds
unfolding value
value_base B C v w [] h k = k
value_base B C v w (d ∷ ds) h k = value_base B C (v * B + d) (w * C + d) ds h (grown v w B C h k)
  where
    grown : (v w B C : ℕ) → B ≤ C → v ≤ w → v * B + d ≤ w * C + d
    grown v w B C h k = let p : v * B ≤ w * C = mul-le-mul k h in omega arith

value_power : (B v k : ℕ) → value B v (replicate k 0) ≡ v * B ^ k
unfolding value
value_power B v zero = sym (ap (λ x. v * x) (pow-zero B) ∙ (let e : v * 1 ≡ v = omega arith in e))
value_power B v (suc k) = value_power B (v * B + 0) k ∙ turned (B ^ k) ∙ ap (λ x. v * x) (sym (pow-suc B k))
  where
    turned : (x : ℕ) → (v * B + 0) * x ≡ v * (x * B)
    turned x = omega arith

all_append : (B : ℕ) (ds es : List ℕ) → AllBelow B ds → AllBelow B es → AllBelow B (ds ++ es)
all_append B [] es a b = b
all_append B (d ∷ ds) es a b = (a.0, all_append B ds es a.1 b)

length_append_one : (ds : List ℕ) (x : ℕ) → length (ds ++ x ∷ []) ≡ suc (length ds)
length_append_one [] x = refl
length_append_one (d ∷ ds) x = ap suc (length_append_one ds x)

-- ---- the digits of a monomial

upto_sum : (B b : ℕ) (es : List ℕ) → sum es ≤ b → b < B → AllBelow B es
upto_sum B b [] h l = tt
upto_sum B b (e ∷ es) h l = let s = sum_by-cons (λ x. x) e es in (omega arith, upto_sum B b es (omega arith) l)

differences : (B d : ℕ) (es : List ℕ) → d < B → AllBelow B (map (λ e. d - e) es)
differences B d [] l = tt
differences B d (e ∷ es) l = (omega arith, differences B d es l)

rank_below : (o : Order) (B : ℕ) (m : Monomial) → degree m < B → AllBelow B (rank o m)
unfolding rank degree
rank_below DegLex B m l = (l, upto_sum B (sum m.exponents) m.exponents (omega arith) l)
rank_below DegRevLex B m l = (l, differences B (sum m.exponents) (reverse m.exponents) l)

-- ---- the height of a place of a row of n entries

pub height : Order → ℕ → Term → ℕ
height o n t = value (degree t.monomial + n + 1) 0 (rank o t.monomial ++ (n - t.column) ∷ [])

less_append : (xs ys zs ws : List ℕ) → length xs ≡ length ys → slice_cmp nat_cmp xs ys ≡ Less → slice_cmp nat_cmp (xs ++ zs) (ys ++ ws) ≡ Less
less_append [] [] zs ws e h = absurd (true≢false (ap is_lt (sym h)))
less_append [] (y ∷ ys) zs ws e h = absurd (omega arith)
less_append (x ∷ xs) [] zs ws e h = absurd (omega arith)
less_append (x ∷ xs) (y ∷ ys) zs ws e h = by (less_append xs ys zs ws (ap pred e)) (nat_cmp x y) h
  where
    by : (slice_cmp nat_cmp xs ys ≡ Less → slice_cmp nat_cmp (xs ++ zs) (ys ++ ws) ≡ Less) → (r : Ordering) → ordering_then r (slice_cmp nat_cmp xs ys) ≡ Less → ordering_then r (slice_cmp nat_cmp (xs ++ zs) (ys ++ ws)) ≡ Less
    by more Less k = refl
    by more Equal k = more k
    by more Greater k = absurd (true≢false (ap is_lt (sym k)))

same_append : (xs zs ws : List ℕ) → slice_cmp nat_cmp (xs ++ zs) (xs ++ ws) ≡ slice_cmp nat_cmp zs ws
same_append [] zs ws = refl
same_append (x ∷ xs) zs ws = ap (λ r. ordering_then r (slice_cmp nat_cmp (xs ++ zs) (xs ++ ws))) (tied_itself nat_cmp_total x) ∙ same_append xs zs ws

less_cmp : (a b : ℕ) → a < b → ordering_then (nat_cmp a b) Equal ≡ Less
less_cmp a b h = by (nat_cmp a b) (ranked a b (nat_cmp a b) refl)
  where
    by : (r : Ordering) → MatchOrdering r (a < b) (a ≡ b) (b < a) → ordering_then r Equal ≡ Less
    by Less m = refl
    by Equal m = absurd (omega arith)
    by Greater m = absurd (omega arith)

less_number : (a b : ℕ) → nat_cmp a b ≡ Less → a < b
less_number a b e = subst (λ r. MatchOrdering r (a < b) (a ≡ b) (b < a)) e (ranked a b (nat_cmp a b) refl)

digits_less : (o : Order) (n : ℕ) (q p : Term) → q.column ≤ n → term_cmp o q p ≡ Less → slice_cmp nat_cmp (rank o q.monomial ++ (n - q.column) ∷ []) (rank o p.monomial ++ (n - p.column) ∷ []) ≡ Less
digits_less o n q p c h = by (order_cmp o q.monomial p.monomial) refl h
  where
    by : (r : Ordering) → order_cmp o q.monomial p.monomial ≡ r → ordering_then r (nat_cmp p.column q.column) ≡ Less → slice_cmp nat_cmp (rank o q.monomial ++ (n - q.column) ∷ []) (rank o p.monomial ++ (n - p.column) ∷ []) ≡ Less
    by Less e k = less_append (rank o q.monomial) (rank o p.monomial) _ _ (length-rank o q.monomial ∙ sym (length-rank o p.monomial)) (rank_less o q.monomial p.monomial e)
    by Equal e k =
        let l = less_number p.column q.column k in
        ap (λ m. slice_cmp nat_cmp (rank o m ++ (n - q.column) ∷ []) (rank o p.monomial ++ (n - p.column) ∷ [])) (order_apart o q.monomial p.monomial e)
        ∙ same_append (rank o p.monomial) _ _ ∙ less_cmp (n - q.column) (n - p.column) (omega arith)
    by Greater e k = absurd (true≢false (ap is_lt (sym k)))

long_digits : (o : Order) (n : ℕ) (p : Term) → length (rank o p.monomial ++ (n - p.column) ∷ []) ≡ 14
long_digits o n p = length_append_one (rank o p.monomial) _ ∙ ap suc (length-rank o p.monomial)

digits_below : (o : Order) (B n : ℕ) (p : Term) → degree p.monomial + n < B → AllBelow B (rank o p.monomial ++ (n - p.column) ∷ [])
digits_below o B n p h = all_append B (rank o p.monomial) _ (rank_below o B p.monomial (omega arith)) (omega arith, tt)

pub degree_less : (o : Order) (q p : Term) → term_cmp o q p ≡ Less → degree q.monomial ≤ degree p.monomial
degree_less o q p h = degree_upto o q.monomial p.monomial (by (order_cmp o q.monomial p.monomial) h)
  where
    by : (r : Ordering) → ordering_then r (nat_cmp p.column q.column) ≡ Less → is_gt r ≡ false
    by Less k = refl
    by Equal k = refl
    by Greater k = absurd (true≢false (ap is_lt (sym k)))

pub height_less : (o : Order) (n : ℕ) (q p : Term) → q.column ≤ n → term_cmp o q p ≡ Less → height o n q < height o n p
unfolding height
height_less o n q p c h =
    let d = degree_less o q p h in
    let low = value_less (degree p.monomial + n + 1) 0 _ _ (long_digits o n q ∙ sym (long_digits o n p)) (digits_below o (degree p.monomial + n + 1) n q (omega arith)) (digits_less o n q p c h) in
    let up = value_base (degree q.monomial + n + 1) (degree p.monomial + n + 1) 0 0 (rank o q.monomial ++ (n - q.column) ∷ []) (omega arith) (omega arith) in
    omega arith

pub height_room : (o : Order) (n : ℕ) (p : Term) → height o n p < (degree p.monomial + n + 1) ^ 14
unfolding height
height_room o n p =
    let B : ℕ = degree p.monomial + n + 1 in
    let e : value B 1 (replicate 14 0) ≡ 1 * B ^ 14 = value_power B 1 14 in
    let u : value B 0 (rank o p.monomial ++ (n - p.column) ∷ []) < value B 1 (replicate 14 0) = value_up B 0 1 _ (replicate 14 0) (long_digits o n p) (digits_below o B n p (omega arith)) (omega arith) in
    omega arith
