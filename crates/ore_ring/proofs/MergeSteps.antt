-- One step of the walk over two lists of falling terms, from places in them.
--     kept-append, kept_gone, kept_there     a term that is kept unless its fraction is 0
--     at_less, at_equal, at_greater, at_stop     a step by how the next two terms compare
--     at_end_left, at_end_right, both_ends       one list is used up
--     opposite_at, less_ends                     of a list with each fraction negated, the term at a place and the end
use Rattle.std.proofs.Common.{◌≡◌, ◌≢◌, ℕ, ◌+◌, ◌<◌, ◌≤◌, List, [], ◌∷◌, ◌++◌, drop, length, get_or, pos, refl, subst, sym, ap, ap₂, ◌∙◌, append_assoc, append-nil, arith, take, ◌-◌}
use Rattle.std.proofs.lemmas.List.{take_all, drop-map, get_or-map, length-drop, length-map}
use Rattle.std.specs.declared.cmp.Ordering.{Ordering}
use Rattle.std.specs.declared.cmp.Ordering.TheVariants.{Less, Equal, Greater}
use Rattle.std.specs.declared.result.Result.{Result}
use Rattle.std.specs.declared.result.Result.TheVariants.{Ok, Err}
use Rattle.ore_rational.specs.Fraction.{Fraction, whole, neg}
use Rattle.ore_rational.specs.FractionRing.{fraction_discrete}
use Rattle.ore_monomial.specs.Monomial.{Monomial, order_cmp}
use Rattle.ore_monomial.specs.declared.order.Order.{Order}
use Rattle.ore_algebra.specs.Limits.{Limits, Cause}
use Rattle.ore_algebra.specs.Results.{◌>>=◌, fronted}
use Rattle.ore_algebra.proofs.ResultLaws.{front_more}
use Rattle.ore_algebra.proofs.ListLaws.{drop_item}
use Rattle.ore_rational.specs.Within.{sum_within}
use Rattle.ore_ring.specs.Terms.{Summand, Terms}
use Rattle.ore_ring.specs.Merge.{kept, step_within, into_within, merge_within, opposite_terms}

pub kept-append : (m : Monomial) (x : Fraction) (ts : Terms) → kept m x [] ++ ts ≡ kept m x ts
kept-append m x ts = by (fraction_discrete x (whole (pos 0)))
  where
    by : (d : Dec (x ≡ whole (pos 0))) → elim d [ yes e ↦ [] | no n ↦ (m, x) ∷ [] ] ++ ts ≡ elim d [ yes e ↦ ts | no n ↦ (m, x) ∷ ts ]
    by (yes e) = refl
    by (no n) = refl

pub kept_gone : (m : Monomial) (x : Fraction) → x ≡ whole (pos 0) → kept m x [] ≡ []
kept_gone m x e = by (fraction_discrete x (whole (pos 0)))
  where
    by : (d : Dec (x ≡ whole (pos 0))) → ◌≡◌ {A = Terms} (elim d [ yes e ↦ [] | no n ↦ (m, x) ∷ [] ]) []
    by (yes f) = refl
    by (no n) = absurd (n e)

pub kept_there : (m : Monomial) (x : Fraction) → x ≢ whole (pos 0) → kept m x [] ≡ (m, x) ∷ []
kept_there m x n = by (fraction_discrete x (whole (pos 0)))
  where
    by : (d : Dec (x ≡ whole (pos 0))) → ◌≡◌ {A = Terms} (elim d [ yes e ↦ [] | no n ↦ (m, x) ∷ [] ]) ((m, x) ∷ [])
    by (yes e) = absurd (n e)
    by (no k) = refl

front_kept : (front : Terms) (m : Monomial) (x : Fraction) (r : Result Terms Cause) → fronted front (r >>= λ ts. Ok (kept m x ts)) ≡ fronted (front ++ kept m x []) r
front_kept front m x (Ok ts) = ap Ok (ap (λ us. front ++ us) (sym (kept-append m x ts)) ∙ sym (append_assoc front (kept m x []) ts))
front_kept front m x (Err e) = refl

module _ (l : Limits) (o : Order) where
  -- the step at the heads of two lists
  pub heads : (t u : Summand) (ts us : Terms) → merge_within l o (t ∷ ts) (u ∷ us) ≡ step_within l (order_cmp o t.0 u.0) t u (merge_within l o ts (u ∷ us)) (merge_within l o ts us) (merge_within l o (t ∷ ts) us)
  unfolding merge_within into_within
  heads t u ts us = refl

  pub merge_nil : (ts : Terms) → merge_within l o ts [] ≡ Ok ts
  unfolding merge_within into_within
  merge_nil [] = refl
  merge_nil (t ∷ ts) = refl

  pub nil_merge : (us : Terms) → merge_within l o [] us ≡ Ok us
  unfolding merge_within
  nil_merge us = refl

  module _ (front : Terms) (t u : Summand) (a b : Terms) (i j : ℕ) (ti : t ≡ get_or a i t) (il : i < length a) (uj : u ≡ get_or b j u) (jl : j < length b) where
    abbrev W : Result Terms Cause
    W = fronted front (merge_within l o (drop i a) (drop j b))

    at_heads : (r : Ordering) → r ≡ order_cmp o t.0 u.0 → W ≡ fronted front (step_within l r t u (merge_within l o (drop (i + 1) a) (drop j b)) (merge_within l o (drop (i + 1) a) (drop (j + 1) b)) (merge_within l o (drop i a) (drop (j + 1) b)))
    at_heads r e =
        ap₂ (λ x y. fronted front (merge_within l o x y)) (drop_item a i t il ti) (drop_item b j u jl uj)
        ∙ ap (fronted front) (heads t u (drop (i + 1) a) (drop (j + 1) b))
        ∙ (λ k. fronted front (step_within l (sym e k) t u (merge_within l o (drop (i + 1) a) (sym (drop_item b j u jl uj) k)) (merge_within l o (drop (i + 1) a) (drop (j + 1) b)) (merge_within l o (sym (drop_item a i t il ti) k) (drop (j + 1) b))))

    pub at_less : Less ≡ order_cmp o t.0 u.0 → W ≡ fronted (front ++ u ∷ []) (merge_within l o (drop i a) (drop (j + 1) b))
    at_less e = at_heads Less e ∙ front_more front u _

    pub at_greater : Greater ≡ order_cmp o t.0 u.0 → W ≡ fronted (front ++ t ∷ []) (merge_within l o (drop (i + 1) a) (drop j b))
    at_greater e = at_heads Greater e ∙ front_more front t _

    pub at_equal : Equal ≡ order_cmp o t.0 u.0 → (s : Fraction) → sum_within l t.1 u.1 ≡ Ok s → W ≡ fronted (front ++ kept t.0 s []) (merge_within l o (drop (i + 1) a) (drop (j + 1) b))
    at_equal e s f =
        at_heads Equal e
        ∙ ap (λ r. fronted front (r >>= λ s. merge_within l o (drop (i + 1) a) (drop (j + 1) b) >>= λ ts. Ok (kept t.0 s ts))) f
        ∙ front_kept front t.0 s _

    pub at_stop : Equal ≡ order_cmp o t.0 u.0 → (c : Cause) → sum_within l t.1 u.1 ≡ Err c → W ≡ Err c
    at_stop e c f = at_heads Equal e ∙ ap (λ r. fronted front (r >>= λ s. merge_within l o (drop (i + 1) a) (drop (j + 1) b) >>= λ ts. Ok (kept t.0 s ts))) f

  -- one list is used up
  pub at_end_left : (front a b : Terms) (i j : ℕ) → length a ≤ i → fronted front (merge_within l o (drop i a) (drop j b)) ≡ Ok ((front ++ drop i a) ++ drop j b)
  at_end_left front a b i j h =
      ap (λ x. fronted front (merge_within l o x (drop j b))) (gone a i h) ∙ ap (fronted front) (nil_merge (drop j b))
      ∙ ap Ok (ap (λ x. x ++ drop j b) (sym (append-nil front)) ∙ ap (λ x. (front ++ x) ++ drop j b) (sym (gone a i h)))
    where
      gone : (a : Terms) (i : ℕ) → length a ≤ i → drop i a ≡ []
      gone a i h = Rattle.std.proofs.Math.ListN.drop_of_length-le a h

  pub at_end_right : (front a b : Terms) (i j : ℕ) → length b ≤ j → fronted front (merge_within l o (drop i a) (drop j b)) ≡ Ok ((front ++ drop i a) ++ drop j b)
  at_end_right front a b i j h =
      ap (λ x. fronted front (merge_within l o (drop i a) x)) (gone b j h) ∙ ap (fronted front) (merge_nil (drop i a))
      ∙ ap Ok (sym (append-nil (front ++ drop i a)) ∙ ap (λ x. (front ++ drop i a) ++ x) (sym (gone b j h)))
    where
      gone : (a : Terms) (i : ℕ) → length a ≤ i → drop i a ≡ []
      gone a i h = Rattle.std.proofs.Math.ListN.drop_of_length-le a h

-- a slice from i on
pub from_there : {A : Type 0} (xs : List A) (i : ℕ) → take (length xs - i) (drop i xs) ≡ drop i xs
from_there xs i = take_all (length xs - i) (drop i xs) (omega (arith, length-drop i xs))

pub both_ends : {A : Type 0} (front xs ys one two : List A) (i j : ℕ) → two ≡ one ++ take (length ys - j) (drop j ys) → one ≡ front ++ take (length xs - i) (drop i xs) → (front ++ drop i xs) ++ drop j ys ≡ two
both_ends front xs ys one two i j e f = sym (e ∙ ap₂ ◌++◌ (f ∙ ap (λ zs. front ++ zs) (from_there xs i)) (from_there ys j))

-- ---- the second list with each fraction negated

pub opposite_at : (us : Terms) (j : ℕ) (x u : Summand) → u ≡ (x.0, neg x.1) → x ≡ get_or us j x → j < length us → (u ≡ get_or (opposite_terms us) j u) × (j < length (opposite_terms us))
opposite_at us j x u e h l = (
  e ∙ ap (λ (t : Summand). (t.0, neg t.1)) h ∙ sym (get_or-map (λ (t : Summand). (t.0, neg t.1)) us j x u l),
  subst (λ n. j < n) (sym (length-map us (λ (t : Summand). (t.0, neg t.1)))) l,
)

pub less_ends : (front xs ys one two : Terms) (i j : ℕ) → two ≡ one ++ opposite_terms (take (length ys - j) (drop j ys)) → one ≡ front ++ take (length xs - i) (drop i xs) → (front ++ drop i xs) ++ drop j (opposite_terms ys) ≡ two
less_ends front xs ys one two i j e f = sym (e ∙ ap₂ ◌++◌ (f ∙ ap (λ zs. front ++ zs) (from_there xs i)) (ap opposite_terms (from_there ys j) ∙ sym (drop-map (λ (t : Summand). (t.0, neg t.1)) j ys)))
