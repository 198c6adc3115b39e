-- Terms gathered in a map: looking up, inserting, draining.
--     lookup_is                 what is found at a rank is the number of that monomial
--     insert_is                 to insert at a rank is to put at that monomial
--     put_value, put_sorted     what is put is added, and the terms still rise
--     drained_value, drained_falls    taken out from the last, they make the same operator, and fall
use Rattle.std.proofs.Common.{◌≡◌, Bool, true, cond, T, [], ◌∷◌, ◌++◌, map, refl, sym, ap, ap₂, ◌∙◌, subst, append_assoc, nat_cmp}
use Rattle.std.specs.declared.option.Option.{Option}
use Rattle.std.specs.declared.option.Option.TheVariants.{Some}
use Rattle.std.specs.declared.cmp.Ordering.{Ordering}
use Rattle.std.specs.declared.cmp.Ordering.TheVariants.{Less, Equal, Greater}
use Rattle.std.specs.Ordering.{is_eq, match_ordering}
use Rattle.std.specs.Cmp.Lexicographic.{slice_cmp}
use Rattle.std.specs.Map.{lookup}
use Rattle.std.specs.BTreeMap.{insert_entry, is_at}
use Rattle.std.specs.FinMap.{is_sorted}
use Rattle.std.specs.FinMap.Entries.{below_all, put, is_sorted-put}
use Rattle.ore_rational.specs.Fraction.{Fraction, add}
use Rattle.ore_rational.specs.Field.{rationals}
use Rattle.ore_rational.specs.FractionRing.{fraction_discrete}
use Rattle.ore_algebra.specs.Free.{collect, empty_sum, single, plus}
use Rattle.ore_monomial.specs.Monomial.{Monomial, order_cmp, plain_cmp, rank}
use Rattle.ore_monomial.specs.declared.order.Order.{Order}
use Rattle.ore_monomial.specs.LetterRule.{Operator}
use Rattle.ore_algebra.proofs.DomainLaws.{zero_plus}
use Rattle.ore_monomial.proofs.Monomials.{order_total, order_apart}
use Rattle.ore_monomial.proofs.Operators
use Rattle.ore_monomial.proofs.Seen.{rank_cmp}
use Rattle.ore_algebra.specs.Limits.{unlimited}
use Rattle.ore_ring.specs.Terms.{Summand, Terms, IsFalling, IsBelowLast}
use Rattle.ore_ring.specs.Merge.{kept}
use Rattle.ore_ring.specs.Gathered.{keyed, drained}
use Rattle.ore_ring.specs.IsGathered.{number_of}
use Rattle.ore_ring.proofs.Falls.{both, first, second, less_of, of_less, falls_none, falls_snoc}
use Rattle.ore_ring.proofs.MergeIs.{zero, eq_order, kept_value}
use Rattle.ore_ring.proofs.TermLaws.{C, ◌+◌}
use Rattle.ore_ring.proofs.AllTerms.{at_skip, at_own, at}

module _ (o : Order) where
  -- a key below all others names no term
  at_below : (q : Monomial) (us : Terms) → T (below_all (order_cmp o) q us) → at q us ≡ zero
  unfolding Rattle.ore_algebra.specs.Free.sum_at
  at_below q [] h = refl
  at_below q (u ∷ us) h = at_skip q u us (eq_order unlimited o q u.0 Less (less_of _ (first _ _ h))) ∙ at_below q us (second _ _ h)

  found_is : (m : Monomial) (t : Summand) (b : Bool) (r : Ordering) → order_cmp o m t.0 ≡ r → is_at (slice_cmp nat_cmp (rank o m)) (rank o t.0) ≡ is_eq r
  found_is m t b r e = ap is_eq (rank_cmp o m t.0 ∙ e)

  pub lookup_is : (m : Monomial) (ts : Terms) → T (is_sorted (order_cmp o) ts) → number_of (lookup (is_at (slice_cmp nat_cmp (rank o m))) (keyed o ts)) ≡ at m ts
  unfolding Rattle.ore_algebra.specs.Free.sum_at
  lookup_is m [] h = refl
  lookup_is m (t ∷ ts) h = by (order_cmp o m t.0) refl (lookup_is m ts (second _ _ h))
    where
      rest : Option Summand
      rest = lookup (is_at (slice_cmp nat_cmp (rank o m))) (keyed o ts)

      by : (r : Ordering) → order_cmp o m t.0 ≡ r → number_of rest ≡ at m ts → number_of (cond (is_at (slice_cmp nat_cmp (rank o m)) (rank o t.0)) (Some t) rest) ≡ at m (t ∷ ts)
      by Less e ih = ap (λ b. number_of (cond b (Some t) rest)) (found_is m t true Less e) ∙ ih ∙ sym (at_skip m t ts (eq_order unlimited o m t.0 Less e))
      by Equal e ih =
          ap (λ b. number_of (cond b (Some t) rest)) (found_is m t true Equal e)
          ∙ sym (at_own m t ts (eq_order unlimited o m t.0 Equal e) (at_below m ts (subst (λ q. T (below_all (order_cmp o) q ts)) (sym (order_apart o m t.0 e)) (first _ _ h))))
      by Greater e ih = ap (λ b. number_of (cond b (Some t) rest)) (found_is m t true Greater e) ∙ ih ∙ sym (at_skip m t ts (eq_order unlimited o m t.0 Greater e))

  pub insert_is : (m : Monomial) (s : Fraction) (ts : Terms) → insert_entry (slice_cmp nat_cmp) (keyed o ts) (rank o m) (m, s) ≡ keyed o (put (order_cmp o) m s ts)
  insert_is m s [] = refl
  insert_is m s (t ∷ ts) = ap (λ r. match_ordering r ((rank o m, (m, s)) ∷ keyed o (t ∷ ts)) ((rank o t.0, (m, s)) ∷ keyed o ts) ((rank o t.0, t) ∷ insert_entry (slice_cmp nat_cmp) (keyed o ts) (rank o m) (m, s))) (rank_cmp o m t.0) ∙ by (order_cmp o m t.0) refl (insert_is m s ts)
    where
      by : (r : Ordering) → order_cmp o m t.0 ≡ r → insert_entry (slice_cmp nat_cmp) (keyed o ts) (rank o m) (m, s) ≡ keyed o (put (order_cmp o) m s ts)
          → match_ordering r ((rank o m, (m, s)) ∷ keyed o (t ∷ ts)) ((rank o t.0, (m, s)) ∷ keyed o ts) ((rank o t.0, t) ∷ insert_entry (slice_cmp nat_cmp) (keyed o ts) (rank o m) (m, s))
          ≡ keyed o (Rattle.std.specs.FinMap.Entries.by_order r ((m, s) ∷ t ∷ ts) ((t.0, s) ∷ ts) (t ∷ put (order_cmp o) m s ts))
      by Less e ih = refl
      by Equal e ih = ap (λ q. (rank o t.0, (q, s)) ∷ keyed o ts) (order_apart o m t.0 e)
      by Greater e ih = ap (λ es. (rank o t.0, t) ∷ es) ih

  abbrev one_of : Monomial → Fraction → Operator rationals
  one_of = single rationals plain_cmp

  less_below : (m n : Monomial) (us : Terms) → order_cmp o m n ≡ Less → T (below_all (order_cmp o) n us) → T (below_all (order_cmp o) m us)
  less_below m n [] e h = tt
  less_below m n (u ∷ us) e h = both _ _ (of_less _ ((order_total o).trans m n u.0 e (less_of _ (first _ _ h)))) (less_below m n us e (second _ _ h))

  pub put_value : (m : Monomial) (s c : Fraction) (ts : Terms) → T (is_sorted (order_cmp o) ts) → s ≡ add (at m ts) c → C (put (order_cmp o) m s ts) ≡ C ts + one_of m c
  unfolding Rattle.ore_algebra.specs.Free.sum_at empty_sum
  put_value m s c [] h e = Operators.collect_more rationals m s [] ∙ Operators.plus_zero rationals (one_of m s) ∙ ap (one_of m) (e ∙ zero_plus rationals c) ∙ sym (Operators.zero-plus rationals (one_of m c))
  put_value m s c (t ∷ ts) h e = by (order_cmp o m t.0) refl (λ f. put_value m s c ts (second _ _ h) (e ∙ ap (λ x. add x c) f))
    where
      by : (r : Ordering) → order_cmp o m t.0 ≡ r → (at m (t ∷ ts) ≡ at m ts → C (put (order_cmp o) m s ts) ≡ C ts + one_of m c)
          → C (Rattle.std.specs.FinMap.Entries.by_order r ((m, s) ∷ t ∷ ts) ((t.0, s) ∷ ts) (t ∷ put (order_cmp o) m s ts)) ≡ C (t ∷ ts) + one_of m c
      by Less f ih =
          Operators.collect_more rationals m s (t ∷ ts)
          ∙ ap (λ x. one_of m x + C (t ∷ ts)) (e ∙ ap (λ x. add x c) (at_skip m t ts (eq_order unlimited o m t.0 Less f) ∙ at_below m ts (less_below m t.0 ts f (first _ _ h))) ∙ zero_plus rationals c)
          ∙ Operators.plus_comm rationals (one_of m c) (C (t ∷ ts))
      by Equal f ih =
          Operators.collect_more rationals t.0 s ts
          ∙ ap (λ x. one_of t.0 x + C ts) (e ∙ ap (λ x. add x c) (at_own m t ts (eq_order unlimited o m t.0 Equal f) (at_below m ts (subst (λ q. T (below_all (order_cmp o) q ts)) (sym (order_apart o m t.0 f)) (first _ _ h)))))
          ∙ ap (λ g. g + C ts) (Operators.single-plus rationals t.0 t.1 c)
          ∙ Operators.plus_assoc rationals _ _ _ ∙ ap (λ g. one_of t.0 t.1 + g) (Operators.plus_comm rationals (one_of t.0 c) (C ts)) ∙ sym (Operators.plus_assoc rationals _ _ _)
          ∙ ap₂ ◌+◌ (sym (Operators.collect_more rationals t.0 t.1 ts)) (ap (λ q. one_of q c) (sym (order_apart o m t.0 f)))
      by Greater f ih =
          Operators.collect_more rationals t.0 t.1 (put (order_cmp o) m s ts)
          ∙ ap (λ g. one_of t.0 t.1 + g) (ih (at_skip m t ts (eq_order unlimited o m t.0 Greater f)))
          ∙ sym (Operators.plus_assoc rationals _ _ _) ∙ ap (λ g. g + one_of m c) (sym (Operators.collect_more rationals t.0 t.1 ts))

  pub put_sorted : (m : Monomial) (s : Fraction) (ts : Terms) → T (is_sorted (order_cmp o) ts) → T (is_sorted (order_cmp o) (put (order_cmp o) m s ts))
  put_sorted m s ts h = is_sorted-put (order_cmp o) (order_total o) m s ts h

  pub terms_again : (ts : Terms) → map (λ e. e.1) (keyed o ts) ≡ ts
  terms_again [] = refl
  terms_again (t ∷ ts) = ap (λ us. t ∷ us) (terms_again ts)

  -- ---- draining

  pub drained-snoc : (ts : Terms) (t : Summand) → drained (ts ++ t ∷ []) ≡ kept t.0 t.1 [] ++ drained ts
  drained-snoc [] t = sym (Rattle.std.proofs.Common.append-nil (kept t.0 t.1 []))
  drained-snoc (u ∷ ts) t = ap (λ us. us ++ kept u.0 u.1 []) (drained-snoc ts t) ∙ append_assoc (kept t.0 t.1 []) (drained ts) (kept u.0 u.1 [])

  pub drained_value : (ts : Terms) → C (drained ts) ≡ C ts
  unfolding empty_sum
  drained_value [] = refl
  drained_value (t ∷ ts) =
      Operators.collect-append rationals (drained ts) (kept t.0 t.1 [])
      ∙ ap₂ ◌+◌ (drained_value ts) (kept_value unlimited o t.0 t.1 [] ∙ last (one_of t.0 t.1))
      ∙ Operators.plus_comm rationals (C ts) (one_of t.0 t.1) ∙ sym (Operators.collect_more rationals t.0 t.1 ts)
    where
      last : (f : Operator rationals) → f + C [] ≡ f
      last f = Operators.plus_zero rationals f

  abbrev AllAbove : Monomial → Terms → Type 0
  AllAbove m [] = Unit {0}
  AllAbove m (u ∷ us) = (order_cmp o m u.0 ≡ Less) × AllAbove m us

  above-append : (m : Monomial) (xs ys : Terms) → AllAbove m xs → AllAbove m ys → AllAbove m (xs ++ ys)
  above-append m [] ys h k = k
  above-append m (x ∷ xs) ys h k = (h.0, above-append m xs ys h.1 k)

  above_kept : (m : Monomial) (t : Summand) → order_cmp o m t.0 ≡ Less → AllAbove m (kept t.0 t.1 [])
  above_kept m t e = by (fraction_discrete t.1 zero)
    where
      by : (d : Dec (t.1 ≡ zero)) → AllAbove m (elim d [ yes e ↦ [] | no n ↦ (t.0, t.1) ∷ [] ])
      by (yes f) = tt
      by (no n) = (e, tt)

  above-drained : (m : Monomial) (ts : Terms) → T (below_all (order_cmp o) m ts) → AllAbove m (drained ts)
  above-drained m [] h = tt
  above-drained m (t ∷ ts) h = above-append m (drained ts) _ (above-drained m ts (second _ _ h)) (above_kept m t (less_of _ (first _ _ h)))

  below_last : (m : Monomial) (ts : Terms) → AllAbove m ts → IsBelowLast o ts m
  below_last m [] h = tt
  below_last m (t ∷ []) h = h.0
  below_last m (t ∷ u ∷ ts) h = below_last m (u ∷ ts) h.1

  pub drained_falls : (ts : Terms) → T (is_sorted (order_cmp o) ts) → IsFalling o (drained ts)
  drained_falls [] h = falls_none o
  drained_falls (t ∷ ts) h = by (drained_falls ts (second _ _ h)) (fraction_discrete t.1 zero)
    where
      by : IsFalling o (drained ts) → (d : Dec (t.1 ≡ zero)) → IsFalling o (drained ts ++ elim d [ yes e ↦ [] | no n ↦ (t.0, t.1) ∷ [] ])
      by ih (yes e) = subst (IsFalling o) (sym (Rattle.std.proofs.Common.append-nil (drained ts))) ih
      by ih (no n) = falls_snoc o (drained ts) t ih (below_last t.0 (drained ts) (above-drained t.0 ts (first _ _ h))) n
