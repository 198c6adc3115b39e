-- The sum of terms that fall and whose fractions are in range.
--     zero_sum            such a fraction added to 0 is formed, and is the fraction
--     falling_sum         such terms, added in turn, make the operator of which they are the terms
--     below_last          what is below the last term may be appended
--     range_snoc          one more term in range
use Rattle.std.proofs.Common.{◌≡◌, ℕ, zero, suc, ◌+◌, ◌*◌, ◌/◌, ◌<◌, ◌^◌, T, [], ◌∷◌, ◌++◌, length, get_or, ℤ, pos, ◌+ℤ◌, ◌*ℤ◌, nat_abs, refl, sym, ap, ap₂, ◌∙◌, subst, arith, append_assoc}
use Rattle.std.specs.declared.cmp.Ordering.TheVariants.{Less}
use Rattle.std.specs.FinMap.{is_sorted}
use Rattle.std.specs.FinMap.Entries.{below_all}
use Rattle.std.specs.declared.result.Result.TheVariants.{Ok}
use native.Mathlib.Nat.{div-one}
use Rattle.ore_algebra.specs.Free.{collect, empty_sum, plus, single, sum_at}
use Rattle.ore_algebra.specs.Limits.{program, ◌>>=◌, fold_within}
use Rattle.ore_algebra.proofs.DomainLaws.{zero_plus}
use Rattle.ore_algebra.proofs.Normal.{nil, one, ◌⊕◌, ◌⊗◌, v0}
use Rattle.ore_rational.specs.Gcd.{gcd}
use Rattle.ore_rational.specs.Fraction.{Fraction, whole}
use Rattle.ore_rational.specs.Range.{InRange}
use Rattle.ore_rational.specs.Within.{sum_num, sum_den, sum_within}
use Rattle.ore_rational.proofs.Bounds.{sum_fits_from}
use Rattle.ore_rational.specs.Field.{rationals}
use Rattle.ore_rational.specs.FractionRing.{in_wholes}
use Rattle.ore_rational.proofs.Whole.{one-gcd, gcd-one}
use Rattle.ore_monomial.specs.Monomial.{Monomial, order_cmp, plain_cmp}
use Rattle.ore_monomial.specs.declared.order.Order.{Order}
use Rattle.ore_monomial.specs.LetterRule.{Operator}
use Rattle.ore_monomial.specs.Numbers.{back}
use Rattle.ore_monomial.proofs.Operators
use Rattle.ore_ring.specs.Terms.{Summand, Terms, IsFalling, IsBelowLast}
use Rattle.ore_ring.specs.Within.{add_term_within}
use Rattle.ore_ring.specs.Contributions.{add_terms_within, IsInRange, AreInRange}
use Rattle.ore_ring.proofs.Falls.{first, second, less_of}
use Rattle.ore_ring.proofs.FractionSteps.{sum_ok}
use Rattle.ore_ring.proofs.MergeIs.{eq_order}
use Rattle.ore_ring.proofs.StoredOp.{collect_snoc}
use Rattle.ore_ring.proofs.AllTerms.{at_skip, at}

module _ (c : Fraction) where
  zero_part : pos 0 *ℤ pos (c.den / gcd 1 c.den) ≡ pos 0
  zero_part = in_wholes (pos (c.den / gcd 1 c.den) ∷ []) (nil ⊗ v0) nil refl

  own_part : c.num *ℤ pos (1 / gcd 1 c.den) ≡ c.num
  own_part = ap (λ g. c.num *ℤ pos (1 / g)) (one-gcd c.den) ∙ in_wholes (c.num ∷ []) (v0 ⊗ one) v0 refl

  num_is : sum_num (whole (pos 0)) c ≡ c.num
  num_is = ap₂ ◌+ℤ◌ zero_part own_part ∙ in_wholes (c.num ∷ []) (nil ⊕ v0) v0 refl

  den_over : (g : ℕ) → (1 / g) * (c.den / gcd (nat_abs (sum_num (whole (pos 0)) c)) g) ≡ (1 / g) * (c.den / gcd (nat_abs (sum_num (whole (pos 0)) c)) g)
  den_over g = refl

  den_is : sum_den (whole (pos 0)) c ≡ c.den
  den_is =
      ap (λ g. (1 / g) * (c.den / gcd (nat_abs (sum_num (whole (pos 0)) c)) g)) (one-gcd c.den)
      ∙ ap (λ g. (1 / 1) * (c.den / g)) (gcd-one (nat_abs (sum_num (whole (pos 0)) c)))
      ∙ ap (λ d. (1 / 1) * d) (div-one c.den)
      ∙ (let e : (1 / 1) * c.den ≡ c.den = omega arith in e)

  pub zero_sum : InRange c.num → c.den < 2 ^ 127 → sum_within program (whole (pos 0)) c ≡ Ok c
  zero_sum h k =
      sum_ok (whole (pos 0)) c
      (sum_fits_from (whole (pos 0)) c (subst InRange (sym zero_part) (omega arith)) (subst InRange (sym own_part) h) (subst InRange (sym num_is) h) (subst (λ d. d < 2 ^ 127) (sym den_is) k))
      ∙ ap Ok (zero_plus rationals c)

-- ---- terms that fall

below_in : (o : Order) (m : Monomial) (ds : Terms) (t : Summand) (rest : Terms) → T (below_all (back o) m (ds ++ t ∷ rest)) → order_cmp o t.0 m ≡ Less
below_in o m [] t rest h = less_of _ (first _ _ h)
below_in o m (d ∷ ds) t rest h = below_in o m ds t rest (second _ _ h)

-- a term below all before it has no number there yet
nothing_yet : (o : Order) (ds : Terms) (t : Summand) (rest : Terms) → T (is_sorted (back o) (ds ++ t ∷ rest)) → at t.0 ds ≡ whole (pos 0)
unfolding sum_at
nothing_yet o [] t rest h = refl
nothing_yet o (d ∷ ds) t rest h = at_skip t.0 d ds (eq_order program o t.0 d.0 Less (below_in o d.0 ds t rest (first _ _ h))) ∙ nothing_yet o ds t rest (second _ _ h)

abbrev step : Operator rationals → Summand → Rattle.std.specs.declared.result.Result.Result (Operator rationals) Rattle.ore_algebra.specs.Limits.Cause
step f t = add_term_within program f t.0 t.1

added_below : (o : Order) (ds : Terms) (t : Summand) (rest : Terms) → T (is_sorted (back o) (ds ++ t ∷ rest)) → IsInRange t → step (collect rationals plain_cmp ds) t ≡ Ok (collect rationals plain_cmp (ds ++ t ∷ []))
unfolding add_term_within
added_below o ds t rest h r =
    ap (λ x. sum_within program x t.1 >>= λ s. Ok (plus rationals plain_cmp (collect rationals plain_cmp ds) (single rationals plain_cmp t.0 t.1))) (Operators.coefficient-collect rationals ds t.0 ∙ nothing_yet o ds t rest h)
    ∙ ap (λ r. r >>= λ s. Ok (plus rationals plain_cmp (collect rationals plain_cmp ds) (single rationals plain_cmp t.0 t.1))) (zero_sum t.1 r.0 r.1)
    ∙ ap Ok (sym (collect_snoc ds t))

falling_from : (o : Order) (ds ts : Terms) → T (is_sorted (back o) (ds ++ ts)) → AreInRange ts → fold_within step (collect rationals plain_cmp ds) ts ≡ Ok (collect rationals plain_cmp (ds ++ ts))
falling_from o ds [] h r = ap (λ us. Ok (collect rationals plain_cmp us)) (sym (Rattle.std.proofs.Common.append-nil ds))
falling_from o ds (t ∷ ts) h r =
    let e : (ds ++ t ∷ []) ++ ts ≡ ds ++ t ∷ ts = append_assoc ds (t ∷ []) ts in
    ap (λ q. q >>= λ f. fold_within step f ts) (added_below o ds t ts h r.0)
    ∙ falling_from o (ds ++ t ∷ []) ts (subst (λ us. T (is_sorted (back o) us)) (sym e) h) r.1
    ∙ ap (λ us. Ok (collect rationals plain_cmp us)) e

pub falling_sum : (o : Order) (ts : Terms) → IsFalling o ts → AreInRange ts → add_terms_within program (empty_sum rationals plain_cmp) ts ≡ Ok (collect rationals plain_cmp ts)
unfolding add_terms_within empty_sum
falling_sum o ts h r = falling_from o [] ts h.falls r

-- ---- one more term

pub below_last : (o : Order) (ts : Terms) (k : ℕ) (m : Monomial) (t : Summand) → k + 1 ≡ length ts → t ≡ get_or ts k t → order_cmp o m t.0 ≡ Less → IsBelowLast o ts m
below_last o [] k m t h e b = tt
below_last o (u ∷ []) zero m t h e b = ap (λ v. order_cmp o m v.0) (sym e) ∙ b
below_last o (u ∷ []) (suc k) m t h e b = absurd (omega (arith, h))
below_last o (u ∷ v ∷ us) zero m t h e b = absurd (omega (arith, h))
below_last o (u ∷ v ∷ us) (suc k) m t h e b = below_last o (v ∷ us) k m t (omega (arith, h)) e b

pub range_snoc : (ts : Terms) (t : Summand) → AreInRange ts → IsInRange t → AreInRange (ts ++ t ∷ [])
range_snoc [] t h r = (r, tt)
range_snoc (u ∷ ts) t h r = (h.0, range_snoc ts t h.1 r)
