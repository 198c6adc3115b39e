-- A sum of operators, from the walk over their terms.
--     sum_ok, sum_stops                what the walk gives is the sum; where it stops the sum does
--     opposite_value, opposite_falls   negated terms are those of the opposite, and fall
--     plus_ok, plus_stops              of two operators by their falling terms; minus_ok, minus_stops alike
--     plus_belongs, minus_belongs      sums and differences of operators of a signature are of the signature
use Rattle.std.proofs.Common.{◌≡◌, ◌≢◌, ◌&&◌, T, [], ◌∷◌, map, pos, refl, sym, ap, ◌∙◌, subst}
use Rattle.std.specs.declared.result.Result.TheVariants.{Ok, Err}
use Rattle.std.specs.Ordering.{is_lt}
use Rattle.std.specs.FinMap.{is_sorted}
use Rattle.std.specs.FinMap.Entries.{below_all}
use Rattle.ore_algebra.specs.Limits.{Cause, program}
use Rattle.ore_algebra.proofs.DomainLaws as Numbers
use Rattle.ore_rational.specs.Fraction.{Fraction, whole, neg, mul}
use Rattle.ore_rational.specs.Field.{rationals}
use Rattle.ore_rational.specs.FractionRing.{whole-neg}
use Rattle.ore_monomial.specs.Monomial.{Monomial}
use Rattle.ore_monomial.specs.declared.order.Order.{Order}
use Rattle.ore_monomial.specs.Signature.{Signature}
use Rattle.ore_monomial.specs.LetterRule.{Operator}
use Rattle.ore_monomial.proofs.Operators
use Rattle.ore_ring.specs.Terms.{Terms, falling, IsFalling}
use Rattle.ore_monomial.specs.Numbers.{back, AreNonZero}
use Rattle.ore_ring.specs.Ordered.{Ordered}
use Rattle.ore_ring.specs.Belongs.{Belongs, OperatorOf}
use Rattle.ore_ring.specs.Within.{plus_within, minus_within, opposite}
use Rattle.ore_ring.specs.Merge.{merge_within, opposite_terms}
use Rattle.ore_ring.proofs.TermLaws.{collect-falling, C}
use Rattle.ore_ring.proofs.Belonging.{of_plus, of_scale}
use Rattle.ore_ring.proofs.WithinLaws.{plus_value}
use Rattle.ore_ring.proofs.MergeIs.{merge_ok, merge_stops}

module _ (o : Order) (f g : Operator rationals) (ts us : Terms) (te : C ts ≡ f) (ue : C us ≡ g) (h : IsFalling o ts) (k : IsFalling o us) where
  pub sum_ok : (rs : Terms) → merge_within program o ts us ≡ Ok rs → IsFalling o rs × (plus_within program f g ≡ Ok (C rs))
  sum_ok rs e =
      let m = merge_ok program o ts us rs h k e in
      (m.0, (λ i. plus_within program (sym te i) (sym ue i)) ∙ m.1)

  pub sum_stops : (c : Cause) → merge_within program o ts us ≡ Err c → plus_within program f g ≡ Err c
  sum_stops c e = (λ i. plus_within program (sym te i) (sym ue i)) ∙ merge_stops program o ts us c h k e

-- ---- opposites

pub minus_one_times : (x : Fraction) → mul (neg (whole (pos 1))) x ≡ neg x
minus_one_times x = Numbers.minus_times rationals (whole (pos 1)) x ∙ ap neg (Numbers.one_times rationals x)

pub opposite_value : (ts : Terms) → C (opposite_terms ts) ≡ opposite (C ts)
unfolding opposite
opposite_value ts = ap C (over ts) ∙ Operators.collect-scaled rationals (neg (whole (pos 1))) ts
  where
    over : (ts : Terms) → opposite_terms ts ≡ map (λ t. (t.0, mul (neg (whole (pos 1))) t.1)) ts
    over [] = refl
    over (t ∷ ts) = λ i. (t.0, sym (minus_one_times t.1) i) ∷ over ts i

neg_apart : (x : Fraction) → x ≢ whole (pos 0) → neg x ≢ whole (pos 0)
neg_apart x n e = n (sym (Numbers.minus_minus rationals x) ∙ ap neg e ∙ sym (whole-neg (pos 0)))

apart-opposite : (ts : Terms) → AreNonZero rationals ts → AreNonZero rationals (opposite_terms ts)
apart-opposite [] a = tt
apart-opposite (t ∷ ts) a = (neg_apart t.1 a.0, apart-opposite ts a.1)

below-opposite : (o : Order) (m : Monomial) (ts : Terms) → below_all (back o) m (opposite_terms ts) ≡ below_all (back o) m ts
below-opposite o m [] = refl
below-opposite o m (t ∷ ts) = ap (λ b. is_lt (back o m t.0) && b) (below-opposite o m ts)

sorted-opposite : (o : Order) (ts : Terms) → is_sorted (back o) (opposite_terms ts) ≡ is_sorted (back o) ts
sorted-opposite o [] = refl
sorted-opposite o (t ∷ ts) = λ i. below-opposite o t.0 ts i && sorted-opposite o ts i

pub opposite_falls : (o : Order) (ts : Terms) → IsFalling o ts → IsFalling o (opposite_terms ts)
opposite_falls o ts h = record { falls = subst T (sym (sorted-opposite o ts)) h.falls; apart = apart-opposite ts h.apart }

-- ---- operators by their falling terms

module _ (v w : Ordered) (o : Order) (oe : o ≡ v.by) (same : v.by ≡ w.by) (ts us : Terms) (te : ts ≡ falling v.by v.sum) (ue : us ≡ falling w.by w.sum) (h : IsFalling v.by ts) (k : IsFalling w.by us) where
  left_is : C ts ≡ v.sum
  left_is = ap C te ∙ collect-falling v.by v.sum

  right_is : C us ≡ w.sum
  right_is = ap C ue ∙ collect-falling w.by w.sum

  right_falls : IsFalling v.by us
  right_falls = subst (λ p. IsFalling p us) (sym same) k

  pub plus_ok : (rs : Terms) → merge_within program o ts us ≡ Ok rs → IsFalling v.by rs × (plus_within program v.sum w.sum ≡ Ok (C rs))
  plus_ok rs e = sum_ok v.by v.sum w.sum ts us left_is right_is h right_falls rs (ap (λ p. merge_within program p ts us) (sym oe) ∙ e)

  pub plus_stops : (c : Cause) → merge_within program o ts us ≡ Err c → plus_within program v.sum w.sum ≡ Err c
  plus_stops c e = sum_stops v.by v.sum w.sum ts us left_is right_is h right_falls c (ap (λ p. merge_within program p ts us) (sym oe) ∙ e)

  module _ (vs : Terms) (ve : vs ≡ opposite_terms us) where
    opposite_is : C vs ≡ opposite w.sum
    opposite_is = ap C ve ∙ opposite_value us ∙ ap opposite right_is

    opposite_fall : IsFalling v.by vs
    opposite_fall = subst (IsFalling v.by) (sym ve) (opposite_falls v.by us right_falls)

    pub minus_ok : (rs : Terms) → merge_within program o ts vs ≡ Ok rs → IsFalling v.by rs × (minus_within program v.sum w.sum ≡ Ok (C rs))
    minus_ok rs e = sum_ok v.by v.sum (opposite w.sum) ts vs left_is opposite_is h opposite_fall rs (ap (λ p. merge_within program p ts vs) (sym oe) ∙ e)

    pub minus_stops : (c : Cause) → merge_within program o ts vs ≡ Err c → minus_within program v.sum w.sum ≡ Err c
    minus_stops c e = sum_stops v.by v.sum (opposite w.sum) ts vs left_is opposite_is h opposite_fall c (ap (λ p. merge_within program p ts vs) (sym oe) ∙ e)

-- ---- sums are of the signature

pub plus_belongs : (s : Signature) (v w x : Ordered) → Belongs s v → Belongs s w → x.by ≡ v.by → plus_within program v.sum w.sum ≡ Ok x.sum → Belongs s x
plus_belongs s v w x a b o e = record { order = o ∙ a.order; variables = subst (OperatorOf rationals s) (sym (plus_value program v.sum w.sum x.sum e)) (of_plus rationals s v.sum w.sum a.variables b.variables) }

pub minus_belongs : (s : Signature) (v w x : Ordered) → Belongs s v → Belongs s w → x.by ≡ v.by → minus_within program v.sum w.sum ≡ Ok x.sum → Belongs s x
unfolding opposite
minus_belongs s v w x a b o e = record { order = o ∙ a.order; variables = subst (OperatorOf rationals s) (sym (plus_value program v.sum (opposite w.sum) x.sum e)) (of_plus rationals s v.sum (opposite w.sum) a.variables (of_scale rationals s (neg (whole (pos 1))) w.sum b.variables)) }
