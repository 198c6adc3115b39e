-- A term added to gathered terms, and the operator that they make.
--     seen                      what a contract sees of an order and terms
--     op_add_ok, op_add_stops   a term is added, or its sum stops
--     gathered_none             no terms
--     drain_next                the greatest term is taken out
--     drained_out, drained_is   what is taken out falls, and makes the operator
use Rattle.std.proofs.Common.{◌≡◌, ◌<◌, length, arith, true≢false, ℕ, Bool, true, false, T, List, [], ◌∷◌, ◌++◌, refl, sym, ap, ◌∙◌, subst, nat_cmp, append-nil, append_assoc}
use Rattle.std.proofs.lemmas.List.{map_push}
use Rattle.ore_ring.specs.Merge.{kept}
use Rattle.ore_monomial.specs.declared.order.Order.TheVariants.{DegLex}
use Rattle.std.specs.declared.result.Result.TheVariants.{Ok, Err}
use Rattle.std.specs.Cmp.Lexicographic.{slice_cmp}
use Rattle.std.specs.Map.{lookup}
use Rattle.std.specs.BTreeMap.{insert_entry, is_at}
use Rattle.std.specs.FinMap.{is_sorted}
use Rattle.std.specs.FinMap.Entries.{put}
use Rattle.ore_rational.specs.Fraction.{Fraction, add}
use Rattle.ore_algebra.specs.Free.{collect, coefficient, single, plus}
use Rattle.ore_monomial.specs.Monomial.{Monomial, order_cmp, plain_cmp}
use Rattle.ore_monomial.specs.declared.order.Order.{Order}
use Rattle.ore_monomial.specs.Monomial.{rank}
use Rattle.ore_monomial.proofs.Operators
use Rattle.ore_rational.specs.Field.{rationals}
use Rattle.ore_algebra.specs.Limits.{Limits, Cause, Overflow, program, ◌>>=◌, guard}
use Rattle.ore_rational.specs.Within.{sum_fits, sum_within}
use Rattle.ore_ring.specs.Terms.{Summand, Terms, IsFalling}
use Rattle.ore_ring.specs.Within.{add_term_within}
use Rattle.ore_ring.specs.Gathered.{keyed, drained}
use Rattle.ore_ring.proofs.Gathered.{lookup_is, insert_is, put_value, put_sorted, terms_again, drained_falls, drained_value, drained-snoc}
use Rattle.ore_ring.specs.Ordered.{Ordered}
use Rattle.ore_ring.specs.IsGathered.{IsGathered, keyed_terms, number_of}

abbrev pub seen : Order → Terms → Ordered
seen o ts = record { by = o; sum = collect rationals plain_cmp ts }

pub sum_value : (l : Limits) (p q s : Fraction) → sum_within l p q ≡ Ok s → s ≡ add p q
unfolding sum_within
sum_value l p q s e = by (sum_fits l p q) e
  where
    by : (b : Bool) → guard b (add p q) Overflow ≡ Ok s → s ≡ add p q
    by true f = cc
    by false f = cc

module _ (o : Order) (es : List (List ℕ × Summand)) (m : Monomial) (c old : Fraction) (key : List ℕ) (v : Ordered)
    (vs : seen o (keyed_terms es) ≡ v) (h : IsGathered o es) (k : key ≡ rank o m) (f : old ≡ number_of (lookup (is_at (slice_cmp nat_cmp key)) es)) where
  ts : Terms
  ts = keyed_terms es

  old_is : old ≡ coefficient rationals plain_cmp v.sum m
  old_is =
      f ∙ (λ i. number_of (lookup (is_at (slice_cmp nat_cmp (k i))) (h.keys i)))
      ∙ lookup_is o m (keyed_terms es) h.rises
      ∙ sym (Operators.coefficient-collect rationals (keyed_terms es) m)
      ∙ ap (λ w. coefficient rationals plain_cmp w.sum m) vs

  pub op_add_stops : (e : Cause) → sum_within program old c ≡ Err e → add_term_within program v.sum m c ≡ Err e
  unfolding add_term_within
  op_add_stops e g = ap (λ r. r >>= λ s. Ok (plus rationals plain_cmp v.sum (single rationals plain_cmp m c))) (ap (λ x. sum_within program x c) (sym old_is) ∙ g)

  put_entries : (s : Fraction) (fs : List (List ℕ × Summand)) → fs ≡ insert_entry (slice_cmp nat_cmp) es key (m, s) → fs ≡ keyed o (put (order_cmp o) m s (keyed_terms es))
  put_entries s fs e = e ∙ (λ i. insert_entry (slice_cmp nat_cmp) (h.keys i) (k i) (m, s)) ∙ insert_is o m s (keyed_terms es)

  put_terms : (s : Fraction) (fs : List (List ℕ × Summand)) → fs ≡ insert_entry (slice_cmp nat_cmp) es key (m, s) → keyed_terms fs ≡ put (order_cmp o) m s (keyed_terms es)
  put_terms s fs e = ap keyed_terms (put_entries s fs e) ∙ terms_again o _

  pub op_add_ok : (s : Fraction) (fs : List (List ℕ × Summand)) → sum_within program old c ≡ Ok s → fs ≡ insert_entry (slice_cmp nat_cmp) es key (m, s) → IsGathered o fs × (add_term_within program v.sum m c ≡ Ok (collect rationals plain_cmp (keyed_terms fs)))
  unfolding add_term_within
  op_add_ok s fs g e =
      let made = put_terms s fs e in
      let value = put_value o m s c (keyed_terms es) h.rises (sum_value program old c s g ∙ ap (λ x. add x c) (f ∙ (λ i. number_of (lookup (is_at (slice_cmp nat_cmp (k i))) (h.keys i))) ∙ lookup_is o m (keyed_terms es) h.rises)) in (
        record {
          keys = put_entries s fs e ∙ ap (keyed o) (sym made);
          rises = subst (λ us. T (is_sorted (order_cmp o) us)) (sym made) (put_sorted o m s (keyed_terms es) h.rises);
        },
        ap (λ r. r >>= λ s. Ok (plus rationals plain_cmp v.sum (single rationals plain_cmp m c))) (ap (λ x. sum_within program x c) (sym old_is) ∙ g)
            ∙ ap (λ w. Ok (plus rationals plain_cmp w.sum (single rationals plain_cmp m c))) (sym vs)
            ∙ ap Ok (sym (ap (collect rationals plain_cmp) made ∙ value)),
      )

pub gathered_none : (o : Order) → IsGathered o []
gathered_none o = record { keys = refl; rises = tt }

-- the last entry is drained
pub drain_next : (out : Terms) (es fs : List (List ℕ × Summand)) (e : List ℕ × Summand) → es ≡ fs ++ e ∷ [] → out ++ drained (keyed_terms es) ≡ (out ++ kept e.1.0 e.1.1 []) ++ drained (keyed_terms fs)
drain_next out es fs e h =
    ap (λ us. out ++ drained (keyed_terms us)) h ∙ ap (λ us. out ++ drained us) (map_push (λ d. d.1) fs e)
    ∙ ap (λ us. out ++ us) (drained-snoc DegLex (keyed_terms fs) e.1) ∙ sym (append_assoc out (kept e.1.0 e.1.1 []) (drained (keyed_terms fs)))

-- what is drained in the end
module _ (o : Order) (es : List (List ℕ × Summand)) (out : Terms) (fs : List (List ℕ × Summand)) (v : Ordered) (vs : seen o (keyed_terms es) ≡ v) (h : IsGathered o es) (w : out ++ drained (keyed_terms fs) ≡ drained (keyed_terms es)) (n : fs ≡ []) where
  all_out : out ≡ drained (keyed_terms es)
  all_out = sym (append-nil out) ∙ ap (λ us. out ++ drained (keyed_terms us)) (sym n) ∙ w

  pub drained_out : IsFalling o out
  drained_out = subst (IsFalling o) (sym all_out) (drained_falls o (keyed_terms es) h.rises)

  pub drained_is : seen o out ≡ v
  drained_is = ap (λ f. record { by = o; sum = f }) (ap (collect rationals plain_cmp) all_out ∙ drained_value o (keyed_terms es)) ∙ vs

pub empty_of : {A : Type 0} (es : List A) → (0 < length es → ◌≡◌ {A = Bool} false true) → es ≡ []
empty_of [] h = refl
empty_of (e ∷ es) h = absurd (true≢false (sym (h (omega arith))))
