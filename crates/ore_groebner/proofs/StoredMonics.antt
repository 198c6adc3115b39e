-- Rows that are made monic.
--     fits_inverse          the inverse of a fraction in the range is in the range
--     inverse_is            the inverse that the definition of a run takes
--     made_first, made_second, made_gives      where making a row monic stops, and what it gives
--     lead_is_one           the lead coefficient of what is made is 1
--     same_lead             a row has one lead
--     monics_pushed, pushed_gives     one more basis row
use Rattle.std.proofs.Common.{◌≡◌, ◌≢◌, ℕ, ◌<◌, ◌^◌, true, List, [], ◌∷◌, ◌++◌, ℤ, pos, negsuc, ◌<ℤ◌, ◌≤ℤ◌, nat_abs, refl, sym, ap, ◌∙◌, subst, arith}
use Rattle.std.specs.Prelude.{◌&&◌, nat_le, IsTrue}
use Rattle.std.specs.declared.result.Result.{Result}
use Rattle.std.specs.declared.result.Result.TheVariants.{Ok, Err}
use Rattle.std.proofs.lemmas.Bool.Decides.{nat_tests}
use Rattle.std.proofs.lemmas.Int.{ints}
use Rattle.std.proofs.lemmas.List.{map-append}
use Rattle.ore_algebra.specs.Free.{single}
use Rattle.ore_algebra.specs.Limits.{Cause, program, ◌>>=◌}
use Rattle.ore_algebra.proofs.DomainLaws
use Rattle.ore_rational.specs.Fraction.{Fraction, whole, inverse, div, abs-neg}
use Rattle.ore_rational.specs.Range.{InRange}
use Rattle.ore_rational.specs.Within.{fits}
use Rattle.ore_rational.specs.Field.{rationals, rational_inverses}
use Rattle.ore_rational.specs.FractionRing.{mul-inverse}
use Rattle.ore_rational.proofs.Reciprocals.{inverse_negative, inverse_positive}
use Rattle.ore_monomial.specs.LetterRule.{Operator, constant}
use Rattle.ore_monomial.specs.Monomial.{unit, plain_cmp}
use Rattle.ore_monomial.specs.Signature.{Signature}
use Rattle.ore_monomial.specs.Term.{Term, shift}
use Rattle.ore_monomial.proofs.Monomials.{product-unit}
use Rattle.ore_monomial.proofs.Signatures.{lawful}
use Rattle.ore_ring.specs.Ordered.{Ordered}
use Rattle.ore_rows.specs.Arithmetic.{within, scaled}
use Rattle.ore_rows.specs.Reduction.{BasisRow}
use Rattle.ore_rows.specs.RowLead.{IsRowLead, coefficient_at}
use Rattle.ore_rows.specs.Rows.{Row, row_scale}
use Rattle.ore_pairs.specs.Run.{inverse_of, monic_multiple}
use Rattle.ore_rows.specs.StoredBasis.{StoredBasis, monic_of, monics}
use Rattle.ore_rows.proofs.RowLeads.{one_row_lead, lead-row_scale_term}
use Rattle.ore_rows.proofs.WithinValues.{scale_value}
use Rattle.ore_groebner.specs.RunProgress.{monic_with, basis_with}

-- ---- the inverse

small : (n : ℕ) → n < 2 ^ 127 → nat_le n 170141183460469231731687303715884105727 ≡ true
small n h = grind (arith, nat_tests)

fits_small : (q : Fraction) → nat_abs q.num < 2 ^ 127 → q.den < 2 ^ 127 → fits program q ≡ true
unfolding fits
fits_small q h k = λ i. small (nat_abs q.num) h i && small q.den k i

pub fits_inverse : (p : Fraction) → p ≢ whole (pos 0) → InRange p.num → InRange (pos p.den) → IsTrue (fits program (div (whole (pos 1)) p))
fits_inverse p n h k = subst (λ q. fits program q ≡ true) (sym (DomainLaws.one_times rationals (inverse p))) (by p.num refl)
  where
    negative : p.num <ℤ pos 0 → fits program (inverse p) ≡ true
    negative l =
        let e = inverse_negative p l in
        fits_small (inverse p) (subst (λ m. m < 2 ^ 127) (sym (ap nat_abs e.0 ∙ abs-neg (pos p.den))) k) (subst (λ m. m < 2 ^ 127) (sym (ap nat_abs e.1 ∙ abs-neg p.num)) h)

    positive : pos 0 ≤ℤ p.num → fits program (inverse p) ≡ true
    positive l =
        let e = inverse_positive p n l in
        fits_small (inverse p) (subst (λ m. m < 2 ^ 127) (sym (ap nat_abs e.0)) k) (subst (λ m. m < 2 ^ 127) (sym (ap nat_abs e.1)) h)

    by : (z : ℤ) → p.num ≡ z → fits program (inverse p) ≡ true
    by (pos m) e = positive (subst (λ z. pos 0 ≤ℤ z) (sym e) (above m))
      where
        above : (m : ℕ) → pos 0 ≤ℤ pos m
        above m = omega (arith, ints)
    by (negsuc m) e = negative (subst (λ z. z <ℤ pos 0) (sym e) (below m))
      where
        below : (m : ℕ) → negsuc m <ℤ pos 0
        below m = omega (arith, ints)

pub inverse_is : (k : Fraction) → k ≢ whole (pos 0) → inverse_of rationals rational_inverses k ≡ inverse k
unfolding inverse_of
inverse_is k n = by (rationals.discrete k rationals.zero)
  where
    by : (d : Dec (k ≡ rationals.zero)) → elim d [ yes e ↦ rationals.zero | no m ↦ inverse k ] ≡ inverse k
    by (yes e) = absurd (n e)
    by (no m) = refl

-- ---- a row that is made monic

module _ (s : Signature) (row cofactor : Row rationals) (t : Term) (k : Fraction) (lead : IsRowLead rationals s.order row t k) (f : Operator rationals) (factor : f ≡ single rationals plain_cmp unit (inverse k)) where
  same : f ≡ constant rationals (inverse_of rationals rational_inverses (coefficient_at rationals row t))
  same = factor ∙ ap (single rationals plain_cmp unit) (sym (inverse_is k lead.apart) ∙ ap (inverse_of rationals rational_inverses) (sym lead.stands))

  as_scaled : monic_multiple rationals rational_inverses (within program s) row cofactor t ≡ (scaled rationals (within program s) f row >>= λ r. scaled rationals (within program s) f cofactor >>= λ q. Ok (record { row = r; cofactor = q; lead = t }))
  unfolding monic_multiple
  as_scaled = λ i. scaled rationals (within program s) (sym same i) row >>= λ r. scaled rationals (within program s) (sym same i) cofactor >>= λ q. Ok (record { row = r; cofactor = q; lead = t })

  pub made_first : (c : Cause) → scaled rationals (within program s) f row ≡ Err c → monic_multiple rationals rational_inverses (within program s) row cofactor t ≡ Err c
  made_first c e = as_scaled ∙ (λ i. e i >>= λ r. scaled rationals (within program s) f cofactor >>= λ q. Ok (record { row = r; cofactor = q; lead = t }))

  pub made_second : (r : Row rationals) (c : Cause) → scaled rationals (within program s) f row ≡ Ok r → scaled rationals (within program s) f cofactor ≡ Err c → monic_multiple rationals rational_inverses (within program s) row cofactor t ≡ Err c
  made_second r c e h = as_scaled ∙ (λ i. e i >>= λ r. h i >>= λ q. Ok (record { row = r; cofactor = q; lead = t }))

  pub made_gives : (r q : Row rationals) → scaled rationals (within program s) f row ≡ Ok r → scaled rationals (within program s) f cofactor ≡ Ok q → monic_multiple rationals rational_inverses (within program s) row cofactor t ≡ Ok (record { row = r; cofactor = q; lead = t })
  made_gives r q e h = as_scaled ∙ (λ i. e i >>= λ r. h i >>= λ q. Ok (record { row = r; cofactor = q; lead = t }))

  pub lead_is_one : (r : Row rationals) → scaled rationals (within program s) f row ≡ Ok r → IsRowLead rationals s.order r t rationals.one
  lead_is_one r e = subst (λ x. IsRowLead rationals s.order r t x) product (subst (λ u. IsRowLead rationals s.order r u (rationals.times (inverse k) k)) here (subst (λ z. IsRowLead rationals s.order z (shift unit t) (rationals.times (inverse k) k)) (sym value) (lead-row_scale_term rationals s (lawful s) s.order unit (inverse k) row t k apart lead)))
    where
      value : r ≡ row_scale rationals s (single rationals plain_cmp unit (inverse k)) row
      value = scale_value program s f row r e ∙ ap (λ g. row_scale rationals s g row) factor

      here : shift unit t ≡ t
      here = λ i. record { monomial = product-unit t.monomial i; column = t.column }

      product : rationals.times (inverse k) k ≡ rationals.one
      product = rationals.times_comm (inverse k) k ∙ mul-inverse k lead.apart

      apart : inverse k ≢ rationals.zero
      apart z = rationals.one_apart (sym product ∙ ap (λ x. rationals.times x k) z ∙ DomainLaws.zero_times rationals k)

-- ---- one more basis row

pub same_lead : (s : Signature) (r : Row rationals) (t u : Term) → IsRowLead rationals s.order r t rationals.one → IsRowLead rationals s.order r u rationals.one → t ≡ u
same_lead s r t u h k = (one_row_lead rationals s.order r t u rationals.one rationals.one h k).0

module _ (s : Signature) (b c : StoredBasis) (r q : List Ordered) (u : Term) (grown : c ≡ record b { items = b.items ++ record { row = r; cofactor = q; lead = u } ∷ [] }) where
  pub monics_pushed : monics c ≡ monics b ++ monic_with u (r, q) ∷ []
  monics_pushed = ap monics grown ∙ map-append monic_of b.items (record { row = r; cofactor = q; lead = u } ∷ [])

  pub pushed_gives : (t : Term) (made : Result (BasisRow (Row rationals)) Cause) → u ≡ t → made ≡ Ok (monic_with t (r, q)) → basis_with (monics b) made ≡ Ok (monics c)
  pushed_gives t made e h = ap (basis_with (monics b)) h ∙ ap Ok (sym (monics_pushed ∙ ap (λ v. monics b ++ monic_with v (r, q) ∷ []) e))
