-- The code on pairs, beside the definitions of a run.
--     lead_of_row                  the lead of a row of a basis of a signature is of the signature
--     s_row_read                   the S-row of two rows that are read at the places of a pair
--     s_rows_degree, s_rows_first, s_rows_second, s_rows_give     where the S-row with its cofactor row stops, and what
--                                  it gives
--     passes_not                   the degree of a common multiple is past the limits of the program
--     found_listed, added_listed   the set finds the pairs of its list, and one more that was added
--     none_ordered, one_ordered    the pairs stay ordered where none are listed, and with one more
--     either_first, either_second  a pair of ordered ones is listed in the order of its places
--     one_more_exponent, divides_to_twelve     dividing, exponent by exponent
--     lead_read                    the lead that is read at a place
use Rattle.std.proofs.Common.{◌≡◌, ◌⊎◌, ⊎_elim, ℕ, ◌+◌, ◌<◌, ◌≤◌, Bool, true, false, List, [], ◌∷◌, refl, sym, ap, ◌∙◌, subst, true≢false, arith}
use Rattle.std.specs.Prelude.{◌&&◌, ◌||◌, nat_eq, nat_le, cond}
use Rattle.std.specs.List.{slice_get, list_any}
use Rattle.std.specs.declared.option.Option.TheVariants.{Some}
use Rattle.std.specs.declared.result.Result.{Result}
use Rattle.std.specs.declared.result.Result.TheVariants.{Ok, Err}
use Rattle.std.proofs.lemmas.Bool.Decides.{nat_tests}
use Rattle.std.proofs.lemmas.Option.{get_or_from_slice_get}
use Rattle.ore_algebra.specs.Domain.{Domain}
use Rattle.ore_algebra.specs.Limits.{Cause, Degree, ◌>>=◌, guard}
use Rattle.ore_rational.specs.Field.{rationals}
use Rattle.ore_monomial.specs.LetterRule.{Operator}
use Rattle.ore_monomial.specs.Monomial.{Monomial, Divides, exponent, degree}
use Rattle.ore_monomial.specs.Signature.{Signature, MonomialOf}
use Rattle.ore_monomial.specs.Term.{Term}
use Rattle.ore_monomial.proofs.Monomials.{exponent_past}
use Rattle.ore_ring.specs.Ordered.{Ordered}
use Rattle.ore_rows.specs.Arithmetic.{Arithmetic}
use Rattle.ore_rows.specs.Reduction as reduction
use Rattle.ore_rows.specs.Reduction.{BasisRow, ReductionState, basis_rows, cofactors_of, leads_of, origin}
use Rattle.ore_rows.specs.Rows.{Row}
use Rattle.ore_rows.specs.Stored.{sums_of}
use Rattle.ore_rows.specs.StoredBasis.{StoredBasis, HasLead, BasisBelongs}
use Rattle.ore_rows.proofs.BasisParts.{row_belongs, lead_of_signature}
use Rattle.ore_rows.proofs.StoredBases.{is_monic}
use Rattle.ore_pairs.specs.Listed.{AreOrdered}
use Rattle.ore_pairs.specs.PairRule.{is_listed, either_listed, HaveSamePairs}
use Rattle.ore_pairs.specs.Run.{s_rows}
use Rattle.ore_pairs.proofs.PairRuleLaws.{listed_split}
use Rattle.ore_pairs.specs.Steps.{row_at, lead_at, lcm_of_leads, multiplier, multiples_less, s_row_within, common_fits}

-- ---- reading the basis

-- the lead of a row of the basis is of the signature of its entries
pub lead_of_row : (s : Signature) (b : StoredBasis) (leads : List Term) (k : ℕ) → leads ≡ leads_of b.items → BasisBelongs s b.items → (r : List Ordered) → slice_get (basis_rows b.items) k ≡ Some r → HasLead r (reduction.basis_lead b.items k) → MonomialOf s (lead_at leads k).monomial
lead_of_row s b leads k same belong r at lead =
    let of = row_belongs s b k r belong at in
    subst (λ (ts : List Term). MonomialOf s (lead_at ts k).monomial) (sym same) (lead_of_signature s r (reduction.basis_lead b.items k) rationals.one of (is_monic s r (reduction.basis_lead b.items k) of lead))

-- ---- the S-row of a pair

pub s_row_read : (A : Arithmetic rationals) (leads : List Term) (m : List (Row rationals)) (i j : ℕ) (c : Monomial) (f g : Operator rationals) (r q : List Ordered)
    → c ≡ (lcm_of_leads leads i j).monomial → f ≡ multiplier rationals leads c i → g ≡ multiplier rationals leads c j → row_at m i ≡ sums_of r → row_at m j ≡ sums_of q
    → multiples_less rationals A f (sums_of r) g (sums_of q) ≡ s_row_within rationals A leads m i j
unfolding s_row_within
s_row_read A leads m i j c f g r q same d e at_i at_j = λ n.
    multiples_less rationals A ((d ∙ ap (λ c. multiplier rationals leads c i) same) n) (sym at_i n) ((e ∙ ap (λ c. multiplier rationals leads c j) same) n) (sym at_j n)

module _ (K : Domain) (A : Arithmetic K) (basis : List (BasisRow (Row K))) (leads : List Term) (same : leads ≡ leads_of basis) (i j : ℕ) where
  abbrev parts : Result (Unit {0}) Cause → Result (Row K) Cause → Result (Row K) Cause → Result (ReductionState K) Cause
  parts fits row cofactor = fits >>= λ u. row >>= λ r. cofactor >>= λ q. Ok (record { row = r; cofactor = q; steps = [] })

  abbrev here : List (Row K) → Result (Row K) Cause
  here m = s_row_within K A leads m i j

  s_rows_by : (b : Bool) → A.degree_fits (degree (lcm_of_leads leads i j).monomial) ≡ b → s_rows K A basis i j ≡ parts (guard b tt Degree) (here (basis_rows basis)) (here (cofactors_of basis))
  unfolding s_rows
  s_rows_by b e =
      (λ n. parts (common_fits K A (lcm_of_leads (sym same n) i j)) (s_row_within K A (sym same n) (basis_rows basis) i j) (s_row_within K A (sym same n) (cofactors_of basis) i j))
      ∙ (λ n. parts (guard (e n) tt Degree) (here (basis_rows basis)) (here (cofactors_of basis)))

  pub s_rows_degree : A.degree_fits (degree (lcm_of_leads leads i j).monomial) ≡ false → s_rows K A basis i j ≡ Err Degree
  s_rows_degree d = s_rows_by false d

  module _ (fits : A.degree_fits (degree (lcm_of_leads leads i j).monomial) ≡ true) where
    pub s_rows_first : (c : Cause) → here (basis_rows basis) ≡ Err c → s_rows K A basis i j ≡ Err c
    s_rows_first c e = s_rows_by true fits ∙ (λ n. parts (Ok tt) (e n) (here (cofactors_of basis)))

    pub s_rows_second : (r : Row K) (c : Cause) → here (basis_rows basis) ≡ Ok r → here (cofactors_of basis) ≡ Err c → s_rows K A basis i j ≡ Err c
    s_rows_second r c e f = s_rows_by true fits ∙ (λ n. parts (Ok tt) (e n) (f n))

    pub s_rows_give : (r q : Row K) → here (basis_rows basis) ≡ Ok r → here (cofactors_of basis) ≡ Ok q → s_rows K A basis i j ≡ Ok (record { row = r; cofactor = q; steps = [] })
    s_rows_give r q e f = s_rows_by true fits ∙ (λ n. parts (Ok tt) (e n) (f n))

-- ---- the limits of the program

pub passes_not : (d : ℕ) → ¬ (d ≤ 32767) → nat_le d 32767 ≡ false
passes_not d h = grind (arith, nat_tests)

-- ---- the list of pairs

pub found_listed : (i j : ℕ) (ks : List (ℕ × ℕ)) → list_any (λ k. nat_eq i k.0 && nat_eq j k.1) ks ≡ is_listed i j ks
unfolding is_listed
found_listed i j [] = refl
found_listed i j (k ∷ ks) = λ n. (nat_eq i k.0 && nat_eq j k.1) || found_listed i j ks n

equal_turned : (i x : ℕ) → nat_eq i x ≡ nat_eq x i
equal_turned i x = grind (arith, nat_tests)

pub added_listed : (i j : ℕ) (before after : List (ℕ × ℕ)) → ((q : ℕ × ℕ) → list_any (λ k. nat_eq q.0 k.0 && nat_eq q.1 k.1) after ≡ cond (nat_eq i q.0 && nat_eq j q.1) true (list_any (λ k. nat_eq q.0 k.0 && nat_eq q.1 k.1) before))
    → HaveSamePairs after ((i, j) ∷ before)
unfolding is_listed
added_listed i j before after h x y =
    sym (found_listed x y after)
    ∙ h (x, y)
    ∙ (λ n. cond (equal_turned i x n && equal_turned j y n) true (found_listed x y before n))
    ∙ or_by_cases (nat_eq x i && nat_eq y j) (is_listed x y before)
  where
    or_by_cases : (b c : Bool) → cond b true c ≡ (b || c)
    or_by_cases true c = refl
    or_by_cases false c = refl

-- ---- ordered pairs

pub none_ordered : AreOrdered []
unfolding is_listed
none_ordered i j h = absurd (true≢false (sym h))

pub one_ordered : (i j : ℕ) (before after : List (ℕ × ℕ)) → i < j → HaveSamePairs after ((i, j) ∷ before) → AreOrdered before → AreOrdered after
one_ordered i j before after l same ordered x y h = ⊎_elim (λ e. subst (λ n. n < y) e.0 (subst (λ n. i < n) e.1 l)) (ordered x y) (listed_split x y (i, j) before (sym (same x y) ∙ h))

module _ (ps : List (ℕ × ℕ)) (ordered : AreOrdered ps) (i j : ℕ) where
  not_listed : (x y : ℕ) → ¬ (x < y) → is_listed x y ps ≡ false
  not_listed x y n = by (is_listed x y ps) (ordered x y)
    where
      by : (b : Bool) → (b ≡ true → x < y) → b ≡ false
      by true h = absurd (n (h refl))
      by false h = refl

  or_false : (b : Bool) → b ≡ (b || false)
  or_false true = refl
  or_false false = refl

  pub either_first : i < j → is_listed i j ps ≡ either_listed i j ps
  either_first l = or_false (is_listed i j ps) ∙ ap (λ b. is_listed i j ps || b) (sym (not_listed j i (omega (arith, l))))

  pub either_second : j ≤ i → is_listed j i ps ≡ either_listed i j ps
  either_second l = ap (λ b. b || is_listed j i ps) (sym (not_listed i j (omega (arith, l))))

-- ---- dividing, exponent by exponent

pub one_more_exponent : (m n : Monomial) (k : ℕ) → ((x : ℕ) → x < k → exponent m x ≤ exponent n x) → exponent m k ≤ exponent n k → (x : ℕ) → x < k + 1 → exponent m x ≤ exponent n x
one_more_exponent m n k h e x l = ⊎_elim (h x) (λ q. subst (λ y. exponent m y ≤ exponent n y) (sym q) e) (split l)
  where
    split : x < k + 1 → (x < k) ⊎ (x ≡ k)
    split l = grind arith

pub divides_to_twelve : (m n : Monomial) (k : ℕ) → 12 ≤ k → ((x : ℕ) → x < k → exponent m x ≤ exponent n x) → Divides m n
divides_to_twelve m n k l h x = ⊎_elim (h x) past (split x k)
  where
    past : k ≤ x → exponent m x ≤ exponent n x
    past g = let e = exponent_past x m (omega arith) in omega arith

    split : (x k : ℕ) → (x < k) ⊎ (k ≤ x)
    split x k = grind arith

-- the lead that is read at a place
pub lead_read : (leads : List Term) (k : ℕ) (t : Term) → slice_get leads k ≡ Some t → t ≡ lead_at leads k
lead_read leads k t e = sym (get_or_from_slice_get leads k t origin e)
