-- Blocks that are valid, and one that is not. D is any monomial of the signature, as an operator.
--     exact_valid, exact_follows         a block for the column 1, D and the row D, -1; so that row spans all that takes
--                                        the column to zeros
--     skip_lawful, skip_counted          a list for the column 1, D, E that skips the pair of D and E
--     outside_valid, outside_follows     a block for D and the row 1, where D is not 1; so 1 is no multiple of D
--     zeros_invalid                      no block shows that D, -1 spans all that takes two zeros to zero
--     longer_inexact                     the row 1, D has an entry too many to be exact for one zero
use Rattle.std.specs.Prelude.{◌&&◌}
use Rattle.std.proofs.Common.{◌≡◌, ◌≢◌, ⊎_elim, ℕ, zero, suc, ◌<◌, true, false, List, [], ◌∷◌, length, get_or, refl, sym, ap, ◌∙◌, subst, arith}
use Rattle.std.specs.Ordering.{is_gt}
use Rattle.std.specs.Cmp.{tied_itself}
use Rattle.std.specs.List.{AllByRecursion}
use Rattle.ore_algebra.specs.Domain.{Domain}
use Rattle.ore_algebra.specs.Free.{empty_sum, single, plus, scale, coefficient}
use Rattle.ore_monomial.specs.Monomial.{Monomial, unit, lcm, quotient, Divides, plain_cmp}
use Rattle.ore_monomial.specs.Term.{Term, term_cmp}
use Rattle.ore_monomial.specs.declared.order.Order.{Order}
use Rattle.ore_monomial.specs.Signature.{Signature, MonomialOf, IsLawful}
use Rattle.ore_monomial.specs.LetterRule.{Operator}
use Rattle.ore_monomial.proofs.Declared.{MonomialOf-unit}
use Rattle.ore_monomial.proofs.Monomials.{same_exponents, exponent-unit, exponent-lcm, exponent-quotient}
use Rattle.ore_monomial.proofs.TermOrder.{term_total}
use Rattle.ore_monomial.proofs.Operators
use Rattle.ore_ring.specs.Belongs.{OperatorOf}
use Rattle.ore_ring.specs.Product.{times}
use Rattle.ore_ring.proofs.Belonging.{of_none, of_single}
use Rattle.ore_ring.proofs.NoZeroDivisor.{no_zero_divisor}
use Rattle.ore_ring.proofs.Product.{times-linear_left, times-linear_right, one-times, times-one}
use Rattle.ore_leads.proofs.Dividing.{divides_term_true}
use Rattle.ore_rows.specs.Rows.{Row, RowOf, zero_row, unit_row, row_plus, row_minus, row_scale, combine, matrix_times, InRowModule, IsExact}
use Rattle.ore_rows.specs.RowLead.{coefficient_at, IsRowLead}
use Rattle.ore_rows.proofs.Differences.{number-times}
use Rattle.ore_pairs.specs.Steps.{row_at, lead_at, lcm_of_leads, AreLeads, remainder_after, s_row}
use Rattle.ore_pairs.specs.PairList.{DealtPair, Pair, Skip, AreLawful, pair_count, treated_count}
use Rattle.ore_pairs.specs.PairRule.{is_listed, may_treat, may_skip}
use Rattle.ore_pairs.specs.Blocks.{ExactBlock, OutsideBlock, IsBasis, IsValidExact, IsValidOutside, IsExactBlockOfSignature, IsOutsideBlockOfSignature}
use Rattle.ore_pairs.proofs.Tails.{only_monomial}
use Rattle.ore_pairs.proofs.Exact.{exact_block}
use Rattle.ore_pairs.proofs.Outside.{outside_block}

lcm-unit : (d : Monomial) → lcm unit d ≡ d
lcm-unit d = same_exponents _ _ (λ x l. let a = exponent-lcm unit d x in let b = exponent-unit x in omega arith)

quotient-unit : (d : Monomial) → quotient d unit ≡ d
quotient-unit d = same_exponents _ _ (λ x l. let a = exponent-quotient d unit x in let b = exponent-unit x in omega arith)

quotient-itself : (d : Monomial) → quotient d d ≡ unit
quotient-itself d = same_exponents _ _ (λ x l. let a = exponent-quotient d d x in let b = exponent-unit x in omega arith)

divides_unit : (d : Monomial) → Divides d unit → d ≡ unit
divides_unit d h = same_exponents _ _ (λ x l. let a = h x in let b = exponent-unit x in omega arith)

module _ (K : Domain) (s : Signature) (lawful : IsLawful s) (o : Order) (d : Monomial) (declared : MonomialOf s d) where
  abbrev one : Operator K
  one = single K plain_cmp unit K.one

  abbrev D : Operator K
  D = single K plain_cmp d K.one

  abbrev nil : Operator K
  nil = empty_sum K plain_cmp

  abbrev opposite : Operator K → Operator K
  opposite f = scale K plain_cmp (K.minus K.one) f

  abbrev minus_one : Operator K
  minus_one = single K plain_cmp unit (K.minus K.one)

  abbrev first_lead : Monomial → Term
  first_lead m = record { monomial = m; column = 0 }

  -- ---- leads of rows with one entry, which is one monomial

  lead_of_one : (m : Monomial) → IsRowLead K o (single K plain_cmp m K.one ∷ []) (first_lead m) K.one
  lead_of_one m = record { stands = Operators.coefficient-own K m K.one; apart = K.one_apart; greatest = λ u h. at u.column u.monomial h }
    where
      at : (j : ℕ) (q : Monomial) → coefficient_at K (single K plain_cmp m K.one ∷ []) (record { monomial = q; column = j }) ≢ K.zero → is_gt (term_cmp o (record { monomial = q; column = j }) (first_lead m)) ≡ false
      at zero q h = subst (λ q. is_gt (term_cmp o (first_lead q) (first_lead m)) ≡ false) (sym (only_monomial K m q K.one h)) (ap is_gt (tied_itself (term_total o) (first_lead m)))
      at (suc j) q h = absurd (h (Operators.coefficient-empty_sum K q))

  nil-times : (f : Operator K) → times K s nil f ≡ nil
  nil-times f = Operators.linear-empty_sum K (times-linear_left K s f)

  times-nil : (f : Operator K) → times K s f nil ≡ nil
  times-nil f = Operators.linear-empty_sum K (times-linear_right K s f)

  opposite-nil : opposite nil ≡ nil
  opposite-nil = Operators.scale-empty_sum K (K.minus K.one)

  opposite-one : opposite one ≡ minus_one
  opposite-one = Operators.scale-single K (K.minus K.one) K.one unit ∙ ap (single K plain_cmp unit) (K.times_one (K.minus K.one))

  minus_one-times : (f : Operator K) → times K s minus_one f ≡ opposite f
  minus_one-times f = number-times K s lawful (K.minus K.one) f

  -- ---- a valid exact block

  abbrev column : List (Row K)
  column = (one ∷ []) ∷ (D ∷ []) ∷ []

  abbrev relation : List (Row K)
  relation = (D ∷ minus_one ∷ []) ∷ []

  abbrev both : List (Row K)
  both = (one ∷ nil ∷ []) ∷ (nil ∷ one ∷ []) ∷ []

  abbrev block : ExactBlock K
  block = record { basis = column; from = both; to = both; entries = Pair 0 1 [] ∷ []; inside = (nil ∷ []) ∷ (nil ∷ []) ∷ (one ∷ []) ∷ [] }

  abbrev leads : List Term
  leads = first_lead unit ∷ first_lead d ∷ []

  leads_are : AreLeads K o column leads
  leads_are = record { long = refl; monic = at }
    where
      at : (i : ℕ) → i < 2 → IsRowLead K o (row_at column i) (lead_at leads i) K.one
      at zero h = lead_of_one unit
      at (suc zero) h = lead_of_one d
      at (suc (suc i)) h = absurd (omega arith)

  raised_first : (m : Monomial) → single K plain_cmp (quotient (lcm unit m) unit) K.one ≡ single K plain_cmp m K.one
  raised_first m = ap (λ q. single K plain_cmp q K.one) (ap (λ q. quotient q unit) (lcm-unit m) ∙ quotient-unit m)

  raised_second : (m : Monomial) → single K plain_cmp (quotient (lcm unit m) m) K.one ≡ one
  raised_second m = ap (λ q. single K plain_cmp q K.one) (ap (λ q. quotient q m) (lcm-unit m) ∙ quotient-itself m)

  basis_is : IsBasis K s o 1 column column both (Pair 0 1 [] ∷ []) leads
  unfolding combine row_plus row_minus row_scale zero_row matrix_times pair_count remainder_after s_row may_treat is_listed
  basis_is = record {
    long = (refl, (refl, tt));
    monic = leads_are;
    from_shape = (refl, (refl, (refl, tt)));
    from_is = simp (one-times K s lawful, nil-times, Operators.plus_zero K, Operators.zero-plus K);
    lawful = ((refl, record { low = tt; nothing = simp (raised_first, raised_second, one-times K s lawful, times-one K s lawful, Operators.plus_opposite K) }), tt);
    counted = refl;
  }

  exact_valid : IsValidExact K s o 1 column relation block
  unfolding combine row_plus row_minus row_scale zero_row matrix_times remainder_after s_row unit_row treated_count
  exact_valid = record {
    leads = leads;
    annihilates = (simp (times-one K s lawful, minus_one-times, Operators.plus_zero K, Operators.plus_opposite K), tt);
    is_basis = basis_is;
    to_shape = (refl, (refl, (refl, tt)));
    to_is = simp (one-times K s lawful, nil-times, Operators.plus_zero K, Operators.zero-plus K);
    inside_shape = (refl, (refl, (refl, (refl, tt))));
    first_inside = elim [
      | zero ↦ λ h. simp (one-times K s lawful, nil-times, opposite-nil, Operators.plus_zero K, Operators.plus_opposite K)
      | suc zero ↦ λ h. simp (one-times K s lawful, nil-times, opposite-nil, Operators.plus_zero K, Operators.zero-plus K, Operators.plus_opposite K)
      | suc (suc i) ↦ λ h. absurd (omega arith)
    ];
    later_inside = (simp (raised_first, raised_second, one-times K s lawful, times-one K s lawful, times-nil, opposite-nil, opposite-one, Operators.plus_zero K, Operators.zero-plus K), tt);
  }

  exact_of : IsExactBlockOfSignature K s block
  exact_of = record { basis = ((ou, tt), ((od, tt), tt)); from = units; to = units; entries = (tt, tt); inside = ((on, tt), ((on, tt), ((ou, tt), tt))) }
    where
      ou : OperatorOf K s one
      ou = of_single K s unit K.one (MonomialOf-unit s)

      od : OperatorOf K s D
      od = of_single K s d K.one declared

      on : OperatorOf K s nil
      on = of_none K s

      units : AllByRecursion (RowOf K s) both
      units = ((ou, (on, tt)), ((on, (ou, tt)), tt))

  exact_follows : IsExact K s 1 column relation
  exact_follows = exact_block K s lawful o 1 column relation block (refl, tt) exact_of exact_valid

  -- ---- a skipped pair

  abbrev three : Monomial → List (Row K)
  three e = (one ∷ []) ∷ (D ∷ []) ∷ (single K plain_cmp e K.one ∷ []) ∷ []

  abbrev three_leads : Monomial → List Term
  three_leads e = first_lead unit ∷ first_lead d ∷ first_lead e ∷ []

  abbrev three_entries : List (DealtPair K)
  three_entries = Pair 0 1 [] ∷ Pair 0 2 [] ∷ Skip 1 2 0 ∷ []

  skip_lawful : (e : Monomial) → AreLawful K s o 1 (three e) (three_leads e) [] three_entries
  unfolding remainder_after s_row row_minus row_plus row_scale zero_row may_treat may_skip is_listed
  skip_lawful e = (
    (refl, record { low = tt; nothing = simp (raised_first, raised_second, one-times K s lawful, times-one K s lawful, Operators.plus_opposite K) }),
    (
      (refl, record { low = tt; nothing = simp (raised_first, raised_second, one-times K s lawful, times-one K s lawful, Operators.plus_opposite K) }),
      (
        (
          refl,
          ap (λ b. b && true && true) ((divides_term_true (first_lead unit) (lcm_of_leads (three_leads e) 1 2)).1 (refl, λ x. let a = exponent-unit x in omega arith)),
        ),
        tt,
      ),
    ),
  )

  skip_counted : (e : Monomial) → length three_entries ≡ pair_count (three_leads e)
  unfolding pair_count
  skip_counted e = refl

  -- ---- a valid outside block

  abbrev multiple : List (Row K)
  multiple = (D ∷ []) ∷ []

  abbrev outside : OutsideBlock K
  outside = record { basis = multiple; from = (one ∷ []) ∷ []; entries = []; steps = []; rest = one ∷ [] }

  outside_valid : d ≢ unit → IsValidOutside K s o 1 multiple (one ∷ []) outside
  unfolding combine row_plus row_scale zero_row matrix_times pair_count remainder_after
  outside_valid h = record {
    leads = first_lead d ∷ [];
    is_basis = record {
      long = (refl, tt);
      monic = record { long = refl; monic = elim [ zero ↦ λ l. lead_of_one d | suc i ↦ λ l. absurd (omega arith) ] };
      from_shape = (refl, (refl, tt));
      from_is = simp (one-times K s lawful, Operators.plus_zero K);
      lawful = tt;
      counted = refl;
    };
    steps_within = tt;
    rest_is = refl;
    rest_lead = first_lead unit;
    rest_number = K.one;
    leads_rest = lead_of_one unit;
    irreducible = elim [ zero ↦ λ l e divides. h (divides_unit d divides) | suc i ↦ λ l. absurd (omega arith) ];
  }

  outside_follows : d ≢ unit → ¬ InRowModule K s 1 multiple (one ∷ [])
  outside_follows h = outside_block K s lawful o 1 multiple (one ∷ []) outside of (outside_valid h)
    where
      of : IsOutsideBlockOfSignature K s outside
      of = record { basis = ((of_single K s d K.one declared, tt), tt); from = ((of_single K s unit K.one (MonomialOf-unit s), tt), tt); entries = tt; steps = tt }

  -- ---- no block of the signature for two zeros

  abbrev zeros : List (Row K)
  zeros = (nil ∷ []) ∷ (nil ∷ []) ∷ []

  apart_nil : (m : Monomial) → single K plain_cmp m K.one ≢ nil
  apart_nil m e = K.one_apart (sym (Operators.coefficient-own K m K.one) ∙ ap (λ f. coefficient K plain_cmp f m) e ∙ Operators.coefficient-empty_sum K m)

  not_reached : InRowModule K s 2 relation (nil ∷ one ∷ []) → ⊥
  unfolding InRowModule combine row_plus row_scale zero_row
  not_reached ([], l, oc, e) = absurd (omega arith)
  not_reached (f ∷ g ∷ c, l, oc, e) = absurd (omega arith)
  not_reached (f ∷ [], l, oc, e) =
      let first : plus K plain_cmp (times K s f D) nil ≡ nil = ap (λ r. get_or r 0 nil) e in
      let second : plus K plain_cmp (times K s f minus_one) nil ≡ one = ap (λ r. get_or r 1 nil) e in
      ⊎_elim
      (λ z. apart_nil unit (sym second ∙ Operators.plus_zero K _ ∙ ap (λ f. times K s f minus_one) z ∙ nil-times minus_one))
      (apart_nil d)
      (no_zero_divisor K o s lawful f D (sym (Operators.plus_zero K _) ∙ first))

  zeros_invalid : (b : ExactBlock K) → IsExactBlockOfSignature K s b → ¬ IsValidExact K s o 1 zeros relation b
  unfolding IsExact combine row_plus row_scale zero_row
  zeros_invalid b of v = not_reached (((exact_block K s lawful o 1 zeros relation b (refl, tt) of v).1 (nil ∷ one ∷ []) refl (of_none K s, (of_single K s unit K.one (MonomialOf-unit s), tt))).0 (simp (nil-times, times-nil, Operators.plus_zero K)))

  -- ---- sizes

  longer_inexact : ¬ IsExact K s 1 ((nil ∷ []) ∷ []) ((one ∷ D ∷ []) ∷ [])
  unfolding IsExact
  longer_inexact h = let wide = h.0.0 in absurd (omega arith)
