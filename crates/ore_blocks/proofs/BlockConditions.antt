-- Without limits the places of a block are right exactly where it has its sizes and is valid.
--     zeros_iff                    rows that take a to zeros
--     to_iff, inside_iff           the rows of `to`, and the inside rows
--     IsExactRight, exact_iff      exact blocks
--     quotients_iff                the steps of an outside block
--     reduced_iff                  a row has a lead that no lead divides
--     rest_iff                     what the steps left is the rest, which is reduced
--     IsBehindLeads, outside_iff   outside blocks
use Rattle.std.proofs.Common.{◌≡◌, ◌↔◌, ℕ, suc, ◌+◌, ◌<◌, true, false, ◌&&◌, nat_eq, nat_lt, List, [], ◌∷◌, length, drop, refl, sym, ap, ◌∙◌, subst, true≢false, arith}
use Rattle.std.specs.List.{AllByRecursion}
use Rattle.std.proofs.ByRecursion.{All-weaker}
use Rattle.std.specs.declared.option.Option.{Option}
use Rattle.std.specs.declared.option.Option.TheVariants.{None, Some}
use Rattle.std.specs.declared.result.Result.TheVariants.{Ok}
use Rattle.std.proofs.lemmas.List.{length-drop}
use Rattle.ore_algebra.specs.Limits.{unlimited}
use Rattle.ore_rational.specs.Fraction.{Fraction}
use Rattle.ore_rational.specs.Field.{rationals}
use Rattle.ore_monomial.specs.Monomial.{Divides, unit}
use Rattle.ore_monomial.specs.Signature.{Signature}
use Rattle.ore_monomial.specs.Term.{Term}
use Rattle.ore_monomial.proofs.Signatures.{lawful}
use Rattle.ore_leads.specs.FirstDivisor.{first_divisor}
use Rattle.ore_leads.proofs.Dividing.{divides_term_true, first_divisor-None, first_divisor-Some}
use Rattle.ore_ring.specs.Ordered.{Ordered}
use Rattle.ore_rows.specs.Rows.{Row, AreLong, zero_row, unit_row, row_minus, combine, matrix_times}
use Rattle.ore_rows.specs.Reduction.{Step, row_at, remainder_after}
use Rattle.ore_rows.specs.RowLead.{coefficient_at, IsRowLead, row_lead}
use Rattle.ore_rows.specs.RowsWithin.{matrix_times_within}
use Rattle.ore_rows.specs.Stored.{rows_of, sums_of}
use Rattle.ore_rows.proofs.GreatestTerms.{row_lead-Some, row_lead-zero, zero_from}
use Rattle.ore_rows.proofs.RowLaws as Rows
use Rattle.ore_rows.proofs.WithinValues.{product_unlimited}
use Rattle.ore_pairs.specs.Blocks.{AreInside}
use Rattle.ore_pairs.specs.PairList.{AreLawful, pair_count, treated_count}
use Rattle.ore_pairs.specs.Steps.{lead_at}
use Rattle.ore_parts.specs.declared.block.ExactBlock.{ExactBlock}
use Rattle.ore_parts.specs.declared.block.OutsideBlock.{OutsideBlock}
use Rattle.ore_parts.specs.OfSignature.{IsExactOf, IsOutsideOf}
use Rattle.ore_blocks.specs.declared.place.Section.{Section}
use Rattle.ore_blocks.specs.declared.place.Section.TheVariants.{Body}
use Rattle.ore_blocks.specs.declared.place.Name.TheVariants.{To, Inside, Rest}
use Rattle.ore_blocks.specs.declared.place.Place.TheVariants as place
use Rattle.ore_blocks.specs.declared.reason.Reason.TheVariants as reason
use Rattle.ore_blocks.specs.Conditions.{is_none}
use Rattle.ore_blocks.specs.CheckBlock.{RowMatrix, row_matrix_of, dealt_pairs, are_zero, rows_inside, check_basis, check_to, check_pairs, check_inside, check_exact, quotient_steps, check_rest, check_outside}
use Rattle.ore_blocks.specs.PlaceConditions.{same_row, is_reduced, less_step, quotient_step}
use Rattle.ore_blocks.specs.Same.{row_discrete}
use Rattle.ore_blocks.specs.Valid.{IsValidExactFor, IsValidOutsideFor}
use Rattle.ore_blocks.proofs.Converted.{rows_count, wide_rows}
use Rattle.ore_blocks.proofs.MonicLeads.{reduced_some}
use Rattle.ore_blocks.proofs.Passed.{none_true}
use Rattle.ore_algebra.proofs.ResultLaws.{same_ok}
use Rattle.ore_blocks.proofs.Equivalences.{map_iff, goes_iff, gives_iff, exists_iff, required_iff, formed_iff, formed_value_iff, passes_iff, nat_eq_iff, nat_lt_iff, both_iff, none_iff, same_iff}
use Rattle.ore_blocks.proofs.RowConditions.{stepped, step_exact, rows_give_iff}
use Rattle.ore_blocks.proofs.BasisConditions.{IsRight, basis_iff, basis_from, right_from}
use Rattle.ore_blocks.proofs.PairConditions.{pairs_iff}
use Rattle.ore_blocks.proofs.InsideConditions.{rows_inside_iff, pairs_inside_iff}

module _ (s : Signature) where
  -- ---- exact blocks

  zeros_iff : (n : ℕ) (a : List (Row rationals)) → AreLong rationals n a → (rows : List (Row rationals))
      → (are_zero unlimited s (matrix_times rationals s n rows a) ≡ true) ↔ AllByRecursion (λ r. combine rationals s n r a ≡ zero_row rationals n) rows
  unfolding are_zero matrix_times
  zeros_iff n a long [] = (λ h. tt, λ h. refl)
  zeros_iff n a long (r ∷ rows) =
      both_iff (is_none (row_lead rationals s.order (combine rationals s n r a))) _
      (map_iff (none_iff (row_lead rationals s.order (combine rationals s n r a))) (
        λ e. zero_from rationals s.order (combine rationals s n r a) e ∙ ap (zero_row rationals) (Rows.length-combine rationals s (lawful s) n r a long),
        λ e. row_lead-zero rationals s.order n (combine rationals s n r a) e,
      ))
      (zeros_iff n a long rows)

  to_iff : (at : Section) (a basis to : RowMatrix) → AreLong rationals a.cols a.rows
      → (check_to unlimited s a at basis to ≡ Ok tt) ↔ (((length to.rows ≡ length basis.rows) × (to.cols ≡ length a.rows)) × (matrix_times rationals s a.cols to.rows a.rows ≡ basis.rows))
  unfolding check_to
  to_iff at a basis to long =
      required_iff (place.Header at To) reason.Shape (nat_eq (length to.rows) (length basis.rows) && nat_eq to.cols (length a.rows)) _ tt
      (both_iff (nat_eq (length to.rows) (length basis.rows)) (nat_eq to.cols (length a.rows)) (nat_eq_iff (length to.rows) (length basis.rows)) (nat_eq_iff to.cols (length a.rows))) (λ sizes.
      rows_give_iff s reason.ToRow a.cols a.rows long at To 0 to.rows basis.rows sizes.0)

  module _ (at : Section) (a m : RowMatrix) (b : ExactBlock) (long : AreLong rationals a.cols a.rows) (wide : AreLong rationals (length a.rows) m.rows) (of : IsExactOf s b) where
    abbrev q : ℕ
    q = length a.rows

    abbrev inside_count : ℕ
    inside_count = q + treated_count (dealt_pairs b.pairs)

    -- the sizes and the identities of the inside rows
    abbrev AreInsideRight : List Term → Type 0
    AreInsideRight leads = ((length (rows_of b.inside) ≡ inside_count) × (b.inside.cols ≡ length m.rows))
        × (((k : ℕ) → k < length (rows_of b.from) → row_minus rationals (unit_row rationals q (0 + k)) (combine rationals s q (row_at (rows_of b.from) k) (rows_of b.to)) ≡ combine rationals s q (row_at (rows_of b.inside) k) m.rows)
        × AreInside rationals s q leads (rows_of b.to) m.rows (dealt_pairs b.pairs) (drop q (rows_of b.inside)))

    inside_iff : (leads : List Term) → length (rows_of b.from) ≡ q → AreLong rationals q (rows_of b.to) → (check_inside unlimited s a m leads at (row_matrix_of b.from) (row_matrix_of b.to) b.pairs (row_matrix_of b.inside) ≡ Ok tt) ↔ AreInsideRight leads
    unfolding check_inside
    inside_iff leads from to_long =
        required_iff (place.Header at Inside) reason.Shape (nat_eq (length (rows_of b.inside)) inside_count && nat_eq b.inside.cols (length m.rows)) _ tt
        (both_iff (nat_eq (length (rows_of b.inside)) inside_count) (nat_eq b.inside.cols (length m.rows)) (nat_eq_iff (length (rows_of b.inside)) inside_count) (nat_eq_iff b.inside.cols (length m.rows))) (λ sizes.
        let count = sizes.0 in
        goes_iff (rows_inside unlimited s q (rows_of b.to) m.rows at 0 (rows_of b.from) (rows_of b.inside)) _ tt
        (rows_inside_iff s q (rows_of b.to) m.rows to_long wide at 0 (rows_of b.from) (rows_of b.inside) (omega arith)) (λ first.
        pairs_inside_iff s q (rows_of b.to) m.rows to_long wide leads at q b.pairs (drop q (rows_of b.inside)) (length-drop q (rows_of b.inside) ∙ omega arith)))

    -- what is behind the leads
    abbrev IsBehind : List Term → Type 0
    IsBehind leads = (((length (rows_of b.to) ≡ length (rows_of b.basis)) × (b.to.cols ≡ q)) × (matrix_times rationals s a.cols (rows_of b.to) a.rows ≡ rows_of b.basis))
        × ((AreLawful rationals s s.order a.cols (rows_of b.basis) leads [] (dealt_pairs b.pairs) × (length (dealt_pairs b.pairs) ≡ pair_count leads)) × AreInsideRight leads)

    abbrev IsExactRight : Type 0
    IsExactRight = AllByRecursion (λ r. combine rationals s a.cols r a.rows ≡ zero_row rationals a.cols) m.rows × ((leads : List Term) × IsRight s a (row_matrix_of b.basis) (row_matrix_of b.from) leads × IsBehind leads)

    to_long : b.to.cols ≡ q → AreLong rationals q (rows_of b.to)
    to_long e = subst (λ n. AreLong rationals n (rows_of b.to)) e (wide_rows s b.to of.to)

    valid_from : IsExactRight → IsValidExactFor s a m b
    valid_from (zeros, (leads, basis, (to, (pairs, inside)))) = record {
      basis_columns = basis.columns;
      from_columns = basis.from_columns ∙ rows_count b.basis;
      to_columns = to.0.1;
      inside_columns = inside.0.1;
      valid = record {
        leads = leads;
        annihilates = zeros;
        is_basis = basis_from s a (row_matrix_of b.basis) (row_matrix_of b.from) leads (dealt_pairs b.pairs) (wide_rows s b.basis of.basis) (wide_rows s b.from of.from) basis pairs.0 pairs.1;
        to_shape = (to.0.0, to_long to.0.1);
        to_is = to.1;
        inside_shape = (inside.0.0, subst (λ n. AreLong rationals n (rows_of b.inside)) inside.0.1 (wide_rows s b.inside of.inside));
        first_inside = λ i iq.
            ap (λ k. row_minus rationals (unit_row rationals q k) (combine rationals s q (row_at (rows_of b.from) i) (rows_of b.to))) (let e : i ≡ 0 + i = omega arith in e)
            ∙ inside.1.0 i (subst (λ n. i < n) (sym basis.from_rows) iq);
        later_inside = inside.1.1;
      };
    }

    right_of : IsValidExactFor s a m b → IsExactRight
    right_of h = let v = h.valid in (
      v.annihilates,
      (
        v.leads,
        right_from s a (row_matrix_of b.basis) (row_matrix_of b.from) v.leads (dealt_pairs b.pairs) h.basis_columns (h.from_columns ∙ sym (rows_count b.basis)) v.is_basis,
        (
          ((v.to_shape.0, h.to_columns), v.to_is),
          (
            (v.is_basis.lawful, v.is_basis.counted),
            (
              (v.inside_shape.0, h.inside_columns),
              (
                λ k kl. ap (λ n. row_minus rationals (unit_row rationals q n) (combine rationals s q (row_at (rows_of b.from) k) (rows_of b.to))) (let e : 0 + k ≡ k = omega arith in e)
                    ∙ v.first_inside k (subst (λ n. k < n) v.is_basis.from_shape.0 kl),
                v.later_inside,
              ),
            ),
          ),
        ),
      ),
    )

    pub exact_iff : (check_exact unlimited s at a m b ≡ Ok tt) ↔ IsValidExactFor s a m b
    unfolding check_exact
    exact_iff = map_iff
        (formed_iff (place.Block at) (matrix_times_within unlimited s a.cols m.rows a.rows) _ (matrix_times rationals s a.cols m.rows a.rows) tt (product_unlimited s a.cols m.rows a.rows long)
        (required_iff (place.Block at) reason.NotInKernel (are_zero unlimited s (matrix_times rationals s a.cols m.rows a.rows)) _ tt (zeros_iff a.cols a.rows long m.rows) (λ zeros.
        exists_iff (IsRight s a (row_matrix_of b.basis) (row_matrix_of b.from)) IsBehind (check_basis unlimited s a at (row_matrix_of b.basis) (row_matrix_of b.from)) _ tt
        (λ leads. basis_iff s a (row_matrix_of b.basis) (row_matrix_of b.from) at leads (wide_rows s b.basis of.basis)) (λ leads basis.
        goes_iff (check_to unlimited s a at (row_matrix_of b.basis) (row_matrix_of b.to)) _ tt (to_iff at a (row_matrix_of b.basis) (row_matrix_of b.to) long) (λ to.
        goes_iff (check_pairs unlimited s (rows_of b.basis) leads at b.pairs) _ tt
        (pairs_iff s (rows_of b.basis) leads a.cols (subst (λ n. AreLong rationals n (rows_of b.basis)) basis.columns (wide_rows s b.basis of.basis)) basis.monic.long at b.pairs) (λ pairs.
        inside_iff leads basis.from_rows (to_long to.0.1)))))))
        (valid_from, right_of)

  -- ---- outside blocks

  quotient_iff : (basis : List (Row rationals)) (n : ℕ) (r : Row rationals) (step : Step rationals) (x : Row rationals) → (quotient_step unlimited s basis (place.Step n) r step ≡ Ok x) ↔ ((step.index < length basis) × (stepped s basis step r ≡ x))
  unfolding quotient_step
  quotient_iff basis n r step x =
      required_iff (place.Step n) reason.Step (nat_lt step.index (length basis)) _ x (nat_lt_iff step.index (length basis)) (λ within.
      formed_value_iff (place.Step n) (less_step unlimited s basis step r) (stepped s basis step r) (step_exact s basis step r) x)

  -- the steps name rows of the basis, and what is left is x
  quotients_iff : (basis : List (Row rationals)) (n : ℕ) (r : Row rationals) (steps : List (Step rationals)) (x : Row rationals)
      → (quotient_steps unlimited s basis n r steps ≡ Ok x) ↔ (AllByRecursion (λ (t : Step rationals). t.index < length basis) steps × (remainder_after rationals s basis steps r ≡ x))
  unfolding quotient_steps remainder_after
  quotients_iff basis n r [] x = (λ h. (tt, same_ok r x h), λ h. ap Ok h.1)
  quotients_iff basis n r (step ∷ steps) x = map_iff
      (gives_iff (quotient_step unlimited s basis (place.Step (suc n)) r step) _ (stepped s basis step r) x (quotient_iff basis (suc n) r step) (λ within.
      quotients_iff basis (suc n) (stepped s basis step r) steps x))
      (λ h. ((h.0, h.1.0), h.1.1), λ h. (h.0.0, (h.0.1, h.1)))

  -- the row has a lead, which none of the leads divides
  record IsReduced (leads : List Term) (r : Row rationals) : Type 0 where
    lead : Term
    number : Fraction
    leads_row : IsRowLead rationals s.order r lead number
    irreducible : (i : ℕ) → i < length leads → (lead_at leads i).column ≡ lead.column → ¬ Divides (lead_at leads i).monomial lead.monomial

  reduced_iff : (leads : List Term) (r : Row rationals) → (is_reduced unlimited s leads r ≡ true) ↔ IsReduced leads r
  unfolding is_reduced
  reduced_iff leads r = (λ h. by (row_lead rationals s.order r) refl h, λ h. reduced_some unlimited s leads r h.lead h.number h.leads_row ∙ ap is_none (none_divides h))
    where
      by : (found : Option Term) → row_lead rationals s.order r ≡ found → elim found [ None ↦ false | Some t ↦ is_none (first_divisor leads t) ] ≡ true → IsReduced leads r
      by None e h = absurd (true≢false (sym h))
      by (Some t) e h = record {
        lead = t;
        number = coefficient_at rationals r t;
        leads_row = row_lead-Some rationals s.order r t e;
        irreducible = λ i il same divides. true≢false
            (sym ((divides_term_true (lead_at leads i) t).1 (same, divides))
            ∙ first_divisor-None leads t (record { monomial = unit; column = 0 }) (none_true (first_divisor leads t) h) i il);
      }

      none_divides : (h : IsReduced leads r) → first_divisor leads h.lead ≡ None
      none_divides h = found (first_divisor leads h.lead) refl
        where
          found : (v : Option ℕ) → first_divisor leads h.lead ≡ v → v ≡ None
          found None e = refl
          found (Some i) e =
              let at = first_divisor-Some leads h.lead i (record { monomial = unit; column = 0 }) e in
              let divides = (divides_term_true (lead_at leads i) h.lead).0 at.1 in
              absurd (h.irreducible i at.0 divides.0 divides.1)

  rest_iff : (leads : List Term) (cols : ℕ) (left : Row rationals) (rest : List Ordered) → (check_rest unlimited s leads cols left rest ≡ Ok tt) ↔ ((length rest ≡ cols) × ((left ≡ sums_of rest) × IsReduced leads (sums_of rest)))
  unfolding check_rest
  rest_iff leads cols left rest =
      required_iff (place.Header Body Rest) reason.Shape (nat_eq (length rest) cols) _ tt (nat_eq_iff (length rest) cols) (λ wide.
      required_iff (place.Row Body Rest 0) reason.Rest (same_row left (sums_of rest)) _ tt (same_iff row_discrete left (sums_of rest)) (λ same.
      passes_iff (place.Row Body Rest 0) reason.Reducible (is_reduced unlimited s leads (sums_of rest)) (reduced_iff leads (sums_of rest))))

  module _ (a : RowMatrix) (w : Row rationals) (b : OutsideBlock) (of : IsOutsideOf s b) where
    -- what is behind the leads
    abbrev IsBehindLeads : List Term → Type 0
    IsBehindLeads leads = (AreLawful rationals s s.order a.cols (rows_of b.basis) leads [] (dealt_pairs b.pairs) × (length (dealt_pairs b.pairs) ≡ pair_count leads))
        × (AllByRecursion (λ (t : Step rationals). t.index < length (rows_of b.basis)) b.quotients × ((length b.rest ≡ a.cols) × ((remainder_after rationals s (rows_of b.basis) b.quotients w ≡ sums_of b.rest) × IsReduced leads (sums_of b.rest))))

    outside_from : (leads : List Term) × IsRight s a (row_matrix_of b.basis) (row_matrix_of b.from) leads × IsBehindLeads leads → IsValidOutsideFor s a w b
    outside_from (leads, basis, (pairs, (within, (rest, (left, reduced))))) = record {
      basis_columns = basis.columns;
      from_columns = basis.from_columns ∙ rows_count b.basis;
      rest_columns = rest;
      valid = record {
        leads = leads;
        is_basis = basis_from s a (row_matrix_of b.basis) (row_matrix_of b.from) leads (dealt_pairs b.pairs) (wide_rows s b.basis of.basis) (wide_rows s b.from of.from) basis pairs.0 pairs.1;
        steps_within = All-weaker (λ t. t.index < length (rows_of b.basis)) (λ t. t.index < length leads) (λ t k. subst (λ n. t.index < n) (sym basis.monic.long) k) b.quotients within;
        rest_is = left;
        rest_lead = reduced.lead;
        rest_number = reduced.number;
        leads_rest = reduced.leads_row;
        irreducible = reduced.irreducible;
      };
    }

    outside_right : IsValidOutsideFor s a w b → (leads : List Term) × IsRight s a (row_matrix_of b.basis) (row_matrix_of b.from) leads × IsBehindLeads leads
    outside_right h = let v = h.valid in (
      v.leads,
      right_from s a (row_matrix_of b.basis) (row_matrix_of b.from) v.leads (dealt_pairs b.pairs) h.basis_columns (h.from_columns ∙ sym (rows_count b.basis)) v.is_basis,
      (
        (v.is_basis.lawful, v.is_basis.counted),
        (
          All-weaker (λ t. t.index < length v.leads) (λ t. t.index < length (rows_of b.basis)) (λ t k. subst (λ n. t.index < n) v.is_basis.monic.long k) b.quotients v.steps_within,
          (h.rest_columns, (v.rest_is, record { lead = v.rest_lead; number = v.rest_number; leads_row = v.leads_rest; irreducible = v.irreducible })),
        ),
      ),
    )

    pub outside_iff : (check_outside unlimited s a w b ≡ Ok tt) ↔ IsValidOutsideFor s a w b
    unfolding check_outside
    outside_iff = map_iff
        (exists_iff (IsRight s a (row_matrix_of b.basis) (row_matrix_of b.from)) IsBehindLeads (check_basis unlimited s a Body (row_matrix_of b.basis) (row_matrix_of b.from)) _ tt
        (λ leads. basis_iff s a (row_matrix_of b.basis) (row_matrix_of b.from) Body leads (wide_rows s b.basis of.basis)) (λ leads basis.
        goes_iff (check_pairs unlimited s (rows_of b.basis) leads Body b.pairs) _ tt
        (pairs_iff s (rows_of b.basis) leads a.cols (subst (λ n. AreLong rationals n (rows_of b.basis)) basis.columns (wide_rows s b.basis of.basis)) basis.monic.long Body b.pairs) (λ pairs.
        gives_iff (quotient_steps unlimited s (rows_of b.basis) 0 w b.quotients) _ (remainder_after rationals s (rows_of b.basis) b.quotients w) tt (quotients_iff (rows_of b.basis) 0 w b.quotients) (λ within.
        rest_iff leads a.cols (remainder_after rationals s (rows_of b.basis) b.quotients w) b.rest))))
        (outside_from, outside_right)
