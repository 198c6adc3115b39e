-- Rows that reduce by the basis of a state to zeros are combinations of the rows of its matrix.
--     opposite_unique         a row that is the opposite of another
--     negated-scaled, combine-negated    the opposite of a row, and of a combination
--     IsRestOf                what is left of a row, and its cofactor row
--     rest_start, rest_more, rest_reduced    so it is at the start, after one more step, and after a reduction
--     IsCombination, reduced_combination     a row of coefficients that times the matrix is a row; the negated cofactor row is one
--     AreCombinations         so it is of each of some rows
--     long_combinations, of_combinations, product_combinations, count_combinations     of such rows
--     IsReducedTo, rows_reduced    what reducing rows in order gives
use Rattle.std.proofs.Common.{◌≡◌, ℕ, suc, pred, ◌+◌, ◌<◌, List, [], ◌∷◌, ◌++◌, length, get_or, refl, sym, ap, ◌∙◌, subst, append_assoc, append-nil, arith}
use Rattle.std.specs.List.{AllByRecursion}
use Rattle.std.specs.declared.option.Option.{Option}
use Rattle.std.specs.declared.option.Option.TheVariants.{None, Some}
use Rattle.std.specs.declared.result.Result.{Result}
use Rattle.std.specs.declared.result.Result.TheVariants.{Ok, Err}
use Rattle.std.proofs.ByRecursion.{All-get_or, All-push}
use Rattle.std.proofs.lemmas.List.{length-map, get_or-map}
use Rattle.ore_algebra.specs.Domain.{Domain}
use Rattle.ore_algebra.specs.Free.{empty_sum, single, plus, scale}
use Rattle.ore_algebra.specs.Limits.{Cause, ◌>>=◌}
use Rattle.ore_algebra.proofs.ListLaws.{same_cons}
use Rattle.ore_monomial.specs.Monomial.{unit, plain_cmp}
use Rattle.ore_monomial.specs.LetterRule.{Operator}
use Rattle.ore_monomial.specs.Signature.{Signature, MonomialOf, IsLawful}
use Rattle.ore_monomial.specs.Term.{Term}
use Rattle.ore_monomial.proofs.Declared.{MonomialOf-quotient, MonomialOf-unit}
use Rattle.ore_monomial.proofs.Operators
use Rattle.ore_ring.proofs.Belonging.{of_single}
use Rattle.ore_rows.specs.Arithmetic.{Arithmetic, IsSoundArithmetic}
use Rattle.ore_rows.specs.Reduction.{BasisRow, Step, ReductionState, basis_rows, cofactors_of, origin, row_at, step_operator}
use Rattle.ore_rows.specs.ReduceRows.{Reductions, AllReduce, LeavesRest, negated, reduce_row, reduce_rows_from}
use Rattle.ore_rows.specs.RowLead.{coefficient_at, IsRowLead, row_lead}
use Rattle.ore_rows.specs.Rows.{Row, RowOf, AreLong, zero_row, row_plus, row_minus, row_scale, combine, matrix_times}
use Rattle.ore_rows.proofs.Differences.{number-times, of_row_minus, length-row_minus, combine-row_minus}
use Rattle.ore_rows.proofs.GreatestTerms.{row_lead-Some, zero_from}
use Rattle.ore_rows.proofs.RowLaws as Rows
use Rattle.ore_rows.proofs.RowLaws.{plus-zero_row}
use Rattle.ore_division.proofs.Reductions.{state_after_step, kept}
use Rattle.ore_algebra.proofs.ResultLaws.{same_ok, no_ok}
use Rattle.ore_division.proofs.Steps.{IsReductionStep, next_step-Some, step_inside}
use Rattle.ore_pairs.specs.Run.{RunState}
use Rattle.ore_pairs.specs.Steps.{AreStepsOf}
use Rattle.ore_pairs.proofs.RowSums.{row_assoc}
use Rattle.ore_groebner.specs.RunLaws.{IsBasisRow}
use Rattle.ore_groebner.proofs.Growing.{inside_map}
use Rattle.ore_groebner.proofs.Holding.{Holds, are_monic, are_wide, of_rows, of_cofactors}
use Rattle.ore_groebner.proofs.Parts.{lead_of_signature}

-- ---- sums of rows

module _ (K : Domain) where
  opposite_entry : (f g : Operator K) → plus K plain_cmp f g ≡ empty_sum K plain_cmp → scale K plain_cmp (K.minus K.one) g ≡ f
  opposite_entry f g e =
      sym (Operators.zero-plus K (scale K plain_cmp (K.minus K.one) g)) ∙ ap (λ x. plus K plain_cmp x (scale K plain_cmp (K.minus K.one) g)) (sym e)
      ∙ Operators.plus_assoc K f g (scale K plain_cmp (K.minus K.one) g) ∙ ap (plus K plain_cmp f) (Operators.plus_opposite K g) ∙ Operators.plus_zero K f

  pub opposite_unique : (z x : Row K) → length z ≡ length x → row_plus K z x ≡ zero_row K (length z) → negated K x ≡ z
  unfolding row_plus zero_row
  opposite_unique [] [] l e = refl
  opposite_unique [] (g ∷ x) l e = absurd (omega arith)
  opposite_unique (f ∷ z) [] l e = absurd (omega arith)
  opposite_unique (f ∷ z) (g ∷ x) l e =
      let parts = same_cons (plus K plain_cmp f g) (empty_sum K plain_cmp) (row_plus K z x) (zero_row K (length z)) e in
      λ i. opposite_entry f g parts.0 i ∷ opposite_unique z x (ap pred l) parts.1 i

  module _ (s : Signature) (lawful : IsLawful s) where
    negated-scaled : (q : Row K) → negated K q ≡ row_scale K s (single K plain_cmp unit (K.minus K.one)) q
    unfolding row_scale
    negated-scaled [] = refl
    negated-scaled (f ∷ q) = λ i. sym (number-times K s lawful (K.minus K.one) f) i ∷ negated-scaled q i

    pub combine-negated : (n : ℕ) (c : Row K) (rows : List (Row K)) → combine K s n (negated K c) rows ≡ negated K (combine K s n c rows)
    combine-negated n c rows =
        ap (λ c. combine K s n c rows) (negated-scaled c) ∙ sym (Rows.scale-combine K s lawful (single K plain_cmp unit (K.minus K.one)) n c rows) ∙ sym (negated-scaled (combine K s n c rows))

    pub of_negated : (q : Row K) → RowOf K s q → RowOf K s (negated K q)
    of_negated q h = subst (RowOf K s) (sym (negated-scaled q)) (Rows.of_row_scale K s (single K plain_cmp unit (K.minus K.one)) q (of_single K s unit (K.minus K.one) (MonomialOf-unit s)) h)

-- ---- one row

module _ (K : Domain) (s : Signature) (lawful : IsLawful s) (n : ℕ) (a : List (Row K)) (long : AreLong K n a) (st : RunState K) (h : Holds K s s.order n a st) where
  abbrev of_a : Type 0
  of_a = AllByRecursion (RowOf K s) a

  blank : BasisRow (Row K)
  blank = record { row = []; cofactor = []; lead = origin }

  -- the basis row at a place, with its parts
  row_there : (i : ℕ) → i < length st.basis → row_at (basis_rows st.basis) i ≡ (get_or st.basis i blank).row
  row_there i l = get_or-map (λ b. b.row) st.basis i blank [] l

  cofactor_there : (i : ℕ) → i < length st.basis → row_at (cofactors_of st.basis) i ≡ (get_or st.basis i blank).cofactor
  cofactor_there i l = get_or-map (λ b. b.cofactor) st.basis i blank [] l

  good : (i : ℕ) → i < length st.basis → IsBasisRow K s s.order n a (get_or st.basis i blank)
  good i l = All-get_or (IsBasisRow K s s.order n a) st.basis i blank l h.basis

  -- together with its cofactor row times a, the row z makes up what is left of it
  pub record IsRestOf (z : Row K) (w : ReductionState K) : Type 0 where
    pub wide : length w.cofactor ≡ length a
    pub sum : row_plus K z (combine K s n w.cofactor a) ≡ w.row
    pub of_row : of_a → RowOf K s z → RowOf K s w.row
    pub of_cofactor : of_a → RowOf K s z → RowOf K s w.cofactor
    pub of_steps : of_a → RowOf K s z → AreStepsOf K s w.steps

  rest_start : (z : Row K) → length z ≡ n → IsRestOf z (record { row = z; cofactor = zero_row K (length a); steps = [] })
  rest_start z l = record {
    wide = Rows.length-zero_row K s lawful (length a);
    sum = ap (row_plus K z) (Rows.combine-zero K s (length a) n a long ∙ ap (zero_row K) (sym l)) ∙ plus-zero_row K (length z) z refl;
    of_row = λ d e. e;
    of_cofactor = λ d e. Rows.of_zero_row K s (length a);
    of_steps = λ d e. tt;
  }

  rest_more : (z : Row K) (w : ReductionState K) (t : Step K) → IsRestOf z w → IsReductionStep K s.order st.basis w.row t → IsRestOf z (state_after_step K s st.basis t w)
  unfolding row_minus
  rest_more z w t j due = record {
    wide = length-row_minus K s lawful (length a) w.cofactor multiple j.wide wide_multiple;
    sum =
        ap (row_plus K z) (combine-row_minus K s lawful n w.cofactor multiple a (j.wide ∙ sym wide_multiple) ∙ ap (row_minus K (combine K s n w.cofactor a)) made)
        ∙ sym (row_assoc K z (combine K s n w.cofactor a) (negated K (row_scale K s (step_operator K t) (row_at (basis_rows st.basis) t.index))))
        ∙ ap (λ r. row_minus K r (row_scale K s (step_operator K t) (row_at (basis_rows st.basis) t.index))) j.sum;
    of_row = λ d e. of_row_minus K s w.row _ (j.of_row d e) (of_multiple (basis_rows st.basis) (of_rows K s s.order n a st.basis h.basis d) (inside_map (λ b. b.row) st.basis t.index inside) (declared d e));
    of_cofactor = λ d e.
        of_row_minus K s w.cofactor _ (j.of_cofactor d e) (of_multiple (cofactors_of st.basis) (of_cofactors K s s.order n a st.basis h.basis d) (inside_map (λ b. b.cofactor) st.basis t.index inside) (declared d e));
    of_steps = λ d e. All-push (λ (t : Step K). MonomialOf s t.monomial) w.steps t (j.of_steps d e) (declared d e);
  }
    where
      inside : t.index < length st.basis
      inside = step_inside K s lawful s.order st.basis (are_monic K s s.order n a st.basis h.basis) w.row t due

      multiple : Row K
      multiple = row_scale K s (step_operator K t) (row_at (cofactors_of st.basis) t.index)

      wide_multiple : length (row_scale K s (step_operator K t) (row_at (cofactors_of st.basis) t.index)) ≡ length a
      wide_multiple = Rows.length-row_scale K s lawful (step_operator K t) (row_at (cofactors_of st.basis) t.index) ∙ ap length (cofactor_there t.index inside) ∙ (good t.index inside).wide

      made : combine K s n (row_scale K s (step_operator K t) (row_at (cofactors_of st.basis) t.index)) a ≡ row_scale K s (step_operator K t) (row_at (basis_rows st.basis) t.index)
      made =
          sym (Rows.scale-combine K s lawful (step_operator K t) n (row_at (cofactors_of st.basis) t.index) a)
          ∙ ap (row_scale K s (step_operator K t)) (ap (λ c. combine K s n c a) (cofactor_there t.index inside) ∙ (good t.index inside).made ∙ sym (row_there t.index inside))

      lead : IsRowLead K s.order w.row due.lead (coefficient_at K w.row due.lead)
      lead = row_lead-Some K s.order w.row due.lead due.leads

      declared : of_a → RowOf K s z → MonomialOf s t.monomial
      declared d e = subst (MonomialOf s) (sym due.monomial) (MonomialOf-quotient s due.lead.monomial _ (lead_of_signature K s s.order w.row due.lead _ (j.of_row d e) lead))

      of_multiple : (rows : List (Row K)) → AllByRecursion (RowOf K s) rows → t.index < length rows → MonomialOf s t.monomial → RowOf K s (row_scale K s (step_operator K t) (row_at rows t.index))
      of_multiple rows of l k = Rows.of_row_scale K s (step_operator K t) (row_at rows t.index) (of_single K s t.monomial t.number k) (All-get_or (RowOf K s) rows t.index [] l of)

  -- ---- rows in order

  module _ (A : Arithmetic K) (sound : IsSoundArithmetic K s A) where
    pub rest_reduced : (z : Row K) (rest : ReductionState K) → length z ≡ n → reduce_row K s.order A (length a) st.basis z ≡ Ok rest → (length rest.row ≡ n) × IsRestOf z rest
    rest_reduced z rest l e =
        kept K s lawful s.order A sound st.basis n (are_monic K s s.order n a st.basis h.basis) (are_wide K s s.order n a st.basis h.basis) (IsRestOf z)
        (λ w t m j due. rest_more z w t j (next_step-Some K s.order st.basis w.row t due)) (record { row = z; cofactor = zero_row K (length a); steps = [] }) rest l (rest_start z l) e

    -- c times a is z
    pub record IsCombination (z c : Row K) : Type 0 where
      pub wide : length c ≡ length a
      pub product : combine K s n c a ≡ z
      pub of_row : of_a → RowOf K s z → RowOf K s c

    reduced_combination : (z : Row K) (rest : ReductionState K) → length z ≡ n → reduce_row K s.order A (length a) st.basis z ≡ Ok rest → row_lead K s.order rest.row ≡ None → IsCombination z (negated K rest.cofactor)
    reduced_combination z rest l e empty_sum =
        let r = rest_reduced z rest l e in
        let zeros : row_plus K z (combine K s n rest.cofactor a) ≡ zero_row K (length z) = r.1.sum ∙ zero_from K s.order rest.row empty_sum ∙ ap (zero_row K) (r.0 ∙ sym l) in
        record {
          wide = length-map rest.cofactor (scale K plain_cmp (K.minus K.one)) ∙ r.1.wide;
          product = combine-negated K s lawful n rest.cofactor a ∙ opposite_unique K z (combine K s n rest.cofactor a) (l ∙ sym (Rows.length-combine K s lawful n rest.cofactor a long)) zeros;
          of_row = λ d o. of_negated K s lawful rest.cofactor (r.1.of_cofactor d o);
        }

    -- each of some rows is one
    pub AreCombinations : List (Row K) → List (Row K) → Type 0
    AreCombinations [] [] = Unit {0}
    AreCombinations [] (c ∷ cs) = ⊥
    AreCombinations (z ∷ zs) [] = ⊥
    AreCombinations (z ∷ zs) (c ∷ cs) = IsCombination z c × AreCombinations zs cs

    -- combinations for all rows, behind those before; or a row that leaves something
    abbrev pub IsReducedTo : ℕ → List (Row K) → List (Row K) → Reductions K → Type 0
    IsReducedTo k before rows (AllReduce all) = (more : List (Row K)) × (all ≡ before ++ more) × AreCombinations rows more
    IsReducedTo k before rows (LeavesRest i w) = (j : ℕ) × (i ≡ k + j) × (j < length rows) × (reduce_row K s.order A (length a) st.basis (row_at rows j) ≡ Ok w) × (t : Term) × (row_lead K s.order w.row ≡ Some t)

    -- one row z before others
    module _ (k : ℕ) (before : List (Row K)) (z : Row K) (rows : List (Row K)) (result : Reductions K) (lz : length z ≡ n) where
      abbrev goes_on : ReductionState K → Option Term → Result (Reductions K) Cause
      goes_on w t = elim t [ None ↦ reduce_rows_from K s.order A (length a) st.basis (suc k) (before ++ negated K w.cofactor ∷ []) rows | Some u ↦ Ok (LeavesRest k w) ]

      abbrev Later : Type 0
      Later = (b : List (Row K)) → reduce_rows_from K s.order A (length a) st.basis (suc k) b rows ≡ Ok result → IsReducedTo (suc k) b rows result

      one_more : (x : Reductions K) (w : ReductionState K) → IsCombination z (negated K w.cofactor) → IsReducedTo (suc k) (before ++ negated K w.cofactor ∷ []) rows x → IsReducedTo k before (z ∷ rows) x
      unfolding AreCombinations
      one_more (AllReduce all) w c (more, same, are) = (negated K w.cofactor ∷ more, same ∙ append_assoc before (negated K w.cofactor ∷ []) more, (c, are))
      one_more (LeavesRest i v) w c (j, place, less, e, t, g) = (suc j, omega (arith, place), omega (arith, less), e, t, g)

      ends : (w : ReductionState K) → reduce_row K s.order A (length a) st.basis z ≡ Ok w → (t : Option Term) → row_lead K s.order w.row ≡ t → goes_on w t ≡ Ok result → Later → IsReducedTo k before (z ∷ rows) result
      ends w f None g i later = one_more result w (reduced_combination z w lz f g) (later (before ++ negated K w.cofactor ∷ []) i)
      ends w f (Some t) g i later = subst (IsReducedTo k before (z ∷ rows)) (same_ok (LeavesRest k w) result i) (0, omega arith, omega arith, f, t, g)

      first_reduced : (x : Result (ReductionState K) Cause) → reduce_row K s.order A (length a) st.basis z ≡ x → (x >>= (λ w. goes_on w (row_lead K s.order w.row))) ≡ Ok result → Later → IsReducedTo k before (z ∷ rows) result
      first_reduced (Ok w) f g later = ends w f (row_lead K s.order w.row) refl g later
      first_reduced (Err c) f g later = absurd (no_ok g)

    pub rows_reduced : (k : ℕ) (before rows : List (Row K)) (result : Reductions K) → AreLong K n rows → reduce_rows_from K s.order A (length a) st.basis k before rows ≡ Ok result → IsReducedTo k before rows result
    unfolding reduce_rows_from AreCombinations
    rows_reduced k before [] result l e = subst (IsReducedTo k before []) (same_ok (AllReduce before) result e) ([], sym (append-nil before), tt)
    rows_reduced k before (z ∷ rows) result (lz, l) e = first_reduced k before z rows result lz (reduce_row K s.order A (length a) st.basis z) refl e (λ b. rows_reduced (suc k) b rows result l)

    -- ---- what combinations of rows are

    pub long_combinations : (rows cs : List (Row K)) → AreCombinations rows cs → AreLong K (length a) cs
    unfolding AreCombinations
    long_combinations [] [] c = tt
    long_combinations [] (x ∷ cs) c = absurd c
    long_combinations (z ∷ rows) [] c = absurd c
    long_combinations (z ∷ rows) (x ∷ cs) c = (c.0.wide, long_combinations rows cs c.1)

    pub of_combinations : (rows cs : List (Row K)) → of_a → AllByRecursion (RowOf K s) rows → AreCombinations rows cs → AllByRecursion (RowOf K s) cs
    unfolding AreCombinations
    of_combinations [] [] d o c = tt
    of_combinations [] (x ∷ cs) d o c = absurd c
    of_combinations (z ∷ rows) [] d o c = absurd c
    of_combinations (z ∷ rows) (x ∷ cs) d o c = (c.0.of_row d o.0, of_combinations rows cs d o.1 c.1)

    pub product_combinations : (rows cs : List (Row K)) → AreCombinations rows cs → matrix_times K s n cs a ≡ rows
    unfolding AreCombinations matrix_times
    product_combinations [] [] c = refl
    product_combinations [] (x ∷ cs) c = absurd c
    product_combinations (z ∷ rows) [] c = absurd c
    product_combinations (z ∷ rows) (x ∷ cs) c = λ i. c.0.product i ∷ product_combinations rows cs c.1 i

    pub count_combinations : (rows cs : List (Row K)) → AreCombinations rows cs → length cs ≡ length rows
    unfolding matrix_times
    count_combinations rows cs c = sym (length-map cs (λ r. combine K s n r a)) ∙ ap length (product_combinations rows cs c)
