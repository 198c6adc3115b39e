-- The rows of a matrix as multiples of the first basis rows.
--     entry_row-place          zeros but for one entry
--     from_rows-none, from_rows-some     the first of these rows, for a row of zeros and for another
--     length-from_rows, long_from_rows, of_from_rows    how many there are, how long, and of what signature
--     combine-from             such a row times the basis rows is a multiple of one of them
--     from_right               they times the basis are the matrix
--     row_minus_none, left_from    what is left of a unit row by way of them and back
--     keeps                    so each state that holds keeps the matrix
use Rattle.std.proofs.Common.{◌≡◌, inl, inr, ℕ, zero, suc, ◌+◌, ◌<◌, Bool, true, false, cond, nat_eq, List, [], ◌∷◌, length, map, refl, sym, ap, ◌∙◌, subst, arith}
use Rattle.std.specs.List.{AllByRecursion, range_with_len}
use Rattle.std.specs.declared.option.Option.{Option}
use Rattle.std.specs.declared.option.Option.TheVariants.{None, Some}
use Rattle.std.proofs.lemmas.List.{length-map}
use Rattle.ore_algebra.specs.Domain.{Domain}
use Rattle.ore_algebra.specs.Free.{empty_sum, single, plus}
use Rattle.ore_monomial.specs.Monomial.{unit, plain_cmp}
use Rattle.ore_monomial.specs.Signature.{Signature, IsLawful}
use Rattle.ore_monomial.specs.Term.{Term}
use Rattle.ore_monomial.specs.declared.order.Order.{Order}
use Rattle.ore_monomial.specs.LetterRule.{Operator, constant}
use Rattle.ore_monomial.proofs.Declared.{MonomialOf-unit}
use Rattle.ore_monomial.proofs.Operators
use Rattle.ore_ring.specs.Product.{times}
use Rattle.ore_ring.proofs.Belonging.{of_single}
use Rattle.ore_ring.proofs.Product.{times-linear_right, times-one}
use Rattle.ore_rows.specs.Rows.{Row, RowOf, AreLong, zero_row, unit_entry, unit_row, row_plus, row_minus, row_scale, combine, matrix_times}
use Rattle.ore_rows.specs.RowLead.{coefficient_at, row_lead}
use Rattle.ore_rows.specs.Reduction.{BasisRow, basis_rows, cofactors_of, row_at}
use Rattle.ore_pairs.specs.Run.{RunState, entry_row, from_rows}
use Rattle.ore_rows.specs.declared.choices.Origin.{Origin}
use Rattle.ore_rows.specs.declared.choices.Origin.TheVariants.{ZeroRow}
use Rattle.ore_rows.proofs.Differences.{row_minus_self}
use Rattle.ore_rows.proofs.GreatestTerms.{zero_from}
use Rattle.ore_rows.proofs.RowLaws as Rows
use Rattle.ore_rows.proofs.UnitRows.{length-unit_row}
use Rattle.ore_pairs.proofs.Places.{place, length-place, of_place, combine-place}
use Rattle.ore_groebner.specs.RunLaws.{IsBasisRow, IsFrom, IsStateOf}
use Rattle.ore_groebner.proofs.Holding.{AreBack, Holds, long_rows, wide_cofactors, to_right}
use Rattle.ore_groebner.proofs.Listing.{is_once}
use Rattle.ore_groebner.proofs.Sources.{from_zeros}

row_minus_none : (K : Domain) (n : ℕ) (r : Row K) → length r ≡ n → row_minus K r (zero_row K n) ≡ r
unfolding row_minus row_plus zero_row
row_minus_none K zero [] e = refl
row_minus_none K zero (f ∷ r) e = absurd (omega arith)
row_minus_none K (suc n) [] e = absurd (omega arith)
row_minus_none K (suc n) (f ∷ r) e = λ i. (ap (plus K plain_cmp f) (Operators.scale-empty_sum K (K.minus K.one)) ∙ Operators.plus_zero K f) i ∷ row_minus_none K n r (omega arith) i

module _ (K : Domain) (s : Signature) (lawful : IsLawful s) where
  entry_row-place : (n i : ℕ) (f : Operator K) → entry_row K n i f ≡ place K s n i f
  unfolding entry_row row_scale unit_row
  entry_row-place n i f = over (range_with_len 0 n)
    where
      one : (b : Bool) → cond b f (empty_sum K plain_cmp) ≡ times K s f (cond b (single K plain_cmp unit K.one) (empty_sum K plain_cmp))
      one true = sym (times-one K s lawful f)
      one false = sym (Operators.linear-empty_sum K (times-linear_right K s f))

      over : (js : List ℕ) → map (λ j. cond (nat_eq j i) f (empty_sum K plain_cmp)) js ≡ map (times K s f) (map (unit_entry K i) js)
      over [] = refl
      over (j ∷ js) = λ k. one (nat_eq j i) k ∷ over js k

  module _ (o : Order) (n : ℕ) where
    pub from_rows-none : (i : ℕ) (r : Row K) (rs : List (Row K)) → row_lead K o r ≡ None → from_rows K o n i (r ∷ rs) ≡ zero_row K n ∷ from_rows K o n i rs
    unfolding from_rows
    from_rows-none i r rs e = ap (λ (x : Option Term). elim x [ None ↦ zero_row K n ∷ from_rows K o n i rs | Some t ↦ entry_row K n i (constant K (coefficient_at K r t)) ∷ from_rows K o n (suc i) rs ]) e

    pub from_rows-some : (i : ℕ) (r : Row K) (rs : List (Row K)) (t : Term) → row_lead K o r ≡ Some t → from_rows K o n i (r ∷ rs) ≡ place K s n i (constant K (coefficient_at K r t)) ∷ from_rows K o n (suc i) rs
    unfolding from_rows
    from_rows-some i r rs t e =
        ap (λ (x : Option Term). elim x [ None ↦ zero_row K n ∷ from_rows K o n i rs | Some t ↦ entry_row K n i (constant K (coefficient_at K r t)) ∷ from_rows K o n (suc i) rs ]) e
        ∙ ap (λ (x : Row K). x ∷ from_rows K o n (suc i) rs) (entry_row-place n i (constant K (coefficient_at K r t)))

    -- what holds of such rows holds of all of them
    each : (P : Row K → Type 0) → P (zero_row K n) → ((i : ℕ) (k : K.Number) → P (place K s n i (constant K k))) → (i : ℕ) (rs : List (Row K)) → AllByRecursion P (from_rows K o n i rs)
    unfolding from_rows
    each P z p i [] = tt
    each P z p i (r ∷ rs) = by (row_lead K o r) refl (each P z p i rs) (each P z p (suc i) rs)
      where
        by : (x : Option Term) → row_lead K o r ≡ x → AllByRecursion P (from_rows K o n i rs) → AllByRecursion P (from_rows K o n (suc i) rs) → AllByRecursion P (from_rows K o n i (r ∷ rs))
        by None e same next = subst (AllByRecursion P) (sym (from_rows-none i r rs e)) (z, same)
        by (Some t) e same next = subst (AllByRecursion P) (sym (from_rows-some i r rs t e)) (p i (coefficient_at K r t), next)

    pub long_from_rows : (i : ℕ) (rs : List (Row K)) → AreLong K n (from_rows K o n i rs)
    long_from_rows = each (λ r. length r ≡ n) (Rows.length-zero_row K s lawful n) (λ i k. length-place K s lawful n i (constant K k))

    pub of_from_rows : (i : ℕ) (rs : List (Row K)) → AllByRecursion (RowOf K s) (from_rows K o n i rs)
    of_from_rows = each (RowOf K s) (Rows.of_zero_row K s n) (λ i k. of_place K s n i (constant K k) (of_single K s unit k (MonomialOf-unit s)))

    pub length-from_rows : (i : ℕ) (rs : List (Row K)) → length (from_rows K o n i rs) ≡ length rs
    unfolding from_rows
    length-from_rows i [] = refl
    length-from_rows i (r ∷ rs) = by (row_lead K o r) refl (length-from_rows i rs) (length-from_rows (suc i) rs)
      where
        by : (x : Option Term) → row_lead K o r ≡ x → length (from_rows K o n i rs) ≡ length rs → length (from_rows K o n (suc i) rs) ≡ length rs → length (from_rows K o n i (r ∷ rs)) ≡ suc (length rs)
        by None e same next = ap length (from_rows-none i r rs e) ∙ ap suc same
        by (Some t) e same next = ap length (from_rows-some i r rs t e) ∙ ap suc next

  -- such a row times rows that basis rows have
  pub combine-from : (f : BasisRow (Row K) → Row K) (p : ℕ) (basis : List (BasisRow (Row K))) → AreLong K p (map f basis) → (i : ℕ) (g : Operator K) → i < length basis → combine K s p (place K s (length basis) i g) (map f basis) ≡ row_scale K s g (row_at (map f basis) i)
  combine-from f p basis long i g h =
      let e = length-map basis f in
      subst (λ m. combine K s p (place K s m i g) (map f basis) ≡ row_scale K s g (row_at (map f basis) i)) e (combine-place K s lawful p i g (map f basis) (subst (λ m. i < m) (sym e) h) long)

  module _ (o : Order) (n : ℕ) (a : List (Row K)) where
    from_right : (basis : List (BasisRow (Row K))) → AllByRecursion (IsBasisRow K s o n a) basis → (origins : List Origin) (syzygies : List (Row K)) (i k : ℕ) (rs : List (Row K)) → AreLong K n rs → AreBack K s o (length a) i k rs basis origins syzygies
        → matrix_times K s n (from_rows K o (length basis) i rs) (basis_rows basis) ≡ rs
    unfolding matrix_times from_rows
    from_right basis good origins syzygies i k [] long h = refl
    from_right basis good origins syzygies i k (r ∷ rs) long (inl (e, m, h)) =
        ap (λ rows. matrix_times K s n rows (basis_rows basis)) (from_rows-none o (length basis) i r rs e)
        ∙ (λ j. (Rows.combine-zero K s (length basis) n (basis_rows basis) (long_rows K s o n a basis good) ∙ ap (zero_row K) (sym long.0) ∙ sym (zero_from K o r e)) j ∷ from_right basis good origins syzygies i (suc k) rs long.1 h j)
    from_right basis good origins syzygies i k (r ∷ rs) long (inr (t, e, b, m, h)) =
        ap (λ rows. matrix_times K s n rows (basis_rows basis)) (from_rows-some o (length basis) i r rs t e)
        ∙ (λ j. (combine-from (λ b. b.row) n basis (long_rows K s o n a basis good) i (constant K (coefficient_at K r t)) b.0 ∙ b.1) j ∷ from_right basis good origins syzygies (suc i) (suc k) rs long.1 h j)

    module _ (basis : List (BasisRow (Row K))) (good : AllByRecursion (IsBasisRow K s o n a) basis) (origins : List Origin) (syzygies : List (Row K)) where
      abbrev wide : ℕ
      wide = length a

      -- the unit row at place m, less a row of multiples by way of the cofactors
      abbrev unit_less : ℕ → Row K → Row K
      unit_less m r = row_minus K (unit_row K wide m) (combine K s wide r (cofactors_of basis))

      abbrev Left : ℕ → Row K → Type 0
      Left m r = IsFrom K wide origins syzygies (ZeroRow m) (unit_less m r)

      zero_less : (m : ℕ) → unit_less m (zero_row K (length basis)) ≡ unit_row K wide m
      zero_less m = ap (row_minus K (unit_row K wide m)) (Rows.combine-zero K s (length basis) wide (cofactors_of basis) (wide_cofactors K s o n a basis good)) ∙ row_minus_none K wide (unit_row K wide m) (length-unit_row K wide m)

      pub left_from : (i k : ℕ) (rs : List (Row K)) → AreBack K s o (length a) i k rs basis origins syzygies → (j m : ℕ) → m ≡ k + j → j < length rs → Left m (row_at (from_rows K o (length basis) i rs) j)
      left_from i k [] h j m e lt = absurd (omega arith)
      left_from i k (r ∷ rs) (inl (empty_sum, from, h)) zero m e lt =
          let same : k ≡ m = omega arith in
          subst (λ m. Left m (row_at (from_rows K o (length basis) i (r ∷ rs)) 0)) same (subst (λ rows. Left k (row_at rows 0)) (sym (from_rows-none o (length basis) i r rs empty_sum))
          (subst (IsFrom K wide origins syzygies (ZeroRow k)) (sym (zero_less k)) from))
      left_from i k (r ∷ rs) (inl (empty_sum, from, h)) (suc j) m e lt =
          subst (λ rows. Left m (row_at rows (suc j))) (sym (from_rows-none o (length basis) i r rs empty_sum)) (left_from i (suc k) rs h j m (omega arith) (omega arith))
      left_from i k (r ∷ rs) (inr (t, some, b, empty_sum, h)) zero m e lt =
          let same : k ≡ m = omega arith in
          subst (λ m. Left m (row_at (from_rows K o (length basis) i (r ∷ rs)) 0)) same (subst (λ rows. Left k (row_at rows 0)) (sym (from_rows-some o (length basis) i r rs t some))
          (from_zeros K wide (ZeroRow k) origins syzygies _ empty_sum
          (ap (row_minus K (unit_row K wide k)) (combine-from (λ b. b.cofactor) wide basis (wide_cofactors K s o n a basis good) i (constant K (coefficient_at K r t)) b.0 ∙ b.2) ∙ row_minus_self K (unit_row K wide k) ∙ ap (zero_row K) (length-unit_row K wide k))))
      left_from i k (r ∷ rs) (inr (t, some, b, empty_sum, h)) (suc j) m e lt =
          subst (λ rows. Left m (row_at rows (suc j))) (sym (from_rows-some o (length basis) i r rs t some)) (left_from (suc i) (suc k) rs h j m (omega arith) (omega arith))

    pub keeps : AreLong K n a → (st : RunState K) → Holds K s o n a st → IsStateOf K s o n a st
    keeps long st h = record {
      basis = h.basis;
      syzygies = h.syzygies;
      to_is = to_right K s o n a st.basis h.basis;
      from_is = from_right st.basis h.basis st.origins st.syzygies 0 0 a long h.back;
      remainders = λ k l. left_from st.basis h.basis st.origins st.syzygies 0 0 a h.back k k (let z : k ≡ 0 + k = omega arith in z) l;
      many = h.many;
      places = h.places;
      once = is_once K s o n (basis_rows st.basis) (map (λ b. b.lead) st.basis) [] st.listed h.entries.lawful;
    }
