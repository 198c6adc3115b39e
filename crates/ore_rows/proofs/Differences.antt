-- Differences of rows, over any domain.
--     number-times              a number, as an operator, times an operator is the multiple
--     row_minus_scaled          a difference is the sum with -1 times the second row
--     length-row_minus          it has the length of both
--     entry-row_minus, coefficient-row_minus     its entries and its coefficients
--     of_row_minus              a difference of rows of a signature is of it
--     combine-row_minus         a combination by a difference of coefficients is the difference of combinations
--     row_minus_self            a row less itself
--     row_minus_back            a difference and the second row give the first
use Rattle.std.proofs.Common.{◌≡◌, ℕ, zero, suc, pred, arith, List, [], ◌∷◌, length, map, get_or, refl, sym, ap, ◌∙◌}
use Rattle.std.proofs.lemmas.List.{length-map}
use Rattle.ore_algebra.specs.Domain.{Domain}
use Rattle.ore_algebra.specs.Free.{empty_sum, single, plus, scale, coefficient}
use Rattle.ore_algebra.proofs.DomainLaws as Numbers
use Rattle.ore_monomial.specs.Monomial.{unit, plain_cmp}
use Rattle.ore_monomial.specs.Signature.{Signature, IsLawful}
use Rattle.ore_monomial.specs.Term.{Term}
use Rattle.ore_monomial.specs.LetterRule.{Operator}
use Rattle.ore_monomial.proofs.Operators
use Rattle.ore_ring.specs.Product.{times}
use Rattle.ore_ring.proofs.Belonging.{of_scale}
use Rattle.ore_ring.proofs.Product.{times-linear_left, one-times}
use Rattle.ore_rows.specs.Rows.{Row, RowOf, zero_row, row_plus, row_minus, row_scale, combine}
use Rattle.ore_rows.specs.RowLead.{coefficient_at}
use Rattle.ore_rows.proofs.RowLaws as Rows

module _ (K : Domain) where
  abbrev opposite_row : Row K → Row K
  opposite_row q = map (scale K plain_cmp (K.minus K.one)) q

  entry-opposite : (q : Row K) (j : ℕ) → get_or (opposite_row q) j (empty_sum K plain_cmp) ≡ scale K plain_cmp (K.minus K.one) (get_or q j (empty_sum K plain_cmp))
  entry-opposite [] j = sym (Operators.scale-empty_sum K (K.minus K.one))
  entry-opposite (f ∷ q) zero = refl
  entry-opposite (f ∷ q) (suc j) = entry-opposite q j

  pub row_minus_self : (r : Row K) → row_minus K r r ≡ zero_row K (length r)
  unfolding row_minus row_plus zero_row
  row_minus_self [] = refl
  row_minus_self (f ∷ r) = λ i. Operators.plus_opposite K f i ∷ row_minus_self r i

module _ (K : Domain) (s : Signature) where
  pub entry-row_minus : (r q : Row K) (j : ℕ) → length r ≡ length q → get_or (row_minus K r q) j (empty_sum K plain_cmp) ≡ plus K plain_cmp (get_or r j (empty_sum K plain_cmp)) (scale K plain_cmp (K.minus K.one) (get_or q j (empty_sum K plain_cmp)))
  unfolding row_minus
  entry-row_minus r q j e =
      Rows.entry-row_plus K s r (opposite_row K q) j (e ∙ sym (length-map q (scale K plain_cmp (K.minus K.one))))
      ∙ ap (plus K plain_cmp (get_or r j (empty_sum K plain_cmp))) (entry-opposite K q j)

  pub coefficient-row_minus : (r q : Row K) (u : Term) → length r ≡ length q → coefficient_at K (row_minus K r q) u ≡ K.plus (coefficient_at K r u) (K.minus (coefficient_at K q u))
  coefficient-row_minus r q u e =
      ap (λ f. coefficient K plain_cmp f u.monomial) (entry-row_minus r q u.column e)
      ∙ Operators.coefficient-plus K _ _ u.monomial
      ∙ ap (K.plus (coefficient_at K r u)) (Operators.coefficient-scale K (K.minus K.one) _ u.monomial ∙ Numbers.minus_times K K.one _ ∙ ap K.minus (Numbers.one_times K _))

  of_opposite : (q : Row K) → RowOf K s q → RowOf K s (opposite_row K q)
  of_opposite [] h = tt
  of_opposite (f ∷ q) h = (of_scale K s (K.minus K.one) f h.0, of_opposite q h.1)

  pub of_row_minus : (r q : Row K) → RowOf K s r → RowOf K s q → RowOf K s (row_minus K r q)
  unfolding row_minus
  of_row_minus r q h k = Rows.of_row_plus K s r (opposite_row K q) h (of_opposite q k)

module _ (K : Domain) (s : Signature) (lawful : IsLawful s) where
  pub number-times : (j : K.Number) (f : Operator K) → times K s (single K plain_cmp unit j) f ≡ scale K plain_cmp j f
  number-times j f = ap (λ g. times K s g f) (Operators.single_scale K unit j) ∙ (times-linear_left K s f).scale j _ ∙ ap (scale K plain_cmp j) (one-times K s lawful f)

  opposite_scaled : (q : Row K) → opposite_row K q ≡ row_scale K s (single K plain_cmp unit (K.minus K.one)) q
  unfolding row_scale
  opposite_scaled [] = refl
  opposite_scaled (f ∷ q) = λ i. sym (number-times (K.minus K.one) f) i ∷ opposite_scaled q i

  pub row_minus_scaled : (r q : Row K) → row_minus K r q ≡ row_plus K r (row_scale K s (single K plain_cmp unit (K.minus K.one)) q)
  unfolding row_minus
  row_minus_scaled r q = ap (row_plus K r) (opposite_scaled q)

  pub length-row_minus : (n : ℕ) (r q : Row K) → length r ≡ n → length q ≡ n → length (row_minus K r q) ≡ n
  unfolding row_minus
  length-row_minus n r q h k = Rows.length-row_plus K s lawful n r (opposite_row K q) h (length-map q (scale K plain_cmp (K.minus K.one)) ∙ k)

  pub combine-row_minus : (n : ℕ) (c d : Row K) (rows : List (Row K)) → length c ≡ length d → combine K s n (row_minus K c d) rows ≡ row_minus K (combine K s n c rows) (combine K s n d rows)
  combine-row_minus n c d rows e =
      ap (λ r. combine K s n r rows) (row_minus_scaled c d)
      ∙ Rows.combine-plus K s n c _ rows (e ∙ sym (Rows.length-row_scale K s lawful _ d))
      ∙ ap (row_plus K (combine K s n c rows)) (sym (Rows.scale-combine K s lawful _ n d rows))
      ∙ sym (row_minus_scaled (combine K s n c rows) (combine K s n d rows))

module _ (K : Domain) where
  pub row_minus_back : (r q : Row K) → length r ≡ length q → row_plus K (row_minus K r q) q ≡ r
  unfolding row_minus row_plus
  row_minus_back [] q e = refl
  row_minus_back (f ∷ r) [] e = absurd (omega arith)
  row_minus_back (f ∷ r) (g ∷ q) e = λ i. back f g i ∷ row_minus_back r q (ap pred e) i
    where
      back : (f g : Operator K) → plus K plain_cmp (plus K plain_cmp f (scale K plain_cmp (K.minus K.one) g)) g ≡ f
      back f g =
          Operators.plus_assoc K f _ g
          ∙ ap (plus K plain_cmp f) (Operators.plus_comm K _ g ∙ Operators.plus_opposite K g)
          ∙ Operators.plus_zero K f
