-- Sums and differences of rows, over any domain.
--     row_assoc                sums are associative and commutative
--     scale-row_minus          a multiple of a difference
--     row_minus-row_plus       the difference of two sums is the sum of two differences
--     row_minus_through        a difference by way of a third row
--     row_minus_turned         a difference is -1 times the difference the other way
--     of_entry                 the entries of a row of a signature are of it
use Rattle.std.proofs.Common.{◌≡◌, ℕ, zero, suc, [], ◌∷◌, length, map, get_or, refl, sym, ap, ◌∙◌}
use Rattle.ore_algebra.specs.Domain.{Domain}
use Rattle.ore_algebra.specs.Free.{empty_sum, single, scale}
use Rattle.ore_algebra.proofs.DomainLaws as Numbers
use Rattle.ore_monomial.specs.Monomial.{unit, plain_cmp}
use Rattle.ore_monomial.specs.Signature.{Signature, IsLawful}
use Rattle.ore_monomial.specs.LetterRule.{Operator}
use Rattle.ore_monomial.proofs.Operators
use Rattle.ore_ring.specs.Belongs.{OperatorOf}
use Rattle.ore_ring.specs.Product.{times}
use Rattle.ore_ring.proofs.Belonging.{of_none}
use Rattle.ore_ring.proofs.Product.{times-linear_right}
use Rattle.ore_rows.specs.Rows.{Row, RowOf, row_plus, row_minus, row_scale}
use Rattle.ore_rows.proofs.Differences.{row_minus_scaled, row_minus_back, number-times}
use Rattle.ore_rows.proofs.RowLaws.{row_swap, scale-row_plus, scale-scale, row_comm}

module _ (K : Domain) where
  pub row_assoc : (a b c : Row K) → row_plus K (row_plus K a b) c ≡ row_plus K a (row_plus K b c)
  unfolding row_plus
  row_assoc [] b c = refl
  row_assoc (x ∷ a) [] c = refl
  row_assoc (x ∷ a) (y ∷ b) [] = refl
  row_assoc (x ∷ a) (y ∷ b) (z ∷ c) = λ i. Operators.plus_assoc K x y z i ∷ row_assoc a b c i

module _ (K : Domain) (s : Signature) where
  pub of_entry : (r : Row K) (j : ℕ) → RowOf K s r → OperatorOf K s (get_or r j (empty_sum K plain_cmp))
  of_entry [] j h = of_none K s
  of_entry (f ∷ r) zero h = h.0
  of_entry (f ∷ r) (suc j) h = of_entry r j h.1

  pub scale-row_minus : (d : Operator K) (a b : Row K) → row_scale K s d (row_minus K a b) ≡ row_minus K (row_scale K s d a) (row_scale K s d b)
  unfolding row_minus row_scale
  scale-row_minus d a b = scale-row_plus K s d a _ ∙ ap (row_plus K (row_scale K s d a)) (opposites b)
    where
      opposites : (b : Row K) → row_scale K s d (map (scale K plain_cmp (K.minus K.one)) b) ≡ map (scale K plain_cmp (K.minus K.one)) (row_scale K s d b)
      opposites [] = refl
      opposites (f ∷ b) = λ i. (times-linear_right K s d).scale (K.minus K.one) f i ∷ opposites b i

module _ (K : Domain) (s : Signature) (lawful : IsLawful s) where
  abbrev minus_one : Operator K
  minus_one = single K plain_cmp unit (K.minus K.one)

  pub row_minus-row_plus : (a b c d : Row K) → row_minus K (row_plus K a c) (row_plus K b d) ≡ row_plus K (row_minus K a b) (row_minus K c d)
  row_minus-row_plus a b c d =
      row_minus_scaled K s lawful _ _
      ∙ ap (row_plus K (row_plus K a c)) (scale-row_plus K s minus_one b d)
      ∙ row_swap K a c _ _
      ∙ (λ i. row_plus K (sym (row_minus_scaled K s lawful a b) i) (sym (row_minus_scaled K s lawful c d) i))

  pub row_minus_through : (a b c : Row K) → length a ≡ length c → row_minus K a b ≡ row_plus K (row_minus K a c) (row_minus K c b)
  unfolding row_minus
  row_minus_through a b c e = ap (λ r. row_minus K r b) (sym (row_minus_back K a c e)) ∙ row_assoc K _ c _

  minus_one_twice : times K s minus_one minus_one ≡ single K plain_cmp unit K.one
  minus_one_twice = number-times K s lawful (K.minus K.one) _ ∙ Operators.scale-single K (K.minus K.one) (K.minus K.one) unit ∙ ap (single K plain_cmp unit) (Numbers.minus_times K K.one (K.minus K.one) ∙ ap K.minus (Numbers.one_times K _) ∙ Numbers.minus_minus K K.one)

  one_scale : (r : Row K) → row_scale K s (single K plain_cmp unit K.one) r ≡ r
  unfolding row_scale
  one_scale [] = refl
  one_scale (f ∷ r) = λ i. (number-times K s lawful K.one f ∙ Operators.scale_one K f) i ∷ one_scale r i

  pub row_minus_turned : (a b : Row K) → row_minus K a b ≡ row_scale K s minus_one (row_minus K b a)
  row_minus_turned a b =
      row_minus_scaled K s lawful a b
      ∙ row_comm K a _
      ∙ ap (row_plus K (row_scale K s minus_one b)) (sym (scale-scale K s lawful minus_one minus_one a ∙ ap (λ d. row_scale K s d a) minus_one_twice ∙ one_scale a))
      ∙ sym (scale-row_plus K s minus_one b _)
      ∙ ap (row_scale K s minus_one) (sym (row_minus_scaled K s lawful b a))
