-- A row times a column, over any domain.
--     opposite                       -1 times an operator
--     column_scale                   each entry of a column times an operator
--     zero-times, times-zero         products with zero
--     times-opposite, opposite-times, plus-opposite     products and a sum with opposites
--     dot-zero_row                   zeros
--     dot-row_plus, dot-sum          a sum of rows; a sum of columns
--     dot-row_scale, dot-column_scale     a multiple of a row, from the left; of a column, from the right
--     dot-combine                    a combination of rows that take the column to zero
--     length-column_scale            the length of a multiple
--     of_opposite, of_column_scale, of_dot     these of the signature
use Rattle.std.proofs.Common.{◌≡◌, ℕ, zero, suc, pred, List, [], ◌∷◌, length, map, refl, sym, ap, ◌∙◌, arith}
use Rattle.ore_algebra.specs.Domain.{Domain}
use Rattle.ore_algebra.specs.Free.{empty_sum, plus, scale}
use Rattle.ore_monomial.specs.Monomial.{plain_cmp}
use Rattle.ore_monomial.specs.Signature.{Signature, IsLawful}
use Rattle.ore_monomial.specs.LetterRule.{Operator}
use Rattle.ore_monomial.proofs.Operators
use Rattle.ore_ring.specs.Product.{times}
use Rattle.ore_ring.specs.Belongs.{OperatorOf}
use Rattle.ore_ring.proofs.Belonging.{of_none, of_plus, of_scale, of_times}
use Rattle.ore_ring.proofs.Product.{times-linear_left, times-linear_right, times_assoc}
use Rattle.ore_rows.specs.Rows.{Row, RowOf, AreLong, zero_row, row_plus, row_scale, combine, dot}
use Rattle.ore_rows.proofs.RowLaws.{length-row_scale, length-combine}
use Rattle.ore_laws.specs.Columns.{IsTakenToZeros}

module _ (K : Domain) where
  abbrev pub opposite : Operator K → Operator K
  opposite f = scale K plain_cmp (K.minus K.one) f

  pub plus-opposite : (f : Operator K) → plus K plain_cmp f (opposite f) ≡ empty_sum K plain_cmp
  plus-opposite f = Operators.plus_opposite K f

module _ (K : Domain) (s : Signature) where
  unfoldable pub column_scale : Row K → Operator K → Row K
  column_scale v p = map (λ f. times K s f p) v

  pub zero-times : (f : Operator K) → times K s (empty_sum K plain_cmp) f ≡ empty_sum K plain_cmp
  zero-times f = Operators.linear-empty_sum K (times-linear_left K s f)

  pub times-zero : (f : Operator K) → times K s f (empty_sum K plain_cmp) ≡ empty_sum K plain_cmp
  times-zero f = Operators.linear-empty_sum K (times-linear_right K s f)

  pub times-opposite : (f g : Operator K) → times K s f (opposite K g) ≡ opposite K (times K s f g)
  times-opposite f g = (times-linear_right K s f).scale (K.minus K.one) g

  pub opposite-times : (f g : Operator K) → times K s (opposite K f) g ≡ opposite K (times K s f g)
  opposite-times f g = (times-linear_left K s g).scale (K.minus K.one) f

  pub dot-zero_row : (n : ℕ) (v : Row K) → dot K s (zero_row K n) v ≡ empty_sum K plain_cmp
  unfolding dot zero_row
  dot-zero_row zero v = refl
  dot-zero_row (suc n) [] = refl
  dot-zero_row (suc n) (f ∷ v) = (λ i. plus K plain_cmp (zero-times f i) (dot-zero_row n v i)) ∙ Operators.plus_zero K _

  -- (r + q) v = r v + q v
  pub dot-row_plus : (r q v : Row K) → length r ≡ length q → dot K s (row_plus K r q) v ≡ plus K plain_cmp (dot K s r v) (dot K s q v)
  unfolding dot row_plus
  dot-row_plus [] [] v e = sym (Operators.plus_zero K _)
  dot-row_plus [] (b ∷ q) v e = absurd (omega arith)
  dot-row_plus (a ∷ r) [] v e = absurd (omega arith)
  dot-row_plus (a ∷ r) (b ∷ q) [] e = sym (Operators.plus_zero K _)
  dot-row_plus (a ∷ r) (b ∷ q) (f ∷ v) e = (λ i. plus K plain_cmp ((times-linear_left K s f).plus a b i) (dot-row_plus r q v (ap pred e) i)) ∙ Operators.plus-swap K _ _ _ _

  -- r (v + w) = r v + r w
  pub dot-sum : (r v w : Row K) → length v ≡ length w → dot K s r (row_plus K v w) ≡ plus K plain_cmp (dot K s r v) (dot K s r w)
  unfolding dot row_plus
  dot-sum [] v w e = sym (Operators.plus_zero K _)
  dot-sum (a ∷ r) [] [] e = sym (Operators.plus_zero K _)
  dot-sum (a ∷ r) [] (g ∷ w) e = absurd (omega arith)
  dot-sum (a ∷ r) (f ∷ v) [] e = absurd (omega arith)
  dot-sum (a ∷ r) (f ∷ v) (g ∷ w) e = (λ i. plus K plain_cmp ((times-linear_right K s a).plus f g i) (dot-sum r v w (ap pred e) i)) ∙ Operators.plus-swap K _ _ _ _

  pub length-column_scale : (v : Row K) (p : Operator K) → length (column_scale v p) ≡ length v
  unfolding column_scale
  length-column_scale [] p = refl
  length-column_scale (f ∷ v) p = ap suc (length-column_scale v p)

  -- ---- of the signature

  pub of_opposite : (f : Operator K) → OperatorOf K s f → OperatorOf K s (opposite K f)
  of_opposite f h = of_scale K s (K.minus K.one) f h

  pub of_column_scale : (v : Row K) (p : Operator K) → OperatorOf K s p → RowOf K s v → RowOf K s (column_scale v p)
  unfolding column_scale
  of_column_scale [] p o h = tt
  of_column_scale (f ∷ v) p o h = (of_times K s f p h.0 o, of_column_scale v p o h.1)

  pub of_dot : (r v : Row K) → RowOf K s r → RowOf K s v → OperatorOf K s (dot K s r v)
  unfolding dot
  of_dot [] v h k = of_none K s
  of_dot (a ∷ r) [] h k = of_none K s
  of_dot (a ∷ r) (f ∷ v) h k = of_plus K s _ _ (of_times K s a f h.0 k.0) (of_dot r v h.1 k.1)

module _ (K : Domain) (s : Signature) (lawful : IsLawful s) where
  -- (d r) v = d (r v)
  pub dot-row_scale : (d : Operator K) (r v : Row K) → dot K s (row_scale K s d r) v ≡ times K s d (dot K s r v)
  unfolding dot row_scale
  dot-row_scale d [] v = sym (times-zero K s d)
  dot-row_scale d (a ∷ r) [] = sym (times-zero K s d)
  dot-row_scale d (a ∷ r) (f ∷ v) = (λ i. plus K plain_cmp (times_assoc K s lawful d a f i) (dot-row_scale d r v i)) ∙ sym ((times-linear_right K s d).plus _ _)

  -- r (v p) = (r v) p
  pub dot-column_scale : (r v : Row K) (p : Operator K) → dot K s r (column_scale K s v p) ≡ times K s (dot K s r v) p
  unfolding dot column_scale
  dot-column_scale [] v p = sym (zero-times K s p)
  dot-column_scale (a ∷ r) [] p = sym (zero-times K s p)
  dot-column_scale (a ∷ r) (f ∷ v) p = (λ i. plus K plain_cmp (sym (times_assoc K s lawful a f p) i) (dot-column_scale r v p i)) ∙ sym ((times-linear_left K s p).plus _ _)

  -- what takes each row to zero takes their combinations to zero
  pub dot-combine : (n : ℕ) (c : Row K) (rows : List (Row K)) (v : Row K) → AreLong K n rows → IsTakenToZeros K s rows v → dot K s (combine K s n c rows) v ≡ empty_sum K plain_cmp
  unfolding combine
  dot-combine n [] rows v h z = dot-zero_row K s n v
  dot-combine n (c ∷ cs) [] v h z = dot-zero_row K s n v
  dot-combine n (c ∷ cs) (r ∷ rs) v h z =
      dot-row_plus K s _ _ v (length-row_scale K s lawful c r ∙ h.0 ∙ sym (length-combine K s lawful n cs rs h.1))
      ∙ (λ i. plus K plain_cmp ((dot-row_scale c r v ∙ ap (times K s c) z.0 ∙ times-zero K s c) i) (dot-combine n cs rs v h.1 z.1 i))
      ∙ Operators.plus_zero K _
