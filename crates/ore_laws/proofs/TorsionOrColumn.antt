-- Each row is torsion modulo some rows, or a column separates it from them: which of the two is found out, by common
-- multiples of operators.
--     is_zero                  an operator is zero or not
--     row_cancel                              sums of rows
--     one, one_apart, one_scale, plus-opposite_row     the operator 1, and rows times it
--     CommonLeft, CommonRight  a common multiple of any operator and one that isn't zero
--     Torsion                  a row is torsion, with the operator and the cofactors
--     base                     modulo no rows
--     of_torsion, of_column    with one more row, which is torsion; which a column separates
--     torsion_or_column        the law
use Rattle.std.proofs.Common.{◌≡◌, ◌≢◌, ◌⊎◌, inl, inr, ⊎_elim, ℕ, suc, List, [], ◌∷◌, length, refl, sym, ap, ◌∙◌}
use Rattle.std.specs.List.{AllByRecursion}
use Rattle.ore_algebra.specs.Domain.{Domain, HasInverses}
use Rattle.ore_algebra.specs.Free.{empty_sum, single, plus, coefficient}
use Rattle.ore_monomial.specs.Monomial.{plain_cmp, unit}
use Rattle.ore_monomial.specs.declared.order.Order.TheVariants.{DegLex}
use Rattle.ore_monomial.specs.Signature.{Signature, IsLawful}
use Rattle.ore_monomial.specs.LetterRule.{Operator}
use Rattle.ore_monomial.proofs.Declared.{MonomialOf-unit}
use Rattle.ore_monomial.proofs.Operators
use Rattle.ore_ring.specs.Product.{times}
use Rattle.ore_ring.specs.Belongs.{OperatorOf}
use Rattle.ore_ring.proofs.Belonging.{of_none, of_single, of_times}
use Rattle.ore_ring.proofs.Product.{times-linear_left, times-linear_right, times_assoc, times-one, one-times}
use Rattle.ore_ring.proofs.NoZeroDivisor.{no_zero_divisor, lead_of, lead_apart}
use Rattle.ore_rows.specs.Rows.{Row, RowOf, AreLong, zero_row, row_plus, row_scale, combine, dot, InRowModule, IsTorsion}
use Rattle.ore_rows.proofs.RowLaws.{length-row_scale, length-row_plus, length-zero_row, length-combine, of_zero_row, of_row_plus, of_row_scale, scale-row_plus, scale-scale, scale_sum, zero_scale_row, zero_row_plus, row_swap, plus-zero_row, dot-zero_column}
use Rattle.ore_laws.specs.Columns.{IsTakenToZeros, Separates}
use Rattle.ore_laws.proofs.CommonMultiples.{common_left_multiple, common_right_multiple}
use Rattle.ore_laws.proofs.ColumnProducts.{opposite, plus-opposite, column_scale, zero-times, times-zero, times-opposite, opposite-times, dot-row_plus, dot-sum, length-column_scale, of_opposite, of_column_scale, of_dot, dot-row_scale, dot-column_scale, dot-combine}

-- ---- rows

module _ (K : Domain) where
  pub is_zero : (f : Operator K) → Dec (f ≡ empty_sum K plain_cmp)
  is_zero f = ⊎_elim (λ e. yes e) (λ l. no (lead_apart K DegLex l.1)) (lead_of K DegLex f)

  -- x + (z + y) = z where x + y = 0
  pub row_cancel : (n : ℕ) (x y z : Row K) → length x ≡ n → length z ≡ n → row_plus K x y ≡ zero_row K n → row_plus K x (row_plus K z y) ≡ z
  row_cancel n x y z lx lz e =
      ap (λ r. row_plus K r (row_plus K z y)) (sym (zero_row_plus K n x lx))
      ∙ row_swap K (zero_row K n) x z y
      ∙ (λ i. row_plus K (zero_row_plus K n z lz i) (e i))
      ∙ plus-zero_row K n z lz

  abbrev pub one : Operator K
  one = single K plain_cmp unit K.one

  pub one_apart : one ≢ empty_sum K plain_cmp
  one_apart e = K.one_apart (sym (Operators.coefficient-own K unit K.one) ∙ ap (λ f. coefficient K plain_cmp f unit) e ∙ Operators.coefficient-empty_sum K unit)

module _ (K : Domain) (s : Signature) where
  pub of_one : OperatorOf K s (one K)
  of_one = of_single K s unit K.one (MonomialOf-unit s)

module _ (K : Domain) (s : Signature) (lawful : IsLawful s) where
  pub one_scale : (z : Row K) → row_scale K s (one K) z ≡ z
  unfolding row_scale
  one_scale [] = refl
  one_scale (f ∷ z) = λ i. one-times K s lawful f i ∷ one_scale z i

  pub plus-opposite_row : (n : ℕ) (x : Row K) → length x ≡ n → row_plus K x (row_scale K s (opposite K (one K)) x) ≡ zero_row K n
  plus-opposite_row n x l =
      (λ i. row_plus K (sym (one_scale x) i) (row_scale K s (opposite K (one K)) x))
      ∙ sym (scale_sum K s (one K) (opposite K (one K)) x)
      ∙ ap (λ d. row_scale K s d x) (plus-opposite K (one K))
      ∙ zero_scale_row K s n x l

-- ---- common multiples

module _ (K : Domain) (s : Signature) where
  record CommonLeft (f g : Operator K) : Type 0 where
    left : Operator K
    right : Operator K
    of_left : OperatorOf K s left
    of_right : OperatorOf K s right
    left_apart : left ≢ empty_sum K plain_cmp
    meet : times K s left f ≡ times K s right g

  record CommonRight (f g : Operator K) : Type 0 where
    left : Operator K
    right : Operator K
    of_left : OperatorOf K s left
    of_right : OperatorOf K s right
    left_apart : left ≢ empty_sum K plain_cmp
    meet : times K s f left ≡ times K s g right

  common_left : HasInverses K → (f g : Operator K) → OperatorOf K s f → OperatorOf K s g → g ≢ empty_sum K plain_cmp → CommonLeft f g
  common_left inverses f g of_f of_g apart = by (is_zero K f)
    where
      by : Dec (f ≡ empty_sum K plain_cmp) → CommonLeft f g
      by (yes e) = record { left = one K; right = empty_sum K plain_cmp; of_left = of_one K s; of_right = of_none K s; left_apart = one_apart K; meet = ap (times K s (one K)) e ∙ times-zero K s (one K) ∙ sym (zero-times K s g) }
      by (no n) = let c = common_left_multiple K s inverses f g of_f of_g n apart in record { left = c.0; right = c.1; of_left = c.2; of_right = c.3; left_apart = c.4; meet = c.6 }

  common_right : HasInverses K → (f g : Operator K) → OperatorOf K s f → OperatorOf K s g → g ≢ empty_sum K plain_cmp → CommonRight f g
  common_right inverses f g of_f of_g apart = by (is_zero K f)
    where
      by : Dec (f ≡ empty_sum K plain_cmp) → CommonRight f g
      by (yes e) = record { left = one K; right = empty_sum K plain_cmp; of_left = of_one K s; of_right = of_none K s; left_apart = one_apart K; meet = ap (λ h. times K s h (one K)) e ∙ zero-times K s (one K) ∙ sym (times-zero K s g) }
      by (no n) = let c = common_right_multiple K s inverses f g of_f of_g n apart in record { left = c.0; right = c.1; of_left = c.2; of_right = c.3; left_apart = c.4; meet = c.6 }

-- ---- torsion, with its operator and cofactors

module _ (K : Domain) (s : Signature) where
  pub record Torsion (n : ℕ) (a : List (Row K)) (z : Row K) : Type 0 where
    pub multiplier : Operator K
    pub apart : multiplier ≢ empty_sum K plain_cmp
    pub of_multiplier : OperatorOf K s multiplier
    pub cofactors : Row K
    pub long : length cofactors ≡ length a
    pub of_cofactors : RowOf K s cofactors
    pub meets : combine K s n cofactors a ≡ row_scale K s multiplier z

  pub is_torsion : (n : ℕ) (a : List (Row K)) (z : Row K) → Torsion n a z → IsTorsion K s n a z
  unfolding IsTorsion InRowModule
  is_torsion n a z t = (t.multiplier, t.of_multiplier, t.apart, (t.cofactors, t.long, t.of_cofactors, t.meets))

  pub torsion_is : (n : ℕ) (a : List (Row K)) (z : Row K) → IsTorsion K s n a z → Torsion n a z
  unfolding IsTorsion InRowModule
  torsion_is n a z (d, of, apart, (c, long, of_c, e)) = record { multiplier = d; apart = apart; of_multiplier = of; cofactors = c; long = long; of_cofactors = of_c; meets = e }

  abbrev Decided : ℕ → List (Row K) → Row K → Type 0
  Decided n a z = Torsion n a z ⊎ ((v : Row K) × Separates K s n a z v)

module _ (K : Domain) (s : Signature) (lawful : IsLawful s) (n : ℕ) where
  -- ---- no rows

  -- a row is zeros, or some column doesn't take it to zero
  Zeros : Row K → Type 0
  Zeros z = (z ≡ zero_row K (length z)) ⊎ ((v : Row K) × (length v ≡ length z) × RowOf K s v × (dot K s z v ≢ empty_sum K plain_cmp))

  zeros : (z : Row K) → Zeros z
  unfolding Zeros zero_row dot
  zeros [] = inl refl
  zeros (f ∷ z) = by (is_zero K f) (zeros z)
    where
      by : Dec (f ≡ empty_sum K plain_cmp) → Zeros z → Zeros (f ∷ z)
      by (yes e) (inl all) = inl (λ i. e i ∷ all i)
      by (yes e) (inr (v, l, o, k)) = inr (
        empty_sum K plain_cmp ∷ v,
        ap suc l,
        (of_none K s, o),
        λ h. k (sym (Operators.zero-plus K _) ∙ ap (λ g. plus K plain_cmp g (dot K s z v)) (sym (times-zero K s f)) ∙ h),
      )
      by (no m) rest = inr (
        one K ∷ zero_row K (length z),
        ap suc (length-zero_row K s lawful (length z)),
        (of_one K s, of_zero_row K s (length z)),
        λ h. m (sym ((λ i. plus K plain_cmp (times-one K s lawful f i) (dot-zero_column K s z (length z) i)) ∙ Operators.plus_zero K f) ∙ h),
      )

  base : (z : Row K) → length z ≡ n → Decided K s n [] z
  unfolding Zeros combine
  base z lz = by (zeros z)
    where
      by : Zeros z → Decided K s n [] z
      by (inl e) = inl (record {
        multiplier = one K;
        apart = one_apart K;
        of_multiplier = of_one K s;
        cofactors = [];
        long = refl;
        of_cofactors = tt;
        meets = sym (one_scale K s lawful z ∙ e ∙ ap (zero_row K) lz);
      })
      by (inr (v, l, o, k)) = inr (v, record { long = l ∙ lz; of = o; zeros = tt; apart = k })

  -- ---- one more row

  module _ (r : Row K) (a : List (Row K)) (lr : length r ≡ n) (la : AreLong K n a) where
    more : (z : Row K) → Torsion K s n a z → Torsion K s n (r ∷ a) z
    unfolding combine
    more z t = record {
      multiplier = t.multiplier;
      apart = t.apart;
      of_multiplier = t.of_multiplier;
      cofactors = empty_sum K plain_cmp ∷ t.cofactors;
      long = ap suc t.long;
      of_cofactors = (of_none K s, t.of_cofactors);
      meets = (λ i. row_plus K (zero_scale_row K s n r lr i) (t.meets i)) ∙ ap (λ q. row_plus K (zero_row K n) q) (sym t.meets) ∙ zero_row_plus K n _ (length-combine K s lawful n t.cofactors a la) ∙ t.meets;
    }

    -- r is torsion modulo the others: what is at hand for z modulo them serves
    of_torsion : Torsion K s n a r → (z : Row K) → Decided K s n a z → Decided K s n (r ∷ a) z
    of_torsion t z (inl u) = inl (more z u)
    of_torsion t z (inr (v, h)) = inr (v, record { long = h.long; of = h.of; zeros = (here, h.zeros); apart = h.apart })
      where
        here : dot K s r v ≡ empty_sum K plain_cmp
        here = ⊎_elim (λ e. absurd (t.apart e)) (λ e. e) (no_zero_divisor K DegLex s lawful t.multiplier (dot K s r v)
            (sym (dot-row_scale K s lawful t.multiplier r v) ∙ ap (λ q. dot K s q v) (sym t.meets) ∙ dot-combine K s lawful n t.cofactors a v la h.zeros))

    -- u separates r from the others
    module _ (u : Row K) (sep : Separates K s n a r u) (z : Row K) (lz : length z ≡ n) (oz : RowOf K s z) (m : CommonLeft K s (dot K s z u) (dot K s r u)) where
      -- z less a multiple of r, which u takes to zero
      reduced : Row K
      reduced = row_plus K (row_scale K s m.left z) (row_scale K s (opposite K m.right) r)

      length-reduced : length reduced ≡ n
      unfolding reduced
      length-reduced = length-row_plus K s lawful n _ _ (length-row_scale K s lawful m.left z ∙ lz) (length-row_scale K s lawful (opposite K m.right) r ∙ lr)

      of_reduced : RowOf K s r → RowOf K s reduced
      unfolding reduced
      of_reduced of_r = of_row_plus K s _ _ (of_row_scale K s m.left z m.of_left oz) (of_row_scale K s (opposite K m.right) r (of_opposite K s m.right m.of_right) of_r)

      -- reduced v = left (z v) - right (r v)
      dot-reduced : (v : Row K) → dot K s reduced v ≡ plus K plain_cmp (times K s m.left (dot K s z v)) (times K s (opposite K m.right) (dot K s r v))
      unfolding reduced
      dot-reduced v = dot-row_plus K s _ _ v (length-row_scale K s lawful m.left z ∙ lz ∙ sym (length-row_scale K s lawful (opposite K m.right) r ∙ lr))
          ∙ (λ i. plus K plain_cmp (dot-row_scale K s lawful m.left z v i) (dot-row_scale K s lawful (opposite K m.right) r v i))

      of_reduced_torsion : Torsion K s n a reduced → Torsion K s n (r ∷ a) z
      unfolding combine reduced
      of_reduced_torsion t = record {
        multiplier = times K s t.multiplier m.left;
        apart = λ e. ⊎_elim t.apart m.left_apart (no_zero_divisor K DegLex s lawful t.multiplier m.left e);
        of_multiplier = of_times K s _ _ t.of_multiplier m.of_left;
        cofactors = times K s t.multiplier m.right ∷ t.cofactors;
        long = ap suc t.long;
        of_cofactors = (of_times K s _ _ t.of_multiplier m.of_right, t.of_cofactors);
        meets = ap (row_plus K x) (t.meets ∙ scale-row_plus K s t.multiplier _ _ ∙ (λ i. row_plus K (scale-scale K s lawful t.multiplier m.left z i) (scale-scale K s lawful t.multiplier (opposite K m.right) r i)))
            ∙ row_cancel K n x y _ (length-row_scale K s lawful _ r ∙ lr) (length-row_scale K s lawful _ z ∙ lz) none_left;
      }
        where
          x : Row K
          x = row_scale K s (times K s t.multiplier m.right) r

          y : Row K
          y = row_scale K s (times K s t.multiplier (opposite K m.right)) r

          none_left : row_plus K x y ≡ zero_row K n
          none_left = sym (scale_sum K s _ _ r) ∙ ap (λ d. row_scale K s d r) (ap (plus K plain_cmp (times K s t.multiplier m.right)) (times-opposite K s t.multiplier m.right) ∙ plus-opposite K _) ∙ zero_scale_row K s n r lr

      module _ (v : Row K) (w : Separates K s n a reduced v) (c : CommonRight K s (dot K s r v) (dot K s r u)) where
        -- v less a multiple of u, which r takes to zero
        joined : Row K
        joined = row_plus K (column_scale K s v c.left) (column_scale K s u (opposite K c.right))

        dot-joined : (q : Row K) → dot K s q joined ≡ plus K plain_cmp (times K s (dot K s q v) c.left) (times K s (dot K s q u) (opposite K c.right))
        unfolding joined
        dot-joined q = dot-sum K s q _ _ (length-column_scale K s v c.left ∙ w.long ∙ sym (length-column_scale K s u (opposite K c.right) ∙ sep.long))
            ∙ (λ i. plus K plain_cmp (dot-column_scale K s lawful q v c.left i) (dot-column_scale K s lawful q u (opposite K c.right) i))

        others : (b : List (Row K)) → IsTakenToZeros K s b v → IsTakenToZeros K s b u → IsTakenToZeros K s b joined
        others [] h k = tt
        others (q ∷ b) h k = (
          dot-joined q ∙ (λ i. plus K plain_cmp (times K s (h.0 i) c.left) (times K s (k.0 i) (opposite K c.right))) ∙ (λ i. plus K plain_cmp (zero-times K s c.left i) (zero-times K s (opposite K c.right) i)) ∙ Operators.plus_zero K _,
          others b h.1 k.1,
        )

        here : dot K s r joined ≡ empty_sum K plain_cmp
        here = dot-joined r ∙ (λ i. plus K plain_cmp (c.meet i) (times-opposite K s (dot K s r u) c.right i)) ∙ plus-opposite K _

        -- left (z joined) = (reduced v) left
        kept : times K s m.left (dot K s z joined) ≡ times K s (dot K s reduced v) c.left
        kept =
            ap (times K s m.left) (dot-joined z) ∙ (times-linear_right K s m.left).plus _ _
            ∙ (λ i. plus K plain_cmp (sym (times_assoc K s lawful m.left (dot K s z v) c.left) i) (second i))
            ∙ sym ((times-linear_left K s c.left).plus _ _)
            ∙ ap (λ f. times K s f c.left) (sym (dot-reduced v))
          where
            second : times K s m.left (times K s (dot K s z u) (opposite K c.right)) ≡ times K s (times K s (opposite K m.right) (dot K s r v)) c.left
            second =
                sym (times_assoc K s lawful _ _ _) ∙ times-opposite K s _ c.right ∙ ap (λ f. opposite K (times K s f c.right)) m.meet
                ∙ ap (opposite K) (times_assoc K s lawful m.right (dot K s r u) c.right ∙ ap (times K s m.right) (sym c.meet))
                ∙ sym (opposite-times K s m.right _) ∙ sym (times_assoc K s lawful (opposite K m.right) (dot K s r v) c.left)

        of_column : Separates K s n (r ∷ a) z joined
        unfolding joined
        of_column = record {
          long = long;
          of = of;
          zeros = (here, others a w.zeros sep.zeros);
          apart = λ e. ⊎_elim w.apart c.left_apart (no_zero_divisor K DegLex s lawful (dot K s reduced v) c.left (sym kept ∙ ap (times K s m.left) e ∙ times-zero K s m.left));
        }
          where
            long : length joined ≡ n
            long = length-row_plus K s lawful n _ _ (length-column_scale K s v c.left ∙ w.long) (length-column_scale K s u (opposite K c.right) ∙ sep.long)

            of : RowOf K s joined
            of = of_row_plus K s _ _ (of_column_scale K s v c.left c.of_left w.of) (of_column_scale K s u (opposite K c.right) (of_opposite K s c.right c.of_right) sep.of)

  -- ---- the law

  module _ (inverses : HasInverses K) where
    step : (r : Row K) (a : List (Row K)) → length r ≡ n → AreLong K n a → RowOf K s r
        → Decided K s n a r → ((z : Row K) → length z ≡ n → RowOf K s z → Decided K s n a z)
        → (z : Row K) → length z ≡ n → RowOf K s z → Decided K s n (r ∷ a) z
    step r a lr la of_r (inl t) before z lz oz = of_torsion r a lr la t z (before z lz oz)
    step r a lr la of_r (inr (u, sep)) before z lz oz = by (before (reduced r a lr la u sep z lz oz m) (length-reduced r a lr la u sep z lz oz m) (of_reduced r a lr la u sep z lz oz m of_r))
      where
        m : CommonLeft K s (dot K s z u) (dot K s r u)
        m = common_left K s inverses _ _ (of_dot K s z u oz sep.of) (of_dot K s r u of_r sep.of) sep.apart

        by : Decided K s n a (reduced r a lr la u sep z lz oz m) → Decided K s n (r ∷ a) z
        by (inl t) = inl (of_reduced_torsion r a lr la u sep z lz oz m t)
        by (inr (v, w)) =
            let c = common_right K s inverses _ _ (of_dot K s r v of_r w.of) (of_dot K s r u of_r sep.of) sep.apart in
            inr (joined r a lr la u sep z lz oz m v w c, of_column r a lr la u sep z lz oz m v w c)

    decided : (a : List (Row K)) → AreLong K n a → AllByRecursion (RowOf K s) a → (z : Row K) → length z ≡ n → RowOf K s z → Decided K s n a z
    decided [] la oa z lz oz = base z lz
    decided (r ∷ a) la oa z lz oz = step r a la.0 la.1 oa.0 (decided a la.1 oa.1 r la.0 oa.0) (decided a la.1 oa.1) z lz oz

    pub torsion_or_column : (a : List (Row K)) → AreLong K n a → AllByRecursion (RowOf K s) a → (z : Row K) → length z ≡ n → RowOf K s z → IsTorsion K s n a z ⊎ ((v : Row K) × Separates K s n a z v)
    torsion_or_column a la oa z lz oz = ⊎_elim (λ t. inl (is_torsion K s n a z t)) inr (decided a la oa z lz oz)
