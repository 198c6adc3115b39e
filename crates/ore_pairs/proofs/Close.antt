-- Two rows of a basis are close where, wherever multiples of their leads meet, the two multiples differ by a member of a
-- module N of rows of cofactors and by what is below the meeting term.
--     difference               the monomial q at place i, less the monomial r at place j
--     AreClose                 at each meeting term, whatever multiple of the least one it is
--     s_row-identity_rows      the row of cofactors of a pair is a difference
--     close_itself, close_turned, close_through      closeness is reflexive, symmetric, and passes through a third row
--     close_skip               so a pair is close via a row whose lead divides the pair's common multiple
--     close_pair               and a treated pair is close where its syzygy is in N
use Rattle.std.proofs.Common.{◌≡◌, ℕ, ◌<◌, List, [], ◌∷◌, length, refl, sym, ap, ◌∙◌, subst}
use Rattle.std.specs.declared.cmp.Ordering.TheVariants.{Less}
use Rattle.std.specs.List.{AllByRecursion}
use Rattle.ore_algebra.specs.Domain.{Domain}
use Rattle.ore_algebra.specs.Free.{single}
use Rattle.ore_monomial.specs.Monomial.{Monomial, product, lcm, quotient, Divides, plain_cmp}
use Rattle.ore_monomial.specs.Term.{Term, term_cmp, shift}
use Rattle.ore_monomial.specs.declared.order.Order.{Order}
use Rattle.ore_monomial.specs.Signature.{Signature, MonomialOf, IsLawful}
use Rattle.ore_monomial.specs.LetterRule.{Operator}
use Rattle.ore_monomial.proofs.Declared.{MonomialOf-product, MonomialOf-quotient, MonomialOf-lcm}
use Rattle.ore_monomial.proofs.Divisors.{product_assoc, product-quotient, divides-product, divides-lcm_left, divides-lcm_right, lcm-divides, divides_trans}
use Rattle.ore_monomial.proofs.Monomials.{product_comm, product-cancel}
use Rattle.ore_monomial.proofs.TermOrder.{same_term}
use Rattle.ore_ring.specs.Product.{times}
use Rattle.ore_ring.proofs.Belonging.{of_single}
use Rattle.ore_rows.specs.Rows.{Row, RowOf, zero_row, row_plus, row_minus, row_scale, identity_rows}
use Rattle.ore_rows.proofs.Differences.{row_minus_self, row_minus_back, length-row_minus, of_row_minus}
use Rattle.ore_rows.proofs.RowLaws as Rows
use Rattle.ore_rows.proofs.UnitRows.{row-identity_rows}
use Rattle.ore_rows.proofs.RowLaws.{plus-zero_row}
use Rattle.ore_pairs.specs.Steps.{Step, AreStepsOf, lead_at, lcm_of_leads, step_row, remainder_after, s_row, syzygy}
use Rattle.ore_pairs.specs.PairList.{IsBelowStep}
use Rattle.ore_pairs.proofs.RowSums.{row_assoc, scale-row_minus, row_minus-row_plus, row_minus_through, row_minus_turned}
use Rattle.ore_pairs.proofs.Places.{place, of_place, length-place, place-plus, scale-place}
use Rattle.ore_pairs.proofs.Tails.{only_monomial, IsProductTail, product_tail}
use Rattle.ore_pairs.proofs.BelowModulo.{weight, weight_cmp, IsBelow, below-zero_row, below-row_plus, below-place, below-row_minus, IsSubmodule, IsBelowModulo, below_modulo_below, below_modulo_zero, below_modulo-row_plus, below_modulo-row_scale, below_modulo_number}

module _ (K : Domain) (s : Signature) where
  abbrev pub difference : ℕ → ℕ → Monomial → ℕ → Monomial → Row K
  difference n i q j r = row_minus K (place K s n i (single K plain_cmp q K.one)) (place K s n j (single K plain_cmp r K.one))

  -- a term at an index of n rows is that term at a place
  pub step_row-identity_rows : (n : ℕ) (t : Step K) → t.index < n → step_row K s (identity_rows K n) t ≡ place K s n t.index (single K plain_cmp t.monomial t.number)
  step_row-identity_rows n t h = ap (row_scale K s (single K plain_cmp t.monomial t.number)) (row-identity_rows K n t.index h)

  pub s_row-identity_rows : (n : ℕ) (leads : List Term) (i j : ℕ) → i < n → j < n
      → s_row K s leads (identity_rows K n) i j ≡ difference n i (quotient (lcm_of_leads leads i j).monomial (lead_at leads i).monomial) j (quotient (lcm_of_leads leads i j).monomial (lead_at leads j).monomial)
  unfolding s_row
  s_row-identity_rows n leads i j il jl =
      let c = (lcm_of_leads leads i j).monomial in
      λ e. row_minus K (row_scale K s (single K plain_cmp (quotient c (lead_at leads i).monomial) K.one) (row-identity_rows K n i il e)) (row_scale K s (single K plain_cmp (quotient c (lead_at leads j).monomial) K.one) (row-identity_rows K n j jl e))

module _ (K : Domain) (s : Signature) (lawful : IsLawful s) (o : Order) (leads : List Term) (n : ℕ) where
  pub length-difference : (i : ℕ) (q : Monomial) (j : ℕ) (r : Monomial) → length (difference K s n i q j r) ≡ n
  length-difference i q j r = length-row_minus K s lawful n _ _ (length-place K s lawful n i _) (length-place K s lawful n j _)

  pub of_difference : (i : ℕ) (q : Monomial) (j : ℕ) (r : Monomial) → MonomialOf s q → MonomialOf s r → RowOf K s (difference K s n i q j r)
  of_difference i q j r oq or = of_row_minus K s _ _ (of_place K s n i _ (of_single K s q K.one oq)) (of_place K s n j _ (of_single K s r K.one or))

  -- what steps below t take away: a row of n entries of the signature, below t
  record IsTaken (t : Term) (steps : List (Step K)) (z rest : Row K) : Type 0 where
    long : length rest ≡ n
    of : RowOf K s rest
    low : IsBelow K o leads t rest
    is : z ≡ row_plus K (remainder_after K s (identity_rows K n) steps z) rest

  taken : (t : Term) (steps : List (Step K)) (z : Row K) → length leads ≡ n → length z ≡ n → AllByRecursion (IsBelowStep K o leads t) steps → AreStepsOf K s steps → (rest : Row K) × IsTaken t steps z rest
  unfolding remainder_after
  taken t [] z e l h os = (zero_row K n, record { long = Rows.length-zero_row K s lawful n; of = Rows.of_zero_row K s n; low = below-zero_row K s lawful o leads t n; is = sym (plus-zero_row K n z l) })
  taken t (step ∷ steps) z e l h os = more (taken t steps (row_minus K z x) e (length-row_minus K s lawful n z x l lx) h.1 os.1)
    where
      x : Row K
      x = step_row K s (identity_rows K n) step

      within : step.index < n
      within = subst (λ m. step.index < m) e h.0.within

      placed : place K s n step.index (single K plain_cmp step.monomial step.number) ≡ x
      placed = sym (step_row-identity_rows K s n step within)

      lx : length x ≡ n
      lx = subst (λ x. length x ≡ n) placed (length-place K s lawful n step.index _)

      ox : RowOf K s x
      ox = subst (RowOf K s) placed (of_place K s n step.index _ (of_single K s step.monomial step.number os.0))

      low : IsBelow K o leads t x
      low = subst (IsBelow K o leads t) placed (below-place K s lawful o leads t n step.index _ within (λ q u. subst (λ q. term_cmp o (weight leads step.index q) t ≡ Less) (sym (only_monomial K step.monomial q step.number u)) h.0.low))

      more : (rest : Row K) × IsTaken t steps (row_minus K z x) rest → (rest : Row K) × IsTaken t (step ∷ steps) z rest
      more (rest, ih) = (
        row_plus K rest x,
        record {
          long = Rows.length-row_plus K s lawful n rest x ih.long lx;
          of = Rows.of_row_plus K s rest x ih.of ox;
          low = below-row_plus K s lawful o leads t rest x (ih.long ∙ sym lx) ih.low low;
          is = sym (row_minus_back K z x (l ∙ sym lx)) ∙ ap (λ r. row_plus K r x) ih.is ∙ row_assoc K _ rest x;
        },
      )

  module _ (N : Row K → Type 0) (sub : IsSubmodule K s n N) where
    abbrev BelowModulo : Term → Row K → Type 0
    BelowModulo t z = IsBelowModulo K s o leads n N t z

    abbrev pub AreClose : ℕ → ℕ → Type 0
    AreClose i j = (q r : Monomial) → MonomialOf s q → MonomialOf s r → weight leads i q ≡ weight leads j r → BelowModulo (weight leads i q) (difference K s n i q j r)

    pub close_itself : (i : ℕ) → AreClose i i
    close_itself i q r oq or e =
        let l = (lead_at leads i).monomial in
        let same : q ≡ r = product-cancel l q r (product_comm l q ∙ ap (λ t. t.monomial) e ∙ product_comm r l) in
        subst (BelowModulo (weight leads i q)) (sym (ap (λ r. difference K s n i q i r) (sym same) ∙ row_minus_self K _ ∙ ap (zero_row K) (length-place K s lawful n i _))) (below_modulo_zero K s lawful o leads n N sub (weight leads i q))

    pub close_turned : (i j : ℕ) → AreClose i j → AreClose j i
    close_turned i j h q r oq or e = subst (BelowModulo (weight leads j q)) (sym (row_minus_turned K s lawful _ _)) (below_modulo_number K s lawful o leads n N sub (weight leads j q) (K.minus K.one) _ (subst (λ t. BelowModulo t (difference K s n i r j q)) (sym e) (h r q or oq (sym e))))

    -- a multiple of the lead of row k meets t
    abbrev Meets : ℕ → Term → Type 0
    Meets k t = (w : Monomial) × MonomialOf s w × (weight leads k w ≡ t)

    close_through : (i k j : ℕ) → AreClose i k → AreClose k j → ((q r : Monomial) → MonomialOf s q → weight leads i q ≡ weight leads j r → Meets k (weight leads i q)) → AreClose i j
    close_through i k j h g find q r oq or e = by (find q r oq e)
      where
        by : Meets k (weight leads i q) → BelowModulo (weight leads i q) (difference K s n i q j r)
        by (w, ow, f) =
            subst (BelowModulo (weight leads i q)) (sym (row_minus_through K s lawful _ _ (place K s n k (single K plain_cmp w K.one)) (length-place K s lawful n i _ ∙ sym (length-place K s lawful n k _))))
            (below_modulo-row_plus K s lawful o leads n N sub (weight leads i q) _ _ (h q w oq ow (sym f)) (subst (λ t. BelowModulo t (difference K s n k w j r)) f (g w r ow or (f ∙ e))))

    -- where two multiples meet, the common multiple of the leads divides
    common_divides : (i j : ℕ) (q r : Monomial) → weight leads i q ≡ weight leads j r → Divides (lcm_of_leads leads i j).monomial (product q (lead_at leads i).monomial)
    common_divides i j q r e = lcm-divides _ _ _ (divides-product q _) (subst (Divides (lead_at leads j).monomial) (sym (ap (λ t. t.monomial) e)) (divides-product r _))

    module _ (declared : (k : ℕ) → MonomialOf s (lead_at leads k).monomial) where
      pub close_skip : (i j k : ℕ) → (lead_at leads k).column ≡ (lead_at leads i).column → Divides (lead_at leads k).monomial (lcm_of_leads leads i j).monomial → AreClose i k → AreClose k j → AreClose i j
      close_skip i j k c d h g = close_through i k j h g (λ q r oq e.
          let m = product q (lead_at leads i).monomial in (
            quotient m (lead_at leads k).monomial,
            MonomialOf-quotient s m _ (MonomialOf-product s q _ oq (declared i)),
            same_term _ _ (product-quotient m (lead_at leads k).monomial (divides_trans _ _ _ d (common_divides i j q r e))) c,
          ))

      module _ (i j : ℕ) (il : i < n) (jl : j < n) (columns : (lead_at leads i).column ≡ (lead_at leads j).column) where
        abbrev li : Monomial
        li = (lead_at leads i).monomial

        abbrev lj : Monomial
        lj = (lead_at leads j).monomial

        abbrev m : Monomial
        m = lcm li lj

        abbrev ai : Monomial
        ai = quotient m li

        abbrev aj : Monomial
        aj = quotient m lj

        weight_first : (w : Monomial) → weight leads i (product w ai) ≡ shift w (lcm_of_leads leads i j)
        weight_first w = same_term _ _ (product_assoc w ai li ∙ ap (product w) (product-quotient m li (divides-lcm_left li lj))) refl

        weight_second : (w : Monomial) → weight leads j (product w aj) ≡ shift w (lcm_of_leads leads i j)
        weight_second w = same_term _ _ (product_assoc w aj lj ∙ ap (product w) (product-quotient m lj (divides-lcm_right li lj))) (sym columns)

        om : MonomialOf s m
        om = MonomialOf-lcm s li lj (declared i) (declared j)

        -- from the pair's common multiple to its multiple by w
        below_modulo_multiple : (w : Monomial) → MonomialOf s w → BelowModulo (lcm_of_leads leads i j) (difference K s n i ai j aj) → BelowModulo (shift w (lcm_of_leads leads i j)) (difference K s n i (product w ai) j (product w aj))
        below_modulo_multiple w ow h = subst (BelowModulo t) (sym is) (below_modulo-row_plus K s lawful o leads n N sub t _ _ (below_modulo-row_scale K s lawful o leads n N sub (lcm_of_leads leads i j) w K.one _ ow h) below)
          where
            t : Term
            t = shift w (lcm_of_leads leads i j)

            x : Operator K
            x = single K plain_cmp w K.one

            a : (r : Operator K) × IsProductTail K s lawful o w ai r
            a = product_tail K s lawful o w ai

            b : (r : Operator K) × IsProductTail K s lawful o w aj r
            b = product_tail K s lawful o w aj

            pa : Row K
            pa = place K s n i a.0

            pb : Row K
            pb = place K s n j b.0

            below : BelowModulo t (row_minus K pa pb)
            below = below_modulo_below K s lawful o leads n N sub t _
                (length-row_minus K s lawful n pa pb (length-place K s lawful n i a.0) (length-place K s lawful n j b.0))
                (of_row_minus K s pa pb (of_place K s n i a.0 (a.1.of ow (MonomialOf-quotient s m li om))) (of_place K s n j b.0 (b.1.of ow (MonomialOf-quotient s m lj om))))
                (below-row_minus K s lawful o leads t pa pb (length-place K s lawful n i a.0 ∙ sym (length-place K s lawful n j b.0))
                (below-place K s lawful o leads t n i a.0 il (λ q u. ap (term_cmp o (weight leads i q)) (sym (weight_first w)) ∙ weight_cmp o leads i q (product w ai) ∙ a.1.low q u))
                (below-place K s lawful o leads t n j b.0 jl (λ q u. ap (term_cmp o (weight leads j q)) (sym (weight_second w)) ∙ weight_cmp o leads j q (product w aj) ∙ b.1.low q u)))

            is : difference K s n i (product w ai) j (product w aj) ≡ row_plus K (row_scale K s x (difference K s n i ai j aj)) (row_minus K pa pb)
            is = (λ e. row_minus K (place K s n i (a.1.is e)) (place K s n j (b.1.is e)))
                ∙ (λ e. row_minus K (place-plus K s n i (times K s x (single K plain_cmp ai K.one)) a.0 e) (place-plus K s n j (times K s x (single K plain_cmp aj K.one)) b.0 e))
                ∙ row_minus-row_plus K s lawful _ _ pa pb
                ∙ ap (λ r. row_plus K r (row_minus K pa pb)) (sym (scale-row_minus K s x _ _ ∙ (λ e. row_minus K (scale-place K s lawful x n i (single K plain_cmp ai K.one) e) (scale-place K s lawful x n j (single K plain_cmp aj K.one) e))))

        -- the pair's row of cofactors is near its common multiple, where its syzygy is in N
        below_modulo_pair : (steps : List (Step K)) → length leads ≡ n → AllByRecursion (IsBelowStep K o leads (lcm_of_leads leads i j)) steps → AreStepsOf K s steps → N (syzygy K s n leads i j steps) → BelowModulo (lcm_of_leads leads i j) (difference K s n i ai j aj)
        below_modulo_pair steps e h os member = subst (BelowModulo (lcm_of_leads leads i j)) (s_row-identity_rows K s n leads i j il jl) (by (taken (lcm_of_leads leads i j) steps z e lz h os))
          where
            z : Row K
            z = s_row K s leads (identity_rows K n) i j

            lz : length z ≡ n
            lz = ap length (s_row-identity_rows K s n leads i j il jl) ∙ length-difference i ai j aj

            by : (rest : Row K) × IsTaken (lcm_of_leads leads i j) steps z rest → BelowModulo (lcm_of_leads leads i j) z
            by (rest, t) = record { part = syzygy K s n leads i j steps; rest = rest; member = member; long = t.long; of = t.of; low = t.low; is = t.is }

        pub close_pair : (steps : List (Step K)) → length leads ≡ n → AllByRecursion (IsBelowStep K o leads (lcm_of_leads leads i j)) steps → AreStepsOf K s steps → N (syzygy K s n leads i j steps) → AreClose i j
        close_pair steps e h os member q r oq or meet =
            subst (λ t. BelowModulo t (difference K s n i q j r)) (same_term _ _ back refl)
            (subst (BelowModulo (shift w (lcm_of_leads leads i j))) (λ e. difference K s n i (sym qs e) j (sym rs e)) (below_modulo_multiple w ow (below_modulo_pair steps e h os member)))
          where
            w : Monomial
            w = quotient (product q li) m

            ow : MonomialOf s w
            ow = MonomialOf-quotient s (product q li) m (MonomialOf-product s q li oq (declared i))

            back : product w m ≡ product q li
            back = product-quotient (product q li) m (common_divides i j q r meet)

            cancel : (l q r : Monomial) → product q l ≡ product r l → q ≡ r
            cancel l q r e = product-cancel l q r (product_comm l q ∙ e ∙ product_comm r l)

            qs : q ≡ product w ai
            qs = cancel li q (product w ai) (sym back ∙ sym (ap (λ t. t.monomial) (weight_first w)))

            rs : r ≡ product w aj
            rs = cancel lj r (product w aj) (sym (ap (λ t. t.monomial) meet) ∙ sym back ∙ sym (ap (λ t. t.monomial) (weight_second w)))
