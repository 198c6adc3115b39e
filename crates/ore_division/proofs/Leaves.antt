-- What lead reduction leaves, over any domain and any sound arithmetic.
--     reduction_ends           no lead of the basis divides the lead of the rest
--     reduction_takes          the steps and the rest make up the row, and likewise the cofactor row
--     reduction_stays_below    all of it stays below a term that is above the row
--     IsLeft, left             the rest is what the steps leave of the row, and likewise the cofactor row
--     sum-remainder_after                steps together with what they leave
--     row_plus-swap            sums of three rows
use Rattle.std.proofs.Common.{◌≡◌, ℕ, ◌<◌, List, [], ◌∷◌, ◌++◌, length, refl, sym, ap, ◌∙◌, subst, append_assoc, append-nil, arith}
use Rattle.std.specs.declared.result.Result.TheVariants.{Ok}
use Rattle.std.specs.Ordering.{is_gt}
use Rattle.std.specs.List.{All}
use Rattle.std.proofs.lemmas.List.{length-map, get_or-map}
use Rattle.std.proofs.lemmas.List.Elements.{All-nil, All-head, All-tail, All-push}
use Rattle.ore_algebra.specs.Domain.{Domain}
use Rattle.ore_algebra.specs.Free.{plus}
use Rattle.ore_monomial.specs.Monomial.{plain_cmp}
use Rattle.ore_monomial.specs.Signature.{Signature, IsLawful}
use Rattle.ore_monomial.specs.Term.{Term}
use Rattle.ore_monomial.proofs.Operators
use Rattle.ore_monomial.proofs.Orders.{upto_less}
use Rattle.ore_monomial.proofs.TermOrder.{term_total}
use Rattle.ore_leads.proofs.Dividing.{first_divisor-None}
use Rattle.ore_rows.specs.Rows.{Row, row_plus, row_minus}
use Rattle.ore_rows.specs.RowLead.{IsRowBelow}
use Rattle.ore_rows.specs.Arithmetic.{Arithmetic, IsSoundArithmetic}
use Rattle.ore_rows.specs.Reduction.{BasisRow, Step, ReductionState, basis_rows, cofactors_of, leads_of, row_at, origin, step_operator, remainder_after, reduce}
use Rattle.ore_rows.proofs.BasisParts.{long_at}
use Rattle.ore_rows.proofs.Differences.{row_minus_back, length-row_minus}
use Rattle.ore_rows.proofs.GreatestTerms.{row_lead-Some, row_lead_from}
use Rattle.ore_rows.proofs.RowLaws.{length-row_scale, zero_row_plus}
use Rattle.ore_division.specs.Laws.{step_multiple, steps_sum, IsMonicBasis, IsReduced, AreTaken, AreBelow}
use Rattle.ore_division.proofs.Steps.{IsReductionStep, next_step-Some, next_step-None, step_inside, multiple_lead, step_below}
use Rattle.ore_division.proofs.Reductions.{state_after_step, kept, reduced, remainder_after-push}

-- ---- sums of rows

module _ (K : Domain) where
  pub row_plus-swap : (a b c : Row K) → row_plus K (row_plus K a b) c ≡ row_plus K (row_plus K a c) b
  unfolding row_plus
  row_plus-swap [] b c = refl
  row_plus-swap (f ∷ a) [] [] = refl
  row_plus-swap (f ∷ a) [] (h ∷ c) = refl
  row_plus-swap (f ∷ a) (g ∷ b) [] = refl
  row_plus-swap (f ∷ a) (g ∷ b) (h ∷ c) = λ i. (Operators.plus_assoc K f g h ∙ ap (plus K plain_cmp f) (Operators.plus_comm K g h) ∙ sym (Operators.plus_assoc K f h g)) i ∷ row_plus-swap a b c i

-- no steps leave the row
after_none : (K : Domain) (s : Signature) (rows : List (Row K)) (z : Row K) → z ≡ remainder_after K s rows [] z
unfolding remainder_after
after_none K s rows z = refl

module _ (K : Domain) (s : Signature) (lawful : IsLawful s) (n : ℕ) (rows : List (Row K)) (wide : (i : ℕ) → i < length rows → length (row_at rows i) ≡ n) where
  long_multiple : (t : Step K) → t.index < length rows → length (step_multiple K s rows t) ≡ n
  long_multiple t h = length-row_scale K s lawful (step_operator K t) (row_at rows t.index) ∙ wide t.index h

  -- the steps and what they leave make up the row
  pub sum-remainder_after : (ts : List (Step K)) (z : Row K) → All (λ t. t.index < length rows) ts → length z ≡ n → row_plus K (steps_sum K s n rows ts) (remainder_after K s rows ts z) ≡ z
  unfolding steps_sum remainder_after
  sum-remainder_after [] z h l = zero_row_plus K n z l
  sum-remainder_after (t ∷ ts) z h l =
      let m = long_multiple t (All-head (λ (t : Step K). t.index < length rows) t ts h) in
      row_plus-swap K (steps_sum K s n rows ts) (step_multiple K s rows t) _
      ∙ ap (λ r. row_plus K r (step_multiple K s rows t)) (sum-remainder_after ts _ (All-tail (λ (t : Step K). t.index < length rows) t ts h) (length-row_minus K s lawful n z (step_multiple K s rows t) l m))
      ∙ row_minus_back K z (step_multiple K s rows t) (l ∙ sym m)

-- ---- reduction

module _ (K : Domain) (s : Signature) (lawful : IsLawful s) (A : Arithmetic K) (sound : IsSoundArithmetic K s A) (n m : ℕ) (basis : List (BasisRow (Row K))) (good : IsMonicBasis K s n m basis) where
  blank : BasisRow (Row K)
  blank = record { row = []; cofactor = []; lead = origin }

  pub reduction_ends : (w rest : ReductionState K) → length w.row ≡ n → reduce K s.order A basis w ≡ Ok rest → IsReduced K s basis rest.row
  reduction_ends w rest l e t k a i h =
      let none = reduced K s lawful s.order A sound basis n good.monic good.rows w rest l e in
      first_divisor-None (leads_of basis) t origin (next_step-None K s.order basis rest.row none t (row_lead_from K s.order rest.row t k a)) i (let same = length-map basis (λ b. b.lead) in omega arith)

  wide_row : (i : ℕ) → i < length (basis_rows basis) → length (row_at (basis_rows basis) i) ≡ n
  wide_row i h = let same = length-map basis (λ b. b.row) in let inside : i < length basis = omega arith in long_at K basis n good.rows i inside

  wide_cofactor : (i : ℕ) → i < length (cofactors_of basis) → length (row_at (cofactors_of basis) i) ≡ m
  wide_cofactor i h = let same = length-map basis (λ b. b.cofactor) in let inside : i < length basis = omega arith in ap length (get_or-map (λ b. b.cofactor) basis i blank [] inside) ∙ good.cofactors i blank inside

  -- the steps so far, and what they leave
  pub record IsLeft (w : ReductionState K) (steps : List (Step K)) (v : ReductionState K) : Type 0 where
    pub listed : v.steps ≡ w.steps ++ steps
    pub inside : All (λ (t : Step K). t.index < length basis) steps
    pub row : v.row ≡ remainder_after K s (basis_rows basis) steps w.row
    pub cofactor : v.cofactor ≡ remainder_after K s (cofactors_of basis) steps w.cofactor

  left_more : (w v : ReductionState K) (t : Step K) (steps : List (Step K)) → IsLeft w steps v → t.index < length basis → IsLeft w (steps ++ t ∷ []) (state_after_step K s basis t v)
  left_more w v t steps a h = record {
    listed = ap (λ ts. ts ++ t ∷ []) a.listed ∙ append_assoc w.steps steps (t ∷ []);
    inside = All-push (λ (t : Step K). t.index < length basis) steps t a.inside h;
    row = ap (λ r. row_minus K r (step_multiple K s (basis_rows basis) t)) a.row ∙ sym (remainder_after-push K s (basis_rows basis) steps t w.row);
    cofactor = ap (λ r. row_minus K r (step_multiple K s (cofactors_of basis) t)) a.cofactor ∙ sym (remainder_after-push K s (cofactors_of basis) steps t w.cofactor);
  }

  pub left : (w rest : ReductionState K) → length w.row ≡ n → reduce K s.order A basis w ≡ Ok rest → (steps : List (Step K)) × IsLeft w steps rest
  left w rest l e = (kept K s lawful s.order A sound basis n good.monic good.rows (λ v. (steps : List (Step K)) × IsLeft w steps v)
      (λ v t j a due. (a.0 ++ t ∷ [], left_more w v t a.0 a.1 (step_inside K s lawful s.order basis good.monic v.row t (next_step-Some K s.order basis v.row t due))))
      w rest l ([], record { listed = sym (append-nil w.steps); inside = All-nil (λ (t : Step K). t.index < length basis); row = after_none K s (basis_rows basis) w.row; cofactor = after_none K s (cofactors_of basis) w.cofactor }) e).1

  pub reduction_takes : (w rest : ReductionState K) → length w.row ≡ n → length w.cofactor ≡ m → reduce K s.order A basis w ≡ Ok rest → (steps : List (Step K)) × AreTaken K s n m basis w steps rest
  reduction_takes w rest l k e =
      let a = left w rest l e in
      let rows_long = length-map basis (λ b. b.row) in
      let cofactors_long = length-map basis (λ b. b.cofactor) in (
        a.0,
        record {
          listed = a.1.listed;
          inside = a.1.inside;
          row = ap (row_plus K (steps_sum K s n (basis_rows basis) a.0)) a.1.row ∙ sum-remainder_after K s lawful n (basis_rows basis) wide_row a.0 w.row (subst (λ j. All (λ (t : Step K). t.index < j) a.0) (sym rows_long) a.1.inside) l;
          cofactor = ap (row_plus K (steps_sum K s m (cofactors_of basis) a.0)) a.1.cofactor ∙ sum-remainder_after K s lawful m (cofactors_of basis) wide_cofactor a.0 w.cofactor (subst (λ j. All (λ (t : Step K). t.index < j) a.0) (sym cofactors_long) a.1.inside) k;
        },
      )

  module _ (u : Term) where
    multiple_below : (r : Row K) (t : Step K) → IsReductionStep K s.order basis r t → IsRowBelow K s.order u r → IsRowBelow K s.order u (step_multiple K s (basis_rows basis) t)
    multiple_below r t a below x h =
        upto_less (term_total s.order) x a.lead u
        ((multiple_lead K s lawful s.order basis good.monic r t a).greatest x h)
        (below a.lead (row_lead-Some K s.order r a.lead a.leads).apart)

    rest_below : (r : Row K) (t : Step K) → length r ≡ n → IsReductionStep K s.order basis r t → IsRowBelow K s.order u r → IsRowBelow K s.order u (row_minus K r (step_multiple K s (basis_rows basis) t))
    rest_below r t l a below x h =
        let inside = step_inside K s lawful s.order basis good.monic r t a in
        let rows_long = length-map basis (λ b. b.row) in
        let long = long_multiple K s lawful n (basis_rows basis) wide_row t (omega arith) in
        let less = step_below K s lawful s.order basis good.monic r t a (l ∙ sym long) x h in
        upto_less (term_total s.order) x a.lead u (ap is_gt less) (below a.lead (row_lead-Some K s.order r a.lead a.leads).apart)

    pub reduction_stays_below : (w rest : ReductionState K) → length w.row ≡ n → IsRowBelow K s.order u w.row → reduce K s.order A basis w ≡ Ok rest → (steps : List (Step K)) × AreBelow K s u basis w steps rest
    reduction_stays_below w rest l below e = (kept K s lawful s.order A sound basis n good.monic good.rows (λ v. (steps : List (Step K)) × AreBelow K s u basis w steps v)
        (λ v t j a due. (a.0 ++ t ∷ [], more v t j a.0 a.1 (next_step-Some K s.order basis v.row t due)))
        w rest l ([], record { listed = sym (append-nil w.steps); multiples = All-nil (λ (t : Step K). IsRowBelow K s.order u (step_multiple K s (basis_rows basis) t)); rest_below = below }) e).1
      where
        more : (v : ReductionState K) (t : Step K) → length v.row ≡ n → (steps : List (Step K)) → AreBelow K s u basis w steps v → IsReductionStep K s.order basis v.row t → AreBelow K s u basis w (steps ++ t ∷ []) (state_after_step K s basis t v)
        more v t j steps a due = record {
          listed = ap (λ ts. ts ++ t ∷ []) a.listed ∙ append_assoc w.steps steps (t ∷ []);
          multiples = All-push (λ (t : Step K). IsRowBelow K s.order u (step_multiple K s (basis_rows basis) t)) steps t a.multiples (multiple_below v.row t due a.rest_below);
          rest_below = rest_below v.row t j due a.rest_below;
        }
