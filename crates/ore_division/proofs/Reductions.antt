-- Lead reduction, over any domain and any sound arithmetic: it ends, and what it gives.
--     state_after_step         a row and its cofactor row less a step
--     less_multiple_exact      exact arithmetic gives a row less a multiple of another
--     less_multiple_most       sound arithmetic gives that, or stops
--     subtract_exact, subtract_value    exact arithmetic gives that; where sound arithmetic gives a value it is that
--     subtract_stops_first, subtract_stops_second, subtract_gives    what its two parts make of a step
--     goes_down                a step keeps the length of the row and makes its height smaller
--     stays                    a row that calls for no step stays as it is
--     enough                   all numbers of steps that are no less than the height give the same
--     reduce_end, reduce_next, reduce_stops    one step of reduction, and then the others
--     reduced_in, reduced      the rest calls for no step
--     kept_in, kept            what each step keeps, reduction keeps
--     subtract_most, reduce_most    within limits reduction gives the exact value, or stops
--     reduce_comes             exact reduction stops nowhere
--     remainder_after-append, remainder_after-push     what is left after more steps, and after one more
use Rattle.std.proofs.Common.{◌≡◌, ℕ, zero, suc, ◌+◌, ◌<◌, ◌≤◌, List, [], ◌∷◌, ◌++◌, length, refl, sym, ap, ◌∙◌, subst, arith}
use Rattle.std.specs.declared.option.Option.{Option}
use Rattle.std.specs.declared.option.Option.TheVariants.{None, Some}
use Rattle.std.specs.declared.result.Result.{Result}
use Rattle.std.specs.declared.result.Result.TheVariants.{Ok, Err}
use Rattle.std.specs.List.{All}
use Rattle.ore_algebra.specs.Domain.{Domain}
use Rattle.ore_algebra.specs.Limits.{Cause, ◌>>=◌, IsAtMost}
use Rattle.ore_algebra.proofs.LimitLaws.{most_bind, most_value}
use Rattle.ore_algebra.proofs.ResultLaws.{same_ok, no_ok}
use Rattle.ore_monomial.specs.Signature.{Signature, IsLawful}
use Rattle.ore_monomial.specs.Term.{Term}
use Rattle.ore_monomial.specs.declared.order.Order.{Order}
use Rattle.ore_monomial.specs.LetterRule.{Operator}
use Rattle.ore_rows.specs.Rows.{Row, row_minus, row_scale}
use Rattle.ore_rows.specs.RowLead.{row_lead}
use Rattle.ore_rows.specs.Arithmetic.{Arithmetic, exact, IsSoundArithmetic, less}
use Rattle.ore_rows.specs.Reduction.{BasisRow, AreMonic, Step, ReductionState, basis_rows, cofactors_of, row_at, step_operator, remainder_after, next_step, room, less_multiple, subtract, reduce_once, reduce_in, reduce}
use Rattle.ore_rows.proofs.BasisParts.{long_at}
use Rattle.ore_rows.proofs.Differences.{length-row_minus}
use Rattle.ore_rows.proofs.RowLaws.{length-row_scale}
use Rattle.ore_rows.proofs.SoundArithmetic.{scaled_exact, less_exact, scaled_most, less_most}
use Rattle.ore_division.proofs.Heights
use Rattle.ore_division.proofs.Steps.{IsReductionStep, next_step-Some, no_step, row_height, height-below, height_room, step_inside, step_below}

-- ---- one step

module _ (K : Domain) (s : Signature) where
  abbrev pub state_after_step : List (BasisRow (Row K)) → Step K → ReductionState K → ReductionState K
  state_after_step basis t w = record {
    row = row_minus K w.row (row_scale K s (step_operator K t) (row_at (basis_rows basis) t.index));
    cofactor = row_minus K w.cofactor (row_scale K s (step_operator K t) (row_at (cofactors_of basis) t.index));
    steps = w.steps ++ t ∷ [];
  }

  pub less_multiple_exact : (d : Operator K) (b r : Row K) → less_multiple K (exact K s) d b r ≡ Ok (row_minus K r (row_scale K s d b))
  unfolding less_multiple
  less_multiple_exact d b r = ap (λ (x : Result (Row K) Cause). x >>= λ y. less K (exact K s) r y) (scaled_exact K s d b) ∙ less_exact K s r (row_scale K s d b)

  pub subtract_exact : (basis : List (BasisRow (Row K))) (t : Step K) (w : ReductionState K) → subtract K (exact K s) basis t w ≡ Ok (state_after_step basis t w)
  unfolding subtract
  subtract_exact basis t w = λ i. less_multiple_exact (step_operator K t) (row_at (basis_rows basis) t.index) w.row i >>= λ r.
      less_multiple_exact (step_operator K t) (row_at (cofactors_of basis) t.index) w.cofactor i >>= λ q.
      Ok (record { row = r; cofactor = q; steps = w.steps ++ t ∷ [] })

  module _ (A : Arithmetic K) (sound : IsSoundArithmetic K s A) where
    pub less_multiple_most : (d : Operator K) (b r : Row K) → IsAtMost (less_multiple K A d b r) (less_multiple K (exact K s) d b r)
    unfolding less_multiple
    less_multiple_most d b r = most_bind _ _ _ _ (scaled_most K s A sound d b) (λ x. less_most K s A sound r x)

    pub subtract_most : (basis : List (BasisRow (Row K))) (t : Step K) (w : ReductionState K) → IsAtMost (subtract K A basis t w) (subtract K (exact K s) basis t w)
    unfolding subtract
    subtract_most basis t w =
        most_bind _ _ _ _ (less_multiple_most (step_operator K t) (row_at (basis_rows basis) t.index) w.row) (λ r.
        most_bind _ _ _ _ (less_multiple_most (step_operator K t) (row_at (cofactors_of basis) t.index) w.cofactor) (λ q. refl))

    pub subtract_value : (basis : List (BasisRow (Row K))) (t : Step K) (w v : ReductionState K) → subtract K A basis t w ≡ Ok v → v ≡ state_after_step basis t w
    subtract_value basis t w v = most_value _ v (state_after_step basis t w) (subst (IsAtMost (subtract K A basis t w)) (subtract_exact basis t w) (subtract_most basis t w))

module _ (K : Domain) (A : Arithmetic K) (basis : List (BasisRow (Row K))) (t : Step K) (w : ReductionState K) where
  pub subtract_stops_first : (c : Cause) → less_multiple K A (step_operator K t) (row_at (basis_rows basis) t.index) w.row ≡ Err c → subtract K A basis t w ≡ Err c
  unfolding subtract
  subtract_stops_first c e = ap (λ (x : Result (Row K) Cause). x >>= λ r. less_multiple K A (step_operator K t) (row_at (cofactors_of basis) t.index) w.cofactor >>= λ q. Ok (record { row = r; cofactor = q; steps = w.steps ++ t ∷ [] })) e

  pub subtract_stops_second : (r : Row K) (c : Cause) → less_multiple K A (step_operator K t) (row_at (basis_rows basis) t.index) w.row ≡ Ok r → less_multiple K A (step_operator K t) (row_at (cofactors_of basis) t.index) w.cofactor ≡ Err c → subtract K A basis t w ≡ Err c
  unfolding subtract
  subtract_stops_second r c e f = λ i. e i >>= λ r. f i >>= λ q. Ok (record { row = r; cofactor = q; steps = w.steps ++ t ∷ [] })

  pub subtract_gives : (r q : Row K) → less_multiple K A (step_operator K t) (row_at (basis_rows basis) t.index) w.row ≡ Ok r → less_multiple K A (step_operator K t) (row_at (cofactors_of basis) t.index) w.cofactor ≡ Ok q → subtract K A basis t w ≡ Ok (record { row = r; cofactor = q; steps = w.steps ++ t ∷ [] })
  unfolding subtract
  subtract_gives r q e f = λ i. e i >>= λ r. f i >>= λ q. Ok (record { row = r; cofactor = q; steps = w.steps ++ t ∷ [] })

-- ---- reduction is one step after another

module _ (K : Domain) (s : Signature) (lawful : IsLawful s) (o : Order) (A : Arithmetic K) (sound : IsSoundArithmetic K s A) (basis : List (BasisRow (Row K))) (n : ℕ) (monic : AreMonic K o basis) (wide : All (λ b. length b.row ≡ n) basis) where
  pub goes_down : (w v : ReductionState K) (t : Step K) → length w.row ≡ n → next_step K o basis w.row ≡ Some t → subtract K A basis t w ≡ Ok v → (length v.row ≡ n) × (row_height K o v.row < row_height K o w.row)
  goes_down w v t l h e = subst (λ (x : ReductionState K). (length x.row ≡ n) × (row_height K o x.row < row_height K o w.row)) (sym (subtract_value K s A sound basis t w v e)) (long, low)
    where
      a : IsReductionStep K o basis w.row t
      a = next_step-Some K o basis w.row t h

      multiple : Row K
      multiple = row_scale K s (step_operator K t) (row_at (basis_rows basis) t.index)

      long_multiple : length multiple ≡ n
      long_multiple = length-row_scale K s lawful (step_operator K t) (row_at (basis_rows basis) t.index) ∙ long_at K basis n wide t.index (step_inside K s lawful o basis monic w.row t a)

      long : length (row_minus K w.row multiple) ≡ n
      long = length-row_minus K s lawful n w.row multiple l long_multiple

      low : row_height K o (row_minus K w.row multiple) < row_height K o w.row
      low = height-below K o w.row _ a.lead a.leads (long ∙ sym l) (step_below K s lawful o basis monic w.row t a (l ∙ sym long_multiple))

  stays_once : (w : ReductionState K) → next_step K o basis w.row ≡ None → reduce_once K o A basis w ≡ Ok w
  unfolding reduce_once
  stays_once w h = ap (λ (x : Option (Step K)). elim x [ None ↦ Ok w | Some t ↦ subtract K A basis t w ]) h

  takes_once : (w : ReductionState K) (t : Step K) → next_step K o basis w.row ≡ Some t → reduce_once K o A basis w ≡ subtract K A basis t w
  unfolding reduce_once
  takes_once w t h = ap (λ (x : Option (Step K)). elim x [ None ↦ Ok w | Some t ↦ subtract K A basis t w ]) h

  in_next : (k : ℕ) (w : ReductionState K) → reduce_in K o A (suc k) basis w ≡ (reduce_once K o A basis w >>= λ v. reduce_in K o A k basis v)
  unfolding reduce_in
  in_next k w = refl

  pub stays : (k : ℕ) (w : ReductionState K) → next_step K o basis w.row ≡ None → reduce_in K o A k basis w ≡ Ok w
  unfolding reduce_in
  stays zero w h = refl
  stays (suc k) w h = ap (λ (x : Result (ReductionState K) Cause). x >>= λ v. reduce_in K o A k basis v) (stays_once w h) ∙ stays k w h

  takes : (k : ℕ) (w : ReductionState K) (t : Step K) → next_step K o basis w.row ≡ Some t → reduce_in K o A (suc k) basis w ≡ (subtract K A basis t w >>= λ v. reduce_in K o A k basis v)
  takes k w t h = in_next k w ∙ ap (λ (x : Result (ReductionState K) Cause). x >>= λ v. reduce_in K o A k basis v) (takes_once w t h)

  -- a row without height calls for no step
  low_stays : (r : Row K) → row_height K o r ≤ 0 → next_step K o basis r ≡ None
  unfolding row_height
  low_stays r h = by (row_lead K o r) refl h
    where
      by : (x : Option Term) → row_lead K o r ≡ x → elim x [ None ↦ 0 | Some u ↦ suc (Heights.height o (length r) u) ] ≤ 0 → next_step K o basis r ≡ None
      by None l h = no_step K o basis r l
      by (Some u) l h = absurd (omega arith)

  pub enough : (k j : ℕ) (w : ReductionState K) → length w.row ≡ n → row_height K o w.row ≤ k → row_height K o w.row ≤ j → reduce_in K o A k basis w ≡ reduce_in K o A j basis w
  enough zero j w l h m = let e = low_stays w.row h in stays 0 w e ∙ sym (stays j w e)
  enough (suc k) zero w l h m = let e = low_stays w.row m in stays (suc k) w e ∙ sym (stays 0 w e)
  enough (suc k) (suc j) w l h m = by (next_step K o basis w.row) refl (enough k j)
    where
      by : (x : Option (Step K)) → next_step K o basis w.row ≡ x → ((v : ReductionState K) → length v.row ≡ n → row_height K o v.row ≤ k → row_height K o v.row ≤ j → reduce_in K o A k basis v ≡ reduce_in K o A j basis v)
          → reduce_in K o A (suc k) basis w ≡ reduce_in K o A (suc j) basis w
      by None e more = stays (suc k) w e ∙ sym (stays (suc j) w e)
      by (Some t) e more = takes k w t e ∙ given (subtract K A basis t w) refl ∙ sym (takes j w t e)
        where
          given : (x : Result (ReductionState K) Cause) → subtract K A basis t w ≡ x → (x >>= λ v. reduce_in K o A k basis v) ≡ (x >>= λ v. reduce_in K o A j basis v)
          given (Ok v) f = let d = goes_down w v t l e f in let less = d.1 in more v d.0 (omega arith) (omega arith)
          given (Err c) f = refl

  -- ---- the definition, unrolled

  pub reduce_end : (w : ReductionState K) → next_step K o basis w.row ≡ None → reduce K o A basis w ≡ Ok w
  unfolding reduce
  reduce_end w h = stays (room K o w.row) w h

  more_room : (k : ℕ) (w : ReductionState K) → length w.row ≡ n → room K o w.row ≤ k → reduce K o A basis w ≡ reduce_in K o A k basis w
  unfolding reduce
  more_room k w l h = let r = height_room K o w.row in enough (room K o w.row) k w l r (omega arith)

  pub reduce_next : (w v : ReductionState K) (t : Step K) → length w.row ≡ n → next_step K o basis w.row ≡ Some t → subtract K A basis t w ≡ Ok v → reduce K o A basis w ≡ reduce K o A basis v
  reduce_next w v t l h e =
      let k : ℕ = room K o w.row + room K o v.row in
      more_room (suc k) w l (omega arith) ∙ takes k w t h ∙ ap (λ (x : Result (ReductionState K) Cause). x >>= λ v. reduce_in K o A k basis v) e ∙ sym (more_room k v (goes_down w v t l h e).0 (omega arith))

  pub reduce_stops : (w : ReductionState K) (t : Step K) (c : Cause) → length w.row ≡ n → next_step K o basis w.row ≡ Some t → subtract K A basis t w ≡ Err c → reduce K o A basis w ≡ Err c
  reduce_stops w t c l h e =
      let k : ℕ = room K o w.row in
      more_room (suc k) w l (omega arith) ∙ takes k w t h ∙ ap (λ (x : Result (ReductionState K) Cause). x >>= λ v. reduce_in K o A k basis v) e

  -- ---- what each step keeps

  module _ (J : ReductionState K → Type 0) (keeps : (w : ReductionState K) (t : Step K) → length w.row ≡ n → J w → next_step K o basis w.row ≡ Some t → J (state_after_step K s basis t w)) where
    pub kept_in : (k : ℕ) (w rest : ReductionState K) → length w.row ≡ n → J w → reduce_in K o A k basis w ≡ Ok rest → (length rest.row ≡ n) × J rest
    unfolding reduce_in
    kept_in zero w rest l j e = subst (λ (x : ReductionState K). (length x.row ≡ n) × J x) (same_ok w rest e) (l, j)
    kept_in (suc k) w rest l j e = by (next_step K o basis w.row) refl (kept_in k)
      where
        by : (x : Option (Step K)) → next_step K o basis w.row ≡ x → ((w rest : ReductionState K) → length w.row ≡ n → J w → reduce_in K o A k basis w ≡ Ok rest → (length rest.row ≡ n) × J rest) → (length rest.row ≡ n) × J rest
        by None h more = subst (λ (x : ReductionState K). (length x.row ≡ n) × J x) (same_ok w rest (sym (stays (suc k) w h) ∙ e)) (l, j)
        by (Some t) h more = given (subtract K A basis t w) refl (sym (takes k w t h) ∙ e)
          where
            given : (x : Result (ReductionState K) Cause) → subtract K A basis t w ≡ x → ◌≡◌ {A = Result (ReductionState K) Cause} (x >>= λ v. reduce_in K o A k basis v) (Ok rest) → (length rest.row ≡ n) × J rest
            given (Ok v) f g = more v rest (goes_down w v t l h f).0 (subst J (sym (subtract_value K s A sound basis t w v f)) (keeps w t l j h)) g
            given (Err c) f g = absurd (no_ok g)

    pub kept : (w rest : ReductionState K) → length w.row ≡ n → J w → reduce K o A basis w ≡ Ok rest → (length rest.row ≡ n) × J rest
    unfolding reduce
    kept w rest l j e = kept_in (room K o w.row) w rest l j e

  -- ---- reduction ends

  reduced_in : (k : ℕ) (w rest : ReductionState K) → length w.row ≡ n → row_height K o w.row ≤ k → reduce_in K o A k basis w ≡ Ok rest → next_step K o basis rest.row ≡ None
  unfolding reduce_in
  reduced_in zero w rest l h e = subst (λ (x : ReductionState K). next_step K o basis x.row ≡ None) (same_ok w rest e) (low_stays w.row h)
  reduced_in (suc k) w rest l h e = by (next_step K o basis w.row) refl (reduced_in k)
    where
      by : (x : Option (Step K)) → next_step K o basis w.row ≡ x → ((w rest : ReductionState K) → length w.row ≡ n → row_height K o w.row ≤ k → reduce_in K o A k basis w ≡ Ok rest → next_step K o basis rest.row ≡ None) → next_step K o basis rest.row ≡ None
      by None f more = subst (λ (x : ReductionState K). next_step K o basis x.row ≡ None) (same_ok w rest (sym (stays (suc k) w f) ∙ e)) f
      by (Some t) f more = given (subtract K A basis t w) refl (sym (takes k w t f) ∙ e)
        where
          given : (x : Result (ReductionState K) Cause) → subtract K A basis t w ≡ x → ◌≡◌ {A = Result (ReductionState K) Cause} (x >>= λ v. reduce_in K o A k basis v) (Ok rest) → next_step K o basis rest.row ≡ None
          given (Ok v) i g = let d = goes_down w v t l f i in let less = d.1 in more v rest d.0 (omega arith) g
          given (Err c) i g = absurd (no_ok g)

  pub reduced : (w rest : ReductionState K) → length w.row ≡ n → reduce K o A basis w ≡ Ok rest → next_step K o basis rest.row ≡ None
  unfolding reduce
  reduced w rest l e = reduced_in (room K o w.row) w rest l (height_room K o w.row) e

-- ---- within limits, and without

module _ (K : Domain) (s : Signature) (o : Order) (A : Arithmetic K) (sound : IsSoundArithmetic K s A) (basis : List (BasisRow (Row K))) where
  once_most : (w : ReductionState K) → IsAtMost (reduce_once K o A basis w) (reduce_once K o (exact K s) basis w)
  unfolding reduce_once
  once_most w = by (next_step K o basis w.row)
    where
      by : (x : Option (Step K)) → IsAtMost (elim x [ None ↦ Ok w | Some t ↦ subtract K A basis t w ]) (elim x [ None ↦ Ok w | Some t ↦ subtract K (exact K s) basis t w ])
      by None = refl
      by (Some t) = subtract_most K s A sound basis t w

  in_most : (k : ℕ) (w : ReductionState K) → IsAtMost (reduce_in K o A k basis w) (reduce_in K o (exact K s) k basis w)
  unfolding reduce_in
  in_most zero w = refl
  in_most (suc k) w = most_bind (reduce_once K o A basis w) (reduce_once K o (exact K s) basis w) _ _ (once_most w) (λ v. in_most k v)

  pub reduce_most : (w : ReductionState K) → IsAtMost (reduce K o A basis w) (reduce K o (exact K s) basis w)
  unfolding reduce
  reduce_most w = in_most (room K o w.row) w

module _ (K : Domain) (s : Signature) (o : Order) (basis : List (BasisRow (Row K))) where
  abbrev Comes : Result (ReductionState K) Cause → Type 0
  Comes x = (v : ReductionState K) × (x ≡ Ok v)

  once_comes : (w : ReductionState K) → Comes (reduce_once K o (exact K s) basis w)
  unfolding reduce_once
  once_comes w = by (next_step K o basis w.row)
    where
      by : (x : Option (Step K)) → Comes (elim x [ None ↦ Ok w | Some t ↦ subtract K (exact K s) basis t w ])
      by None = (w, refl)
      by (Some t) = (state_after_step K s basis t w, subtract_exact K s basis t w)

  in_comes : (k : ℕ) (w : ReductionState K) → Comes (reduce_in K o (exact K s) k basis w)
  unfolding reduce_in
  in_comes zero w = (w, refl)
  in_comes (suc k) w = let x = once_comes w in let y = in_comes k x.0 in (y.0, ap (λ (r : Result (ReductionState K) Cause). r >>= λ v. reduce_in K o (exact K s) k basis v) x.1 ∙ y.1)

  pub reduce_comes : (w : ReductionState K) → Comes (reduce K o (exact K s) basis w)
  unfolding reduce
  reduce_comes w = in_comes (room K o w.row) w

-- ---- the steps taken together

module _ (K : Domain) (s : Signature) where
  pub remainder_after-append : (rows : List (Row K)) (ts us : List (Step K)) (z : Row K) → remainder_after K s rows (ts ++ us) z ≡ remainder_after K s rows us (remainder_after K s rows ts z)
  unfolding remainder_after
  remainder_after-append rows [] us z = refl
  remainder_after-append rows (t ∷ ts) us z = remainder_after-append rows ts us _

  -- what one more step leaves
  pub remainder_after-push : (rows : List (Row K)) (ts : List (Step K)) (t : Step K) (z : Row K) → remainder_after K s rows (ts ++ t ∷ []) z ≡ row_minus K (remainder_after K s rows ts z) (row_scale K s (step_operator K t) (row_at rows t.index))
  unfolding remainder_after
  remainder_after-push rows ts t z = remainder_after-append rows ts (t ∷ []) z
