-- What follows of kinds without a fault.
--     or_else_none            where two tests find no fault, neither does one of them
--     HasNoFault              none of the faults of a kind is there
--     has_no_fault_at         each variable of a signature has no fault
--     count_at_most_12        there are at most twelve variables
--     lawful                  each operator that acts names a coordinate before it
--     has_one_differential    at most one differential operator acts on a coordinate
--     groups_rise             the groups stand in their order
--     step_in_range           each step is from 1 to 1000
use Rattle.std.proofs.Common.{◌≡◌, ℕ, zero, suc, ◌-◌, ◌<◌, ◌≤◌, Bool, true, false, not, List, [], ◌∷◌, ◌++◌, length, get_or, take, refl, sym, ap, ◌∙◌, subst, true≢false, arith, append_assoc}
use Rattle.std.specs.declared.option.Option.{Option}
use Rattle.std.specs.declared.option.Option.TheVariants.{None, Some}
use Rattle.std.specs.Prelude.{nat_le, nat_lt, nat_eq, ◌&&◌, cond}
use Rattle.std.proofs.Common.{append-nil, lit≤}
use Rattle.std.proofs.lemmas.List.{length-take, length-take-le, get_or-take, get_or_past}
use Rattle.std.proofs.lemmas.List.Folds.{list_any_at}
use Rattle.std.proofs.lemmas.Bool.Decides.{nat_tests}
use native.Mathlib.Decide.{dec_lt}
use Rattle.ore_monomial.specs.Signature.{Signature, kind_at, coordinate_of, group_of, step_of, last_group, is_acting, is_coordinate, is_differential_on, is_second, lacks_coordinate, has_bad_step, fault_of, fault_after, or_else, IsLawful}
use Rattle.ore_monomial.specs.declared.signature.VarKind.{VarKind}
use Rattle.ore_monomial.specs.declared.signature.VarKind.TheVariants.{Coordinate, Constant, Plain, Differential, Shift, Delay}
use Rattle.ore_monomial.specs.declared.signature.SignatureFault.{SignatureFault}

pub or_else_none : (a b : Option SignatureFault) → or_else a b ≡ None → (a ≡ None) × (b ≡ None)
or_else_none None b e = (refl, e)
or_else_none (Some f) b e = absurd (cc)

cond_none : (t : Bool) (f : SignatureFault) (rest : Option SignatureFault) → cond t (Some f) rest ≡ None → (t ≡ false) × (rest ≡ None)
cond_none true f rest e = absurd (cc)
cond_none false f rest e = (refl, e)

pub record HasNoFault (before : List VarKind) (kind : VarKind) : Type 0 where
  pub few : nat_le 12 (length before) ≡ false
  pub grouped : nat_lt (group_of kind) (last_group before) ≡ false
  pub coordinated : lacks_coordinate before kind ≡ false
  pub first : is_second before kind ≡ false
  pub stepped : has_bad_step kind ≡ false

has_no_fault : (before : List VarKind) (kind : VarKind) → fault_of before kind ≡ None → HasNoFault before kind
has_no_fault before kind e =
    let a = cond_none _ _ _ e in
    let b = cond_none _ _ _ a.1 in
    let c = cond_none _ _ _ b.1 in
    let d = cond_none _ _ _ c.1 in
    record { few = a.0; grouped = b.0; coordinated = c.0; first = d.0; stepped = (cond_none _ _ _ d.1).0 }

-- each kind has no fault behind those before it
faultless : (before kinds : List VarKind) → fault_after before kinds ≡ None → (x : ℕ) → x < length kinds → HasNoFault (before ++ take x kinds) (get_or kinds x Constant)
faultless before [] e x h = absurd (omega arith)
faultless before (kind ∷ kinds) e zero h = has_no_fault _ kind (rw append-nil (or_else_none _ _ e).0)
faultless before (kind ∷ kinds) e (suc x) h =
    subst (λ front. HasNoFault front (get_or kinds x Constant)) (append_assoc before (kind ∷ []) (take x kinds)) (faultless (before ++ kind ∷ []) kinds (or_else_none _ _ e).1 x (omega arith))

module _ (s : Signature) where
  pub has_no_fault_at : (x : ℕ) → x < length s.kinds → HasNoFault (take x s.kinds) (kind_at s x)
  has_no_fault_at x h = faultless [] s.kinds s.accepted x h

  pub count_at_most_12 : length s.kinds ≤ 12
  count_at_most_12 = by (dec_lt 12 (length s.kinds))
    where
      by : Dec (12 < length s.kinds) → length s.kinds ≤ 12
      by (no n) = omega arith
      by (yes l) = let few = (has_no_fault_at 12 l).few in let long = length-take 12 s.kinds in absurd (grind (arith, nat_tests))

  -- an operator that acts is one of the declared variables
  declared_acting : (x : ℕ) → is_acting (kind_at s x) ≡ true → x < length s.kinds
  declared_acting x a = by (dec_lt x (length s.kinds))
    where
      by : Dec (x < length s.kinds) → x < length s.kinds
      by (yes l) = l
      by (no n) = absurd (true≢false (sym a ∙ ap is_acting (get_or_past s.kinds x Constant (omega arith))))

  pub lawful : IsLawful s
  lawful x a =
      let l = declared_acting x a in
      let front = length-take-le x s.kinds (omega arith) in
      let t = coordinate_of (kind_at s x) in
      names x t front (named (is_acting (kind_at s x)) (is_coordinate (get_or (take x s.kinds) t Constant)) a (has_no_fault_at x l).coordinated) (dec_lt t x)
    where
      named : (b c : Bool) → b ≡ true → (b && not c) ≡ false → c ≡ true
      named true true a e = refl
      named true false a e = sym e
      named false c a e = absurd (true≢false (sym a))

      coordinate : (kind : VarKind) → is_coordinate kind ≡ true → kind ≡ Coordinate
      coordinate Coordinate e = refl
      coordinate Constant e = absurd (cc)
      coordinate Plain e = absurd (cc)
      coordinate (Differential on) e = absurd (cc)
      coordinate (Shift on step) e = absurd (cc)
      coordinate (Delay on step) e = absurd (cc)

      names : (x t : ℕ) → length (take x s.kinds) ≡ x → is_coordinate (get_or (take x s.kinds) t Constant) ≡ true → Dec (t < x) → (t < x) × (kind_at s t ≡ Coordinate)
      names x t front e (yes l) = (l, sym (get_or-take x s.kinds t Constant l) ∙ coordinate _ e)
      names x t front e (no n) = absurd (true≢false (sym e ∙ ap is_coordinate (get_or_past (take x s.kinds) t Constant (omega arith))))

  -- a differential operator is the first on its coordinate
  first_differential : (t x y : ℕ) → x < y → kind_at s x ≡ Differential t → kind_at s y ≡ Differential t → ⊥
  first_differential t x y l e f =
      let yl = declared_acting y (ap is_acting f) in
      let front = length-take-le y s.kinds (omega arith) in
      let here : is_differential_on t (get_or (take y s.kinds) x Constant) ≡ true = ap (is_differential_on t) (get_or-take y s.kinds x Constant l ∙ e) ∙ nat_eq_itself t in
      true≢false (sym (list_any_at (is_differential_on t) (take y s.kinds) x Constant (omega arith) here) ∙ subst (λ kind. is_second (take y s.kinds) kind ≡ false) f (has_no_fault_at y yl).first)
    where
      nat_eq_itself : (t : ℕ) → nat_eq t t ≡ true
      nat_eq_itself t = grind (arith, nat_tests)

  pub has_one_differential : (t x y : ℕ) → kind_at s x ≡ Differential t → kind_at s y ≡ Differential t → x ≡ y
  has_one_differential t x y e f = by (dec_lt x y) (dec_lt y x)
    where
      by : Dec (x < y) → Dec (y < x) → x ≡ y
      by (yes l) q = absurd (first_differential t x y l e f)
      by (no n) (yes l) = absurd (first_differential t y x l f e)
      by (no n) (no k) = omega arith

  pub step_in_range : (x : ℕ) → (1 ≤ step_of (kind_at s x)) × (step_of (kind_at s x) ≤ 1000)
  step_in_range x = by (dec_lt x (length s.kinds))
    where
      small : (n : ℕ) → not (nat_le 1 n && nat_le n 1000) ≡ false → (1 ≤ n) × (n ≤ 1000)
      small n e = grind (arith, nat_tests)

      by : Dec (x < length s.kinds) → (1 ≤ step_of (kind_at s x)) × (step_of (kind_at s x) ≤ 1000)
      by (yes l) = small _ (has_no_fault_at x l).stepped
      by (no n) = subst (λ kind. (1 ≤ step_of kind) × (step_of kind ≤ 1000)) (sym (get_or_past s.kinds x Constant (omega arith))) (lit≤ tt, lit≤ tt)

  next_group : (x : ℕ) → suc x < length s.kinds → group_of (kind_at s x) ≤ group_of (kind_at s (suc x))
  next_group x l =
      let front = length-take-le (suc x) s.kinds (omega arith) in
      let index : length (take (suc x) s.kinds) - 1 ≡ x = omega arith in
      let last : get_or (take (suc x) s.kinds) (length (take (suc x) s.kinds) - 1) Coordinate ≡ kind_at s x =
      ap (λ n. get_or (take (suc x) s.kinds) n Coordinate) index ∙ get_or-take (suc x) s.kinds x Coordinate (omega arith) ∙ get_or_any s.kinds x (omega arith) in
      not_less _ _ (subst (λ kind. nat_lt (group_of (kind_at s (suc x))) (group_of kind) ≡ false) last (has_no_fault_at (suc x) l).grouped)
    where
      get_or_any : (kinds : List VarKind) (x : ℕ) → x < length kinds → get_or kinds x Coordinate ≡ get_or kinds x Constant
      get_or_any [] x l = absurd (omega arith)
      get_or_any (kind ∷ kinds) zero l = refl
      get_or_any (kind ∷ kinds) (suc x) l = get_or_any kinds x (omega arith)

      not_less : (a b : ℕ) → nat_lt a b ≡ false → b ≤ a
      not_less a b e = grind (arith, nat_tests)

  pub groups_rise : (x y : ℕ) → x ≤ y → y < length s.kinds → group_of (kind_at s x) ≤ group_of (kind_at s y)
  groups_rise x zero h l = ap_le x (omega arith)
    where
      ap_le : (x : ℕ) → x ≡ 0 → group_of (kind_at s x) ≤ group_of (kind_at s 0)
      ap_le zero e = omega arith
      ap_le (suc x) e = absurd (omega arith)
  groups_rise x (suc y) h l = by (dec_lt x (suc y)) (groups_rise x y)
    where
      by : Dec (x < suc y) → (x ≤ y → y < length s.kinds → group_of (kind_at s x) ≤ group_of (kind_at s y)) → group_of (kind_at s x) ≤ group_of (kind_at s (suc y))
      by (yes k) ih = let a = ih (omega arith) (omega arith) in let b = next_group y l in omega arith
      by (no n) ih = let e : x ≡ suc y = omega arith in subst (λ z. group_of (kind_at s x) ≤ group_of (kind_at s z)) e (omega arith)
