-- The variables of an algebra of operators, in declared order, and the order of its monomials.
-- (Ore algebras: Chyzak and Salvy 1998. The groups, the steps and one differential operator a coordinate are this project's own.)
--     group_of, coordinate_of, step_of     of a kind: its group, the index of its coordinate, its step
--     is_coordinate, is_acting             whether a kind is a coordinate, or acts on one
--     fault_of        what is wrong with a kind that follows others, if anything is
--     first_fault     the fault of the first kind that has one
--     Signature       kinds without a fault, beside an order
--     kind_at         the kind of the variable with an index
--     MonomialOf      a monomial in the variables of a signature
--     IsLawful        each operator that acts names a coordinate before it
--     is_differential_on  a kind is a differential operator of this coordinate
--     last_group      the group of the last of some kinds
--     lacks_coordinate, is_second, has_bad_step  the faults of one kind
--     first_true, or_else  the first fault whose test is true; the first of two faults that is there
--     fault_after     the first fault of kinds that follow others
use Rattle.std.specs.Prelude.{◌≡◌, ℕ, ◌-◌, ◌<◌, ◌≤◌, Bool, true, false, ◌&&◌, not, nat_lt, nat_le, nat_eq, cond, List, [], ◌∷◌, ◌++◌, length, get_or}
use Rattle.std.specs.List.{list_any}
use Rattle.std.specs.declared.option.Option.{Option}
use Rattle.std.specs.declared.option.Option.TheVariants.{None, Some}
use Rattle.ore_monomial.specs.Monomial.{Monomial, exponent}
use Rattle.ore_monomial.specs.declared.order.Order.{Order}
use Rattle.ore_monomial.specs.declared.signature.VarKind.{VarKind}
use Rattle.ore_monomial.specs.declared.signature.VarKind.TheVariants.{Coordinate, Constant, Differential, Shift, Delay}
use Rattle.ore_monomial.specs.declared.signature.SignatureFault.{SignatureFault}
use Rattle.ore_monomial.specs.declared.signature.SignatureFault.TheVariants.{TooMany, BadCoordinate, TwoDifferentials, BadStep, GroupOrder}

-- coordinates come first, then constants, then operators
abbrev pub group_of : VarKind → ℕ
group_of Coordinate = 0
group_of Constant = 1
group_of kind = 2

-- the index of the coordinate that an operator acts on, and 0 of a kind that acts on none
abbrev pub coordinate_of : VarKind → ℕ
coordinate_of (Differential on) = on
coordinate_of (Shift on step) = on
coordinate_of (Delay on step) = on
coordinate_of kind = 0

-- the step of a shift or a delay, and 1 of another kind
abbrev pub step_of : VarKind → ℕ
step_of (Shift on step) = step
step_of (Delay on step) = step
step_of kind = 1

-- operators act on it
abbrev pub is_coordinate : VarKind → Bool
is_coordinate Coordinate = true
is_coordinate kind = false

-- a differential operator, a shift or a delay
abbrev pub is_acting : VarKind → Bool
is_acting (Differential on) = true
is_acting (Shift on step) = true
is_acting (Delay on step) = true
is_acting kind = false

-- a differential operator that acts on t
abbrev pub is_differential_on : ℕ → VarKind → Bool
is_differential_on t (Differential on) = nat_eq on t
is_differential_on t kind = false

-- ---- faults

-- the group of the last of some kinds, and the first group where there is none
abbrev pub last_group : List VarKind → ℕ
last_group kinds = group_of (get_or kinds (length kinds - 1) Coordinate)

-- a kind acts, and what it names isn't a coordinate before it
abbrev pub lacks_coordinate : List VarKind → VarKind → Bool
lacks_coordinate before kind = is_acting kind && not (is_coordinate (get_or before (coordinate_of kind) Constant))

-- a differential operator acts on a coordinate on which one before it acts already
abbrev pub is_second : List VarKind → VarKind → Bool
is_second before (Differential on) = list_any (is_differential_on on) before
is_second before kind = false

-- a step isn't from 1 to 1000
abbrev pub has_bad_step : VarKind → Bool
has_bad_step kind = not (nat_le 1 (step_of kind) && nat_le (step_of kind) 1000)

-- the first fault whose test is true
abbrev pub first_true : List (Bool × SignatureFault) → Option SignatureFault
first_true [] = None
first_true (t ∷ ts) = cond t.0 (Some t.1) (first_true ts)

-- the faults of one kind, in the order in which they are looked for
abbrev pub fault_of : List VarKind → VarKind → Option SignatureFault
fault_of before kind =
    let index = length before in
    first_true (
    (nat_le 12 index, TooMany)
    ∷ (nat_lt (group_of kind) (last_group before), GroupOrder index)
    ∷ (lacks_coordinate before kind, BadCoordinate index)
    ∷ (is_second before kind, TwoDifferentials index)
    ∷ (has_bad_step kind, BadStep index)
    ∷ []
    )

-- the one fault, and the other where there is none
abbrev pub or_else : Option SignatureFault → Option SignatureFault → Option SignatureFault
or_else (Some fault) other = Some fault
or_else None other = other

-- the fault of the first of some kinds that has one, where they follow others
abbrev pub fault_after : List VarKind → List VarKind → Option SignatureFault
fault_after before [] = None
fault_after before (kind ∷ kinds) = or_else (fault_of before kind) (fault_after (before ++ kind ∷ []) kinds)

-- the fault of the first kind that has one
abbrev pub first_fault : List VarKind → Option SignatureFault
first_fault kinds = fault_after [] kinds

-- ---- signatures

-- kinds of which none has a fault, and an order
pub record Signature : Type 0 where
  pub kinds : List VarKind
  pub order : Order
  pub accepted : first_fault kinds ≡ None

-- the kind of the variable x; past the last one all is constant
abbrev pub kind_at : Signature → ℕ → VarKind
kind_at s x = get_or s.kinds x Constant

-- the exponents of a monomial are zero past the declared variables
abbrev pub MonomialOf : Signature → Monomial → Type 0
MonomialOf s m = (x : ℕ) → length s.kinds ≤ x → exponent m x ≡ 0

-- each operator that acts names a coordinate before it
abbrev pub IsLawful : Signature → Type 0
IsLawful s = (x : ℕ) → is_acting (kind_at s x) ≡ true → (coordinate_of (kind_at s x) < x) × (kind_at s (coordinate_of (kind_at s x)) ≡ Coordinate)
