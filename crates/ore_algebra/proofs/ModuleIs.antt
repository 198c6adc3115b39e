-- Equations in a left module: each generator's coefficient is an expression over the ring, in its normal form.
--     Linear                          an expression over generators: sums, opposites, and multiples by a ring's expression
--     linear                          its normal form: the coefficients of the generators, in normal form
--     vector, combine                 the values of an expression and of a normal form, which by linear_is are equal
--     LinearShape, linear_shapes      an expression whose value is u, and the rules by which `search linear_shapes` finds it
--     same_linear_shape               u and v are equal where their expressions have one normal form
use Rattle.std.proofs.Common.{◌≡◌, ℕ, zero, suc, refl, sym, ap, ap₂, ◌∙◌, Bool, false, List, [], ◌∷◌, pos}
use Rattle.ore_algebra.specs.Ring.{Ring, Module}
use Rattle.ore_algebra.proofs.GroupLaws.{Group, module_group}
use Rattle.ore_algebra.proofs.GroupLaws
use Rattle.ore_algebra.proofs.Normal.{Expr, Poly, none, term, plus, negate, times, normal, as_is}
use Rattle.ore_algebra.proofs.NormalIs.{at, value, sum, plus_is, negate_is, times_is, normal_is, Shape, shapes}

infixl 6 ◌⊞◌
infixl 6 ◌⊟◌
infixl 7 ◌⊡◌
-- an expression; `gen i` is the generator number i
pub data Linear : Type 0 where
  gen : ℕ → Linear
  origin : Linear
  opposite : Linear → Linear
  ◌⊞◌ ◌⊟◌ : Linear → Linear → Linear
  ◌⊡◌ : Expr → Linear → Linear

-- coefficients, that of generator 0 first; no last one is 0
abbrev pub front : Poly → List Poly → List Poly
front none [] = []
front none (q ∷ qs) = none ∷ q ∷ qs
front (term c u p) qs = term c u p ∷ qs

abbrev pub unit : ℕ → List Poly
unit zero = term (pos 1) [] none ∷ []
unit (suc i) = none ∷ unit i

abbrev pub plus_all : List Poly → List Poly → List Poly
plus_all [] qs = qs
plus_all (p ∷ ps) [] = p ∷ ps
plus_all (p ∷ ps) (q ∷ qs) = front (plus p q) (plus_all ps qs)

abbrev pub negate_all : List Poly → List Poly
negate_all [] = []
negate_all (p ∷ ps) = negate p ∷ negate_all ps

abbrev pub times_all : (stays : ℕ → ℕ → Bool) → Poly → List Poly → List Poly
times_all stays p [] = []
times_all stays p (q ∷ qs) = front (times stays p q) (times_all stays p qs)

abbrev pub linear : (stays : ℕ → ℕ → Bool) → Linear → List Poly
linear stays (gen i) = unit i
linear stays origin = []
linear stays (opposite l) = negate_all (linear stays l)
linear stays (l ⊞ m) = plus_all (linear stays l) (linear stays m)
linear stays (l ⊟ m) = plus_all (linear stays l) (negate_all (linear stays m))
linear stays (e ⊡ l) = times_all stays (normal stays e) (linear stays l)

abbrev pub vector : (R : Ring) (M : Module R) → List R.Elem → List M.Vector → Linear → M.Vector
vector R M xs gs (gen i) = at M.zero gs i
vector R M xs gs origin = M.zero
vector R M xs gs (opposite l) = M.neg (vector R M xs gs l)
vector R M xs gs (l ⊞ m) = M.add (vector R M xs gs l) (vector R M xs gs m)
vector R M xs gs (l ⊟ m) = M.add (vector R M xs gs l) (M.neg (vector R M xs gs m))
vector R M xs gs (e ⊡ l) = M.act (value R xs e) (vector R M xs gs l)

module _ (R : Ring) (M : Module R) where
  open M use {add as ◌+◌, neg as -◌, zero as 𝟘, act as ◌·◌, Vector as V}

  infixl 6 ◌+◌
  infixl 7 ◌·◌
  infixl 20 -◌
  abbrev sums : Group
  sums = module_group R M

  zero-act : (u : V) → R.zero · u ≡ 𝟘
  zero-act u = GroupLaws.add_cancel sums (R.zero · u) 𝟘 (R.zero · u) (sym (M.add-act R.zero R.zero u) ∙ ap (λ x. x · u) (R.add-zero R.zero) ∙ sym (GroupLaws.zero-add sums (R.zero · u)))

  act-zero : (a : R.Elem) → a · 𝟘 ≡ 𝟘
  act-zero a = GroupLaws.add_cancel sums (a · 𝟘) 𝟘 (a · 𝟘) (sym (M.act-add a 𝟘 𝟘) ∙ ap (λ x. a · x) (M.add-zero 𝟘) ∙ sym (GroupLaws.zero-add sums (a · 𝟘)))

  neg-act : (a : R.Elem) (u : V) → (R.neg a) · u ≡ - (a · u)
  neg-act a u = GroupLaws.neg_unique sums (a · u) ((R.neg a) · u) (sym (M.add-act a (R.neg a) u) ∙ ap (λ x. x · u) (R.add-neg a) ∙ zero-act u)

  module _ (xs : List R.Elem) where
    abbrev combine : List Poly → List V → V
    combine [] gs = 𝟘
    combine (p ∷ ps) [] = 𝟘
    combine (p ∷ ps) (g ∷ gs) = (sum R xs p · g) + combine ps gs

    front_is : (p : Poly) (ps : List Poly) (gs : List V) → combine (front p ps) gs ≡ combine (p ∷ ps) gs
    front_is none [] [] = refl
    front_is none [] (g ∷ gs) = sym (M.add-zero (R.zero · g) ∙ zero-act g)
    front_is none (q ∷ qs) gs = refl
    front_is (term c u p) qs gs = refl

    unit_is : (i : ℕ) (gs : List V) → combine (unit i) gs ≡ at 𝟘 gs i
    unit_is zero [] = refl
    unit_is zero (g ∷ gs) = M.add-zero _ ∙ ap (λ x. x · g) (R.add-zero _ ∙ R.mul-one _ ∙ R.add-zero R.one) ∙ M.one-act g
    unit_is (suc i) [] = refl
    unit_is (suc i) (g ∷ gs) = ap (λ x. x + combine (unit i) gs) (zero-act g) ∙ GroupLaws.zero-add sums (combine (unit i) gs) ∙ unit_is i gs

    plus_all_is : (ps qs : List Poly) (gs : List V) → combine (plus_all ps qs) gs ≡ combine ps gs + combine qs gs
    plus_all_is [] qs gs = sym (GroupLaws.zero-add sums (combine qs gs))
    plus_all_is (p ∷ ps) [] gs = sym (M.add-zero (combine (p ∷ ps) gs))
    plus_all_is (p ∷ ps) (q ∷ qs) [] = front_is (plus p q) (plus_all ps qs) [] ∙ sym (M.add-zero 𝟘)
    plus_all_is (p ∷ ps) (q ∷ qs) (g ∷ gs) =
        front_is (plus p q) (plus_all ps qs) (g ∷ gs)
        ∙ ap₂ ◌+◌ (ap (λ x. x · g) (plus_is R xs p q) ∙ M.add-act (sum R xs p) (sum R xs q) g) (plus_all_is ps qs gs)
        ∙ GroupLaws.add_middle sums (sum R xs p · g) (sum R xs q · g) (combine ps gs) (combine qs gs)

    negate_all_is : (ps : List Poly) (gs : List V) → combine (negate_all ps) gs ≡ - (combine ps gs)
    negate_all_is [] gs = sym (GroupLaws.neg-zero sums)
    negate_all_is (p ∷ ps) [] = sym (GroupLaws.neg-zero sums)
    negate_all_is (p ∷ ps) (g ∷ gs) =
        ap₂ ◌+◌ (ap (λ x. x · g) (negate_is R xs p) ∙ neg-act (sum R xs p) g) (negate_all_is ps gs) ∙ sym (GroupLaws.neg-add_distr sums (sum R xs p · g) (combine ps gs))

    module _ (stays : ℕ → ℕ → Bool) (swap : (x y : ℕ) → stays x y ≡ false → R.mul (at R.zero xs x) (at R.zero xs y) ≡ R.mul (at R.zero xs y) (at R.zero xs x)) where
      times_all_is : (p : Poly) (qs : List Poly) (gs : List V) → combine (times_all stays p qs) gs ≡ sum R xs p · combine qs gs
      times_all_is p [] gs = sym (act-zero (sum R xs p))
      times_all_is p (q ∷ qs) [] = front_is (times stays p q) (times_all stays p qs) [] ∙ sym (act-zero (sum R xs p))
      times_all_is p (q ∷ qs) (g ∷ gs) =
          front_is (times stays p q) (times_all stays p qs) (g ∷ gs)
          ∙ ap₂ ◌+◌ (ap (λ x. x · g) (times_is R xs stays swap p q) ∙ M.act_assoc (sum R xs p) (sum R xs q) g) (times_all_is p qs gs)
          ∙ sym (M.act-add (sum R xs p) (sum R xs q · g) (combine qs gs))

      module _ (gs : List V) where
        linear_is : (l : Linear) → combine (linear stays l) gs ≡ vector R M xs gs l
        linear_is (gen i) = unit_is i gs
        linear_is origin = refl
        linear_is (opposite l) = negate_all_is (linear stays l) gs ∙ ap M.neg (linear_is l)
        linear_is (l ⊞ m) = plus_all_is (linear stays l) (linear stays m) gs ∙ ap₂ ◌+◌ (linear_is l) (linear_is m)
        linear_is (l ⊟ m) = plus_all_is (linear stays l) (negate_all (linear stays m)) gs ∙ ap₂ ◌+◌ (linear_is l) (negate_all_is (linear stays m) gs ∙ ap M.neg (linear_is m))
        linear_is (e ⊡ l) = times_all_is (normal stays e) (linear stays l) gs ∙ ap₂ ◌·◌ (normal_is R xs stays swap e) (linear_is l)

        pub by_linear : (l m : Linear) → linear stays l ≡ linear stays m → vector R M xs gs l ≡ vector R M xs gs m
        by_linear l m h = sym (linear_is l) ∙ ap (λ ps. combine ps gs) h ∙ linear_is m

  -- an equation that holds in any left module over any ring
  pub in_module : (xs : List R.Elem) (gs : List V) (l m : Linear) → linear as_is l ≡ linear as_is m → vector R M xs gs l ≡ vector R M xs gs m
  in_module xs gs = by_linear xs as_is (λ x y e. absurd (cc e)) gs

-- ---- an expression that has the value u, found by `search linear_shapes`
pub record LinearShape (R : Ring) (M : Module R) (xs : List R.Elem) (gs : List M.Vector) (u : M.Vector) : Type 0 where
  pub expr : Linear
  pub is : vector R M xs gs expr ≡ u

module _ (R : Ring) (M : Module R) (xs : List R.Elem) where
  abbrev pub linear_0 : (g0 : M.Vector) (gs : List M.Vector) → LinearShape R M xs (g0 ∷ gs) g0
  linear_0 g0 gs = record { expr = gen 0; is = refl }

  abbrev pub linear_1 : (g0 g1 : M.Vector) (gs : List M.Vector) → LinearShape R M xs (g0 ∷ g1 ∷ gs) g1
  linear_1 g0 g1 gs = record { expr = gen 1; is = refl }

  abbrev pub linear_2 : (g0 g1 g2 : M.Vector) (gs : List M.Vector) → LinearShape R M xs (g0 ∷ g1 ∷ g2 ∷ gs) g2
  linear_2 g0 g1 g2 gs = record { expr = gen 2; is = refl }

  abbrev pub linear_3 : (g0 g1 g2 g3 : M.Vector) (gs : List M.Vector) → LinearShape R M xs (g0 ∷ g1 ∷ g2 ∷ g3 ∷ gs) g3
  linear_3 g0 g1 g2 g3 gs = record { expr = gen 3; is = refl }

  module _ (gs : List M.Vector) where
    abbrev pub linear_zero : LinearShape R M xs gs M.zero
    linear_zero = record { expr = origin; is = refl }

    abbrev pub linear_add : (u v : M.Vector) → LinearShape R M xs gs u → LinearShape R M xs gs v → LinearShape R M xs gs (M.add u v)
    linear_add u v p q = record { expr = p.expr ⊞ q.expr; is = ap₂ M.add p.is q.is }

    abbrev pub linear_neg : (u : M.Vector) → LinearShape R M xs gs u → LinearShape R M xs gs (M.neg u)
    linear_neg u p = record { expr = opposite p.expr; is = ap M.neg p.is }

    abbrev pub linear_act : (a : R.Elem) (u : M.Vector) → Shape R xs a → LinearShape R M xs gs u → LinearShape R M xs gs (M.act a u)
    linear_act a u p q = record { expr = p.expr ⊡ q.expr; is = ap₂ M.act p.is q.is }

pub ruleset linear_shapes = (linear_0, linear_1, linear_2, linear_3, linear_zero, linear_add, linear_neg, linear_act, shapes)

pub same_linear_shape : (R : Ring) (M : Module R) (xs : List R.Elem) (gs : List M.Vector) {u v : M.Vector} (p : LinearShape R M xs gs u) (q : LinearShape R M xs gs v) → linear as_is p.expr ≡ linear as_is q.expr → u ≡ v
same_linear_shape R M xs gs p q h = sym p.is ∙ in_module R M xs gs p.expr q.expr h ∙ q.is
