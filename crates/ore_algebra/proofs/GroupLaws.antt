-- What follows from the laws of a sum with opposites, which a ring and a module share.
--     Group                         a type with zero, opposites and a sum that commutes
--     ring_group, module_group      the sums of a ring, and of a module
--     zero-add, neg-add, ..         laws, named by their left sides
--     add_middle                    the middle two of four parts change places
--     neg_unique                    what is added to a and gives zero is the opposite of a
use Rattle.std.proofs.Common.{◌≡◌, sym, ap, ap₂, ◌∙◌}
use Rattle.ore_algebra.specs.Ring.{Ring, Module}

pub record Group : Type 1 where
  pub Elem : Type 0
  pub zero : Elem
  pub neg : Elem → Elem
  pub add : Elem → Elem → Elem
  pub add_assoc : (a b c : Elem) → add (add a b) c ≡ add a (add b c)
  pub add_comm : (a b : Elem) → add a b ≡ add b a
  pub add-zero : (a : Elem) → add a zero ≡ a
  pub add-neg : (a : Elem) → add a (neg a) ≡ zero

abbrev pub ring_group : Ring → Group
ring_group R = record { Elem = R.Elem; zero = R.zero; neg = R.neg; add = R.add; add_assoc = R.add_assoc; add_comm = R.add_comm; add-zero = R.add-zero; add-neg = R.add-neg }

abbrev pub module_group : (R : Ring) → Module R → Group
module_group R M = record { Elem = M.Vector; zero = M.zero; neg = M.neg; add = M.add; add_assoc = M.add_assoc; add_comm = M.add_comm; add-zero = M.add-zero; add-neg = M.add-neg }

module _ (G : Group) where
  open G use {add as ◌+◌, neg as -◌, zero as 𝟘, Elem as A}

  infixl 6 ◌+◌
  infixl 20 -◌
  pub zero-add : (a : A) → 𝟘 + a ≡ a
  zero-add a = G.add_comm 𝟘 a ∙ G.add-zero a

  pub neg-add : (a : A) → (- a) + a ≡ 𝟘
  neg-add a = G.add_comm (- a) a ∙ G.add-neg a

  pub add_left_comm : (a b c : A) → a + (b + c) ≡ b + (a + c)
  add_left_comm a b c = sym (G.add_assoc a b c) ∙ ap (λ x. x + c) (G.add_comm a b) ∙ G.add_assoc b a c

  pub add_middle : (a b c d : A) → (a + b) + (c + d) ≡ (a + c) + (b + d)
  add_middle a b c d = G.add_assoc a b (c + d) ∙ ap (λ x. a + x) (add_left_comm b c d) ∙ sym (G.add_assoc a c (b + d))

  pub add_cancel : (a b c : A) → a + c ≡ b + c → a ≡ b
  add_cancel a b c e = sym (back a) ∙ ap (λ x. x + (- c)) e ∙ back b
    where
      back : (x : A) → (x + c) + (- c) ≡ x
      back x = G.add_assoc x c (- c) ∙ ap (λ y. x + y) (G.add-neg c) ∙ G.add-zero x

  pub neg_unique : (a b : A) → a + b ≡ 𝟘 → b ≡ - a
  neg_unique a b e = add_cancel b (- a) a (G.add_comm b a ∙ e ∙ sym (neg-add a))

  pub neg-zero : - 𝟘 ≡ 𝟘
  neg-zero = sym (neg_unique 𝟘 𝟘 (G.add-zero 𝟘))

  pub neg_neg : (a : A) → - (- a) ≡ a
  neg_neg a = sym (neg_unique (- a) a (neg-add a))

  pub neg-add_distr : (a b : A) → - (a + b) ≡ (- a) + (- b)
  neg-add_distr a b = sym (neg_unique (a + b) ((- a) + (- b)) (add_middle a b (- a) (- b) ∙ ap₂ ◌+◌ (G.add-neg a) (G.add-neg b) ∙ G.add-zero 𝟘))
