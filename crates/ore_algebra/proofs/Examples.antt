-- The uses of the normaliser, a line or two each. The list names the variables; `search shapes` finds the expressions,
-- and `refl` says that their normal forms are the same. Where it refuses, it prints the two normal forms.
--     squares              in a ring whose product need not commute
--     two_squares          in a commutative ring
--     with_scalars         where some variables commute with all elements
--     weyl_square, cube    from known equations, each with what it is multiplied by on the left and on the right
--     four_squares         more terms than the search takes by itself: give it more
--     by_hand              expressions that are written out, where a goal isn't spelt in the ring's operations
--     differences          in a left module
use Rattle.std.proofs.Common.{◌≡◌, List, [], ◌∷◌, refl}
use Rattle.ore_algebra.specs.Ring.{Ring, Module}
use Rattle.ore_algebra.proofs.Normal.{v0, v1, v2, one, ◌⊕◌, ◌⊗◌}
use Rattle.ore_algebra.proofs.NormalIs.{Given, given, in_ring, same_shape, same_commutative_shape, same_algebra_shape, same_given, same_commutative_given, shapes}
use Rattle.ore_algebra.proofs.ModuleIs.{linear_shapes, same_linear_shape}

module _ (R : Ring) where
  open R use {add as ◌+◌, mul as ◌*◌, neg as -◌, one as 𝟙, Elem as A}

  infixl 6 ◌+◌
  infixl 7 ◌*◌
  infixl 20 -◌
  squares : (a b : A) → (a + b) * (a + - b) ≡ a * a + - (a * b) + b * a + - (b * b)
  squares a b = same_shape R (a ∷ b ∷ []) (search shapes depth 20) (search shapes depth 20) refl

  -- c and d commute with all, x and y need not
  with_scalars : (c d x y : A) → ((a : A) → a * c ≡ c * a) → ((a : A) → a * d ≡ d * a) → (c * x + y) * (d * x + y) ≡ c * (d * (x * x) + x * y) + (d * (y * x) + y * y)
  with_scalars c d x y hc hd = same_algebra_shape R 2 (c ∷ d ∷ x ∷ y ∷ []) (hc, (hd, tt)) (search shapes depth 20) (search shapes depth 20) refl

  -- from d x = x d + 1, once with x on the right and once with x on the left
  weyl_square : (d x : A) → d * x ≡ x * d + 𝟙 → d * (x * x) ≡ (x * x) * d + (x + x)
  weyl_square d x h =
      let xs : List A = d ∷ x ∷ [] in
      let g : Given R xs = given R xs (search shapes) (search shapes) h in
      same_given R xs ((one, g, v1) ∷ (v1, g, one) ∷ []) (search shapes depth 20) (search shapes depth 20) refl

  by_hand : (a b c : A) → a * (b + c) ≡ a * b + a * c
  by_hand a b c = in_ring R (a ∷ b ∷ c ∷ []) (v0 ⊗ (v1 ⊕ v2)) (v0 ⊗ v1 ⊕ v0 ⊗ v2) refl

  differences : (M : Module R) (a b : A) (u v : M.Vector) → M.add (M.act (a * b) (M.add u v)) (M.neg (M.act a (M.act b u))) ≡ M.act (a * b) v
  differences M a b u v = same_linear_shape R M (a ∷ b ∷ []) (u ∷ v ∷ []) (search linear_shapes depth 20) (search linear_shapes depth 20) refl

  module _ (comm : (a b : A) → a * b ≡ b * a) where
    two_squares : (a b c d : A) → (a * a + b * b) * (c * c + d * d) ≡ (a * c + - (b * d)) * (a * c + - (b * d)) + (a * d + b * c) * (a * d + b * c)
    two_squares a b c d = same_commutative_shape R comm (a ∷ b ∷ c ∷ d ∷ []) (search shapes depth 20) (search shapes depth 20) refl

    cube : (a b : A) → a * a ≡ b + 𝟙 → a * (a * a) ≡ a * b + a
    cube a b h = same_commutative_given R comm (a ∷ b ∷ []) ((v0, given R (a ∷ b ∷ []) (search shapes) (search shapes) h, one) ∷ []) (search shapes depth 20) (search shapes depth 20) refl

    four_squares : (a b c d x y z w : A) →
        (a * a + b * b + c * c + d * d) * (x * x + y * y + z * z + w * w)
        ≡ (a * x + - (b * y) + - (c * z) + - (d * w)) * (a * x + - (b * y) + - (c * z) + - (d * w))
        + (a * y + b * x + c * w + - (d * z)) * (a * y + b * x + c * w + - (d * z))
        + (a * z + - (b * w) + c * x + d * y) * (a * z + - (b * w) + c * x + d * y)
        + (a * w + b * z + - (c * y) + d * x) * (a * w + b * z + - (c * y) + d * x)
    four_squares a b c d x y z w = same_commutative_shape R comm (a ∷ b ∷ c ∷ d ∷ x ∷ y ∷ z ∷ w ∷ []) (search shapes depth 20) (search shapes depth 20 fits 5000) refl
