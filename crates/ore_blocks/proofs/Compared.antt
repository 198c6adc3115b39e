-- Tests whether rows are the same, which compare stored entries.
--     told_false           what isn't true is false
--     same_told            an answer that is true exactly where two values are the same
--     ordered_apart, sums_apart, rows_apart      stored operators, rows and lists of rows of a signature are the same
--                          where their operators are
--     row_told, rows_told  so an answer for stored rows is one for their operators
use Rattle.std.proofs.Common.{◌≡◌, ◌↔◌, suc, Bool, true, false, List, [], ◌∷◌, map, drop, get_or, length, refl, sym, ap, ◌∙◌, arith}
use Rattle.std.specs.Prelude.{IsTrue}
use Rattle.std.specs.List.{All}
use Rattle.ore_monomial.specs.Signature.{Signature}
use Rattle.ore_ring.specs.Belongs.{Belongs}
use Rattle.ore_ring.specs.Ordered.{Ordered}
use Rattle.ore_rows.specs.Stored.{OperatorMatrix, rows_of, sums_of}
use Rattle.ore_rows.proofs.Dots.{all_first}
use Rattle.ore_rows.proofs.Pairs.{all_rest}
use Rattle.ore_blocks.specs.Conditions.{is_same}
use Rattle.ore_blocks.specs.Same.{row_discrete, rows_discrete}

pub told_false : (b : Bool) → ¬ (b ≡ true) → b ≡ false
told_false true n = absurd (n refl)
told_false false n = refl

pub same_told : {A : Type 0} (d : Discrete A) (x y : A) (b : Bool) → IsTrue b ↔ x ≡ y → b ≡ is_same d x y
same_told d x y b h = by (d x y)
  where
    by : (v : Dec (x ≡ y)) → b ≡ elim v [ yes e ↦ true | no n ↦ false ]
    by (yes e) = h.1 e
    by (no n) = told_false b (λ t. n (h.0 t))

module _ (s : Signature) where
  ordered_apart : (f g : Ordered) → Belongs s f → Belongs s g → f.sum ≡ g.sum → f ≡ g
  ordered_apart f g p q e = λ i. record { by = (p.order ∙ sym q.order) i; sum = e i }

  pub sums_apart : (a b : List Ordered) → All (Belongs s) a → All (Belongs s) b → sums_of a ≡ sums_of b → a ≡ b
  sums_apart [] [] p q e = refl
  sums_apart [] (g ∷ b) p q e = let h : 0 ≡ suc (length (sums_of b)) = ap length e in absurd (omega arith)
  sums_apart (f ∷ a) [] p q e = let h : suc (length (sums_of a)) ≡ 0 = ap length e in absurd (omega arith)
  sums_apart (f ∷ a) (g ∷ b) p q e = λ i.
      ordered_apart f g (all_first (Belongs s) (f ∷ a) f a refl p) (all_first (Belongs s) (g ∷ b) g b refl q) (ap (λ r. get_or r 0 f.sum) e) i
      ∷ sums_apart a b (all_rest (Belongs s) (f ∷ a) f a refl p) (all_rest (Belongs s) (g ∷ b) g b refl q) (ap (drop 1) e) i

  rows_apart : (a b : List (List Ordered)) → All (All (Belongs s)) a → All (All (Belongs s)) b → map sums_of a ≡ map sums_of b → a ≡ b
  rows_apart [] [] p q e = refl
  rows_apart [] (g ∷ b) p q e = let h : 0 ≡ suc (length (map sums_of b)) = ap length e in absurd (omega arith)
  rows_apart (f ∷ a) [] p q e = let h : suc (length (map sums_of a)) ≡ 0 = ap length e in absurd (omega arith)
  rows_apart (f ∷ a) (g ∷ b) p q e = λ i.
      sums_apart f g (all_first (All (Belongs s)) (f ∷ a) f a refl p) (all_first (All (Belongs s)) (g ∷ b) g b refl q) (ap (λ r. get_or r 0 (sums_of f)) e) i
      ∷ rows_apart a b (all_rest (All (Belongs s)) (f ∷ a) f a refl p) (all_rest (All (Belongs s)) (g ∷ b) g b refl q) (ap (drop 1) e) i

  pub row_told : (a b : List Ordered) (r : Bool) → All (Belongs s) a → All (Belongs s) b → IsTrue r ↔ a ≡ b → r ≡ is_same row_discrete (sums_of a) (sums_of b)
  row_told a b r p q h = same_told row_discrete (sums_of a) (sums_of b) r (λ t. ap sums_of (h.0 t), λ e. h.1 (sums_apart a b p q e))

  pub rows_told : (a b : OperatorMatrix) (r : Bool) → All (All (Belongs s)) a.rows → All (All (Belongs s)) b.rows → IsTrue r ↔ a.rows ≡ b.rows → r ≡ is_same rows_discrete (rows_of a) (rows_of b)
  rows_told a b r p q h = same_told rows_discrete (rows_of a) (rows_of b) r (λ t. ap (map sums_of) (h.0 t), λ e. h.1 (rows_apart a.rows b.rows p q e))
