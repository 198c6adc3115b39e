-- The loop that multiplies a row with the columns of a matrix, one after another.
--     combine_next, combine_stops, combine_end    of the column j: next, where its product is Ok; stops, where it stops; end, past the last
--     column_places                               a column of a matrix is the operators at one place of its rows
use Rattle.std.proofs.Common.{◌≡◌, ℕ, zero, suc, ◌+◌, ◌-◌, ◌<◌, ◌≤◌, List, [], ◌∷◌, ◌++◌, map, refl, ap, ◌∙◌, append-nil, arith}
use Rattle.std.specs.declared.result.Result.TheVariants.{Ok, Err}
use Rattle.ore_algebra.specs.Limits.{Limits, Cause}
use Rattle.ore_algebra.specs.Results.{◌>>=◌, fronted}
use Rattle.ore_algebra.proofs.ResultLaws.{front_more}
use Rattle.ore_rational.specs.Field.{rationals}
use Rattle.ore_monomial.specs.Signature.{Signature}
use Rattle.ore_monomial.specs.LetterRule.{Operator}
use Rattle.ore_ring.specs.Ordered.{Ordered}
use Rattle.ore_rows.specs.Rows.{Row, column}
use Rattle.ore_rows.specs.RowsWithin.{dot_within, combine_from}
use Rattle.ore_rows.specs.Stored.{sums_of, places}

pub column_places : (s : Signature) (j : ℕ) (rows : List (List Ordered)) → column rationals s j (map sums_of rows) ≡ places j rows
unfolding column
column_places s j rows = refl

module _ (l : Limits) (s : Signature) (c : Row rationals) (m : List (Row rationals)) where
  ok_step : (j n : ℕ) (front : Row rationals) (f : Operator rationals) → dot_within l s c (column rationals s j m) ≡ Ok f → fronted front (combine_from l s j (suc n) c m) ≡ fronted (front ++ f ∷ []) (combine_from l s (suc j) n c m)
  unfolding combine_from
  ok_step j n front f e = ap (λ r. fronted front (r >>= λ f. combine_from l s (suc j) n c m >>= λ fs. Ok (f ∷ fs))) e ∙ front_more front f (combine_from l s (suc j) n c m)

  err_step : (j n : ℕ) (front : Row rationals) (e : Cause) → dot_within l s c (column rationals s j m) ≡ Err e → fronted front (combine_from l s j (suc n) c m) ≡ Err e
  unfolding combine_from
  err_step j n front e h = ap (λ r. fronted front (r >>= λ f. combine_from l s (suc j) n c m >>= λ fs. Ok (f ∷ fs))) h

  no_step : (j : ℕ) (front : Row rationals) → fronted front (combine_from l s j zero c m) ≡ Ok front
  unfolding combine_from
  no_step j front = ap Ok (append-nil front)

  left : (j n : ℕ) → j < n → n - j ≡ suc (n - (j + 1))
  left j n h = omega arith

  after : (j : ℕ) → suc j ≡ j + 1
  after j = omega arith

  pub combine_next : (j n : ℕ) (front : Row rationals) (f : Operator rationals) → j < n → dot_within l s c (column rationals s j m) ≡ Ok f → fronted front (combine_from l s j (n - j) c m) ≡ fronted (front ++ f ∷ []) (combine_from l s (j + 1) (n - (j + 1)) c m)
  combine_next j n front f h e = ap (λ k. fronted front (combine_from l s j k c m)) (left j n h) ∙ ok_step j (n - (j + 1)) front f e ∙ ap (λ k. fronted (front ++ f ∷ []) (combine_from l s k (n - (j + 1)) c m)) (after j)

  pub combine_stops : (j n : ℕ) (front : Row rationals) (e : Cause) → j < n → dot_within l s c (column rationals s j m) ≡ Err e → fronted front (combine_from l s j (n - j) c m) ≡ Err e
  combine_stops j n front e h k = ap (λ k. fronted front (combine_from l s j k c m)) (left j n h) ∙ err_step j (n - (j + 1)) front e k

  pub combine_end : (j n : ℕ) (front : Row rationals) → n ≤ j → fronted front (combine_from l s j (n - j) c m) ≡ Ok front
  combine_end j n front h = ap (λ k. fronted front (combine_from l s j k c m)) (let z : n - j ≡ 0 = omega arith in z) ∙ no_step j front
