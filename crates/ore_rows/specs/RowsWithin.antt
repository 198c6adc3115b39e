-- Operations on rows and matrices that stop at limits: as the first operation of the ring that stops, in the order
-- in which they stand here.
--     scale_within                       an operator times each entry
--     row_sum_within                     the sum of two rows, entry by entry
--     row_difference_within              their difference
--     product_added                      a product of operators, added to an operator
--     HasDegrees                         the degrees of the product of two operators fit
--     product_taken, in_turn             a product of operators, taken from an operator; from each entry of a row in turn
--     dot_within                         a row times a column
--     added_at, dot_at                   the product of the entries at a place is added; those at some places, in turn
--     AreEnough                          the entries at some places make the product with each column
--     combine_from, combine_within       a row times some columns of a matrix, or all of them, column by column
--     matrix_times_within                a matrix times a matrix, row by row
use Rattle.std.specs.Prelude.{◌≡◌, true, ℕ, zero, suc, List, [], ◌∷◌, length, get_or}
use Rattle.std.specs.List.{zip}
use Rattle.std.specs.declared.result.Result.{Result}
use Rattle.std.specs.declared.result.Result.TheVariants.{Ok}
use Rattle.ore_algebra.specs.Free.{empty_sum}
use Rattle.ore_algebra.specs.Limits.{Limits, Cause, program, ◌>>=◌, fold_within, map_within}
use Rattle.ore_rational.specs.Field.{rationals}
use Rattle.ore_monomial.specs.Monomial.{plain_cmp}
use Rattle.ore_monomial.specs.Signature.{Signature}
use Rattle.ore_monomial.specs.LetterRule.{Operator}
use Rattle.ore_ring.specs.Terms.{falling}
use Rattle.ore_ring.specs.Within.{plus_within, minus_within, times_within, degrees_fit}
use Rattle.ore_rows.specs.Arithmetic.{within, entry_by_entry, scaled}
use Rattle.ore_rows.specs.Rows.{Row, column}

-- the sums of the entries at one place, in order
abbrev pub row_sum_within : Limits → Row rationals → Row rationals → Result (Row rationals) Cause
row_sum_within l r q = entry_by_entry (plus_within l) r q

-- the differences of the entries at one place, in order
abbrev pub row_difference_within : Limits → Row rationals → Row rationals → Result (Row rationals) Cause
row_difference_within l r q = entry_by_entry (minus_within l) r q

-- no two terms of d and f have degrees with too great a sum
abbrev pub HasDegrees : Signature → Operator rationals → Operator rationals → Type 0
HasDegrees s d f = degrees_fit program (falling s.order d) (falling s.order f) ≡ true

module _ (l : Limits) (s : Signature) where
  -- f times each entry, in order
  abbrev pub scale_within : Operator rationals → Row rationals → Result (Row rationals) Cause
  scale_within f r = scaled rationals (within l s) f r

  -- a product is added to a sum
  unfoldable pub product_added : Operator rationals → Operator rationals × Operator rationals → Result (Operator rationals) Cause
  product_added acc p = do
    m ← times_within l s p.0 p.1
    plus_within l acc m

  -- d times g is taken from f
  unfoldable pub product_taken : Operator rationals → Operator rationals → Operator rationals → Result (Operator rationals) Cause
  product_taken d f g = do
    m ← times_within l s d g
    minus_within l f m

  -- d times each entry of q is taken from the entry of r at its place, one after another
  abbrev pub in_turn : Operator rationals → Row rationals → Row rationals → Result (Row rationals) Cause
  in_turn d r q = entry_by_entry (product_taken d) r q

  -- from zero, the product of each entry with that of the column is added
  abbrev pub dot_within : Row rationals → Row rationals → Result (Operator rationals) Cause
  dot_within c r = fold_within product_added (empty_sum rationals plain_cmp) (zip c r)

  -- the product of the entries at place k is added to a sum
  abbrev pub added_at : Row rationals → Row rationals → Operator rationals → ℕ → Result (Operator rationals) Cause
  added_at c r acc k = product_added acc (get_or c k (empty_sum rationals plain_cmp), get_or r k (empty_sum rationals plain_cmp))

  -- from zero, the products of the entries at these places are added
  abbrev pub dot_at : List ℕ → Row rationals → Row rationals → Result (Operator rationals) Cause
  dot_at ks c r = fold_within (added_at c r) (empty_sum rationals plain_cmp) ks

  -- the columns from j on, n of them
  unfoldable pub combine_from : ℕ → ℕ → Row rationals → List (Row rationals) → Result (Row rationals) Cause
  combine_from j zero c m = Ok []
  combine_from j (suc n) c m = do
    f ← dot_within c (column rationals s j m)
    fs ← combine_from (suc j) n c m
    Ok (f ∷ fs)

  -- a row times a matrix of n columns
  abbrev pub combine_within : ℕ → Row rationals → List (Row rationals) → Result (Row rationals) Cause
  combine_within n c m = combine_from 0 n c m

  -- each row of a times b, which has n columns
  abbrev pub matrix_times_within : ℕ → List (Row rationals) → List (Row rationals) → Result (List (Row rationals)) Cause
  matrix_times_within n a b = map_within (λ r. combine_within n r b) a

-- under any limits, the entries of c at other places than these add nothing to the product with a column
abbrev pub AreEnough : List ℕ → Row rationals → Type 0
AreEnough ks c = (l : Limits) (s : Signature) (r : Row rationals) → length r ≡ length c → dot_at l s ks c r ≡ dot_within l s c r
