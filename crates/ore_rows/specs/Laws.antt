-- What limits do to the operations on rows and matrices, over the fractions: the rows are of any length, and their
-- entries any operators.
--     ScaleUnlimited, SumUnlimited, DifferenceUnlimited, DotUnlimited, CombineUnlimited, ProductUnlimited
--                      without limits an operation gives its value, where the sizes fit together
--     ScaleAtMost, SumAtMost, DifferenceAtMost, DotAtMost, CombineAtMost, ProductAtMost
--                      within limits an operation gives what it gives without, or stops
--     ScaleValue, SumValue, DifferenceValue, DotValue, CombineValue, ProductValue
--                      so what it gives within limits is its value
--     ZeroProduct, ZeroSum, ZeroDifference, ZeroAdjoint
--                      what comes of the operator zero, under any limits: such an operation never stops
use Rattle.std.specs.Prelude.{◌≡◌, ℕ, List, length}
use Rattle.std.specs.declared.result.Result.TheVariants.{Ok}
use Rattle.ore_algebra.specs.Free.{empty_sum}
use Rattle.ore_algebra.specs.Limits.{Limits, unlimited, IsAtMost}
use Rattle.ore_rational.specs.Field.{rationals}
use Rattle.ore_monomial.specs.Monomial.{plain_cmp}
use Rattle.ore_monomial.specs.Signature.{Signature}
use Rattle.ore_monomial.specs.LetterRule.{Operator}
use Rattle.ore_ring.specs.AdjointWithin.{adjoint_within}
use Rattle.ore_ring.specs.Within.{plus_within, minus_within, times_within}
use Rattle.ore_rows.specs.Rows.{Row, AreLong, row_plus, row_minus, row_scale, dot, combine, matrix_times}
use Rattle.ore_rows.specs.RowsWithin.{row_sum_within, row_difference_within, scale_within, dot_within, combine_within, matrix_times_within}

-- ---- without limits

-- the sum of two rows of one length
abbrev pub SumUnlimited : Type 0
SumUnlimited = (r q : Row rationals) → length r ≡ length q → row_sum_within unlimited r q ≡ Ok (row_plus rationals r q)

-- the difference of two rows of one length
abbrev pub DifferenceUnlimited : Type 0
DifferenceUnlimited = (r q : Row rationals) → length r ≡ length q → row_difference_within unlimited r q ≡ Ok (row_minus rationals r q)

module _ (s : Signature) where
  -- an operator times each entry
  abbrev pub ScaleUnlimited : Type 0
  ScaleUnlimited = (f : Operator rationals) (r : Row rationals) → scale_within unlimited s f r ≡ Ok (row_scale rationals s f r)

  -- a row times a column of its length
  abbrev pub DotUnlimited : Type 0
  DotUnlimited = (c r : Row rationals) → length c ≡ length r → dot_within unlimited s c r ≡ Ok (dot rationals s c r)

  -- a row times a matrix of as many rows, each of n entries
  abbrev pub CombineUnlimited : Type 0
  CombineUnlimited = (n : ℕ) (c : Row rationals) (m : List (Row rationals)) → length c ≡ length m → AreLong rationals n m → combine_within unlimited s n c m ≡ Ok (combine rationals s n c m)

  -- a matrix with a column for each row of b times b, whose rows have n entries
  abbrev pub ProductUnlimited : Type 0
  ProductUnlimited = (n : ℕ) (a b : List (Row rationals)) → AreLong rationals (length b) a → AreLong rationals n b → matrix_times_within unlimited s n a b ≡ Ok (matrix_times rationals s n a b)

-- ---- within limits, beside without

-- a sum within limits is that without them, or stops
abbrev pub SumAtMost : Type 0
SumAtMost = (l : Limits) (r q : Row rationals) → IsAtMost (row_sum_within l r q) (row_sum_within unlimited r q)

-- a difference is that without limits, or stops
abbrev pub DifferenceAtMost : Type 0
DifferenceAtMost = (l : Limits) (r q : Row rationals) → IsAtMost (row_difference_within l r q) (row_difference_within unlimited r q)

module _ (s : Signature) where
  -- a multiple is that without limits, or stops
  abbrev pub ScaleAtMost : Type 0
  ScaleAtMost = (l : Limits) (f : Operator rationals) (r : Row rationals) → IsAtMost (scale_within l s f r) (scale_within unlimited s f r)

  -- a row times a column is that without limits, or stops
  abbrev pub DotAtMost : Type 0
  DotAtMost = (l : Limits) (c r : Row rationals) → IsAtMost (dot_within l s c r) (dot_within unlimited s c r)

  -- a row times a matrix is that without limits, or stops
  abbrev pub CombineAtMost : Type 0
  CombineAtMost = (l : Limits) (n : ℕ) (c : Row rationals) (m : List (Row rationals)) → IsAtMost (combine_within l s n c m) (combine_within unlimited s n c m)

  -- a product of matrices is that without limits, or stops
  abbrev pub ProductAtMost : Type 0
  ProductAtMost = (l : Limits) (n : ℕ) (a b : List (Row rationals)) → IsAtMost (matrix_times_within l s n a b) (matrix_times_within unlimited s n a b)

-- ---- within limits, the value

-- what a sum of two rows of one length gives is their sum
abbrev pub SumValue : Type 0
SumValue = (l : Limits) (r q x : Row rationals) → length r ≡ length q → row_sum_within l r q ≡ Ok x → x ≡ row_plus rationals r q

-- what a difference of two rows of one length gives is their difference
abbrev pub DifferenceValue : Type 0
DifferenceValue = (l : Limits) (r q x : Row rationals) → length r ≡ length q → row_difference_within l r q ≡ Ok x → x ≡ row_minus rationals r q

module _ (s : Signature) where
  -- what a multiple gives is the operator times each entry
  abbrev pub ScaleValue : Type 0
  ScaleValue = (l : Limits) (f : Operator rationals) (r x : Row rationals) → scale_within l s f r ≡ Ok x → x ≡ row_scale rationals s f r

  -- what a row times a column of its length gives is their product
  abbrev pub DotValue : Type 0
  DotValue = (l : Limits) (c r : Row rationals) (x : Operator rationals) → length c ≡ length r → dot_within l s c r ≡ Ok x → x ≡ dot rationals s c r

  -- what a row times a matrix that fits gives is the combination of the rows
  abbrev pub CombineValue : Type 0
  CombineValue = (l : Limits) (n : ℕ) (c : Row rationals) (m : List (Row rationals)) (x : Row rationals) → length c ≡ length m → AreLong rationals n m → combine_within l s n c m ≡ Ok x → x ≡ combine rationals s n c m

  -- what a product of matrices that fit gives is their product
  abbrev pub ProductValue : Type 0
  ProductValue = (l : Limits) (n : ℕ) (a b x : List (Row rationals)) → AreLong rationals (length b) a → AreLong rationals n b → matrix_times_within l s n a b ≡ Ok x → x ≡ matrix_times rationals s n a b

-- ---- the operator zero

-- a product with zero is zero
abbrev pub ZeroProduct : Signature → Type 0
ZeroProduct s = (l : Limits) (f : Operator rationals) → (times_within l s f (empty_sum rationals plain_cmp) ≡ Ok (empty_sum rationals plain_cmp)) × (times_within l s (empty_sum rationals plain_cmp) f ≡ Ok (empty_sum rationals plain_cmp))

-- a sum with zero is the other operand
abbrev pub ZeroSum : Type 0
ZeroSum = (l : Limits) (f : Operator rationals) → (plus_within l f (empty_sum rationals plain_cmp) ≡ Ok f) × (plus_within l (empty_sum rationals plain_cmp) f ≡ Ok f)

-- where zero is taken away, the same is left
abbrev pub ZeroDifference : Type 0
ZeroDifference = (l : Limits) (f : Operator rationals) → minus_within l f (empty_sum rationals plain_cmp) ≡ Ok f

-- the adjoint of zero is zero
abbrev pub ZeroAdjoint : Signature → Type 0
ZeroAdjoint s = (l : Limits) → adjoint_within l s (empty_sum rationals plain_cmp) ≡ Ok (empty_sum rationals plain_cmp)
