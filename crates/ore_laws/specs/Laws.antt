-- The laws of operators of a signature, over the fractions: every f, g and h here is any finite sum of terms.
--     f · g, f ⊕ g, f *                          the product, the sum and the adjoint
--     IsAssociative, HasUnit                     of the product
--     DistributesLeft, DistributesRight          the product over sums
--     NonzeroHasLead, LeadIsUnique               a lead is there, and there is no second
--     LeadOfProduct                              the product of the leads
--     HasNoZeroDivisor                           a product is zero only where a factor is
--     AdjointIsAdditive, AdjointReversesProducts, AdjointIsInvolution    of the adjoint
--     IsClosedUnderSums, IsClosedUnderProducts, IsClosedUnderAdjoints    no variable past the declared ones comes in
--     HasCommonLeftMultiples, HasCommonRightMultiples    nonzero operators of the signature have a nonzero common
--                                                multiple, by operators of the signature
--     Matrix                                     a list of rows of operators
--     AdjointOfMatrixProduct, AdjointOfMatrixTwice    of the transposed adjoint of matrices
--     Operator, zero, one                        a finite sum of terms; the operators 0 and 1
--     matrix_times, transpose_adjoint            the product of matrices; the transposed adjoint of one
use Rattle.std.specs.Prelude.{◌≡◌, ◌≢◌, ◌⊎◌, ℕ, List, length}
use Rattle.ore_algebra.specs.Free as sums
use Rattle.ore_rational.specs.Fraction.{Fraction, mul}
use Rattle.ore_rational.specs.Field.{rationals}
use Rattle.ore_monomial.specs.Monomial.{Monomial, plain_cmp, product, unit}
use Rattle.ore_monomial.specs.declared.order.Order.{Order}
use Rattle.ore_monomial.specs.Signature.{Signature}
use Rattle.ore_monomial.specs.LetterRule as letters
use Rattle.ore_ring.specs.Product.{times}
use Rattle.ore_ring.specs.Adjoint as adjoints
use Rattle.ore_ring.specs.Belongs.{OperatorOf}
use Rattle.ore_ring.specs.Lead.{IsLead}
use Rattle.ore_rows.specs.Rows.{Row, AreLong}
use Rattle.ore_rows.specs.Rows as rows

abbrev pub Operator : Type 0
Operator = letters.Operator rationals

-- the operator with no term
abbrev pub zero : Operator
zero = sums.empty_sum rationals plain_cmp

-- the unit monomial, once
abbrev pub one : Operator
one = sums.single rationals plain_cmp unit rationals.one

infixl 20 ◌⊕◌
abbrev pub ◌⊕◌ : Operator → Operator → Operator
f ⊕ g = sums.plus rationals plain_cmp f g

abbrev pub Matrix : Type 0
Matrix = List (Row rationals)

-- ---- leads, in either order of monomials

-- each operator but zero has a lead
abbrev pub NonzeroHasLead : Type 0
NonzeroHasLead = (o : Order) (f : Operator) → f ≢ zero → (m : Monomial) × (k : Fraction) × IsLead rationals o f m k

-- two leads of one operator are the same
abbrev pub LeadIsUnique : Type 0
LeadIsUnique = (o : Order) (f : Operator) (m n : Monomial) (j k : Fraction) → IsLead rationals o f m j → IsLead rationals o f n k → (m ≡ n) × (j ≡ k)

module _ (s : Signature) where
  infixl 30 ◌·◌
  abbrev pub ◌·◌ : Operator → Operator → Operator
  f · g = times rationals s f g

  abbrev pub adjoint : Operator → Operator
  adjoint f = adjoints.adjoint rationals s f

  abbrev pub IsAssociative : Type 0
  IsAssociative = (f g h : Operator) → (f · g) · h ≡ f · (g · h)

  abbrev pub HasUnit : Type 0
  HasUnit = (f : Operator) → (one · f ≡ f) × (f · one ≡ f)

  abbrev pub DistributesLeft : Type 0
  DistributesLeft = (f g h : Operator) → f · (g ⊕ h) ≡ f · g ⊕ f · h

  abbrev pub DistributesRight : Type 0
  DistributesRight = (f g h : Operator) → (f ⊕ g) · h ≡ f · h ⊕ g · h

  -- the lead of a product has the product of the monomials and the product of the coefficients
  abbrev pub LeadOfProduct : Type 0
  LeadOfProduct = (o : Order) (f g : Operator) (m n : Monomial) (j k : Fraction) → IsLead rationals o f m j → IsLead rationals o g n k → IsLead rationals o (f · g) (product m n) (mul j k)

  abbrev pub HasNoZeroDivisor : Type 0
  HasNoZeroDivisor = (f g : Operator) → f · g ≡ zero → (f ≡ zero) ⊎ (g ≡ zero)

  -- ---- adjoints

  abbrev pub AdjointIsAdditive : Type 0
  AdjointIsAdditive = (f g : Operator) → adjoint (f ⊕ g) ≡ adjoint f ⊕ adjoint g

  -- the adjoint of a product is the product of the adjoints, turned round
  abbrev pub AdjointReversesProducts : Type 0
  AdjointReversesProducts = (f g : Operator) → adjoint (f · g) ≡ adjoint g · adjoint f

  abbrev pub AdjointIsInvolution : Type 0
  AdjointIsInvolution = (f : Operator) → adjoint (adjoint f) ≡ f

  -- ---- operators in the variables of the signature

  abbrev pub IsClosedUnderSums : Type 0
  IsClosedUnderSums = (f g : Operator) → OperatorOf rationals s f → OperatorOf rationals s g → OperatorOf rationals s (f ⊕ g)

  abbrev pub IsClosedUnderProducts : Type 0
  IsClosedUnderProducts = (f g : Operator) → OperatorOf rationals s f → OperatorOf rationals s g → OperatorOf rationals s (f · g)

  abbrev pub IsClosedUnderAdjoints : Type 0
  IsClosedUnderAdjoints = (f : Operator) → OperatorOf rationals s f → OperatorOf rationals s (adjoint f)

  -- ---- common multiples of nonzero operators f and g of the signature (Ore 1933)

  -- l f = m g for some nonzero operators l and m of the signature
  abbrev pub HasCommonLeftMultiples : Type 0
  HasCommonLeftMultiples = (f g : Operator) → OperatorOf rationals s f → OperatorOf rationals s g → f ≢ zero → g ≢ zero
      → (l : Operator) × (m : Operator) × OperatorOf rationals s l × OperatorOf rationals s m × (l ≢ zero) × (m ≢ zero) × (l · f ≡ m · g)

  -- f l = g m for some nonzero operators l and m of the signature
  abbrev pub HasCommonRightMultiples : Type 0
  HasCommonRightMultiples = (f g : Operator) → OperatorOf rationals s f → OperatorOf rationals s g → f ≢ zero → g ≢ zero
      → (l : Operator) × (m : Operator) × OperatorOf rationals s l × OperatorOf rationals s m × (l ≢ zero) × (m ≢ zero) × (f · l ≡ g · m)

  -- ---- matrices, with the number of columns beside each operation

  -- A B, where B has n columns
  abbrev pub matrix_times : ℕ → Matrix → Matrix → Matrix
  matrix_times n a b = rows.matrix_times rationals s n a b

  -- the transpose of a matrix of n columns, each entry replaced by its adjoint
  abbrev pub transpose_adjoint : ℕ → Matrix → Matrix
  transpose_adjoint n a = rows.transpose_adjoint rationals s n a

  -- (A B)* = B* A*, where A has a column for each row of B, and B has n columns
  abbrev pub AdjointOfMatrixProduct : Type 0
  AdjointOfMatrixProduct = (n : ℕ) (a b : Matrix) → AreLong rationals (length b) a → AreLong rationals n b
      → transpose_adjoint n (matrix_times n a b) ≡ matrix_times (length a) (transpose_adjoint n b) (transpose_adjoint (length b) a)

  -- (A*)* = A, where A has n columns
  abbrev pub AdjointOfMatrixTwice : Type 0
  AdjointOfMatrixTwice = (n : ℕ) (a : Matrix) → AreLong rationals n a → transpose_adjoint (length a) (transpose_adjoint n a) ≡ a
