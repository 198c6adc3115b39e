-- Rows and matrices of operators, and the modules that rows span. A matrix is a list of rows, beside its number
-- of columns where that is needed.
-- (Torsion and exactness of the module of a linear system: Chyzak, Quadrat and Robertz 2005; Robertz 2014.)
--     Row, RowOf                     a list of operators; each of them is of a signature
--     AreLong                        each row of a list has n entries
--     zero_row, row_plus, row_scale  zeros, sums, left multiples
--     row_minus                      differences
--     unit_entry, unit_row           zeros but for a 1 at one place, by its entries
--     identity_rows                  the unit rows in order
--     dot                            a row times a column
--     combine                        the sum of multiples of rows
--     InRowModule                    a row is a combination of rows, by operators of the signature
--     IsExact                        a matrix l has a column for each row of a matrix a, and the rows of the signature
--                                    that a takes to zeros are those of the row module of l
--     IsTorsion, IsTorsionFree       a nonzero operator of the signature takes a row into a row module; of the rows of
--                                    the signature only its own are taken there
--     matrix_times                   the product of matrices
--     column, adjoint_columns        a column of a matrix; columns from one on, each as a row of adjoints
--     transpose_adjoint              the transpose, each entry replaced by its adjoint
use Rattle.std.specs.Prelude.{◌≡◌, ◌≢◌, ◌↔◌, ℕ, zero, suc, nat_eq, cond, List, [], ◌∷◌, length, map, replicate, get_or}
use Rattle.std.specs.List.{AllByRecursion, range_with_len}
use Rattle.ore_algebra.specs.Domain.{Domain}
use Rattle.ore_algebra.specs.Free.{empty_sum, single, plus, scale}
use Rattle.ore_monomial.specs.Monomial.{unit, plain_cmp}
use Rattle.ore_monomial.specs.Signature.{Signature}
use Rattle.ore_monomial.specs.LetterRule.{Operator}
use Rattle.ore_ring.specs.Product.{times}
use Rattle.ore_ring.specs.Adjoint.{adjoint}
use Rattle.ore_ring.specs.Belongs.{OperatorOf}

-- a list of operators
abbrev pub Row : Domain → Type 0
Row K = List (Operator K)

-- each entry is an operator of the signature
abbrev pub RowOf : (K : Domain) → Signature → Row K → Type 0
RowOf K s r = AllByRecursion (OperatorOf K s) r

-- each row has n entries
abbrev pub AreLong : (K : Domain) → ℕ → List (Row K) → Type 0
AreLong K n rows = AllByRecursion (λ r. length r ≡ n) rows

-- n zeros
unfoldable pub zero_row : (K : Domain) → ℕ → Row K
zero_row K n = replicate n (empty_sum K plain_cmp)

-- 1 at the place i, and zero at any other
abbrev pub unit_entry : (K : Domain) → ℕ → ℕ → Operator K
unit_entry K i j = cond (nat_eq j i) (single K plain_cmp unit K.one) (empty_sum K plain_cmp)

-- n zeros but for 1 at the place i
unfoldable pub unit_row : (K : Domain) → ℕ → ℕ → Row K
unit_row K n i = map (unit_entry K i) (range_with_len 0 n)

-- the unit rows of n entries, from that of the place 0 on
unfoldable pub identity_rows : (K : Domain) → ℕ → List (Row K)
identity_rows K n = map (unit_row K n) (range_with_len 0 n)

-- the sum, entry by entry
unfoldable pub row_plus : (K : Domain) → Row K → Row K → Row K
row_plus K (a ∷ r) (b ∷ q) = plus K plain_cmp a b ∷ row_plus K r q
row_plus K r q = []

-- the sum with the opposite of the second
unfoldable pub row_minus : (K : Domain) → Row K → Row K → Row K
row_minus K r q = row_plus K r (map (scale K plain_cmp (K.minus K.one)) q)

-- a row times a column
unfoldable pub dot : (K : Domain) → Signature → Row K → Row K → Operator K
dot K s (a ∷ r) (b ∷ q) = plus K plain_cmp (times K s a b) (dot K s r q)
dot K s r q = empty_sum K plain_cmp

module _ (K : Domain) (s : Signature) where
  -- d times each entry
  unfoldable pub row_scale : Operator K → Row K → Row K
  row_scale d r = map (times K s d) r

  -- a row of coefficients times rows of n entries
  unfoldable pub combine : ℕ → Row K → List (Row K) → Row K
  combine n (c ∷ cs) (r ∷ rs) = row_plus K (row_scale c r) (combine n cs rs)
  combine n cs rs = zero_row K n

  -- z is a combination of the rows, with coefficients of the signature
  unfoldable pub InRowModule : ℕ → List (Row K) → Row K → Type 0
  InRowModule n rows z = (c : Row K) × (length c ≡ length rows) × RowOf K s c × (combine n c rows ≡ z)

  -- l has a column for each row of a, which has n columns, and the rows of the signature that times a are zeros are
  -- those in the row module of l
  unfoldable pub IsExact : ℕ → List (Row K) → List (Row K) → Type 0
  IsExact n a l = AreLong K (length a) l × ((c : Row K) → length c ≡ length a → RowOf K s c → (combine n c a ≡ zero_row K n) ↔ InRowModule (length a) l c)

  -- some nonzero operator of the signature takes z into the row module of a
  unfoldable pub IsTorsion : ℕ → List (Row K) → Row K → Type 0
  IsTorsion n a z = (d : Operator K) × OperatorOf K s d × (d ≢ empty_sum K plain_cmp) × InRowModule n a (row_scale d z)

  -- each row of the signature that is torsion modulo a is in the row module of a
  unfoldable pub IsTorsionFree : ℕ → List (Row K) → Type 0
  IsTorsionFree n a = (z : Row K) → length z ≡ n → RowOf K s z → IsTorsion n a z → InRowModule n a z

  -- ---- products of matrices, and the transposed adjoint

  -- each row of a times b, which has n columns
  unfoldable pub matrix_times : ℕ → List (Row K) → List (Row K) → List (Row K)
  matrix_times n a b = map (λ r. combine n r b) a

  -- the entries at place j
  unfoldable pub column : ℕ → List (Row K) → Row K
  column j a = map (λ r. get_or r j (empty_sum K plain_cmp)) a

  -- the adjoints of the columns from j on, n of them
  unfoldable pub adjoint_columns : ℕ → ℕ → List (Row K) → List (Row K)
  adjoint_columns j zero a = []
  adjoint_columns j (suc n) a = map (adjoint K s) (column j a) ∷ adjoint_columns (suc j) n a

  -- the transpose of a, which has n columns, with each entry replaced by its adjoint
  unfoldable pub transpose_adjoint : ℕ → List (Row K) → List (Row K)
  transpose_adjoint n a = adjoint_columns 0 n a
