-- A normal form for expressions over a ring, which computes.
--     Expr                          an expression in numbered variables
--     Poly                          a normal form: whole numbers times words, short words first and then by their letters,
--                                   no word twice and no number zero
--     plus, negate, scale, times    what expressions do, on normal forms
--     stays x y                     the variable x may not be moved past y; words are sorted as far as it allows
--     as_is, sorted, central k      nothing commutes, everything does, the first k variables do
--     normal                        the normal form of an expression
use Rattle.std.proofs.Common.{ℕ, zero, suc, ℤ, pos, negsuc, ◌+ℤ◌, ◌*ℤ◌, neg_ℤ, Bool, true, false, eqb, ltb, not, ◌||◌, List, [], ◌∷◌}

infixl 6 ◌⊕◌
infixl 6 ◌⊖◌
infixl 7 ◌⊗◌
-- an expression; `var i` is the variable number i
pub data Expr : Type 0 where
  var : ℕ → Expr
  int : ℤ → Expr
  nil one : Expr
  minus : Expr → Expr
  ◌⊕◌ ◌⊖◌ ◌⊗◌ : Expr → Expr → Expr

pub data Poly : Type 0 where
  none : Poly
  term : ℤ → List ℕ → Poly → Poly

pub data Order : Type 0 where
  less same more : Order

-- the order of two words, by their heads' order, or by their tails'
abbrev pub by_heads : Bool → Bool → Order → Order
by_heads true b o = o
by_heads false true o = less
by_heads false false o = more

abbrev pub order : List ℕ → List ℕ → Order
order [] [] = same
order [] (y ∷ v) = less
order (x ∷ u) [] = more
order (x ∷ u) (y ∷ v) = let o = order u v in by_heads (eqb x y) (ltb x y) o

-- c times the word v, then p
abbrev pub keep : ℤ → List ℕ → Poly → Poly
keep (pos zero) v p = p
keep (pos (suc n)) v p = term (pos (suc n)) v p
keep (negsuc n) v p = term (negsuc n) v p

-- the shorter word first, and else by the letters: a product by a word keeps this order
abbrev pub by_length : Bool → Bool → Order → Order
by_length true b o = less
by_length false true o = more
by_length false false o = o

abbrev pub letters : List ℕ → ℕ
letters [] = 0
letters (x ∷ u) = suc (letters u)

abbrev pub degree_order : List ℕ → List ℕ → Order
degree_order u v = let o = order u v in by_length (ltb (letters u) (letters v)) (ltb (letters v) (letters u)) o

-- two lists in order are merged; `rest` adds what follows c u in the first
abbrev pub choose : Order → ℤ → List ℕ → ℤ → List ℕ → (Unit {0} → Poly) → (Unit {0} → Poly) → (Unit {0} → Poly) → Poly
choose less c u d v a b e = term c u (a tt)
choose same c u d v a b e = keep (c +ℤ d) v (b tt)
choose more c u d v a b e = term d v (e tt)

abbrev pub merge_one : ℤ → List ℕ → (Poly → Poly) → Poly → Poly
merge_one c u rest none = term c u (rest none)
merge_one c u rest (term d v q) = choose (degree_order u v) c u d v (λ w. rest (term d v q)) (λ w. rest q) (λ w. merge_one c u rest q)

abbrev pub plus : Poly → Poly → Poly
plus none q = q
plus (term c u p) q = merge_one c u (plus p) q

abbrev pub negate : Poly → Poly
negate none = none
negate (term c u p) = term (neg_ℤ c) u (negate p)

-- Words. `stays x y` says that the variable x stays in front of y; where it does not, the two commute
abbrev pub place_var : Bool → ℕ → ℕ → List ℕ → List ℕ → List ℕ
place_var true x y v w = x ∷ y ∷ v
place_var false x y v w = y ∷ w

abbrev pub put_var : (stays : ℕ → ℕ → Bool) → ℕ → List ℕ → List ℕ
put_var stays x [] = x ∷ []
put_var stays x (y ∷ v) = let w = put_var stays x v in place_var (stays x y) x y v w

abbrev pub join : (stays : ℕ → ℕ → Bool) → List ℕ → List ℕ → List ℕ
join stays [] v = v
join stays (x ∷ u) v = put_var stays x (join stays u v)

-- c times u times a polynomial
abbrev pub scale : (stays : ℕ → ℕ → Bool) → ℤ → List ℕ → Poly → Poly
scale stays c u none = none
scale stays c u (term d v p) = merge_one (c *ℤ d) (join stays u v) (λ q. q) (scale stays c u p)

abbrev pub times : (stays : ℕ → ℕ → Bool) → Poly → Poly → Poly
times stays none q = none
times stays (term c u p) q = plus (scale stays c u q) (times stays p q)

abbrev pub normal : (stays : ℕ → ℕ → Bool) → Expr → Poly
normal stays (var i) = term (pos 1) (i ∷ []) none
normal stays (int z) = keep z [] none
normal stays nil = none
normal stays one = term (pos 1) [] none
normal stays (minus e) = negate (normal stays e)
normal stays (e ⊕ f) = plus (normal stays e) (normal stays f)
normal stays (e ⊖ f) = plus (normal stays e) (negate (normal stays f))
normal stays (e ⊗ f) = times stays (normal stays e) (normal stays f)

-- no two variables need commute
abbrev pub as_is : ℕ → ℕ → Bool
as_is x y = true

-- all variables commute
abbrev pub sorted : ℕ → ℕ → Bool
sorted x y = ltb x y

-- the variables below k commute with all
abbrev pub central : ℕ → ℕ → ℕ → Bool
central k x y = ltb x y || not (ltb y k)

abbrev pub v0 : Expr
v0 = var 0

abbrev pub v1 : Expr
v1 = var 1

abbrev pub v2 : Expr
v2 = var 2

abbrev pub v3 : Expr
v3 = var 3

abbrev pub v4 : Expr
v4 = var 4

abbrev pub v5 : Expr
v5 = var 5

abbrev pub v6 : Expr
v6 = var 6

abbrev pub v7 : Expr
v7 = var 7
