-- A monomial: one exponent for each of twelve variables, and the orders of monomials. The orders are the graded
-- lexicographic and the graded reverse lexicographic order (Cox, Little and O'Shea, Ideals, Varieties, and Algorithms).
--     Monomial, monomial_of    twelve exponents; those that a list begins with
--     exponent, degree         the exponent of a variable; the sum of the exponents
--     unit                     all exponents are zero
--     with_exponent, raise, lower    another exponent at one variable; one more; some less
--     product, lcm, quotient   exponent by exponent the sum, the greater one, the difference
--     Divides                  no exponent is greater
--     plain_cmp                the order in which terms are stored
--     order_cmp                the order of monomials, which is deg_lex or deg_rev_lex
--     rank                     numbers that are ordered as the monomials are
--     zip_with, by_exponents   a function of two lists, place by place; of two monomials, exponent by exponent
--     length-zip_with          the length of such a list
use Rattle.std.specs.Prelude.{◌≡◌, ℕ, suc, pred, ◌+◌, ◌-◌, ◌≤◌, max, List, [], ◌∷◌, length, get_or, set, replicate, map, reverse}
use Rattle.std.specs.declared.cmp.Ordering.{Ordering}
use Rattle.ore_monomial.specs.declared.order.Order.{Order}
use Rattle.ore_monomial.specs.declared.order.Order.TheVariants.{DegLex, DegRevLex}
use Rattle.std.specs.Ordering.{nat_cmp, on, then_cmp, flip_args}
use Rattle.std.specs.Cmp.Lexicographic.{slice_cmp}
use Rattle.std.specs.List.{sum}
use Rattle.std.proofs.lemmas.List.{length-set}
use mathlib.Core.Path.{refl, sym, ◌∙◌, ap}

-- one exponent for each of twelve variables
pub record Monomial : Type 0 where
  pub exponents : List ℕ
  pub twelve : length exponents ≡ 12

-- the first twelve numbers of a list, with zeros for those that it lacks
abbrev pub monomial_of : List ℕ → Monomial
monomial_of es = record { exponents = get_or es 0 0 ∷ get_or es 1 0 ∷ get_or es 2 0 ∷ get_or es 3 0 ∷ get_or es 4 0 ∷ get_or es 5 0 ∷ get_or es 6 0 ∷ get_or es 7 0 ∷ get_or es 8 0 ∷ get_or es 9 0 ∷ get_or es 10 0 ∷ get_or es 11 0 ∷ []; twelve = refl }

-- the exponent of the variable x, and 0 past the twelfth
unfoldable pub exponent : Monomial → ℕ → ℕ
exponent m x = get_or m.exponents x 0

-- the sum of the exponents
unfoldable pub degree : Monomial → ℕ
degree m = sum m.exponents

-- the monomial 1
unfoldable pub unit : Monomial
unit = record { exponents = replicate 12 0; twelve = refl }

-- m with the exponent e at x
unfoldable pub with_exponent : ℕ → ℕ → Monomial → Monomial
with_exponent x e m = record { exponents = set m.exponents x e; twelve = length-set m.exponents x e ∙ m.twelve }

-- m with one more at x
abbrev pub raise : ℕ → Monomial → Monomial
raise x m = with_exponent x (suc (exponent m x)) m

-- m with j less at x
abbrev pub lower : ℕ → ℕ → Monomial → Monomial
lower x j m = with_exponent x (exponent m x - j) m

-- f of the numbers of two lists, place by place
unfoldable pub zip_with : (ℕ → ℕ → ℕ) → List ℕ → List ℕ → List ℕ
zip_with f (a ∷ es) (b ∷ bs) = f a b ∷ zip_with f es bs
zip_with f es bs = []

pub length-zip_with : (f : ℕ → ℕ → ℕ) (es bs : List ℕ) → length es ≡ length bs → length (zip_with f es bs) ≡ length bs
unfolding zip_with
length-zip_with f [] [] e = refl
length-zip_with f [] (b ∷ bs) e = e
length-zip_with f (a ∷ es) [] e = refl
length-zip_with f (a ∷ es) (b ∷ bs) e = ap suc (length-zip_with f es bs (ap pred e))

-- f of the exponents of two monomials, variable by variable
unfoldable pub by_exponents : (ℕ → ℕ → ℕ) → Monomial → Monomial → Monomial
by_exponents f m n = record { exponents = zip_with f m.exponents n.exponents; twelve = length-zip_with f m.exponents n.exponents (m.twelve ∙ sym n.twelve) ∙ n.twelve }

-- the exponents are added
unfoldable pub product : Monomial → Monomial → Monomial
product = by_exponents ◌+◌

-- the least common multiple has the greater exponent for each variable
unfoldable pub lcm : Monomial → Monomial → Monomial
lcm = by_exponents max

-- the monomial by which n has to be multiplied to give m, where n divides m
unfoldable pub quotient : Monomial → Monomial → Monomial
quotient = by_exponents ◌-◌

-- no exponent of m is greater than that of n
abbrev pub Divides : Monomial → Monomial → Type 0
Divides m n = (x : ℕ) → exponent m x ≤ exponent n x

-- ---- the orders

-- the plain order in which operators keep their terms, whatever the signature's order is
unfoldable pub plain_cmp : Monomial → Monomial → Ordering
plain_cmp = on (λ m. m.exponents) (slice_cmp nat_cmp)

-- by degree, then by the first exponent that differs, the larger being greater
abbrev pub deg_lex : Monomial → Monomial → Ordering
deg_lex = then_cmp (on degree nat_cmp) plain_cmp

-- by degree, then by the last exponent that differs, the smaller being greater
abbrev pub deg_rev_lex : Monomial → Monomial → Ordering
deg_rev_lex = then_cmp (on degree nat_cmp) (flip_args (on (λ m. reverse m.exponents) (slice_cmp nat_cmp)))

abbrev pub order_cmp : Order → Monomial → Monomial → Ordering
order_cmp DegLex = deg_lex
order_cmp DegRevLex = deg_rev_lex

-- thirteen numbers whose lexicographic order is the order of the monomials
unfoldable pub rank : Order → Monomial → List ℕ
rank DegLex m = degree m ∷ m.exponents
rank DegRevLex m = degree m ∷ map (λ e. degree m - e) (reverse m.exponents)
