-- Divisors of monomials, their quotients and their least common multiples.
--     product-quotient                     the quotient times the divisor is the whole
--     quotient-product                     a product divided by one factor is the other
--     divides-product                      a factor divides the product
--     divides_itself, divides_trans, divides_each_other
--     divides-lcm_left, divides-lcm_right  each of two monomials divides their least common multiple
--     lcm-divides                          which divides each common multiple
--     lcm_comm
--     degree-divides                       the degree of a divisor is not greater
--     unit_from_degree                          the unit is the one monomial of degree 0
use Rattle.std.proofs.Common.{◌≡◌, ◌<◌, ◌≤◌, sym, ap, subst, arith}
use Rattle.std.proofs.lemmas.List.Sums.{get_or-le-sum_by}
use Rattle.ore_monomial.specs.Monomial.{Monomial, exponent, degree, unit, product, lcm, quotient, Divides}
use Rattle.ore_monomial.proofs.Monomials.{same_exponents, exponent-unit, exponent-product, exponent-lcm, exponent-quotient, degree-product}

pub product_assoc : (m n p : Monomial) → product (product m n) p ≡ product m (product n p)
product_assoc m n p = same_exponents _ _ (λ x l. let a = exponent-product (product m n) p x in let b = exponent-product m n x in let c = exponent-product m (product n p) x in let d = exponent-product n p x in omega arith)

pub product-quotient : (m n : Monomial) → Divides n m → product (quotient m n) n ≡ m
product-quotient m n h = same_exponents _ _ (λ x l. let p = exponent-product (quotient m n) n x in let q = exponent-quotient m n x in let d = h x in omega arith)

pub quotient-product : (m n : Monomial) → quotient (product m n) n ≡ m
quotient-product m n = same_exponents _ _ (λ x l. let p = exponent-product m n x in let q = exponent-quotient (product m n) n x in omega arith)

pub divides-product : (m n : Monomial) → Divides n (product m n)
divides-product m n x = let a = exponent-product m n x in omega arith

pub divides_itself : (m : Monomial) → Divides m m
divides_itself m x = omega arith

pub divides_trans : (m n p : Monomial) → Divides m n → Divides n p → Divides m p
divides_trans m n p h k x = let a = h x in let b = k x in omega arith

pub divides_each_other : (m n : Monomial) → Divides m n → Divides n m → m ≡ n
divides_each_other m n h k = same_exponents m n (λ x l. let a = h x in let b = k x in omega arith)

pub divides-lcm_left : (m n : Monomial) → Divides m (lcm m n)
divides-lcm_left m n x = let e = exponent-lcm m n x in omega arith

pub divides-lcm_right : (m n : Monomial) → Divides n (lcm m n)
divides-lcm_right m n x = let e = exponent-lcm m n x in omega arith

pub lcm-divides : (m n p : Monomial) → Divides m p → Divides n p → Divides (lcm m n) p
lcm-divides m n p h k x = let e = exponent-lcm m n x in let a = h x in let b = k x in omega arith

pub lcm_comm : (m n : Monomial) → lcm m n ≡ lcm n m
lcm_comm m n = same_exponents _ _ (λ x l. let a = exponent-lcm m n x in let b = exponent-lcm n m x in omega arith)

pub degree-divides : (m n : Monomial) → Divides m n → degree m ≤ degree n
degree-divides m n h = let e = ap degree (product-quotient n m h) in let d = degree-product (quotient n m) m in omega arith

pub unit_from_degree : (m : Monomial) → degree m ≡ 0 → m ≡ unit
unfolding degree exponent
unit_from_degree m e = same_exponents m unit (λ x l.
    let small = get_or-le-sum_by (λ a. a) m.exponents x 0 (subst (λ n. x < n) (sym m.twelve) l) in
    let none = exponent-unit x in
    omega arith)
