-- Contributions of products and adjoints, before they are added.
--     add_terms_within     terms added to an operator one after another
--     IsInRange, AreInRange    the fraction of a term, of each of some terms, is one that the code computes with
--     falls_before         a term stands before another one in falling order
--     push_number          a whole number of a product of monomials, times the fraction of that product, goes to the end
--     push_product         the contributions of two monomials with a fraction
--     push_pair, push_row  the contributions of two terms; of one term and all of another operator
--     push_adjoint         the contributions of one term to an adjoint
use Rattle.std.specs.Prelude.{◌<◌, ◌^◌, Bool, [], ◌∷◌, ◌++◌, ℤ}
use Rattle.std.specs.Ordering.{is_lt}
use Rattle.std.specs.declared.result.Result.{Result}
use Rattle.std.specs.declared.result.Result.TheVariants.{Ok}
use Rattle.ore_algebra.specs.Limits.{Limits, Cause, ◌>>=◌, fold_within}
use Rattle.ore_rational.specs.Fraction.{Fraction, whole, mul}
use Rattle.ore_rational.specs.Range.{InRange}
use Rattle.ore_rational.specs.Within.{product_within}
use Rattle.ore_rational.specs.Field.{rationals}
use Rattle.ore_monomial.specs.Monomial.{Monomial, order_cmp}
use Rattle.ore_monomial.specs.declared.order.Order.{Order}
use Rattle.ore_monomial.specs.Signature.{Signature}
use Rattle.ore_monomial.specs.LetterRule.{Operator}
use Rattle.ore_monomial.specs.Numbers.{numbers, numbers_within}
use Rattle.ore_ring.specs.Terms.{Summand, Terms}
use Rattle.ore_ring.specs.Within.{add_term_within}
use Rattle.ore_ring.specs.AdjointWithin.{coordinate_part, letter_part, sign_of}

-- terms are added to an operator in turn
unfoldable pub add_terms_within : Limits → Operator rationals → Terms → Result (Operator rationals) Cause
add_terms_within l f ts = fold_within (λ g t. add_term_within l g t.0 t.1) f ts

-- both parts of a term's fraction are in the range
abbrev pub IsInRange : Summand → Type 0
IsInRange t = InRange t.1.num × (t.1.den < 2 ^ 127)

abbrev pub AreInRange : Terms → Type 0
AreInRange [] = Unit {0}
AreInRange (t ∷ ts) = IsInRange t × AreInRange ts

-- the monomial of the first term is the greater one
abbrev pub falls_before : Order → Summand → Summand → Bool
falls_before o t u = is_lt (order_cmp o u.0 t.0)

-- the contribution of one whole number of a product of monomials
unfoldable pub push_number : Limits → Fraction → Terms → Monomial × ℤ → Result Terms Cause
push_number l uv out k = do
  c ← product_within l uv (whole k.1)
  Ok (out ++ (k.0, c) ∷ [])

module _ (l : Limits) (s : Signature) where
  -- two monomials contribute the whole numbers of their product, times a fraction
  unfoldable pub push_product : Fraction → Terms → Monomial → Monomial → Result Terms Cause
  push_product uv out m n = do
    ks ← numbers_within l (numbers s m n)
    fold_within (push_number l uv) out ks

  -- two terms contribute those of their monomials, with the product of their fractions
  unfoldable pub push_pair : Summand → Terms → Summand → Result Terms Cause
  push_pair t out u = do
    uv ← product_within l t.1 u.1
    push_product uv out t.0 u.0

  -- a term meets those of the second operator in turn
  unfoldable pub push_row : Terms → Terms → Summand → Result Terms Cause
  push_row us out t = fold_within (push_pair t) out us

  -- a term gives its letters times its coordinates, with the sign and its fraction
  unfoldable pub push_adjoint : Terms → Summand → Result Terms Cause
  push_adjoint out t = push_product (mul (sign_of rationals s t.0) t.1) out (letter_part s t.0) (coordinate_part s t.0)
