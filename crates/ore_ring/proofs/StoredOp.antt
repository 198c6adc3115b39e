-- What the fields of a stored operator say of its value.
--     stored_terms      the stored terms are the falling terms
--     no_terms, none_of    a stored operator without terms is zero
--     collect_snoc      one more term is one more summand
--     Decides-terms     the test of two lists of terms for equality
use Rattle.std.proofs.Common.{◌≡◌, length, [], ◌∷◌, ◌++◌, refl, sym, ap, ◌∙◌, arith}
use Rattle.ore_algebra.specs.Free.{empty_sum, single, plus, collect}
use Rattle.ore_monomial.specs.Monomial.{plain_cmp}
use Rattle.ore_monomial.specs.declared.order.Order.{Order}
use Rattle.ore_monomial.proofs.Operators
use Rattle.ore_rational.specs.Field.{rationals}
use Rattle.ore_ring.specs.Terms.{Terms, Summand, falling, IsFalling}
use Rattle.ore_ring.proofs.TermLaws.{falling-collect}
use Rattle.ore_ring.specs.Ordered.{Ordered}
use Rattle.ore_monomial.specs.MonomialCode.{monomial_eq}
use Rattle.ore_rational.specs.Range.{fraction_eq}
use Rattle.ore_rational.proofs.Stored.{Decides-fraction_eq}
use Rattle.std.proofs.Common.{◌&&◌}
use Rattle.std.specs.Bool.{Decides}
use Rattle.std.specs.Ordering.{is_eq}
use Rattle.std.specs.Cmp.{tied_itself}
use Rattle.std.proofs.lemmas.Bool.Decides.{Decides-and, Decides-like}
use Rattle.ore_monomial.specs.Monomial.{Monomial}
use Rattle.ore_algebra.proofs.FreeLaws
use Rattle.ore_monomial.specs.MonomialCode.{plain_cmp_total}
use Rattle.ore_monomial.proofs.Monomials.{plain_cmp_apart}
use lib.Pointwise.{pointwise, pointwise_decides}

-- the stored terms are the falling ones
pub stored_terms : (o : Order) (ts : Terms) (v : Ordered) → ◌≡◌ {A = Ordered} (record { by = o; sum = collect rationals plain_cmp ts }) v → IsFalling o ts → falling v.by v.sum ≡ ts
stored_terms o ts v e h = ap (λ w. falling w.by w.sum) (sym e) ∙ falling-collect o ts h

pub no_terms : (ts : Terms) → length ts ≡ 0 → ts ≡ []
no_terms [] h = refl
no_terms (t ∷ ts) h = absurd (omega arith)

pub none_of : (ts : Terms) → ts ≡ [] → collect rationals plain_cmp ts ≡ empty_sum rationals plain_cmp
unfolding empty_sum
none_of ts e = ap (collect rationals plain_cmp) e

pub collect_snoc : (ts : Terms) (t : Summand) → collect rationals plain_cmp (ts ++ t ∷ []) ≡ plus rationals plain_cmp (collect rationals plain_cmp ts) (single rationals plain_cmp t.0 t.1)
unfolding single
collect_snoc ts t = Operators.collect-append rationals ts (t ∷ [])

pub Decides-monomial : (m n : Monomial) → Decides (monomial_eq m n) (m ≡ n)
Decides-monomial m n = (FreeLaws.same_key rationals plain_cmp_total plain_cmp_apart m n, λ e. ap (λ p. monomial_eq m p) (sym e) ∙ ap is_eq (tied_itself plain_cmp_total m))

pub Decides-term : (t u : Summand) → Decides (monomial_eq t.0 u.0 && fraction_eq t.1 u.1) (t ≡ u)
Decides-term t u = Decides-like _ (λ p i. (p.0 i, p.1 i)) (λ e. (ap (λ v. v.0) e, ap (λ v. v.1) e)) (Decides-and _ _ (Decides-monomial t.0 u.0) (Decides-fraction_eq t.1 u.1))

pub Decides-terms : (ts us : Terms) → Decides (pointwise (λ t u. monomial_eq t.0 u.0 && fraction_eq t.1 u.1) ts us) (ts ≡ us)
Decides-terms ts us = pointwise_decides Decides-term ts us
