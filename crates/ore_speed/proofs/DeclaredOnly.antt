-- Operators that have only declared variables.
--     zero_belongs     zero is one
--     term_added       so is the sum with a term in declared variables
--     still_belongs    so is what a call leaves that adds such a term, or stops and changes nothing
use Rattle.std.proofs.Common.{◌≡◌, subst, sym, ◌∙◌}
use Rattle.std.specs.Prelude.{OnErr}
use Rattle.std.specs.declared.result.Result.{Result}
use Rattle.std.specs.declared.result.Result.TheVariants.{Ok, Err}
use Rattle.ore_algebra.specs.Limits.{program}
use Rattle.ore_algebra.specs.Free.{empty_sum, single}
use Rattle.ore_rational.specs.Fraction.{Fraction}
use Rattle.ore_rational.specs.Field.{rationals}
use Rattle.ore_monomial.specs.Gives.{Turns}
use Rattle.ore_monomial.specs.declared.order.Order.{Order}
use Rattle.ore_monomial.specs.declared.stop.RingStop.{RingStop}
use Rattle.ore_monomial.specs.Monomial.{Monomial, plain_cmp}
use Rattle.ore_monomial.specs.Signature.{Signature, MonomialOf}
use Rattle.ore_ring.specs.Belongs.{Belongs, OperatorOf}
use Rattle.ore_ring.specs.Ordered.{Ordered}
use Rattle.ore_ring.specs.Within.{plus_within}
use Rattle.ore_ring.proofs.Belonging.{of_none, of_single, of_plus}
use Rattle.ore_ring.proofs.WithinLaws.{plus_value}

pub zero_belongs : (s : Signature) (o : Order) (f : Ordered) → o ≡ s.order → f ≡ record { by = o; sum = empty_sum rationals plain_cmp } → Belongs s f
zero_belongs s o f h e = subst (Belongs s) (sym e) (record { order = h; variables = of_none rationals s })

module _ (s : Signature) (f g : Ordered) (m : Monomial) (k : Fraction) (b : Belongs s f) (l : MonomialOf s m) (o : g.by ≡ f.by) where
  pub term_added : plus_within program f.sum (single rationals plain_cmp m k) ≡ Ok g.sum → Belongs s g
  term_added e = record {
    order = o ∙ b.order;
    variables =
        subst (OperatorOf rationals s) (sym (plus_value program f.sum (single rationals plain_cmp m k) g.sum e))
        (of_plus rationals s f.sum (single rationals plain_cmp m k) b.variables (of_single rationals s m k l));
  }

  pub still_belongs : {X : Type 0} (r : Result X RingStop) → Turns r g.sum (plus_within program f.sum (single rationals plain_cmp m k)) → OnErr r (g ≡ f) → Belongs s g
  still_belongs (Ok u) t e = term_added t
  still_belongs (Err x) t e = subst (Belongs s) (sym e) b
