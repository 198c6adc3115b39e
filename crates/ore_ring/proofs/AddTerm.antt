-- One term added to a stored operator.
--     added           a term that the walk adds makes the sum
--     nothing_added   a term whose fraction is 0 changes nothing
use Rattle.std.proofs.Common.{◌≡◌, ◌≢◌, pos, [], ◌∷◌, sym, ap, ◌∙◌, subst, refl}
use Rattle.std.specs.Prelude.{OnErr}
use Rattle.std.specs.declared.result.Result.{Result}
use Rattle.std.specs.declared.result.Result.TheVariants.{Ok, Err}
use Rattle.ore_algebra.specs.Free.{single}
use Rattle.ore_algebra.specs.Limits.{program}
use Rattle.ore_rational.specs.Fraction.{Fraction, whole}
use Rattle.ore_rational.specs.Field.{rationals}
use Rattle.ore_monomial.specs.Gives.{Turns}
use Rattle.ore_monomial.specs.Monomial.{Monomial, plain_cmp}
use Rattle.ore_monomial.specs.declared.order.Order.{Order}
use Rattle.ore_monomial.specs.declared.stop.RingStop.{RingStop}
use Rattle.ore_monomial.specs.LetterRule.{Operator}
use Rattle.ore_monomial.proofs.Operators
use Rattle.ore_monomial.proofs.Stops.{fails_like}
use Rattle.ore_ring.specs.Terms.{Terms, IsFalling}
use Rattle.ore_ring.specs.Within.{plus_within}
use Rattle.ore_ring.specs.Merge.{merge_within}
use Rattle.ore_ring.proofs.TermLaws.{C}
use Rattle.ore_ring.proofs.OpSums.{sum_ok, sum_stops}
use Rattle.ore_ring.proofs.ZeroSums.{plus_zero}

module _ (o : Order) (f : Operator rationals) (ts new : Terms) (m : Monomial) (c : Fraction) (te : C ts ≡ f) (h : IsFalling o ts) (n : c ≢ whole (pos 0)) where
  one_term : C ((m, c) ∷ []) ≡ single rationals plain_cmp m c
  unfolding single
  one_term = refl

  one_falls : IsFalling o ((m, c) ∷ [])
  one_falls = record { falls = tt; apart = (n, tt) }

  pub added : (r : Result (Unit {0}) RingStop) → Turns r new (merge_within program o ts ((m, c) ∷ [])) → OnErr r (new ≡ ts) → IsFalling o new × Turns r (C new) (plus_within program f (single rationals plain_cmp m c))
  added (Ok x) e u = sum_ok o f (single rationals plain_cmp m c) ts ((m, c) ∷ []) te one_term h one_falls new e
  added (Err d) e u = (subst (IsFalling o) (sym u) h, fails_like d _ _ (λ k g. sum_stops o f (single rationals plain_cmp m c) ts ((m, c) ∷ []) te one_term h one_falls k g) e)

pub nothing_added : (f : Operator rationals) (m : Monomial) (c : Fraction) → c ≡ whole (pos 0) → plus_within program f (single rationals plain_cmp m c) ≡ Ok f
nothing_added f m c e =
    ap (plus_within program f) (ap (single rationals plain_cmp m) e ∙ Operators.single_zero rationals m)
    ∙ plus_zero program f
