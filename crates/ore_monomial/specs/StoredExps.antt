-- Stored exponents.
--     IsStoredExps     there are twelve, beside their sum, which is at most 32767
--     exps_back        a monomial gives its stored form back
use Rattle.std.specs.Prelude.{◌≡◌, ◌≤◌, length}
use Rattle.std.specs.List.{sum}
use Rattle.std.proofs.Common.{ap, sym, ◌∙◌}
use Rattle.ore_monomial.specs.Monomial.{monomial_of, degree}
use Rattle.ore_monomial.specs.MonomialCode.{twelve_numbers}
use Rattle.ore_monomial.specs.declared.exps.Exps.TheInside.{Inside}

pub record IsStoredExps (a : Inside) : Type 0 where
  pub twelve : length a.values ≡ 12
  pub total : a.total ≡ sum a.values
  pub small : a.total ≤ 32767

pub exps_back : (a : Inside) → IsStoredExps a → (let b : Inside = record { total = degree (monomial_of a.values); values = (monomial_of a.values).exponents } in b ≡ a)
unfolding degree
exps_back a h = λ i. record {
  total = (ap sum (twelve_numbers a.values h.twelve) ∙ sym h.total) i;
  values = twelve_numbers a.values h.twelve i;
}
