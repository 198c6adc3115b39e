use Rattle.ore_algebra.proofs.Integers.{integers}
use Rattle.ore_commute.proofs.Kept.{closed_form_is, closed_form_apart}
use Rattle.ore_commute.proofs.laws.closed_form_is_letter_rule.Goals as goal

pub returns : goal.returns
returns c = record {
  product = closed_form_is integers;
  apart = closed_form_apart integers;
}
