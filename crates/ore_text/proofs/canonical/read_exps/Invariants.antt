use Rattle.std.proofs.Common.{◌≡◌, ◌≤◌, ℕ, Bool, List, ◌++◌, drop, length, get_or}
use Rattle.ore_monomial.specs.Monomial.{Monomial, degree}
use Rattle.ore_monomial.specs.Signature.{MonomialOf}
use Rattle.ore_text.specs.CanonicalParts.{starred, IsTermEnd}
use Rattle.ore_text.specs.CanonicalText.{factor_texts}
use Rattle.ore_text.proofs.Exponents.{HasRead}
use Rattle.ore_text.proofs.canonical.read_exps.Given as goal

abbrev pub invariant-loop-k : goal.invariant-loop-k
invariant-loop-k l = record {
  within : l.at ≤ length l.text;
  twelve : length l.values ≡ 12;
  zeros : (j : ℕ) → l.k ≤ j → get_or l.values j 0 ≡ 0;
  only : (bare : Bool) (m : Monomial) (tail : List ℕ) → MonomialOf l.algebra.signature.now m → degree m ≤ 32767 → IsTermEnd tail → l.text ≡ starred bare (factor_texts l.algebra.names.now m.exponents) ++ tail → HasRead l.algebra.names.now m tail l.k l.values (drop l.at l.text);
}
