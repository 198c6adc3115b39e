use Rattle.std.proofs.Common.{◌≡◌, ◌++◌, drop}
use Rattle.ore_text.specs.CanonicalParts.{starred, stays_bare}
use Rattle.ore_text.specs.CanonicalText.{factor_texts}
use Rattle.ore_text.proofs.print.append_factors.Given as goal

abbrev pub invariant-loop-k : goal.invariant-loop-k
invariant-loop-k l = record {
  text : l.text.items ++ starred l.is_bare (factor_texts (drop l.k l.algebra.names.now) (drop l.k l.exps.exponents)) ≡ l.fn.text.items ++ starred l.fn.bare (factor_texts l.algebra.names.now l.exps.exponents);
  bare : stays_bare l.is_bare (factor_texts (drop l.k l.algebra.names.now) (drop l.k l.exps.exponents)) ≡ stays_bare l.fn.bare (factor_texts l.algebra.names.now l.exps.exponents);
}
