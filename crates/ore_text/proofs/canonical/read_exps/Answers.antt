use Rattle.std.proofs.Common.{◌<◌, ◌≤◌, suc, length, drop, get_or, sym, ◌∙◌, subst, arith, length-set}
use Rattle.ore_monomial.specs.Signature.{MonomialOf}
use Rattle.ore_text.proofs.CanonicalReading.{rest_at, length_rest}
use Rattle.ore_text.proofs.Exponents.{IsPower, names_behind, others_behind, exponent_small, power_next, has_read, zeros_kept, of_zeros, values_are, monomial_is, sum_is, nothing_left}
use Rattle.ore_text.proofs.Known.{at_none, at_some}
use Rattle.ore_text.proofs.canonical.read_exps.Goals as goal

pub returns-in_default-clause-only : goal.returns-in_default-clause-only
returns-in_default-clause-only c bare m tail o d end e =
    let text = c.args.text.now in
    let names = c.args.algebra.now.names.now in
    let k = c.loop-k.k in
    let l : k < 12 = omega (arith, c.loop-k-test.true, c.count-k-end.ensures.small) in
    let h = c.loop-k.invariant.only bare m tail o d end e in
    at_none (IsPower names m tail k c.name.result.now h.bare (rest_at c.loop-k.at text)) c.read_power.result c.in_default.is
    (c.read_power.ensures.only h.bare (get_or m.exponents k 0) (drop (suc k) names) (drop (suc k) m.exponents) tail (exponent_small m k l d) (names_behind (suc k) names c.args.algebra.now.form.form) (others_behind k names c.name.result.now c.name.ensures c.args.algebra.now.form.distinct) end
    (power_next names m tail k c.loop-k.values text c.loop-k.at c.name.result.now h c.name.ensures l))

pub loop-k-preserved : goal.loop-k-preserved
loop-k-preserved c =
    let text = c.args.text.now in
    let names = c.args.algebra.now.names.now in
    let k = c.loop-k.k in
    let l : k < 12 = omega (arith, c.loop-k-test.true, c.count-k-end.ensures.small) in
    record {
      within = (let w = c.in-Some.ensures.within in omega (arith, c.loop-k.invariant.within, length_rest c.loop-k.at text));
      twelve = length-set c.loop-k.values k c.in-Some.exponent ∙ c.loop-k.invariant.twelve;
      zeros = zeros_kept k c.loop-k.values c.in-Some.exponent c.loop-k.invariant.zeros;
      only = λ bare m tail o d end e.
          let h = c.loop-k.invariant.only bare m tail o d end e in
          has_read names m tail k c.loop-k.values text c.loop-k.at c.name.result.now (c.in-Some.exponent, c.in-Some.length) h (omega (arith, c.loop-k.invariant.twelve))
          (at_some (IsPower names m tail k c.name.result.now h.bare (rest_at c.loop-k.at text)) c.read_power.result (c.in-Some.exponent, c.in-Some.length) c.in-Some.is
          (c.read_power.ensures.only h.bare (get_or m.exponents k 0) (drop (suc k) names) (drop (suc k) m.exponents) tail (exponent_small m k l d) (names_behind (suc k) names c.args.algebra.now.form.form) (others_behind k names c.name.result.now c.name.ensures c.args.algebra.now.form.distinct) end
          (power_next names m tail k c.loop-k.values text c.loop-k.at c.name.result.now h c.name.ensures l)));
    }

pub returns-in-Ok-clause-of : goal.returns-in-Ok-clause-of
returns-in-Ok-clause-of c =
    subst (MonomialOf c.args.algebra.now.signature.now) (sym c.in-Ok.ensures.1) (of_zeros c.args.algebra.now.signature.now c.loop-k.values c.loop-k.k c.loop-k.invariant.twelve (let a = c.loop-k.auto.k-end in let b = c.count-k-end.ensures.value in omega arith) c.loop-k.invariant.zeros)

pub returns-in-Ok-clause-only : goal.returns-in-Ok-clause-only
returns-in-Ok-clause-only c bare m tail o d end e =
    let k = c.loop-k.k in
    let rest = drop c.loop-k.at c.args.text.now in
    let h = c.loop-k.invariant.only bare m tail o d end e in
    let past : length c.args.algebra.now.signature.now.kinds ≤ k = (let a = c.loop-k-test.false in let b = c.count-k-end.ensures.value in omega arith) in
    let same = values_are c.args.algebra.now.signature.now c.args.algebra.now.names.now m tail k c.loop-k.values rest c.loop-k.invariant.twelve past o c.loop-k.invariant.zeros h in
    (c.in-Ok.ensures.1 ∙ monomial_is m c.loop-k.values same, nothing_left c.args.algebra.now.names.now m tail k c.loop-k.values rest (let a = c.args.algebra.now.count in omega arith) h)

pub returns-in-Err-clause-only : goal.returns-in-Err-clause-only
returns-in-Err-clause-only c bare m tail o d end e =
    let k = c.loop-k.k in
    let rest = drop c.loop-k.at c.args.text.now in
    let h = c.loop-k.invariant.only bare m tail o d end e in
    let past : length c.args.algebra.now.signature.now.kinds ≤ k = (let a = c.loop-k-test.false in let b = c.count-k-end.ensures.value in omega arith) in
    let same = values_are c.args.algebra.now.signature.now c.args.algebra.now.names.now m tail k c.loop-k.values rest c.loop-k.invariant.twelve past o c.loop-k.invariant.zeros h in
    c.in-Err.ensures (sum_is m c.loop-k.values same d)
