use Rattle.std.proofs.Common.{◌≡◌, ◌<◌, ℕ, [], ◌++◌, length, drop, get_or, sym, ap, ◌∙◌, subst, arith, add-one}
use Rattle.std.proofs.lemmas.List.{append-nil}
use Rattle.ore_text.specs.CanonicalText.{power_text, factor_texts}
use Rattle.ore_text.specs.CanonicalParts.{starred, stays_bare}
use Rattle.ore_text.proofs.Printing.{factor_written, bare_after, factor_texts-none, exponent_is}
use Rattle.ore_text.proofs.print.append_factors.Goals as goal

abbrev Written : goal.In_ok-is_bare → ℕ → Type 0
Written c j = record {
  text : c.append_factor.new.text.items ++ starred c.in_ok-is_bare.is_bare (factor_texts (drop j c.args.algebra.now.names.now) (drop j c.args.exps.now.exponents)) ≡ c.args.text.now.items ++ starred c.args.bare (factor_texts c.args.algebra.now.names.now c.args.exps.now.exponents);
  bare : stays_bare c.in_ok-is_bare.is_bare (factor_texts (drop j c.args.algebra.now.names.now) (drop j c.args.exps.now.exponents)) ≡ stays_bare c.args.bare (factor_texts c.args.algebra.now.names.now c.args.exps.now.exponents);
}

pub loop-k-preserved : goal.loop-k-preserved
loop-k-preserved c =
    let es = c.args.exps.now.exponents in
    let l = c.args.exps.now.twelve in
    let below : c.loop-k.k < length es = omega (arith, l, c.loop-k-test.true, c.count-k-end.ensures.small) in
    let same : c.get.result ≡ get_or es c.loop-k.k 0 = c.get.ensures ∙ exponent_is c.args.exps.now c.loop-k.k in
    subst (λ j. Written c j) (sym (add-one c.loop-k.k)) (record {
      text = factor_written c.args.bare c.loop-k.is_bare c.in_ok-is_bare.is_bare c.args.text.now.items c.loop-k.text.items c.append_factor.new.text.items c.args.algebra.now.names.now es c.name.result.now c.loop-k.k c.name.ensures below c.loop-k.invariant.text (c.in_ok-is_bare.ensures.text ∙ ap (λ e. c.loop-k.text.items ++ starred c.loop-k.is_bare (power_text c.name.result.now e)) same) (c.in_ok-is_bare.ensures.bare ∙ ap (λ e. stays_bare c.loop-k.is_bare (power_text c.name.result.now e)) same);
      bare = bare_after c.args.bare c.loop-k.is_bare c.in_ok-is_bare.is_bare c.args.algebra.now.names.now es c.name.result.now c.loop-k.k c.name.ensures below c.loop-k.invariant.bare (c.in_ok-is_bare.ensures.bare ∙ ap (λ e. stays_bare c.loop-k.is_bare (power_text c.name.result.now e)) same);
    })

pub returns : goal.returns
returns c =
    let none : factor_texts (drop c.loop-k.k c.args.algebra.now.names.now) (drop c.loop-k.k c.args.exps.now.exponents) ≡ [] = factor_texts-none c.loop-k.k c.args.algebra.now.names.now _ (omega (arith, c.args.algebra.now.count, c.loop-k-test.false, c.count-k-end.ensures.value)) in
    record {
      text = sym (ap (λ fs. c.loop-k.text.items ++ starred c.loop-k.is_bare fs) none ∙ append-nil c.loop-k.text.items) ∙ c.loop-k.invariant.text;
      bare = sym (ap (λ fs. stays_bare c.loop-k.is_bare fs) none) ∙ c.loop-k.invariant.bare;
    }
