use Rattle.std.proofs.Common.{ap, refl, ◌++◌, ◌∷◌, [], ◌∙◌, ◌+◌, suc, ◌≡◌, arith}
use Rattle.ore_pairs.specs.PairList as pair
use Rattle.ore_groebner.specs.RunProgress.{entries_from}
use Rattle.ore_syzygy.proofs.EventOrigins.{entries-zero, entries-new}
use Rattle.ore_syzygy.proofs.pairs.all_steps.Goals as goal

pub returns-in-Zero-clause-value : goal.returns-in-Zero-clause-value
returns-in-Zero-clause-value c = λ i j rest. entries-zero c.args.next i j c.args.steps c.args.outcome rest c.args.steps c.in-Zero.is refl

pub returns-in_ok-push-in-NewRow-clause-value : goal.returns-in_ok-push-in-NewRow-clause-value
returns-in_ok-push-in-NewRow-clause-value c = λ i j rest.
    let n = c.args.next in
    let coef = c.in-NewRow.coef in
    let more : suc n ≡ n + 1 = omega arith in
    entries-new n i j c.args.steps c.args.outcome rest c.from_vec.result coef c.in-NewRow.is
    (c.from_vec.ensures ∙ c.in_ok-push-in-NewRow.ensures.items
    ∙ (λ k. c.into_vec-taken.ensures k ++ record { index = n; monomial = c.zero.ensures k; number = coef } ∷ []))
    ∙ ap (λ m. pair.Pair i j c.from_vec.result ∷ entries_from m rest) more
