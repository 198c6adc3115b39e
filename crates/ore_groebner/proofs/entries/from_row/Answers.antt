use Rattle.std.proofs.Common.{ap, ◌∙◌}
use Rattle.ore_rational.specs.Field.{rationals}
use Rattle.ore_monomial.specs.Term.{Term}
use Rattle.ore_monomial.specs.LetterRule.{constant}
use Rattle.ore_pairs.specs.Run.{entry_row}
use Rattle.ore_rows.specs.Stored.{sums_of}
use Rattle.ore_rows.proofs.StoredBases.{zeros_lead}
use Rattle.ore_groebner.proofs.Multiples.{from_zero, from_lead}
use Rattle.ore_groebner.proofs.entries.from_row.Goals as goal

pub returns-in_ok-entry_row-in-None-clause-value : goal.returns-in_ok-entry_row-in-None-clause-value
returns-in_ok-entry_row-in-None-clause-value c rest =
    let o = c.args.sig.now.order in
    let n = c.args.n in
    from_zero o n c.args.next (sums_of c.args.row.now) _ rest (zeros_lead o c.args.row.now c.in-None.ensures) (c.in_ok-entry_row-in-None.ensures.value ∙ ap (λ k. entry_row rationals n n (constant rationals k)) c.zero.ensures)

pub returns-in_ok-entry_row-in-Some-clause-value : goal.returns-in_ok-entry_row-in-Some-clause-value
returns-in_ok-entry_row-in-Some-clause-value c rest =
    let u : Term = record { monomial = c.in-Some.found.1; column = c.in-Some.found.0 } in
    from_lead c.args.sig.now.order c.args.n c.args.next (sums_of c.args.row.now) _ rest u c.in-Some.found.2 c.in-Some.ensures c.in_ok-entry_row-in-Some.ensures.value
