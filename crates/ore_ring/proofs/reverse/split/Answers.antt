use Rattle.std.proofs.Common.{◌≤◌, not, sym, ◌∙◌, subst}
use Rattle.ore_monomial.specs.Signature.{kind_at, is_coordinate}
use Rattle.ore_ring.proofs.AdjointSteps.{part_one, part_divides, letters_are, parts_small}
use Rattle.ore_ring.proofs.reverse.split.Goals as goal

pub returns-then-degree-eq0-clause-coordinates : goal.returns-then-degree-eq0-clause-coordinates
returns-then-degree-eq0-clause-coordinates c = part_one c.args.sig.now c.args.exps.now (λ x. is_coordinate (kind_at c.args.sig.now x)) (sym c.degree.ensures.value ∙ c.if-degree-eq0.true)

pub returns-then-degree-eq0-clause-letters : goal.returns-then-degree-eq0-clause-letters
returns-then-degree-eq0-clause-letters c = part_one c.args.sig.now c.args.exps.now (λ x. not (is_coordinate (kind_at c.args.sig.now x))) (sym c.degree.ensures.value ∙ c.if-degree-eq0.true)

pub minus-letters-requires : goal.minus-letters-requires
minus-letters-requires c = part_divides c.args.sig.now c.args.exps.now c.coordinate_part-coordinates.result c.coordinate_part-coordinates.ensures

pub returns-clause-letters : goal.returns-clause-letters
returns-clause-letters c = c.minus-letters.ensures ∙ letters_are c.args.sig.now c.args.exps.now c.coordinate_part-coordinates.result c.coordinate_part-coordinates.ensures

pub returns-clause-small : goal.returns-clause-small
returns-clause-small c =
    parts_small c.args.sig.now c.args.exps.now c.coordinate_part-coordinates.result c.minus-letters.result c.coordinate_part-coordinates.ensures (c.minus-letters.ensures ∙ letters_are c.args.sig.now c.args.exps.now c.coordinate_part-coordinates.result c.coordinate_part-coordinates.ensures)
    (subst (λ n. n ≤ 32767) c.degree.ensures.value c.degree.ensures.small)
