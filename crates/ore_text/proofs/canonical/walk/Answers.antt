use Rattle.std.proofs.Common.{ap, ◌∙◌}
use Rattle.std.proofs.lemmas.List.Elements.{recursion_from_All}
use Rattle.ore_ring.proofs.Falls.{falling-none}
use Rattle.ore_text.specs.CanonicalParts.{falling_terms, IsPrintableTerm}
use Rattle.ore_text.proofs.PrintableTerms.{variables_of, storable_of}
use Rattle.ore_text.proofs.canonical.walk.Goals as goal

pub read_terms-requires : goal.read_terms-requires
read_terms-requires c = ap falling_terms c.zero-op.ensures ∙ falling-none c.order.result

pub returns-then-branch-clause-of : goal.returns-then-branch-clause-of
returns-then-branch-clause-of c =
    let f = c.read_terms.new.op in
    record {
      order = c.read_terms.ensures.by ∙ ap (λ g. g.by) c.zero-op.ensures ∙ c.order.ensures;
      variables = variables_of c.args.algebra.now.signature.now f.sum f.by (recursion_from_All (IsPrintableTerm c.args.algebra.now.signature.now) (falling_terms f) c.read_terms.ensures.good);
    }

pub returns-then-branch-clause-storable : goal.returns-then-branch-clause-storable
returns-then-branch-clause-storable c =
    let f = c.read_terms.new.op in
    storable_of c.args.algebra.now.signature.now f.sum f.by (recursion_from_All (IsPrintableTerm c.args.algebra.now.signature.now) (falling_terms f) c.read_terms.ensures.good)
