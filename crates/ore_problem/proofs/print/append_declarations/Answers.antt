use Rattle.std.proofs.Common.{◌<◌, length, ◌∙◌, arith}
use Rattle.ore_monomial.specs.declared.signature.VarKind.TheVariants.{Constant}
use Rattle.ore_problem.specs.ProblemText.{declaration_text}
use Rattle.ore_problem.proofs.PrintLemmas.{declarations_next}
use Rattle.ore_problem.proofs.print.append_declarations.Goals as goal

pub loop-k-preserved : goal.loop-k-preserved
loop-k-preserved c =
    let h : c.loop-k.k < length c.args.algebra.now.signature.now.kinds = omega (arith, c.args.algebra.now.count, c.len-k-end.ensures, c.loop-k-test.true) in
    declarations_next (declaration_text c.args.algebra.now.names.now) c.loop-k.text.items c.append_declaration.new.text.items c.args.algebra.now.names.now c.args.algebra.now.signature.now.kinds c.loop-k.k c.name.result.now c.kind.result Constant c.name.ensures h c.kind.ensures c.in_ok-append_declaration.ensures ∙ c.loop-k.invariant
