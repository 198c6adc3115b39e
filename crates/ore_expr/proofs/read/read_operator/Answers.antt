use Rattle.std.proofs.Common.{List, ap, sym, ◌∙◌, subst}
use Rattle.std.proofs.lemmas.Result.{err_from_is_err_and}
use Rattle.ore_algebra.specs.Limits.{program}
use Rattle.ore_monomial.specs.Gives.{Fails}
use Rattle.ore_expr.specs.declared.instruction.Instruction.{Instruction}
use Rattle.ore_expr.specs.Evaluation.{value_of}
use Rattle.ore_expr.proofs.GrammarLaws.{reads_expressions, finds_faults}
use Rattle.ore_expr.proofs.Machine.{value_of-expression_code}
use Rattle.ore_expr.proofs.ReadIs.{read_fault, read_stop, read_value}
use Rattle.ore_expr.proofs.read.read_operator.Goals as goal

pub returns-in_err-instructions-clause-read : goal.returns-in_err-instructions-clause-read
returns-in_err-instructions-clause-read g c =
    let p = err_from_is_err_and c.from_residual.result c.from_residual.ensures.1 in
    rw (p.1, p.2) (read_fault (reads_expressions value_of-expression_code) finds_faults _ _ _ _ c.in_err-instructions.ensures.reads)

pub returns-in_err-value-clause-read : goal.returns-in_err-value-clause-read
returns-in_err-value-clause-read g c =
    let p = err_from_is_err_and c.from_residual-in_err-value.result c.from_residual-in_err-value.ensures.1 in
    rw (p.1, p.2) (read_stop (reads_expressions value_of-expression_code) finds_faults (g.R.OreRing.sig c.args.ring.now) _ _ _ _ c.in_ok-instructions.ensures.reads
    (subst (λ (p : List Instruction). Fails c.in_err-value.field-0.0 (value_of program (g.R.OreRing.sig c.args.ring.now) p)) c.deref.ensures.value c.in_err-value.ensures.gives))

pub returns-clause-read : goal.returns-clause-read
returns-clause-read g c = read_value (reads_expressions value_of-expression_code) finds_faults (g.R.OreRing.sig c.args.ring.now) _ _ _ c.in_ok-value.value c.in_ok-instructions.ensures.reads
    (ap (value_of program (g.R.OreRing.sig c.args.ring.now)) (sym c.deref.ensures.value) ∙ c.in_ok-value.ensures.gives)
