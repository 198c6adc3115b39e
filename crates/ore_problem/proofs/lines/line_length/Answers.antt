use Rattle.std.proofs.Common.{sym}
use Rattle.std.specs.declared.option.Option.TheVariants.{None, Some}
use Rattle.ore_problem.proofs.LineLemmas.{line_length_by_end}
use Rattle.ore_problem.proofs.lines.line_length.Goals as goal

pub returns-in-Some-clause-value : goal.returns-in-Some-clause-value
returns-in-Some-clause-value c = sym (line_length_by_end c.args.text.now (Some c.in-Some.k) c.in-Some.ensures.value)

pub returns-in-None-clause-value : goal.returns-in-None-clause-value
returns-in-None-clause-value c = sym (line_length_by_end c.args.text.now None c.in-None.ensures.value)
