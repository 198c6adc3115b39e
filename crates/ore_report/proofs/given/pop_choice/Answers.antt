use Rattle.std.proofs.Common.{ap, ◌∙◌, arith}
use Rattle.ore_course.specs.Choices.{but_last}
use Rattle.ore_report.proofs.GivenRuns.{but_last-take}
use Rattle.ore_report.proofs.given.pop_choice.Goals as goal

pub returns : goal.returns
returns c = c.from_vec-2.ensures ∙ c.pop.ensures.rest ∙ but_last-take c.into_vec-items.result.items _ (omega arith) ∙ ap but_last (c.into_vec-items.ensures ∙ c.replace.ensures.value)
