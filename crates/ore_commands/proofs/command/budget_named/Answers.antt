use Rattle.std.proofs.Common.{◌≤◌, [], ◌∷◌, get_or, ap, arith}
use Rattle.std.specs.Prelude.{codes}
use Rattle.ore_commands.specs.Finding.{greatest_budget}
use Rattle.ore_commands.proofs.KnownWords.{number_called}
use Rattle.ore_commands.proofs.command.budget_named.Goals as goal

pub returns-in-Some-number_in : goal.returns-in-Some-number_in
returns-in-Some-number_in c =
    number_called (λ digits. codes "analyse" ∷ codes "--budget" ∷ digits ∷ []) (λ a b e. ap (λ words. get_or words 2 []) e) (λ n. n ≤ greatest_budget) (λ n within. omega (arith, within))
    c.args.words.now c.in-Some.digits.now c.in-Some-number_in.number c.budget_of.result c.in-Some.ensures c.in-Some-number_in.ensures.0 c.in-Some-number_in.ensures.1 c.budget_of.ensures
