use Rattle.std.proofs.Common.{◌≤◌, [], ◌∷◌, get_or, ap, arith}
use Rattle.ore_commands.specs.Generating.{greatest_problem_number}
use Rattle.ore_commands.proofs.KnownWords.{number_called}
use Rattle.ore_commands.proofs.command.generated_named.Goals as goal

pub returns-in-Some-number_in : goal.returns-in-Some-number_in
returns-in-Some-number_in c =
    number_called (λ digits. c.args.word.now ∷ digits ∷ []) (λ a b e. ap (λ words. get_or words 1 []) e) (λ n. n ≤ greatest_problem_number) (λ n within. omega (arith, within))
    c.args.words.now c.in-Some.digits.now c.in-Some-number_in.number c.generated_of.result c.in-Some.ensures c.in-Some-number_in.ensures.0 c.in-Some-number_in.ensures.1 c.generated_of.ensures
