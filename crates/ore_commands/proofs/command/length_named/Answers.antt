use Rattle.std.proofs.Common.{[], ◌∷◌, get_or, ap, arith}
use Rattle.ore_cert.specs.EachKind.{IsLength}
use Rattle.ore_commands.proofs.KnownWords.{number_called}
use Rattle.ore_commands.proofs.command.length_named.Goals as goal

pub returns-in-Some-number_in : goal.returns-in-Some-number_in
returns-in-Some-number_in c =
    number_called (λ digits. c.args.word.now ∷ digits ∷ []) (λ a b e. ap (λ words. get_or words 1 []) e) IsLength (λ n within. let most = within.1 in omega (arith, most))
    c.args.words.now c.in-Some.digits.now c.in-Some-number_in.number c.length_of.result c.in-Some.ensures c.in-Some-number_in.ensures.0 c.in-Some-number_in.ensures.1 c.length_of.ensures
