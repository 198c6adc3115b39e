use Rattle.std.proofs.Common.{sym, arith, map}
use Rattle.std.proofs.lemmas.List.{length-map}
use Rattle.ore_problem.proofs.FrameLemmas.{declared_by_shorter, declared_by_longer}
use Rattle.ore_problem.proofs.frame.declared_by.Goals as goal

pub returns-in-len1-clause-value : goal.returns-in-len1-clause-value
returns-in-len1-clause-value c =
    sym (declared_by_shorter c.args.names.now (map (λ w. w.now) c.args.words.now) (omega (arith, length-map c.args.words.now (λ w. w.now), c.in-len1.len_below)))

pub returns-in-len5-up-clause-value : goal.returns-in-len5-up-clause-value
returns-in-len5-up-clause-value c =
    sym (declared_by_longer c.args.names.now (map (λ w. w.now) c.args.words.now) (omega (arith, length-map c.args.words.now (λ w. w.now), c.in-len5-up.len_at_least)))
