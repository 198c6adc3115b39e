use Rattle.ore_speed.proofs.DeclaredOnly.{still_belongs}
use Rattle.ore_speed.proofs.dense.add_own_term.Goals as goal

pub returns-then-is_of : goal.returns-then-is_of
returns-then-is_of c =
    still_belongs c.args.signature.now c.args.made.now c.add_term.new.self c.args.exps c.args.number c.requires (c.is_of.ensures c.if-is_of.true)
    c.add_term.ensures.by c.add_term.result c.add_term.ensures.turns c.add_term.ensures.err
