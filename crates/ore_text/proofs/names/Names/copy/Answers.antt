use Rattle.ore_text.proofs.NameLemmas.{taken_more}
use Rattle.ore_monomial.specs.declared.stop.NoMemory.{NoMemory}
use Rattle.ore_text.proofs.names.Names.copy.Goals as goal

pub loop-k-preserved : goal.loop-k-preserved
loop-k-preserved c =
    let added = rw c.loop-k.invariant at c.in_ok-add.ensures in
    taken_more NoMemory c.args.self.now c.loop-k.k c.name.result.now c.add.new.self c.in_ok-add.field-0 c.names_fit.ensures c.name.ensures added
