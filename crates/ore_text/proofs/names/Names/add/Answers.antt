use Rattle.ore_text.proofs.NameLemmas.{IsAdded-insert_key, AreNames-insert_key}
use Rattle.ore_text.specs.Names.{IsName}
use Rattle.ore_monomial.specs.declared.stop.NoMemory.{NoMemory}
use Rattle.ore_text.proofs.names.Names.add.Goals as goal

pub invariant_of-self-2 : goal.invariant_of-self-2
invariant_of-self-2 c =
    let added = IsAdded-insert_key NoMemory (λ n. n.items) c.self.inside.names.keys c.in_ok-copy.copy c.insert.new.self.keys c.in_ok-is_new.is_new c.in_ok-is_new.ensures.added c.in_ok-is_new.ensures.keys in
    let is : IsName c.in_ok-copy.copy.items = rw c.in_ok-copy.ensures.items c.requires in
    AreNames-insert_key NoMemory (λ n. n.items) c.self.inside.names.keys c.in_ok-copy.copy c.insert.new.self.keys c.in_ok-is_new.is_new c.self.invariant is added

pub returns : goal.returns
returns c =
    rw (← c.self.view_is, ← c.in_ok-copy.ensures.items)
    (IsAdded-insert_key NoMemory (λ n. n.items) c.self.inside.names.keys c.in_ok-copy.copy c.insert.new.self.keys c.in_ok-is_new.is_new c.in_ok-is_new.ensures.added c.in_ok-is_new.ensures.keys)
