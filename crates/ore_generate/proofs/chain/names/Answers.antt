use Rattle.std.proofs.Common.{[], ◌∷◌, ◌++◌, ap, ◌∙◌}
use Rattle.std.specs.Prelude.{codes}
use Rattle.ore_monomial.specs.declared.stop.NoMemory.{NoMemory}
use Rattle.ore_text.specs.Names.{index_of}
use Rattle.ore_generate.proofs.Chains.{added}
use Rattle.ore_generate.proofs.chain.names.Goals as goal

pub returns : goal.returns
returns c =
    let first =
    added NoMemory c.in_ok-add.field-0 c.new-names.result c.add.new.self (codes "t") (ap (λ names. index_of names (codes "t")) c.new-names.ensures) c.in_ok-add.ensures
    ∙ ap (λ names. names ++ codes "t" ∷ []) c.new-names.ensures in
    added NoMemory c.in_ok-add-2.field-0 c.add.new.self c.add-2.new.self (codes "d") (ap (λ names. index_of names (codes "d")) first) c.in_ok-add-2.ensures
    ∙ ap (λ names. names ++ codes "d" ∷ []) first
