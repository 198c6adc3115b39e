use Rattle.ore_text.proofs.NameLemmas.{index_of-position}
use Rattle.std.proofs.Common.{◌∙◌, ap}
use Rattle.ore_text.specs.Names.{index_of}
use Rattle.ore_text.proofs.names.Names.find.Goals as goal

pub returns : goal.returns
returns c = c.get_index_of.ensures.index ∙ index_of-position (λ n. n.items) c.args.name.now c.self.inside.names.keys ∙ ap (λ names. index_of names c.args.name.now) c.self.view_is
