use Rattle.std.proofs.Common.{rules, sym, ◌∙◌, refl}
use borrow.Author.Tests.{tests}
use Rattle.std.proofs.lemmas.Iterator.{IsFirst-from_position, index_from_first, YieldsList-from_slice}
use Rattle.ore_text.proofs.CanonicalReading.{front_length, front_stops, front_goes_on, IsNoNameByte, IsNameByte}
use Rattle.ore_text.proofs.canonical.word_length.Goals as goal

pub returns-clause-value : goal.returns-clause-value
returns-clause-value c =
    c.unwrap_or.ensures
    ∙ sym (index_from_first front_length IsNoNameByte IsNameByte refl front_stops front_goes_on c.args.text.now c.position.result
    (IsFirst-from_position _ _ c.position.result IsNoNameByte IsNameByte c.position.ensures.ran (YieldsList-from_slice c.args.text.now c.iter.ensures.rest) (λ x q k. search (rules, tests)) (λ x q k. search (rules, tests))))
