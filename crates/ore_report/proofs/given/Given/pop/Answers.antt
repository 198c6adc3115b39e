use Rattle.std.proofs.Common.{◌≡◌, suc, ◌-◌, List, [], ◌∷◌, length, set, refl, sym, ap, ◌∙◌, arith}
use Rattle.std.proofs.lemmas.List.{get_or_read}
use Rattle.ore_rows.specs.declared.choices.Choice.{Choice}
use Rattle.ore_course.specs.Choices.{but_last, without_last}
use Rattle.ore_report.proofs.GivenRuns.{without_last-set}
use Rattle.ore_report.proofs.given.Given.pop.Goals as goal

none_to_lose : (runs : List (List Choice)) → length runs ≡ 0 → runs ≡ without_last runs
unfolding without_last
none_to_lose [] h = refl
none_to_lose (r ∷ runs) h = absurd (omega (arith, h))

pub returns-then-len-eq0 : goal.returns-then-len-eq0
returns-then-len-eq0 c = sym c.self.view_is ∙ none_to_lose c.self.inside.runs (sym c.len.ensures.count ∙ c.if-len-eq0.true) ∙ ap without_last c.self.view_is

pub returns : goal.returns
returns c =
    let runs = c.take-items.result.items in
    let last = c.len-last.result - 1 in
    let same : length runs ≡ length c.self.inside.runs = ap length (c.take-items.ensures ∙ sym c.self.view_is) in
    let long : length runs ≡ suc last = omega (arith, c.if-len-eq0.false, c.len.ensures.count, same, c.len-last.ensures) in
    let run = get_or_read runs last c.index_mut.result.now (omega (arith, long)) c.index_mut.ensures.value [] in
    c.from_vec.ensures ∙ ap (set runs last) (c.pop_choice.ensures ∙ ap but_last run) ∙ sym (without_last-set runs last long) ∙ ap without_last c.take-items.ensures
