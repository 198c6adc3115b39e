use Rattle.std.proofs.Common.{◌∷◌, ◌++◌, sym, ◌∙◌}
use Rattle.std.specs.Prelude.{codes}
use Rattle.std.proofs.lemmas.List.{append_cancel_left}
use Rattle.ore_text.proofs.RowEntries.{is_front}
use Rattle.ore_parts.specs.BlockText.{place}
use Rattle.ore_parts.proofs.Numbers.{behind_places}
use Rattle.ore_cert.proofs.report_lines.skip_in.Goals as goal

pub returns-in_default-place_in : goal.returns-in_default-place_in
returns-in_default-place_in c p h e =
    let places = c.in-Some.places.now in
    let front = is_front c.args.words.now (codes "skip ") places c.in-Some.ensures.cases.0 c.in-Some.ensures.cases.1 in
    let behind = append_cancel_left (codes "skip ") places (place p.0 ++ 32 ∷ (place p.1 ++ 32 ∷ place p.2)) (sym front ∙ e) in
    c.in_default-place_in.ensures p.2 h.2 (behind_places c.in-Some-places_in.i c.in-Some-places_in.j p.0 p.1 c.in-Some-places_in.rest.now (place p.2) (sym c.in-Some-places_in.ensures.2 ∙ behind))
