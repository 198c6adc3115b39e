use Rattle.std.proofs.Common.{ℕ, List, ◌∷◌, ◌++◌, sym, ap, ◌∙◌}
use Rattle.std.proofs.lemmas.List.{append_cancel_left}
use Rattle.ore_text.proofs.RowEntries.{is_front, not_front}
use Rattle.ore_parts.specs.BlockText.{place}
use Rattle.ore_parts.proofs.Numbers.{place_cut}
use Rattle.ore_cert.proofs.report_lines.pair_behind.Goals as goal

abbrev two : ℕ × ℕ → List ℕ
two p = place p.0 ++ 32 ∷ place p.1

pub returns-in_default : goal.returns-in_default
returns-in_default c p h e = not_front c.args.words.now c.args.before.now (two p) c.in_default.ensures.cases e

pub returns-in_default-place_in : goal.returns-in_default-place_in
returns-in_default-place_in c p h e =
    let front = is_front c.args.words.now c.args.before.now c.in-Some.places.now c.in-Some.ensures.cases.0 c.in-Some.ensures.cases.1 in
    let places = append_cancel_left c.args.before.now c.in-Some.places.now (two p) (sym front ∙ e) in
    let parts = place_cut c.in-Some-cut_at.first.now c.in-Some-cut_at.second.now c.in-Some.places.now p.0 (place p.1) c.in-Some-cut_at.ensures places in
    c.in_default-place_in.ensures p.0 h.0 parts.0

pub returns-in_default-place_in-2 : goal.returns-in_default-place_in-2
returns-in_default-place_in-2 c p h e =
    let front = is_front c.args.words.now c.args.before.now c.in-Some.places.now c.in-Some.ensures.cases.0 c.in-Some.ensures.cases.1 in
    let places = append_cancel_left c.args.before.now c.in-Some.places.now (two p) (sym front ∙ e) in
    let parts = place_cut c.in-Some-cut_at.first.now c.in-Some-cut_at.second.now c.in-Some.places.now p.0 (place p.1) c.in-Some-cut_at.ensures places in
    c.in_default-place_in-2.ensures p.1 h.1 parts.1

pub returns : goal.returns
returns c =
    let front = is_front c.args.words.now c.args.before.now c.in-Some.places.now c.in-Some.ensures.cases.0 c.in-Some.ensures.cases.1 in
    let i = c.in-Some-place_in.ensures in
    let j = c.in-Some-place_in-2.ensures in
    ((i.0, j.0), front ∙ ap (λ t. c.args.before.now ++ t) (c.in-Some-cut_at.ensures.1 ∙ (λ x. i.1 x ++ 32 ∷ j.1 x)))
