use Rattle.std.proofs.Common.{sym, ◌∙◌}
use Rattle.ore_parts.proofs.Bytes.{cut_none, cut_here, to_end}
use Rattle.ore_parts.proofs.lines.cut_at.Goals as goal

pub returns-in_default : goal.returns-in_default
returns-in_default c = cut_none c.args.byte c.args.text.now (sym c.place_of.ensures ∙ c.in_default.is)

pub returns : goal.returns
returns c =
    let cut = cut_here c.args.byte c.args.text.now c.split_at.result.0.now c.split_at.result.1.now c.in-Some.place (sym c.place_of.ensures ∙ c.in-Some.is) c.split_at.ensures.front c.split_at.ensures.back in
    (cut.0, cut.1 ∙ to_end c.args.byte c.split_at.result.0.now c.split_at.result.1.now)
