use Rattle.std.proofs.Common.{sym, ◌∙◌, arith}
use Rattle.std.specs.Prelude.{decimal}
use Rattle.ore_parts.proofs.Bytes.{byte_cancel, lacks_none, LacksByte-decimal}
use Rattle.ore_parts.proofs.sizes.pair_in.Goals as goal

pub returns-in_default : goal.returns-in_default
returns-in_default c s h e = lacks_none 32 (decimal s.0) (decimal s.1) c.args.text.now c.in_default.ensures e

pub returns-in_default-number_in : goal.returns-in_default-number_in
returns-in_default-number_in c s h e =
    let parts = byte_cancel 32 c.in-Some.first.now (decimal s.0) c.in-Some.second.now (decimal s.1) c.in-Some.ensures.0 (LacksByte-decimal 32 s.0 (omega arith)) (sym c.in-Some.ensures.1 ∙ e) in
    c.in_default-number_in.ensures s.0 h.0 parts.0

pub returns-in_default-number_in-2 : goal.returns-in_default-number_in-2
returns-in_default-number_in-2 c s h e =
    let parts = byte_cancel 32 c.in-Some.first.now (decimal s.0) c.in-Some.second.now (decimal s.1) c.in-Some.ensures.0 (LacksByte-decimal 32 s.0 (omega arith)) (sym c.in-Some.ensures.1 ∙ e) in
    c.in_default-number_in-2.ensures s.1 h.1 parts.1
