use Rattle.std.proofs.Common.{refl}
use Rattle.ore_parts.proofs.PartLaws.{pairs_parts}
use Rattle.ore_parts.proofs.TwoParts.{first_fails, last_found}
use Rattle.ore_parts.proofs.pairs.read_pairs.Goals as goal

pub returns-in_err-count : goal.returns-in_err-count
returns-in_err-count c = first_fails (pairs_parts c.args.algebra.now.signature.now c.args.algebra.now.names.now c.args.algebra.now.form c.args.algebra.now.count) c.args.lines.now c.read_count.new.lines c.from_residual.result c.in_err-count.field-0.0 c.from_residual.ensures.1 c.in_err-count.ensures

pub returns : goal.returns
returns c = last_found (pairs_parts c.args.algebra.now.signature.now c.args.algebra.now.names.now c.args.algebra.now.form c.args.algebra.now.count) (λ x y. refl) c.args.lines.now c.read_count.new.lines c.read_entries.new.lines c.in_ok-count.count c.read_entries.result c.in_ok-count.ensures c.read_entries.ensures
