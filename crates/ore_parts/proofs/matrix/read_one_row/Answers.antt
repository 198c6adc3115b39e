use Rattle.std.proofs.Common.{◌≡◌, length, map, sym, subst}
use Rattle.std.specs.List.{All, AllByRecursion}
use Rattle.ore_ring.specs.Belongs.{Belongs}
use Rattle.ore_ring.specs.Ordered.{Ordered}
use Rattle.ore_rows.specs.Stored.{sums_of}
use Rattle.ore_text.specs.Printable.{IsPrintable}
use Rattle.ore_text.specs.RowText.{row_text}
use Rattle.ore_parts.specs.Formats.{Finds}
use Rattle.ore_parts.specs.PartFormats.{stored_row_format}
use Rattle.ore_parts.proofs.MatrixLaws.{no_row_left, other_row, row_found}
use Rattle.ore_parts.proofs.Numbers.{none_found, some_found}
use Rattle.ore_parts.proofs.matrix.read_one_row.Goals as goal

pub returns-in_default : goal.returns-in_default
returns-in_default c = no_row_left c.args.algebra.now.signature.now c.args.algebra.now.names.now c.args.algebra.now.form c.args.algebra.now.count c.args.cols c.args.lines.now c.take_with_end.new.self c.at-line.result c.at-line.ensures c.in_default.ensures

pub returns-in-None : goal.returns-in-None
returns-in-None c =
    other_row c.args.algebra.now.signature.now c.args.algebra.now.names.now c.args.algebra.now.form c.args.algebra.now.count c.args.cols c.args.lines.now c.take_with_end.new.self c.at-line.result c.in-Some.due.now c.at-line.ensures c.in-Some.ensures
    (λ r h l e. none_found c.in_ok-entries.field-0 (λ row. map (λ (f : Ordered). f.sum) row.items ≡ r) c.in-None.is (c.in_ok-entries.ensures.only r h l e))

pub returns-in-Some-2 : goal.returns-in-Some-2
returns-in-Some-2 c =
    let s = c.args.algebra.now.signature.now in
    let names = c.args.algebra.now.names.now in
    let due = c.in-Some.due.now in
    subst (λ r. Finds (stored_row_format s names c.args.cols) c.args.lines.now r c.take_with_end.new.self) (sym c.from_vec.ensures)
    (row_found s names c.args.algebra.now.form c.args.algebra.now.count c.args.cols c.args.lines.now c.take_with_end.new.self due c.in-Some-2.entries.items c.in-Some.ensures
    (some_found c.in_ok-entries.field-0 (λ row. AllByRecursion (IsPrintable s names) (sums_of row.items) × (length row.items ≡ c.args.cols) × (due ≡ row_text names s.order (sums_of row.items))) c.in-Some-2.entries c.in-Some-2.is c.in_ok-entries.ensures.found)
    (some_found c.in_ok-entries.field-0 (λ row. All (Belongs s) row.items) c.in-Some-2.entries c.in-Some-2.is c.in_ok-entries.ensures.of))
