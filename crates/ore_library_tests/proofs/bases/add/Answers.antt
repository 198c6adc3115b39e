use Rattle.std.proofs.Common.{◌≡◌, Bool, true, false, refl, sym, ◌∙◌, subst}
use Rattle.std.specs.Prelude.{not}
use Rattle.ore_rational.specs.Field.{rationals}
use Rattle.ore_rational.proofs.Stored.{Decides-fraction_eq}
use Rattle.ore_rows.specs.RowLead.{IsRowLead}
use Rattle.ore_rows.specs.Stored.{sums_of}
use Rattle.ore_rows.specs.StoredBasis.{BasisBelongs}
use Rattle.ore_rows.proofs.StoredBases.{all_belong-push}
use Rattle.ore_library_tests.proofs.bases.add.Goals as goal

not_false : (b : Bool) → false ≡ not b → b ≡ true
not_false true e = refl
not_false false e = e

pub push-requires-clause-monic : goal.push-requires-clause-monic
push-requires-clause-monic c =
    let one = (Decides-fraction_eq c.in-Some.found.2 c.one.result).0 (not_false _ c.if-ne.ensures) ∙ c.one.ensures in
    (_, subst (IsRowLead rationals c.args.signature.now.order (sums_of c.args.row) _) one c.in-Some.ensures)

pub returns-clause-of : goal.returns-clause-of
returns-clause-of c =
    subst (λ b. BasisBelongs c.args.signature.now b.items) (sym c.in_ok-push.ensures.pushed.2)
    (all_belong-push c.args.signature.now c.args.basis.now (record { row = c.args.row; cofactor = c.args.cofactor; lead = c.in_ok-push.ensures.pushed.0 }) c.requires.of c.requires.row_of c.requires.cofactor_of)
