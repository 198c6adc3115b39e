use Rattle.std.proofs.Common.{◌≡◌, ◌<◌, length, arith, sym, ap, ◌∙◌, subst}
use Rattle.std.specs.Option.{is_some}
use Rattle.std.specs.declared.result.Result.TheVariants.{Ok}
use Rattle.ore_monomial.specs.declared.stop.NoMemory.{NoMemory}
use Rattle.ore_problem.specs.Declarations.{declaration_fault}
use Rattle.ore_problem.specs.Problems.{Frame, fault_or, with_declared}
use Rattle.ore_problem.specs.Reader.{declaration_view, IsExtended}
use Rattle.ore_problem.proofs.FrameLemmas.{frame_added}
use Rattle.ore_problem.proofs.frame.Frame.add.Goals as goal

pub returns : goal.returns
returns c =
    let few : length c.self.inside.signature.kinds < 12 = omega (arith, c.count.ensures.value, c.if-count-ge-MOST_VARIABLES.false) in
    let d = declaration_view c.args.declaration in
    let new = sym (ap is_some c.find.ensures) ∙ sym c.if-is_some.ensures in
    let extended = subst (λ r. IsExtended r c.self.inside.signature c.args.declaration.kind) c.in-Ok.is c.in_ok-signature.ensures in
    subst (λ (f : Frame). fault_or (declaration_fault f.names f.signature.kinds d) c.args.line (with_declared f d) ≡ Ok (record { names = c.add.new.self; signature = c.in-Ok.signature }))
    c.self.view_is
    (frame_added NoMemory (record { names = c.self.inside.names; signature = c.self.inside.signature }) d c.args.line c.in_ok-add.field-0 c.add.new.self c.in-Ok.signature few new extended c.in_ok-add.ensures)
