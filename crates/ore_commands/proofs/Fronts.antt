-- A problem that is read at the front of some bytes is accepted there.
--     front_holds      what is valid behind the problem that was read is valid behind an accepted one
use Rattle.std.proofs.Common.{◌≡◌, ℕ, List, length, drop, Ok, ap, subst, ◌∙◌}
use Rattle.std.proofs.Math.Seq.{drop-append_seam}
use Rattle.ore_problem.specs.Problems.{System, prefix_sizes}
use Rattle.ore_problem.proofs.FrontReads.{prefix_reads_exactly}
use Rattle.ore_commands.specs.ReplyOfCheck.{SaysValid, HoldsCertificate}

pub front_holds : (said bytes : List ℕ) (p : System) (used lines : ℕ) → prefix_sizes bytes ≡ Ok (p, (used, lines)) → SaysValid p (drop used bytes) said → HoldsCertificate said bytes
front_holds said bytes p used lines e h =
    let f = (prefix_reads_exactly bytes p used lines).0 e in
    let behind : drop used bytes ≡ f.1 = ap (λ n. drop n bytes) f.3 ∙ ap (drop (length f.0)) f.2.parts ∙ drop-append_seam f.0 f.1 in
    (p, f.0, f.1, f.2, subst (λ t. SaysValid p t said) behind h)
