use Rattle.std.proofs.Common.{◌≡◌, ◌-◌, ◌≤◌, length}
use Rattle.std.specs.List.{All}
use Rattle.ore_algebra.specs.Limits.{program}
use Rattle.ore_course.specs.Following.{Follows}
use Rattle.ore_pairs.specs.Reached.{rule_of}
use Rattle.ore_pairs.specs.Runner.{runner_within}
use Rattle.ore_parts.specs.OfSignature.{IsLinkOf}
use Rattle.ore_blocks.specs.CheckBlock.{row_matrix_of}
use Rattle.ore_groebner.specs.Choosing.{AreWithinBudget}
use Rattle.ore_check.specs.InnerContracts.{matrix_before}
use Rattle.ore_check.specs.Plans.{links, resolution}
use Rattle.ore_resolution.specs.Stored.{resolution_of}
use Rattle.ore_resolution.proofs.links.find_links.Given as goal

abbrev pub invariant-loop-k : goal.invariant-loop-k
invariant-loop-k g l = record {
  led : Follows (runner_within program (g.R.OreRing.sig l.ring)) (rule_of (g.R.OreRing.sig l.ring) g.C.Rule.allows g.C.Rule.allows_spent) (resolution program (g.R.OreRing.sig l.ring) l.count (row_matrix_of l.r)) (g.C.Chooser.given l.fn.chooser) (g.C.Chooser.given l.chooser)
      (links program (g.R.OreRing.sig l.ring) (l.count - l.k) (resolution_of l.r l.links.items));
  of : All (IsLinkOf (g.R.OreRing.sig l.ring)) l.links.items;
  many : length l.links.items ≡ l.k;
  few : l.k ≤ l.count;
  fits : 1 ≤ length l.links.items → (matrix_before l.r l.links.items (length l.links.items)).cols ≡ length (matrix_before l.r l.links.items (length l.links.items - 1)).rows;
  within_budget : AreWithinBudget (g.C.Chooser.given l.fn.chooser) (g.C.Chooser.settings l.fn.chooser).budget → AreWithinBudget (g.C.Chooser.given l.chooser) (g.C.Chooser.settings l.chooser).budget;
  settings : g.C.Chooser.settings l.chooser ≡ g.C.Chooser.settings l.fn.chooser;
}
