use Rattle.std.proofs.Common.{◌≡◌, sym, subst, map, nat_eq, rules, tests, List, ℕ}
use Rattle.std.specs.Result.{IfOk}
use Rattle.std.proofs.lemmas.Iterator.Consumers.{map_from_collect}
use Rattle.std.proofs.lemmas.Iterator.Splits.{YieldsList-from_slice_split}
use Rattle.ore_problem.proofs.LineLemmas.{split_at-slice_split}
use Rattle.ore_problem.proofs.rows.split_parts.Goals as goal

pub returns : goal.returns
returns c =
    subst (λ (ws : List (List ℕ)). IfOk c.collect.result (λ v. map (λ w. w.now) v.items ≡ ws)) (sym (split_at-slice_split 44 c.args.rest.now))
    (map_from_collect _ c.collect.ensures.ran (YieldsList-from_slice_split _ (λ b. nat_eq b 44) c.args.rest.now (cc) (cc) c.split.ensures.closure (λ x r q k. search (rules, tests))))
