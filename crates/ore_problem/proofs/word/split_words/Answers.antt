use Rattle.std.proofs.Common.{◌≡◌, sym, subst, map, nat_eq, rules, tests, List, ℕ}
use Rattle.std.specs.Result.{IfOk}
use Rattle.std.proofs.lemmas.Iterator.Consumers.{map_from_collect, YieldsList-from_filter}
use Rattle.std.proofs.lemmas.Iterator.Splits.{YieldsList-from_slice_split}
use Rattle.ore_problem.specs.Lines.{is_some_byte}
use Rattle.ore_problem.proofs.LineLemmas.{words-slice_split}
use Rattle.ore_problem.proofs.word.split_words.Goals as goal

pub returns : goal.returns
returns c =
    subst (λ (ws : List (List ℕ)). IfOk c.collect.result (λ v. map (λ w. w.now) v.items ≡ ws)) (sym (words-slice_split c.args.line.now))
    (map_from_collect _ c.collect.ensures.ran
    (YieldsList-from_filter _ is_some_byte
    (YieldsList-from_slice_split _ (λ b. nat_eq b 32) c.args.line.now (cc) (cc) (cc) (λ x r q k. search (rules, tests)))
    c.filter.ensures.closure (λ x r q k. search (rules, tests))))
