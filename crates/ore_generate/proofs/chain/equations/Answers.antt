use Rattle.std.proofs.Common.{◌≡◌, ◌+◌, rules, arith, sym, ap, ◌∙◌, map, [], ◌∷◌, ◌++◌}
use Rattle.std.specs.List.{range_with_len}
use Rattle.std.proofs.lemmas.List.{map-append}
use Rattle.std.proofs.lemmas.List.FromFn.{map-range_with_len_more}
use Rattle.ore_rows.specs.Stored.{rows_of, sums_of}
use Rattle.ore_generate.specs.Chain.{equation, equations}
use Rattle.ore_generate.proofs.chain.equations.Goals as goal

pub loop-k-preserved : goal.loop-k-preserved
loop-k-preserved c =
    let k = c.loop-k.k in
    record {
      made =
          ap (map sums_of) c.in_ok-push.ensures.items
          ∙ map-append sums_of c.loop-k.rows.items _
          ∙ (λ j. c.loop-k.invariant.made j ++ c.in_ok-equation.ensures.value j ∷ [])
          ∙ sym (map-range_with_len_more (equation c.args.number) 1 k (k + 1) (omega arith));
      wide = search rules;
      belongs = search rules;
    }

pub returns-clause-rows : goal.returns-clause-rows
unfolding equations
returns-clause-rows c =
    ap rows_of c.from_rows.ensures
    ∙ c.loop-k.invariant.made
    ∙ ap (λ n. map (equation c.args.number) (range_with_len 1 n)) (let e : c.loop-k.k ≡ 40 = omega arith in e)
