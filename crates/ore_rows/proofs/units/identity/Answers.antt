use Rattle.std.proofs.Common.{◌≡◌, rules, arith, sym, ap, ◌∙◌, map, [], ◌∷◌, ◌++◌}
use Rattle.std.specs.List.{range_with_len}
use Rattle.std.proofs.lemmas.List.{map-append}
use Rattle.std.proofs.lemmas.List.FromFn.{map-range_with_len_more}
use Rattle.ore_rational.specs.Field.{rationals}
use Rattle.ore_rows.specs.Rows.{identity_rows, unit_row}
use Rattle.ore_rows.specs.Stored.{rows_of, sums_of}
use Rattle.ore_rows.proofs.units.identity.Goals as goal

pub loop-k-preserved : goal.loop-k-preserved
loop-k-preserved c =
    let k = c.loop-k.k in
    record {
      made =
          ap (map sums_of) c.in_ok-push.ensures.items
          ∙ map-append sums_of c.loop-k.out.items _
          ∙ (λ j. c.loop-k.invariant.made j ++ c.in_ok-unit_row.ensures.value j ∷ [])
          ∙ sym (map-range_with_len_more (unit_row rationals c.args.n) 0 k k (omega arith));
      count = search rules;
      wide = search rules;
      belongs = search rules;
    }

pub returns-clause-rows : goal.returns-clause-rows
unfolding identity_rows
returns-clause-rows c =
    ap rows_of c.from_rows.ensures
    ∙ c.loop-k.invariant.made
    ∙ ap (λ n. map (unit_row rationals c.args.n) (range_with_len 0 n)) (let e : c.loop-k.k ≡ c.args.n = omega arith in e)
