use Rattle.std.proofs.Common.{◌≡◌, rules, arith, sym, ap, ◌∙◌, map, [], ◌∷◌, ◌++◌}
use Rattle.std.specs.List.{range_with_len}
use Rattle.std.proofs.lemmas.List.{map-append}
use Rattle.std.proofs.lemmas.List.FromFn.{map-range_with_len_more}
use Rattle.ore_rational.specs.Field.{rationals}
use Rattle.ore_ring.specs.Ordered.{Ordered}
use Rattle.ore_rows.specs.Rows.{unit_entry, unit_row}
use Rattle.ore_rows.specs.Stored.{sums_of}
use Rattle.ore_rows.proofs.units.unit_row.Goals as goal

pub loop-k-preserved : goal.loop-k-preserved
loop-k-preserved c =
    let k = c.loop-k.k in
    record {
      made =
          ap sums_of c.in_ok-push.ensures.items
          ∙ map-append (λ (w : Ordered). w.sum) c.loop-k.out.items _
          ∙ (λ j. c.loop-k.invariant.made j ++ c.in_ok-one_or_zero.ensures.value j ∷ [])
          ∙ sym (map-range_with_len_more (unit_entry rationals c.args.i) 0 k k (omega arith));
      wide = search rules;
      belongs = search rules;
    }

pub returns-clause-value : goal.returns-clause-value
unfolding unit_row
returns-clause-value c =
    ap sums_of c.from_vec.ensures
    ∙ c.loop-k.invariant.made
    ∙ ap (λ n. map (unit_entry rationals c.args.i) (range_with_len 0 n)) (let e : c.loop-k.k ≡ c.args.n = omega arith in e)
