use Rattle.std.proofs.Common.{◌≡◌, ◌+◌, rules, arith, sym, ap, ◌∙◌, map, [], ◌∷◌, ◌++◌}
use Rattle.std.specs.List.{range_with_len}
use Rattle.std.proofs.lemmas.List.{map-append}
use Rattle.std.proofs.lemmas.List.FromFn.{map-range_with_len_more}
use Rattle.ore_ring.specs.Ordered.{Ordered}
use Rattle.ore_rows.specs.Stored.{sums_of}
use Rattle.ore_generate.specs.Chain.{entry, equation}
use Rattle.ore_generate.proofs.chain.equation.Goals as goal

pub loop-k-preserved : goal.loop-k-preserved
loop-k-preserved c =
    let k = c.loop-k.k in
    record {
      made =
          ap sums_of c.in_ok-push.ensures.items
          ∙ map-append (λ (w : Ordered). w.sum) c.loop-k.entries.items _
          ∙ (λ j. c.loop-k.invariant.made j ++ c.in_ok-entry.ensures.value j ∷ [])
          ∙ sym (map-range_with_len_more (entry c.args.number c.args.i) 1 k (k + 1) (omega arith));
      wide = search rules;
      belongs = search rules;
    }

pub returns-clause-value : goal.returns-clause-value
unfolding equation
returns-clause-value c =
    ap sums_of c.from_vec.ensures
    ∙ c.loop-k.invariant.made
    ∙ ap (λ n. map (entry c.args.number c.args.i) (range_with_len 1 n)) (let e : c.loop-k.k ≡ 41 = omega arith in e)
