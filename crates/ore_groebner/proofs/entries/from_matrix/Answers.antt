use Rattle.std.proofs.Common.{◌≤◌, ◌+◌, [], ◌∷◌, ◌++◌, map, drop, rules, arith, sym, ap, ◌∙◌, subst}
use Rattle.std.specs.List.{All}
use Rattle.std.specs.Option.{option_map}
use Rattle.std.proofs.lemmas.List.{length-map, map-append}
use Rattle.std.proofs.lemmas.List.Elements.{All-push}
use Rattle.std.proofs.lemmas.Option.{slice_get-map}
use Rattle.ore_rational.specs.Field.{rationals}
use Rattle.ore_ring.specs.Belongs.{Belongs}
use Rattle.ore_pairs.specs.Run.{from_rows}
use Rattle.ore_rows.specs.Stored.{rows_of, sums_of}
use Rattle.ore_groebner.proofs.Multiples.{from_next, from_end}
use Rattle.ore_groebner.proofs.entries.from_matrix.Goals as goal

pub loop-k-preserved : goal.loop-k-preserved
loop-k-preserved c =
    let o = c.args.sig.now.order in
    let n = c.args.n in
    let a = c.args.a.now in
    let k = c.loop-k.k in
    let i = c.loop-k.invariant in
    let made = map sums_of c.loop-k.out.items in
    let row = slice_get-map sums_of a.rows k ∙ ap (option_map sums_of) c.row.ensures.value in
    record {
      told =
          i.told
          ∙ from_next o n (rows_of a) made c.loop-k.next c.in_ok-multiple.after k (sums_of c.row.result.now) (sums_of c.in_ok-multiple.multiple) row c.in_ok-multiple.ensures.value
          ∙ ap (λ rs. rs ++ from_rows rationals o n c.in_ok-multiple.after (drop (k + 1) (rows_of a))) (sym (ap (map sums_of) c.in_ok-push.ensures.items ∙ map-append sums_of c.loop-k.out.items (c.in_ok-multiple.multiple ∷ [])));
      counted = search rules;
      wide = search rules;
      of = subst (All (All (Belongs c.args.sig.now))) (sym c.in_ok-push.ensures.items) (All-push (All (Belongs c.args.sig.now)) c.loop-k.out.items c.in_ok-multiple.multiple i.of c.in_ok-multiple.ensures.of);
    }

pub returns-clause-value : goal.returns-clause-value
returns-clause-value c =
    let a = c.args.a.now in
    ap rows_of c.from_rows.ensures
    ∙ sym (c.loop-k.invariant.told ∙ from_end c.args.sig.now.order c.args.n (rows_of a) (map sums_of c.loop-k.out.items) c.loop-k.next c.loop-k.k (subst (λ m. m ≤ c.loop-k.k) (sym (length-map a.rows sums_of)) (grind arith)))
