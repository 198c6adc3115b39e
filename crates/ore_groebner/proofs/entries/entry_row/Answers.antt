use Rattle.std.proofs.Common.{◌≡◌, rules, arith, sym, ap, ◌∙◌, map, [], ◌∷◌, ◌++◌}
use Rattle.std.specs.Prelude.{cond, nat_eq}
use Rattle.std.specs.List.{range_with_len}
use Rattle.std.proofs.lemmas.List.{map-append}
use Rattle.std.proofs.lemmas.List.FromFn.{map-range_with_len_more}
use Rattle.ore_algebra.specs.Free.{empty_sum}
use Rattle.ore_rational.specs.Field.{rationals}
use Rattle.ore_monomial.specs.Monomial.{plain_cmp}
use Rattle.ore_monomial.specs.LetterRule.{constant}
use Rattle.ore_ring.specs.Ordered.{Ordered}
use Rattle.ore_pairs.specs.Run.{entry_row}
use Rattle.ore_rows.specs.Stored.{sums_of}
use Rattle.ore_groebner.proofs.entries.entry_row.Goals as goal

pub loop-k-preserved : goal.loop-k-preserved
loop-k-preserved c =
    let k = c.loop-k.k in
    record {
      made =
          ap sums_of c.in_ok-push.ensures.items
          ∙ map-append (λ (w : Ordered). w.sum) c.loop-k.out.items _
          ∙ (λ j. c.loop-k.invariant.made j ++ c.in_ok-coef_or_zero.ensures.value j ∷ [])
          ∙ sym (map-range_with_len_more (λ j. cond (nat_eq j c.args.i) (constant rationals c.args.coef) (empty_sum rationals plain_cmp)) 0 k k (omega arith));
      wide = search rules;
      belongs = search rules;
    }

pub returns-clause-value : goal.returns-clause-value
unfolding entry_row
returns-clause-value c =
    ap sums_of c.from_vec.ensures
    ∙ c.loop-k.invariant.made
    ∙ ap (λ n. map (λ j. cond (nat_eq j c.args.i) (constant rationals c.args.coef) (empty_sum rationals plain_cmp)) (range_with_len 0 n)) (let e : c.loop-k.k ≡ c.args.n = omega arith in e)
