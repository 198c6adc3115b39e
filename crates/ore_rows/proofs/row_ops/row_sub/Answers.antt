use Rattle.std.proofs.Common.{rules, sym, ap, ◌∙◌}
use Rattle.std.proofs.lemmas.Slice.Zip.{Zip-more, either_empty_from_Zip}
use Rattle.std.specs.declared.result.Result.TheVariants.{Ok}
use Rattle.ore_algebra.specs.Limits.{program}
use Rattle.ore_ring.specs.Belongs.{Belongs}
use Rattle.ore_ring.specs.Within.{minus_within}
use Rattle.ore_ring.specs.Ordered.{Ordered}
use Rattle.ore_rows.specs.Stored.{sums_of}
use Rattle.ore_rows.proofs.Pairs.{all_rest, both_pushed, both_end, both_width}
use Rattle.ore_rows.proofs.row_ops.row_sub.Goals as goal

pub loop-f-preserved : goal.loop-f-preserved
loop-f-preserved g c =
    let rests = Zip-more c.loop-f.f-iterator c.next.new.self _ _ c.in-Some.is c.next.ensures.steps in
    record {
      told = both_pushed (λ (w : Ordered). w.sum) (minus_within program) _ _ _ _ _ _ _ _ c.in_ok-sub.field-0 c.in_ok-push.ensures.items rests.0 rests.1 c.in_ok-sub.ensures.gives ∙ c.loop-f.invariant.told;
      belongs = search rules;
      first_belongs = all_rest (Belongs (g.R.OreRing.sig c.args.ring.now)) _ _ _ rests.0 c.loop-f.invariant.first_belongs;
      second_belongs = all_rest (Belongs (g.R.OreRing.sig c.args.ring.now)) _ _ _ rests.1 c.loop-f.invariant.second_belongs;
    }

pub returns-clause-gives : goal.returns-clause-gives
returns-clause-gives g c =
    sym c.loop-f.invariant.told
    ∙ both_end (λ (w : Ordered). w.sum) (minus_within program) c.loop-f.out.items _ _ (either_empty_from_Zip c.loop-f.f-iterator c.next.new.self _ c.in-None.is c.next.ensures.steps)
    ∙ ap (λ o. Ok (sums_of o)) (sym c.from_vec.ensures)

pub returns-clause-width : goal.returns-clause-width
returns-clause-width g c = both_width (λ (w : Ordered). w.sum) (minus_within program) c.from_vec.result c.args.a.now c.args.b.now c.requires.lengths (returns-clause-gives g c)
