use Rattle.std.proofs.Common.{◌≡◌, ℕ, ◌≤◌, List, [], ◌∷◌, length, refl, sym, ap, ◌∙◌, arith}
use Rattle.std.specs.declared.result.Result.TheVariants.{Ok}
use Rattle.std.proofs.lemmas.Result.{err_from_is_err_and}
use Rattle.ore_algebra.specs.Limits.{program}
use Rattle.ore_algebra.specs.Results.{◌>>=◌}
use Rattle.ore_algebra.proofs.ResultLaws.{bound}
use Rattle.ore_rows.specs.Stored.{rows_of}
use Rattle.ore_blocks.specs.CheckBlock.{pair_of, check_entries, check_pairs}
use Rattle.ore_blocks.specs.Conditions.{Checked}
use Rattle.ore_blocks.proofs.Chains.{refuses_as, passed_as}
use Rattle.ore_blocks.proofs.Entries.{entries_next, entries_end, entries_fit, entry_fits}
use Rattle.ore_blocks.proofs.pairs.check_pairs.Goals as goal

pub loop-k-init : goal.loop-k-init
unfolding check_pairs
loop-k-init g c =
    let s = g.R.OreRing.sig c.args.ring.now in
    let entries : List (ℕ × ℕ) → Checked (Unit {0}) = λ before. check_entries program s (rows_of c.args.basis.now) c.args.leads.now c.args.section 0 before c.args.pairs.now in
    ap entries c.new-listed.ensures ∙ sym (ap (λ counted. counted >>= λ u. entries []) c.in_ok-check_count.ensures)

pub returns-in_err-check_entry-clause-judges : goal.returns-in_err-check_entry-clause-judges
returns-in_err-check_entry-clause-judges g c =
    let s = g.R.OreRing.sig c.args.ring.now in
    let p = err_from_is_err_and c.from_residual-in_err-check_entry.result c.from_residual-in_err-check_entry.ensures.1 in
    rw (p.1, p.2) (refuses_as _ _ _ _ (entries_next program s (rows_of c.args.basis.now) c.args.leads.now c.args.section c.loop-k.listed (pair_of c.get-entry.result.now ∷ c.loop-k.listed) c.args.pairs.now c.loop-k.k c.get-entry.result.now c.get-entry.ensures (λ x y. refl)) c.loop-k.invariant _ c.in_err-check_entry.ensures.judges)

pub list_pair-requires : goal.list_pair-requires
list_pair-requires g c =
    let s = g.R.OreRing.sig c.args.ring.now in
    entry_fits s (rows_of c.args.basis.now) c.args.leads.now c.args.section c.loop-k.k c.loop-k.listed c.get-entry.result.now c.in_ok-check_entry.ensures.judges

pub loop-k-preserved : goal.loop-k-preserved
loop-k-preserved g c =
    let s = g.R.OreRing.sig c.args.ring.now in
    passed_as _ _ _ _ (entries_next program s (rows_of c.args.basis.now) c.args.leads.now c.args.section c.loop-k.listed c.list_pair.new.listed c.args.pairs.now c.loop-k.k c.get-entry.result.now c.get-entry.ensures
    c.in_ok-list_pair.ensures) c.loop-k.invariant tt c.in_ok-check_entry.ensures.judges

pub returns-clause-judges : goal.returns-clause-judges
returns-clause-judges g c =
    let s = g.R.OreRing.sig c.args.ring.now in
    let past : length c.args.pairs.now ≤ c.loop-k.k = omega arith in
    sym c.loop-k.invariant ∙ entries_end program s (rows_of c.args.basis.now) c.args.leads.now c.args.section c.loop-k.listed c.args.pairs.now c.loop-k.k past

pub returns-clause-fits_leads : goal.returns-clause-fits_leads
unfolding check_pairs
returns-clause-fits_leads g c =
    let s = g.R.OreRing.sig c.args.ring.now in
    let past : length c.args.pairs.now ≤ c.loop-k.k = omega arith in
    let entries = check_entries program s (rows_of c.args.basis.now) c.args.leads.now c.args.section 0 [] c.args.pairs.now in
    let passed : check_pairs program s (rows_of c.args.basis.now) c.args.leads.now c.args.section c.args.pairs.now ≡ Ok tt =
    sym c.loop-k.invariant ∙ entries_end program s (rows_of c.args.basis.now) c.args.leads.now c.args.section c.loop-k.listed c.args.pairs.now c.loop-k.k past in
    entries_fit s (rows_of c.args.basis.now) c.args.leads.now c.args.section 0 [] c.args.pairs.now (bound _ (λ u. entries) tt passed).2
