use Rattle.std.proofs.Common.{sym, subst}
use Rattle.ore_monomial.specs.Signature.{MonomialOf}
use Rattle.ore_monomial.proofs.Declared.{MonomialOf-lcm}
use Rattle.ore_ring.specs.Belongs.{Belongs}
use Rattle.std.specs.List.{All}
use Rattle.ore_rows.specs.Stored.{rows_of}
use Rattle.ore_rows.proofs.Dots.{all_at}
use Rattle.ore_blocks.proofs.ReadItems.{row_read}
use Rattle.ore_blocks.proofs.Leads.{lead_declared}
use Rattle.ore_blocks.proofs.formed.s_row.Goals as goal

pub s_row-requires-clause-multiple_of : goal.s_row-requires-clause-multiple_of
s_row-requires-clause-multiple_of g c =
    let s = g.R.OreRing.sig c.args.ring.now in
    let leads = c.args.leads.now in
    subst (MonomialOf s) (sym c.in-Ok.ensures.1) (MonomialOf-lcm s _ _ (lead_declared s leads c.args.i c.requires.first c.requires.leads_of) (lead_declared s leads c.args.j c.requires.second c.requires.leads_of))

pub s_row-requires-clause-row_of : goal.s_row-requires-clause-row_of
s_row-requires-clause-row_of g c = all_at (All (Belongs (g.R.OreRing.sig c.args.ring.now))) c.args.m.now.rows c.args.i c.row.result.now c.row.ensures.value c.requires.m_of

pub s_row-requires-clause-other_of : goal.s_row-requires-clause-other_of
s_row-requires-clause-other_of g c = all_at (All (Belongs (g.R.OreRing.sig c.args.ring.now))) c.args.m.now.rows c.args.j c.row-2.result.now c.row-2.ensures.value c.requires.m_of

pub returns-clause-gives : goal.returns-clause-gives
returns-clause-gives g c = c.s_row.ensures.gives (rows_of c.args.m.now) (row_read c.args.m.now c.args.i _ c.row.ensures.value) (row_read c.args.m.now c.args.j _ c.row-2.ensures.value)
