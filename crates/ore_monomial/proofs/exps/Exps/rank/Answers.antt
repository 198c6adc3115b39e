use Rattle.std.proofs.Common.{ap, ap₂, sym, ◌∙◌, ◌∷◌, ◌-◌, ℕ, List, map, reverse}
use Rattle.ore_monomial.specs.Monomial.{rank}
use Rattle.ore_monomial.proofs.Seen.{values_are, total_is}
use Rattle.ore_monomial.proofs.exps.Exps.rank.Goals as goal

pub returns-in-DegLex : goal.returns-in-DegLex
unfolding rank
returns-in-DegLex c =
    let m = c.args.self.now in
    c.lex_rank.ensures ∙ ap₂ (λ (d : ℕ) (es : List ℕ). d ∷ es) (total_is c.self.inside m c.self.view_is c.self.invariant) (values_are c.self.inside m c.self.view_is c.self.invariant)
    ∙ ap (λ o. rank o m) (sym c.in-DegLex.is)

pub reverse_rank-requires : goal.reverse_rank-requires
reverse_rank-requires c = sym c.self.invariant.total

pub returns-in-DegRevLex : goal.returns-in-DegRevLex
unfolding rank
returns-in-DegRevLex c =
    let m = c.args.self.now in
    c.reverse_rank.ensures ∙ ap₂ (λ (d : ℕ) (es : List ℕ). d ∷ map (λ e. d - e) (reverse es)) (total_is c.self.inside m c.self.view_is c.self.invariant) (values_are c.self.inside m c.self.view_is c.self.invariant)
    ∙ ap (λ o. rank o m) (sym c.in-DegRevLex.is)
