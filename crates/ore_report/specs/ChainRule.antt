-- The chain rule: which pair of basis rows comes next, and what is done with it, by what a chooser is shown and the
-- pairs that are listed. The pair with the least common multiple comes next; it is skipped where a third row lets it
-- be, and else treated.
-- (Least common multiples first, and skipping by a third row: Buchberger 1979; Gebauer and Möller 1988.)
--     order_shown          the order of monomials that is shown
--     is_past              the common multiple of a pair has too great a degree
--     places_cmp           pairs by their first place, then by their second
--     by_limit             an order of terms and one of places, where some pairs are past the limit
--     pair_cmp             which of two pairs comes first
--     is_next              the least pair that may be treated
--     least_via            the least row by way of which a pair may be skipped
--     chain_allows         the choice that comes next
--     chain_allows_spent   that choice is a treatment
use Rattle.std.specs.Prelude.{ℕ, Bool, true, false, not, ◌&&◌, nat_eq, List, length, is_none}
use Rattle.std.specs.List.{range_with_len, position}
use Rattle.std.specs.Option.{option_eq}
use Rattle.std.specs.Ordering.{nat_cmp, ordering_then, is_lt}
use Rattle.std.specs.declared.cmp.Ordering.{Ordering}
use Rattle.std.specs.declared.cmp.Ordering.TheVariants.{Less, Greater}
use Rattle.std.specs.declared.option.Option.{Option}
use Rattle.std.specs.declared.option.Option.TheVariants.{None, Some}
use Rattle.ore_algebra.specs.Limits.{program, is_within}
use Rattle.ore_monomial.specs.Monomial.{degree}
use Rattle.ore_monomial.specs.Term.{Term, term_cmp}
use Rattle.ore_monomial.specs.declared.order.Order.{Order}
use Rattle.ore_monomial.specs.declared.order.Order.TheVariants.{DegLex}
use Rattle.ore_rows.specs.declared.choices.Choice.{Choice}
use Rattle.ore_rows.specs.declared.choices.Choice.TheVariants.{Treat, Skip}
use Rattle.ore_pairs.specs.PairRule.{some_pair, may_treat, may_skip}
use Rattle.ore_pairs.specs.Steps.{lcm_of_leads}
use Rattle.ore_groebner.specs.BasisLeads.{BasisLeads}

-- where none is shown there is no row with a lead, and so no pair; then the graded lexicographic order
abbrev pub order_shown : BasisLeads → Order
order_shown shown = elim shown.order [ None ↦ DegLex | Some o ↦ o ]

-- the degree is past the greatest one of the program
abbrev pub is_past : List Term → ℕ → ℕ → Bool
is_past leads i j = not (is_within program.degree (degree (lcm_of_leads leads i j).monomial))

-- the lesser first place comes first, then the lesser second
abbrev pub places_cmp : ℕ × ℕ → ℕ × ℕ → Ordering
places_cmp p q = ordering_then (nat_cmp p.0 q.0) (nat_cmp p.1 q.1)

-- pairs within the limit come before those past it, and among these the term doesn't count
abbrev pub by_limit : Bool → Bool → Ordering → Ordering → Ordering
by_limit false false terms places = ordering_then terms places
by_limit false true terms places = Less
by_limit true false terms places = Greater
by_limit true true terms places = places

-- by the order of the terms of both pairs, then by their places; pairs past the limit come last
unfoldable pub pair_cmp : Order → List Term → ℕ × ℕ → ℕ × ℕ → Ordering
pair_cmp o leads p q = by_limit (is_past leads p.0 p.1) (is_past leads q.0 q.1) (term_cmp o (lcm_of_leads leads p.0 p.1) (lcm_of_leads leads q.0 q.1)) (places_cmp p q)

-- it may be treated, and no pair that may be treated comes before it
unfoldable pub is_next : Order → List Term → List (ℕ × ℕ) → ℕ → ℕ → Bool
is_next o leads ps i j = may_treat leads ps i j && not (some_pair (length leads) (λ x y. may_treat leads ps x y && is_lt (pair_cmp o leads (x, y) (i, j))))

-- the first of all rows that does
unfoldable pub least_via : List Term → List (ℕ × ℕ) → ℕ → ℕ → Option ℕ
least_via leads ps i j = position (may_skip leads ps i j) (range_with_len 0 (length leads))

-- the next pair is skipped by way of the least row that lets it be, and treated where no row does
abbrev pub chain_allows : BasisLeads → List (ℕ × ℕ) → Choice → Bool
chain_allows shown ps (Treat i j) = is_next (order_shown shown) shown.leads ps i j && is_none (least_via shown.leads ps i j)
chain_allows shown ps (Skip i j via) = is_next (order_shown shown) shown.leads ps i j && option_eq nat_eq (least_via shown.leads ps i j) (Some via)

-- the budget may be spent exactly where the choice that comes next is a treatment
abbrev pub chain_allows_spent : BasisLeads → List (ℕ × ℕ) → Bool
chain_allows_spent shown ps = some_pair (length shown.leads) (λ i j. chain_allows shown ps (Treat i j))
