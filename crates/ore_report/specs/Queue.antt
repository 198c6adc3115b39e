-- The queue of pairs: the place of each pair that may be treated, in the order in which pairs come next.
--     place_cmp       which of two places comes first
--     place_at        the place of a pair
--     is_waiting      a place is that of a pair that has entered and may be treated
--     AreWaiting      the places of a queue are exactly these
--     IsQueue         the queue has the places of all pairs of the first rows that may be treated
--     IsPlace         a place is that of its pair
--     IsFirst         the pair that comes next, if there is one
use Rattle.std.specs.Prelude.{◌≡◌, ℕ, ◌≤◌, Bool, true, false, cond, ◌&&◌, nat_lt, List, length, replicate}
use Rattle.std.specs.BTreeSet.{BTreeSet, contains}
use Rattle.std.specs.Cmp.Lexicographic.{slice_cmp}
use Rattle.std.specs.Ordering.{nat_cmp, bool_cmp, ordering_then, is_eq}
use Rattle.std.specs.declared.cmp.Ordering.{Ordering}
use Rattle.std.specs.declared.cmp.Ordering.TheVariants.{Equal}
use Rattle.std.specs.declared.option.Option.{Option}
use Rattle.std.specs.declared.option.Option.TheVariants.{None, Some}
use Rattle.ore_monomial.specs.Monomial.{rank}
use Rattle.ore_monomial.specs.Term.{Term}
use Rattle.ore_monomial.specs.declared.order.Order.{Order}
use Rattle.ore_pairs.specs.PairRule.{may_treat}
use Rattle.ore_pairs.specs.Steps.{lcm_of_leads}
use Rattle.ore_report.specs.ChainRule.{is_past, is_next}
use Rattle.ore_report.specs.declared.queue.QueuedPair.{QueuedPair}

-- field by field, where the greater column comes first
abbrev pub place_cmp : QueuedPair → QueuedPair → Ordering
place_cmp p q = ordering_then (bool_cmp p.past q.past) (ordering_then (slice_cmp nat_cmp p.rank q.rank) (ordering_then (nat_cmp q.column.0 p.column.0) (ordering_then (nat_cmp p.first q.first) (nat_cmp p.second q.second))))

-- that of a pair past the limit has no term
unfoldable pub place_at : Order → List Term → ℕ → ℕ → QueuedPair
place_at o leads i j = cond (is_past leads i j)
    (record { past = true; rank = replicate 13 0; column = record { 0 = 0 }; first = i; second = j })
    (record { past = false; rank = rank o (lcm_of_leads leads i j).monomial; column = record { 0 = (lcm_of_leads leads i j).column }; first = i; second = j })

-- as the places of a queue are told apart
abbrev pub IsPlace : Order → List Term → QueuedPair → Type 0
IsPlace o leads p = place_cmp p (place_at o leads p.first p.second) ≡ Equal

module _ (o : Order) (leads : List Term) (ps : List (ℕ × ℕ)) where
  unfoldable pub is_waiting : (ℕ → ℕ → Bool) → QueuedPair → Bool
  is_waiting entered p = entered p.first p.second && may_treat leads ps p.first p.second && is_eq (place_cmp p (place_at o leads p.first p.second))

  abbrev pub AreWaiting : (ℕ → ℕ → Bool) → BTreeSet QueuedPair → Type 0
  AreWaiting entered places = (p : QueuedPair) → contains place_cmp places p ≡ is_waiting entered p

  -- the pairs whose second row is one of the first rows have entered
  pub record IsQueue (rows : ℕ) (places : BTreeSet QueuedPair) : Type 0 where
    pub inside : rows ≤ length leads
    pub waiting : AreWaiting (λ i j. nat_lt j rows) places

  -- no pair may be treated, or this is the place of the next one
  abbrev pub IsFirst : Option QueuedPair → Type 0
  IsFirst None = (i j : ℕ) → may_treat leads ps i j ≡ false
  IsFirst (Some p) = (is_next o leads ps p.first p.second ≡ true) × IsPlace o leads p
