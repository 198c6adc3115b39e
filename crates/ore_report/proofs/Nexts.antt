-- The pair that comes next, among those that may be treated.
--     no_keys                  a list that isn't long is empty
--     next_from, next_to       the pair that comes next may be treated, and no such pair comes before it; and so it is
--     may_within, next_within  the rows of a pair that may be treated, and of the next one, have leads
--     next_first               the place that is first in the queue is that of the next pair
--     none_left                where the queue is empty no pair may be treated
--     first_is                 either, as the queue's least place is found
--     next_one                 one pair comes next
use Rattle.std.proofs.Common.{◌≡◌, ℕ, ◌<◌, Bool, true, false, List, [], ◌∷◌, length, refl, sym, ap, ◌∙◌, true≢false, arith}
use Rattle.std.specs.Prelude.{◌&&◌, ◌↔◌, not, nat_lt, IfSome, IsSome}
use Rattle.std.specs.BTreeMap.{is_at}
use Rattle.std.specs.BTreeSet.{BTreeSet, btree_set_len, contains, IsLowerBound}
use Rattle.std.specs.Cmp.{alike_right, Equal-is}
use Rattle.std.specs.List.{list_any}
use Rattle.std.specs.Ordering.{is_eq, is_gt, is_lt, ordering_reverse}
use Rattle.std.specs.declared.cmp.Ordering.{Ordering}
use Rattle.std.specs.declared.cmp.Ordering.TheVariants.{Less, Equal, Greater}
use Rattle.std.specs.declared.option.Option.{Option}
use Rattle.std.specs.declared.option.Option.TheVariants.{None, Some}
use Rattle.std.proofs.lemmas.Bool.Decides.{nat_tests}
use Rattle.ore_monomial.specs.Term.{Term}
use Rattle.ore_monomial.specs.declared.order.Order.{Order}
use Rattle.ore_pairs.specs.PairRule.{some_pair, may_treat}
use Rattle.ore_pairs.proofs.SomePair.{not_true, pair_none, pair_not}
use Rattle.ore_pairs.proofs.PairRuleLaws.{treat_from}
use Rattle.ore_report.specs.ChainRule.{pair_cmp, is_next}
use Rattle.ore_report.specs.Queue.{place_cmp, place_at, is_waiting, IsQueue, IsFirst, IsPlace}
use Rattle.ore_report.specs.declared.queue.QueuedPair.{QueuedPair}
use Rattle.ore_report.proofs.Places.{place_total, pair_place, tied_pair, rows_are}
use Rattle.ore_report.proofs.Waiting.{waiting_there}

no_keys : {K : Type 0} (xs : List K) → (0 < length xs → ⊥) → xs ≡ []
no_keys [] h = refl
no_keys (x ∷ xs) h = absurd (h (omega arith))

and_true : (a b : Bool) → (a && not b) ≡ true → (a ≡ true) × (b ≡ false)
and_true true true h = absurd (true≢false (sym h))
and_true true false h = (refl, refl)
and_true false b h = absurd (true≢false (sym h))

to_and : (a b : Bool) → a ≡ true → b ≡ false → (a && not b) ≡ true
to_and a b e f = grind arith

later : (a b : Bool) → (a && b) ≡ false → a ≡ true → b ≡ false
later true b h e = h
later false b h e = absurd (true≢false (sym e))

not_both : (a b : Bool) → (a ≡ true → b ≡ false) → (a && b) ≡ false
not_both true b h = h refl
not_both false b h = refl

-- it may be treated, and no pair that may be treated comes before it
pub record ComesNext (o : Order) (leads : List Term) (ps : List (ℕ × ℕ)) (i j : ℕ) : Type 0 where
  pub may : may_treat leads ps i j ≡ true
  pub least : (x y : ℕ) → may_treat leads ps x y ≡ true → is_lt (pair_cmp o leads (x, y) (i, j)) ≡ false

-- both rows of a pair that may be treated have leads
pub may_within : (leads : List Term) (ps : List (ℕ × ℕ)) (i j : ℕ) → may_treat leads ps i j ≡ true → (i < length leads) × (j < length leads)
may_within leads ps i j h =
    let can = treat_from leads ps i j h in
    let second = can.within in
    (let before = can.ordered in omega arith, second)

module _ (o : Order) (leads : List Term) (ps : List (ℕ × ℕ)) where
  abbrev earlier : ℕ → ℕ → ℕ → ℕ → Bool
  earlier i j x y = may_treat leads ps x y && is_lt (pair_cmp o leads (x, y) (i, j))

  pub next_from : (i j : ℕ) → is_next o leads ps i j ≡ true → ComesNext o leads ps i j
  unfolding is_next
  next_from i j h =
      let parts = and_true (may_treat leads ps i j) (some_pair (length leads) (earlier i j)) h in
      record {
        may = parts.0;
        least = λ x y m.
            let inside = may_within leads ps x y m in
            later (may_treat leads ps x y) (is_lt (pair_cmp o leads (x, y) (i, j))) (pair_not (length leads) (earlier i j) parts.1 x y inside.0 inside.1) m;
      }

  pub next_to : (i j : ℕ) → ComesNext o leads ps i j → is_next o leads ps i j ≡ true
  unfolding is_next
  next_to i j h = to_and (may_treat leads ps i j) (some_pair (length leads) (earlier i j)) h.may (pair_none (length leads) (earlier i j) (λ x y. not_both (may_treat leads ps x y) (is_lt (pair_cmp o leads (x, y) (i, j))) (h.least x y)))

pub next_within : (o : Order) (leads : List Term) (ps : List (ℕ × ℕ)) (i j : ℕ) → is_next o leads ps i j ≡ true → (i < length leads) × (j < length leads)
next_within o leads ps i j h = may_within leads ps i j (next_from o leads ps i j h).may

waiting_parts : (a b d : Bool) → (a && b && d) ≡ true → (b ≡ true) × (d ≡ true)
waiting_parts a b d h = (grind arith, grind arith)

lt_reversed : (r : Ordering) → is_lt (ordering_reverse r) ≡ is_gt r
lt_reversed Less = refl
lt_reversed Equal = refl
lt_reversed Greater = refl

entered_test : (y n rows : ℕ) → rows ≡ n → y < n → nat_lt y rows ≡ true
entered_test y n rows e l = grind (arith, nat_tests)

module _ (o : Order) (leads : List Term) (ps : List (ℕ × ℕ)) (rows : ℕ) (places : BTreeSet QueuedPair) (q : IsQueue o leads ps rows places) (all : rows ≡ length leads) where
  -- each pair that may be treated has its place
  there_is : (x y : ℕ) → may_treat leads ps x y ≡ true → contains place_cmp places (place_at o leads x y) ≡ true
  there_is x y m = waiting_there o leads ps (λ i j. nat_lt j rows) places x y q.waiting (entered_test y (length leads) rows all (treat_from leads ps x y m).within) m

  next_first : (p : QueuedPair) → contains place_cmp places p ≡ true → IsLowerBound place_cmp places p → IsFirst o leads ps (Some p)
  unfolding is_waiting
  next_first p h low = (next_to o leads ps p.first p.second (record { may = parts.0; least = least }), at)
    where
      parts : (may_treat leads ps p.first p.second ≡ true) × (is_eq (place_cmp p (place_at o leads p.first p.second)) ≡ true)
      parts = waiting_parts (nat_lt p.second rows) (may_treat leads ps p.first p.second) (is_eq (place_cmp p (place_at o leads p.first p.second))) (sym (q.waiting p) ∙ h)

      at : IsPlace o leads p
      at = (Equal-is _).0 parts.1

      least : (x y : ℕ) → may_treat leads ps x y ≡ true → is_lt (pair_cmp o leads (x, y) (p.first, p.second)) ≡ false
      least x y m =
          let other = place_at o leads x y in
          ap is_lt (pair_place o leads x y p.first p.second ∙ sym (alike_right place_total p (place_at o leads p.first p.second) other at) ∙ place_total.antisymm other p)
          ∙ lt_reversed (place_cmp p other) ∙ low other (there_is x y m)

  none_left : places.keys ≡ [] → (i j : ℕ) → may_treat leads ps i j ≡ false
  none_left e i j = not_true (may_treat leads ps i j) (λ m. true≢false (sym (there_is i j m) ∙ ap (list_any (is_at (place_cmp (place_at o leads i j)))) e))

  -- the least place, as it is found
  pub first_is : (found : Option QueuedPair) → IsSome found ↔ (0 < btree_set_len places) → IfSome found (λ p. contains place_cmp places p ≡ true) → IfSome found (IsLowerBound place_cmp places) → IsFirst o leads ps found
  first_is None some member least = none_left (no_keys places.keys (λ l. true≢false (sym (some.1 l))))
  first_is (Some p) some member least = next_first p member least

not_less : (r s : Ordering) → r ≡ ordering_reverse s → is_lt r ≡ false → is_lt s ≡ false → r ≡ Equal
not_less Less s e f g = absurd (true≢false f)
not_less Equal s e f g = refl
not_less Greater Less e f g = absurd (true≢false g)
not_less Greater Equal e f g = absurd (cc)
not_less Greater Greater e f g = absurd (cc)

-- one pair comes next
pub next_one : (o : Order) (leads : List Term) (ps : List (ℕ × ℕ)) (i j x y : ℕ) → ComesNext o leads ps i j → ComesNext o leads ps x y → (i ≡ x) × (j ≡ y)
next_one o leads ps i j x y h k =
    let a = place_at o leads i j in
    let b = place_at o leads x y in
    let not_before = ap is_lt (sym (pair_place o leads i j x y)) ∙ k.least i j h.may in
    let not_behind = ap is_lt (sym (pair_place o leads x y i j)) ∙ h.least x y k.may in
    let tied = tied_pair a b (not_less (place_cmp a b) (place_cmp b a) (place_total.antisymm a b) not_before not_behind) in
    let rows = rows_are o leads i j in
    let others = rows_are o leads x y in
    (sym rows.0 ∙ tied.0 ∙ others.0, sym rows.1 ∙ tied.1 ∙ others.1)
