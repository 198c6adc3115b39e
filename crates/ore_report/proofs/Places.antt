-- Places of pairs, and their order.
--     not_past, past              whether a degree passes the limit
--     plain_place, past_place     the place of a pair with this term, and of one past the limit
--     within_is, past_is          which of the two a pair has
--     place_by, rows_are          the place of a pair has its rows
--     number_tied, tied_pair                 places that aren't told apart have the same rows
--     place_total                 the order of places is total
--     then_assoc                  orders, one after the other
--     by_both, pair_place         pairs are ordered as their places are
use Rattle.std.proofs.Common.{◌≡◌, ℕ, ◌≤◌, Bool, true, false, cond, List, refl, sym, ap, ◌∙◌, arith, replicate}
use Rattle.std.specs.Prelude.{not}
use Rattle.ore_algebra.specs.Limits.{program, is_within}
use Rattle.ore_algebra.proofs.Orderings.{then_equal}
use Rattle.std.specs.Cmp.{IsTotalOrder, nat_cmp_total, bool_cmp_total, on_total, then_total, back_total}
use Rattle.std.specs.Cmp.Lexicographic.{slice_cmp}
use Rattle.std.specs.Ordering.{nat_cmp, bool_cmp, ordering_then}
use Rattle.std.specs.declared.cmp.Ordering.{Ordering}
use Rattle.std.specs.declared.cmp.Ordering.TheVariants.{Less, Equal, Greater}
use Rattle.std.proofs.lemmas.Bool.Decides.{nat_tests}
use Rattle.std.proofs.lemmas.Cmp.{nat_list_cmp_total}
use Rattle.ore_monomial.specs.Monomial.{degree, rank, order_cmp}
use Rattle.ore_monomial.specs.Term.{Term, term_cmp}
use Rattle.ore_monomial.specs.declared.order.Order.{Order}
use Rattle.ore_monomial.proofs.Seen.{rank_cmp}
use Rattle.ore_pairs.specs.Steps.{lcm_of_leads}
use Rattle.ore_report.specs.ChainRule.{is_past, by_limit, places_cmp, pair_cmp}
use Rattle.ore_report.specs.Queue.{place_cmp, place_at}
use Rattle.ore_report.specs.declared.queue.QueuedPair.{QueuedPair}

not_past : (d : ℕ) → d ≤ 32767 → not (is_within program.degree d) ≡ false
not_past d h = grind (arith, nat_tests)

past : (d : ℕ) → (d ≤ 32767 → ⊥) → not (is_within program.degree d) ≡ true
past d h = grind (arith, nat_tests)

abbrev pub plain_place : Order → Term → ℕ → ℕ → QueuedPair
plain_place o t i j = record { past = false; rank = rank o t.monomial; column = record { 0 = t.column }; first = i; second = j }

abbrev pub past_place : ℕ → ℕ → QueuedPair
past_place i j = record { past = true; rank = replicate 13 0; column = record { 0 = 0 }; first = i; second = j }

module _ (o : Order) (leads : List Term) (i j : ℕ) where
  pub within_is : degree (lcm_of_leads leads i j).monomial ≤ 32767 → plain_place o (lcm_of_leads leads i j) i j ≡ place_at o leads i j
  unfolding place_at
  within_is h = sym (ap (λ b. cond b (past_place i j) (plain_place o (lcm_of_leads leads i j) i j)) (not_past (degree (lcm_of_leads leads i j).monomial) h))

  pub past_is : (degree (lcm_of_leads leads i j).monomial ≤ 32767 → ⊥) → past_place i j ≡ place_at o leads i j
  unfolding place_at
  past_is h = sym (ap (λ b. cond b (past_place i j) (plain_place o (lcm_of_leads leads i j) i j)) (past (degree (lcm_of_leads leads i j).monomial) h))

  place_by : (b : Bool) (P : QueuedPair → Type 0) → P (past_place i j) → P (plain_place o (lcm_of_leads leads i j) i j) → P (cond b (past_place i j) (plain_place o (lcm_of_leads leads i j) i j))
  place_by true P x y = x
  place_by false P x y = y

  pub rows_are : ((place_at o leads i j).first ≡ i) × ((place_at o leads i j).second ≡ j)
  unfolding place_at
  rows_are = place_by (is_past leads i j) (λ p. (p.first ≡ i) × (p.second ≡ j)) (refl, refl) (refl, refl)

number_tied : (x y : ℕ) → nat_cmp x y ≡ Equal → x ≡ y
number_tied x y e = grind (arith, nat_tests)

pub tied_pair : (p q : QueuedPair) → place_cmp p q ≡ Equal → (p.first ≡ q.first) × (p.second ≡ q.second)
tied_pair p q e =
    let seconds = nat_cmp p.second q.second in
    let firsts = ordering_then (nat_cmp p.first q.first) seconds in
    let columns = ordering_then (nat_cmp q.column.0 p.column.0) firsts in
    let after_limit = then_equal (bool_cmp p.past q.past) (ordering_then (slice_cmp nat_cmp p.rank q.rank) columns) e in
    let after_rank = then_equal (slice_cmp nat_cmp p.rank q.rank) columns after_limit.1 in
    let after_column = then_equal (nat_cmp q.column.0 p.column.0) firsts after_rank.1 in
    let rows = then_equal (nat_cmp p.first q.first) seconds after_column.1 in
    (number_tied p.first q.first rows.0, number_tied p.second q.second rows.1)

pub place_total : IsTotalOrder place_cmp
place_total =
    then_total (on_total (λ (p : QueuedPair). p.past) bool_cmp_total)
    (then_total (on_total (λ (p : QueuedPair). p.rank) nat_list_cmp_total)
    (then_total (on_total (λ (p : QueuedPair). p.column.0) (back_total nat_cmp_total))
    (then_total (on_total (λ (p : QueuedPair). p.first) nat_cmp_total) (on_total (λ (p : QueuedPair). p.second) nat_cmp_total))))

then_assoc : (a b d : Ordering) → ordering_then (ordering_then a b) d ≡ ordering_then a (ordering_then b d)
then_assoc Less b d = refl
then_assoc Equal b d = refl
then_assoc Greater b d = refl

module _ (o : Order) (leads : List Term) (i j x y : ℕ) where
  abbrev t : Term
  t = lcm_of_leads leads i j

  abbrev u : Term
  u = lcm_of_leads leads x y

  by_both : (a b : Bool) → by_limit a b (term_cmp o t u) (places_cmp (i, j) (x, y)) ≡ place_cmp (cond a (past_place i j) (plain_place o t i j)) (cond b (past_place x y) (plain_place o u x y))
  by_both false false = then_assoc (order_cmp o t.monomial u.monomial) (nat_cmp u.column t.column) (places_cmp (i, j) (x, y)) ∙ ap (λ r. ordering_then r (ordering_then (nat_cmp u.column t.column) (places_cmp (i, j) (x, y)))) (sym (rank_cmp o t.monomial u.monomial))
  by_both false true = refl
  by_both true false = refl
  by_both true true = refl

  pub pair_place : pair_cmp o leads (i, j) (x, y) ≡ place_cmp (place_at o leads i j) (place_at o leads x y)
  unfolding pair_cmp place_at
  pair_place = by_both (is_past leads i j) (is_past leads x y)
