-- What the parts of a live chooser say of each other, as they change.
--     IsFresh, fresh_queue     a queue into which no row has entered
--     live_new                 one that has given nothing
--     live_begun               a run has begun
--     live_shown               more leads are shown
--     listed                   the listed pairs are those of the present run
--     queue_others             a queue, by a list with the same pairs
--     live_listed, live_entered      the queue, by the listed pairs, and after rows have entered
--     pair_listed, queue_left        one more choice, and the place of its pair is gone
--     live_skipped, live_treated     one more pair is skipped, or treated
use Rattle.std.proofs.Common.{◌≡◌, ◌≢◌, ℕ, suc, ◌+◌, false, cond, List, [], ◌∷◌, ◌++◌, sym, ap, ◌∙◌, subst, arith, add-one}
use Rattle.std.specs.Prelude.{◌&&◌, ◌||◌, nat_eq, nat_lt}
use Rattle.std.specs.BTreeSet.{BTreeSet, contains}
use Rattle.std.specs.Ordering.{is_eq}
use Rattle.std.specs.declared.option.Option.{Option}
use Rattle.std.proofs.lemmas.List.{length-append}
use Rattle.ore_algebra.specs.Lists.{BeginsWith}
use Rattle.ore_monomial.specs.Term.{Term}
use Rattle.ore_monomial.specs.declared.order.Order.{Order}
use Rattle.ore_rows.specs.declared.choices.Choice.{Choice}
use Rattle.ore_rows.specs.declared.choices.Choice.TheVariants.{Treat, Skip}
use Rattle.ore_pairs.specs.PairRule.{is_listed, HaveSamePairs}
use Rattle.ore_pairs.proofs.PairRuleLaws.{treat_same}
use Rattle.ore_groebner.specs.Choosing.{first_of, second_of, chosen_pairs, present, treated_pair_count_in, with_choice}
use Rattle.ore_groebner.specs.BasisLeads.{BasisLeads}
use Rattle.ore_report.specs.ChainRule.{order_shown}
use Rattle.ore_report.specs.Live.{IsLive}
use Rattle.ore_report.specs.Queue.{place_cmp, IsPlace, IsQueue}
use Rattle.ore_report.specs.declared.queue.QueuedPair.{QueuedPair}
use Rattle.ore_report.specs.declared.queue.Queue.{Queue}
use Rattle.ore_course.specs.Choices as course
use Rattle.ore_course.proofs.GivenRuns.{treatment_count_in-start}
use Rattle.ore_pairs.specs.Runner.{treats_pair}
use Rattle.ore_groebner.proofs.Given.{present-with_choice, chosen_pairs-push}
use Rattle.ore_report.proofs.GivenRuns.{treatment_count_in-treated, treatment_count_in-skipped}
use Rattle.ore_report.proofs.Waiting.{left, waiting_none, waiting_others, waiting_grown}

pub record IsFresh (queue : Queue) : Type 0 where
  pub places : queue.places.keys ≡ []
  pub rows : queue.rows ≡ 0

fresh_queue : (o : Order) (leads : List Term) (ps : List (ℕ × ℕ)) (queue : Queue) → IsFresh queue → IsQueue o leads ps queue.rows queue.places
fresh_queue o leads ps queue f = subst (λ n. IsQueue o leads ps n queue.places) (sym f.rows) (record { inside = omega arith; waiting = waiting_none o leads ps queue.places f.places })

pub live_new : (budget : ℕ) (given : List (List Choice)) (shown : BasisLeads) (queue : Queue) → given ≡ [] → IsFresh queue → IsLive budget 0 given shown queue
unfolding course.treatment_count_in
live_new budget given shown queue e f = record { counted = sym (ap treated_pair_count_in e); within_budget = omega arith; queued = fresh_queue (order_shown shown) shown.leads (chosen_pairs (present given)) queue f }

queue_grown : (o now : Order) (leads more : List Term) (ps : List (ℕ × ℕ)) (rows : ℕ) (places : BTreeSet QueuedPair) → BeginsWith more leads → (leads ≢ [] → now ≡ o) → IsQueue o leads ps rows places → IsQueue now more ps rows places
queue_grown o now leads more ps rows places begins same q =
    subst (λ ts. IsQueue now ts ps rows places) (sym begins.1)
    (record { inside = let few = q.inside in omega (arith, length-append leads begins.0); waiting = waiting_grown o now leads begins.0 ps rows places q.inside same q.waiting })

queue_others : (o : Order) (leads : List Term) (ps qs : List (ℕ × ℕ)) (rows : ℕ) (places : BTreeSet QueuedPair) → HaveSamePairs ps qs → IsQueue o leads ps rows places → IsQueue o leads qs rows places
queue_others o leads ps qs rows places same q = record { inside = q.inside; waiting = waiting_others o leads ps (λ i j. nat_lt j rows) qs places (λ i j. treat_same leads ps i j qs (same i j)) q.waiting }

module _ (budget treated : ℕ) (given : List (List Choice)) (shown : BasisLeads) (queue : Queue) (l : IsLive budget treated given shown queue) where
  pub live_begun : (now : List (List Choice)) (none : BasisLeads) (new : Queue) → now ≡ given ++ [] ∷ [] → IsFresh new → IsLive budget treated now none new
  live_begun now none new e f = record { counted = l.counted ∙ sym (treatment_count_in-start treats_pair given) ∙ sym (ap treated_pair_count_in e); within_budget = l.within_budget; queued = fresh_queue (order_shown none) none.leads (chosen_pairs (present now)) new f }

  pub live_shown : (now : BasisLeads) → BeginsWith now.leads shown.leads → (shown.leads ≢ [] → now.order ≡ shown.order) → IsLive budget treated given now queue
  live_shown now begins same = record {
    counted = l.counted;
    within_budget = l.within_budget;
    queued = queue_grown (order_shown shown) (order_shown now) shown.leads now.leads (chosen_pairs (present given)) queue.rows queue.places begins (λ h. ap (λ (o : Option Order). order_shown (record { order = o; leads = now.leads })) (same h)) l.queued;
  }

  module _ (ps : List (ℕ × ℕ)) (old : List (List Choice)) (e : given ≡ old) (lists : HaveSamePairs ps (chosen_pairs (present old))) (ts : List Term) (f : shown.leads ≡ ts) where
    listed : HaveSamePairs ps (chosen_pairs (present given))
    listed i j = lists i j ∙ sym (ap (λ g. is_listed i j (chosen_pairs (present g))) e)

    -- the queue, by the listed pairs
    pub live_listed : IsQueue (order_shown shown) ts ps queue.rows queue.places
    live_listed = subst (λ us. IsQueue (order_shown shown) us ps queue.rows queue.places) f (queue_others (order_shown shown) shown.leads (chosen_pairs (present given)) ps queue.rows queue.places (λ i j. sym (listed i j)) l.queued)

    pub live_entered : (new : Queue) → IsQueue (order_shown shown) ts ps new.rows new.places → IsLive budget treated given shown new
    live_entered new q = record {
      counted = l.counted;
      within_budget = l.within_budget;
      queued = subst (λ us. IsQueue (order_shown shown) us (chosen_pairs (present given)) new.rows new.places) (sym f) (queue_others (order_shown shown) ts ps (chosen_pairs (present given)) new.rows new.places listed q);
    }

  module _ (place : QueuedPair) (is : IsPlace (order_shown shown) shown.leads place) (c : Choice) (first : first_of c ≡ place.first) (second : second_of c ≡ place.second) (now : List (List Choice)) (h : given ≢ []) (e : now ≡ with_choice given c) (new : Queue) (gone : (p : QueuedPair) → contains place_cmp new.places p ≡ cond (is_eq (place_cmp place p)) false (contains place_cmp queue.places p)) (rows : new.rows ≡ queue.rows) where
    pair_listed : (x y : ℕ) → is_listed x y (chosen_pairs (present now)) ≡ ((nat_eq x place.first && nat_eq y place.second) || is_listed x y (chosen_pairs (present given)))
    pair_listed x y =
        ap (λ g. is_listed x y (chosen_pairs (present g))) e ∙ ap (λ cs. is_listed x y (chosen_pairs cs)) (present-with_choice given c h) ∙ chosen_pairs-push x y (present given) c
        ∙ (λ n. (nat_eq x (first n) && nat_eq y (second n)) || is_listed x y (chosen_pairs (present given)))

    queue_left : IsQueue (order_shown shown) shown.leads (chosen_pairs (present now)) new.rows new.places
    queue_left =
        subst (λ n. IsQueue (order_shown shown) shown.leads (chosen_pairs (present now)) n new.places) (sym rows)
        (record { inside = (l.queued).inside; waiting = left (order_shown shown) shown.leads (chosen_pairs (present given)) (λ i j. nat_lt j queue.rows) (chosen_pairs (present now)) place queue.places new.places is pair_listed (l.queued).waiting gone })

    pub live_skipped : (via : ℕ) → c ≡ Skip place.first place.second via → IsLive budget treated now shown new
    live_skipped via s = record { counted = l.counted ∙ sym (ap treated_pair_count_in e ∙ ap (λ d. treated_pair_count_in (with_choice given d)) s ∙ treatment_count_in-skipped given place.first place.second via h); within_budget = l.within_budget; queued = queue_left }

    pub live_treated : c ≡ Treat place.first place.second → treated ≢ budget → IsLive budget (treated + 1) now shown new
    live_treated s n = record {
      counted = add-one treated ∙ ap suc l.counted ∙ sym (ap treated_pair_count_in e ∙ ap (λ d. treated_pair_count_in (with_choice given d)) s ∙ treatment_count_in-treated given place.first place.second h);
      within_budget = let k = l.within_budget in omega arith;
      queued = queue_left;
    }
