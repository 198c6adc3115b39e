-- What contracts see of a live chooser, and what it answers.
--     LiveState          its budget, the choices that it gave, run by run, and what it was shown last
--     live_code          the code of these as numbers
--     IsLive             what its parts say of each other
--     IsTreatmentAnswer  what is answered of a pair that may be treated
--     IsNextPairAnswer   what is answered of the pair that comes next
--     live_settings      the budget of a live chooser, which doesn't replay
--     keeps_nothing      it keeps no choices
use Rattle.std.specs.Prelude.{◌≡◌, ℕ, ◌<◌, ◌≤◌, false, List, [], refl}
use Rattle.std.specs.declared.option.Option.{Option}
use Rattle.std.specs.declared.option.Option.TheVariants.{None, Some}
use Rattle.std.specs.Coded.{Coded, coded×, coded_ℕ, code_by}
use Rattle.ore_rows.specs.declared.choices.Choice.{Choice}
use Rattle.ore_rows.specs.declared.choices.Choice.TheVariants.{Treat, Skip}
use Rattle.ore_groebner.specs.Choosing.{chosen_pairs, present, treated_pair_count_in, Settings, IsPrefixOfKept}
use Rattle.ore_groebner.specs.BasisLeads.{BasisLeads}
use Rattle.ore_groebner.specs.declared.chooser.Next.{Next}
use Rattle.ore_groebner.specs.declared.chooser.Next.TheVariants.{Choose, Complete, Spent, NoLawful}
use Rattle.ore_report.specs.Codes.{runs_code, shown_code}
use Rattle.ore_report.specs.ChainRule.{order_shown}
use Rattle.ore_report.specs.Queue.{IsQueue}
use Rattle.ore_report.specs.declared.queue.Queue.{Queue}

pub record LiveState : Type 0 where
  pub budget : ℕ
  pub given : List (List Choice)
  pub shown : BasisLeads

abbrev pub live_code : Coded LiveState
live_code = code_by ((ℕ × List (List Choice)) × BasisLeads) (coded× (coded× coded_ℕ runs_code) shown_code) (λ s. ((s.budget, s.given), s.shown)) (λ p. record { budget = p.0.0; given = p.0.1; shown = p.1 }) (λ _. refl)

-- it counts the pairs that it treats, and its queue is that of the present run
pub record IsLive (budget treated : ℕ) (given : List (List Choice)) (shown : BasisLeads) (queue : Queue) : Type 0 where
  pub counted : treated ≡ treated_pair_count_in given
  pub within_budget : treated ≤ budget
  pub queued : IsQueue (order_shown shown) shown.leads (chosen_pairs (present given)) queue.rows queue.places

-- the pair is treated where the budget allows
abbrev pub IsTreatmentAnswer : (given : List (List Choice)) → (budget i j : ℕ) → Next → Type 0
IsTreatmentAnswer given budget i j (Choose c) = (c ≡ Treat i j) × (treated_pair_count_in given < budget)
IsTreatmentAnswer given budget i j Spent = treated_pair_count_in given ≡ budget
IsTreatmentAnswer given budget i j Complete = ⊥
IsTreatmentAnswer given budget i j NoLawful = ⊥

-- the pair is skipped by way of a row, where there is one, and else treated
abbrev pub IsNextPairAnswer : (given : List (List Choice)) → (budget i j : ℕ) → Option ℕ → Next → Type 0
IsNextPairAnswer given budget i j None x = IsTreatmentAnswer given budget i j x
IsNextPairAnswer given budget i j (Some via) x = x ≡ Choose (Skip i j via)

-- a live chooser has a budget, doesn't replay, and keeps no choices
abbrev pub live_settings : ℕ → Settings
live_settings budget = record { budget = budget; replays = false; kept = [] }

pub keeps_nothing : (budget : ℕ) (given : List (List Choice)) → IsPrefixOfKept (live_settings budget) given
keeps_nothing budget given = record { keeps_none = λ _. refl; gives_kept = λ h k. cc }
