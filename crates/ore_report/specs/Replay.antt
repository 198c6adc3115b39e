-- What contracts see of a replaying chooser.
--     ReplayState           the choices that it keeps, how many of them it gave of each run that was begun, and what it was
--                           shown last
--     replay_code           the code of these as numbers
--     fronts_of, given_by   of each run that was begun the first so many of the kept choices; these are what it gave
--     replay_settings       its budget is that of all treatments that it keeps, and it replays them
--     gives_kept            it gave, in each run, a front of the choices that it keeps
--     replay_allows, replay_allows_spent    its rule: each lawful choice may come
use Rattle.std.specs.Prelude.{◌≡◌, ℕ, zero, suc, Bool, true, List, [], ◌∷◌, ◌++◌, take, drop, length, get_or, refl}
use Rattle.std.proofs.Common.{sym}
use Rattle.std.proofs.lemmas.List.{take-append-drop}
use Rattle.std.specs.Coded.{Coded, coded×, coded_list, coded_ℕ, code_by}
use Rattle.ore_algebra.specs.Lists.{BeginsWith}
use Rattle.ore_rows.specs.declared.choices.Choice.{Choice}
use Rattle.ore_pairs.specs.PairRule.{is_lawful, some_pair, may_treat}
use Rattle.ore_groebner.specs.Choosing.{treated_pair_count_in, Settings, IsPrefixOfKept}
use Rattle.ore_groebner.specs.BasisLeads.{BasisLeads}
use Rattle.ore_report.specs.Codes.{runs_code, shown_code}

pub record ReplayState : Type 0 where
  pub kept : List (List Choice)
  pub counts : List ℕ
  pub shown : BasisLeads

abbrev pub replay_code : Coded ReplayState
replay_code = code_by ((List (List Choice) × List ℕ) × BasisLeads) (coded× (coded× runs_code (coded_list coded_ℕ)) shown_code) (λ s. ((s.kept, s.counts), s.shown)) (λ p. record { kept = p.0.0; counts = p.0.1; shown = p.1 }) (λ _. refl)

-- no choices of a run for which none are kept
unfoldable pub fronts_of : List (List Choice) → List ℕ → List (List Choice)
fronts_of kept [] = []
fronts_of [] (n ∷ counts) = [] ∷ fronts_of [] counts
fronts_of (cs ∷ kept) (n ∷ counts) = take n cs ∷ fronts_of kept counts

-- run by run
abbrev pub given_by : ReplayState → List (List Choice)
given_by s = fronts_of s.kept s.counts

-- it replays, and treats as many pairs as it keeps treatments
abbrev pub replay_settings : ReplayState → Settings
replay_settings s = record { budget = treated_pair_count_in s.kept; replays = true; kept = s.kept }

take_front : {A : Type 0} (n : ℕ) (xs : List A) → xs ≡ take n xs ++ drop n xs
take_front n xs = sym (take-append-drop n xs)

front : (kept : List (List Choice)) (counts : List ℕ) (k : ℕ) → BeginsWith (get_or kept k []) (get_or (fronts_of kept counts) k [])
unfolding fronts_of
front kept [] k = (get_or kept k [], refl)
front [] (n ∷ counts) zero = ([], refl)
front [] (n ∷ counts) (suc k) = front [] counts k
front (cs ∷ kept) (n ∷ counts) zero = (drop n cs, take_front n cs)
front (cs ∷ kept) (n ∷ counts) (suc k) = front kept counts k

pub gives_kept : (s : ReplayState) → IsPrefixOfKept (replay_settings s) (given_by s)
gives_kept s = record { keeps_none = λ e. cc; gives_kept = λ _ k. front s.kept s.counts k }

-- whatever pair it is
abbrev pub replay_allows : BasisLeads → List (ℕ × ℕ) → Choice → Bool
replay_allows shown ps c = is_lawful shown.leads ps c

-- while a pair may be treated
abbrev pub replay_allows_spent : BasisLeads → List (ℕ × ℕ) → Bool
replay_allows_spent shown ps = some_pair (length shown.leads) (may_treat shown.leads ps)
