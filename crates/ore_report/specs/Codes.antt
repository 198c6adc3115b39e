-- How choices, and what is shown of a basis, are stored: as numbers.
--     choice_numbers, choice_with     a choice as four numbers; the choice with these numbers
--     choice_again                    a choice is that with its numbers
--     choice_code, runs_code          the codes of a choice, and of the choices of several runs
--     shown_code                      the code of what is shown
use Rattle.std.specs.Prelude.{◌≡◌, ℕ, zero, suc, List, refl}
use Rattle.std.specs.Coded.{Coded, coded×, coded_list, coded_option, coded_ℕ, code_by}
use Rattle.std.specs.declared.option.Option.{Option}
use Rattle.ore_monomial.specs.SignatureCode.{order_code}
use Rattle.ore_monomial.specs.Term.{Term}
use Rattle.ore_monomial.specs.declared.order.Order.{Order}
use Rattle.ore_leads.specs.StoredLeads.{leads_code}
use Rattle.ore_rows.specs.declared.choices.Choice.{Choice}
use Rattle.ore_rows.specs.declared.choices.Choice.TheVariants.{Treat, Skip}
use Rattle.ore_groebner.specs.BasisLeads.{BasisLeads}

-- which choice it is, and its places
abbrev pub choice_numbers : Choice → (ℕ × ℕ) × (ℕ × ℕ)
choice_numbers (Treat i j) = ((0, 0), (i, j))
choice_numbers (Skip i j via) = ((1, via), (i, j))

abbrev pub choice_with : ℕ → ℕ → ℕ → ℕ → Choice
choice_with zero via i j = Treat i j
choice_with (suc n) via i j = Skip i j via

pub choice_again : (c : Choice) → (let n = choice_numbers c in choice_with n.0.0 n.0.1 n.1.0 n.1.1 ≡ c)
choice_again (Treat i j) = refl
choice_again (Skip i j via) = refl

abbrev pub choice_code : Coded Choice
choice_code = code_by ((ℕ × ℕ) × (ℕ × ℕ)) (coded× (coded× coded_ℕ coded_ℕ) (coded× coded_ℕ coded_ℕ)) choice_numbers (λ n. choice_with n.0.0 n.0.1 n.1.0 n.1.1) choice_again

abbrev pub runs_code : Coded (List (List Choice))
runs_code = coded_list (coded_list choice_code)

abbrev pub shown_code : Coded BasisLeads
shown_code = code_by (Option Order × List Term) (coded× (coded_option order_code) leads_code) (λ s. (s.order, s.leads)) (λ p. record { order = p.0; leads = p.1 }) (λ _. refl)
