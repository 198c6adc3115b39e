use Rattle.std.proofs.Common.{◌<◌, length, sym, ap, ◌∙◌, subst}
use Rattle.std.proofs.lemmas.Result.{IfOk-weaker}
use Rattle.ore_rows.specs.Reduction.{leads_of}
use Rattle.ore_groebner.specs.BasisLeads.{basis_leads}
use Rattle.ore_pairs.proofs.PairRuleLaws.{all_from}
use Rattle.ore_groebner.specs.Choosing.{present, chosen_pairs}
use Rattle.ore_report.specs.ChainRule.{order_shown, least_via}
use Rattle.ore_report.specs.Live.{IsNextPairAnswer}
use Rattle.ore_report.specs.Queue.{IsFirst}
use Rattle.ore_report.proofs.Lawful.{next_pair_answer}
use Rattle.ore_report.proofs.RuleLaws.{answer_same}
use Rattle.ore_report.proofs.Nexts.{next_within}
use Rattle.ore_report.proofs.live.LiveChooserChooser.next.Goals as goal

pub returns-in-None-clause-answer : goal.returns-in-None-clause-answer
returns-in-None-clause-answer c =
    let basis = c.args.basis.now in
    all_from (leads_of basis.items) c.args.listed.now (subst (IsFirst (order_shown (basis_leads basis)) (leads_of basis.items) c.args.listed.now) c.in-None.is c.in_ok-next_place.ensures.first)

pub least_via-via-requires-clause-first : goal.least_via-via-requires-clause-first
least_via-via-requires-clause-first c =
    let basis = c.args.basis.now in
    let first = subst (IsFirst (order_shown (basis_leads basis)) (leads_of basis.items) c.args.listed.now) c.in-Some.is c.in_ok-next_place.ensures.first in
    subst (λ ts. c.in-Some.place.first < length ts) (sym c.leads.ensures) (next_within (order_shown (basis_leads basis)) (leads_of basis.items) c.args.listed.now c.in-Some.place.first c.in-Some.place.second first.0).0

pub least_via-via-requires-clause-second : goal.least_via-via-requires-clause-second
least_via-via-requires-clause-second c =
    let basis = c.args.basis.now in
    let first = subst (IsFirst (order_shown (basis_leads basis)) (leads_of basis.items) c.args.listed.now) c.in-Some.is c.in_ok-next_place.ensures.first in
    subst (λ ts. c.in-Some.place.second < length ts) (sym c.leads.ensures) (next_within (order_shown (basis_leads basis)) (leads_of basis.items) c.args.listed.now c.in-Some.place.first c.in-Some.place.second first.0).1

pub returns-in-Some-clause-answer : goal.returns-in-Some-clause-answer
returns-in-Some-clause-answer c =
    let basis = c.args.basis.now in
    let self = c.args.self.now in
    let place = c.in-Some.place in
    let first = subst (IsFirst (order_shown (basis_leads basis)) (leads_of basis.items) c.args.listed.now) c.in-Some.is c.in_ok-next_place.ensures.first in
    let via = c.least_via-via.ensures ∙ ap (λ ts. least_via ts c.args.listed.now place.first place.second) c.leads.ensures in
    IfOk-weaker c.answer_pair.result _ _
    (λ x h. (next_pair_answer basis c.args.listed.now self.given self.budget place.first place.second first.0 c.least_via-via.result via x
    (subst (λ g. IsNextPairAnswer g self.budget place.first place.second c.least_via-via.result x) c.next_place.ensures.given (subst (λ b. IsNextPairAnswer c.next_place.new.self.given b place.first place.second c.least_via-via.result x) c.next_place.ensures.budget h))).0)
    c.answer_pair.ensures.answer

pub returns-in-Some-clause-allowed : goal.returns-in-Some-clause-allowed
returns-in-Some-clause-allowed c =
    let basis = c.args.basis.now in
    let self = c.args.self.now in
    let place = c.in-Some.place in
    let first = subst (IsFirst (order_shown (basis_leads basis)) (leads_of basis.items) c.args.listed.now) c.in-Some.is c.in_ok-next_place.ensures.first in
    let pairs = chosen_pairs (present self.given) in
    let via = c.least_via-via.ensures ∙ ap (λ ts. least_via ts c.args.listed.now place.first place.second) c.leads.ensures in
    IfOk-weaker c.answer_pair.result _ _
    (λ x h. answer_same (basis_leads basis) c.args.listed.now pairs c.requires.lists x (next_pair_answer basis c.args.listed.now self.given self.budget place.first place.second first.0 c.least_via-via.result via x
    (subst (λ g. IsNextPairAnswer g self.budget place.first place.second c.least_via-via.result x) c.next_place.ensures.given (subst (λ b. IsNextPairAnswer c.next_place.new.self.given b place.first place.second c.least_via-via.result x) c.next_place.ensures.budget h))).1)
    c.answer_pair.ensures.answer
