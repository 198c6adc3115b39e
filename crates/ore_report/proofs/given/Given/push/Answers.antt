use Rattle.std.proofs.Common.{◌≡◌, ◌≢◌, ℕ, suc, ◌-◌, List, [], ◌∷◌, ◌++◌, length, set, refl, sym, ap, ◌∙◌, arith}
use Rattle.std.specs.Prelude.{IfErr}
use Rattle.std.specs.declared.result.Result.{Result}
use Rattle.std.specs.declared.result.Result.TheVariants.{Ok, Err}
use Rattle.std.proofs.lemmas.List.{get_or_read, set-get_or}
use Rattle.std.proofs.lemmas.Result.{IfOk-weaker}
use Rattle.ore_rows.specs.declared.choices.Choice.{Choice}
use Rattle.ore_groebner.specs.Choosing.{with_choice}
use Rattle.ore_report.proofs.GivenRuns.{with_choice-set}
use Rattle.ore_report.proofs.given.Given.push.Goals as goal

one_less : (runs : List (List Choice)) → runs ≢ [] → (n : ℕ) → n ≡ length runs → length runs ≡ suc (n - 1)
one_less [] h n e = absurd (h refl)
one_less (r ∷ runs) h n e = omega arith

if_err : {A E : Type 0} (r : Result A E) (P Q : E → Type 0) → IfErr r P → ((e : E) → P e → Q e) → IfErr r Q
if_err (Ok x) P Q h so = tt
if_err (Err e) P Q h so = so e h

pub returns-clause-pushed : goal.returns-clause-pushed
returns-clause-pushed c =
    let runs = c.take-items.result.items in
    let last = c.len-last.result - 1 in
    let long : length runs ≡ suc last = one_less runs (λ e. c.requires (sym c.take-items.ensures ∙ e)) c.len-last.result (omega (arith, c.len-last.ensures)) in
    let run = get_or_read runs last c.index_mut.result.now (omega (arith, long)) c.index_mut.ensures.value [] in
    IfOk-weaker c.push_choice-pushed.result _ _
    (λ x pushed. c.from_vec.ensures ∙ ap (set runs last) (pushed ∙ ap (λ cs. cs ++ c.args.choice ∷ []) run) ∙ sym (with_choice-set runs c.args.choice last long) ∙ ap (λ rs. with_choice rs c.args.choice) c.take-items.ensures)
    c.push_choice-pushed.ensures.pushed

pub returns-clause-kept : goal.returns-clause-kept
returns-clause-kept c =
    let runs = c.take-items.result.items in
    let last = c.len-last.result - 1 in
    let long : length runs ≡ suc last = one_less runs (λ e. c.requires (sym c.take-items.ensures ∙ e)) c.len-last.result (omega (arith, c.len-last.ensures)) in
    let run = get_or_read runs last c.index_mut.result.now (omega (arith, long)) c.index_mut.ensures.value [] in
    if_err c.push_choice-pushed.result _ _
    (c.push_choice-pushed.ensures.kept)
    (λ e kept. c.from_vec.ensures ∙ ap (set runs last) (kept ∙ run) ∙ set-get_or runs last [] ∙ c.take-items.ensures)
