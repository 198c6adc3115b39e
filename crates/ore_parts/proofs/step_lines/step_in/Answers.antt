use Rattle.std.proofs.Common.{◌≡◌, List, ℕ, ◌∷◌, ◌++◌, sym, subst, ◌∙◌}
use Rattle.std.specs.Prelude.{◌≢◌, codes}
use Rattle.std.proofs.lemmas.List.{append_cancel_left}
use Rattle.ore_algebra.specs.Free.{single}
use Rattle.ore_rational.specs.Fraction.{Fraction}
use Rattle.ore_rational.specs.Field.{rationals}
use Rattle.ore_monomial.specs.Monomial.{Monomial, plain_cmp}
use Rattle.ore_text.specs.Printable.{IsPrintable}
use Rattle.ore_rows.specs.Reduction.{step_operator}
use Rattle.ore_text.specs.CanonicalText.{operator_text}
use Rattle.ore_text.proofs.RowEntries.{is_front}
use Rattle.ore_parts.specs.BlockText.{place}
use Rattle.ore_parts.specs.Formats.{Spells}
use Rattle.ore_parts.proofs.Numbers.{place_cut}
use Rattle.ore_parts.proofs.step_lines.step_in.Goals as goal

-- what follows the word
behind_word : (words step rest : List ℕ) → words ≡ codes "step " ++ step → words ≡ codes "step " ++ rest → step ≡ rest
behind_word words step rest e f = append_cancel_left (codes "step ") step rest (sym e ∙ f)

pub returns-in_default-place_in : goal.returns-in_default-place_in
returns-in_default-place_in c t h e =
    let f = operator_text c.args.algebra.now.names.now c.args.algebra.now.signature.now.order (step_operator rationals t) in
    let front = is_front c.args.words.now (codes "step ") c.in-Some.step.now c.in-Some.ensures.cases.0 c.in-Some.ensures.cases.1 in
    let cut = place_cut c.in-Some-cut_at.place.now c.in-Some-cut_at.term.now c.in-Some.step.now t.index f c.in-Some-cut_at.ensures (behind_word c.args.words.now c.in-Some.step.now (place t.index ++ 32 ∷ f) front e) in
    c.in_default-place_in.ensures t.index h.index cut.0

pub returns-in-None : goal.returns-in-None
returns-in-None c t h e =
    let f = operator_text c.args.algebra.now.names.now c.args.algebra.now.signature.now.order (step_operator rationals t) in
    let front = is_front c.args.words.now (codes "step ") c.in-Some.step.now c.in-Some.ensures.cases.0 c.in-Some.ensures.cases.1 in
    let cut = place_cut c.in-Some-cut_at.place.now c.in-Some-cut_at.term.now c.in-Some.step.now t.index f c.in-Some-cut_at.ensures (behind_word c.args.words.now c.in-Some.step.now (place t.index ++ 32 ∷ f) front e) in
    subst (Spells (λ (u : Monomial × Fraction). operator_text c.args.algebra.now.names.now c.args.algebra.now.signature.now.order (single rationals plain_cmp u.0 u.1)) (λ u. (u.1 ≢ rationals.zero) × IsPrintable c.args.algebra.now.signature.now c.args.algebra.now.names.now (single rationals plain_cmp u.0 u.1)) c.in-Some-cut_at.term.now)
    c.in-None.is c.in_ok-found.ensures (t.monomial, t.number) (h.number, h.term) cut.1
