use Rattle.std.proofs.Common.{◌+◌, ◌++◌, inl, inr, sym, ap, ◌∙◌}
use Rattle.ore_text.specs.CanonicalParts.{starred, exponent_text}
use Rattle.std.specs.Prelude.{false}
use Rattle.ore_text.specs.CanonicalText.{factor_texts}
use Rattle.ore_text.proofs.CanonicalReading.{rest_at, rest_at-drop, drop_rest, TermEnd-FactorEnd}
use Rattle.ore_text.proofs.Coefficients.{IsReadNumber}
use Rattle.ore_text.proofs.Powers.{name_bytes, exponent_end, power_front, word_length, word_taken, same_word, another_word, nothing_read, stays_no_bare, behind_name}
use Rattle.ore_text.proofs.Known.{at_none, at_some}
use Rattle.ore_text.proofs.canonical.read_power.Goals as goal

pub returns-then-ne-clause-only : goal.returns-then-ne-clause-only
returns-then-ne-clause-only c bare e names es tail small hs ns end eq =
    let text = c.args.text.now in
    let start = c.star_length-start.result in
    elim (power_front bare c.args.name.now e names es tail text start c.requires hs ns end c.star_length-start.ensures.value eq) [
      | inl z ↦ (sym z.0, nothing_read bare c.args.name.now e (factor_texts names es) tail text z.0 eq)
      | inr p ↦
          let l = word_length start c.word_length.result text c.args.name.now _ p.1 (name_bytes c.args.name.now c.requires) (exponent_end e _ (TermEnd-FactorEnd (factor_texts names es) tail end)) c.word_length.ensures.value in
          absurd (another_word _ c.args.name.now c.if-ne.ensures (word_taken start c.word_length.result text c.args.name.now _ p.1 l))
    ]

pub returns-in_default-clause-only : goal.returns-in_default-clause-only
returns-in_default-clause-only c bare e names es tail small hs ns end eq =
    let text = c.args.text.now in
    let start = c.star_length-start.result in
    elim (power_front bare c.args.name.now e names es tail text start c.requires hs ns end c.star_length-start.ensures.value eq) [
      | inl z ↦
          let l = word_length start c.word_length.result text z.1.word z.1.more z.1.front_is z.1.bytes z.1.end c.word_length.ensures.value in
          absurd (z.1.other (sym (word_taken start c.word_length.result text z.1.word z.1.more z.1.front_is l) ∙ same_word _ c.args.name.now c.if-ne.ensures))
      | inr p ↦
          let l = word_length start c.word_length.result text c.args.name.now _ p.1 (name_bytes c.args.name.now c.requires) (exponent_end e _ (TermEnd-FactorEnd (factor_texts names es) tail end)) c.word_length.ensures.value in
          let at = start + c.word_length.result in
          let more = starred false (factor_texts names es) ++ tail in
          at_none (IsReadNumber e (rest_at at text) more) c.read_exponent.result c.in_default.is
          (c.read_exponent.ensures.only e more p.0 small (TermEnd-FactorEnd (factor_texts names es) tail end) (rest_at-drop at text ∙ behind_name start c.word_length.result text c.args.name.now (exponent_text e ++ more) p.1 l))
    ]

pub returns-clause-only : goal.returns-clause-only
returns-clause-only c bare e names es tail small hs ns end eq =
    let text = c.args.text.now in
    let start = c.star_length-start.result in
    elim (power_front bare c.args.name.now e names es tail text start c.requires hs ns end c.star_length-start.ensures.value eq) [
      | inl z ↦
          let l = word_length start c.word_length.result text z.1.word z.1.more z.1.front_is z.1.bytes z.1.end c.word_length.ensures.value in
          absurd (z.1.other (sym (word_taken start c.word_length.result text z.1.word z.1.more z.1.front_is l) ∙ same_word _ c.args.name.now c.if-ne.ensures))
      | inr p ↦
          let l = word_length start c.word_length.result text c.args.name.now _ p.1 (name_bytes c.args.name.now c.requires) (exponent_end e _ (TermEnd-FactorEnd (factor_texts names es) tail end)) c.word_length.ensures.value in
          let at = start + c.word_length.result in
          let more = starred false (factor_texts names es) ++ tail in
          let r = at_some (IsReadNumber e (rest_at at text) more) c.read_exponent.result _ c.in-Some.is
          (c.read_exponent.ensures.only e more p.0 small (TermEnd-FactorEnd (factor_texts names es) tail end) (rest_at-drop at text ∙ behind_name start c.word_length.result text c.args.name.now (exponent_text e ++ more) p.1 l)) in
          (r.0, drop_rest at c.in-Some.length text ∙ r.1 ∙ ap (λ x. starred x (factor_texts names es) ++ tail) (sym (stays_no_bare bare c.args.name.now e p.0)))
    ]
