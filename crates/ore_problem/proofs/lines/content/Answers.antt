use Rattle.std.proofs.Common.{sym, ap, ◌∙◌}
use Rattle.std.proofs.lemmas.Slice.Eq.{strip_suffix_is}
use Rattle.std.proofs.lemmas.Bool.Decides.{Decides-eqb}
use Rattle.std.specs.Prelude.{codes}
use Rattle.std.specs.declared.option.Option.TheVariants.{None, Some}
use Rattle.ore_problem.specs.Lines.{content}
use Rattle.ore_problem.proofs.LineLemmas.{content-crlf, content-lf, content_none}
use Rattle.ore_problem.proofs.lines.content.Goals as goal

pub returns-in-Some : goal.returns-in-Some
returns-in-Some c =
    let e = strip_suffix_is Decides-eqb c.args.raw.now (codes "\r\n") (Some c.in-Some.front) c.in-Some.ensures.cases in
    sym (content-crlf c.in-Some.front.now) ∙ ap content (sym e)

pub returns-in-Some-strip_suffix : goal.returns-in-Some-strip_suffix
returns-in-Some-strip_suffix c =
    let n = strip_suffix_is Decides-eqb c.args.raw.now (codes "\r\n") None c.in_default.ensures.cases in
    let e = strip_suffix_is Decides-eqb c.args.raw.now (codes "\n") (Some c.in-Some-strip_suffix.front) c.in-Some-strip_suffix.ensures.cases in
    sym (content-lf c.in-Some-strip_suffix.front.now (λ front h. n front (e ∙ h))) ∙ ap content (sym e)

pub returns-in-None : goal.returns-in-None
returns-in-None c = sym (content_none c.args.raw.now (strip_suffix_is Decides-eqb c.args.raw.now (codes "\n") None c.in-None.ensures.cases))
