-- The lines of reports have one value each, and what follows the plan is a format.
--     read_plan, plan_again                          the plan that words tell; those of a plan that may be written tell it
--     plan_lacks                                     the words of a plan lack the line end
--     choice_same, choice_lacks                      those of a choice tell it, and lack the line end
--     stop_first, stop_same, stop_lacks, line_same, line_lacks     so do those of the last line, and of the line of a run
--     plan_words_are, choice_words_are, report_words_are     the words of lines differ
--     plan_is, choice_is, report_line_is             so these lines are formats
--     no_plan, no_choice, no_stop, no_report_line    words that are none of them
--     choices_behind, choices_of                     how many choices follow a line; these as a format
--     next_from, next_sequence, line_and_choices     a run with its choices, or the last line, from a line and choices, and back
--     next_parts, next_is                            so it is two parts, and a format
--     may_next, choice_line, choice_lines, text_next, next_makes     what this owes
use Rattle.std.proofs.Common.{◌≡◌, ℕ, suc, ◌<◌, if◌then◌else◌, List, [], ◌∷◌, ◌++◌, length, refl, sym, ap, subst, ◌∙◌, append-nil}
use Rattle.std.specs.Prelude.{◌≢◌, nat_eq, codes, decimal}
use Rattle.std.specs.List.{flat_map}
use Rattle.std.proofs.lemmas.List.{append_cancel_left}
use Rattle.std.proofs.lemmas.List.Elements.{All-nil}
use Rattle.ore_rows.specs.declared.choices.Choice.{Choice}
use Rattle.ore_rows.specs.declared.choices.Choice.TheVariants as choice
use Rattle.ore_cert.specs.declared.report.Plan.{Plan}
use Rattle.ore_cert.specs.declared.report.Plan.TheVariants.{Analyse, KernelLeft, KernelRight, InverseLeft, InverseRight, Resolve, Ext, Adjoint}
use Rattle.ore_cert.specs.declared.report.Stop.{Stop}
use Rattle.ore_cert.specs.declared.report.Stop.TheVariants.{Forced, Treat, Budget}
use Rattle.ore_cert.specs.declared.report_lines.Next.{Next}
use Rattle.ore_cert.specs.declared.report_lines.Next.TheVariants.{Run, End}
use Rattle.ore_cert.specs.declared.report_lines.ReportLine.{ReportLine}
use Rattle.ore_cert.specs.declared.report_lines.ReportLine.TheVariants.{RunLine, StopLine}
use Rattle.ore_parts.specs.BlockText.{place, is_place}
use Rattle.ore_parts.specs.CertificateText.{number_bound}
use Rattle.ore_parts.specs.Formats.{Format, sequence, items}
use Rattle.ore_parts.specs.Lines.{LacksByte}
use Rattle.ore_cert.specs.ReportFormats.{plan_line, plan_format, choice_words, choice_format, stop_line, report_line_words, report_line_format, IsWrittenReportLine, next_text, next_format, IsNoUnnumberedPlan}
use Rattle.ore_cert.specs.WholeText.{choice_text, IsWrittenChoice, IsWrittenPlan, IsWrittenStop, IsLength}
use Rattle.ore_parts.proofs.Bytes.{LacksByte-append}
use Rattle.ore_parts.proofs.FormatLaws.{IsFormat, AreWords, Makes, decoded, line_is, items_is, none_left}
use Rattle.ore_cert.proofs.KindLaws.{byte_at, apart_at, number_behind, below}
use Rattle.ore_parts.proofs.Numbers.{same_decimal}
use Rattle.ore_parts.proofs.Places.{number_value, counted_lacks, two_lack, three_lack, place_rest, two_same, zero_is_place}
use Rattle.ore_parts.proofs.TwoParts.{TwoParts, two_are}

-- ---- plans

read_plan : List ℕ → Plan
read_plan t =
    if nat_eq (byte_at 5 t) 97 then (if nat_eq (byte_at 6 t) 110 then Analyse else Adjoint) else if nat_eq (byte_at 5 t) 107 then (if nat_eq (byte_at 12 t) 108 then KernelLeft else KernelRight)
    else if nat_eq (byte_at 5 t) 105 then (if nat_eq (byte_at 13 t) 108 then InverseLeft else InverseRight) else if nat_eq (byte_at 5 t) 114 then Resolve (number_behind 13 t) else Ext (number_behind 9 t)

plan_again : (p : Plan) → IsWrittenPlan p → read_plan (plan_line p) ≡ p
unfolding read_plan
plan_again Analyse h = refl
plan_again KernelLeft h = refl
plan_again KernelRight h = refl
plan_again InverseLeft h = refl
plan_again InverseRight h = refl
plan_again (Resolve k) h = ap Resolve (number_value k (below k h.1))
plan_again (Ext k) h = ap Ext (number_value k (below k h.1))
plan_again Adjoint h = refl

plan_lacks : (p : Plan) → LacksByte 10 (plan_line p)
plan_lacks Analyse = refl
plan_lacks KernelLeft = refl
plan_lacks KernelRight = refl
plan_lacks InverseLeft = refl
plan_lacks InverseRight = refl
plan_lacks (Resolve k) = counted_lacks (codes "plan resolve ") k refl
plan_lacks (Ext k) = counted_lacks (codes "plan ext ") k refl
plan_lacks Adjoint = refl

pub plan_words_are : AreWords plan_line IsWrittenPlan
plan_words_are = record { some = (Analyse, tt); lacks = λ p h. plan_lacks p; same = decoded plan_line IsWrittenPlan read_plan plan_again }

pub plan_is : IsFormat plan_format
plan_is = line_is plan_line IsWrittenPlan plan_words_are

pub no_plan : (text : List ℕ) → IsNoUnnumberedPlan text → ((k : ℕ) → IsLength k → text ≢ codes "plan resolve" ++ 32 ∷ decimal k) → ((k : ℕ) → IsLength k → text ≢ codes "plan ext" ++ 32 ∷ decimal k) → (p : Plan) → IsWrittenPlan p → text ≢ plan_line p
no_plan text n r x Analyse h e = n.analyse e
no_plan text n r x KernelLeft h e = n.kernel_left e
no_plan text n r x KernelRight h e = n.kernel_right e
no_plan text n r x InverseLeft h e = n.inverse_left e
no_plan text n r x InverseRight h e = n.inverse_right e
no_plan text n r x (Resolve k) h e = r k h e
no_plan text n r x (Ext k) h e = x k h e
no_plan text n r x Adjoint h e = n.adjoint e

-- ---- choices

choice_same : (c d : Choice) → IsWrittenChoice c → IsWrittenChoice d → choice_words c ≡ choice_words d → c ≡ d
choice_same (choice.Treat i j) (choice.Treat k l) h g e = let r = two_same i j k l h g (append_cancel_left (codes "treat ") (place i ++ 32 ∷ place j) (place k ++ 32 ∷ place l) e) in λ x. choice.Treat (r.0 x) (r.1 x)
choice_same (choice.Treat i j) (choice.Skip k l m) h g e = absurd (apart_at 0 116 115 (choice_words (choice.Treat i j)) (choice_words (choice.Skip k l m)) e refl refl refl)
choice_same (choice.Skip k l m) (choice.Treat i j) h g e = absurd (apart_at 0 115 116 (choice_words (choice.Skip k l m)) (choice_words (choice.Treat i j)) e refl refl refl)
choice_same (choice.Skip i j v) (choice.Skip k l w) h g e =
    let r = place_rest i k (place j ++ 32 ∷ place v) (place l ++ 32 ∷ place w) h.0 g.0 (append_cancel_left (codes "skip ") (place i ++ 32 ∷ (place j ++ 32 ∷ place v)) (place k ++ 32 ∷ (place l ++ 32 ∷ place w)) e) in
    let rest = two_same j v l w (h.1, h.2) (g.1, g.2) r.1 in
    λ x. choice.Skip (r.0 x) (rest.0 x) (rest.1 x)

choice_lacks : (c : Choice) → LacksByte 10 (choice_words c)
choice_lacks (choice.Treat i j) = LacksByte-append 10 (codes "treat ") (place i ++ 32 ∷ place j) refl (two_lack (suc i) (suc j))
choice_lacks (choice.Skip i j v) = LacksByte-append 10 (codes "skip ") (place i ++ 32 ∷ (place j ++ 32 ∷ place v)) refl (three_lack (suc i) (suc j) (suc v))

pub choice_words_are : AreWords choice_words IsWrittenChoice
choice_words_are = record { some = (choice.Treat 0 0, (zero_is_place, zero_is_place)); lacks = λ c h. choice_lacks c; same = choice_same }

pub choice_is : IsFormat choice_format
choice_is = line_is choice_words IsWrittenChoice choice_words_are

pub no_choice : (text : List ℕ) → ((p : ℕ × ℕ) → is_place p.0 × is_place p.1 → text ≢ codes "treat " ++ (place p.0 ++ 32 ∷ place p.1))
    → ((p : ℕ × ℕ × ℕ) → is_place p.0 × is_place p.1 × is_place p.2 → text ≢ codes "skip " ++ (place p.0 ++ 32 ∷ (place p.1 ++ 32 ∷ place p.2))) → (c : Choice) → IsWrittenChoice c → text ≢ choice_words c
no_choice text t s (choice.Treat i j) h e = t (i, j) h e
no_choice text t s (choice.Skip i j v) h e = s (i, j, v) h e

-- ---- the last line, and the line of a run

stop_same : (s t : Stop) → IsWrittenStop s → IsWrittenStop t → stop_line s ≡ stop_line t → s ≡ t
stop_same Forced Forced h k e = refl
stop_same Forced (Treat i j) h k e = absurd (apart_at 5 102 116 (stop_line Forced) (stop_line (Treat i j)) e refl refl refl)
stop_same Forced Budget h k e = absurd (apart_at 5 102 98 (stop_line Forced) (stop_line Budget) e refl refl refl)
stop_same (Treat i j) Forced h k e = absurd (apart_at 5 116 102 (stop_line (Treat i j)) (stop_line Forced) e refl refl refl)
stop_same (Treat i j) (Treat k l) h g e = let r = two_same i j k l h g (append_cancel_left (codes "stop treat ") (place i ++ 32 ∷ place j) (place k ++ 32 ∷ place l) e) in λ x. Treat (r.0 x) (r.1 x)
stop_same (Treat i j) Budget h k e = absurd (apart_at 5 116 98 (stop_line (Treat i j)) (stop_line Budget) e refl refl refl)
stop_same Budget Forced h k e = absurd (apart_at 5 98 102 (stop_line Budget) (stop_line Forced) e refl refl refl)
stop_same Budget (Treat i j) h k e = absurd (apart_at 5 98 116 (stop_line Budget) (stop_line (Treat i j)) e refl refl refl)
stop_same Budget Budget h k e = refl

stop_first : (s : Stop) → byte_at 0 (stop_line s) ≡ 115
stop_first Forced = refl
stop_first (Treat i j) = refl
stop_first Budget = refl

stop_lacks : (s : Stop) → LacksByte 10 (stop_line s)
stop_lacks Forced = refl
stop_lacks (Treat i j) = LacksByte-append 10 (codes "stop treat ") (place i ++ 32 ∷ place j) refl (two_lack (suc i) (suc j))
stop_lacks Budget = refl

pub no_stop : (text : List ℕ) → text ≢ codes "stop forced" → text ≢ codes "stop budget" → ((p : ℕ × ℕ) → is_place p.0 × is_place p.1 → text ≢ codes "stop treat " ++ (place p.0 ++ 32 ∷ place p.1)) → (s : Stop) → IsWrittenStop s → text ≢ stop_line s
no_stop text f b t Forced h e = f e
no_stop text f b t (Treat i j) h e = t (i, j) h e
no_stop text f b t Budget h e = b e

line_same : (k l : ReportLine) → IsWrittenReportLine k → IsWrittenReportLine l → report_line_words k ≡ report_line_words l → k ≡ l
line_same (RunLine m) (RunLine n) h g e = ap RunLine (same_decimal m n h g (append_cancel_left (codes "run ") (decimal m) (decimal n) e))
line_same (RunLine m) (StopLine s) h g e = absurd (apart_at 0 114 115 (report_line_words (RunLine m)) (stop_line s) e refl (stop_first s) refl)
line_same (StopLine s) (RunLine m) h g e = absurd (apart_at 0 115 114 (stop_line s) (report_line_words (RunLine m)) e (stop_first s) refl refl)
line_same (StopLine s) (StopLine t) h g e = ap StopLine (stop_same s t h g e)

line_lacks : (k : ReportLine) → LacksByte 10 (report_line_words k)
line_lacks (RunLine n) = counted_lacks (codes "run ") n refl
line_lacks (StopLine s) = stop_lacks s

pub report_words_are : AreWords report_line_words IsWrittenReportLine
report_words_are = record { some = (StopLine Forced, tt); lacks = λ k h. line_lacks k; same = line_same }

pub report_line_is : IsFormat report_line_format
report_line_is = line_is report_line_words IsWrittenReportLine report_words_are

pub no_report_line : (text : List ℕ) → ((n : ℕ) → n < number_bound → text ≢ codes "run" ++ 32 ∷ decimal n) → ((s : Stop) → IsWrittenStop s → text ≢ stop_line s) → (k : ReportLine) → IsWrittenReportLine k → text ≢ report_line_words k
no_report_line text r s (RunLine n) h e = r n h e
no_report_line text r s (StopLine t) h e = s t h e

-- ---- a run with its choices, or the last line

abbrev choices_behind : ReportLine → ℕ
choices_behind (RunLine count) = count
choices_behind (StopLine stop) = 0

abbrev choices_of : ReportLine → Format (List Choice)
choices_of k = items choice_format (choices_behind k)

abbrev next_from : ReportLine → List Choice → Next
next_from (RunLine count) choices = Run choices
next_from (StopLine stop) choices = End stop

abbrev next_sequence : Format (ReportLine × List Choice)
next_sequence = sequence report_line_format choices_of

may_next : (k : ReportLine) (choices : List Choice) → IsWrittenReportLine k → (choices_of k).may choices → next_format.may (next_from k choices)
may_next (RunLine count) choices h g = record { few = subst (λ n. n < number_bound) (sym g.0) h; all = g.1 }
may_next (StopLine stop) choices h g = h

choice_line : (c : Choice) → choice_text c ≡ choice_format.text c
choice_line (choice.Treat i j) = refl
choice_line (choice.Skip i j v) = refl

choice_lines : (cs : List Choice) → flat_map choice_text cs ≡ flat_map choice_format.text cs
choice_lines cs = λ i. flat_map (λ c. choice_line c i) cs

text_next : (k : ReportLine) (choices : List Choice) → (choices_of k).may choices → next_text (next_from k choices) ≡ next_sequence.text (k, choices)
text_next (RunLine count) choices h = ap (λ t. (report_line_words (RunLine (length choices)) ++ 10 ∷ []) ++ t) (choice_lines choices) ∙ ap (λ n. (report_line_words (RunLine n) ++ 10 ∷ []) ++ flat_map choice_format.text choices) h.0
text_next (StopLine stop) choices h = sym (append-nil (stop_line stop ++ 10 ∷ [])) ∙ ap (λ t. (stop_line stop ++ 10 ∷ []) ++ t) (none_left choice_format choices h.0)

line_and_choices : (n : Next) → next_format.may n → (p : ReportLine × List Choice) × next_sequence.may p × (next_from p.0 p.1 ≡ n)
line_and_choices (Run choices) h = ((RunLine (length choices), choices), (h.few, (refl, h.all)), refl)
line_and_choices (End stop) h = ((StopLine stop, []), (h, (refl, All-nil IsWrittenChoice)), refl)

pub next_makes : Makes next_sequence next_format (λ p. next_from p.0 p.1)
next_makes = record { may_to = λ p h. may_next p.0 p.1 h.0 h.1; text_to = λ p h. text_next p.0 p.1 h.1; from = line_and_choices }

abbrev pub next_parts : TwoParts ReportLine (List Choice) Next
next_parts = record {
  first = report_line_format;
  second = choices_of;
  whole = next_format;
  to = λ p. next_from p.0 p.1;
  first_is = report_line_is;
  second_is = λ k h. items_is choice_format choice_is (choices_behind k);
  makes = next_makes;
}

pub next_is : IsFormat next_format
next_is = two_are next_parts
