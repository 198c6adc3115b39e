-- Where no report is honest, a search comes to its answer.
--     key, number          a command with 0 in the place of its number, and this number
--     made                 both make the command
--     digits, spelled      the word that spells the number
--     called               the command that some words call, without its number, found by comparing them with the words of each
--     called_back          the words of a command call it
--     one_command          words call one command
--     not_beyond           no more than the limit is taken from bytes that are within it
--     reply_no_read, end_no_read     a read fault is answered only where one was counted
--     due_done, search_done, command_done, ends     what is due to a search of such an input is an answer, if the source and memory serve; so is the status
use Rattle.std.proofs.Common.{◌≡◌, ◌≢◌, ◌⊎◌, inl, inr, ℕ, ◌+◌, ◌≤◌, ◌<◌, ◌^◌, cond, List, [], ◌++◌, length, take, get_or, nat_eq, refl, sym, ap, subst, ◌∙◌, arith}
use Rattle.std.proofs.lemmas.List.{length-append}
use Rattle.std.specs.Cmp.Lexicographic.{pointwise}
use Rattle.std.specs.Prelude.{decimal}
use Rattle.std.proofs.lemmas.Fmt.{decimal_injective}
use Rattle.std.specs.Io.KnownBytes.{prepend_known}
use Rattle.std.specs.declared.option.Option.{Option}
use Rattle.std.specs.declared.option.Option.TheVariants.{None, Some}
use Rattle.ore_cert.specs.WholeText.{IsWrittenPlan}
use Rattle.ore_cert.specs.declared.report.Plan.{Plan}
use Rattle.ore_cert.specs.declared.report.Plan.TheVariants as plan
use Rattle.std.specs.declared.result.Result.TheVariants.{Err}
use Rattle.std.proofs.lemmas.Option.{same_Some}
use Rattle.ore_io.specs.Faults.{Rose}
use Rattle.ore_reply.specs.Answered.{IsDelivered, IsDueFrom}
use Rattle.ore_reply.specs.InputEnd.{CountsFault}
use Rattle.ore_reply.specs.MadeReply.{end_reply, IsOfBytes}
use Rattle.ore_reply.specs.declared.input.InputEnd.{InputEnd}
use Rattle.ore_reply.specs.declared.input.InputEnd.TheVariants as end
use Rattle.ore_reply.specs.Replies.{Reply}
use Rattle.ore_reply.specs.declared.status.Status.{Status}
use Rattle.ore_reply.specs.declared.status.Status.TheVariants.{Done, ReadFault, WriteFault, TooLong, Memory}
use Rattle.ore_commands.specs.declared.command.Command.{Command}
use Rattle.ore_commands.specs.declared.command.Command.TheVariants.{Check, Search, AnalyseInBrief, AnalyseWithin, Generate, Survey}
use Rattle.ore_commands.specs.Answer.{IsDueTo, IsDue, IsUnhalted, IsUnhaltedSearch}
use Rattle.ore_commands.specs.Commands.{search_words, words_of, IsCommandInRange, AreWordsOfCommand}
use Rattle.ore_commands.specs.Finding.{search_by, search_in_brief, search_within, IsReplyOfSearch, IsUnreported}
use Rattle.ore_commands.specs.declared.search.Search.{Search as SearchOf}
use Rattle.ore_commands.specs.SearchLaws.{CallOneCommand}
use Rattle.ore_commands.proofs.Searches.{answered}

-- ---- words

-- a command with 0 in the place of its number
plan_key : Plan → Plan
plan_key plan.Analyse = plan.Analyse
plan_key plan.KernelLeft = plan.KernelLeft
plan_key plan.KernelRight = plan.KernelRight
plan_key plan.InverseLeft = plan.InverseLeft
plan_key plan.InverseRight = plan.InverseRight
plan_key (plan.Resolve k) = plan.Resolve 0
plan_key (plan.Ext k) = plan.Ext 0
plan_key plan.Adjoint = plan.Adjoint

key : Command → Command
key Check = Check
key (Search named) = Search (plan_key named)
key AnalyseInBrief = AnalyseInBrief
key (AnalyseWithin n) = AnalyseWithin 0
key (Generate n) = Generate 0
key (Survey n) = Survey 0

plan_number : Plan → ℕ
plan_number plan.Analyse = 0
plan_number plan.KernelLeft = 0
plan_number plan.KernelRight = 0
plan_number plan.InverseLeft = 0
plan_number plan.InverseRight = 0
plan_number (plan.Resolve k) = k
plan_number (plan.Ext k) = k
plan_number plan.Adjoint = 0

number : Command → ℕ
number Check = 0
number (Search named) = plan_number named
number AnalyseInBrief = 0
number (AnalyseWithin n) = n
number (Generate n) = n
number (Survey n) = n

plan_with : Plan → ℕ → Plan
plan_with plan.Analyse n = plan.Analyse
plan_with plan.KernelLeft n = plan.KernelLeft
plan_with plan.KernelRight n = plan.KernelRight
plan_with plan.InverseLeft n = plan.InverseLeft
plan_with plan.InverseRight n = plan.InverseRight
plan_with (plan.Resolve k) n = plan.Resolve n
plan_with (plan.Ext k) n = plan.Ext n
plan_with plan.Adjoint n = plan.Adjoint

with_number : Command → ℕ → Command
with_number Check n = Check
with_number (Search named) n = Search (plan_with named n)
with_number AnalyseInBrief n = AnalyseInBrief
with_number (AnalyseWithin k) n = AnalyseWithin n
with_number (Generate k) n = Generate n
with_number (Survey k) n = Survey n

plan_made : (named : Plan) → plan_with (plan_key named) (plan_number named) ≡ named
unfolding plan_with plan_key plan_number
plan_made plan.Analyse = refl
plan_made plan.KernelLeft = refl
plan_made plan.KernelRight = refl
plan_made plan.InverseLeft = refl
plan_made plan.InverseRight = refl
plan_made (plan.Resolve k) = refl
plan_made (plan.Ext k) = refl
plan_made plan.Adjoint = refl

made : (c : Command) → with_number (key c) (number c) ≡ c
unfolding with_number key number
made Check = refl
made (Search named) = ap (λ p. Search p) (plan_made named)
made AnalyseInBrief = refl
made (AnalyseWithin n) = refl
made (Generate n) = refl
made (Survey n) = refl

-- the last word of a command with a number, and the digits of 0 for another
plan_digits : Plan → List (List ℕ) → List ℕ
plan_digits plan.Analyse words = decimal 0
plan_digits plan.KernelLeft words = decimal 0
plan_digits plan.KernelRight words = decimal 0
plan_digits plan.InverseLeft words = decimal 0
plan_digits plan.InverseRight words = decimal 0
plan_digits (plan.Resolve k) words = get_or words 1 []
plan_digits (plan.Ext k) words = get_or words 1 []
plan_digits plan.Adjoint words = decimal 0

digits : Command → List (List ℕ) → List ℕ
digits Check words = decimal 0
digits (Search named) words = plan_digits named words
digits AnalyseInBrief words = decimal 0
digits (AnalyseWithin n) words = get_or words 2 []
digits (Generate n) words = get_or words 1 []
digits (Survey n) words = get_or words 1 []

plan_spelled : (named : Plan) → plan_digits (plan_key named) (search_words named) ≡ decimal (plan_number named)
unfolding plan_digits plan_key plan_number
plan_spelled plan.Analyse = refl
plan_spelled plan.KernelLeft = refl
plan_spelled plan.KernelRight = refl
plan_spelled plan.InverseLeft = refl
plan_spelled plan.InverseRight = refl
plan_spelled (plan.Resolve k) = refl
plan_spelled (plan.Ext k) = refl
plan_spelled plan.Adjoint = refl

spelled : (c : Command) → digits (key c) (words_of c) ≡ decimal (number c)
unfolding digits key number
spelled Check = refl
spelled (Search named) = plan_spelled named
spelled AnalyseInBrief = refl
spelled (AnalyseWithin n) = refl
spelled (Generate n) = refl
spelled (Survey n) = refl

few_in_plan : (named : Plan) → IsWrittenPlan named → plan_number named < 2 ^ 64
unfolding plan_number
few_in_plan plan.Analyse b = omega arith
few_in_plan plan.KernelLeft b = omega arith
few_in_plan plan.KernelRight b = omega arith
few_in_plan plan.InverseLeft b = omega arith
few_in_plan plan.InverseRight b = omega arith
few_in_plan (plan.Resolve k) b = let most = b.1 in omega (arith, most)
few_in_plan (plan.Ext k) b = let most = b.1 in omega (arith, most)
few_in_plan plan.Adjoint b = omega arith

few : (c : Command) → IsCommandInRange c → number c < 2 ^ 64
unfolding number
few Check b = omega arith
few (Search named) b = few_in_plan named b
few AnalyseInBrief b = omega arith
few (AnalyseWithin n) b = omega (arith, b)
few (Generate n) b = omega (arith, b)
few (Survey n) b = omega (arith, b)

-- words that begin so, or else another command's
compared : List (List ℕ) → List (List ℕ) → Command → Option Command → Option Command
compared words known c others = cond (pointwise (pointwise nat_eq) words known) (Some c) others

called : List (List ℕ) → Option Command
called words =
    compared words (words_of Check) Check (compared words (search_words plan.Analyse) (Search plan.Analyse) (compared words (search_words plan.KernelLeft) (Search plan.KernelLeft)
    (compared words (search_words plan.KernelRight) (Search plan.KernelRight) (compared words (search_words plan.InverseLeft) (Search plan.InverseLeft)
    (compared words (search_words plan.InverseRight) (Search plan.InverseRight) (compared words (search_words plan.Adjoint) (Search plan.Adjoint)
    (compared words (words_of AnalyseInBrief) AnalyseInBrief (compared (take 2 words) (take 2 (words_of (AnalyseWithin 0))) (AnalyseWithin 0)
    (compared (take 1 words) (take 1 (words_of (Generate 0))) (Generate 0) (compared (take 1 words) (take 1 (words_of (Survey 0))) (Survey 0)
    (compared (take 1 words) (take 1 (search_words (plan.Resolve 0))) (Search (plan.Resolve 0))
    (compared (take 1 words) (take 1 (search_words (plan.Ext 0))) (Search (plan.Ext 0)) None))))))))))))

plan_called_back : (named : Plan) → IsWrittenPlan named → called (search_words named) ≡ Some (Search (plan_key named))
unfolding called compared plan_key
plan_called_back plan.Analyse b = refl
plan_called_back plan.KernelLeft b = refl
plan_called_back plan.KernelRight b = refl
plan_called_back plan.InverseLeft b = refl
plan_called_back plan.InverseRight b = refl
plan_called_back (plan.Resolve k) b = refl
plan_called_back (plan.Ext k) b = refl
plan_called_back plan.Adjoint b = refl

called_back : (c : Command) → IsCommandInRange c → called (words_of c) ≡ Some (key c)
unfolding called compared key
called_back Check b = refl
called_back (Search named) b = plan_called_back named b
called_back AnalyseInBrief b = refl
called_back (AnalyseWithin n) b = refl
called_back (Generate n) b = refl
called_back (Survey n) b = refl

no_none : {A : Type 0} (x : A) → ◌≡◌ {A = Option A} (Some x) None → ⊥
no_none x e = cc

-- the same words have the same first words, and the same digits
pub one_command : CallOneCommand
one_command words c d h k =
    let same : words_of c ≡ words_of d = sym h.1 ∙ k.1 in
    let keys : key c ≡ key d = same_Some (key c) (key d) (sym (called_back c h.0) ∙ ap called same ∙ called_back d k.0) in
    let numerals : decimal (number c) ≡ decimal (number d) = sym (spelled c) ∙ ap (digits (key c)) same ∙ ap (λ x. digits x (words_of d)) keys ∙ spelled d in
    let numbers : number c ≡ number d = decimal_injective (number c) (number d) (few c h.0) (few d k.0) numerals in
    sym (made c) ∙ ap (with_number (key c)) numbers ∙ ap (λ x. with_number x (number d)) keys ∙ made d

-- ---- replies

not_beyond : (bytes taken : List ℕ) (after : Option (List ℕ)) (n : ℕ) → length bytes ≤ n → length taken ≡ n + 1 → Some bytes ≡ prepend_known taken after → ⊥
not_beyond bytes taken None n few count known = no_none bytes known
not_beyond bytes taken (Some rest) n few count known =
    let parts : length bytes ≡ length (taken ++ rest) = ap length (same_Some bytes (taken ++ rest) known) in
    omega (arith, few, count, parts, length-append taken rest)

-- bytes don't call for it, and a failing sink has another status
pub reply_no_read : (own status : Status) → IsOfBytes own → (status ≡ own) ⊎ (status ≡ WriteFault) → status ≢ ReadFault
reply_no_read own status of (inl e) h = subst IsOfBytes (sym e ∙ h) of
reply_no_read own status of (inr e) h = apart (sym e ∙ h)
  where
    apart : ◌≡◌ {A = Status} WriteFault ReadFault → ⊥
    apart f = cc

end_counts : (A : Type 0) (e : InputEnd) (old new : ℕ) → CountsFault {A = A} (Err e) old new → (end_reply e).status ≡ ReadFault → Rose old new
end_counts A end.Fault old new h f = h
end_counts A end.TooLong old new h f = absurd (apart f)
  where
    apart : ◌≡◌ {A = Status} TooLong ReadFault → ⊥
    apart x = cc
end_counts A end.Memory old new h f = absurd (apart f)
  where
    apart : ◌≡◌ {A = Status} Memory ReadFault → ⊥
    apart x = cc

pub end_no_read : (A : Type 0) (e : InputEnd) (old new : ℕ) (status : Status) → CountsFault {A = A} (Err e) old new → ¬ Rose old new → (status ≡ (end_reply e).status) ⊎ (status ≡ WriteFault) → status ≢ ReadFault
end_no_read A e old new status h none (inl f) k = none (end_counts A e old new h (sym f ∙ k))
end_no_read A e old new status h none (inr f) k = apart (sym f ∙ k)
  where
    apart : ◌≡◌ {A = Status} WriteFault ReadFault → ⊥
    apart x = cc

module _ (limit : ℕ) (search : SearchOf) (bytes : List ℕ) (few : length bytes ≤ limit) (none : IsUnreported search bytes) where
  due_done : (after : Option (List ℕ)) (due : Reply) → IsDueFrom (IsReplyOfSearch search) (Some limit) (Some bytes) after due → (due.status ≡ ReadFault) ⊎ ((due.status ≡ Memory) ⊎ (due.status ≡ Done))
  due_done after due (inl e) = inl (ap (λ (r : Reply). r.status) e)
  due_done after due (inr (inl e)) = inr (inl (ap (λ (r : Reply). r.status) e))
  due_done after due (inr (inr (inl (e, takes)))) = absurd (not_beyond bytes takes.0 after limit few takes.1 takes.2)
  due_done after due (inr (inr (inr (read, within, was, own)))) =
      inr (inr (answered search bytes due none (subst (λ b. IsReplyOfSearch search b due) was.0 own)))

search_done : (limit : ℕ) (search : SearchOf) (before after : Option (List ℕ)) (due : Reply) → IsUnhaltedSearch (Some limit) search before → IsDueFrom (IsReplyOfSearch search) (Some limit) before after due
    → (due.status ≡ ReadFault) ⊎ ((due.status ≡ Memory) ⊎ (due.status ≡ Done))
search_done limit search before after due (bytes, known, few, none) own = due_done limit search bytes few none after due (subst (λ x. IsDueFrom (IsReplyOfSearch search) (Some limit) x after due) known own)

command_done : (c : Command) (before after : Option (List ℕ)) (due : Reply) → IsUnhalted c before → IsDueTo c before after due → (due.status ≡ ReadFault) ⊎ ((due.status ≡ Memory) ⊎ (due.status ≡ Done))
command_done Check before after due unhalted own = absurd unhalted
command_done (Search named) before after due unhalted own = search_done _ (search_by named) before after due unhalted own
command_done AnalyseInBrief before after due unhalted own = search_done _ search_in_brief before after due unhalted own
command_done (AnalyseWithin n) before after due unhalted own = search_done _ (search_within n) before after due unhalted own
command_done (Generate n) before after due unhalted (inl e) = inr (inl (ap (λ (r : Reply). r.status) e))
command_done (Generate n) before after due unhalted (inr e) = inr (inr (ap (λ (r : Reply). r.status) e))
command_done (Survey n) before after due unhalted (inl e) = inr (inl (ap (λ (r : Reply). r.status) e))
command_done (Survey n) before after due unhalted (inr (inl (done, says))) = inr (inr done)
command_done (Survey n) before after due unhalted (inr (inr (report, honest, e))) = absurd (unhalted report honest)

pub ends : (words : List (List ℕ)) (before after old new : Option (List ℕ)) (due : Reply) (status : Status) → IsDue words before after due → IsDelivered due status old new
    → status ≢ ReadFault → status ≢ WriteFault → (c : Command) → AreWordsOfCommand words c → IsUnhalted c before → (status ≡ Done) ⊎ (status ≡ Memory)
ends words before after old new due status is_due (inr written) no_read no_write c calls unhalted = absurd (no_write written.0)
ends words before after old new due status (inl unknown) (inl written) no_read no_write c calls unhalted = absurd (unknown.0 (c, calls))
ends words before after old new due status (inr (d, known, own)) (inl written) no_read no_write c calls unhalted =
    by (command_done c before after due unhalted (subst (λ d. IsDueTo d before after due) (one_command words d c known calls) own))
  where
    by : (due.status ≡ ReadFault) ⊎ ((due.status ≡ Memory) ⊎ (due.status ≡ Done)) → (status ≡ Done) ⊎ (status ≡ Memory)
    by (inl e) = absurd (no_read (written.0 ∙ e))
    by (inr (inl e)) = inr (written.0 ∙ e)
    by (inr (inr e)) = inl (written.0 ∙ e)
