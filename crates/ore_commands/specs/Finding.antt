-- The reply of a command that searches by a plan, for the matrix of a problem: the text of the answer that the plan forms,
-- or that of the report of a search that stopped. The greatest number of pairs that are treated is its budget.
--     default_budget         the budget where the words name none
--     greatest_budget        no budget is greater
--     search_by, search_in_brief, search_within     the searches that words call
--     live_rule              the rule by which choices are made
--     text_of, shown_text    the text of a certificate of a problem, and what of it is written
--     text_with_matrix       the text of the problem with another matrix
--     answer_text            the text of the answer of a plan
--     found_text             the text of what a search finds
--     IsCorrectAnswer        what the answer of a plan says of a matrix is true
--     IsStorableAnswer       the answer of a plan is in the program's ranges
--     IsFound                a plan forms an answer, and it is right
--     IsFoundReply           the reply with the text of an answer that is found
--     halt_status            the status for the cause of a stop
--     IsStoppedReply         the reply with the text of an honest report
--     IsSearchReply          the one or the other
--     SaysFound              a text is that of an answer that is found
--     IsReplyOfSearch        the reply to the bytes of an input
--     HoldsAnswer            the bytes are a problem, a text is that of an answer that is found for it, and `check` accepts it
--     IsUnreported           the bytes are a problem of which no report is honest
use Rattle.std.specs.Prelude.{◌≡◌, ◌⊎◌, ℕ, Bool, true, false, List}
use Rattle.ore_course.specs.Leading.{Rule}
use Rattle.ore_rational.specs.Field.{rationals}
use Rattle.ore_monomial.specs.Signature.{Signature}
use Rattle.ore_rows.specs.declared.choices.Choice.{Choice}
use Rattle.ore_pairs.specs.Reached.{rule_of}
use Rattle.ore_pairs.specs.Run.{RunState}
use Rattle.ore_problem.specs.Accepted.{Accepted}
use Rattle.ore_problem.specs.Problems.{System, problem_of}
use Rattle.ore_problem.specs.ProblemText.{problem_text}
use Rattle.ore_cert.specs.Storable.{IsStorableCertificate}
use Rattle.ore_cert.specs.WholeText.{certificate_text, brief_text}
use Rattle.ore_cert.specs.declared.certificate.Certificate.{Certificate}
use Rattle.ore_cert.specs.declared.certificate.Certificate.TheVariants.{Halted}
use Rattle.ore_cert.specs.declared.report.Cause.{Cause}
use Rattle.ore_cert.specs.declared.report.Cause.TheVariants as cause
use Rattle.ore_cert.specs.declared.report.Plan.{Plan}
use Rattle.ore_cert.specs.declared.report.Plan.TheVariants as plan
use Rattle.ore_cert.specs.declared.report.Report.{Report}
use Rattle.ore_blocks.specs.CheckBlock.{RowMatrix, row_matrix_of}
use Rattle.ore_check.specs.Meaning.{transposed_adjoint}
use Rattle.ore_check.specs.PlanLaws.{IsCorrect}
use Rattle.ore_check.specs.Plans.{AnswerOf}
use Rattle.ore_check.specs.Reports.{IsReportOf, HasNoReportOf, IsFormedOf}
use Rattle.ore_report.specs.ChainRule.{chain_allows, chain_allows_spent}
use Rattle.ore_reply.specs.declared.status.Status.{Status}
use Rattle.ore_reply.specs.declared.status.Status.TheVariants.{Done, Overflow, Degree, Budget}
use Rattle.ore_reply.specs.Replies.{Reply}
use Rattle.ore_reply.specs.Answered.{IsReplyToRead}
use Rattle.ore_commands.specs.AcceptedAnswers.{PassesCheck}
use Rattle.ore_commands.specs.Search.{IsOfPlan}
use Rattle.ore_commands.specs.ReplyOfCheck.{matrix_of}
use Rattle.ore_commands.specs.declared.found.Found.{Found}
use Rattle.ore_commands.specs.declared.found.Found.TheVariants.{Certified, Transposed}
use Rattle.ore_commands.specs.declared.search.Search.{Search}

-- in all runs together
abbrev pub default_budget : ℕ
default_budget = 10000

-- the program's limit
abbrev pub greatest_budget : ℕ
greatest_budget = 1000000

-- by a plan, with the budget where the words name none, and with the whole answer
abbrev pub search_by : Plan → Search
search_by plan = record { plan = plan; budget = default_budget; brief = false }

-- for a verdict, of which the claim is written
abbrev pub search_in_brief : Search
search_in_brief = record { plan = plan.Analyse; budget = default_budget; brief = true }

-- for a verdict, with this budget
abbrev pub search_within : ℕ → Search
search_within budget = record { plan = plan.Analyse; budget = budget; brief = false }

-- the pair with the least common multiple comes next, and is skipped where the chain rule lets it be
abbrev pub live_rule : Signature → Rule (RunState rationals) Choice
live_rule s = rule_of s chain_allows chain_allows_spent

-- of an operation that stopped, or of a budget that is spent
abbrev pub halt_status : Cause → Status
halt_status cause.Overflow = Overflow
halt_status cause.Degree = Degree
halt_status (cause.Budget n) = Budget

-- a certificate is true, the check accepts it, and it is of the plan; a transposed adjoint is that of the matrix, over
-- numbers of any size
abbrev pub IsCorrectAnswer : Signature → RowMatrix → (plan : Plan) → AnswerOf plan → Type 0
IsCorrectAnswer s r plan.Analyse c = IsCorrect s r c × IsOfPlan plan.Analyse c
IsCorrectAnswer s r plan.KernelLeft c = IsCorrect s r c × IsOfPlan plan.KernelLeft c
IsCorrectAnswer s r plan.KernelRight c = IsCorrect s r c × IsOfPlan plan.KernelRight c
IsCorrectAnswer s r plan.InverseLeft c = IsCorrect s r c × IsOfPlan plan.InverseLeft c
IsCorrectAnswer s r plan.InverseRight c = IsCorrect s r c × IsOfPlan plan.InverseRight c
IsCorrectAnswer s r (plan.Resolve k) c = IsCorrect s r c × IsOfPlan (plan.Resolve k) c
IsCorrectAnswer s r (plan.Ext k) c = IsCorrect s r c × IsOfPlan (plan.Ext k) c
IsCorrectAnswer s r plan.Adjoint m = m ≡ transposed_adjoint s r

-- what a certificate stores; of a transposed adjoint nothing is said
abbrev pub IsStorableAnswer : (plan : Plan) → AnswerOf plan → Type 0
IsStorableAnswer plan.Analyse c = IsStorableCertificate c
IsStorableAnswer plan.KernelLeft c = IsStorableCertificate c
IsStorableAnswer plan.KernelRight c = IsStorableCertificate c
IsStorableAnswer plan.InverseLeft c = IsStorableCertificate c
IsStorableAnswer plan.InverseRight c = IsStorableCertificate c
IsStorableAnswer (plan.Resolve k) c = IsStorableCertificate c
IsStorableAnswer (plan.Ext k) c = IsStorableCertificate c
IsStorableAnswer plan.Adjoint m = Unit {0}

module _ (p : System) where
  -- ---- texts

  -- with the names and the order of the problem
  abbrev pub text_of : Certificate → List ℕ
  text_of c = certificate_text p.names p.signature.order c

  -- whole, or of a verdict what it claims
  abbrev pub shown_text : Bool → Certificate → List ℕ
  shown_text false c = text_of c
  shown_text true c = brief_text p.names p.signature.order c

  -- with the names and the signature of the problem
  abbrev pub text_with_matrix : RowMatrix → List ℕ
  text_with_matrix m = problem_text (record { names = p.names; signature = p.signature; cols = m.cols; rows = m.rows })

  -- of a certificate, or of the problem with the transposed adjoint of its matrix
  abbrev pub answer_text : Bool → (plan : Plan) → AnswerOf plan → List ℕ
  answer_text brief plan.Analyse c = shown_text brief c
  answer_text brief plan.KernelLeft c = shown_text brief c
  answer_text brief plan.KernelRight c = shown_text brief c
  answer_text brief plan.InverseLeft c = shown_text brief c
  answer_text brief plan.InverseRight c = shown_text brief c
  answer_text brief (plan.Resolve k) c = shown_text brief c
  answer_text brief (plan.Ext k) c = shown_text brief c
  answer_text brief plan.Adjoint m = text_with_matrix m

  -- of a certificate, or of the problem with another matrix
  abbrev pub found_text : Bool → Found → List ℕ
  found_text brief (Certified c) = shown_text brief c
  found_text brief (Transposed m) = text_with_matrix (row_matrix_of m)

  -- ---- replies

  module _ (search : Search) where
    -- the plan forms it by the rule and within the budget, what it says of the matrix is true, and it is in range
    pub record IsFound (x : AnswerOf search.plan) : Type 0 where
      pub formed : IsFormedOf p.signature (live_rule p.signature) search.budget search.plan (matrix_of p) x
      pub correct : IsCorrectAnswer p.signature (matrix_of p) search.plan x
      pub storable : IsStorableAnswer search.plan x

    -- its text is written
    abbrev pub IsFoundReply : Reply → Type 0
    IsFoundReply reply = (x : AnswerOf search.plan) × IsFound x × (reply ≡ record { status = Done; text = answer_text search.brief search.plan x })

    -- the report is honest by the rule and within the budget, and has this plan; the status is that of its cause
    abbrev pub IsStoppedReply : Reply → Type 0
    IsStoppedReply reply = (report : Report) × IsReportOf p.signature (live_rule p.signature) search.budget search.plan (matrix_of p) report
        × (reply ≡ record { status = halt_status report.cause; text = text_of (Halted report) })

    -- nothing else is replied
    abbrev pub IsSearchReply : Reply → Type 0
    IsSearchReply reply = IsFoundReply reply ⊎ IsStoppedReply reply

    -- what is said is the text of an answer that is found
    abbrev pub SaysFound : List ℕ → Type 0
    SaysFound said = (x : AnswerOf search.plan) × IsFound x × (said ≡ answer_text search.brief search.plan x)

-- to a problem, or to its first faulty line
abbrev pub IsReplyOfSearch : Search → List ℕ → Reply → Type 0
IsReplyOfSearch search bytes reply = IsReplyToRead (λ p. IsSearchReply p search) (problem_of bytes) reply

-- it is found, and so true; `check` finds a whole certificate valid
abbrev pub HoldsAnswer : Search → List ℕ → List ℕ → Type 0
HoldsAnswer search said bytes = (p : System) × Accepted bytes p × SaysFound p search said × PassesCheck search.brief search.plan bytes said

-- by the rule and within the budget; so the plan comes to its answer
abbrev pub IsUnreported : Search → List ℕ → Type 0
IsUnreported search bytes = (p : System) × Accepted bytes p × HasNoReportOf p.signature (live_rule p.signature) search.budget search.plan (matrix_of p)
