-- The text of a certificate of any kind.
--     choice_text, run_text     a choice of a run; a run with its choices
--     plan_words, stop_words     what was computed; where it stopped
--     report_rest            a report, but for the line of its cause
--     generators_name        the name of the generators of a kernel
--     kind_text              the line of the kind, which is the second of a certificate
--     link_text              a matrix with its block
--     operator_line          a word and an operator
--     rest_text              what stands between the line of the kind and the last line
--     certificate_text       the whole text
--     brief_text             the kind of the certificate and what is claimed, without what shows it
--     IsLength               how many links there may be (EachKind)
--     IsWrittenChoice, IsWrittenRun, IsWrittenStop, IsWrittenPlan, IsWrittenCause, IsWrittenReport, IsWrittenOperator
--                            numbers are in their ranges, and operators are of the signature
--     certificate_written, IsWrittenLink, IsWrittenLinks, IsWrittenCertificate     so it is with each part
--     IsCertificate          the text of some certificate
use Rattle.std.specs.Prelude.{◌≡◌, ℕ, ◌<◌, ◌≤◌, List, [], ◌∷◌, ◌++◌, length, codes, decimal}
use Rattle.std.specs.List.{All, flat_map}
use Rattle.ore_monomial.specs.declared.order.Order.{Order}
use Rattle.ore_monomial.specs.Signature.{Signature}
use Rattle.ore_ring.specs.Belongs.{Belongs}
use Rattle.ore_ring.specs.Ordered.{Ordered}
use Rattle.ore_text.specs.CanonicalText.{operator_text}
use Rattle.ore_text.specs.Printable.{IsPrintable}
use Rattle.ore_rows.specs.declared.choices.Choice.{Choice}
use Rattle.ore_rows.specs.declared.choices.Choice.TheVariants as choice
use Rattle.ore_parts.specs.CertificateText.{number_bound}
use Rattle.ore_parts.specs.BlockText as parts
use Rattle.ore_text.specs.Lines.{line}
use Rattle.ore_parts.specs.BlockText.{place, matrix_part, row_part, exact_text, outside_text, is_place}
use Rattle.ore_parts.specs.EachPart.{LinkMeets}
use Rattle.ore_parts.specs.declared.block.Link.{Link}
use Rattle.ore_cert.specs.declared.certificate.Side.{Side}
use Rattle.ore_cert.specs.declared.certificate.Side.TheVariants.{Left, Right}
use Rattle.ore_cert.specs.declared.certificate.Certificate.{Certificate}
use Rattle.ore_cert.specs.declared.certificate.Certificate.TheVariants.{Controllable, AutonomousElement, LeftInverse, RightInverse, NoLeftInverse, NoRightInverse, Kernel, Resolution, ExtZero, ExtNonzero, Halted}
use Rattle.ore_cert.specs.KindWords.{kind_words, kind_of}
use Rattle.ore_cert.specs.EachKind.{Conditions, LinksMeet, CertificateMeets}
pub use Rattle.ore_cert.specs.EachKind.{IsLength}
use Rattle.ore_cert.specs.declared.report.Cause.{Cause}
use Rattle.ore_cert.specs.declared.report.Cause.TheVariants as cause
use Rattle.ore_cert.specs.declared.report.Plan.{Plan}
use Rattle.ore_cert.specs.declared.report.Plan.TheVariants.{Analyse, KernelLeft, KernelRight, InverseLeft, InverseRight, Resolve, Ext, Adjoint}
use Rattle.ore_cert.specs.declared.report.Report.{Report}
use Rattle.ore_cert.specs.declared.report.Stop.{Stop}
use Rattle.ore_cert.specs.declared.report.Stop.TheVariants as stop

-- ---- reports

-- `treat` and the two places of the pair, or `skip`, these and the place of the third row
abbrev pub choice_text : Choice → List ℕ
choice_text (choice.Treat i j) = line (codes "treat" ∷ place i ∷ place j ∷ [])
choice_text (choice.Skip i j via) = line (codes "skip" ∷ place i ∷ place j ∷ place via ∷ [])

-- `run` and the number of choices on one line, and then each choice
abbrev pub run_text : List Choice → List ℕ
run_text choices = line (codes "run" ∷ decimal (length choices) ∷ []) ++ flat_map choice_text choices

-- `resolve` has the number of links behind, and `ext` that of the extension module
abbrev pub plan_words : Plan → List (List ℕ)
plan_words Analyse = codes "analyse" ∷ []
plan_words KernelLeft = codes "kernel" ∷ codes "left" ∷ []
plan_words KernelRight = codes "kernel" ∷ codes "right" ∷ []
plan_words InverseLeft = codes "inverse" ∷ codes "left" ∷ []
plan_words InverseRight = codes "inverse" ∷ codes "right" ∷ []
plan_words (Resolve k) = codes "resolve" ∷ decimal k ∷ []
plan_words (Ext k) = codes "ext" ∷ decimal k ∷ []
plan_words Adjoint = codes "adjoint" ∷ []

-- in what follows from the choices, in treating the pair of two rows, or where the next pair would have been chosen
abbrev pub stop_words : Stop → List (List ℕ)
stop_words stop.Forced = codes "forced" ∷ []
stop_words (stop.Treat i j) = codes "treat" ∷ place i ∷ place j ∷ []
stop_words stop.Budget = codes "budget" ∷ []

-- the plan on a line, the runs, and the line that says where it stopped
abbrev pub report_rest : Report → List ℕ
report_rest r = line (codes "plan" ∷ plan_words r.plan) ++ (flat_map run_text r.runs ++ line (codes "stop" ∷ stop_words r.stop))

-- ---- kinds

-- L, whose rows generate, or Q, whose columns do
abbrev pub generators_name : Side → List ℕ
generators_name Left = codes "L"
generators_name Right = codes "Q"

-- the line of the kind of a certificate
abbrev pub kind_text : Certificate → List ℕ
kind_text c = kind_words (kind_of c) ++ 10 ∷ []

module _ (names : List (List ℕ)) (o : Order) where
  -- the matrix `L`, and then its exact block
  abbrev pub link_text : Link → List ℕ
  link_text k = matrix_part names o (codes "L") k.l ++ exact_text names o k.block

  -- the word and the canonical text of the operator on one line
  abbrev pub operator_line : List ℕ → Ordered → List ℕ
  operator_line word f = line (word ∷ operator_text names o f.sum ∷ [])

  -- the parts that the kind has, in their order
  abbrev pub rest_text : Certificate → List ℕ
  rest_text (Controllable q block) = matrix_part names o (codes "Q") q ++ exact_text names o block
  rest_text (AutonomousElement element operator cofactor block) = row_part names o (codes "element") element ++ (operator_line (codes "operator") operator ++ (row_part names o (codes "cofactor") cofactor ++ outside_text names o block))
  rest_text (LeftInverse m) = matrix_part names o (codes "S") m
  rest_text (RightInverse m) = matrix_part names o (codes "S") m
  rest_text (NoLeftInverse unit block) = line (codes "unit" ∷ place unit ∷ []) ++ outside_text names o block
  rest_text (NoRightInverse unit block) = line (codes "unit" ∷ place unit ∷ []) ++ outside_text names o block
  rest_text (Kernel side generators block) = matrix_part names o (generators_name side) generators ++ exact_text names o block
  rest_text (Resolution links) = flat_map link_text links
  rest_text (ExtZero links block) = flat_map link_text links ++ exact_text names o block
  rest_text (ExtNonzero links element block) = flat_map link_text links ++ (row_part names o (codes "element") element ++ outside_text names o block)
  rest_text (Halted r) = report_rest r

  -- the line `certificate 1`, the line of the kind, its parts, and the line `end`
  abbrev pub certificate_text : Certificate → List ℕ
  certificate_text c = codes "certificate 1\n" ++ (kind_text c ++ (rest_text c ++ codes "end\n"))

  -- of the verdicts, the kind with Q, or with the element and the operator; of another kind, the whole text
  abbrev pub brief_text : Certificate → List ℕ
  brief_text (Controllable q block) = kind_text (Controllable q block) ++ matrix_part names o (codes "Q") q
  brief_text (AutonomousElement element operator cofactor block) = kind_text (AutonomousElement element operator cofactor block) ++ (row_part names o (codes "element") element ++ operator_line (codes "operator") operator)
  brief_text c = certificate_text c

-- ---- what may be written

-- each place may be written
abbrev pub IsWrittenChoice : Choice → Type 0
IsWrittenChoice (choice.Treat i j) = is_place i × is_place j
IsWrittenChoice (choice.Skip i j via) = is_place i × is_place j × is_place via

-- fewer than 2^63 choices, each of which may be written
pub record IsWrittenRun (choices : List Choice) : Type 0 where
  pub few : length choices < number_bound
  pub all : All IsWrittenChoice choices

-- a budget is at most 1,000,000
abbrev pub IsWrittenCause : Cause → Type 0
IsWrittenCause cause.Overflow = Unit {0}
IsWrittenCause cause.Degree = Unit {0}
IsWrittenCause (cause.Budget n) = n ≤ 1000000

-- the number of a resolution or of an extension module is from 1 to 12
abbrev pub IsWrittenPlan : Plan → Type 0
IsWrittenPlan (Resolve k) = IsLength k
IsWrittenPlan (Ext k) = IsLength k
IsWrittenPlan plan = Unit {0}

-- the places of a pair may be written
abbrev pub IsWrittenStop : Stop → Type 0
IsWrittenStop stop.Forced = Unit {0}
IsWrittenStop (stop.Treat i j) = is_place i × is_place j
IsWrittenStop stop.Budget = Unit {0}

-- each part of a report may be written
pub record IsWrittenReport (r : Report) : Type 0 where
  pub cause : IsWrittenCause r.cause
  pub plan : IsWrittenPlan r.plan
  pub runs : All IsWrittenRun r.runs
  pub stop : IsWrittenStop r.stop

module _ (s : Signature) (names : List (List ℕ)) where
  -- an operator of the signature, with its order, whose numbers and degrees are in the program's ranges
  pub record IsWrittenOperator (f : Ordered) : Type 0 where
    pub written : IsPrintable s names f.sum
    pub of : Belongs s f

  -- the part may be written
  abbrev pub certificate_written : Conditions
  certificate_written = record { parts = parts.written s names; operator = IsWrittenOperator; unit = is_place; report = IsWrittenReport }

  -- a matrix with its block may be written
  abbrev pub IsWrittenLink : Link → Type 0
  IsWrittenLink = LinkMeets certificate_written.parts

  -- from 1 to 12 links, each of which may be written
  abbrev pub IsWrittenLinks : List Link → Type 0
  IsWrittenLinks = LinksMeet certificate_written

  -- each part of a certificate may be written
  abbrev pub IsWrittenCertificate : Certificate → Type 0
  IsWrittenCertificate = CertificateMeets certificate_written

  -- a certificate that may be written has this text
  abbrev pub IsCertificate : List ℕ → Type 0
  IsCertificate text = (c : Certificate) × IsWrittenCertificate c × (text ≡ certificate_text names s.order c)
