-- What a search by a plan finds of the matrix r of a problem.
--     certified_of, transposed_of       a certificate, or the transposed adjoint, as what is found
--     IsFoundOf                         what is found is the answer of the plan
--     IsFoundBy                         the choices given since lead the plan to what is found
--     IsHaltedBy                        they lead it to a state in which the search has to halt so
--     IsReportedBy                      the report of a halt is honest
--     IsOfPlan                          a certificate is of a kind that a plan answers
--     IsStorableFound                   what is found is in the program's ranges
--     IsCorrectFound                    a certificate that is found is right; a matrix is of the signature
use Rattle.std.specs.Prelude.{◌≡◌, ℕ, Bool, List}
use Rattle.std.specs.List.{All}
use Rattle.std.specs.declared.result.Result.{Result}
use Rattle.std.specs.declared.result.Result.TheVariants.{Ok, Err}
use Rattle.ore_course.specs.Following.{IsReported}
use Rattle.ore_monomial.specs.Signature.{Signature}
use Rattle.ore_monomial.specs.declared.stop.RingStop.{RingStop}
use Rattle.ore_ring.specs.Belongs.{AllBelong}
use Rattle.ore_rows.specs.BasisLeads.{BasisLeads}
use Rattle.ore_rows.specs.Stored.{OperatorMatrix}
use Rattle.ore_rows.specs.declared.choices.Choice.{Choice}
use Rattle.ore_pairs.specs.Reached.{rule_of}
use Rattle.ore_cert.specs.declared.certificate.Certificate.{Certificate}
use Rattle.ore_cert.specs.Storable.{IsStorableCertificate}
use Rattle.ore_cert.specs.declared.report.Plan.{Plan}
use Rattle.ore_cert.specs.declared.report.Plan.TheVariants as plan
use Rattle.ore_blocks.specs.CheckBlock.{RowMatrix, row_matrix_of}
use Rattle.ore_groebner.specs.Choosing.{Settings}
use Rattle.ore_groebner.specs.Courses.{FollowsTo, HaltsIn}
use Rattle.ore_groebner.specs.Courses.{halt_in_course as course_halt}
use Rattle.ore_groebner.specs.Halting.{halt_of}
use Rattle.ore_groebner.specs.declared.outcome.Halt.{Halt}
use Rattle.ore_groebner.specs.declared.outcome.StopAt.TheVariants.{Forced}
use Rattle.ore_check.specs.PlanLaws.{IsCorrect}
use Rattle.ore_check.specs.Plans.{AnswerOf}
use Rattle.ore_check.specs.Reports.{program_runner, plan_course}
use Rattle.ore_inverse.specs.Inverses.{IsOfLeftInverse, IsOfRightInverse}
use Rattle.ore_torsion.specs.Verdicts.{IsVerdict}
use Rattle.ore_resolution.specs.Stored.{IsResolutionOf, IsExtensionOf}
use Rattle.ore_commands.specs.declared.found.Found.{Found}
use Rattle.ore_commands.specs.declared.found.Found.TheVariants.{Certified, Transposed}

-- or why there is none
abbrev pub certified_of : Result Certificate Halt → Result Found Halt
certified_of (Ok c) = Ok (Certified c)
certified_of (Err halt) = Err halt

-- forming it is forced work
abbrev pub transposed_of : Result OperatorMatrix RingStop → Result Found Halt
transposed_of (Ok m) = Ok (Transposed m)
transposed_of (Err stop) = Err (halt_of stop Forced)

-- a certificate, or the transposed adjoint
abbrev pub IsFoundOf : (plan : Plan) → AnswerOf plan → Found → Type 0
IsFoundOf plan.Analyse x (Certified c) = x ≡ c
IsFoundOf plan.KernelLeft x (Certified c) = x ≡ c
IsFoundOf plan.KernelRight x (Certified c) = x ≡ c
IsFoundOf plan.InverseLeft x (Certified c) = x ≡ c
IsFoundOf plan.InverseRight x (Certified c) = x ≡ c
IsFoundOf (plan.Resolve k) x (Certified c) = x ≡ c
IsFoundOf (plan.Ext k) x (Certified c) = x ≡ c
IsFoundOf plan.Adjoint x (Certified c) = ⊥
IsFoundOf plan.Analyse x (Transposed m) = ⊥
IsFoundOf plan.KernelLeft x (Transposed m) = ⊥
IsFoundOf plan.KernelRight x (Transposed m) = ⊥
IsFoundOf plan.InverseLeft x (Transposed m) = ⊥
IsFoundOf plan.InverseRight x (Transposed m) = ⊥
IsFoundOf (plan.Resolve k) x (Transposed m) = ⊥
IsFoundOf (plan.Ext k) x (Transposed m) = ⊥
IsFoundOf plan.Adjoint x (Transposed m) = x ≡ row_matrix_of m

-- of plan analyse, one of the two verdicts; of an inverse, it or that there is none; of a resolution, one with so many links;
-- of an extension module, that it is zero or isn't, behind so many links
abbrev pub IsOfPlan : Plan → Certificate → Type 0
IsOfPlan plan.Analyse c = IsVerdict c
IsOfPlan plan.InverseLeft c = IsOfLeftInverse c
IsOfPlan plan.InverseRight c = IsOfRightInverse c
IsOfPlan (plan.Resolve k) c = IsResolutionOf k c
IsOfPlan (plan.Ext k) c = IsExtensionOf k c
IsOfPlan plan c = Unit {0}

-- what a certificate stores; of a matrix nothing is said
abbrev pub IsStorableFound : Found → Type 0
IsStorableFound (Certified c) = IsStorableCertificate c
IsStorableFound (Transposed m) = Unit {0}

module _ (s : Signature) (r : RowMatrix) where
  -- within the limits of the program; the rule allows each choice
  abbrev pub IsFoundBy : (BasisLeads → List (ℕ × ℕ) → Choice → Bool) → (BasisLeads → List (ℕ × ℕ) → Bool) → Plan → (before given : List (List Choice)) → Found → Type 0
  IsFoundBy allows allows_spent plan before given found = (x : AnswerOf plan) × FollowsTo s allows allows_spent (plan_course s plan r) before given x × IsFoundOf plan x found

  -- within these limits too
  abbrev pub IsHaltedBy : (BasisLeads → List (ℕ × ℕ) → Choice → Bool) → (BasisLeads → List (ℕ × ℕ) → Bool) → Plan → (before given : List (List Choice)) → Settings → Halt → Type 0
  IsHaltedBy allows allows_spent plan before given settings halt = HaltsIn s allows allows_spent (plan_course s plan r) before given settings halt

  -- by the rule and within the budget, where an operation stopped or the budget is spent
  abbrev pub IsReportedBy : (BasisLeads → List (ℕ × ℕ) → Choice → Bool) → (BasisLeads → List (ℕ × ℕ) → Bool) → Plan → List (List Choice) → ℕ → Halt → Type 0
  IsReportedBy allows allows_spent plan given budget halt = IsReported (program_runner s) (rule_of s allows allows_spent) (plan_course s plan r) given budget (course_halt halt)

  -- the certificate is true, the check accepts it, and it is of the plan
  abbrev pub IsCorrectFound : Plan → Found → Type 0
  IsCorrectFound plan (Certified c) = IsCorrect s r c × IsOfPlan plan c
  IsCorrectFound plan (Transposed m) = All (AllBelong s) m.rows
