-- The commands, and their words.
--     search_words     the words that call the search by a plan
--     budget_words     the words that call `analyse` with a budget
--     number_words     a word and a number
--     words_of         the words that call a command
--     IsCommandInRange  the number of a command is in its range
--     AreWordsOfCommand  words call a command
--     IsKnown          the words of a command
--     Names            the value whose words these are, or none where there is no such value
--     input_limit      the greatest number of bytes that a command reads, where it reads at all
--     IsReader         the words of a command that reads
use Rattle.std.specs.Prelude.{◌≡◌, ℕ, ◌≤◌, List, [], ◌∷◌, codes, decimal, IsSome, MatchOption}
use Rattle.std.specs.declared.option.Option.{Option}
use Rattle.std.specs.declared.option.Option.TheVariants.{None, Some}
use Rattle.ore_cert.specs.WholeText.{IsWrittenPlan}
use Rattle.ore_cert.specs.declared.report.Plan.{Plan}
use Rattle.ore_cert.specs.declared.report.Plan.TheVariants as plan
use Rattle.ore_commands.specs.declared.command.Command.{Command}
use Rattle.ore_commands.specs.declared.command.Command.TheVariants.{Check, Search, AnalyseInBrief, AnalyseWithin, Generate, Survey}
use Rattle.ore_commands.specs.Finding.{greatest_budget}
use Rattle.ore_commands.specs.Generating.{greatest_problem_number}

-- a right kernel parametrises what the matrix describes
abbrev pub search_words : Plan → List (List ℕ)
search_words plan.Analyse = codes "analyse" ∷ []
search_words plan.KernelLeft = codes "kernel" ∷ []
search_words plan.KernelRight = codes "parametrise" ∷ []
search_words plan.InverseLeft = codes "inverse" ∷ codes "left" ∷ []
search_words plan.InverseRight = codes "inverse" ∷ codes "right" ∷ []
search_words (plan.Resolve k) = codes "resolve" ∷ decimal k ∷ []
search_words (plan.Ext k) = codes "ext" ∷ decimal k ∷ []
search_words plan.Adjoint = codes "adjoint" ∷ []

-- the budget in decimal digits
abbrev pub budget_words : ℕ → List (List ℕ)
budget_words budget = codes "analyse" ∷ codes "--budget" ∷ decimal budget ∷ []

-- the number in decimal digits
abbrev pub number_words : List ℕ → ℕ → List (List ℕ)
number_words word n = word ∷ decimal n ∷ []

-- compared byte for byte
abbrev pub words_of : Command → List (List ℕ)
words_of Check = codes "check" ∷ []
words_of (Search plan) = search_words plan
words_of AnalyseInBrief = codes "analyse" ∷ codes "--brief" ∷ []
words_of (AnalyseWithin budget) = budget_words budget
words_of (Generate n) = number_words (codes "generate") n
words_of (Survey n) = number_words (codes "survey") n

-- so many links as there may be, a budget and a number that aren't too great
abbrev pub IsCommandInRange : Command → Type 0
IsCommandInRange Check = Unit {0}
IsCommandInRange (Search plan) = IsWrittenPlan plan
IsCommandInRange AnalyseInBrief = Unit {0}
IsCommandInRange (AnalyseWithin budget) = budget ≤ greatest_budget
IsCommandInRange (Generate n) = n ≤ greatest_problem_number
IsCommandInRange (Survey n) = n ≤ greatest_problem_number

-- they are the words of the command, whose number is in its range
abbrev pub AreWordsOfCommand : List (List ℕ) → Command → Type 0
AreWordsOfCommand words c = IsCommandInRange c × (words ≡ words_of c)

-- they call some command
abbrev pub IsKnown : List (List ℕ) → Type 0
IsKnown words = (c : Command) × AreWordsOfCommand words c

-- one that may be named so
abbrev pub Names : {X : Type 0} → (X → List (List ℕ)) → (X → Type 0) → List (List ℕ) → Option X → Type 0
Names {X} called may words result = MatchOption result ((x : X) → may x → ¬ (words ≡ called x)) (λ x. may x × (words ≡ called x))

-- 32 MiB for `check`, which reads a certificate too, and 1 MiB for those that read a problem alone; `generate` and `survey` read nothing
abbrev pub input_limit : Command → Option ℕ
input_limit Check = Some 33554432
input_limit (Search plan) = Some 1048576
input_limit AnalyseInBrief = Some 1048576
input_limit (AnalyseWithin budget) = Some 1048576
input_limit (Generate n) = None
input_limit (Survey n) = None

-- they call one that has a limit
abbrev pub IsReader : List (List ℕ) → Type 0
IsReader words = (c : Command) × AreWordsOfCommand words c × IsSome (input_limit c)
