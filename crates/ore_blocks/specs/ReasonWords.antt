-- The words of reasons, as a reply names them.
--     reason_word     the word of a condition that fails
use Rattle.std.specs.Prelude.{ℕ, List, codes}
use Rattle.ore_blocks.specs.declared.reason.Reason.{Reason}
use Rattle.ore_blocks.specs.declared.reason.Reason.TheVariants as reason

-- as it stands behind the number of the line
abbrev pub reason_word : Reason → List ℕ
reason_word reason.Shape = codes "shape"
reason_word reason.ZeroOperator = codes "zero-operator"
reason_word reason.Cofactor = codes "cofactor"
reason_word reason.Identity = codes "identity"
reason_word reason.Unit = codes "unit"
reason_word reason.NotInKernel = codes "not-in-kernel"
reason_word reason.NotMonic = codes "not-monic"
reason_word reason.FromRow = codes "from"
reason_word reason.ToRow = codes "to"
reason_word reason.Pairs = codes "pairs"
reason_word reason.Pair = codes "pair"
reason_word reason.Remainder = codes "remainder"
reason_word reason.Step = codes "step"
reason_word reason.StepTooHigh = codes "step-too-high"
reason_word reason.Skip = codes "skip"
reason_word reason.Inside = codes "inside"
reason_word reason.Rest = codes "rest"
reason_word reason.Reducible = codes "reducible"
reason_word reason.Run = codes "run"
reason_word reason.Treat = codes "treat"
reason_word reason.Stop = codes "stop"
