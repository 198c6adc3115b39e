-- Signatures in which nothing shifts.
--     is_shift         whether a kind is a shift or a delay
--     HasNoShift       no variable is one
use Rattle.std.specs.Prelude.{◌≡◌, ℕ, Bool, true, false}
use Rattle.ore_monomial.specs.declared.signature.VarKind.{VarKind}
use Rattle.ore_monomial.specs.declared.signature.VarKind.TheVariants.{Shift, Delay}
use Rattle.ore_monomial.specs.Signature.{Signature, kind_at}

-- a shift or a delay
abbrev pub is_shift : VarKind → Bool
is_shift (Shift on step) = true
is_shift (Delay on step) = true
is_shift kind = false

-- no variable is a shift or a delay
abbrev pub HasNoShift : Signature → Type 0
HasNoShift s = (x : ℕ) → is_shift (kind_at s x) ≡ false
