-- What the digits of a number are read as.
--     number_at, denominator_at, power_at      as an atom, as a denominator, and as a power, which has a limit
use Rattle.std.specs.Prelude.{ℕ, nat_lt, nat_eq, ℤ, pos}
use Rattle.std.specs.declared.result.Result.{Result}
use Rattle.std.specs.declared.result.Result.TheVariants.{Ok}
use Rattle.ore_expr.specs.declared.fault.TextFault.{TextFault}
use Rattle.ore_expr.specs.declared.fault.TextFault.TheVariants as fault
use Rattle.ore_expr.specs.Faults.{greatest_number}
use Rattle.ore_expr.specs.Parsing.{fault_where}

-- a fault at the place, where the number is above 2^127 - 1
abbrev pub number_at : ℕ → ℕ → Result ℤ TextFault
number_at place n = fault_where (nat_lt greatest_number n) (fault.NumberTooWide place) (Ok (pos n))

-- a fault at the place, where the number is 0, else as for an atom
abbrev pub denominator_at : ℕ → ℕ → Result ℤ TextFault
denominator_at place n = fault_where (nat_eq n 0) (fault.ZeroDenominator place) (number_at place n)

-- a fault at the place, where the number is above the limit
abbrev pub power_at : ℕ → ℕ → ℕ → Result ℕ TextFault
power_at limit place n = fault_where (nat_lt limit n) (fault.PowerTooLarge place) (Ok n)
