-- The numbers that the code that reads an expression keeps.
--     number_due        the number that a slash or a power may follow, else 0
use Rattle.std.specs.Prelude.{ℤ, pos}
use Rattle.ore_expr.specs.declared.parser.Due.{Due}
use Rattle.ore_expr.specs.declared.parser.Due.TheVariants.{AfterNumber, Denominator}

-- the number that was read last, where it may still get a denominator or a power, or waits for its denominator
abbrev pub number_due : Due → ℤ
number_due (AfterNumber n) = n
number_due (Denominator n) = n
number_due due = pos 0
