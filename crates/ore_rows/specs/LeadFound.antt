-- What the search for the lead of a stored row finds: a column, a monomial and a fraction, or nothing.
--     greater_found      of the lead that was found in the first entries and that of the next entry the greater
--     IsLeadFound        nothing is found and each entry is zero, or what is found is the lead
use Rattle.std.specs.Prelude.{ℕ, List, cond, MatchOption}
use Rattle.std.specs.Ordering.{is_gt}
use Rattle.std.specs.declared.option.Option.{Option}
use Rattle.std.specs.declared.option.Option.TheVariants.{None, Some}
use Rattle.ore_rational.specs.Fraction.{Fraction}
use Rattle.ore_rational.specs.Field.{rationals}
use Rattle.ore_monomial.specs.Monomial.{Monomial, order_cmp}
use Rattle.ore_monomial.specs.declared.order.Order.{Order}
use Rattle.ore_ring.specs.Ordered.{Ordered}
use Rattle.ore_rows.specs.RowLead.{IsRowLead}
use Rattle.ore_rows.specs.Stored.{IsZeroRow, sums_of}

-- the lead of the entry at place k where its monomial is greater than that before, or where none was found before
abbrev pub greater_found : Order → Option (ℕ × Monomial × Fraction) → ℕ → Option (Monomial × Fraction) → Option (ℕ × Monomial × Fraction)
greater_found o before k None = before
greater_found o None k (Some f) = Some (k, f.0, f.1)
greater_found o (Some t) k (Some f) = cond (is_gt (order_cmp o f.0 t.1)) (Some (k, f.0, f.1)) (Some t)

-- what is found is the lead of the row, or nothing is and the row is zero
abbrev pub IsLeadFound : Order → List Ordered → Option (ℕ × Monomial × Fraction) → Type 0
IsLeadFound o r found = MatchOption found (IsZeroRow r) (λ t. IsRowLead rationals o (sums_of r) (record { monomial = t.1; column = t.0 }) t.2)
