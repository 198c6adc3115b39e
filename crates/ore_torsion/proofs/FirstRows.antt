-- The loop that looks for the first row with a first entry that isn't zero, beside its definition.
--     first_found      the row at place k has one
--     first_passed     it has none
--     first_none       no row is left
use Rattle.std.proofs.Common.{◌≡◌, ◌≢◌, ℕ, ◌+◌, ◌≤◌, cond, true, false, List, [], ◌∷◌, length, map, drop, refl, sym, ap, ◌∙◌, subst}
use Rattle.std.specs.List.{slice_get}
use Rattle.std.specs.declared.option.Option.TheVariants.{Some}
use Rattle.std.proofs.lemmas.List.{drop-map, at_drop_all}
use Rattle.ore_algebra.specs.Free.{empty_sum}
use Rattle.ore_rational.specs.Field.{rationals}
use Rattle.ore_monomial.specs.LetterRule.{Operator}
use Rattle.ore_monomial.specs.Monomial.{plain_cmp}
use Rattle.ore_ring.specs.Ordered.{Ordered}
use Rattle.ore_rows.specs.Rows.{Row, zero_row}
use Rattle.ore_rows.specs.Stored.{sums_of}
use Rattle.ore_blocks.specs.Same.{operator_discrete}
use Rattle.ore_blocks.proofs.ReadItems.{drop_mapped}
use Rattle.ore_check.specs.Plans.{first_nonzero}
use Rattle.ore_torsion.specs.FirstEntries.{HasFirst, part_of}

abbrev nothing : Operator rationals
nothing = empty_sum rationals plain_cmp

taken : (n : ℕ) (f : Ordered) (others : List Ordered) (rest : List (Row rationals)) → f.sum ≢ nothing → first_nonzero n (sums_of (f ∷ others) ∷ rest) ≡ (f.sum, sums_of others)
unfolding first_nonzero
taken n f others rest apart = by (operator_discrete f.sum nothing)
  where
    by : (c : Dec (f.sum ≡ nothing)) → cond (elim c [ yes e ↦ true | no d ↦ false ]) (first_nonzero n rest) (f.sum, sums_of others) ≡ (f.sum, sums_of others)
    by (yes e) = absurd (apart e)
    by (no d) = refl

passed : (n : ℕ) (row : List Ordered) (rest : List (Row rationals)) → ¬ HasFirst row → first_nonzero n (sums_of row ∷ rest) ≡ first_nonzero n rest
unfolding first_nonzero
passed n [] rest h = refl
passed n (f ∷ others) rest h = by (operator_discrete f.sum nothing)
  where
    by : (c : Dec (f.sum ≡ nothing)) → cond (elim c [ yes e ↦ true | no d ↦ false ]) (first_nonzero n rest) (f.sum, sums_of others) ≡ first_nonzero n rest
    by (yes e) = refl
    by (no d) = absurd (h d)

none_left : (n : ℕ) → first_nonzero n [] ≡ (nothing, zero_row rationals n)
unfolding first_nonzero
none_left n = refl

module _ (n : ℕ) (rows : List (List Ordered)) (k : ℕ) where
  abbrev from_there : Operator rationals × Row rationals
  from_there = first_nonzero n (drop k (map sums_of rows))

  pub first_none : length rows ≤ k → from_there ≡ (nothing, zero_row rationals n)
  first_none h = ap (first_nonzero n) (drop-map sums_of k rows ∙ at_drop_all (map sums_of) rows k h) ∙ none_left n

  module _ (row : List Ordered) (at : slice_get rows k ≡ Some row) where
    abbrev rest : List (Row rationals)
    rest = drop (k + 1) (map sums_of rows)

    there : from_there ≡ first_nonzero n (sums_of row ∷ rest)
    there = ap (first_nonzero n) (drop_mapped sums_of rows k row at)

    pub first_found : HasFirst row → (p : Ordered × List Ordered) → p.0 ∷ p.1 ≡ row → part_of p ≡ from_there
    first_found h p same = sym (there ∙ ap (λ r. first_nonzero n (sums_of r ∷ rest)) (sym same) ∙ taken n p.0 p.1 rest (subst HasFirst (sym same) h))

    pub first_passed : ¬ HasFirst row → first_nonzero n rest ≡ from_there
    first_passed h = sym (there ∙ passed n row rest h)
