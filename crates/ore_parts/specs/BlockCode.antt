-- How pairs and links are stored: as lists of numbers.
--     EntryParts, entry_parts, entry_with_parts  what was done with a pair, as tuples that have codes; and back
--     entry_again                    there and back nothing changes
--     entry_code, entries_code       what was done with a pair; the pairs of a basis
--     exact_code                     a block that shows exactness
--     link_code, links_code          a matrix with its block; some of them
use Rattle.std.specs.Prelude.{◌≡◌, ◌⊎◌, ℕ, List, refl}
use Rattle.std.proofs.Common.{inl, inr}
use Rattle.std.specs.Coded.{Coded, coded×, coded⊎, coded_list, coded_ℕ, code_by}
use Rattle.ore_rational.specs.Field.{rationals}
use Rattle.ore_rows.specs.Reduction.{Step}
use Rattle.ore_rows.specs.Stored.{OperatorMatrix, matrix_code}
use Rattle.ore_rows.specs.StoredSteps.{steps_code}
use Rattle.ore_parts.specs.declared.block.PairEntry.{PairEntry}
use Rattle.ore_parts.specs.declared.block.PairEntry.TheVariants.{Pair, Skip}
use Rattle.ore_parts.specs.declared.block.ExactBlock.{ExactBlock}
use Rattle.ore_parts.specs.declared.block.Link.{Link}

-- two places and steps, or three places
abbrev EntryParts : Type 0
EntryParts = (ℕ × (ℕ × List (Step rationals))) ⊎ (ℕ × (ℕ × ℕ))

-- a treated pair has the parts on the left, a skipped one those on the right
abbrev pub entry_parts : PairEntry → EntryParts
entry_parts (Pair i j steps) = inl (i, (j, steps))
entry_parts (Skip i j via) = inr (i, (j, via))

-- the pair that has these parts
abbrev pub entry_with_parts : EntryParts → PairEntry
entry_with_parts (inl p) = Pair p.0 p.1.0 p.1.1
entry_with_parts (inr p) = Skip p.0 p.1.0 p.1.1

-- the pair that has the parts of a pair is that pair
pub entry_again : (e : PairEntry) → entry_with_parts (entry_parts e) ≡ e
entry_again (Pair i j steps) = refl
entry_again (Skip i j via) = refl

-- a pair is stored as its parts
abbrev pub entry_code : Coded PairEntry
entry_code = code_by EntryParts (coded⊎ (coded× coded_ℕ (coded× coded_ℕ steps_code)) (coded× coded_ℕ (coded× coded_ℕ coded_ℕ))) entry_parts entry_with_parts entry_again

-- pairs are stored one after another
abbrev pub entries_code : Coded (List PairEntry)
entries_code = coded_list entry_code

-- an exact block is stored as its matrices and pairs, in the order of its text
abbrev pub exact_code : Coded ExactBlock
exact_code =
    code_by (OperatorMatrix × (OperatorMatrix × (OperatorMatrix × (List PairEntry × OperatorMatrix)))) (coded× matrix_code (coded× matrix_code (coded× matrix_code (coded× entries_code matrix_code))))
    (λ b. (b.basis, (b.from, (b.to, (b.pairs, b.inside))))) (λ p. record { basis = p.0; from = p.1.0; to = p.1.1.0; pairs = p.1.1.1.0; inside = p.1.1.1.1 }) (λ _. refl)

-- a link is stored as its matrix and its block
abbrev pub link_code : Coded Link
link_code = code_by (OperatorMatrix × ExactBlock) (coded× matrix_code exact_code) (λ k. (k.l, k.block)) (λ p. record { l = p.0; block = p.1 }) (λ _. refl)

-- links are stored one after another
abbrev pub links_code : Coded (List Link)
links_code = coded_list link_code
