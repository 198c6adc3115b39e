-- The parts of a basis, and of a stored one without the orders of its operators.
--     long_at                        the row at a place is as long as all rows are
--     leads_monics, rows_monics, cofactors_monics     the parts of the basis rows
--     row_value, cofactor_value      the row, and the cofactor row, that is read at a place
--     row_belongs, cofactor_belongs  they belong to the signature
--     lead_of_signature              the monomial of the lead of a row of a signature is of it
use Rattle.std.proofs.Common.{◌≡◌, ℕ, ◌<◌, List, [], ◌∷◌, length, map, get_or, refl, sym, ap, ◌∙◌, subst}
use Rattle.std.specs.List.{All, slice_get}
use Rattle.std.specs.declared.option.Option.TheVariants.{Some}
use Rattle.std.proofs.lemmas.List.{get_or-map, length-map}
use Rattle.std.proofs.lemmas.List.Elements.{All-map}
use Rattle.std.proofs.lemmas.Option.{slice_get_within, get_or_from_slice_get}
use Rattle.ore_algebra.specs.Domain.{Domain}
use Rattle.ore_algebra.specs.Free.{empty_sum, coefficient}
use Rattle.ore_rational.specs.Fraction.{Fraction}
use Rattle.ore_rational.specs.Field.{rationals}
use Rattle.ore_monomial.specs.Monomial.{plain_cmp}
use Rattle.ore_monomial.specs.Signature.{Signature, MonomialOf}
use Rattle.ore_monomial.specs.Term.{Term}
use Rattle.ore_ring.specs.Belongs.{Belongs}
use Rattle.ore_ring.specs.Ordered.{Ordered}
use Rattle.ore_rows.specs.Reduction.{BasisRow, origin, basis_rows, cofactors_of, leads_of, row_at}
use Rattle.ore_rows.specs.RowLead.{IsRowLead}
use Rattle.ore_rows.specs.Rows.{Row}
use Rattle.ore_rows.specs.Stored.{sums_of}
use Rattle.ore_rows.specs.StoredBasis.{StoredBasis, BasisBelongs, monic_of, monics}
use Rattle.ore_rows.proofs.Dots.{all_at}
use Rattle.ore_rows.proofs.LeadAppend.{within_row}

pub long_at : (K : Domain) (basis : List (BasisRow (Row K))) (n : ℕ) → All (λ b. length b.row ≡ n) basis → (i : ℕ) → i < length basis → length (row_at (basis_rows basis) i) ≡ n
long_at K basis n long i h = ap length (get_or-map (λ b. b.row) basis i blank [] h) ∙ long i blank h
  where
    blank : BasisRow (Row K)
    blank = record { row = []; cofactor = []; lead = origin }

pub leads_monics : (items : List (BasisRow (List Ordered))) → leads_of (map monic_of items) ≡ leads_of items
leads_monics [] = refl
leads_monics (b ∷ items) = λ i. b.lead ∷ leads_monics items i

pub rows_monics : (items : List (BasisRow (List Ordered))) → basis_rows (map monic_of items) ≡ map sums_of (basis_rows items)
rows_monics [] = refl
rows_monics (b ∷ items) = λ i. sums_of b.row ∷ rows_monics items i

pub cofactors_monics : (items : List (BasisRow (List Ordered))) → cofactors_of (map monic_of items) ≡ map sums_of (cofactors_of items)
cofactors_monics [] = refl
cofactors_monics (b ∷ items) = λ i. sums_of b.cofactor ∷ cofactors_monics items i

value_at : (rows : List (List Ordered)) (k : ℕ) (r : List Ordered) → slice_get rows k ≡ Some r → get_or (map sums_of rows) k [] ≡ sums_of r
value_at rows k r e = get_or-map sums_of rows k r [] (slice_get_within rows k r e) ∙ ap sums_of (get_or_from_slice_get rows k r r e)

pub row_value : (b : StoredBasis) (k : ℕ) (r : List Ordered) → slice_get (basis_rows b.items) k ≡ Some r → row_at (basis_rows (monics b)) k ≡ sums_of r
row_value b k r e = ap (λ rs. get_or rs k []) (rows_monics b.items) ∙ value_at (basis_rows b.items) k r e

pub cofactor_value : (b : StoredBasis) (k : ℕ) (r : List Ordered) → slice_get (cofactors_of b.items) k ≡ Some r → row_at (cofactors_of (monics b)) k ≡ sums_of r
cofactor_value b k r e = ap (λ rs. get_or rs k []) (cofactors_monics b.items) ∙ value_at (cofactors_of b.items) k r e

pub row_belongs : (s : Signature) (b : StoredBasis) (k : ℕ) (r : List Ordered) → BasisBelongs s b.items → slice_get (basis_rows b.items) k ≡ Some r → All (Belongs s) r
row_belongs s b k r h e = all_at (All (Belongs s)) (basis_rows b.items) k r e (All-map (All (Belongs s)) (λ (m : BasisRow (List Ordered)). m.row) b.items (λ j d l. (h j d l).0))

pub cofactor_belongs : (s : Signature) (b : StoredBasis) (k : ℕ) (r : List Ordered) → BasisBelongs s b.items → slice_get (cofactors_of b.items) k ≡ Some r → All (Belongs s) r
cofactor_belongs s b k r h e = all_at (All (Belongs s)) (cofactors_of b.items) k r e (All-map (All (Belongs s)) (λ (m : BasisRow (List Ordered)). m.cofactor) b.items (λ j d l. (h j d l).1))

pub lead_of_signature : (s : Signature) (r : List Ordered) (t : Term) (k : Fraction) → All (Belongs s) r → IsRowLead rationals s.order (sums_of r) t k → MonomialOf s t.monomial
lead_of_signature s r t k h a = (h t.column blank inside).variables t.monomial (λ e. a.apart (sym a.stands ∙ ap (λ f. coefficient rationals plain_cmp f t.monomial) (get_or-map (λ (w : Ordered). w.sum) r t.column blank (empty_sum rationals plain_cmp) inside) ∙ e))
  where
    blank : Ordered
    blank = record { by = s.order; sum = empty_sum rationals plain_cmp }

    inside : t.column < length r
    inside = subst (λ n. t.column < n) (length-map r (λ (w : Ordered). w.sum)) (within_row rationals (sums_of r) t (λ e. a.apart (sym a.stands ∙ e)))
