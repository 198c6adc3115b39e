-- Blocks of a certificate, for matrices over any domain, with numbers and exponents of any size.
--     ExactBlock         shows that the rows which take a matrix a to zeros are the row module of l
--     OutsideBlock       shows that a row is not in the row module of a
--         basis, from, to    a monic basis; rows that times the basis are a; rows that times a are the basis
--         entries            the list of the basis's pairs
--         inside             rows that times l are what is left of a's rows by way of the basis, then the syzygies of a
--         steps, rest        a reduction of the row by the basis, and what it leaves
--     IsBasis            the conditions on basis, from and entries, which both kinds share
--     AreInside          for each treated pair in order, what its steps leave of the S-row at `to` is an inside row times l
--     IsValidExact, IsValidOutside         all conditions of a block
--     IsExactBlockOfSignature, IsOutsideBlockOfSignature  each matrix of a block, and each step, is of a signature
use Rattle.std.specs.Prelude.{◌≡◌, ℕ, ◌+◌, ◌<◌, List, [], ◌∷◌, length, drop}
use Rattle.std.specs.List.{AllByRecursion}
use Rattle.ore_algebra.specs.Domain.{Domain}
use Rattle.ore_monomial.specs.Monomial.{Divides}
use Rattle.ore_monomial.specs.Term.{Term}
use Rattle.ore_monomial.specs.declared.order.Order.{Order}
use Rattle.ore_monomial.specs.Signature.{Signature}
use Rattle.ore_rows.specs.Rows.{Row, RowOf, AreLong, zero_row, unit_row, row_minus, combine, matrix_times}
use Rattle.ore_rows.specs.RowLead.{IsRowLead}
use Rattle.ore_pairs.specs.Steps.{Step, AreStepsOf, AreLeads, row_at, lead_at, remainder_after, s_row}
use Rattle.ore_pairs.specs.PairList.{DealtPair, Pair, Skip, AreLawful, AreEntriesOf, pair_count, treated_count}

pub record ExactBlock (K : Domain) : Type 0 where
  pub basis : List (Row K)
  pub from : List (Row K)
  pub to : List (Row K)
  pub entries : List (DealtPair K)
  pub inside : List (Row K)

pub record OutsideBlock (K : Domain) : Type 0 where
  pub basis : List (Row K)
  pub from : List (Row K)
  pub entries : List (DealtPair K)
  pub steps : List (Step K)
  pub rest : Row K

-- basis rows of n entries that are monic with these leads, whose combinations are the rows of a, and all whose pairs
-- are listed, none of them twice
pub record IsBasis (K : Domain) (s : Signature) (o : Order) (n : ℕ) (a basis from : List (Row K)) (entries : List (DealtPair K)) (leads : List Term) : Type 0 where
  pub long : AreLong K n basis
  pub monic : AreLeads K o basis leads
  pub from_shape : (length from ≡ length a) × AreLong K (length basis) from
  pub from_is : matrix_times K s n from basis ≡ a
  pub lawful : AreLawful K s o n basis leads [] entries
  pub counted : length entries ≡ pair_count leads

-- the inside rows from some place on belong to the entries from some place on
abbrev pub AreInside : (K : Domain) → Signature → ℕ → List Term → List (Row K) → List (Row K) → List (DealtPair K) → List (Row K) → Type 0
AreInside K s q leads to l [] [] = Unit {0}
AreInside K s q leads to l [] (r ∷ rs) = ⊥
AreInside K s q leads to l (Skip i j via ∷ es) rs = AreInside K s q leads to l es rs
AreInside K s q leads to l (Pair i j steps ∷ es) [] = ⊥
AreInside K s q leads to l (Pair i j steps ∷ es) (r ∷ rs) = (remainder_after K s to steps (s_row K s leads to i j) ≡ combine K s q r l) × AreInside K s q leads to l es rs

-- a has n columns; l takes a to zeros, and whatever takes a to zeros is, by way of the basis and back, in its module
pub record IsValidExact (K : Domain) (s : Signature) (o : Order) (n : ℕ) (a l : List (Row K)) (b : ExactBlock K) : Type 0 where
  pub leads : List Term
  pub annihilates : AllByRecursion (λ r. combine K s n r a ≡ zero_row K n) l
  pub is_basis : IsBasis K s o n a b.basis b.from b.entries leads
  pub to_shape : (length b.to ≡ length b.basis) × AreLong K (length a) b.to
  pub to_is : matrix_times K s n b.to a ≡ b.basis
  pub inside_shape : (length b.inside ≡ length a + treated_count b.entries) × AreLong K (length l) b.inside
  pub first_inside : (i : ℕ) → i < length a → row_minus K (unit_row K (length a) i) (combine K s (length a) (row_at b.from i) b.to) ≡ combine K s (length a) (row_at b.inside i) l
  pub later_inside : AreInside K s (length a) leads b.to l b.entries (drop (length a) b.inside)

-- the steps leave of w a rest with a lead, which no basis lead of its column divides
pub record IsValidOutside (K : Domain) (s : Signature) (o : Order) (n : ℕ) (a : List (Row K)) (w : Row K) (b : OutsideBlock K) : Type 0 where
  pub leads : List Term
  pub is_basis : IsBasis K s o n a b.basis b.from b.entries leads
  pub steps_within : AllByRecursion (λ (t : Step K). t.index < length leads) b.steps
  pub rest_is : remainder_after K s b.basis b.steps w ≡ b.rest
  pub rest_lead : Term
  pub rest_number : K.Number
  pub leads_rest : IsRowLead K o b.rest rest_lead rest_number
  pub irreducible : (i : ℕ) → i < length leads → (lead_at leads i).column ≡ rest_lead.column → ¬ Divides (lead_at leads i).monomial rest_lead.monomial

-- the operators in a block, and the monomials of its steps, have no variable past the declared ones
pub record IsExactBlockOfSignature (K : Domain) (s : Signature) (b : ExactBlock K) : Type 0 where
  pub basis : AllByRecursion (RowOf K s) b.basis
  pub from : AllByRecursion (RowOf K s) b.from
  pub to : AllByRecursion (RowOf K s) b.to
  pub entries : AreEntriesOf K s b.entries
  pub inside : AllByRecursion (RowOf K s) b.inside

pub record IsOutsideBlockOfSignature (K : Domain) (s : Signature) (b : OutsideBlock K) : Type 0 where
  pub basis : AllByRecursion (RowOf K s) b.basis
  pub from : AllByRecursion (RowOf K s) b.from
  pub entries : AreEntriesOf K s b.entries
  pub steps : AreStepsOf K s b.steps
