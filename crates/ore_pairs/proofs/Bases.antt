-- What the conditions show that exact and outside blocks share.
--     long_product, long_rows  a product with rows of n entries has such rows; so has a
--     through                  a row of cofactors of a's rows, as one of the basis
--     length-through, of_through, combine-through      times the basis it is what it was times a
--     basis_generates          what takes the basis to zeros is in the row module of the listed syzygies
--     basis_divides            the lead of a combination of the basis is divided by a basis lead of its column
use Rattle.std.proofs.Common.{◌≡◌, ℕ, List, [], ◌∷◌, length, ap, ◌∙◌, subst}
use Rattle.std.specs.List.{AllByRecursion}
use Rattle.ore_algebra.specs.Domain.{Domain}
use Rattle.ore_monomial.specs.Term.{Term}
use Rattle.ore_monomial.specs.declared.order.Order.{Order}
use Rattle.ore_monomial.specs.Signature.{Signature, IsLawful}
use Rattle.ore_rows.specs.Rows.{Row, RowOf, AreLong, zero_row, combine, matrix_times, InRowModule}
use Rattle.ore_rows.specs.RowLead.{IsRowLead}
use Rattle.ore_rows.proofs.RowLaws as Rows
use Rattle.ore_pairs.specs.PairList.{DealtPair, pairs_of, AreEntriesOf, syzygies}
use Rattle.ore_pairs.specs.PairRule.{AreAllListed}
use Rattle.ore_pairs.specs.Blocks.{IsBasis}
use Rattle.ore_pairs.proofs.PairCount.{all_listed}
use Rattle.ore_pairs.proofs.Products.{IsLeadDivided}
use Rattle.ore_pairs.proofs.Generate.{syzygies_generate, leads_divide}

module _ (K : Domain) (s : Signature) (lawful : IsLawful s) where
  long_product : (n : ℕ) (m b : List (Row K)) → AreLong K n b → AreLong K n (matrix_times K s n m b)
  unfolding matrix_times
  long_product n [] b h = tt
  long_product n (r ∷ m) b h = (Rows.length-combine K s lawful n r b h, long_product n m b h)

module _ (K : Domain) (s : Signature) (lawful : IsLawful s) (o : Order) (n : ℕ) (a basis from : List (Row K)) (entries : List (DealtPair K)) (leads : List Term) (v : IsBasis K s o n a basis from entries leads) where
  pub long_rows : AreLong K n a
  long_rows = subst (AreLong K n) v.from_is (long_product K s lawful n from basis v.long)

  abbrev pub through : Row K → Row K
  through c = combine K s (length basis) c from

  pub length-through : (c : Row K) → length (through c) ≡ length basis
  length-through c = Rows.length-combine K s lawful (length basis) c from v.from_shape.1

  pub of_through : AllByRecursion (RowOf K s) from → (c : Row K) → RowOf K s c → RowOf K s (through c)
  of_through of c oc = Rows.of_combine K s (length basis) c from oc of

  pub combine-through : (c : Row K) → combine K s n (through c) basis ≡ combine K s n c a
  combine-through c = Rows.combine-combine K s lawful (length basis) n c from basis v.from_shape.1 v.long ∙ ap (combine K s n c) v.from_is

  all : AreAllListed leads (pairs_of entries)
  all = all_listed K s o n basis leads entries v.lawful v.counted

  module _ (of : AllByRecursion (RowOf K s) basis) (steps_of : AreEntriesOf K s entries) where
    pub basis_generates : (z : Row K) → length z ≡ length basis → RowOf K s z → combine K s n z basis ≡ zero_row K n → InRowModule K s (length basis) (syzygies K s (length basis) leads entries) z
    basis_generates = syzygies_generate K s lawful o n basis leads v.long of v.monic entries steps_of v.lawful all

    pub basis_divides : (z : Row K) (t : Term) (k : K.Number) → length z ≡ length basis → RowOf K s z → IsRowLead K o (combine K s n z basis) t k → IsLeadDivided (length basis) leads t
    basis_divides = leads_divide K s lawful o n basis leads v.long of v.monic entries steps_of v.lawful all
