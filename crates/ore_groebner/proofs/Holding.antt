-- What each state of a run holds, and the basis that it has.
--     Holds                    the rows and syzygies are of a, the entries are lawful, each with its syzygy, and a comes back;
--                              each syzygy has an origin
--     IsRowBack                a row and its unit row are multiples of a basis row and of its cofactor row
--     AreBack                  some rows of a are so, the next of which that isn't zeros stands at place i of the basis;
--                              of one that is zeros, the unit row is the syzygy that comes from it
--     back_more                so it is with more basis rows and syzygies
--     grown_inside             a place in a list is one in a longer list
--     are_monic, are_wide, leads_are, long_rows, of_rows    what the rows of a basis are, as a list
--     wide_cofactors, of_cofactors, to_right    what its cofactor rows are
--     wide_syzygies, vanishing    what the syzygies are
use Rattle.std.proofs.Common.{◌≡◌, ◌⊎◌, inl, inr, ℕ, suc, ◌<◌, List, [], ◌∷◌, ◌++◌, length, get_or, refl, sym, ap, ◌∙◌, subst, arith}
use Rattle.std.specs.declared.option.Option.TheVariants.{None, Some}
use Rattle.std.specs.List.{All, AllByRecursion}
use Rattle.std.proofs.ByRecursion.{All-get_or}
use Rattle.std.proofs.lemmas.List.{length-map, length-append, get_or-map}
use Rattle.ore_algebra.specs.Domain.{Domain}
use Rattle.ore_monomial.specs.Signature.{Signature}
use Rattle.ore_monomial.specs.Term.{Term}
use Rattle.ore_monomial.specs.declared.order.Order.{Order}
use Rattle.ore_monomial.specs.LetterRule.{constant}
use Rattle.ore_rows.specs.Rows.{Row, RowOf, AreLong, zero_row, unit_row, row_scale, combine, matrix_times}
use Rattle.ore_rows.specs.RowLead.{coefficient_at, IsRowLead, row_lead}
use Rattle.ore_rows.specs.Reduction.{BasisRow, AreMonic, basis_rows, cofactors_of, leads_of, origin, row_at}
use Rattle.ore_pairs.specs.Run.{RunState}
use Rattle.ore_rows.specs.declared.choices.Origin.{Origin}
use Rattle.ore_rows.specs.declared.choices.Origin.TheVariants.{ZeroRow}
use Rattle.ore_pairs.specs.Steps.{AreLeads, lead_at}
use Rattle.ore_groebner.specs.RunLaws.{IsBasisRow, IsSyzygy, IsNone, IsFrom, IsPlaceIn, EntriesHold}
use Rattle.ore_groebner.proofs.Growing.{map_grow}
use Rattle.ore_groebner.proofs.Sources.{Grown, grown_row, grown_no_row}

pub grown_inside : {X : Type 0} (xs more : List X) (i : ℕ) → i < length xs → i < length (xs ++ more)
grown_inside xs more i h = let e = length-append xs more in omega arith

module _ (K : Domain) (s : Signature) (o : Order) (q : ℕ) where
  -- the row and its unit row, at place k of q, from the basis row at place i
  abbrev pub IsRowBack : Term → ℕ → ℕ → Row K → List (BasisRow (Row K)) → Type 0
  IsRowBack t i k r basis = (i < length basis) × (row_scale K s (constant K (coefficient_at K r t)) (row_at (basis_rows basis) i) ≡ r) × (row_scale K s (constant K (coefficient_at K r t)) (row_at (cofactors_of basis) i) ≡ unit_row K q k)

  abbrev pub AreBack : ℕ → ℕ → List (Row K) → List (BasisRow (Row K)) → List Origin → List (Row K) → Type 0
  AreBack i k [] basis origins syzygies = Unit {0}
  AreBack i k (r ∷ rs) basis origins syzygies = ((row_lead K o r ≡ None) × IsFrom K q origins syzygies (ZeroRow k) (unit_row K q k) × AreBack i (suc k) rs basis origins syzygies)
      ⊎ ((t : Term) × (row_lead K o r ≡ Some t) × IsRowBack t i k r basis × IsNone origins (ZeroRow k) × AreBack (suc i) (suc k) rs basis origins syzygies)

  module _ (basis more : List (BasisRow (Row K))) (n : ℕ) (os : List Origin) (rows : List (Row K)) (now : List Origin) (syzygies : List (Row K)) (g : Grown K n os rows now syzygies) where
    pub back_more : (i k : ℕ) (rs : List (Row K)) → AreBack i k rs basis os rows → AreBack i k rs (basis ++ more) now syzygies
    back_more i k [] h = tt
    back_more i k (r ∷ rs) (inl h) = inl (h.0, grown_row K q n os rows now syzygies g k _ h.1, back_more i (suc k) rs h.2)
    back_more i k (r ∷ rs) (inr (t, e, b, none, h)) = inr (
      t,
      e,
      (grown_inside basis more i b.0, ap (row_scale K s (constant K (coefficient_at K r t))) (map_grow (λ b. b.row) [] basis more i b.0) ∙ b.1, ap (row_scale K s (constant K (coefficient_at K r t))) (map_grow (λ b. b.cofactor) [] basis more i b.0) ∙ b.2),
      grown_no_row K q n os rows now syzygies g k none,
      back_more (suc i) (suc k) rs h,
    )

module _ (K : Domain) (s : Signature) (o : Order) (n : ℕ) (a : List (Row K)) where
  pub record Holds (st : RunState K) : Type 0 where
    pub basis : AllByRecursion (IsBasisRow K s o n a) st.basis
    pub syzygies : AllByRecursion (IsSyzygy K s o n a) st.syzygies
    pub entries : EntriesHold K s o n a st
    pub back : AreBack K s o (length a) 0 0 a st.basis st.origins st.syzygies
    pub many : length st.origins ≡ length st.syzygies
    pub places : AllByRecursion (IsPlaceIn (length a) (length st.listed)) st.origins

  blank : BasisRow (Row K)
  blank = record { row = []; cofactor = []; lead = origin }

  module _ (basis : List (BasisRow (Row K))) (good : AllByRecursion (IsBasisRow K s o n a) basis) where
    pub are_monic : AreMonic K o basis
    are_monic i d h = (All-get_or (IsBasisRow K s o n a) basis i d h good).monic

    pub are_wide : All (λ b. length b.row ≡ n) basis
    are_wide i d h = (All-get_or (IsBasisRow K s o n a) basis i d h good).long

    pub leads_are : AreLeads K o (basis_rows basis) (leads_of basis)
    leads_are = record {
      long = length-map basis (λ b. b.lead) ∙ sym (length-map basis (λ b. b.row));
      monic = λ i h.
          let e = length-map basis (λ b. b.row) in
          let inside : i < length basis = omega arith in
          subst (λ r. IsRowLeadOf r i) (sym (get_or-map (λ b. b.row) basis i blank [] inside)) (lead_there i inside);
    }
      where
        IsRowLeadOf : Row K → ℕ → Type 0
        IsRowLeadOf r i = IsRowLead K o r (lead_at (leads_of basis) i) K.one

        lead_there : (i : ℕ) → i < length basis → IsRowLeadOf (get_or basis i blank).row i
        lead_there i h = subst (λ u. IsRowLead K o (get_or basis i blank).row u K.one) (sym (get_or-map (λ b. b.lead) basis i blank origin h)) (are_monic i blank h)

  pub long_rows : (basis : List (BasisRow (Row K))) → AllByRecursion (IsBasisRow K s o n a) basis → AreLong K n (basis_rows basis)
  long_rows [] h = tt
  long_rows (b ∷ basis) h = (h.0.long, long_rows basis h.1)

  pub wide_cofactors : (basis : List (BasisRow (Row K))) → AllByRecursion (IsBasisRow K s o n a) basis → AreLong K (length a) (cofactors_of basis)
  wide_cofactors [] h = tt
  wide_cofactors (b ∷ basis) h = (h.0.wide, wide_cofactors basis h.1)

  pub of_rows : (basis : List (BasisRow (Row K))) → AllByRecursion (IsBasisRow K s o n a) basis → AllByRecursion (RowOf K s) a → AllByRecursion (RowOf K s) (basis_rows basis)
  of_rows [] h d = tt
  of_rows (b ∷ basis) h d = (h.0.of_row d, of_rows basis h.1 d)

  pub of_cofactors : (basis : List (BasisRow (Row K))) → AllByRecursion (IsBasisRow K s o n a) basis → AllByRecursion (RowOf K s) a → AllByRecursion (RowOf K s) (cofactors_of basis)
  of_cofactors [] h d = tt
  of_cofactors (b ∷ basis) h d = (h.0.of_cofactor d, of_cofactors basis h.1 d)

  pub wide_syzygies : (rows : List (Row K)) → AllByRecursion (IsSyzygy K s o n a) rows → AreLong K (length a) rows
  wide_syzygies [] h = tt
  wide_syzygies (r ∷ rows) h = (h.0.wide, wide_syzygies rows h.1)

  pub vanishing : (rows : List (Row K)) → AllByRecursion (IsSyzygy K s o n a) rows → AllByRecursion (λ r. combine K s n r a ≡ zero_row K n) rows
  vanishing [] h = tt
  vanishing (r ∷ rows) h = (h.0.vanishes, vanishing rows h.1)

  pub to_right : (basis : List (BasisRow (Row K))) → AllByRecursion (IsBasisRow K s o n a) basis → matrix_times K s n (cofactors_of basis) a ≡ basis_rows basis
  unfolding matrix_times
  to_right [] h = refl
  to_right (b ∷ basis) h = λ i. h.0.made i ∷ to_right basis h.1 i
