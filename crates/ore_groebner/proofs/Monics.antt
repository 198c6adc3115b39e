-- Rows with lead coefficient 1, over a field.
--     times_inverse            a number that is not none times its inverse is 1
--     scaled_back              a row times the inverse and then the number is the row
--     shift-unit               the monomial 1 times a term
--     monic_good, monic_row, monic_cofactor    what a row and its cofactor row, made monic, are
use Rattle.std.proofs.Common.{◌≡◌, ◌≢◌, ℕ, List, [], ◌∷◌, length, refl, sym, ap, ◌∙◌, subst}
use Rattle.std.specs.List.{AllByRecursion}
use Rattle.std.specs.declared.option.Option.TheVariants.{Some}
use Rattle.ore_algebra.specs.Domain.{Domain, HasInverses}
use Rattle.ore_algebra.specs.Free.{scale}
use Rattle.ore_algebra.proofs.DomainLaws as Numbers
use Rattle.ore_monomial.specs.Monomial.{unit, plain_cmp}
use Rattle.ore_monomial.specs.Signature.{Signature, IsLawful}
use Rattle.ore_monomial.specs.Term.{Term, shift}
use Rattle.ore_monomial.specs.declared.order.Order.{Order}
use Rattle.ore_monomial.specs.LetterRule.{Operator, constant}
use Rattle.ore_monomial.proofs.Declared.{MonomialOf-unit}
use Rattle.ore_monomial.proofs.Monomials.{product-unit}
use Rattle.ore_monomial.proofs.Operators
use Rattle.ore_monomial.proofs.TermOrder.{same_term}
use Rattle.ore_ring.specs.Belongs.{OperatorOf}
use Rattle.ore_ring.proofs.Belonging.{of_single}
use Rattle.ore_rows.specs.Rows.{Row, RowOf, row_scale, combine}
use Rattle.ore_rows.specs.RowLead.{coefficient_at, IsRowLead, row_lead}
use Rattle.ore_pairs.specs.Run.{inverse_of}
use Rattle.ore_rows.proofs.Differences.{number-times}
use Rattle.ore_rows.proofs.GreatestTerms.{row_lead-Some}
use Rattle.ore_rows.proofs.RowLeads.{lead-row_scale_term}
use Rattle.ore_rows.proofs.RowLaws as Rows
use Rattle.ore_groebner.specs.RunLaws.{IsBasisRow}
use Rattle.ore_groebner.proofs.Limited.{monic_of}

pub shift-unit : (t : Term) → shift unit t ≡ t
shift-unit t = same_term (shift unit t) t (product-unit t.monomial) refl

module _ (K : Domain) (inverses : HasInverses K) where
  pub times_inverse : (k : K.Number) → k ≢ K.zero → K.times k (inverse_of K inverses k) ≡ K.one
  unfolding inverse_of
  times_inverse k h = by (K.discrete k K.zero)
    where
      by : (d : Dec (k ≡ K.zero)) → K.times k (elim d [ yes e ↦ K.zero | no n ↦ inverses.inverse k n ]) ≡ K.one
      by (yes e) = absurd (h e)
      by (no n) = inverses.times_inverse k n

  inverse_apart : (k : K.Number) → k ≢ K.zero → inverse_of K inverses k ≢ K.zero
  inverse_apart k h e = K.one_apart (sym (times_inverse k h) ∙ ap (K.times k) e ∙ Numbers.times_zero K k)

  module _ (s : Signature) (lawful : IsLawful s) where
    scale_back : (k : K.Number) → k ≢ K.zero → (f : Operator K) → scale K plain_cmp k (scale K plain_cmp (inverse_of K inverses k) f) ≡ f
    scale_back k h f = Operators.scale-scale K k (inverse_of K inverses k) f ∙ ap (λ j. scale K plain_cmp j f) (times_inverse k h) ∙ Operators.scale_one K f

    pub scaled_back : (k : K.Number) → k ≢ K.zero → (r : Row K) → row_scale K s (constant K k) (row_scale K s (constant K (inverse_of K inverses k)) r) ≡ r
    unfolding row_scale
    scaled_back k h [] = refl
    scaled_back k h (f ∷ r) = λ i. (number-times K s lawful k _ ∙ ap (scale K plain_cmp k) (number-times K s lawful (inverse_of K inverses k) f) ∙ scale_back k h f) i ∷ scaled_back k h r i

    module _ (o : Order) (row cofactor : Row K) (t : Term) (leads : row_lead K o row ≡ Some t) where
      abbrev k : K.Number
      k = coefficient_at K row t

      abbrev inverse : K.Number
      inverse = inverse_of K inverses k

      abbrev number : Operator K
      number = constant K inverse

      of_number : OperatorOf K s number
      of_number = of_single K s unit inverse (MonomialOf-unit s)

      lead : IsRowLead K o row t k
      lead = row_lead-Some K o row t leads

      pub monic_row : row_scale K s (constant K (coefficient_at K row t)) (monic_of K inverses s o row cofactor t).row ≡ row
      monic_row = scaled_back k lead.apart row

      pub monic_cofactor : row_scale K s (constant K (coefficient_at K row t)) (monic_of K inverses s o row cofactor t).cofactor ≡ cofactor
      monic_cofactor = scaled_back k lead.apart cofactor

      pub monic_good : (n : ℕ) (a : List (Row K)) → length row ≡ n → length cofactor ≡ length a → combine K s n cofactor a ≡ row → (AllByRecursion (RowOf K s) a → RowOf K s row) → (AllByRecursion (RowOf K s) a → RowOf K s cofactor)
          → IsBasisRow K s o n a (monic_of K inverses s o row cofactor t)
      monic_good n a long wide made of_row of_cofactor = record {
        monic = subst (IsRowLead K o (row_scale K s number row) t) (K.times_comm inverse k ∙ times_inverse k lead.apart)
            (subst (λ u. IsRowLead K o (row_scale K s number row) u (K.times inverse k)) (shift-unit t) (lead-row_scale_term K s lawful o unit inverse row t k (inverse_apart k lead.apart) lead));
        long = Rows.length-row_scale K s lawful number row ∙ long;
        wide = Rows.length-row_scale K s lawful number cofactor ∙ wide;
        made = sym (Rows.scale-combine K s lawful number n cofactor a) ∙ ap (row_scale K s number) made;
        of_row = λ d. Rows.of_row_scale K s number row of_number (of_row d);
        of_cofactor = λ d. Rows.of_row_scale K s number cofactor of_number (of_cofactor d);
      }
