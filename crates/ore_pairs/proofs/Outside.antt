-- A valid outside block shows that a row is not in the row module of a.
--     steps_lower              a reduction of a combination of the basis is a combination of it
--     outside_block            so a row with a rest that no basis lead divides is none of a's rows either
use Rattle.std.proofs.Common.{◌≡◌, ℕ, ◌<◌, List, [], ◌∷◌, length, sym, ap, ◌∙◌, subst}
use Rattle.ore_algebra.specs.Domain.{Domain}
use Rattle.ore_monomial.specs.declared.order.Order.{Order}
use Rattle.ore_monomial.specs.Signature.{Signature, IsLawful}
use Rattle.ore_ring.proofs.Belonging.{of_single}
use Rattle.ore_rows.specs.Rows.{Row, RowOf, AreLong, identity_rows, combine, InRowModule}
use Rattle.ore_rows.specs.RowLead.{IsRowLead}
use Rattle.ore_rows.proofs.Differences.{of_row_minus}
use Rattle.ore_rows.proofs.RowLaws as Rows
use Rattle.ore_rows.proofs.UnitRows.{length-identity_rows, row-identity_rows, long_identity, of_unit_row, identity_rows-matrix_times}
use Rattle.ore_pairs.specs.Steps.{Step, AreStepsOf, remainder_after}
use Rattle.ore_pairs.specs.Blocks.{OutsideBlock, IsValidOutside, IsOutsideBlockOfSignature}
use Rattle.ore_pairs.proofs.Syzygies.{AreStepsWithin, length-remainder_after, combine-remainder_after}
use Rattle.ore_pairs.proofs.Products.{IsLeadDivided}
use Rattle.ore_pairs.proofs.Bases.{through, length-through, of_through, combine-through, basis_divides}

module _ (K : Domain) (s : Signature) where
  of_after : (n : ℕ) (steps : List (Step K)) (z : Row K) → AreStepsWithin K n steps → AreStepsOf K s steps → RowOf K s z → RowOf K s (remainder_after K s (identity_rows K n) steps z)
  unfolding remainder_after
  of_after n [] z h os oz = oz
  of_after n (t ∷ steps) z h os oz = of_after n steps _ h.1 os.1 (of_row_minus K s z _ oz (Rows.of_row_scale K s _ _ (of_single K s t.monomial t.number os.0) (subst (RowOf K s) (sym (row-identity_rows K n t.index h.0)) (of_unit_row K s n t.index))))

module _ (K : Domain) (s : Signature) (lawful : IsLawful s) where
  steps_lower : (p : ℕ) (b : List (Row K)) → AreLong K p b → (steps : List (Step K)) (z : Row K) → length z ≡ length b → AreStepsWithin K (length b) steps
      → combine K s p (remainder_after K s (identity_rows K (length b)) steps z) b ≡ remainder_after K s b steps (combine K s p z b)
  steps_lower p b long steps z l h =
      let n = length b in
      combine-remainder_after K s lawful n p (identity_rows K n) b (long_identity K n) steps z l (subst (λ m. AreStepsWithin K m steps) (sym (length-identity_rows K n)) h)
      ∙ ap (λ m. remainder_after K s m steps (combine K s p z b)) (identity_rows-matrix_times K s lawful p b long)

  module _ (o : Order) (n : ℕ) (a : List (Row K)) (w : Row K) (b : OutsideBlock K) (of : IsOutsideBlockOfSignature K s b) (v : IsValidOutside K s o n a w b) where
    abbrev size : ℕ
    size = length b.basis

    abbrev to_basis : Row K → Row K
    to_basis c = through K s lawful o n a b.basis b.from b.entries v.leads v.is_basis c

    within : AreStepsWithin K size b.steps
    within = subst (λ m. AreStepsWithin K m b.steps) v.is_basis.monic.long v.steps_within

    long : (c : Row K) → length (to_basis c) ≡ size
    long c = length-through K s lawful o n a b.basis b.from b.entries v.leads v.is_basis c

    -- the reduction of a row, as cofactors of the basis
    abbrev lowered : Row K → Row K
    lowered c = remainder_after K s (identity_rows K size) b.steps (to_basis c)

    length-lowered : (c : Row K) → length (lowered c) ≡ size
    length-lowered c = length-remainder_after K s lawful size (identity_rows K size) (long_identity K size) b.steps (to_basis c) (long c) (subst (λ m. AreStepsWithin K m b.steps) (sym (length-identity_rows K size)) within)

    of_lowered : (c : Row K) → RowOf K s c → RowOf K s (lowered c)
    of_lowered c oc = of_after K s size b.steps (to_basis c) within of.steps (of_through K s lawful o n a b.basis b.from b.entries v.leads v.is_basis of.from c oc)

    combine-lowered : (c : Row K) → combine K s n c a ≡ w → combine K s n (lowered c) b.basis ≡ b.rest
    combine-lowered c e =
        steps_lower n b.basis v.is_basis.long b.steps (to_basis c) (long c) within
        ∙ ap (remainder_after K s b.basis b.steps) (combine-through K s lawful o n a b.basis b.from b.entries v.leads v.is_basis c ∙ e)
        ∙ v.rest_is

    pub outside_block : ¬ InRowModule K s n a w
    unfolding InRowModule
    outside_block (c, lc, oc, e) = v.irreducible d.0 (subst (λ m. d.0 < m) (sym v.is_basis.monic.long) d.1) d.2 d.3
      where
        d : IsLeadDivided size v.leads v.rest_lead
        d = basis_divides K s lawful o n a b.basis b.from b.entries v.leads v.is_basis of.basis of.entries (lowered c) v.rest_lead v.rest_number (length-lowered c) (of_lowered c oc)
            (subst (λ r. IsRowLead K o r v.rest_lead v.rest_number) (sym (combine-lowered c e)) v.leads_rest)
