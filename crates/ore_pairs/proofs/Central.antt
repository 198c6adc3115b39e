-- The central induction, over the greatest weight of a row of cofactors: where all pairs of basis rows with leads in one
-- column are close, a row of cofactors is a member of N and a row whose greatest product does not cancel.
--     IsStandard               a row of cofactors is such a sum
--     standard                 each row of the signature is
--     syzygy_member            so what takes the basis to zeros is in N
--     lead_divided             and the lead of each combination of the basis is divided by a basis lead of its column
use Rattle.std.proofs.Common.{◌≡◌, ◌≢◌, ◌⊎◌, inl, inr, ⊎_elim, ℕ, ◌<◌, List, length, refl, sym, ap, ◌∙◌, subst}
use Rattle.std.specs.declared.cmp.Ordering.TheVariants.{Less}
use Rattle.std.specs.Ordering.{is_gt}
use Rattle.ore_algebra.specs.Domain.{Domain}
use Rattle.ore_monomial.specs.Monomial.{Monomial, Divides}
use Rattle.ore_monomial.specs.Term.{Term, term_cmp}
use Rattle.ore_monomial.specs.declared.order.Order.{Order}
use Rattle.ore_monomial.specs.Signature.{Signature, MonomialOf, IsLawful}
use Rattle.ore_monomial.proofs.Divisors.{divides-product}
use Rattle.ore_monomial.proofs.TermOrder.{term_total, term_apart, by_term}
use Rattle.ore_ring.proofs.Leads.{both_upto}
use Rattle.ore_rows.specs.Rows.{Row, RowOf, AreLong, zero_row, row_plus, combine}
use Rattle.ore_rows.specs.RowLead.{coefficient_at, IsRowLead}
use Rattle.ore_rows.proofs.RowLaws as Rows
use Rattle.ore_rows.proofs.RowLaws.{plus-zero_row}
use Rattle.ore_pairs.specs.Steps.{lead_at, AreLeads}
use Rattle.ore_pairs.proofs.RowSums.{row_assoc, of_entry}
use Rattle.ore_pairs.proofs.BelowModulo.{weight, AreWeightsAtMost, IsSubmodule, IsBelowModulo}
use Rattle.ore_pairs.proofs.Close.{AreClose}
use Rattle.ore_pairs.proofs.Products.{IsLeadDivided, at, at-zero_row, nothing_at, lead_within, at_most-combine}
use Rattle.ore_pairs.proofs.Top.{Top, top_of}
use Rattle.ore_pairs.proofs.Moved.{moved_nothing, below_modulo-moved}

-- z is a member of N and a rest, which is zeros or whose product has a coefficient at the greatest weight of the rest
pub record IsStandard (K : Domain) (s : Signature) (o : Order) (p : ℕ) (basis : List (Row K)) (leads : List Term) (N : Row K → Type 0) (z : Row K) : Type 0 where
  pub part : Row K
  pub rest : Row K
  pub member : N part
  pub long : length rest ≡ length basis
  pub is : z ≡ row_plus K part rest
  pub greatest : (rest ≡ zero_row K (length basis)) ⊎ ((k : ℕ) × (q : Monomial) × (k < length basis) × AreWeightsAtMost K o leads (weight leads k q) rest × (coefficient_at K (combine K s p rest basis) (weight leads k q) ≢ K.zero))

module _ (K : Domain) (s : Signature) (lawful : IsLawful s) (o : Order) (p : ℕ) (basis : List (Row K)) (leads : List Term) (long : AreLong K p basis) (monic : AreLeads K o basis leads) (N : Row K → Type 0) (sub : IsSubmodule K s (length basis) N) where
  abbrev n : ℕ
  n = length basis

  -- rows with leads in one column are close
  abbrev pub AreAllClose : Type 0
  AreAllClose = (i j : ℕ) → i < n → j < n → (lead_at leads i).column ≡ (lead_at leads j).column → AreClose K s lawful o leads n N sub i j

  module _ (close : AreAllClose) where
    abbrev Standard : Row K → Type 0
    Standard z = IsStandard K s o p basis leads N z

    abbrev found : Term → Row K → K.Number
    found t z = at K s lawful o p basis leads long monic t z

    -- each row of the signature with the greatest weight t is standard
    abbrev From : Term → Type 0
    From t = (z : Row K) → length z ≡ n → RowOf K s z → (k : ℕ) (q : Monomial) → MonomialOf s q → k < n → weight leads k q ≡ t → AreWeightsAtMost K o leads t z → Standard z

    alone : (z : Row K) → length z ≡ n → (z ≡ zero_row K n) ⊎ ((k : ℕ) × (q : Monomial) × (k < n) × AreWeightsAtMost K o leads (weight leads k q) z × (coefficient_at K (combine K s p z basis) (weight leads k q) ≢ K.zero)) → Standard z
    alone z l g = record { part = zero_row K n; rest = z; member = sub.has_zero; long = l; is = sym (Rows.zero_row_plus K n z l); greatest = g }

    -- the rest of a near row is standard, so the row is
    with_rest : (t : Term) → ((u : Term) → u.column < p → term_cmp o u t ≡ Less → From u) → (z : Row K) (near : IsBelowModulo K s o leads n N t z) → Top K o leads n near.rest → Standard z
    with_rest t ih z near (inl e) = record { part = near.part; rest = near.rest; member = near.member; long = near.long; is = near.is; greatest = inl e }
    with_rest t ih z near (inr (i, r, il, u, g)) =
        let st = ih (weight leads i r) (lead_within K s lawful o p basis leads long monic i il) (near.low i r u) near.rest near.long near.of i r (of_entry K s near.rest i near.of r u) il refl g in
        record {
          part = row_plus K near.part st.part;
          rest = st.rest;
          member = sub.has_sum _ _ near.member st.member;
          long = st.long;
          is = near.is ∙ ap (row_plus K near.part) st.is ∙ sym (row_assoc K near.part st.part st.rest);
          greatest = st.greatest;
        }

    from_smaller : (t : Term) → ((u : Term) → u.column < p → term_cmp o u t ≡ Less → From u) → From t
    from_smaller t ih z l oz k q oq kl e h = by (K.discrete (found t z) K.zero)
      where
        by : Dec (found t z ≡ K.zero) → Standard z
        by (no d) = alone z l (inr (k, q, kl, subst (λ t. AreWeightsAtMost K o leads t z) (sym e) h, λ c. d (ap (coefficient_at K (combine K s p z basis)) (sym e) ∙ c)))
        by (yes c) =
            let near : IsBelowModulo K s o leads n N t z = subst (IsBelowModulo K s o leads n N t) (moved_nothing K s lawful o p basis leads long monic N sub t k q oq e z l c)
            (below_modulo-moved K s lawful o p basis leads long monic N sub t k q oq e z l oz h (λ i il same. close i k il kl same)) in
            with_rest t ih z near (top_of K s lawful o leads n near.rest near.long)

    pub standard : (z : Row K) → length z ≡ n → RowOf K s z → Standard z
    standard z l oz = by (top_of K s lawful o leads n z l)
      where
        by : Top K o leads n z → Standard z
        by (inl e) = alone z l (inl e)
        by (inr (k, q, kl, u, g)) = by_term o p From (λ t h. from_smaller t) (weight leads k q) (lead_within K s lawful o p basis leads long monic k kl) z l oz k q (of_entry K s z k oz q u) kl refl g

    module _ (vanish : (z : Row K) → N z → combine K s p z basis ≡ zero_row K p) where
      combine-rest : (z : Row K) (st : Standard z) → combine K s p st.rest basis ≡ combine K s p z basis
      combine-rest z st = sym (
          ap (λ z. combine K s p z basis) st.is
          ∙ Rows.combine-plus K s p st.part st.rest basis (sub.long _ st.member ∙ sym st.long)
          ∙ ap (λ r. row_plus K r (combine K s p st.rest basis)) (vanish st.part st.member)
          ∙ Rows.zero_row_plus K p _ (Rows.length-combine K s lawful p st.rest basis long)
          )

      found-rest : (t : Term) (z : Row K) (st : Standard z) → found t st.rest ≡ found t z
      found-rest t z st = ap (λ r. coefficient_at K r t) (combine-rest z st)

      pub syzygy_member : (z : Row K) → length z ≡ n → RowOf K s z → combine K s p z basis ≡ zero_row K p → N z
      syzygy_member z l oz e = by (standard z l oz)
        where
          by : Standard z → N z
          by st = ⊎_elim
              (λ blank. subst N (sym (st.is ∙ ap (row_plus K st.part) blank ∙ plus-zero_row K n st.part (sub.long _ st.member))) st.member)
              (λ g. absurd (g.4 (found-rest (weight leads g.0 g.1) z st ∙ ap (λ r. coefficient_at K r (weight leads g.0 g.1)) e ∙ nothing_at K s lawful o p basis leads long monic p (weight leads g.0 g.1))))
              st.greatest

      pub lead_divided : (z : Row K) (t : Term) (k : K.Number) → length z ≡ n → RowOf K s z → IsRowLead K o (combine K s p z basis) t k → IsLeadDivided n leads t
      lead_divided z t k l oz lead = by (standard z l oz)
        where
          stands : (st : Standard z) → found t st.rest ≢ K.zero
          stands st c = lead.apart (sym lead.stands ∙ sym (found-rest t z st) ∙ c)

          by : Standard z → IsLeadDivided n leads t
          by st = ⊎_elim
              (λ blank. absurd (stands st (ap (found t) blank ∙ at-zero_row K s lawful o p basis leads long monic t)))
              (λ g.
              let u = weight leads g.0 g.1 in
              let below = at_most-combine K s lawful o p basis leads long monic u st.rest st.long g.3 t (stands st) in
              let above = lead.greatest u (λ c. g.4 (found-rest u z st ∙ c)) in
              let same : u ≡ t = term_apart o u t (both_upto _ above (ap is_gt (sym ((term_total o).antisymm t u)) ∙ below)) in
              (g.0, g.2, ap (λ t. t.column) same, subst (Divides (lead_at leads g.0).monomial) (ap (λ t. t.monomial) same) (divides-product g.1 (lead_at leads g.0).monomial)))
              st.greatest
