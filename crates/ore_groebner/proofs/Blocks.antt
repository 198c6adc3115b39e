-- The blocks of a complete state are valid.
--     basis_of_run             its basis has the conditions of a basis
--     inside_shown             each treated pair leaves its inside row times the matrix
--     exact_valid              an exact block, by rows that times the matrix are the syzygies
--     kernel_valid             the block of the syzygies, by unit rows
--     outside_valid            an outside block, by a reduction that leaves something
use Rattle.std.proofs.Common.{◌≡◌, ◌≢◌, ℕ, suc, ◌<◌, List, [], ◌∷◌, length, map, refl, sym, ap, ◌∙◌, subst, true≢false, arith}
use Rattle.std.specs.List.{AllByRecursion}
use Rattle.std.specs.declared.option.Option.{Option}
use Rattle.std.specs.declared.option.Option.TheVariants.{None, Some}
use Rattle.std.specs.declared.result.Result.TheVariants.{Ok}
use Rattle.std.proofs.ByRecursion.{All-get_or}
use Rattle.std.proofs.lemmas.List.{length-map}
use Rattle.std.proofs.lemmas.List.Elements.{recursion_from_All}
use Rattle.ore_algebra.specs.Domain.{Domain}
use Rattle.ore_monomial.specs.Signature.{Signature, IsLawful}
use Rattle.ore_monomial.specs.Term.{Term}
use Rattle.ore_monomial.specs.declared.order.Order.{Order}
use Rattle.ore_rows.specs.Rows.{Row, AreLong, zero_row, identity_rows, combine, matrix_times}
use Rattle.ore_leads.proofs.Dividing.{divides_term_true}
use Rattle.ore_rows.specs.Arithmetic.{Arithmetic, IsSoundArithmetic}
use Rattle.ore_rows.specs.RowLead.{coefficient_at, row_lead}
use Rattle.ore_rows.specs.Reduction.{Step, ReductionState, basis_rows, cofactors_of, leads_of, remainder_after, reduce}
use Rattle.ore_rows.specs.declared.choices.Origin.{Origin}
use Rattle.ore_rows.specs.declared.choices.Origin.TheVariants.{ZeroRow, Event}
use Rattle.ore_rows.proofs.GreatestTerms.{row_lead-Some, zero_from}
use Rattle.ore_rows.proofs.UnitRows.{long_identity, identity_rows-matrix_times}
use Rattle.ore_division.specs.Laws as division
use Rattle.ore_division.proofs.Leaves.{IsLeft, left, reduction_ends}
use Rattle.ore_pairs.specs.Steps as steps
use Rattle.ore_pairs.specs.Blocks.{IsBasis, IsValidExact, IsValidOutside, AreInside}
use Rattle.ore_pairs.specs.PairList.{DealtPair, Pair, Skip}
use Rattle.ore_pairs.specs.Run.{RunState, IsComplete, from_rows}
use Rattle.ore_pairs.specs.RunBlocks.{row_from, pair_origins, exact_of_run, outside_of_run}
use Rattle.ore_pairs.proofs.PairCount.{count-all}
use Rattle.ore_pairs.proofs.Syzygies.{length-remainder_after}
use Rattle.ore_groebner.specs.RunLaws.{IsBasisRow, IsStateOf, IsFrom, HaveTheirSyzygies}
use Rattle.ore_groebner.proofs.Holding.{Holds, are_monic, are_wide, leads_are, long_rows, wide_cofactors, wide_syzygies, vanishing}
use Rattle.ore_groebner.proofs.Placing.{length-placed, placed-row, placed-behind, long_placed, many_inside, combine-row_from}
use Rattle.ore_groebner.proofs.Returning.{length-from_rows, long_from_rows, keeps}

module _ (K : Domain) (s : Signature) (lawful : IsLawful s) (o : Order) (n : ℕ) (a : List (Row K)) (long : AreLong K n a) (st : RunState K) (h : Holds K s o n a st) (complete : IsComplete K st) where
  abbrev q : ℕ
  q = length a

  abbrev size : ℕ
  size = length st.basis

  abbrev leads : List Term
  leads = leads_of st.basis

  abbrev from : List (Row K)
  from = from_rows K o size 0 a

  same_size : size ≡ length (basis_rows st.basis)
  same_size = sym (length-map st.basis (λ b. b.row))

  kept : IsStateOf K s o n a st
  kept = keeps K s lawful o n a long st h

  pub basis_of_run : IsBasis K s o n a (basis_rows st.basis) from st.listed leads
  basis_of_run = record {
    long = long_rows K s o n a st.basis h.basis;
    monic = leads_are K s o n a st.basis h.basis;
    from_shape = (length-from_rows K s lawful o size 0 a, subst (λ m. AreLong K m from) same_size (long_from_rows K s lawful o size 0 a));
    from_is = kept.from_is;
    lawful = h.entries.lawful;
    counted = count-all K s o n (basis_rows st.basis) leads st.listed h.entries.lawful complete;
  }

  module _ (m inside : List (Row K)) (wide : AreLong K q m) (annihilates : AllByRecursion (λ r. combine K s n r a ≡ zero_row K n) m) (long_inside : AreLong K (length m) inside) (product : matrix_times K s q inside m ≡ st.syzygies) where
    abbrev given : Origin → Row K
    given = row_from st.origins inside (zero_row K (length m))

    is_row : (x : Origin) (c : Row K) → IsFrom K q st.origins st.syzygies x c → c ≡ combine K s q (given x) m
    is_row = combine-row_from K s lawful q st.origins st.syzygies m inside wide h.many product

    many : length st.origins ≡ length inside
    many = many_inside K s lawful q st.origins st.syzygies m inside wide h.many product

    inside_shown : (k : ℕ) (es : List (DealtPair K)) → HaveTheirSyzygies K s q leads (cofactors_of st.basis) st.origins st.syzygies k es → AreInside K s q leads (cofactors_of st.basis) m es (map given (pair_origins k es))
    unfolding pair_origins
    inside_shown k [] shown = tt
    inside_shown k (Pair i j steps ∷ es) shown = (is_row (Event k) _ shown.0, inside_shown (suc k) es shown.1)
    inside_shown k (Skip i j via ∷ es) shown = inside_shown (suc k) es shown.1

    pub exact_valid : IsValidExact K s o n a m (exact_of_run K o a st (length m) inside)
    exact_valid = record {
      leads = leads;
      annihilates = annihilates;
      is_basis = basis_of_run;
      to_shape = (length-map st.basis (λ b. b.cofactor) ∙ same_size, wide_cofactors K s o n a st.basis h.basis);
      to_is = kept.to_is;
      inside_shape = (length-placed K q (length m) st inside, long_placed K q (length m) st inside many long_inside);
      first_inside = λ i iq. is_row (ZeroRow i) _ (kept.remainders i iq) ∙ ap (λ r. combine K s q r m) (sym (placed-row K q (length m) st inside i iq));
      later_inside = subst (AreInside K s q leads (cofactors_of st.basis) m st.listed) (sym (placed-behind K q (length m) st inside)) (inside_shown 0 st.listed h.entries.syzygies);
    }

  pub kernel_valid : IsValidExact K s o n a st.syzygies (exact_of_run K o a st (length st.syzygies) (identity_rows K (length st.syzygies)))
  kernel_valid =
      let wide = wide_syzygies K s o n a st.syzygies h.syzygies in
      exact_valid st.syzygies (identity_rows K (length st.syzygies)) wide (vanishing K s o n a st.syzygies h.syzygies) (long_identity K (length st.syzygies)) (identity_rows-matrix_times K s lawful q st.syzygies wide)

module _ (K : Domain) (s : Signature) (lawful : IsLawful s) (A : Arithmetic K) (sound : IsSoundArithmetic K s A) (n : ℕ) (a : List (Row K)) (long : AreLong K n a) (st : RunState K) (h : Holds K s s.order n a st) (complete : IsComplete K st) where
  divided : division.IsMonicBasis K s n (length a) st.basis
  divided = record { monic = are_monic K s s.order n a st.basis h.basis; rows = are_wide K s s.order n a st.basis h.basis; cofactors = λ i d k. (All-get_or (IsBasisRow K s s.order n a) st.basis i d k h.basis).wide }

  module _ (w cofactor : Row K) (wide : length w ≡ n) (rest : ReductionState K) (e : reduce K s.order A st.basis (record { row = w; cofactor = cofactor; steps = [] }) ≡ Ok rest) (more : rest.row ≢ zero_row K n) where
    abbrev start : ReductionState K
    start = record { row = w; cofactor = cofactor; steps = [] }

    taken : (steps : List (Step K)) × IsLeft K s lawful A sound n (length a) st.basis divided start steps rest
    taken = left K s lawful A sound n (length a) st.basis divided start rest wide e

    inside : AllByRecursion (λ (t : Step K). t.index < length st.basis) rest.steps
    inside = subst (AllByRecursion (λ (t : Step K). t.index < length st.basis)) (sym taken.1.listed) (recursion_from_All (λ (t : Step K). t.index < length st.basis) taken.0 taken.1.inside)

    within_rows : AllByRecursion (λ (t : Step K). t.index < length (basis_rows st.basis)) rest.steps
    within_rows = subst (λ m. AllByRecursion (λ (t : Step K). t.index < m) rest.steps) (sym (length-map st.basis (λ b. b.row))) inside

    rest_is : remainder_after K s (basis_rows st.basis) rest.steps w ≡ rest.row
    rest_is = ap (λ steps. remainder_after K s (basis_rows st.basis) steps w) taken.1.listed ∙ sym taken.1.row

    rest_long : length rest.row ≡ n
    rest_long = sym (ap length rest_is) ∙ length-remainder_after K s lawful n (basis_rows st.basis) (long_rows K s s.order n a st.basis h.basis) rest.steps w wide within_rows

    pub outside_valid : IsValidOutside K s s.order n a w (outside_of_run K s.order a st rest.steps rest.row)
    outside_valid = by (row_lead K s.order rest.row) refl
      where
        by : (t : Option Term) → row_lead K s.order rest.row ≡ t → IsValidOutside K s s.order n a w (outside_of_run K s.order a st rest.steps rest.row)
        by None f = absurd (more (zero_from K s.order rest.row f ∙ ap (zero_row K) rest_long))
        by (Some t) f =
            let lead = row_lead-Some K s.order rest.row t f in
            record {
              leads = leads_of st.basis;
              is_basis = basis_of_run K s lawful s.order n a long st h complete;
              steps_within = subst (λ m. AllByRecursion (λ (t : Step K). t.index < m) rest.steps) (sym (length-map st.basis (λ b. b.lead))) inside;
              rest_is = rest_is;
              rest_lead = t;
              rest_number = coefficient_at K rest.row t;
              leads_rest = lead;
              irreducible = λ i il column divides. true≢false
                  (sym ((divides_term_true (steps.lead_at (leads_of st.basis) i) t).1 (column, divides))
                  ∙ reduction_ends K s lawful A sound n (length a) st.basis divided start rest wide e t (coefficient_at K rest.row t) lead i (let z = length-map st.basis (λ b. b.lead) in omega arith));
            }
