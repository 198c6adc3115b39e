-- A complete run is exact.
--     shown_inside             times the cofactor rows, the syzygies of the treated pairs go into the module of those of the state
--     complete_exact           a row of the signature takes a to zeros exactly where it is a combination of the syzygies
use Rattle.std.proofs.Common.{◌≡◌, ℕ, suc, ◌<◌, List, [], ◌∷◌, length, sym, ap, ◌∙◌, subst}
use Rattle.std.specs.List.{AllByRecursion}
use Rattle.std.proofs.lemmas.List.{length-map}
use Rattle.ore_algebra.specs.Domain.{Domain}
use Rattle.ore_monomial.specs.Signature.{Signature, IsLawful}
use Rattle.ore_monomial.specs.Term.{Term}
use Rattle.ore_monomial.specs.declared.order.Order.{Order}
use Rattle.ore_rows.specs.Rows.{Row, RowOf, AreLong, zero_row, unit_row, row_minus, combine, InRowModule, IsExact}
use Rattle.ore_rows.specs.Reduction.{BasisRow, basis_rows, cofactors_of, leads_of, row_at}
use Rattle.ore_pairs.specs.Run.{RunState, IsComplete, from_rows}
use Rattle.ore_rows.specs.declared.choices.Origin.{Origin}
use Rattle.ore_rows.specs.declared.choices.Origin.TheVariants.{ZeroRow, Event}
use Rattle.ore_rows.proofs.Differences.{row_minus_back}
use Rattle.ore_rows.proofs.RowLaws as Rows
use Rattle.ore_pairs.specs.PairList.{DealtPair, Pair, Skip, syzygies}
use Rattle.ore_pairs.proofs.Exact.{left_over, left_inside}
use Rattle.ore_pairs.proofs.Generate.{combination_vanishes, combination_inside, syzygies_generate}
use Rattle.ore_pairs.proofs.Syzygies.{IsPairWithin, within_lawful, combine-syzygy, long_syzygies}
use Rattle.ore_groebner.specs.RunLaws.{HaveTheirSyzygies}
use Rattle.ore_groebner.proofs.Holding.{Holds, leads_are, long_rows, wide_cofactors, of_rows, wide_syzygies, vanishing}
use Rattle.ore_groebner.proofs.Returning.{length-from_rows, long_from_rows, of_from_rows, keeps}
use Rattle.ore_groebner.proofs.Sources.{from_inside}

module _ (K : Domain) (s : Signature) (lawful : IsLawful s) where
  shown_inside : (q : ℕ) (leads : List Term) (cofactors : List (Row K)) (os : List Origin) (l : List (Row K)) → AreLong K q cofactors → AreLong K q l → (k : ℕ) (es : List (DealtPair K)) → AllByRecursion (IsPairWithin K (length cofactors)) es → HaveTheirSyzygies K s q leads cofactors os l k es
      → AllByRecursion (λ r. InRowModule K s q l (combine K s q r cofactors)) (syzygies K s (length cofactors) leads es)
  unfolding syzygies
  shown_inside q leads cofactors os l long ll k [] w h = tt
  shown_inside q leads cofactors os l long ll k (Pair i j steps ∷ es) w h = (
    subst (InRowModule K s q l) (sym (combine-syzygy K s lawful q leads cofactors i j steps long w.0.0 w.0.1 w.0.2)) (from_inside K s lawful q os l ll (Event k) _ h.0),
    shown_inside q leads cofactors os l long ll (suc k) es w.1 h.1,
  )
  shown_inside q leads cofactors os l long ll k (Skip i j via ∷ es) w h = shown_inside q leads cofactors os l long ll (suc k) es w.1 h.1

  module _ (o : Order) (n : ℕ) (a : List (Row K)) (long : AreLong K n a) (of : AllByRecursion (RowOf K s) a) (st : RunState K) (h : Holds K s o n a st) (complete : IsComplete K st) where
    abbrev q : ℕ
    q = length a

    abbrev size : ℕ
    size = length st.basis

    abbrev leads : List Term
    leads = leads_of st.basis

    abbrev es : List (DealtPair K)
    es = st.listed

    abbrev from : List (Row K)
    from = from_rows K o size 0 a

    wide : AreLong K q (cofactors_of st.basis)
    wide = wide_cofactors K s o n a st.basis h.basis

    long_basis : AreLong K n (basis_rows st.basis)
    long_basis = long_rows K s o n a st.basis h.basis

    long_kernel : AreLong K q st.syzygies
    long_kernel = wide_syzygies K s o n a st.syzygies h.syzygies

    long_from : AreLong K size (from_rows K o (length st.basis) 0 a)
    long_from = long_from_rows K s lawful o size 0 a

    within : AllByRecursion (IsPairWithin K (length (leads_of st.basis))) st.listed
    within = within_lawful K s o n (basis_rows st.basis) leads [] es h.entries.lawful

    within_size : AllByRecursion (IsPairWithin K (length st.basis)) st.listed
    within_size = subst (λ m. AllByRecursion (IsPairWithin K m) es) (length-map st.basis (λ b. b.lead)) within

    -- a row of cofactors by way of the basis
    abbrev through : Row K → Row K
    through c = combine K s size c from

    generated : (c : Row K) → RowOf K s c → combine K s n c a ≡ zero_row K n → InRowModule K s size (syzygies K s size leads es) (through c)
    generated c oc e = subst (λ m. InRowModule K s m (syzygies K s m leads es) (through c)) (length-map st.basis (λ b. b.row))
        (syzygies_generate K s lawful o n (basis_rows st.basis) leads long_basis (of_rows K s o n a st.basis h.basis of) (leads_are K s o n a st.basis h.basis) es (h.entries.entries of) h.entries.lawful complete (through c)
        (Rows.length-combine K s lawful size c from long_from ∙ sym (length-map st.basis (λ b. b.row)))
        (Rows.of_combine K s size c from oc (of_from_rows K s lawful o size 0 a))
        (Rows.combine-combine K s lawful size n c from (basis_rows st.basis) long_from long_basis ∙ ap (combine K s n c) (keeps K s lawful o n a long st h).from_is ∙ e))

    all_inside : AllByRecursion (λ r. InRowModule K s q st.syzygies (combine K s q r (cofactors_of st.basis))) (syzygies K s size leads es)
    all_inside =
        let e = length-map st.basis (λ (b : BasisRow (Row K)). b.cofactor) in
        subst (λ m. AllByRecursion (λ r. InRowModule K s q st.syzygies (combine K s q r (cofactors_of st.basis))) (syzygies K s m leads es)) e
        (shown_inside q leads (cofactors_of st.basis) st.origins st.syzygies wide long_kernel 0 es (subst (λ m. AllByRecursion (IsPairWithin K m) es) (sym e) within_size) h.entries.syzygies)

    returned : (c : Row K) → InRowModule K s size (syzygies K s size leads es) (through c) → InRowModule K s q st.syzygies (combine K s q (through c) (cofactors_of st.basis))
    unfolding InRowModule
    returned c (d, ld, od, e) = subst (λ r. InRowModule K s q st.syzygies (combine K s q r (cofactors_of st.basis))) e
        (combination_inside K s lawful size q st.syzygies (cofactors_of st.basis) d _ wide long_kernel (long_syzygies K s lawful size leads es within_size) od all_inside)

    left : (c : Row K) → length c ≡ q → RowOf K s c → InRowModule K s q st.syzygies (left_over K s lawful size q from (cofactors_of st.basis) c)
    left c lc oc =
        let e = length-from_rows K s lawful o size 0 a in
        subst (λ m. InRowModule K s m st.syzygies (left_over K s lawful size m from (cofactors_of st.basis) c)) e
        (left_inside K s lawful size from (cofactors_of st.basis) long_from (subst (λ m. AreLong K m (cofactors_of st.basis)) (sym e) wide) st.syzygies (subst (λ m. AreLong K m st.syzygies) (sym e) long_kernel)
        (λ k kn. subst (λ m. InRowModule K s m st.syzygies (row_minus K (unit_row K m k) (combine K s m (row_at from k) (cofactors_of st.basis)))) (sym e)
        (from_inside K s lawful q st.origins st.syzygies long_kernel (ZeroRow k) _ ((keeps K s lawful o n a long st h).remainders k (subst (λ m. k < m) e kn))))
        c (lc ∙ sym e) oc)

    kernel_inside : (c : Row K) → length c ≡ q → RowOf K s c → combine K s n c a ≡ zero_row K n → InRowModule K s q st.syzygies c
    kernel_inside c lc oc e =
        subst (InRowModule K s q st.syzygies) (row_minus_back K c _ (lc ∙ sym (Rows.length-combine K s lawful q (through c) (cofactors_of st.basis) wide)))
        (Rows.module_plus K s lawful q st.syzygies _ _ (left c lc oc) (returned c (generated c oc e)))

    module_vanishes : (c : Row K) → InRowModule K s q st.syzygies c → combine K s n c a ≡ zero_row K n
    unfolding InRowModule
    module_vanishes c (d, ld, od, e) = ap (λ c. combine K s n c a) (sym e) ∙ combination_vanishes K s lawful q n a d st.syzygies long long_kernel (vanishing K s o n a st.syzygies h.syzygies)

    pub complete_exact : IsExact K s n a st.syzygies
    unfolding IsExact
    complete_exact = (long_kernel, λ c lc oc. (kernel_inside c lc oc, module_vanishes c))
