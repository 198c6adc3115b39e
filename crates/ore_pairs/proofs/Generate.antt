-- What a lawful list of all pairs of a monic basis shows.
--     module_of_rows           a row module is a submodule
--     combination_vanishes, combination_inside
--                              what takes each of some rows to zeros, or into a module, takes their combinations there
--     all_close                all pairs are close, where the syzygies of the treated ones are in N
--     kernel_member            what takes the basis to zeros is in each module N that has these syzygies
--     syzygies_generate        it is in their row module
--     leads_divide             the lead of each member of the basis's row module is divided by a basis lead of its column
use Rattle.std.proofs.Common.{◌≡◌, ⊎_elim, ℕ, ◌<◌, true, true≢false, List, [], ◌∷◌, length, get_or, sym, ap, ◌∙◌, subst, arith}
use Rattle.std.specs.List.{AllByRecursion}
use Rattle.std.proofs.ByRecursion.{All-get_or, All-from_get_or}
use native.Mathlib.Decide.{dec_lt}
use Rattle.ore_algebra.specs.Domain.{Domain}
use Rattle.ore_algebra.specs.Free.{empty_sum}
use Rattle.ore_monomial.specs.Monomial.{plain_cmp}
use Rattle.ore_monomial.specs.Term.{Term}
use Rattle.ore_monomial.specs.declared.order.Order.{Order}
use Rattle.ore_monomial.specs.Signature.{Signature, MonomialOf, IsLawful}
use Rattle.ore_rows.specs.Rows.{Row, RowOf, AreLong, zero_row, row_plus, row_scale, combine, InRowModule}
use Rattle.ore_rows.specs.RowLead.{IsRowLead}
use Rattle.ore_rows.proofs.RowLaws as Rows
use Rattle.ore_rows.proofs.RowModules.{module_zero, module_row, length-module}
use Rattle.ore_pairs.specs.Steps.{AreStepsOf, row_at, lead_at, AreLeads, syzygy}
use Rattle.ore_pairs.specs.PairList.{DealtPair, Pair, Skip, first, second, pairs_of, IsLawfulEntry, AreLawful, AreEntriesOf, syzygies}
use Rattle.ore_pairs.specs.PairRule.{is_listed, either_listed, AreAllListed}
use Rattle.ore_pairs.proofs.PairRuleLaws.{treat_from, skip_from, pair_to, listed_split, either_from}
use Rattle.ore_pairs.proofs.RowSums.{of_entry}
use Rattle.ore_pairs.proofs.Places.{by_combination}
use Rattle.ore_pairs.proofs.BelowModulo.{IsSubmodule}
use Rattle.ore_pairs.proofs.Close.{AreClose, close_itself, close_turned, close_skip, close_pair}
use Rattle.ore_pairs.proofs.Products.{IsLeadDivided, declared_leads}
use Rattle.ore_pairs.proofs.Central.{syzygy_member, lead_divided}
use Rattle.ore_pairs.proofs.Syzygies.{IsPairWithin, within_lawful, long_syzygies, syzygies_vanish}

module _ (K : Domain) (s : Signature) (lawful : IsLawful s) where
  pub module_of_rows : (n : ℕ) (rows : List (Row K)) → AreLong K n rows → IsSubmodule K s n (InRowModule K s n rows)
  module_of_rows n rows long = record {
    long = length-module K s lawful n rows long;
    has_zero = module_zero K s lawful n rows long;
    has_sum = Rows.module_plus K s lawful n rows;
    has_multiple = Rows.module_scale K s lawful n rows;
  }

  pub combination_vanishes : (n p : ℕ) (b : List (Row K)) (c : Row K) (rows : List (Row K)) → AreLong K p b → AreLong K n rows
      → AllByRecursion (λ r. combine K s p r b ≡ zero_row K p) rows → combine K s p (combine K s n c rows) b ≡ zero_row K p
  combination_vanishes n p b c rows lb long h = by_combination K s lawful (λ z. combine K s p z b ≡ zero_row K p) n c rows long
      (Rows.combine-zero K s n p b lb)
      (λ x y lx ly ex ey. Rows.combine-plus K s p x y b (lx ∙ sym ly) ∙ (λ i. row_plus K (ex i) (ey i)) ∙ Rows.zero_row_twice K p)
      (λ k kc kl. sym (Rows.scale-combine K s lawful (get_or c k (empty_sum K plain_cmp)) p (row_at rows k) b) ∙ ap (row_scale K s (get_or c k (empty_sum K plain_cmp))) (All-get_or (λ r. combine K s p r b ≡ zero_row K p) rows k [] kl h) ∙ Rows.scale-zero_row K s _ p)

  pub combination_inside : (n q : ℕ) (l b : List (Row K)) (c : Row K) (rows : List (Row K)) → AreLong K q b → AreLong K q l → AreLong K n rows → RowOf K s c
      → AllByRecursion (λ r. InRowModule K s q l (combine K s q r b)) rows → InRowModule K s q l (combine K s q (combine K s n c rows) b)
  combination_inside n q l b c rows lb ll long oc h = by_combination K s lawful (λ z. InRowModule K s q l (combine K s q z b)) n c rows long
      (subst (InRowModule K s q l) (sym (Rows.combine-zero K s n q b lb)) (module_zero K s lawful q l ll))
      (λ x y lx ly ix iy. subst (InRowModule K s q l) (sym (Rows.combine-plus K s q x y b (lx ∙ sym ly))) (Rows.module_plus K s lawful q l _ _ ix iy))
      (λ k kc kl. subst (InRowModule K s q l) (Rows.scale-combine K s lawful (get_or c k (empty_sum K plain_cmp)) q (row_at rows k) b)
      (Rows.module_scale K s lawful q l (get_or c k (empty_sum K plain_cmp)) _ (of_entry K s c k oc) (All-get_or (λ r. InRowModule K s q l (combine K s q r b)) rows k [] kl h)))

-- ---- all pairs are close

module _ (K : Domain) (s : Signature) (lawful : IsLawful s) (o : Order) (p : ℕ) (basis : List (Row K)) (leads : List Term) (many : length leads ≡ length basis) (declared : (k : ℕ) → MonomialOf s (lead_at leads k).monomial) where
  abbrev n : ℕ
  n = length basis

  module _ (N : Row K → Type 0) (sub : IsSubmodule K s n N) where
    abbrev Close : ℕ → ℕ → Type 0
    Close i j = AreClose K s lawful o leads n N sub i j

    abbrev AreKnown : List (DealtPair K) → Type 0
    AreKnown es = (i j : ℕ) → is_listed i j (pairs_of es) ≡ true → Close i j

    turned : (i j : ℕ) → Close i j → Close j i
    turned i j = close_turned K s lawful o leads n N sub i j

    known_either : (before : List (DealtPair K)) → AreKnown before → (i j : ℕ) → either_listed i j (pairs_of before) ≡ true → Close i j
    known_either before known i j h = ⊎_elim (known i j) (λ e. turned j i (known j i e)) (either_from i j (pairs_of before) h)

    -- the syzygy of a treated pair is in N, and its steps are of the signature
    abbrev IsMember : DealtPair K → Type 0
    IsMember (Pair i j steps) = N (syzygy K s n leads i j steps) × AreStepsOf K s steps
    IsMember (Skip i j via) = Unit {0}

    close_entry : (before : List (DealtPair K)) (e : DealtPair K) → AreKnown before → IsMember e → IsLawfulEntry K s o p basis leads before e → Close (first e) (second e)
    close_entry before (Pair i j steps) known member (allowed, treated) =
        let new = treat_from leads (pairs_of before) i j allowed in
        let jl : j < n = subst (λ m. j < m) many new.within in
        let il : i < n = let l = new.ordered in omega arith in
        close_pair K s lawful o leads n N sub declared i j il jl new.columns steps many treated.low member.1 member.0
    close_entry before (Skip i j via) known member (allowed, skipped) =
        let can = skip_from leads (pairs_of before) i j via skipped in
        close_skip K s lawful o leads n N sub declared i j via can.column can.divides (known_either before known i via can.known.0) (turned j via (known_either before known j via can.known.1))

    close_listed : (before es : List (DealtPair K)) → AreKnown before → AllByRecursion IsMember es → AreLawful K s o p basis leads before es → AreKnown es
    unfolding is_listed
    close_listed before [] known members laws i j h = absurd (true≢false (sym h))
    close_listed before (e ∷ es) known members laws i j h =
        let here : Close (first e) (second e) = close_entry before e known members.0 laws.0 in
        let more : AreKnown (e ∷ before) = λ i j h. ⊎_elim (at_hand here i j) (known i j) (listed_split i j (first e, second e) (pairs_of before) h) in
        ⊎_elim (at_hand here i j) (close_listed (e ∷ before) es more members.1 laws.1 i j) (listed_split i j (first e, second e) (pairs_of es) h)
      where
        at_hand : Close (first e) (second e) → (i j : ℕ) → (first e ≡ i) × (second e ≡ j) → Close i j
        at_hand here i j same = subst (λ i. Close i j) same.0 (subst (λ j. Close (first e) j) same.1 here)

    pub all_close : (es : List (DealtPair K)) → AllByRecursion IsMember es → AreLawful K s o p basis leads [] es → AreAllListed leads (pairs_of es) → (i j : ℕ) → i < n → j < n → (lead_at leads i).column ≡ (lead_at leads j).column → Close i j
    unfolding is_listed
    all_close es members laws all i j il jl columns = by (dec_lt i j) (dec_lt j i)
      where
        listed : AreKnown es
        listed = close_listed [] es (λ i j h. absurd (true≢false (sym h))) members laws

        by : Dec (i < j) → Dec (j < i) → Close i j
        by (yes l) d = listed i j (all i j (pair_to leads i j l (subst (λ m. j < m) (sym many) jl) columns))
        by (no a) (yes l) = turned j i (listed j i (all j i (pair_to leads j i l (subst (λ m. i < m) (sym many) il) (sym columns))))
        by (no a) (no b) = let e : i ≡ j = omega arith in subst (Close i) e (close_itself K s lawful o leads n N sub i)

    members : (es : List (DealtPair K)) → AllByRecursion N (syzygies K s n leads es) → AreEntriesOf K s es → AllByRecursion IsMember es
    unfolding syzygies
    members [] h os = tt
    members (Pair i j steps ∷ es) h os = ((h.0, os.0), members es h.1 os.1)
    members (Skip i j via ∷ es) h os = (tt, members es h os)

-- ---- what the list shows

module _ (K : Domain) (s : Signature) (lawful : IsLawful s) (o : Order) (p : ℕ) (basis : List (Row K)) (leads : List Term) (long : AreLong K p basis) (of : AllByRecursion (RowOf K s) basis) (monic : AreLeads K o basis leads)
    (es : List (DealtPair K)) (entries : AreEntriesOf K s es) (laws : AreLawful K s o p basis leads [] es) (all : AreAllListed leads (pairs_of es)) where
  abbrev size : ℕ
  size = length basis

  -- N is any module that has the syzygies of the treated pairs, and whose rows take the basis to zeros
  module _ (N : Row K → Type 0) (sub : IsSubmodule K s size N) (has_all : AllByRecursion N (syzygies K s size leads es)) (vanish : (z : Row K) → N z → combine K s p z basis ≡ zero_row K p) where
    close : (i j : ℕ) → i < size → j < size → (lead_at leads i).column ≡ (lead_at leads j).column → AreClose K s lawful o leads size N sub i j
    close = all_close K s lawful o p basis leads monic.long (declared_leads K s o basis leads monic of) N sub es
        (members K s lawful o p basis leads monic.long (declared_leads K s o basis leads monic of) N sub es has_all entries) laws all

    -- a row of cofactors of the signature that takes the basis to zeros is in N
    pub kernel_member : (z : Row K) → length z ≡ size → RowOf K s z → combine K s p z basis ≡ zero_row K p → N z
    kernel_member = syzygy_member K s lawful o p basis leads long monic N sub close vanish

    pub leads_divide_by : (z : Row K) (t : Term) (k : K.Number) → length z ≡ size → RowOf K s z → IsRowLead K o (combine K s p z basis) t k → IsLeadDivided size leads t
    leads_divide_by = lead_divided K s lawful o p basis leads long monic N sub close vanish

  -- ---- the module of these syzygies

  abbrev InSyzygies : Row K → Type 0
  InSyzygies z = InRowModule K s size (syzygies K s size leads es) z

  within : AllByRecursion (IsPairWithin K size) es
  within = subst (λ m. AllByRecursion (IsPairWithin K m) es) monic.long (within_lawful K s o p basis leads [] es laws)

  wide : AreLong K size (syzygies K s size leads es)
  wide = long_syzygies K s lawful size leads es within

  syzygies_module : IsSubmodule K s size InSyzygies
  syzygies_module = module_of_rows K s lawful size _ wide

  own : AllByRecursion InSyzygies (syzygies K s size leads es)
  own = All-from_get_or InSyzygies (syzygies K s size leads es) [] (module_row K s lawful size _ wide)

  vanishes : (z : Row K) → InSyzygies z → combine K s p z basis ≡ zero_row K p
  unfolding InRowModule
  vanishes z (c, l, oc, e) = ap (λ z. combine K s p z basis) (sym e) ∙ combination_vanishes K s lawful size p basis c _ long wide (syzygies_vanish K s lawful o p basis leads long [] es within laws)

  -- a row of cofactors of the signature that takes the basis to zeros is a combination of the syzygies of treated pairs
  pub syzygies_generate : (z : Row K) → length z ≡ length basis → RowOf K s z → combine K s p z basis ≡ zero_row K p → InRowModule K s (length basis) (syzygies K s (length basis) leads es) z
  syzygies_generate = kernel_member InSyzygies syzygies_module own vanishes

  -- the lead of a combination of the basis, by cofactors of the signature, is divided by a basis lead of its column
  pub leads_divide : (z : Row K) (t : Term) (k : K.Number) → length z ≡ length basis → RowOf K s z → IsRowLead K o (combine K s p z basis) t k → IsLeadDivided (length basis) leads t
  leads_divide = leads_divide_by InSyzygies syzygies_module own vanishes
