-- What a run begins with.
--     at_drop                  the first of the rows from a place on, and those behind it
--     IsEarlier, IsLater, Earlier    an origin is a row before a place, or from there on; so are those of a state
--     Begun, begun_row, begun  what a row, and rows from a place on make of a state
--     begin_holds              the first state of a run holds
use Rattle.std.proofs.Common.{◌≡◌, ◌≢◌, inl, inr, ℕ, zero, suc, ◌+◌, ◌<◌, ◌≤◌, List, [], ◌∷◌, ◌++◌, length, map, get_or, drop, refl, sym, ap, ◌∙◌, subst, append_assoc, append-nil, arith}
use Rattle.std.specs.declared.option.Option.{Option}
use Rattle.std.specs.declared.option.Option.TheVariants.{None, Some}
use Rattle.std.specs.declared.result.Result.{Result}
use Rattle.std.specs.declared.result.Result.TheVariants.{Ok}
use Rattle.std.specs.List.{AllByRecursion}
use Rattle.std.proofs.ByRecursion.{All-get_or, All-push}
use Rattle.std.proofs.lemmas.List.{length-append}
use Rattle.ore_algebra.specs.Domain.{Domain, HasInverses}
use Rattle.ore_algebra.specs.Limits.{Cause, ◌>>=◌}
use Rattle.ore_monomial.specs.Signature.{Signature, IsLawful}
use Rattle.ore_monomial.specs.Term.{Term}
use Rattle.ore_monomial.specs.declared.order.Order.{Order}
use Rattle.ore_rows.specs.Rows.{Row, RowOf, AreLong, zero_row, unit_row, row_scale, combine}
use Rattle.ore_rows.specs.RowLead.{coefficient_at, row_lead}
use Rattle.ore_rows.specs.Arithmetic.{Arithmetic, exact}
use Rattle.ore_rows.specs.Reduction.{BasisRow}
use Rattle.ore_pairs.specs.Run.{RunState, monic_multiple, begin_row, begin_rows, begin}
use Rattle.ore_rows.specs.declared.choices.Origin.{Origin}
use Rattle.ore_rows.specs.declared.choices.Origin.TheVariants.{ZeroRow, Event}
use Rattle.ore_rows.proofs.GreatestTerms.{zero_from}
use Rattle.ore_rows.proofs.UnitRows.{length-unit_row, of_unit_row, combine-unit_row}
use Rattle.ore_pairs.specs.PairList.{DealtPair, AreLawful, AreEntriesOf}
use Rattle.ore_groebner.specs.RunLaws.{IsBasisRow, IsSyzygy, IsNone, IsFrom, IsPlaceIn, HaveTheirSyzygies}
use Rattle.ore_groebner.proofs.Limited.{monic_of, monic_exact}
use Rattle.ore_algebra.proofs.ResultLaws.{same_ok}
use Rattle.ore_monomial.specs.LetterRule.{constant}
use Rattle.ore_groebner.proofs.Growing.{map_grow, map_last}
use Rattle.ore_groebner.proofs.Sources.{all_imply, none_other, none_more, from_more, from_new, row_place}
use Rattle.ore_groebner.proofs.Holding.{AreBack, Holds}
use Rattle.ore_groebner.proofs.Monics.{monic_good, monic_row, monic_cofactor}

at_drop : {X : Type 0} (k : ℕ) (xs : List X) (x : X) (rest : List X) (d : X) → drop k xs ≡ x ∷ rest → (k < length xs) × (get_or xs k d ≡ x) × (drop (suc k) xs ≡ rest)
at_drop zero [] x rest d e = cc
at_drop zero (y ∷ xs) x rest d e = let h : y ≡ x = cc in let t : xs ≡ rest = cc in (omega arith, h, t)
at_drop (suc k) [] x rest d e = cc
at_drop (suc k) (y ∷ xs) x rest d e = let r = at_drop k xs x rest d e in (let l = r.0 in omega arith, r.1, r.2)

-- a row of the matrix before the k-th
abbrev pub IsEarlier : ℕ → Origin → Type 0
IsEarlier k (ZeroRow i) = i < k
IsEarlier k (Event i) = ⊥

-- a row of the matrix from the k-th on
abbrev pub IsLater : ℕ → Origin → Type 0
IsLater k (ZeroRow i) = k ≤ i
IsLater k (Event i) = ⊥

earlier_other : (k : ℕ) (x : Origin) → IsEarlier k x → x ≢ ZeroRow k
earlier_other k (ZeroRow i) h e = let f = row_place i k e in omega arith
earlier_other k (Event i) h e = h

later_other : (k : ℕ) (x : Origin) → IsLater (suc k) x → x ≢ ZeroRow k
later_other k (ZeroRow i) h e = let f = row_place i k e in omega arith
later_other k (Event i) h e = h

module _ (K : Domain) (inverses : HasInverses K) (s : Signature) (lawful : IsLawful s) (o : Order) (n : ℕ) (a : List (Row K)) (long : AreLong K n a) where
  abbrev q : ℕ
  q = length a

  abbrev exactly : Arithmetic K
  exactly = exact K s

  -- the rows rs from place k on
  pub record Begun (k : ℕ) (rs : List (Row K)) (st next : RunState K) : Type 0 where
    pub basis : AllByRecursion (IsBasisRow K s o n a) next.basis
    pub syzygies : AllByRecursion (IsSyzygy K s o n a) next.syzygies
    pub more : List (BasisRow (Row K))
    pub extended : next.basis ≡ st.basis ++ more
    pub others : List (Row K)
    pub added : next.syzygies ≡ st.syzygies ++ others
    pub sources : List Origin
    pub from : next.origins ≡ st.origins ++ sources
    pub later : AllByRecursion (IsLater k) sources
    pub many : length next.origins ≡ length next.syzygies
    pub places : AllByRecursion (IsPlaceIn q 0) next.origins
    pub unlisted : next.listed ≡ st.listed
    pub back : AreBack K s o q (length st.basis) k rs next.basis next.origins next.syzygies

  -- the origins of a state are rows of a before the k-th, one for each syzygy
  pub record Earlier (k : ℕ) (st : RunState K) : Type 0 where
    pub many : length st.origins ≡ length st.syzygies
    pub places : AllByRecursion (IsPlaceIn q 0) st.origins
    pub earlier : AllByRecursion (IsEarlier k) st.origins

  Later : ℕ → List (Row K) → Type 0
  Later k rs = (st next : RunState K) → drop k a ≡ rs → AllByRecursion (IsBasisRow K s o n a) st.basis → AllByRecursion (IsSyzygy K s o n a) st.syzygies → Earlier k st
      → begin_rows K inverses o exactly q k rs st ≡ Ok next → Begun k rs st next

  -- one row
  module _ (k : ℕ) (r : Row K) (rs : List (Row K)) (st next : RunState K) (here : drop k a ≡ r ∷ rs) (good : AllByRecursion (IsBasisRow K s o n a) st.basis) (all : AllByRecursion (IsSyzygy K s o n a) st.syzygies) (before : Earlier k st) where
    abbrev unit : Row K
    unit = unit_row K q k

    at : (k < q) × (get_or a k [] ≡ r) × (drop (suc k) a ≡ rs)
    at = at_drop k a r rs [] here

    long_r : length r ≡ n
    long_r = subst (λ (r : Row K). length r ≡ n) at.1 (All-get_or (λ (r : Row K). length r ≡ n) a k [] at.0 long)

    of_r : AllByRecursion (RowOf K s) a → RowOf K s r
    of_r d = subst (RowOf K s) at.1 (All-get_or (RowOf K s) a k [] at.0 d)

    unit_made : combine K s n unit a ≡ r
    unit_made = combine-unit_row K s lawful n k a at.0 long ∙ at.1

    abbrev without : RunState K
    without = record st { syzygies = st.syzygies ++ unit ∷ []; origins = st.origins ++ ZeroRow k ∷ [] }

    abbrev with_one : BasisRow (Row K) → RunState K
    with_one b = record st { basis = st.basis ++ b ∷ [] }

    later_before : (x : Origin) → IsLater (suc k) x → IsLater k x
    later_before (ZeroRow i) h = omega arith
    later_before (Event i) h = h

    -- no syzygy comes from this row before it, nor from it where a later row comes
    none_before : IsNone st.origins (ZeroRow k)
    none_before = none_other K q (ZeroRow k) st.origins (all_imply (IsEarlier k) (λ x. x ≢ ZeroRow k) (earlier_other k) st.origins before.earlier)

    others_later : {between : RunState K} → (g : Begun (suc k) rs between next) → AllByRecursion (λ x. x ≢ ZeroRow k) g.sources
    others_later g = all_imply (IsLater (suc k)) (λ x. x ≢ ZeroRow k) (later_other k) g.sources g.later

    begun_none : row_lead K o r ≡ None → Begun (suc k) rs without next → Begun k (r ∷ rs) st next
    begun_none l g = record {
      basis = g.basis;
      syzygies = g.syzygies;
      more = g.more;
      extended = g.extended;
      others = unit ∷ g.others;
      added = g.added ∙ append_assoc st.syzygies (unit ∷ []) g.others;
      sources = ZeroRow k ∷ g.sources;
      from = g.from ∙ append_assoc st.origins (ZeroRow k ∷ []) g.sources;
      later = (let z : k ≤ k = omega arith in z, all_imply (IsLater (suc k)) (IsLater k) later_before g.sources g.later);
      many = g.many;
      places = g.places;
      unlisted = g.unlisted;
      back = inl (
        l,
        subst (λ os. IsFrom K q os next.syzygies (ZeroRow k) unit) (sym g.from)
            (subst (λ rows. IsFrom K q ((st.origins ++ ZeroRow k ∷ []) ++ g.sources) rows (ZeroRow k) unit) (sym g.added)
            (from_more K q (ZeroRow k) (st.origins ++ ZeroRow k ∷ []) (st.syzygies ++ unit ∷ []) unit g.sources g.others (others_later g) (from_new K q (ZeroRow k) st.origins st.syzygies unit none_before before.many))),
        g.back,
      );
    }

    unit_syzygy : row_lead K o r ≡ None → AllByRecursion (IsSyzygy K s o n a) (st.syzygies ++ unit ∷ [])
    unit_syzygy l = All-push (IsSyzygy K s o n a) st.syzygies unit all (record { wide = length-unit_row K q k; vanishes = unit_made ∙ zero_from K o r l ∙ ap (zero_row K) long_r; of_row = λ d. of_unit_row K s q k })

    module _ (t : Term) (l : row_lead K o r ≡ Some t) where
      abbrev b : BasisRow (Row K)
      b = monic_of K inverses s o r unit t

      unit_good : AllByRecursion (IsBasisRow K s o n a) (st.basis ++ b ∷ [])
      unit_good = All-push (IsBasisRow K s o n a) st.basis b good (monic_good K inverses s lawful o r unit t l n a long_r (length-unit_row K q k) unit_made of_r (λ d. of_unit_row K s q k))

      begun_some : Begun (suc k) rs (with_one b) next → Begun k (r ∷ rs) st next
      begun_some g = record {
        basis = g.basis;
        syzygies = g.syzygies;
        more = b ∷ g.more;
        extended = g.extended ∙ append_assoc st.basis (b ∷ []) g.more;
        others = g.others;
        added = g.added;
        sources = g.sources;
        from = g.from;
        later = all_imply (IsLater (suc k)) (IsLater k) later_before g.sources g.later;
        many = g.many;
        places = g.places;
        unlisted = g.unlisted;
        back = inr (
          t,
          l,
          (
            subst (λ (bs : List (BasisRow (Row K))). length st.basis < length bs) (sym g.extended) (let e = length-append (st.basis ++ b ∷ []) g.more in let f = length-append st.basis (b ∷ []) in omega arith),
            ap (row_scale K s (constant K (coefficient_at K r t))) (there (λ b. b.row) []) ∙ monic_row K inverses s lawful o r unit t l,
            ap (row_scale K s (constant K (coefficient_at K r t))) (there (λ b. b.cofactor) []) ∙ monic_cofactor K inverses s lawful o r unit t l,
          ),
          subst (λ os. IsNone os (ZeroRow k)) (sym g.from) (none_more K q (ZeroRow k) st.origins g.sources none_before (others_later g)),
          subst (λ i. AreBack K s o q i (suc k) rs next.basis next.origins next.syzygies) (let f = length-append st.basis (b ∷ []) in let e : length (st.basis ++ b ∷ []) ≡ suc (length st.basis) = omega arith in e) g.back,
        );
      }
        where
          there : {Y : Type 0} (f : BasisRow (Row K) → Y) (d : Y) → get_or (map f next.basis) (length st.basis) d ≡ f (monic_of K inverses s o r (unit_row K q k) t)
          there f d = ap (λ (bs : List (BasisRow (Row K))). get_or (map f bs) (length st.basis) d) g.extended
              ∙ map_grow f d (st.basis ++ monic_of K inverses s o r (unit_row K q k) t ∷ []) g.more (length st.basis) (let e = length-append st.basis (monic_of K inverses s o r (unit_row K q k) t ∷ []) in omega arith)
              ∙ map_last f d st.basis (monic_of K inverses s o r (unit_row K q k) t)

    earlier_next : (x : Origin) → IsEarlier k x → IsEarlier (suc k) x
    earlier_next (ZeroRow i) h = omega arith
    earlier_next (Event i) h = h

    with_next : (one : BasisRow (Row K)) → Earlier k st → Earlier (suc k) (with_one one)
    with_next one b = record { many = b.many; places = b.places; earlier = all_imply (IsEarlier k) (IsEarlier (suc k)) earlier_next st.origins b.earlier }

    without_next : Earlier k st → Earlier (suc k) without
    without_next b = record {
      many = length-append st.origins (ZeroRow k ∷ []) ∙ ap (λ n. n + 1) b.many ∙ sym (length-append st.syzygies (unit ∷ []));
      places = All-push (IsPlaceIn q 0) st.origins (ZeroRow k) b.places at.0;
      earlier = All-push (IsEarlier (suc k)) st.origins (ZeroRow k) (all_imply (IsEarlier k) (IsEarlier (suc k)) earlier_next st.origins b.earlier) (let z : k < suc k = omega arith in z);
    }

    begun_row : Later (suc k) rs → begin_rows K inverses o exactly q k (r ∷ rs) st ≡ Ok next → Begun k (r ∷ rs) st next
    unfolding begin_rows begin_row Later
    begun_row go e = by (row_lead K o r) refl e
      where
        by : (x : Option Term) → row_lead K o r ≡ x
            → ◌≡◌ {A = Result (RunState K) Cause} ((elim x [ None ↦ Ok (record st { syzygies = st.syzygies ++ unit_row K q k ∷ []; origins = st.origins ++ ZeroRow k ∷ [] }) | Some t ↦ monic_multiple K inverses exactly r (unit_row K q k) t >>= (λ b. Ok (record st { basis = st.basis ++ b ∷ [] })) ]) >>= (λ next. begin_rows K inverses o exactly q (suc k) rs next)) (Ok next)
            → Begun k (r ∷ rs) st next
        by None l e = begun_none l (go without next at.2 good (unit_syzygy l) (without_next before) e)
        by (Some t) l e = begun_some t l (go (with_one (b t l)) next at.2 (unit_good t l) all (with_next (b t l) before)
            (sym (ap (λ (x : Result (BasisRow (Row K)) Cause). (x >>= (λ b. Ok (record st { basis = st.basis ++ b ∷ [] }))) >>= (λ next. begin_rows K inverses o exactly q (suc k) rs next)) (monic_exact K inverses s o r (unit_row K q k) t)) ∙ e))

  begun : (rs : List (Row K)) (k : ℕ) → Later k rs
  unfolding begin_rows Later
  begun [] k st next here good all before e = subst (Begun k [] st) (same_ok st next e) (record {
    basis = good;
    syzygies = all;
    more = [];
    extended = sym (append-nil st.basis);
    others = [];
    added = sym (append-nil st.syzygies);
    sources = [];
    from = sym (append-nil st.origins);
    later = tt;
    many = before.many;
    places = before.places;
    unlisted = refl;
    back = tt;
  })
  begun (r ∷ rs) k st next here good all before e = begun_row k r rs st next here good all before (begun rs (suc k)) e

  pub begin_holds : (first : RunState K) → begin K inverses o exactly a ≡ Ok first → Holds K s o n a first
  unfolding begin Later
  begin_holds first e = record {
    basis = g.basis;
    syzygies = g.syzygies;
    entries = record {
      lawful = subst (λ ls. AreLawful K s o n (map (λ b. b.row) first.basis) (map (λ b. b.lead) first.basis) [] ls) (sym g.unlisted) tt;
      entries = λ d. subst (λ ls. AreEntriesOf K s ls) (sym g.unlisted) tt;
      syzygies = subst (λ ls. HaveTheirSyzygies K s q (map (λ b. b.lead) first.basis) (map (λ b. b.cofactor) first.basis) first.origins first.syzygies 0 ls) (sym g.unlisted) tt;
    };
    back = g.back;
    many = g.many;
    places = subst (λ (ls : List (DealtPair K)). AllByRecursion (IsPlaceIn q (length ls)) first.origins) (sym g.unlisted) g.places;
  }
    where
      g : Begun 0 a (record { basis = []; listed = []; syzygies = []; origins = [] }) first
      g = begun a 0 (record { basis = []; listed = []; syzygies = []; origins = [] }) first refl tt tt (record { many = refl; places = tt; earlier = tt }) e
