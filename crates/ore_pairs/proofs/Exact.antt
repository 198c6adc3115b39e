-- A valid exact block shows exactness.
--     syzygies_inside          by `to`, the syzygies of the treated pairs go into the row module of l
--     left_over, left_inside, left_over_inside      what is left of a row by way of the basis and back is in the row module of l
--     exact_block              a row takes a to zeros exactly where it is in the row module of l, which has a column for
--                              each row of a
use Rattle.std.proofs.Common.{◌≡◌, ℕ, ◌<◌, List, [], ◌∷◌, length, get_or, drop, sym, ap, ◌∙◌, subst, arith}
use Rattle.std.specs.List.{AllByRecursion}
use Rattle.std.proofs.ByRecursion.{All-get_or, All-drop}
use Rattle.ore_algebra.specs.Domain.{Domain}
use Rattle.ore_algebra.specs.Free.{empty_sum}
use Rattle.ore_monomial.specs.Monomial.{plain_cmp}
use Rattle.ore_monomial.specs.Term.{Term}
use Rattle.ore_monomial.specs.declared.order.Order.{Order}
use Rattle.ore_monomial.specs.Signature.{Signature, IsLawful}
use Rattle.ore_monomial.specs.LetterRule.{Operator}
use Rattle.ore_rows.specs.Rows.{Row, RowOf, AreLong, zero_row, unit_row, row_plus, row_minus, row_scale, combine, InRowModule, IsExact}
use Rattle.ore_rows.proofs.Differences.{row_minus_self, row_minus_back}
use Rattle.ore_rows.proofs.RowLaws as Rows
use Rattle.ore_rows.proofs.RowModules.{module_zero}
use Rattle.ore_pairs.specs.Steps.{row_at}
use Rattle.ore_pairs.specs.PairList.{DealtPair, Pair, Skip, syzygies}
use Rattle.ore_pairs.specs.Blocks.{ExactBlock, IsValidExact, IsExactBlockOfSignature, AreInside}
use Rattle.ore_pairs.proofs.RowSums.{of_entry, scale-row_minus, row_minus-row_plus}
use Rattle.ore_pairs.proofs.Places.{place, combine-place, by_places}
use Rattle.ore_pairs.proofs.Syzygies.{IsPairWithin, within_lawful, combine-syzygy, long_syzygies}
use Rattle.ore_pairs.proofs.Generate.{combination_vanishes, combination_inside}
use Rattle.ore_pairs.proofs.Bases.{long_rows, through, length-through, of_through, combine-through, basis_generates}

module _ (K : Domain) (s : Signature) (lawful : IsLawful s) where
  syzygies_inside : (q : ℕ) (leads : List Term) (to l : List (Row K)) → AreLong K q to → (es : List (DealtPair K)) (rs : List (Row K)) → AreLong K (length l) rs → AllByRecursion (RowOf K s) rs
      → AllByRecursion (IsPairWithin K (length to)) es → AreInside K s q leads to l es rs → AllByRecursion (λ r. InRowModule K s q l (combine K s q r to)) (syzygies K s (length to) leads es)
  unfolding syzygies InRowModule
  syzygies_inside q leads to l long [] rs lr or w h = tt
  syzygies_inside q leads to l long (Skip i j via ∷ es) [] lr or w h = syzygies_inside q leads to l long es [] lr or w.1 h
  syzygies_inside q leads to l long (Skip i j via ∷ es) (r ∷ rs) lr or w h = syzygies_inside q leads to l long es (r ∷ rs) lr or w.1 h
  syzygies_inside q leads to l long (Pair i j steps ∷ es) [] lr or w h = absurd h
  syzygies_inside q leads to l long (Pair i j steps ∷ es) (r ∷ rs) lr or w h = (
    (r, lr.0, or.0, sym h.0 ∙ sym (combine-syzygy K s lawful q leads to i j steps long w.0.0 w.0.1 w.0.2)),
    syzygies_inside q leads to l long es rs lr.1 or.1 w.1 h.1,
  )

  -- a row of n cofactors, less what becomes of it by way of m basis rows and back
  abbrev pub left_over : ℕ → ℕ → List (Row K) → List (Row K) → Row K → Row K
  left_over m n from to c = row_minus K c (combine K s n (combine K s m c from) to)

  module _ (m : ℕ) (from to : List (Row K)) (wide : AreLong K m from) (wide_to : AreLong K (length from) to) where
    abbrev n : ℕ
    n = length from

    abbrev left : Row K → Row K
    left c = left_over m n from to c

    left-zero_row : left (zero_row K n) ≡ zero_row K n
    left-zero_row =
        ap (row_minus K (zero_row K n)) (ap (λ r. combine K s n r to) (Rows.combine-zero K s n m from wide) ∙ Rows.combine-zero K s m n to wide_to)
        ∙ row_minus_self K (zero_row K n) ∙ ap (zero_row K) (Rows.length-zero_row K s lawful n)

    left-row_plus : (a b : Row K) → length a ≡ length b → left (row_plus K a b) ≡ row_plus K (left a) (left b)
    left-row_plus a b e =
        let same : length (combine K s m a from) ≡ length (combine K s m b from) = Rows.length-combine K s lawful m a from wide ∙ sym (Rows.length-combine K s lawful m b from wide) in
        ap (row_minus K (row_plus K a b)) (ap (λ r. combine K s n r to) (Rows.combine-plus K s m a b from e) ∙ Rows.combine-plus K s n _ _ to same)
        ∙ row_minus-row_plus K s lawful a _ b _

    left-place : (k : ℕ) → k < n → (f : Operator K) → left (place K s n k f) ≡ row_scale K s f (row_minus K (unit_row K n k) (combine K s n (row_at from k) to))
    left-place k h f =
        ap (row_minus K (place K s n k f)) (ap (λ r. combine K s n r to) (combine-place K s lawful m k f from h wide) ∙ sym (Rows.scale-combine K s lawful f n (row_at from k) to))
        ∙ sym (scale-row_minus K s f _ _)

    pub left_inside : (l : List (Row K)) → AreLong K n l → ((k : ℕ) → k < n → InRowModule K s n l (row_minus K (unit_row K n k) (combine K s n (row_at from k) to)))
        → (c : Row K) → length c ≡ n → RowOf K s c → InRowModule K s n l (left c)
    left_inside l ll h c lc oc = by_places K s lawful (λ c. InRowModule K s n l (left c)) n c lc
        (subst (InRowModule K s n l) (sym left-zero_row) (module_zero K s lawful n l ll))
        (λ a b la lb x y. subst (InRowModule K s n l) (sym (left-row_plus a b (la ∙ sym lb))) (Rows.module_plus K s lawful n l _ _ x y))
        (λ k kn. subst (InRowModule K s n l) (sym (left-place k kn (get_or c k (empty_sum K plain_cmp)))) (Rows.module_scale K s lawful n l _ _ (of_entry K s c k oc) (h k kn)))

  left_over_inside : (m q : ℕ) (from to l inside : List (Row K)) → length from ≡ q → AreLong K m from → AreLong K q to → AreLong K q l → AreLong K (length l) inside → AllByRecursion (RowOf K s) inside
      → ((i : ℕ) → i < q → i < length inside)
      → ((i : ℕ) → i < q → row_minus K (unit_row K q i) (combine K s q (row_at from i) to) ≡ combine K s q (row_at inside i) l)
      → (c : Row K) → length c ≡ q → RowOf K s c → InRowModule K s q l (left_over m q from to c)
  unfolding InRowModule
  left_over_inside m q from to l inside lf wide wide_to ll li oi enough h c lc oc =
      subst (λ q. InRowModule K s q l (left_over m q from to c)) lf
      (left_inside m from to wide (subst (λ q. AreLong K q to) (sym lf) wide_to) l (subst (λ q. AreLong K q l) (sym lf) ll)
      (λ k kn. subst (λ q. InRowModule K s q l (row_minus K (unit_row K q k) (combine K s q (row_at from k) to))) (sym lf) (here k (subst (λ q. k < q) lf kn))) c (lc ∙ sym lf) oc)
    where
      here : (k : ℕ) → k < q → InRowModule K s q l (row_minus K (unit_row K q k) (combine K s q (row_at from k) to))
      here k kq = (row_at inside k, All-get_or (λ r. length r ≡ length l) inside k [] (enough k kq) li, All-get_or (RowOf K s) inside k [] (enough k kq) oi, sym (h k kq))

  module _ (o : Order) (n : ℕ) (a l : List (Row K)) (b : ExactBlock K) (ll : AreLong K (length a) l) (of : IsExactBlockOfSignature K s b) (v : IsValidExact K s o n a l b) where
    abbrev q : ℕ
    q = length a

    abbrev size : ℕ
    size = length b.basis

    abbrev to_basis : Row K → Row K
    to_basis c = through K s lawful o n a b.basis b.from b.entries v.leads v.is_basis c

    within : AllByRecursion (IsPairWithin K size) b.entries
    within = subst (λ m. AllByRecursion (IsPairWithin K m) b.entries) v.is_basis.monic.long (within_lawful K s o n b.basis v.leads [] b.entries v.is_basis.lawful)

    all_inside : AllByRecursion (λ r. InRowModule K s q l (combine K s q r b.to)) (syzygies K s size v.leads b.entries)
    all_inside = subst (λ m. AllByRecursion (λ r. InRowModule K s q l (combine K s q r b.to)) (syzygies K s m v.leads b.entries)) v.to_shape.0
        (syzygies_inside q v.leads b.to l v.to_shape.1 b.entries (drop q b.inside)
        (All-drop (λ r. length r ≡ length l) q b.inside v.inside_shape.1)
        (All-drop (RowOf K s) q b.inside of.inside)
        (subst (λ m. AllByRecursion (IsPairWithin K m) b.entries) (sym v.to_shape.0) within)
        v.later_inside)

    back_inside : (c : Row K) → InRowModule K s size (syzygies K s size v.leads b.entries) (to_basis c) → InRowModule K s q l (combine K s q (to_basis c) b.to)
    unfolding InRowModule
    back_inside c (d, ld, od, e) = subst (λ r. InRowModule K s q l (combine K s q r b.to)) e
        (combination_inside K s lawful size q l b.to d _ v.to_shape.1 ll (long_syzygies K s lawful size v.leads b.entries within) od all_inside)

    kernel_inside : (c : Row K) → length c ≡ q → RowOf K s c → combine K s n c a ≡ zero_row K n → InRowModule K s q l c
    kernel_inside c lc oc e =
        subst (InRowModule K s q l) (row_minus_back K c _ (lc ∙ sym (Rows.length-combine K s lawful q (to_basis c) b.to v.to_shape.1)))
        (Rows.module_plus K s lawful q l _ _
        (left_over_inside size q b.from b.to l b.inside v.is_basis.from_shape.0 v.is_basis.from_shape.1 v.to_shape.1 ll v.inside_shape.1 of.inside (λ i h. let e = v.inside_shape.0 in omega arith) v.first_inside c lc oc)
        (back_inside c generated))
      where
        generated : InRowModule K s size (syzygies K s size v.leads b.entries) (to_basis c)
        generated = basis_generates K s lawful o n a b.basis b.from b.entries v.leads v.is_basis of.basis of.entries (to_basis c)
            (length-through K s lawful o n a b.basis b.from b.entries v.leads v.is_basis c)
            (of_through K s lawful o n a b.basis b.from b.entries v.leads v.is_basis of.from c oc)
            (combine-through K s lawful o n a b.basis b.from b.entries v.leads v.is_basis c ∙ e)

    module_vanishes : (c : Row K) → InRowModule K s q l c → combine K s n c a ≡ zero_row K n
    unfolding InRowModule
    module_vanishes c (d, ld, od, e) = ap (λ c. combine K s n c a) (sym e) ∙ combination_vanishes K s lawful q n a d l (long_rows K s lawful o n a b.basis b.from b.entries v.leads v.is_basis) ll v.annihilates

    pub exact_block : IsExact K s n a l
    unfolding IsExact
    exact_block = (ll, λ c lc oc. (kernel_inside c lc oc, module_vanishes c))
