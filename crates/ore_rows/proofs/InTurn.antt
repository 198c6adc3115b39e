-- A row less a multiple of another, with each difference formed right after its product.
--     products_first    where nothing but Overflow stops, all products first or each before its difference is the same
--     less_in_turn      so for a row less a multiple of another, where the degrees fit
--     turns             an operation on the items of two lists from one place on, behind the items before it
--     turn_kept, turn_made, turn_stops     the item at the place stays, is replaced, or the operation stops there
use Rattle.std.proofs.Common.{◌≡◌, ℕ, ◌+◌, ◌<◌, List, [], ◌∷◌, ◌++◌, length, map, pred, take, drop, set, get_or, refl, sym, ap, ◌∙◌, subst, arith}
use Rattle.std.proofs.lemmas.List.{length-map, length-set, take_more, take_more_set, take-set, drop-set-lt}
use Rattle.std.proofs.lemmas.List.Elements.{All-nil, All-cons, All-head, All-tail}
use Rattle.std.specs.List.{All, zip}
use Rattle.std.specs.declared.result.Result.{Result}
use Rattle.std.specs.declared.result.Result.TheVariants.{Ok, Err}
use Rattle.ore_algebra.specs.Limits.{Cause, Overflow, program, ◌>>=◌, map_within, fronted}
use Rattle.ore_algebra.proofs.ListLaws.{drop_item}
use Rattle.ore_rational.specs.Field.{rationals}
use Rattle.ore_monomial.specs.Signature.{Signature}
use Rattle.ore_monomial.specs.LetterRule.{Operator}
use Rattle.ore_ring.specs.Ordered.{Ordered}
use Rattle.ore_ring.specs.Within.{minus_within, times_within, opposite}
use Rattle.ore_ring.proofs.Contributed.{Overflows, bind_overflows, plus_overflows, times_overflows}
use Rattle.ore_rows.specs.Arithmetic.{within}
use Rattle.ore_rows.specs.Reduction.{less_multiple}
use Rattle.ore_rows.specs.RowsWithin.{HasDegrees, product_taken, in_turn}
use Rattle.ore_rows.proofs.Pairs.{both, both_next}

module _ {R G M V : Type 0} (product : G → Result M Cause) (difference : R → M → Result V Cause) (d : (r : R) (m : M) → Overflows (difference r m)) where
  abbrev AllOverflow : List G → Type 0
  AllOverflow gs = All (λ g. Overflows (product g)) gs

  abbrev differences : List R → List M → Result (List V) Cause
  differences rs ms = map_within (λ p. difference p.0 p.1) (zip rs ms)

  abbrev each : List R → List G → Result (List V) Cause
  each rs gs = map_within (λ p. product p.1 >>= difference p.0) (zip rs gs)

  products_overflow : (gs : List G) → AllOverflow gs → Overflows (map_within product gs)
  products_overflow [] h = λ e g. let no : ⊥ = cc in absurd no
  products_overflow (x ∷ gs) h =
      bind_overflows (product x) _ (All-head (λ g. Overflows (product g)) x gs h) (λ m. bind_overflows (map_within product gs) _ (products_overflow gs (All-tail (λ g. Overflows (product g)) x gs h)) (λ ms e g. let no : ⊥ = cc in absurd no))

  stops : (c : Cause) (v : Result V Cause) → c ≡ Overflow → Overflows v → ◌≡◌ {A = Result (List V) Cause} (Err c) (v >>= λ y. Err c)
  stops c (Ok y) h k = refl
  stops c (Err e) h k = ap Err (h ∙ sym (k e refl))

  one_more : (r : R) (rs : List R) (p : Result M Cause) (q : Result (List M) Cause) (rest : Result (List V) Cause) → Overflows q → (q >>= differences rs) ≡ rest
      → ((p >>= λ m. q >>= λ ms. Ok (m ∷ ms)) >>= differences (r ∷ rs)) ≡ ((p >>= difference r) >>= λ y. rest >>= λ ys. Ok (y ∷ ys))
  one_more r rs (Err c) q rest o e = refl
  one_more r rs (Ok m) (Ok ms) rest o e = ap (λ t. difference r m >>= λ y. t >>= λ ys. Ok (y ∷ ys)) e
  one_more r rs (Ok m) (Err c) rest o e = stops c (difference r m) (o c refl) (d r m) ∙ ap (λ t. difference r m >>= λ y. t >>= λ ys. Ok (y ∷ ys)) e

  pub products_first : (rs : List R) (gs : List G) → length rs ≡ length gs → AllOverflow gs → (map_within product gs >>= differences rs) ≡ each rs gs
  products_first [] [] e h = refl
  products_first [] (g ∷ gs) e h = absurd (omega arith)
  products_first (r ∷ rs) [] e h = absurd (omega arith)
  products_first (r ∷ rs) (g ∷ gs) e h = one_more r rs (product g) (map_within product gs) (each rs gs) (products_overflow gs (All-tail (λ g. Overflows (product g)) g gs h)) (products_first rs gs (ap pred e) (All-tail (λ g. Overflows (product g)) g gs h))

module _ (s : Signature) (d : Operator rationals) where
  abbrev fits : Ordered → Type 0
  fits g = HasDegrees s d g.sum

  abbrev overflows : Operator rationals → Type 0
  overflows f = Overflows (times_within program s d f)

  all_overflow : (q : List Ordered) → All fits q → All overflows (map (λ f. f.sum) q)
  all_overflow [] h = All-nil overflows
  all_overflow (g ∷ q) h = All-cons overflows g.sum (map (λ f. f.sum) q) (times_overflows program s d g.sum (All-head fits g q h)) (all_overflow q (All-tail fits g q h))

  pub less_in_turn : (r q : List Ordered) → length r ≡ length q → All fits q → less_multiple rationals (within program s) d (map (λ f. f.sum) q) (map (λ f. f.sum) r) ≡ in_turn program s d (map (λ f. f.sum) r) (map (λ f. f.sum) q)
  unfolding less_multiple product_taken
  less_in_turn r q e h =
      products_first (times_within program s d) (minus_within program) (λ f g. plus_overflows program f (opposite g)) (map (λ f. f.sum) r) (map (λ f. f.sum) q)
      (length-map r (λ f. f.sum) ∙ e ∙ sym (length-map q (λ f. f.sum))) (all_overflow q h)

module _ {X V : Type 0} (value : X → V) (op : V → V → Result V Cause) where
  abbrev pub turns : ℕ → List X → List X → Result (List V) Cause
  turns k xs ys = fronted (map value (take k xs)) (both value op (map value (drop k xs)) (map value (drop k ys)))

  module _ (xs ys : List X) (k : ℕ) (x y : X) (xl : k < length xs) (xe : x ≡ get_or xs k x) (yl : k < length ys) (ye : y ≡ get_or ys k y) where
    turn : (z : X) → op (value x) (value y) ≡ Ok (value z) → turns k xs ys ≡ fronted (map value (take k xs ++ z ∷ [])) (both value op (map value (drop (k + 1) xs)) (map value (drop (k + 1) ys)))
    turn z e = both_next value op (take k xs) (drop k xs) (drop k ys) (drop (k + 1) xs) (drop (k + 1) ys) x y z (drop_item xs k x xl xe) (drop_item ys k y yl ye) e

    pub turn_kept : op (value x) (value y) ≡ Ok (value x) → turns k xs ys ≡ turns (k + 1) xs ys
    turn_kept e =
        turn x e
        ∙ ap (λ t. fronted (map value t) (both value op (map value (drop (k + 1) xs)) (map value (drop (k + 1) ys)))) (sym (take_more xs k x xl ∙ ap (λ u. take k xs ++ u ∷ []) (sym xe)))

    pub turn_made : (w z : X) → op (value x) (value y) ≡ Ok (value z) → turns k xs ys ≡ turns (k + 1) (set (set xs k w) k z) ys
    turn_made w z e =
        turn z e
        ∙ (λ i. fronted (map value (sym taken i)) (both value op (map value (sym dropped i)) (map value (drop (k + 1) ys))))
      where
        inside : k < length (set xs k w)
        inside = subst (λ n. k < n) (sym (length-set xs k w)) xl

        taken : take (k + 1) (set (set xs k w) k z) ≡ take k xs ++ z ∷ []
        taken = take_more_set (set xs k w) k z inside ∙ ap (λ t. t ++ z ∷ []) (take-set xs k w)

        dropped : drop (k + 1) (set (set xs k w) k z) ≡ drop (k + 1) xs
        dropped = drop-set-lt (k + 1) (set xs k w) k z (omega arith) ∙ drop-set-lt (k + 1) xs k w (omega arith)

    pub turn_stops : (c : Cause) → op (value x) (value y) ≡ Err c → turns k xs ys ≡ Err c
    turn_stops c e =
        (λ i. fronted (map value (take k xs)) (both value op (map value (drop_item xs k x xl xe i)) (map value (drop_item ys k y yl ye i))))
        ∙ ap (λ r. fronted (map value (take k xs)) (r >>= λ v. both value op (map value (drop (k + 1) xs)) (map value (drop (k + 1) ys)) >>= λ vs. Ok (v ∷ vs))) e
