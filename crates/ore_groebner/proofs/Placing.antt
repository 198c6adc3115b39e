-- Rows at the places of their origins.
--     is_origin-same, is_origin-true         the test of two origins
--     row_from-found                         the row of an origin stands beside it, where it is one of them
--     length-pair_origins, length-placed     how many rows are placed
--     placed-row, placed-behind              those of the rows of a matrix, and those behind them
--     long_placed                            how long they are
--     combine-row_from                       where the rows times a matrix are syzygies, that of an origin times it is the
--                                            syzygy that comes from there
use Rattle.std.proofs.Common.{◌≡◌, ◌⊎◌, inl, inr, ℕ, zero, suc, ◌+◌, ◌<◌, Bool, true, false, cond, nat_eq, List, [], ◌∷◌, ◌++◌, length, drop, map, refl, sym, ap, ◌∙◌, subst, true≢false, arith}
use Rattle.std.specs.Prelude.{slice_get}
use Rattle.std.specs.declared.option.Option.TheVariants.{Some}
use Rattle.std.specs.Option.{option_map}
use Rattle.std.specs.List.{range_with_len}
use Rattle.std.proofs.lemmas.Bool.Decides.{nat_tests}
use Rattle.std.proofs.lemmas.List.{length-append, length-map, map-append, drop_at, get_or_append_left, get_or-map, length-replicate}
use Rattle.std.proofs.lemmas.List.FromFn.{length-map-range_with_len, get_or-map-range_with_len}
use Rattle.std.proofs.lemmas.Option.{none-some, same_Some, slice_get-map}
use Rattle.ore_algebra.specs.Domain.{Domain}
use Rattle.ore_algebra.specs.Free.{empty_sum}
use Rattle.ore_monomial.specs.Monomial.{plain_cmp}
use Rattle.ore_monomial.specs.Signature.{Signature, IsLawful}
use Rattle.ore_rows.specs.Rows.{Row, AreLong, zero_row, combine, matrix_times}
use Rattle.ore_rows.specs.Reduction.{row_at}
use Rattle.ore_rows.specs.declared.choices.Origin.{Origin}
use Rattle.ore_rows.specs.declared.choices.Origin.TheVariants.{ZeroRow, Event}
use Rattle.ore_rows.proofs.RowLaws as Rows
use Rattle.ore_pairs.specs.PairList.{DealtPair, Pair, Skip, treated_count}
use Rattle.ore_pairs.specs.Run.{RunState}
use Rattle.ore_pairs.specs.RunBlocks.{is_origin, row_from, pair_origins, inside_origins, placed}
use Rattle.ore_groebner.specs.RunLaws.{IsNone, IsFrom}

-- ---- origins

nat_eq_true : (a b : ℕ) → nat_eq a b ≡ true → a ≡ b
nat_eq_true a b h = grind (arith, nat_tests)

nat_eq_same : (a : ℕ) → nat_eq a a ≡ true
nat_eq_same a = grind (arith, nat_tests)

pub is_origin-same : (o : Origin) → is_origin o o ≡ true
unfolding is_origin
is_origin-same (ZeroRow i) = nat_eq_same i
is_origin-same (Event i) = nat_eq_same i

pub is_origin-true : (x o : Origin) → is_origin x o ≡ true → x ≡ o
unfolding is_origin
is_origin-true (ZeroRow i) (ZeroRow k) h = ap (λ n. ZeroRow n) (nat_eq_true i k h)
is_origin-true (ZeroRow i) (Event k) h = absurd (true≢false (sym h))
is_origin-true (Event i) (ZeroRow k) h = absurd (true≢false (sym h))
is_origin-true (Event i) (Event k) h = ap (λ n. Event n) (nat_eq_true i k h)

module _ {R : Type 0} (other : R) (o : Origin) where
  -- at some place the origin stands, and beside it the row; or nowhere, and the row is the other one
  abbrev pub IsFound : List Origin → List R → R → Type 0
  IsFound xs rows r = ((m : ℕ) × (slice_get xs m ≡ Some o) × (slice_get rows m ≡ Some r)) ⊎ (IsNone xs o × (r ≡ other))

  pub row_from-found : (xs : List Origin) (rows : List R) → length xs ≡ length rows → IsFound xs rows (row_from xs rows other o)
  unfolding row_from
  row_from-found [] [] e = inr (λ m h. none-some o h, refl)
  row_from-found [] (r ∷ rows) e = absurd (omega arith)
  row_from-found (x ∷ xs) [] e = absurd (omega arith)
  row_from-found (x ∷ xs) (r ∷ rows) e = by (is_origin x o) refl (row_from-found xs rows (let z : length xs ≡ length rows = omega arith in z))
    where
      behind : is_origin x o ≡ false → IsNone xs o → IsNone (x ∷ xs) o
      behind f h zero g = true≢false (sym (is_origin-same o) ∙ ap (λ y. is_origin y o) (sym (same_Some x o g)) ∙ f)
      behind f h (suc m) g = h m g

      by : (b : Bool) → is_origin x o ≡ b → IsFound xs rows (row_from xs rows other o) → IsFound (x ∷ xs) (r ∷ rows) (cond b r (row_from xs rows other o))
      by true f h = inl (0, ap (λ y. Some y) (is_origin-true x o f), refl)
      by false f (inl h) = inl (suc h.0, h.1, h.2)
      by false f (inr h) = inr (behind f h.0, h.1)

-- ---- places

length-zeros : (K : Domain) (m : ℕ) → length (zero_row K m) ≡ m
unfolding zero_row
length-zeros K m = length-replicate m (empty_sum K plain_cmp)

pub length-pair_origins : {K : Domain} (k : ℕ) (es : List (DealtPair K)) → length (pair_origins k es) ≡ treated_count es
unfolding pair_origins treated_count
length-pair_origins k [] = refl
length-pair_origins k (Pair i j steps ∷ es) = ap suc (length-pair_origins (suc k) es)
length-pair_origins k (Skip i j via ∷ es) = length-pair_origins (suc k) es

module _ (K : Domain) (q m : ℕ) (st : RunState K) (inside : List (Row K)) where
  abbrev row_of : Origin → Row K
  row_of = row_from st.origins inside (zero_row K m)

  abbrev zero_rows : List Origin
  zero_rows = map (λ i. ZeroRow i) (range_with_len 0 q)

  length-zero_rows : length zero_rows ≡ q
  length-zero_rows = length-map-range_with_len (λ i. ZeroRow i) 0 q

  split : placed K q m st inside ≡ map row_of zero_rows ++ map row_of (pair_origins 0 st.listed)
  split = map-append row_of zero_rows (pair_origins 0 st.listed)

  pub length-placed : length (placed K q m st inside) ≡ q + treated_count st.listed
  length-placed =
      length-map (inside_origins q st.listed) row_of ∙ length-append zero_rows (pair_origins 0 st.listed)
      ∙ (λ k. length-zero_rows k + length-pair_origins 0 st.listed k)

  pub placed-row : (i : ℕ) → i < q → row_at (placed K q m st inside) i ≡ row_of (ZeroRow i)
  placed-row i h =
      let l : length (map row_of zero_rows) ≡ q = length-map zero_rows row_of ∙ length-zero_rows in
      ap (λ rows. row_at rows i) split
      ∙ get_or_append_left (map row_of zero_rows) (map row_of (pair_origins 0 st.listed)) [] i (subst (λ n. i < n) (sym l) h)
      ∙ get_or-map row_of zero_rows i (ZeroRow 0) [] (subst (λ n. i < n) (sym length-zero_rows) h)
      ∙ ap row_of (get_or-map-range_with_len (λ i. ZeroRow i) 0 q i i (ZeroRow 0) h (omega arith))

  pub placed-behind : drop q (placed K q m st inside) ≡ map row_of (pair_origins 0 st.listed)
  placed-behind = ap (drop q) split ∙ drop_at (map row_of zero_rows) (map row_of (pair_origins 0 st.listed)) q (length-map zero_rows row_of ∙ length-zero_rows)

  long_row : length st.origins ≡ length inside → AreLong K m inside → (o : Origin) → length (row_of o) ≡ m
  long_row e long o = by (row_from-found (zero_row K m) o st.origins inside e)
    where
      at : (rows : List (Row K)) (k : ℕ) (r : Row K) → AreLong K m rows → slice_get rows k ≡ Some r → length r ≡ m
      at [] k r h f = absurd (none-some r f)
      at (x ∷ rows) zero r h f = subst (λ (r : Row K). length r ≡ m) (same_Some x r f) h.0
      at (x ∷ rows) (suc k) r h f = at rows k r h.1 f

      by : IsFound (zero_row K m) o st.origins inside (row_of o) → length (row_of o) ≡ m
      by (inl h) = at inside h.0 (row_of o) long h.2
      by (inr h) = ap length h.1 ∙ length-zeros K m

  pub long_placed : length st.origins ≡ length inside → AreLong K m inside → AreLong K m (placed K q m st inside)
  long_placed e long = each (inside_origins q st.listed)
    where
      each : (os : List Origin) → AreLong K m (map row_of os)
      each [] = tt
      each (o ∷ os) = (long_row e long o, each os)

-- ---- what a row times a matrix is

module _ (K : Domain) (s : Signature) (lawful : IsLawful s) (q : ℕ) (origins : List Origin) (syzygies m inside : List (Row K)) (wide : AreLong K q m) (many : length origins ≡ length syzygies)
    (product : matrix_times K s q inside m ≡ syzygies) where
  abbrev given : Origin → Row K
  given = row_from origins inside (zero_row K (length m))

  pub many_inside : length origins ≡ length inside
  unfolding matrix_times
  many_inside = many ∙ ap length (sym product) ∙ length-map inside (λ r. combine K s q r m)

  pub combine-row_from : (o : Origin) (c : Row K) → IsFrom K q origins syzygies o c → c ≡ combine K s q (given o) m
  unfolding matrix_times
  combine-row_from o c from = by (row_from-found (zero_row K (length m)) o origins inside many_inside)
    where
      by : IsFound (zero_row K (length m)) o origins inside (given o) → c ≡ combine K s q (given o) m
      by (inl h) = same_Some c (combine K s q (given o) m)
          (sym (from.there h.0 h.1) ∙ ap (λ (rows : List (Row K)). slice_get rows h.0) (sym product) ∙ slice_get-map (λ r. combine K s q r m) inside h.0 ∙ ap (option_map (λ r. combine K s q r m)) h.2)
      by (inr h) = from.absent h.0 ∙ sym (ap (λ r. combine K s q r m) h.1 ∙ Rows.combine-zero K s (length m) q m wide)
