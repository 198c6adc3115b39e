-- Steps and pairs at one matrix, times another: what is said of unit rows holds of any matrix.
--     row-matrix_times         row k of a product
--     length-remainder_after, length-s_row     steps within a matrix keep the length; so do the pairs
--     combine-remainder_after, combine-s_row     steps and pairs at m, times b, are those at m times b
--     combine-syzygy           a syzygy times b is what the steps leave of the pair's row at b
--     IsPairWithin, within_lawful  the rows that an entry names are there; so it is with lawful entries
--     long_syzygies            syzygies have an entry for each basis row
--     syzygies_vanish          the syzygies of lawful entries take the basis to zeros
use Rattle.std.proofs.Common.{◌≡◌, ℕ, ◌<◌, List, [], ◌∷◌, length, refl, sym, ap, ◌∙◌, subst, arith}
use Rattle.std.specs.List.{AllByRecursion}
use Rattle.std.proofs.lemmas.List.{get_or-map}
use Rattle.ore_algebra.specs.Domain.{Domain}
use Rattle.ore_algebra.specs.Free.{single}
use Rattle.ore_monomial.specs.Monomial.{Monomial, quotient, plain_cmp}
use Rattle.ore_monomial.specs.Term.{Term}
use Rattle.ore_monomial.specs.declared.order.Order.{Order}
use Rattle.ore_monomial.specs.Signature.{Signature, IsLawful}
use Rattle.ore_rows.specs.Rows.{Row, AreLong, zero_row, row_minus, row_scale, identity_rows, combine, matrix_times}
use Rattle.ore_rows.proofs.Differences.{length-row_minus, combine-row_minus}
use Rattle.ore_rows.proofs.RowLaws as Rows
use Rattle.ore_rows.proofs.UnitRows.{length-identity_rows, long_identity, identity_rows-matrix_times}
use Rattle.ore_pairs.specs.Steps.{Step, row_at, lead_at, lcm_of_leads, remainder_after, s_row, syzygy}
use Rattle.ore_pairs.specs.PairList.{DealtPair, Pair, Skip, pairs_of, IsBelowStep, AreLawful, syzygies}
use Rattle.ore_pairs.proofs.PairRuleLaws.{treat_from}

-- the rows that steps name are among n
abbrev pub AreStepsWithin : (K : Domain) → ℕ → List (Step K) → Type 0
AreStepsWithin K n steps = AllByRecursion (λ (t : Step K). t.index < n) steps

module _ (K : Domain) (s : Signature) (lawful : IsLawful s) where
  pub row-matrix_times : (p : ℕ) (m b : List (Row K)) (k : ℕ) → k < length m → row_at (matrix_times K s p m b) k ≡ combine K s p (row_at m k) b
  unfolding matrix_times
  row-matrix_times p m b k h = get_or-map (λ r. combine K s p r b) m k [] [] h

  length-scaled : (q : ℕ) (m : List (Row K)) → AreLong K q m → (k : ℕ) → k < length m → (w : Monomial) (j : K.Number) → length (row_scale K s (single K plain_cmp w j) (row_at m k)) ≡ q
  length-scaled q m long k h w j = Rows.length-row_scale K s lawful _ _ ∙ Rows.row_at K s q m k long h

  pub length-remainder_after : (q : ℕ) (m : List (Row K)) → AreLong K q m → (steps : List (Step K)) (z : Row K) → length z ≡ q → AreStepsWithin K (length m) steps → length (remainder_after K s m steps z) ≡ q
  unfolding remainder_after
  length-remainder_after q m long [] z l h = l
  length-remainder_after q m long (t ∷ steps) z l h = length-remainder_after q m long steps _ (length-row_minus K s lawful q z _ l (length-scaled q m long t.index h.0 t.monomial t.number)) h.1

  pub length-s_row : (q : ℕ) (m : List (Row K)) → AreLong K q m → (leads : List Term) (i j : ℕ) → i < length m → j < length m → length (s_row K s leads m i j) ≡ q
  unfolding s_row
  length-s_row q m long leads i j il jl = length-row_minus K s lawful q _ _ (length-scaled q m long i il _ K.one) (length-scaled q m long j jl _ K.one)

  module _ (q p : ℕ) (m b : List (Row K)) (long : AreLong K q m) where
    abbrev product : List (Row K)
    product = matrix_times K s p m b

    combine-scaled : (k : ℕ) → k < length m → (w : Monomial) (j : K.Number) → combine K s p (row_scale K s (single K plain_cmp w j) (row_at m k)) b ≡ row_scale K s (single K plain_cmp w j) (row_at product k)
    combine-scaled k h w j = sym (Rows.scale-combine K s lawful (single K plain_cmp w j) p (row_at m k) b) ∙ ap (row_scale K s (single K plain_cmp w j)) (sym (row-matrix_times p m b k h))

    pub combine-remainder_after : (steps : List (Step K)) (z : Row K) → length z ≡ q → AreStepsWithin K (length m) steps → combine K s p (remainder_after K s m steps z) b ≡ remainder_after K s product steps (combine K s p z b)
    unfolding remainder_after
    combine-remainder_after [] z l h = refl
    combine-remainder_after (t ∷ steps) z l h =
        let lx = length-scaled q m long t.index h.0 t.monomial t.number in
        combine-remainder_after steps _ (length-row_minus K s lawful q z _ l lx) h.1
        ∙ ap (remainder_after K s product steps) (combine-row_minus K s lawful p z _ b (l ∙ sym lx) ∙ ap (row_minus K (combine K s p z b)) (combine-scaled t.index h.0 t.monomial t.number))

    pub combine-s_row : (leads : List Term) (i j : ℕ) → i < length m → j < length m → combine K s p (s_row K s leads m i j) b ≡ s_row K s leads product i j
    unfolding s_row
    combine-s_row leads i j il jl =
        let c = (lcm_of_leads leads i j).monomial in
        combine-row_minus K s lawful p _ _ b (length-scaled q m long i il _ K.one ∙ sym (length-scaled q m long j jl _ K.one))
        ∙ (λ e. row_minus K (combine-scaled i il (quotient c (lead_at leads i).monomial) K.one e) (combine-scaled j jl (quotient c (lead_at leads j).monomial) K.one e))

  -- ---- at unit rows

  among : (n k : ℕ) → k < n → k < length (identity_rows K n)
  among n k h = subst (λ m. k < m) (sym (length-identity_rows K n)) h

  steps_among : (n : ℕ) (steps : List (Step K)) → AreStepsWithin K n steps → AreStepsWithin K (length (identity_rows K n)) steps
  steps_among n steps h = subst (λ m. AreStepsWithin K m steps) (sym (length-identity_rows K n)) h

  pub length-syzygy : (n : ℕ) (leads : List Term) (i j : ℕ) (steps : List (Step K)) → i < n → j < n → AreStepsWithin K n steps → length (syzygy K s n leads i j steps) ≡ n
  length-syzygy n leads i j steps il jl h = length-remainder_after n (identity_rows K n) (long_identity K n) steps _ (length-s_row n (identity_rows K n) (long_identity K n) leads i j (among n i il) (among n j jl)) (steps_among n steps h)

  pub combine-syzygy : (p : ℕ) (leads : List Term) (b : List (Row K)) (i j : ℕ) (steps : List (Step K)) → AreLong K p b → i < length b → j < length b → AreStepsWithin K (length b) steps
      → combine K s p (syzygy K s (length b) leads i j steps) b ≡ remainder_after K s b steps (s_row K s leads b i j)
  combine-syzygy p leads b i j steps long il jl h =
      let n = length b in
      let units = identity_rows K n in
      combine-remainder_after n p units b (long_identity K n) steps _ (length-s_row n units (long_identity K n) leads i j (among n i il) (among n j jl)) (steps_among n steps h)
      ∙ ap (remainder_after K s (matrix_times K s p units b) steps) (combine-s_row n p units b (long_identity K n) leads i j (among n i il) (among n j jl))
      ∙ ap (λ m. remainder_after K s m steps (s_row K s leads m i j)) (identity_rows-matrix_times K s lawful p b long)

-- ---- lawful entries

abbrev pub IsPairWithin : (K : Domain) → ℕ → DealtPair K → Type 0
IsPairWithin K n (Pair i j steps) = (i < n) × (j < n) × AreStepsWithin K n steps
IsPairWithin K n (Skip i j via) = Unit {0}

module _ (K : Domain) (s : Signature) (o : Order) (p : ℕ) (basis : List (Row K)) (leads : List Term) where
  steps_below : (t : Term) (steps : List (Step K)) → AllByRecursion (IsBelowStep K o leads t) steps → AreStepsWithin K (length leads) steps
  steps_below t [] h = tt
  steps_below t (step ∷ steps) h = (h.0.within, steps_below t steps h.1)

  pub within_lawful : (before es : List (DealtPair K)) → AreLawful K s o p basis leads before es → AllByRecursion (IsPairWithin K (length leads)) es
  within_lawful before [] laws = tt
  within_lawful before (Pair i j steps ∷ es) laws =
      let new = treat_from leads (pairs_of before) i j laws.0.0 in
      let il : i < length leads = let a = new.ordered in let b = new.within in omega arith in
      ((il, new.within, steps_below _ steps laws.0.1.low), within_lawful (Pair i j steps ∷ before) es laws.1)
  within_lawful before (Skip i j via ∷ es) laws = (tt, within_lawful (Skip i j via ∷ before) es laws.1)

module _ (K : Domain) (s : Signature) (lawful : IsLawful s) where
  pub long_syzygies : (n : ℕ) (leads : List Term) (es : List (DealtPair K)) → AllByRecursion (IsPairWithin K n) es → AreLong K n (syzygies K s n leads es)
  unfolding syzygies
  long_syzygies n leads [] h = tt
  long_syzygies n leads (Pair i j steps ∷ es) h = (length-syzygy K s lawful n leads i j steps h.0.0 h.0.1 h.0.2, long_syzygies n leads es h.1)
  long_syzygies n leads (Skip i j via ∷ es) h = long_syzygies n leads es h.1

  pub syzygies_vanish : (o : Order) (p : ℕ) (basis : List (Row K)) (leads : List Term) → AreLong K p basis → (before es : List (DealtPair K)) → AllByRecursion (IsPairWithin K (length basis)) es → AreLawful K s o p basis leads before es
      → AllByRecursion (λ r. combine K s p r basis ≡ zero_row K p) (syzygies K s (length basis) leads es)
  unfolding syzygies
  syzygies_vanish o p basis leads long before [] h laws = tt
  syzygies_vanish o p basis leads long before (Pair i j steps ∷ es) h laws =
      (combine-syzygy K s lawful p leads basis i j steps long h.0.0 h.0.1 h.0.2 ∙ laws.0.1.nothing, syzygies_vanish o p basis leads long (Pair i j steps ∷ before) es h.1 laws.1)
  syzygies_vanish o p basis leads long before (Skip i j via ∷ es) h laws = syzygies_vanish o p basis leads long (Skip i j via ∷ before) es h.1 laws.1
