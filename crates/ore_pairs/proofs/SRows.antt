-- The S-row of a pair, by an arithmetic and of a signature.
--     multiples_exact, multiples_most    a difference of multiples without limits; by sound arithmetic it is that, or a stop
--     s_row_exact, s_row_most            so is the S-row
--     s_row_value                        so an S-row that comes by sound arithmetic is the exact one
--     of_multiple, of_s_row              a multiple and an S-row are of a signature where their rows are
--     below_s_row                        an S-row is below the common multiple of its pair
use Rattle.std.proofs.Common.{◌≡◌, ℕ, ◌<◌, List, [], length, refl, sym, ◌∙◌, subst}
use Rattle.std.specs.List.{AllByRecursion}
use Rattle.std.specs.declared.result.Result.TheVariants.{Ok}
use Rattle.std.proofs.ByRecursion.{All-get_or}
use Rattle.ore_algebra.specs.Domain.{Domain}
use Rattle.ore_algebra.specs.Limits.{◌>>=◌, IsAtMost}
use Rattle.ore_algebra.proofs.LimitLaws.{most_bind, most_value}
use Rattle.ore_monomial.specs.LetterRule.{Operator}
use Rattle.ore_monomial.specs.Monomial.{Divides, quotient}
use Rattle.ore_monomial.specs.Signature.{Signature, MonomialOf, IsLawful}
use Rattle.ore_monomial.specs.Term.{Term, shift}
use Rattle.ore_monomial.specs.declared.order.Order.{Order}
use Rattle.ore_monomial.proofs.Declared.{MonomialOf-quotient}
use Rattle.ore_monomial.proofs.Divisors.{product-quotient, divides-lcm_left, divides-lcm_right}
use Rattle.ore_monomial.proofs.TermOrder.{same_term}
use Rattle.ore_ring.proofs.Belonging.{of_single}
use Rattle.ore_rows.specs.Rows.{Row, RowOf, AreLong, row_minus, row_scale}
use Rattle.ore_rows.specs.RowLead.{IsRowLead, IsRowBelow}
use Rattle.ore_rows.specs.Arithmetic.{Arithmetic, exact, IsSoundArithmetic}
use Rattle.ore_rows.proofs.Differences.{of_row_minus}
use Rattle.ore_rows.proofs.RowLaws as Rows
use Rattle.ore_rows.proofs.RowLeads.{lead-row_scale_term, below-row_minus}
use Rattle.ore_rows.proofs.SoundArithmetic.{scaled_exact, less_exact, scaled_most, less_most}
use Rattle.ore_pairs.specs.Steps.{row_at, lead_at, lcm_of_leads, multiplier, multiples_less, s_row, s_row_within, AreLeads}

-- ---- by an arithmetic

module _ (K : Domain) (s : Signature) where
  multiples_exact : (d e : Operator K) (r q : Row K) → multiples_less K (exact K s) d r e q ≡ Ok (row_minus K (row_scale K s d r) (row_scale K s e q))
  unfolding multiples_less
  multiples_exact d e r q = λ i. scaled_exact K s d r i >>= λ first. scaled_exact K s e q i >>= λ second. less_exact K s first second i

  pub s_row_exact : (leads : List Term) (m : List (Row K)) (i j : ℕ) → s_row_within K (exact K s) leads m i j ≡ Ok (s_row K s leads m i j)
  unfolding s_row_within s_row
  s_row_exact leads m i j = multiples_exact (multiplier K leads (lcm_of_leads leads i j).monomial i) (multiplier K leads (lcm_of_leads leads i j).monomial j) (row_at m i) (row_at m j)

  module _ (A : Arithmetic K) (sound : IsSoundArithmetic K s A) where
    multiples_most : (d e : Operator K) (r q : Row K) → IsAtMost (multiples_less K A d r e q) (multiples_less K (exact K s) d r e q)
    unfolding multiples_less
    multiples_most d e r q = most_bind _ _ _ _ (scaled_most K s A sound d r) (λ x. most_bind _ _ _ _ (scaled_most K s A sound e q) (λ y. less_most K s A sound x y))

    pub s_row_most : (leads : List Term) (m : List (Row K)) (i j : ℕ) → IsAtMost (s_row_within K A leads m i j) (s_row_within K (exact K s) leads m i j)
    unfolding s_row_within
    s_row_most leads m i j = multiples_most (multiplier K leads (lcm_of_leads leads i j).monomial i) (multiplier K leads (lcm_of_leads leads i j).monomial j) (row_at m i) (row_at m j)

    pub s_row_value : (leads : List Term) (m : List (Row K)) (i j : ℕ) (x : Row K) → s_row_within K A leads m i j ≡ Ok x → x ≡ s_row K s leads m i j
    s_row_value leads m i j x = most_value _ x (s_row K s leads m i j) (subst (IsAtMost (s_row_within K A leads m i j)) (s_row_exact leads m i j) (s_row_most leads m i j))

-- ---- of a signature, and below the common multiple

module _ (K : Domain) (s : Signature) (lawful : IsLawful s) (leads : List Term) (i j : ℕ) where
  abbrev m : Term
  m = lcm_of_leads leads i j

  of_multiple : MonomialOf s m.monomial → (rows : List (Row K)) (k : ℕ) → k < length rows → AllByRecursion (RowOf K s) rows → RowOf K s (row_scale K s (multiplier K leads m.monomial k) (row_at rows k))
  of_multiple declared rows k h of = Rows.of_row_scale K s _ (row_at rows k) (of_single K s _ K.one (MonomialOf-quotient s m.monomial (lead_at leads k).monomial declared)) (All-get_or (RowOf K s) rows k [] h of)

  pub of_s_row : MonomialOf s m.monomial → (rows : List (Row K)) → i < length rows → j < length rows → AllByRecursion (RowOf K s) rows → RowOf K s (s_row K s leads rows i j)
  unfolding s_row
  of_s_row declared rows il jl of = of_row_minus K s _ _ (of_multiple declared rows i il of) (of_multiple declared rows j jl of)

  module _ (o : Order) (n : ℕ) (rows : List (Row K)) (long : AreLong K n rows) (are : AreLeads K o rows leads) where
    multiple_lead : (k : ℕ) → k < length rows → Divides (lead_at leads k).monomial m.monomial → (lead_at leads k).column ≡ m.column → IsRowLead K o (row_scale K s (multiplier K leads m.monomial k) (row_at rows k)) m (K.times K.one K.one)
    multiple_lead k h d e = subst (λ u. IsRowLead K o (row_scale K s (multiplier K leads m.monomial k) (row_at rows k)) u (K.times K.one K.one)) (same_term (shift (quotient m.monomial (lead_at leads k).monomial) (lead_at leads k)) m (product-quotient m.monomial (lead_at leads k).monomial d) e)
        (lead-row_scale_term K s lawful o (quotient m.monomial (lead_at leads k).monomial) K.one (row_at rows k) (lead_at leads k) K.one K.one_apart (are.monic k h))

    length-multiple : (k : ℕ) → k < length rows → length (row_scale K s (multiplier K leads m.monomial k) (row_at rows k)) ≡ n
    length-multiple k h = Rows.length-row_scale K s lawful _ (row_at rows k) ∙ Rows.row_at K s n rows k long h

    pub below_s_row : i < length rows → j < length rows → (lead_at leads i).column ≡ (lead_at leads j).column → IsRowBelow K o m (s_row K s leads rows i j)
    unfolding s_row
    below_s_row il jl e = below-row_minus K s o _ _ m (K.times K.one K.one) (length-multiple i il ∙ sym (length-multiple j jl))
        (multiple_lead i il (divides-lcm_left (lead_at leads i).monomial (lead_at leads j).monomial) refl) (multiple_lead j jl (divides-lcm_right (lead_at leads i).monomial (lead_at leads j).monomial) (sym e))
