-- The lead of a row.
--     coefficient_at     the coefficient of a row at a term, which is none past the row's entries
--     IsRowLead          a term is the greatest that has a coefficient in a row, and its coefficient is k
--     IsRowBelow         each term that has a coefficient in a row is below t
--     terms_from         the terms that have a coefficient in a row whose first column is j
--     greatest           the greatest of some terms
--     row_lead           the lead of a row, where it isn't zero
use Rattle.std.specs.Prelude.{◌≡◌, ◌≢◌, ℕ, suc, false, cond, List, [], ◌∷◌, ◌++◌, map, get_or}
use Rattle.std.specs.declared.option.Option.{Option}
use Rattle.std.specs.declared.option.Option.TheVariants.{None, Some}
use Rattle.std.specs.declared.cmp.Ordering.TheVariants.{Less}
use Rattle.std.specs.Ordering.{is_gt}
use Rattle.ore_algebra.specs.Domain.{Domain}
use Rattle.ore_algebra.specs.Free.{empty_sum, terms, coefficient}
use Rattle.ore_monomial.specs.Monomial.{plain_cmp}
use Rattle.ore_monomial.specs.Term.{Term, term_cmp}
use Rattle.ore_monomial.specs.declared.order.Order.{Order}
use Rattle.ore_rows.specs.Rows.{Row}

-- the coefficient that the entry at the term's column has at its monomial
abbrev pub coefficient_at : (K : Domain) → Row K → Term → K.Number
coefficient_at K r t = coefficient K plain_cmp (get_or r t.column (empty_sum K plain_cmp)) t.monomial

-- k stands at t, is not none, and no term with a coefficient is greater
pub record IsRowLead (K : Domain) (o : Order) (r : Row K) (t : Term) (k : K.Number) : Type 0 where
  pub stands : coefficient_at K r t ≡ k
  pub apart : k ≢ K.zero
  pub greatest : (u : Term) → coefficient_at K r u ≢ K.zero → is_gt (term_cmp o u t) ≡ false

-- each term with a coefficient is below t
abbrev pub IsRowBelow : (K : Domain) → Order → Term → Row K → Type 0
IsRowBelow K o t r = (u : Term) → coefficient_at K r u ≢ K.zero → term_cmp o u t ≡ Less

-- ---- the lead as a function

-- the terms of the entries, the first of which stands in column j
unfoldable pub terms_from : (K : Domain) → ℕ → Row K → List Term
terms_from K j [] = []
terms_from K j (f ∷ r) = map (λ t. record { monomial = t.0; column = j }) (terms K plain_cmp f) ++ terms_from K (suc j) r

-- the greatest of some terms
unfoldable pub greatest : Order → List Term → Option Term
greatest o [] = None
greatest o (t ∷ ts) = elim (greatest o ts) [ None ↦ Some t | Some u ↦ Some (cond (is_gt (term_cmp o t u)) t u) ]

-- the greatest term of a row
unfoldable pub row_lead : (K : Domain) → Order → Row K → Option Term
row_lead K o r = greatest o (terms_from K 0 r)
