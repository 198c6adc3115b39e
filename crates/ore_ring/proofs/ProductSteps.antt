-- A product of operators, from the contributions of their terms.
--     times_degree, times_stops, times_made    where a degree passes, where a contribution stops, where all are formed
--     times_belongs, times_of                  the product is of the signature
use Rattle.std.proofs.Common.{◌≡◌, Bool, true, false, cond, [], sym, ap, ◌∙◌, subst}
use Rattle.std.specs.Prelude.{IfOk}
use Rattle.std.specs.declared.result.Result.{Result}
use Rattle.std.specs.declared.result.Result.TheVariants.{Ok, Err}
use Rattle.ore_algebra.specs.Free.{empty_sum}
use Rattle.ore_algebra.specs.Limits.{Cause, Degree, program, ◌>>=◌, fold_within}
use Rattle.ore_rational.specs.Field.{rationals}
use Rattle.ore_monomial.specs.declared.stop.RingStop.{RingStop}
use Rattle.ore_monomial.specs.Gives.{Gives}
use Rattle.ore_monomial.specs.Monomial.{plain_cmp}
use Rattle.ore_monomial.specs.Signature.{Signature}
use Rattle.ore_ring.specs.Belongs.{Belongs, OperatorOf}
use Rattle.ore_ring.specs.Ordered.{Ordered}
use Rattle.ore_ring.specs.Terms.{Terms, falling}
use Rattle.ore_ring.specs.Within.{row_within, times_within, degrees_fit}
use Rattle.ore_ring.specs.Contributions.{add_terms_within, push_row}
use Rattle.ore_ring.proofs.Belonging.{of_times}
use Rattle.ore_ring.proofs.Contributed.{product_collected}
use Rattle.ore_ring.proofs.WithinLaws.{times_value}

module _ (s : Signature) (v w : Ordered) (ts us : Terms) (te : ts ≡ falling v.by v.sum) (ue : us ≡ falling w.by w.sum) (vo : Belongs s v) (wo : Belongs s w) where
  left_is : ts ≡ falling s.order v.sum
  left_is = te ∙ ap (λ o. falling o v.sum) vo.order

  right_is : us ≡ falling s.order w.sum
  right_is = ue ∙ ap (λ o. falling o w.sum) wo.order

  chosen : (b : Bool) → degrees_fit program ts us ≡ b → times_within program s v.sum w.sum ≡ cond b (fold_within (row_within program s us) (empty_sum rationals plain_cmp) ts) (Err Degree)
  unfolding times_within
  chosen b e =
      (λ i. cond (degrees_fit program (sym left_is i) (sym right_is i)) (fold_within (row_within program s (sym right_is i)) (empty_sum rationals plain_cmp) (sym left_is i)) (Err Degree))
      ∙ ap (λ c. cond c (fold_within (row_within program s us) (empty_sum rationals plain_cmp) ts) (Err Degree)) e

  pub times_degree : false ≡ degrees_fit program ts us → times_within program s v.sum w.sum ≡ Err Degree
  times_degree e = chosen false (sym e)

  collected : true ≡ degrees_fit program ts us → times_within program s v.sum w.sum ≡ (fold_within (push_row program s us) [] ts >>= add_terms_within program (empty_sum rationals plain_cmp))
  collected e = chosen true (sym e) ∙ sym (product_collected program s ts us)

  pub times_stops : true ≡ degrees_fit program ts us → (c : Cause) (z : Terms) → z ≡ [] → fold_within (push_row program s us) z ts ≡ Err c → times_within program s v.sum w.sum ≡ Err c
  times_stops e c z n h = collected e ∙ ap (λ r. r >>= add_terms_within program (empty_sum rationals plain_cmp)) (ap (λ z. fold_within (push_row program s us) z ts) (sym n) ∙ h)

  pub times_made : true ≡ degrees_fit program ts us → (z out : Terms) → z ≡ [] → fold_within (push_row program s us) z ts ≡ Ok out → times_within program s v.sum w.sum ≡ add_terms_within program (empty_sum rationals plain_cmp) out
  times_made e z out n h = collected e ∙ ap (λ r. r >>= add_terms_within program (empty_sum rationals plain_cmp)) (ap (λ z. fold_within (push_row program s us) z ts) (sym n) ∙ h)

  pub times_belongs : (x : Ordered) → x.by ≡ v.by → times_within program s v.sum w.sum ≡ Ok x.sum → Belongs s x
  times_belongs x b e = record { order = b ∙ vo.order; variables = subst (OperatorOf rationals s) (sym (times_value program s v.sum w.sum x.sum e)) (of_times rationals s v.sum w.sum vo.variables wo.variables) }

  pub times_of : (r : Result Ordered RingStop) → Gives (λ x. x.sum) r (times_within program s v.sum w.sum) → IfOk r (λ x. x.by ≡ v.by) → IfOk r (Belongs s)
  times_of (Ok x) e b = times_belongs x b e
  times_of (Err c) e b = tt
