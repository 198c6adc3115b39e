use Rattle.std.proofs.Common.{◌≡◌, ◌+◌, ◌<◌, ◌++◌, take, drop, length, sym, ap, ◌∙◌, refl, arith}
use Rattle.std.specs.declared.cmp.Ordering.{Ordering}
use Rattle.std.specs.declared.cmp.Ordering.TheVariants.{Less, Equal, Greater}
use Rattle.std.specs.declared.result.Result.TheVariants.{Ok}
use Rattle.std.proofs.lemmas.Result.{err_from_is_err_and}
use Rattle.ore_monomial.specs.Monomial.{order_cmp}
use Rattle.ore_algebra.specs.Limits.{program}
use Rattle.ore_ring.proofs.MergeSteps.{kept-append, kept_gone, kept_there}
use Rattle.ore_ring.proofs.Splice.{splice_end, splice_before, splice_at, splice_stops, set-split}
use Rattle.ore_monomial.proofs.Stops.{fails_like}
use Rattle.ore_ring.proofs.place.splice.Goals as goal
use Rattle.ore_ring.proofs.place.splice.Goals.{then-k-len+in_default, else-k-len}

greater_left : (r : Ordering) → (r ≡ Less → ⊥) → (r ≡ Equal → ⊥) → Greater ≡ r
greater_left Less a b = absurd (a refl)
greater_left Equal a b = absurd (b refl)
greater_left Greater a b = refl

pub returns-in_err-s-in-Equal-clause-turns : goal.returns-in_err-s-in-Equal-clause-turns
returns-in_err-s-in-Equal-clause-turns c =
    let p = err_from_is_err_and c.from_residual.result c.from_residual.ensures.1 in
    let ts = c.args.terms.now.items in
    let l : c.args.k < length ts = omega (arith, c.len.ensures, c.if-k-len.true, c.args.terms.now.ok.0) in
    rw (p.1, p.2) (fails_like _ _ _ (λ e h. splice_stops program c.args.order (c.args.exps, c.args.coef) ts c.args.k c.requires.over c.index.result.now e l c.index.ensures (sym c.in-Equal.is ∙ c.compare.ensures) h) c.in_err-s-in-Equal.ensures)

pub returns-then-is_zero-clause-turns : goal.returns-then-is_zero-clause-turns
returns-then-is_zero-clause-turns c =
    let ts = c.args.terms.now.items in
    let l : c.args.k < length ts = omega (arith, c.len.ensures, c.if-k-len.true, c.args.terms.now.ok.0) in
    let rest = drop (c.args.k + 1) ts in
    splice_at program c.args.order (c.args.exps, c.args.coef) ts c.args.k c.requires.over c.index.result.now c.in_ok-s-in-Equal.s l c.index.ensures (sym c.in-Equal.is ∙ c.compare.ensures) c.in_ok-s-in-Equal.ensures
    ∙ ap (λ us. Ok (take c.args.k ts ++ us)) (sym (kept-append c.index.result.now.0 c.in_ok-s-in-Equal.s rest) ∙ ap (λ us. us ++ rest) (kept_gone c.index.result.now.0 c.in_ok-s-in-Equal.s (c.is_zero.ensures.0 c.if-is_zero.true)))
    ∙ ap Ok (sym c.remove.ensures.by_index.2)

pub returns-else-is_zero-clause-turns : goal.returns-else-is_zero-clause-turns
returns-else-is_zero-clause-turns c =
    let ts = c.args.terms.now.items in
    let l : c.args.k < length ts = omega (arith, c.len.ensures, c.if-k-len.true, c.args.terms.now.ok.0) in
    let rest = drop (c.args.k + 1) ts in
    let s = c.in_ok-s-in-Equal.s in
    splice_at program c.args.order (c.args.exps, c.args.coef) ts c.args.k c.requires.over c.index.result.now s l c.index.ensures (sym c.in-Equal.is ∙ c.compare.ensures) c.in_ok-s-in-Equal.ensures
    ∙ ap (λ us. Ok (take c.args.k ts ++ us)) (sym (kept-append c.index.result.now.0 s rest) ∙ ap (λ us. us ++ rest) (kept_there c.index.result.now.0 s (λ e. Rattle.std.proofs.Common.true≢false (sym (c.is_zero.ensures.1 e) ∙ c.if-is_zero.false))))
    ∙ ap Ok (sym (set-split ts c.args.k (c.index.result.now.0, s) l))

pub returns-clause-turns : goal.returns-clause-turns
returns-clause-turns c =
    let ts = c.args.terms.now.items in
    elim c.if-k-len.branch [
      | then-k-len+in_default w ↦ let t = w.index.result.now in
          let l : c.args.k < length ts = omega (arith, c.len.ensures, w.if-k-len.true, c.args.terms.now.ok.0) in
          splice_before program c.args.order (c.args.exps, c.args.coef) ts c.args.k c.requires.over t l w.index.ensures
          (greater_left (order_cmp c.args.order c.args.exps t.0) (λ e. c.requires.rest c.args.k t (omega arith) l (ap (λ u. order_cmp c.args.order c.args.exps u.0) (sym w.index.ensures) ∙ e)) (λ e. w.in_default.not-Equal (w.compare.ensures ∙ e)))
      | else-k-len w ↦ splice_end program c.args.order (c.args.exps, c.args.coef) ts c.args.k c.requires.over (omega (arith, c.len.ensures, w.if-k-len.false, c.args.terms.now.ok.0))
    ] ∙ ap Ok (sym c.in_ok-insert.ensures.items)
