-- The lines of the pairs before one.
--     before_next      one pair more
--     before_all       past the last pair
--     before_none      before the first
use Rattle.std.proofs.Common.{◌≡◌, ℕ, zero, suc, ◌+◌, ◌≤◌, List, [], ◌∷◌, length, refl, ap, ◌∙◌, Some, arith}
use Rattle.std.specs.List.{slice_get}
use Rattle.ore_parts.specs.declared.block.PairEntry.{PairEntry}
use Rattle.ore_check.specs.Layout.{entry_lines, lines_before}

pub before_none : (es : List PairEntry) → lines_before es 0 ≡ 0
unfolding lines_before
before_none [] = refl
before_none (e ∷ es) = refl

pub before_next : (es : List PairEntry) (k : ℕ) (e : PairEntry) → slice_get es k ≡ Some e → lines_before es (k + 1) ≡ lines_before es k + entry_lines e
unfolding lines_before
before_next [] k e at = absurd cc
before_next (x ∷ es) zero e at =
    let same : x ≡ e = cc in
    (λ i. entry_lines (same i) + before_none es i) ∙ (let h : entry_lines e + 0 ≡ 0 + entry_lines e = omega arith in h)
before_next (x ∷ es) (suc k) e at =
    let h = before_next es k e at in
    ap (lines_before (x ∷ es)) (let n : suc k + 1 ≡ suc (k + 1) = omega arith in n)
    ∙ (let n : entry_lines x + lines_before es (k + 1) ≡ entry_lines x + lines_before es k + entry_lines e = omega arith in n)

pub before_all : (es : List PairEntry) (k n : ℕ) → length es ≤ k → k ≤ n → lines_before es k ≡ lines_before es n
unfolding lines_before
before_all [] k n h j = refl
before_all (e ∷ es) zero n h j = absurd (omega arith)
before_all (e ∷ es) (suc k) zero h j = absurd (omega arith)
before_all (e ∷ es) (suc k) (suc n) h j = ap (λ m. entry_lines e + m) (before_all es k n (omega arith) (omega arith))
