-- Answers of comparisons.
--     then_equal        two comparisons in turn are equal where both are
--     reversed_greater  a comparison that is greater isn't so the other way round
use Rattle.std.proofs.Common.{◌≡◌, true, false, true≢false, refl, sym, ap}
use Rattle.std.specs.declared.cmp.Ordering.{Ordering}
use Rattle.std.specs.declared.cmp.Ordering.TheVariants.{Less, Equal, Greater}
use Rattle.std.specs.Ordering.{is_eq, is_gt, ordering_reverse, ordering_then}

pub then_equal : (a b : Ordering) → ordering_then a b ≡ Equal → (a ≡ Equal) × (b ≡ Equal)
then_equal Less b e = absurd (true≢false (ap is_eq (sym e)))
then_equal Equal b e = (refl, e)
then_equal Greater b e = absurd (true≢false (ap is_eq (sym e)))

pub reversed_greater : (r : Ordering) → is_gt r ≡ true → is_gt (ordering_reverse r) ≡ false
reversed_greater Less e = absurd (true≢false (sym e))
reversed_greater Equal e = absurd (true≢false (sym e))
reversed_greater Greater e = refl
