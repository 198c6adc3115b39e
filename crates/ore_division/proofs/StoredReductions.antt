-- The loop of the code, beside the definition of reduction.
--     wide_rows          the rows of a stored basis have its number of columns
--     long_row           a stored row is as long without the orders
--     loop_end, loop_next, loop_stops    what is left to do where no step is called for, after a step, and where it stops
--     loop_smaller       the row's height is the loop's measure
use Rattle.std.proofs.Common.{◌≡◌, ℕ, ◌<◌, List, length, ◌∙◌}
use Rattle.std.specs.List.{All}
use Rattle.std.specs.declared.option.Option.TheVariants.{None, Some}
use Rattle.std.specs.declared.result.Result.TheVariants.{Ok}
use Rattle.std.proofs.lemmas.List.{length-map}
use Rattle.std.proofs.lemmas.List.Elements.{All-map}
use Rattle.ore_algebra.specs.Limits.{program}
use Rattle.ore_rational.specs.Field.{rationals}
use Rattle.ore_monomial.specs.Gives.{Fails}
use Rattle.ore_monomial.specs.Signature.{Signature}
use Rattle.ore_monomial.specs.declared.stop.RingStop.{RingStop}
use Rattle.ore_monomial.proofs.Signatures.{lawful}
use Rattle.ore_monomial.proofs.Stops.{fails_like}
use Rattle.ore_ring.specs.Ordered.{Ordered}
use Rattle.ore_rows.specs.Arithmetic.{within}
use Rattle.ore_rows.specs.Reduction.{BasisRow, AreMonic, Step, ReductionState, next_step, subtract, reduce}
use Rattle.ore_rows.specs.Rows.{Row}
use Rattle.ore_rows.specs.Stored.{sums_of}
use Rattle.ore_rows.specs.StoredBasis.{StoredBasis, HaveWidths, monic_of, monics}
use Rattle.ore_rows.proofs.SoundArithmetic.{within_sound}
use Rattle.ore_division.proofs.Steps.{row_height}
use Rattle.ore_division.proofs.Reductions.{goes_down, reduce_end, reduce_next, reduce_stops}

pub long_row : (n : ℕ) (r : List Ordered) → length r ≡ n → length (sums_of r) ≡ n
long_row n r e = length-map r (λ (f : Ordered). f.sum) ∙ e

pub wide_rows : (b : StoredBasis) → HaveWidths b.cols b.width b.items → All (λ (m : BasisRow (Row rationals)). length m.row ≡ b.cols) (monics b)
wide_rows b h = All-map (λ (m : BasisRow (Row rationals)). length m.row ≡ b.cols) monic_of b.items (λ k d l. long_row b.cols _ (h k d l).0)

module _ (s : Signature) (b : StoredBasis) (monic : AreMonic rationals s.order (monics b)) (wide : HaveWidths b.cols b.width b.items) (w : ReductionState rationals) (long : length w.row ≡ b.cols) where
  pub loop_end : next_step rationals s.order (monics b) w.row ≡ None → reduce rationals s.order (within program s) (monics b) w ≡ Ok w
  loop_end = reduce_end rationals s (lawful s) s.order (within program s) (within_sound program s) (monics b) b.cols monic (wide_rows b wide) w

  module _ (t : Step rationals) (due : next_step rationals s.order (monics b) w.row ≡ Some t) where
    pub loop_next : (v : ReductionState rationals) → subtract rationals (within program s) (monics b) t w ≡ Ok v → reduce rationals s.order (within program s) (monics b) w ≡ reduce rationals s.order (within program s) (monics b) v
    loop_next v = reduce_next rationals s (lawful s) s.order (within program s) (within_sound program s) (monics b) b.cols monic (wide_rows b wide) w v t long due

    pub loop_smaller : (v : ReductionState rationals) → subtract rationals (within program s) (monics b) t w ≡ Ok v → row_height rationals s.order v.row < row_height rationals s.order w.row
    loop_smaller v e = (goes_down rationals s (lawful s) s.order (within program s) (within_sound program s) (monics b) b.cols monic (wide_rows b wide) w v t long due e).1

    pub loop_stops : (e : RingStop) → Fails e (subtract rationals (within program s) (monics b) t w) → Fails e (reduce rationals s.order (within program s) (monics b) w)
    loop_stops e = fails_like e _ _ (λ c h. reduce_stops rationals s (lawful s) s.order (within program s) (within_sound program s) (monics b) b.cols monic (wide_rows b wide) w t c long due h)
