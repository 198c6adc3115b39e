use Rattle.std.proofs.Common.{◌≡◌, ℕ, ◌<◌, ◌^◌, Bool, true, ◌&&◌, sym, ap, ◌∙◌, subst, arith, Some, Ok, ℤ, pos, negsuc, neg_ℤ, nat_abs, to_z, of_z}
use Rattle.std.specs.Prelude.{IsTrue, OkIff, if◌then◌else◌, nat_le}
use Rattle.std.specs.declared.result.Result.{Result}
use Rattle.std.proofs.lemmas.Bool.Decides.{nat_tests}
use Rattle.std.proofs.lemmas.Result.{Ok-from_Ok_iff}
use Rattle.std.proofs.lemmas.Int.{to_z_pos}
use Rattle.std.specs.Int.{w128}
use Rattle.ore_algebra.specs.Limits.{program}
use Rattle.ore_rational.specs.Fraction.{Fraction, ratio}
use Rattle.ore_rational.specs.Reduced.{reduce-self}
use Rattle.ore_rational.specs.Within.{fits}
use Rattle.ore_rational.proofs.Stored.{read}
use Rattle.ore_text.specs.CanonicalParts.{is_negative}
use Rattle.ore_text.proofs.Known.{not_error, same_ok}
use Rattle.ore_text.proofs.canonical.fraction.Goals as goal

signed_number : (z : ℤ) (b : Bool) (n : ℕ) → b ≡ is_negative z → n ≡ nat_abs z → (if b then neg_ℤ (pos n) else pos n) ≡ z
signed_number (pos k) b n e f = λ i. if e i then neg_ℤ (pos (f i)) else pos (f i)
signed_number (negsuc k) b n e f = λ i. if e i then neg_ℤ (pos (f i)) else pos (f i)

both_fit : (n d : ℕ) → n < 2 ^ 127 → d < 2 ^ 127 → (nat_le n 170141183460469231731687303715884105727 && nat_le d 170141183460469231731687303715884105727) ≡ true
both_fit n d h k = grind (arith, nat_tests)

fits_bounds : (q : Fraction) → nat_abs q.num < 2 ^ 127 → q.den < 2 ^ 127 → IsTrue (fits program q)
unfolding fits
fits_bounds q h k = both_fit (nat_abs q.num) q.den h k

denominator_small : (d e : ℕ) → d ≡ e → e < 2 ^ 127 → d < 2 ^ 127
denominator_small d e f h = omega arith

made : {E : Type 0} (q : Fraction) (n d : ℤ) (r : Result Fraction E) → nat_abs q.num < 2 ^ 127 → q.den < 2 ^ 127 → n ≡ q.num → d ≡ pos q.den → OkIff r (IsTrue (fits program (ratio n d))) (ratio n d) → r ≡ Ok q
made q n d r h k e f p =
    let same : ratio n d ≡ q = (λ i. ratio (e i) (f i)) ∙ reduce-self q in
    Ok-from_Ok_iff r (IsTrue (fits program (ratio n d))) (ratio n d) p (subst (λ x. IsTrue (fits program x)) (sym same) (fits_bounds q h k)) ∙ ap Ok same

pub returns-in-Ok-clause-only : goal.returns-in-Ok-clause-only
returns-in-Ok-clause-only c q h k s n d =
    ap Some (same_ok c.in-Ok.is (made q (to_z w128 (of_z w128 c.signed.result)) (to_z w128 c.args.denominator) c.new.result h k (read _ c.signed.type_inv ∙ c.signed.ensures ∙ signed_number q.num c.args.is_negative c.args.numerator s n) (to_z_pos w128 _ (denominator_small c.args.denominator q.den d k) ∙ ap pos d) c.new.ensures))

pub returns-in-Err-clause-only : goal.returns-in-Err-clause-only
returns-in-Err-clause-only c q h k s n d =
    absurd (not_error (made q (to_z w128 (of_z w128 c.signed.result)) (to_z w128 c.args.denominator) c.new.result h k (read _ c.signed.type_inv ∙ c.signed.ensures ∙ signed_number q.num c.args.is_negative c.args.numerator s n) (to_z_pos w128 _ (denominator_small c.args.denominator q.den d k) ∙ ap pos d) c.new.ensures) c.in-Err.is)
