-- What follows where each element but zero of a commutative ring has an inverse.
--     mul_cancel    a factor that is not zero is dropped
--     mul_apart     a product of elements that are not zero is not zero
use Rattle.std.proofs.Common.{◌≡◌, ◌≢◌, sym, ap, ◌∙◌}
use Rattle.ore_algebra.specs.Ring.{Ring}
use Rattle.ore_algebra.proofs.RingLaws

module _ (R : Ring) (comm : (a b : R.Elem) → R.mul a b ≡ R.mul b a) (inverse : R.Elem → R.Elem) (mul-inverse : (a : R.Elem) → a ≢ R.zero → R.mul a (inverse a) ≡ R.one) where
  mul_cancel : (a b c : R.Elem) → c ≢ R.zero → R.mul a c ≡ R.mul b c → a ≡ b
  mul_cancel a b c h e =
      sym (R.mul-one a) ∙ ap (λ t. R.mul a t) (sym (mul-inverse c h)) ∙ sym (R.mul_assoc a c (inverse c)) ∙ ap (λ t. R.mul t (inverse c)) e ∙ R.mul_assoc b c (inverse c) ∙ ap (λ t. R.mul b t) (mul-inverse c h) ∙ R.mul-one b

  pub mul_apart : (a b : R.Elem) → a ≢ R.zero → b ≢ R.zero → R.mul a b ≢ R.zero
  mul_apart a b n m e = n (mul_cancel a R.zero b m (e ∙ sym (RingLaws.zero-mul R b)))
