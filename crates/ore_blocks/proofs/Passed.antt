-- What follows where places of a certificate are right.
--     required_true             a test passed
--     required_then, found_then, formed_then    the same, something was found, or an operation gave a value; and what follows gives one too
--     not_true                  tests that are joined or turned round
--     nat_eq_true, nat_lt_true  tests of numbers
--     below_true, none_true     tests of terms, and of what was found
--     same_true, same_false     two values are the same, or not
use Rattle.std.proofs.Common.{◌≡◌, ℕ, ◌<◌, Bool, true, false, nat_eq, nat_lt, refl, true≢false, sym, arith}
use Rattle.std.specs.Prelude.{◌≢◌, not}
use Rattle.std.specs.declared.cmp.Ordering.{Ordering}
use Rattle.std.specs.declared.cmp.Ordering.TheVariants.{Less, Equal, Greater}
use Rattle.std.specs.declared.option.Option.{Option}
use Rattle.std.specs.declared.option.Option.TheVariants.{None, Some}
use Rattle.std.specs.declared.result.Result.{Result}
use Rattle.std.specs.declared.result.Result.TheVariants.{Ok, Err}
use Rattle.std.proofs.lemmas.Bool.Decides.{nat_tests}
use Rattle.ore_algebra.specs.Limits.{Cause}
use Rattle.ore_monomial.specs.Term.{Term, term_cmp}
use Rattle.ore_monomial.specs.declared.order.Order.{Order}
use Rattle.ore_blocks.specs.declared.place.Place.{Place}
use Rattle.ore_blocks.specs.declared.reason.Reason.{Reason}
use Rattle.ore_blocks.specs.Conditions.{Checked, formed, required, found, is_same, is_none}
use Rattle.ore_algebra.specs.Results.{◌>>=◌}
use Rattle.ore_blocks.specs.PlaceConditions.{is_below}

-- ---- places

pub required_true : (place : Place) (why : Reason) (test : Bool) (x : Unit {0}) → required place why test ≡ Ok x → test ≡ true
required_true place why true x e = refl
required_true place why false x e = absurd cc

module _ {B : Type 0} where
  pub required_then : (place : Place) (why : Reason) (test : Bool) (f : Unit {0} → Checked B) (y : B) → (required place why test >>= f) ≡ Ok y → (test ≡ true) × (f tt ≡ Ok y)
  required_then place why true f y e = (refl, e)
  required_then place why false f y e = absurd cc

  pub found_then : {A : Type 0} (place : Place) (why : Reason) (o : Option A) (f : A → Checked B) (y : B) → (found place why o >>= f) ≡ Ok y → (x : A) × (o ≡ Some x) × (f x ≡ Ok y)
  found_then place why None f y e = absurd cc
  found_then place why (Some x) f y e = (x, refl, e)

  pub formed_then : {A : Type 0} (place : Place) (r : Result A Cause) (f : A → Checked B) (y : B) → (formed place r >>= f) ≡ Ok y → (x : A) × (r ≡ Ok x) × (f x ≡ Ok y)
  formed_then place (Ok x) f y e = (x, refl, e)
  formed_then place (Err c) f y e = absurd cc

-- ---- tests

pub not_true : (a : Bool) → not a ≡ true → a ≡ false
not_true true h = absurd (true≢false (sym h))
not_true false h = refl

pub nat_eq_true : (a b : ℕ) → nat_eq a b ≡ true → a ≡ b
nat_eq_true a b h = grind (arith, nat_tests)

pub nat_lt_true : (a b : ℕ) → nat_lt a b ≡ true → a < b
nat_lt_true a b h = grind (arith, nat_tests)

pub below_true : (o : Order) (u t : Term) → is_below o u t ≡ true → term_cmp o u t ≡ Less
unfolding is_below
below_true o u t h = by (term_cmp o u t) h
  where
    by : (r : Ordering) → elim r [ Less ↦ true | Equal ↦ false | Greater ↦ false ] ≡ true → r ≡ Less
    by Less h = refl
    by Equal h = absurd (true≢false (sym h))
    by Greater h = absurd (true≢false (sym h))

pub none_true : {A : Type 0} (o : Option A) → is_none o ≡ true → o ≡ None
none_true None h = refl
none_true (Some x) h = absurd (true≢false (sym h))

module _ {A : Type 0} (d : Discrete A) (x y : A) where
  pub same_true : is_same d x y ≡ true → x ≡ y
  same_true h = by (d x y) h
    where
      by : (c : Dec (x ≡ y)) → elim c [ yes e ↦ true | no n ↦ false ] ≡ true → x ≡ y
      by (yes e) h = e
      by (no n) h = absurd (true≢false (sym h))

  pub same_false : is_same d x y ≡ false → x ≢ y
  same_false h = by (d x y) h
    where
      by : (c : Dec (x ≡ y)) → elim c [ yes e ↦ true | no n ↦ false ] ≡ false → x ≢ y
      by (yes e) h = absurd (true≢false h)
      by (no n) h = n
