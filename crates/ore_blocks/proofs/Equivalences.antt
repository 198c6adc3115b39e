-- Places that are right exactly where something holds, one after another.
--     same_claim, map_iff       of the claim itself, and of an equivalent one
--     goes_on                   a place that gives a value leaves what is behind it
--     goes_iff, value_iff       a place before others, and one that gives a known value
--     gives_iff, exists_iff     one that gives a known value where something holds, and one that gives some value
--     required_iff, formed_iff  a test, and an operation that gives a known value, before others
--     passes_iff, formed_value_iff       a test, and an operation alone
--     nested                    places before others, of which the first are two
--     nat_eq_iff, nat_lt_iff, both_iff, below_iff, none_iff, same_iff, different_iff        tests
use Rattle.std.proofs.Common.{◌≡◌, ◌↔◌, ℕ, ◌<◌, Bool, true, false, ◌&&◌, nat_eq, nat_lt, refl, sym, ap, ◌∙◌, subst, arith}
use Rattle.std.specs.Prelude.{◌≢◌, not}
use Rattle.std.specs.declared.cmp.Ordering.TheVariants.{Less, Equal, Greater}
use Rattle.std.specs.declared.option.Option.{Option}
use Rattle.std.specs.declared.option.Option.TheVariants.{None}
use Rattle.std.specs.declared.result.Result.{Result}
use Rattle.std.specs.declared.result.Result.TheVariants.{Ok, Err}
use Rattle.std.proofs.lemmas.Bool.Decides.{nat_tests}
use Rattle.std.proofs.lemmas.Bool.{and_parts}
use Rattle.ore_algebra.specs.Limits.{Cause}
use Rattle.ore_monomial.specs.Term.{Term, term_cmp}
use Rattle.ore_monomial.specs.declared.order.Order.{Order}
use Rattle.ore_blocks.specs.declared.place.Place.{Place}
use Rattle.ore_blocks.specs.declared.reason.Reason.{Reason}
use Rattle.ore_blocks.specs.Conditions.{Checked, formed, required, is_same, is_none}
use Rattle.ore_algebra.specs.Results.{◌>>=◌}
use Rattle.ore_blocks.specs.PlaceConditions.{is_below}
use Rattle.ore_blocks.proofs.Passed.{required_true, not_true, nat_eq_true, nat_lt_true, below_true, none_true, same_true, same_false}
use Rattle.ore_algebra.proofs.ResultLaws.{bound, same_ok}
use Rattle.ore_blocks.proofs.MonicLeads.{same_yes, same_no}

pub same_claim : {P : Type 0} → P ↔ P
same_claim = (λ p. p, λ p. p)

pub map_iff : {P Q R : Type 0} → P ↔ Q → Q ↔ R → P ↔ R
map_iff h k = (λ p. k.0 (h.0 p), λ r. h.1 (k.1 r))

-- ---- places

pub goes_on : {A B : Type 0} (r : Checked A) (f : A → Checked B) (x : A) (y : Checked B) → r ≡ Ok x → f x ≡ y → (r >>= f) ≡ y
goes_on r f x y e h = ap (λ t. t >>= f) e ∙ h

module _ {A B : Type 0} {P Q : Type 0} where
  pub gives_iff : (r : Checked A) (f : A → Checked B) (v : A) (y : B) → ((x : A) → (r ≡ Ok x) ↔ (P × (v ≡ x))) → (P → (f v ≡ Ok y) ↔ Q) → ((r >>= f) ≡ Ok y) ↔ (P × Q)
  gives_iff r f v y p q = (
    λ h. let x = bound r f y h in let a = (p x.0).0 x.1 in (a.0, (q a.0).0 (subst (λ w. f w ≡ Ok y) (sym a.1) x.2)),
    λ h. goes_on r f v (Ok y) ((p v).1 (h.0, refl)) ((q h.0).1 h.1),
  )

module _ {A B : Type 0} (P Q : A → Type 0) where
  pub exists_iff : (r : Checked A) (f : A → Checked B) (y : B) → ((x : A) → (r ≡ Ok x) ↔ P x) → ((x : A) → P x → (f x ≡ Ok y) ↔ Q x) → ((r >>= f) ≡ Ok y) ↔ ((x : A) × P x × Q x)
  exists_iff r f y p q = (
    λ h. let x = bound r f y h in let a = (p x.0).0 x.1 in (x.0, a, (q x.0 a).0 x.2),
    λ h. goes_on r f h.0 (Ok y) ((p h.0).1 h.1) ((q h.0 h.1).1 h.2),
  )

module _ {B : Type 0} {P Q : Type 0} where
  pub goes_iff : (r : Checked (Unit {0})) (f : Unit {0} → Checked B) (y : B) → (r ≡ Ok tt) ↔ P → (P → (f tt ≡ Ok y) ↔ Q) → ((r >>= f) ≡ Ok y) ↔ (P × Q)
  goes_iff r f y p q = (
    λ h. let x = bound r f y h in (p.0 x.1, (q (p.0 x.1)).0 x.2),
    λ h. goes_on r f tt (Ok y) (p.1 h.0) ((q h.0).1 h.1),
  )

  pub required_iff : (place : Place) (why : Reason) (test : Bool) (f : Unit {0} → Checked B) (y : B) → (test ≡ true) ↔ P → (P → (f tt ≡ Ok y) ↔ Q) → ((required place why test >>= f) ≡ Ok y) ↔ (P × Q)
  required_iff place why test f y p q = goes_iff (required place why test) f y (λ h. p.0 (required_true place why test tt h), λ h. ap (required place why) (p.1 h)) q

module _ {A B : Type 0} {Q : Type 0} where
  pub value_iff : (r : Checked A) (f : A → Checked B) (x : A) (y : B) → r ≡ Ok x → (f x ≡ Ok y) ↔ Q → ((r >>= f) ≡ Ok y) ↔ Q
  value_iff r f x y e q = (λ h. q.0 (sym (ap (λ t. t >>= f) e) ∙ h), λ h. ap (λ t. t >>= f) e ∙ q.1 h)

  pub formed_iff : (place : Place) (r : Result A Cause) (f : A → Checked B) (x : A) (y : B) → r ≡ Ok x → (f x ≡ Ok y) ↔ Q → ((formed place r >>= f) ≡ Ok y) ↔ Q
  formed_iff place r f x y e q = value_iff (formed place r) f x y (ap (formed place) e) q

pub passes_iff : {P : Type 0} (place : Place) (why : Reason) (test : Bool) → (test ≡ true) ↔ P → (required place why test ≡ Ok tt) ↔ P
passes_iff place why test p = (λ h. p.0 (required_true place why test tt h), λ h. ap (required place why) (p.1 h))

pub formed_value_iff : {A : Type 0} (place : Place) (r : Result A Cause) (v : A) → r ≡ Ok v → (x : A) → (formed place r ≡ Ok x) ↔ (v ≡ x)
formed_value_iff place r v e x = (λ h. same_ok v x (sym (ap (formed place) e) ∙ h), λ h. ap (formed place) e ∙ ap Ok h)

pub nested : {A B C : Type 0} {Q : Type 0} (r : Checked A) (f : A → Checked B) (g : B → Checked C) (y : C) → ((r >>= λ x. f x >>= g) ≡ Ok y) ↔ Q → (((r >>= f) >>= g) ≡ Ok y) ↔ Q
nested (Ok x) f g y q = q
nested (Err e) f g y q = q

-- ---- tests

pub nat_eq_iff : (a b : ℕ) → (nat_eq a b ≡ true) ↔ (a ≡ b)
nat_eq_iff a b = (nat_eq_true a b, back)
  where
    back : a ≡ b → nat_eq a b ≡ true
    back h = grind (arith, nat_tests)

pub nat_lt_iff : (a b : ℕ) → (nat_lt a b ≡ true) ↔ (a < b)
nat_lt_iff a b = (nat_lt_true a b, back)
  where
    back : a < b → nat_lt a b ≡ true
    back h = grind (arith, nat_tests)

pub both_iff : {P Q : Type 0} (a b : Bool) → (a ≡ true) ↔ P → (b ≡ true) ↔ Q → ((a && b) ≡ true) ↔ (P × Q)
both_iff a b p q = (λ h. let x = and_parts a b h in (p.0 x.0, q.0 x.1), λ h. ap (λ t. t && b) (p.1 h.0) ∙ q.1 h.1)

pub below_iff : (o : Order) (u t : Term) → (is_below o u t ≡ true) ↔ (term_cmp o u t ≡ Less)
unfolding is_below
below_iff o u t = (below_true o u t, λ h. ap (λ r. elim r [ Less ↦ true | Equal ↦ false | Greater ↦ false ]) h)

pub none_iff : {A : Type 0} (o : Option A) → (is_none o ≡ true) ↔ (o ≡ None)
none_iff o = (none_true o, λ h. ap is_none h)

module _ {A : Type 0} (d : Discrete A) (x y : A) where
  pub same_iff : (is_same d x y ≡ true) ↔ (x ≡ y)
  same_iff = (same_true d x y, same_yes d x y)

  pub different_iff : (not (is_same d x y) ≡ true) ↔ (x ≢ y)
  different_iff = (λ h. same_false d x y (not_true (is_same d x y) h), λ n. ap not (same_no d x y n))
