-- What a table of names finds, and what it is after one is added.
--     equal_bytes                  two texts pass the test of equal bytes exactly where they are the same
--     index_of-position            the first place at which a stored key is the name is the index of the name
--     is_some-index_of             whether a stored key is the name
--     AreNames-push                a name that isn't there may be added
--     index_of-take                no name before a place is the one at the place
--     IsAdded-insert_key           what inserting a key does to the names
--     AreNames-insert_key          names stay names where a key is inserted
--     taken_more                   adding the next name of a list to those before it
use Rattle.std.proofs.Common.{◌≡◌, ◌≢◌, ℕ, zero, suc, ◌+◌, Bool, true, false, not, ◌||◌, cond, if◌then◌else◌, List, [], ◌∷◌, ◌++◌, map, take, Option, None, Some, is_some, option_map, Ok, refl, sym, ap, subst, ◌∙◌, arith, true≢false}
use Rattle.std.specs.List.{position, position_from, list_any, slice_get, AllByRecursion}
use Rattle.std.specs.Str.{bytes_eq}
use Rattle.std.proofs.lemmas.Cmp.{nat_list_eq_equiv}
use Rattle.std.proofs.lemmas.Iterator.Adapters.{position_from-zero}
use Rattle.std.proofs.lemmas.List.{map-append, take_more}
use Rattle.std.proofs.lemmas.Option.{get_or_from_slice_get, slice_get_within}
use Rattle.std.proofs.lemmas.Slice.Eq.{bytes_eq-Decides}
use Rattle.ore_algebra.proofs.ListLaws.{AllByRecursion-at}
use Rattle.indexmap.specs.IndexSet.{insert_key}
use Rattle.ore_text.specs.Names.{index_of}
use Rattle.ore_text.specs.Names.{IsDistinct, AreNames, IsAdded}
use Rattle.ore_text.specs.Names.{IsName}

equal_bytes : (a b : List ℕ) → bytes_eq a b ≡ bytes_eq b a
equal_bytes a b = nat_list_eq_equiv.symm a b

module _ {K : Type 0} where
  position_from-suc : (p : K → Bool) (i : ℕ) (ks : List K) → position_from p (i + 1) ks ≡ option_map suc (position_from p i ks)
  position_from-suc p i [] = refl
  position_from-suc p i (k ∷ ks) = by (p k) (position_from-suc p (i + 1) ks)
    where
      by : (b : Bool) → position_from p (i + 1 + 1) ks ≡ option_map suc (position_from p (i + 1) ks) → cond b (Some (i + 1)) (position_from p (i + 1 + 1) ks) ≡ option_map suc (cond b (Some i) (position_from p (i + 1) ks))
      by true e = grind arith
      by false e = e

module _ {K : Type 0} (f : K → List ℕ) (name : List ℕ) where
  index_of-position_from : (ks : List K) → position_from (λ k. bytes_eq name (f k)) 0 ks ≡ index_of (map f ks) name
  index_of-position_from [] = refl
  index_of-position_from (k ∷ ks) = by (bytes_eq name (f k)) (bytes_eq (f k) name) (equal_bytes name (f k)) (position_from-suc _ 0 ks ∙ ap (option_map suc) (index_of-position_from ks))
    where
      by : (b c : Bool) → b ≡ c → position_from (λ k. bytes_eq name (f k)) (0 + 1) ks ≡ option_map suc (index_of (map f ks) name)
          → cond b (Some 0) (position_from (λ k. bytes_eq name (f k)) (0 + 1) ks) ≡ (if c then Some 0 else option_map suc (index_of (map f ks) name))
      by true true e r = refl
      by true false e r = absurd (true≢false e)
      by false true e r = absurd (true≢false (sym e))
      by false false e r = r

  pub index_of-position : (ks : List K) → position (λ k. bytes_eq name (f k)) ks ≡ index_of (map f ks) name
  index_of-position ks = position_from-zero (λ k. bytes_eq name (f k)) ks ∙ index_of-position_from ks

  is_some-index_of : (ks : List K) → list_any (λ k. bytes_eq name (f k)) ks ≡ is_some (index_of (map f ks) name)
  is_some-index_of [] = refl
  is_some-index_of (k ∷ ks) = by (bytes_eq name (f k)) (bytes_eq (f k) name) (equal_bytes name (f k)) (index_of (map f ks) name) (is_some-index_of ks)
    where
      by : (b c : Bool) → b ≡ c → (o : Option ℕ) → list_any (λ k. bytes_eq name (f k)) ks ≡ is_some o
          → (b || list_any (λ k. bytes_eq name (f k)) ks) ≡ is_some (if c then Some 0 else option_map suc o)
      by true true e o r = refl
      by true false e o r = absurd (true≢false e)
      by false true e o r = absurd (true≢false (sym e))
      by false false e None r = r
      by false false e (Some i) r = r

AllByRecursion-push : {X : Type 0} (P : X → Type 0) (xs : List X) (y : X) → AllByRecursion P xs → P y → AllByRecursion P (xs ++ y ∷ [])
AllByRecursion-push P [] y all here = (here, tt)
AllByRecursion-push P (x ∷ xs) y all here = (all.0, AllByRecursion-push P xs y all.1 here)

-- a name that isn't found is none of those before
first_is_other : (n name : List ℕ) (b : Bool) (o : Option ℕ) → bytes_eq n name ≡ b → (if b then Some 0 else option_map suc o) ≡ None → (name ≢ n) × (o ≡ None)
first_is_other n name true o e none = cc
first_is_other n name false (Some i) e none = cc
first_is_other n name false None e none = (λ same. true≢false (sym ((bytes_eq-Decides n name).1 (sym same)) ∙ e), refl)

IsDistinct-push : (names : List (List ℕ)) (name : List ℕ) → index_of names name ≡ None → IsDistinct names → IsDistinct (names ++ name ∷ [])
IsDistinct-push [] name none distinct = (tt, tt)
IsDistinct-push (n ∷ names) name none distinct =
    let other = first_is_other n name (bytes_eq n name) (index_of names name) refl none in
    (AllByRecursion-push (λ m. m ≢ n) names name distinct.0 other.0, IsDistinct-push names name other.1 distinct.1)

pub AreNames-push : (names : List (List ℕ)) (name : List ℕ) → AreNames names → IsName name → index_of names name ≡ None → AreNames (names ++ name ∷ [])
AreNames-push names name are is none = record {
  form = AllByRecursion-push IsName names name are.form is;
  distinct = IsDistinct-push names name none are.distinct;
}

-- a name that differs from the first is looked for among the others
index_of-other : (n name : List ℕ) (b : Bool) (o : Option ℕ) → bytes_eq n name ≡ b → name ≢ n → o ≡ None → (if b then Some 0 else option_map suc o) ≡ None
index_of-other n name true o e differs none = absurd (differs (sym ((bytes_eq-Decides n name).0 e)))
index_of-other n name false o e differs none = ap (option_map suc) none

index_of-take : (names : List (List ℕ)) (k : ℕ) (name : List ℕ) → IsDistinct names → slice_get names k ≡ Some name → index_of (take k names) name ≡ None
index_of-take [] k name distinct here = cc
index_of-take (n ∷ names) zero name distinct here = refl
index_of-take (n ∷ names) (suc k) name distinct here =
    index_of-other n name (bytes_eq n name) (index_of (take k names) name) refl (AllByRecursion-at (λ m. m ≢ n) names k name distinct.0 here) (index_of-take names k name distinct.1 here)

module _ {K : Type 0} (E : Type 0) (f : K → List ℕ) (ks : List K) (key : K) where
  pub IsAdded-insert_key : (new : List K) (added : Bool) → added ≡ not (list_any (λ k. bytes_eq (f key) (f k)) ks)
      → new ≡ insert_key (λ a b. bytes_eq (f a) (f b)) ks key → IsAdded {E = E} (Ok added) (map f ks) (map f new) (f key)
  IsAdded-insert_key new added a e =
      by (list_any (λ k. bytes_eq (f key) (f k)) ks) (index_of (map f ks) (f key)) added (is_some-index_of f (f key) ks) refl a e
    where
      by : (b : Bool) (o : Option ℕ) (added : Bool) → b ≡ is_some o → index_of (map f ks) (f key) ≡ o → added ≡ not b
          → new ≡ (if b then ks else ks ++ key ∷ []) → IsAdded {E = E} (Ok added) (map f ks) (map f new) (f key)
      by true None added s i a e = cc
      by false (Some x) added s i a e = cc
      by true (Some x) true s i a e = cc
      by true (Some x) false s i a e = (ap is_some i, ap (map f) e)
      by false None true s i a e = (i, ap (map f) e ∙ map-append f ks (key ∷ []))
      by false None false s i a e = cc

  pub AreNames-insert_key : (new : List K) (added : Bool) → AreNames (map f ks) → IsName (f key) → IsAdded {E = E} (Ok added) (map f ks) (map f new) (f key) → AreNames (map f new)
  AreNames-insert_key new true are is added = subst AreNames (sym added.1) (AreNames-push (map f ks) (f key) are is added.0)
  AreNames-insert_key new false are is added = subst AreNames (sym added.1) are

pub taken_more : (E : Type 0) (names : List (List ℕ)) (k : ℕ) (name : List ℕ) (after : List (List ℕ)) (added : Bool) → AreNames names → slice_get names k ≡ Some name
    → IsAdded {E = E} (Ok added) (take k names) after name → after ≡ take (k + 1) names
taken_more E names k name after true are here added =
    added.1 ∙ ap (λ x. take k names ++ x ∷ []) (sym (get_or_from_slice_get names k name [] here)) ∙ sym (take_more names k [] (slice_get_within names k name here))
taken_more E names k name after false are here added =
    absurd (true≢false (sym added.0 ∙ ap is_some (index_of-take names k name are.distinct here)))
