-- What the syzygies of a state come from.
--     all_imply                what holds of the items of a list
--     slice_split, slice_front, slice_behind    the item at a place of a list with more behind it
--     none_other, none_more, no_event    no syzygy comes from an origin that isn't among theirs
--     from_more, from_new, from_zeros    the row that comes from an origin: with more syzygies, with its own, and with none
--     row_place                origins of rows are the same at the same place alone
--     same_or_other, find, from_inside   that row is in the module of the syzygies
--     Grown                    more syzygies, each from the pair that is listed next
--     grown_none               none is new
--     grown_from, grown_event, grown_row, grown_no_event, grown_no_row    what comes from the other origins stays
--     grown_many, grown_places    there is an origin for each syzygy, at a place
use Rattle.std.proofs.Common.{◌≡◌, ◌≢◌, ◌⊎◌, inl, inr, ℕ, zero, suc, ◌+◌, ◌<◌, List, [], ◌∷◌, ◌++◌, length, refl, sym, ap, ◌∙◌, subst, append-nil, arith}
use Rattle.std.specs.Prelude.{slice_get}
use Rattle.std.specs.declared.option.Option.TheVariants.{Some}
use Rattle.std.specs.List.{AllByRecursion}
use Rattle.std.proofs.ByRecursion.{All-append}
use Rattle.std.proofs.lemmas.Bool.{cases_eq}
use Rattle.std.proofs.lemmas.List.{length-append}
use Rattle.std.proofs.lemmas.Option.{get_or_from_slice_get, slice_get_within, same_Some, none-some}
use Rattle.ore_algebra.specs.Domain.{Domain}
use Rattle.ore_algebra.proofs.ListLaws.{AllByRecursion-at}
use Rattle.ore_monomial.specs.Signature.{Signature, IsLawful}
use Rattle.ore_rows.specs.Rows.{Row, AreLong, zero_row, InRowModule}
use Rattle.ore_rows.specs.declared.choices.Origin.{Origin}
use Rattle.ore_rows.specs.declared.choices.Origin.TheVariants.{ZeroRow, Event}
use Rattle.ore_rows.proofs.RowModules.{module_row, module_zero}
use Rattle.ore_groebner.specs.RunLaws.{IsNone, IsFrom, IsPlaceIn}

-- ---- places of lists

pub all_imply : {X : Type 0} (P Q : X → Type 0) → ((x : X) → P x → Q x) → (xs : List X) → AllByRecursion P xs → AllByRecursion Q xs
all_imply P Q h [] a = tt
all_imply P Q h (x ∷ xs) a = (h x a.0, all_imply P Q h xs a.1)

slice_split : {X : Type 0} (xs ys : List X) (m : ℕ) (x : X) → slice_get (xs ++ ys) m ≡ Some x → (slice_get xs m ≡ Some x) ⊎ ((k : ℕ) × (m ≡ length xs + k) × (slice_get ys k ≡ Some x))
slice_split [] ys m x e = inr (m, omega arith, e)
slice_split (y ∷ xs) ys zero x e = inl e
slice_split (y ∷ xs) ys (suc m) x e = by (slice_split xs ys m x e)
  where
    by : (slice_get xs m ≡ Some x) ⊎ ((k : ℕ) × (m ≡ length xs + k) × (slice_get ys k ≡ Some x)) → (slice_get (y ∷ xs) (suc m) ≡ Some x) ⊎ ((k : ℕ) × (suc m ≡ length (y ∷ xs) + k) × (slice_get ys k ≡ Some x))
    by (inl h) = inl h
    by (inr h) = inr (h.0, let f = h.1 in omega arith, h.2)

slice_front : {X : Type 0} (xs ys : List X) (m : ℕ) (x : X) → slice_get xs m ≡ Some x → slice_get (xs ++ ys) m ≡ Some x
slice_front [] ys m x e = absurd (none-some _ e)
slice_front (y ∷ xs) ys zero x e = e
slice_front (y ∷ xs) ys (suc m) x e = slice_front xs ys m x e

slice_behind : {X : Type 0} (xs : List X) (x : X) → slice_get (xs ++ x ∷ []) (length xs) ≡ Some x
slice_behind [] x = refl
slice_behind (y ∷ xs) x = slice_behind xs x

-- ---- one origin

module _ (K : Domain) (q : ℕ) (o : Origin) where
  -- each of these is another one
  abbrev pub Other : List Origin → Type 0
  Other os = AllByRecursion (λ x. x ≢ o) os

  pub none_other : (os : List Origin) → Other os → IsNone os o
  none_other os h m e = AllByRecursion-at (λ x. x ≢ o) os m o h e refl

  pub none_more : (os more : List Origin) → IsNone os o → Other more → IsNone (os ++ more) o
  none_more os more none other m e = by (slice_split os more m o e)
    where
      by : (slice_get os m ≡ Some o) ⊎ ((k : ℕ) × (m ≡ length os + k) × (slice_get more k ≡ Some o)) → ⊥
      by (inl f) = none m f
      by (inr f) = none_other more other f.0 f.2

  module _ (os : List Origin) (rs : List (Row K)) (c : Row K) where
    pub from_more : (more : List Origin) (others : List (Row K)) → Other more → IsFrom K q os rs o c → IsFrom K q (os ++ more) (rs ++ others) o c
    from_more more others other h = record { there = λ m e. by m (slice_split os more m o e); absent = λ n. h.absent (λ m e. n m (slice_front os more m o e)) }
      where
        by : (m : ℕ) → (slice_get os m ≡ Some o) ⊎ ((k : ℕ) × (m ≡ length os + k) × (slice_get more k ≡ Some o)) → slice_get (rs ++ others) m ≡ Some c
        by m (inl f) = slice_front rs others m c (h.there m f)
        by m (inr f) = absurd (none_other more other f.0 f.2)

    pub from_new : IsNone os o → length os ≡ length rs → IsFrom K q (os ++ o ∷ []) (rs ++ c ∷ []) o c
    from_new none same = record { there = λ m e. by m (slice_split os (o ∷ []) m o e); absent = λ n. absurd (n (length os) (slice_behind os o)) }
      where
        last : (m k : ℕ) → m ≡ length os + k → slice_get (o ∷ []) k ≡ Some o → slice_get (rs ++ c ∷ []) m ≡ Some c
        last m zero e f = let z : length rs ≡ m = omega arith in subst (λ m. slice_get (rs ++ c ∷ []) m ≡ Some c) z (slice_behind rs c)
        last m (suc k) e f = absurd (none-some _ f)

        by : (m : ℕ) → (slice_get os m ≡ Some o) ⊎ ((k : ℕ) × (m ≡ length os + k) × (slice_get (o ∷ []) k ≡ Some o)) → slice_get (rs ++ c ∷ []) m ≡ Some c
        by m (inl f) = absurd (none m f)
        by m (inr f) = last m f.0 f.1 f.2

    pub from_zeros : IsNone os o → c ≡ zero_row K q → IsFrom K q os rs o c
    from_zeros none zeros = record { there = λ m e. absurd (none m e); absent = λ _. zeros }

pub row_place : (i k : ℕ) → ZeroRow i ≡ ZeroRow k → i ≡ k
row_place i k e = cc

event_place : (i k : ℕ) → Event i ≡ Event k → i ≡ k
event_place i k e = cc

row_no_event : (i k : ℕ) → ZeroRow i ≡ Event k → ⊥
row_no_event i k e = cc

same_or_other : (x y : Origin) → (x ≡ y) ⊎ (x ≢ y)
same_or_other (ZeroRow i) (ZeroRow k) = by (cases_eq i k)
  where
    by : (i ≡ k) ⊎ (i ≡ k → ⊥) → (ZeroRow i ≡ ZeroRow k) ⊎ (ZeroRow i ≢ ZeroRow k)
    by (inl e) = inl (ap (λ n. ZeroRow n) e)
    by (inr n) = inr (λ e. n (row_place i k e))
same_or_other (ZeroRow i) (Event k) = inr (row_no_event i k)
same_or_other (Event i) (ZeroRow k) = inr (λ e. row_no_event k i (sym e))
same_or_other (Event i) (Event k) = by (cases_eq i k)
  where
    by : (i ≡ k) ⊎ (i ≡ k → ⊥) → (Event i ≡ Event k) ⊎ (Event i ≢ Event k)
    by (inl e) = inl (ap (λ n. Event n) e)
    by (inr n) = inr (λ e. n (event_place i k e))

find : (os : List Origin) (o : Origin) → ((m : ℕ) × (slice_get os m ≡ Some o)) ⊎ IsNone os o
find [] o = inr (λ m e. none-some _ e)
find (x ∷ os) o = by (same_or_other x o) (find os o)
  where
    behind : x ≢ o → IsNone os o → IsNone (x ∷ os) o
    behind n h zero e = n (same_Some x o e)
    behind n h (suc m) e = h m e

    by : (x ≡ o) ⊎ (x ≢ o) → ((m : ℕ) × (slice_get os m ≡ Some o)) ⊎ IsNone os o → ((m : ℕ) × (slice_get (x ∷ os) m ≡ Some o)) ⊎ IsNone (x ∷ os) o
    by (inl e) rest = inl (0, ap (λ x. Some x) e)
    by (inr n) (inl h) = inl (suc h.0, h.1)
    by (inr n) (inr h) = inr (behind n h)

pub from_inside : (K : Domain) (s : Signature) (lawful : IsLawful s) (q : ℕ) (os : List Origin) (rs : List (Row K)) → AreLong K q rs → (o : Origin) (c : Row K) → IsFrom K q os rs o c → InRowModule K s q rs c
from_inside K s lawful q os rs long o c h = by (find os o)
  where
    by : ((m : ℕ) × (slice_get os m ≡ Some o)) ⊎ IsNone os o → InRowModule K s q rs c
    by (inl f) = subst (InRowModule K s q rs) (get_or_from_slice_get rs f.0 c [] (h.there f.0 f.1)) (module_row K s lawful q rs long f.0 (slice_get_within rs f.0 c (h.there f.0 f.1)))
    by (inr none) = subst (InRowModule K s q rs) (sym (h.absent none)) (module_zero K s lawful q rs long)

-- ---- the origins of a state

pub no_event : (q n : ℕ) (os : List Origin) → AllByRecursion (IsPlaceIn q n) os → IsNone os (Event n)
no_event q n os h m e = past n (AllByRecursion-at (IsPlaceIn q n) os m (Event n) h e)
  where
    past : (n : ℕ) → n < n → ⊥
    past n l = omega arith

-- after n pairs are listed, the syzygies that are new come from the next, at place n
pub record Grown (K : Domain) (n : ℕ) (os : List Origin) (rs : List (Row K)) (now : List Origin) (syzygies : List (Row K)) : Type 0 where
  pub sources : List Origin
  pub others : List (Row K)
  pub origins_are : now ≡ os ++ sources
  pub syzygies_are : syzygies ≡ rs ++ others
  pub all : AllByRecursion (λ x. x ≡ Event n) sources
  pub many : length sources ≡ length others

pub grown_none : (K : Domain) (n : ℕ) (os : List Origin) (rs : List (Row K)) → Grown K n os rs os rs
grown_none K n os rs = record { sources = []; others = []; origins_are = sym (append-nil os); syzygies_are = sym (append-nil rs); all = tt; many = refl }

module _ (K : Domain) (q n : ℕ) (os : List Origin) (rs : List (Row K)) (now : List Origin) (syzygies : List (Row K)) (g : Grown K n os rs now syzygies) where
  others_than : (o : Origin) → Event n ≢ o → AllByRecursion (λ x. x ≢ o) g.sources
  others_than o h = all_imply (λ x. x ≡ Event n) (λ x. x ≢ o) (λ x e f. h (sym e ∙ f)) g.sources g.all

  grown_from : (o : Origin) → Event n ≢ o → (c : Row K) → IsFrom K q os rs o c → IsFrom K q now syzygies o c
  grown_from o h c from =
      subst (λ now. IsFrom K q now syzygies o c) (sym g.origins_are)
      (subst (λ syzygies. IsFrom K q (os ++ g.sources) syzygies o c) (sym g.syzygies_are) (from_more K q o os rs c g.sources g.others (others_than o h) from))

  grown_no : (o : Origin) → Event n ≢ o → IsNone os o → IsNone now o
  grown_no o h none = subst (λ now. IsNone now o) (sym g.origins_are) (none_more K q o os g.sources none (others_than o h))

  other_event : (k : ℕ) → k < n → Event n ≢ Event k
  other_event k l e = let f = event_place n k e in omega arith

  pub grown_event : (k : ℕ) → k < n → (c : Row K) → IsFrom K q os rs (Event k) c → IsFrom K q now syzygies (Event k) c
  grown_event k l = grown_from (Event k) (other_event k l)

  pub grown_row : (i : ℕ) (c : Row K) → IsFrom K q os rs (ZeroRow i) c → IsFrom K q now syzygies (ZeroRow i) c
  grown_row i = grown_from (ZeroRow i) (λ e. row_no_event i n (sym e))

  pub grown_no_event : (k : ℕ) → k < n → IsNone os (Event k) → IsNone now (Event k)
  grown_no_event k l = grown_no (Event k) (other_event k l)

  pub grown_no_row : (i : ℕ) → IsNone os (ZeroRow i) → IsNone now (ZeroRow i)
  grown_no_row i = grown_no (ZeroRow i) (λ e. row_no_event i n (sym e))

  pub grown_many : length os ≡ length rs → length now ≡ length syzygies
  grown_many e = ap (λ (xs : List Origin). length xs) g.origins_are ∙ length-append os g.sources ∙ (λ k. e k + g.many k) ∙ sym (length-append rs g.others) ∙ sym (ap (λ (xs : List (Row K)). length xs) g.syzygies_are)

  more_places : (x : Origin) → IsPlaceIn q n x → IsPlaceIn q (suc n) x
  more_places (ZeroRow i) h = h
  more_places (Event k) h = omega arith

  next_place : (x : Origin) → x ≡ Event n → IsPlaceIn q (suc n) x
  next_place x e = subst (IsPlaceIn q (suc n)) (sym e) (let z : n < suc n = omega arith in z)

  pub grown_places : AllByRecursion (IsPlaceIn q n) os → AllByRecursion (IsPlaceIn q (suc n)) now
  grown_places h = subst (AllByRecursion (IsPlaceIn q (suc n))) (sym g.origins_are)
      (All-append (IsPlaceIn q (suc n)) os g.sources (all_imply (IsPlaceIn q n) (IsPlaceIn q (suc n)) more_places os h) (all_imply (λ x. x ≡ Event n) (IsPlaceIn q (suc n)) next_place g.sources g.all))
