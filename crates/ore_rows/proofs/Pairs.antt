-- One turn of a loop that goes through two lists side by side and may stop. The items have values, and an operation
-- on values may stop.
--     both           the operation on the values at each place, in order
--     both_next, both_pushed    the first items of both are done, and the rest is to come
--     both_end       one of the lists has no item left
--     width_within, both_width     what is made of each item has as many items
--     all_rest       what holds of all of a list holds of all but its first item
--     shorter        a list without its first item has a length that is less by 1
use Rattle.std.proofs.Common.{◌≡◌, ◌⊎◌, ℕ, ◌+◌, suc, pred, length, inl, inr, List, [], ◌∷◌, ◌++◌, map, refl, sym, ap, ◌∙◌, subst, append-nil, arith}
use Rattle.std.proofs.lemmas.List.{map-append, length-map}
use Rattle.std.proofs.lemmas.List.Elements.{All-tail}
use Rattle.std.specs.List.{All, zip}
use Rattle.std.specs.declared.result.Result.{Result}
use Rattle.std.specs.declared.result.Result.TheVariants.{Ok, Err}
use Rattle.ore_algebra.specs.Limits.{Cause, map_within}
use Rattle.ore_algebra.specs.Results.{◌>>=◌, fronted}
use Rattle.ore_algebra.proofs.ResultLaws.{front_more}

pub all_rest : {X : Type 0} (P : X → Type 0) (xs : List X) (x : X) (us : List X) → xs ≡ x ∷ us → All P xs → All P us
all_rest P xs x us e h = All-tail P x us (subst (All P) e h)

pub shorter : {X : Type 0} (xs us : List X) (x : X) (n m : ℕ) → xs ≡ x ∷ us → m + 1 ≡ n → length xs ≡ n → length us ≡ m
shorter xs us x n m e f h = let more = sym (ap length e) ∙ h in omega (arith, more)

pub width_within : {A B : Type 0} (f : A → Result B Cause) (xs : List A) (ys : List B) → map_within f xs ≡ Ok ys → length ys ≡ length xs
width_within f [] ys e = let same : [] ≡ ys = cc in sym (ap length same)
width_within {A} {B} f (x ∷ xs) ys e = by (f x) (map_within f xs) (width_within f xs) ys e
  where
    by : (r : Result B Cause) (t : Result (List B) Cause) → ((zs : List B) → t ≡ Ok zs → length zs ≡ length xs) → (ys : List B) → (r >>= λ y. t >>= λ zs. Ok (y ∷ zs)) ≡ Ok ys → length ys ≡ suc (length xs)
    by (Ok y) (Ok zs) h ys e = let same : y ∷ zs ≡ ys = cc in sym (ap length same) ∙ ap suc (h zs refl)
    by (Ok y) (Err c) h ys e = cc
    by (Err c) t h ys e = cc

length-zip_same : {A B : Type 0} (xs : List A) (ys : List B) → length xs ≡ length ys → length (zip xs ys) ≡ length xs
length-zip_same [] ys e = refl
length-zip_same (x ∷ xs) [] e = absurd (omega arith)
length-zip_same (x ∷ xs) (y ∷ ys) e = ap suc (length-zip_same xs ys (ap pred e))

module _ {X V : Type 0} (value : X → V) (op : V → V → Result V Cause) where
  abbrev pub both : List V → List V → Result (List V) Cause
  both r q = map_within (λ p. op p.0 p.1) (zip r q)

  step : (front r q : List V) (a b c : V) → op a b ≡ Ok c → fronted front (both (a ∷ r) (b ∷ q)) ≡ fronted (front ++ c ∷ []) (both r q)
  step front r q a b c e = ap (λ t. fronted front (t >>= λ y. both r q >>= λ ys. Ok (y ∷ ys))) e ∙ front_more front c (both r q)

  pub both_next : (out xs ys us vs : List X) (x y z : X) → xs ≡ x ∷ us → ys ≡ y ∷ vs → op (value x) (value y) ≡ Ok (value z)
      → fronted (map value out) (both (map value xs) (map value ys)) ≡ fronted (map value (out ++ z ∷ [])) (both (map value us) (map value vs))
  both_next out xs ys us vs x y z e f k =
      ap (λ t. fronted (map value out) (both (map value t) (map value ys))) e
      ∙ ap (λ t. fronted (map value out) (both (map value (x ∷ us)) (map value t))) f
      ∙ step (map value out) (map value us) (map value vs) (value x) (value y) (value z) k
      ∙ ap (λ o. fronted o (both (map value us) (map value vs))) (sym (map-append value out (z ∷ [])))

  -- the same where the new item was appended
  pub both_pushed : (out new xs ys us vs : List X) (x y z : X) → new ≡ out ++ z ∷ [] → xs ≡ x ∷ us → ys ≡ y ∷ vs → op (value x) (value y) ≡ Ok (value z)
      → fronted (map value new) (both (map value us) (map value vs)) ≡ fronted (map value out) (both (map value xs) (map value ys))
  both_pushed out new xs ys us vs x y z p e f k = ap (λ o. fronted (map value o) (both (map value us) (map value vs))) p ∙ sym (both_next out xs ys us vs x y z e f k)

  nothing_left : (out xs : List X) → fronted (map value out) (both (map value xs) []) ≡ Ok (map value out)
  nothing_left out [] = ap Ok (append-nil (map value out))
  nothing_left out (x ∷ xs) = ap Ok (append-nil (map value out))

  pub both_end : (out xs ys : List X) → (xs ≡ []) ⊎ (ys ≡ []) → fronted (map value out) (both (map value xs) (map value ys)) ≡ Ok (map value out)
  both_end out xs ys (inl e) = ap (λ t. fronted (map value out) (both (map value t) (map value ys))) e ∙ ap Ok (append-nil (map value out))
  both_end out xs ys (inr e) = ap (λ t. fronted (map value out) (both (map value xs) (map value t))) e ∙ nothing_left out xs

  pub both_width : (out xs ys : List X) → length xs ≡ length ys → both (map value xs) (map value ys) ≡ Ok (map value out) → length out ≡ length xs
  both_width out xs ys h e =
      sym (length-map out value)
      ∙ width_within (λ p. op p.0 p.1) (zip (map value xs) (map value ys)) (map value out) e
      ∙ length-zip_same (map value xs) (map value ys) (length-map xs value ∙ h ∙ sym (length-map ys value))
      ∙ length-map xs value
