-- Terms that are added in another order, where those of each monomial keep theirs.
--     all           numbers added at their keys, one after another, each where its sum doesn't stop
--     at            the sums at one key
--     sound         where all are added, so are those at each key, and their sum stands there
--     complete      where those at each key can be added, so can all
--     rearranged    so only the order of the numbers at each key counts, where all stops are alike
use Rattle.std.proofs.Common.{◌≡◌, Bool, true, false, cond, List, [], ◌∷◌, refl, sym, ap, ◌∙◌}
use Rattle.std.specs.List.{filter}
use Rattle.std.specs.declared.result.Result.{Result}
use Rattle.std.specs.declared.result.Result.TheVariants.{Ok, Err}
use Rattle.ore_algebra.specs.Limits.{Cause, Overflow, ◌>>=◌, fold_within}
use Rattle.ore_algebra.proofs.ResultLaws.{same_ok}

module _ {M O F : Type 0} (tie : M → M → Bool) (value : O → M → F) (put : O → M → F → O) (sum : F → F → Result F Cause)
    (tie_same : (m q : M) → tie m q ≡ true → m ≡ q) (tie_own : (m : M) → tie m m ≡ true)
    (put_own : (f : O) (m : M) (c s : F) → sum (value f m) c ≡ Ok s → value (put f m c) m ≡ s)
    (put_other : (f : O) (m q : M) (c : F) → tie m q ≡ false → value (put f q c) m ≡ value f m)
    (only : (a b : F) (e : Cause) → sum a b ≡ Err e → e ≡ Overflow)
    (same : (f g : O) → ((m : M) → value f m ≡ value g m) → f ≡ g) where
  abbrev step : O → M × F → Result O Cause
  step f t = sum (value f t.0) t.1 >>= λ s. Ok (put f t.0 t.1)

  abbrev all : O → List (M × F) → Result O Cause
  all f ts = fold_within step f ts

  abbrev sums : F → List (M × F) → Result F Cause
  sums a ts = fold_within (λ b t. sum b t.1) a ts

  abbrev here : M → List (M × F) → List (M × F)
  here m ts = filter (λ t. tie m t.0) ts

  abbrev at : M → F → List (M × F) → Result F Cause
  at m a ts = sums a (here m ts)

  at_tied : (m : M) (a : F) (t : M × F) (ts : List (M × F)) → tie m t.0 ≡ true → at m a (t ∷ ts) ≡ (sum a t.1 >>= λ b. at m b ts)
  at_tied m a t ts e = ap (λ b. sums a (cond b (t ∷ here m ts) (here m ts))) e

  at_apart : (m : M) (a : F) (t : M × F) (ts : List (M × F)) → tie m t.0 ≡ false → at m a (t ∷ ts) ≡ at m a ts
  at_apart m a t ts e = ap (λ b. sums a (cond b (t ∷ here m ts) (here m ts))) e

  advance : (f : O) (t : M × F) (ts : List (M × F)) (s : F) → sum (value f t.0) t.1 ≡ Ok s → (m : M) → at m (value f m) (t ∷ ts) ≡ at m (value (put f t.0 t.1) m) ts
  advance f t ts s h m = by (tie m t.0) refl
    where
      by : (b : Bool) → tie m t.0 ≡ b → at m (value f m) (t ∷ ts) ≡ at m (value (put f t.0 t.1) m) ts
      by true e =
          let k = tie_same m t.0 e in
          at_tied m (value f m) t ts e
          ∙ ap (λ r. r >>= λ b. at m b ts) (ap (λ q. sum (value f q) t.1) k ∙ h)
          ∙ ap (λ b. at m b ts) (sym (ap (value (put f t.0 t.1)) k ∙ put_own f t.0 t.1 s h))
      by false e = at_apart m (value f m) t ts e ∙ ap (λ a. at m a ts) (sym (put_other f m t.0 t.1 e))

  stopped : (f : O) (t : M × F) (ts : List (M × F)) (c : Cause) → sum (value f t.0) t.1 ≡ Err c → at t.0 (value f t.0) (t ∷ ts) ≡ Err c
  stopped f t ts c h = at_tied t.0 (value f t.0) t ts (tie_own t.0) ∙ ap (λ r. r >>= λ b. at t.0 b ts) h

  sound : (f g : O) (ts : List (M × F)) → all f ts ≡ Ok g → (m : M) → at m (value f m) ts ≡ Ok (value g m)
  sound f g [] e m = ap (λ h. Ok (value h m)) (same_ok f g e)
  sound f g (t ∷ ts) e m = by (sum (value f t.0) t.1) refl (sound (put f t.0 t.1) g ts) e
    where
      by : (r : Result F Cause) → sum (value f t.0) t.1 ≡ r → (all (put f t.0 t.1) ts ≡ Ok g → (m : M) → at m (value (put f t.0 t.1) m) ts ≡ Ok (value g m)) → (r >>= (λ s. Ok (put f t.0 t.1)) >>= λ h. all h ts) ≡ Ok g → at m (value f m) (t ∷ ts) ≡ Ok (value g m)
      by (Ok s) h ih e = advance f t ts s h m ∙ ih e m
      by (Err c) h ih e = let no : ⊥ = cc in absurd no

  complete : (f : O) (ts : List (M × F)) → ((m : M) → (b : F) × (at m (value f m) ts ≡ Ok b)) → (g : O) × (all f ts ≡ Ok g)
  complete f [] h = (f, refl)
  complete f (t ∷ ts) h = by (sum (value f t.0) t.1) refl (complete (put f t.0 t.1) ts)
    where
      by : (r : Result F Cause) → sum (value f t.0) t.1 ≡ r → (((m : M) → (b : F) × (at m (value (put f t.0 t.1) m) ts ≡ Ok b)) → (g : O) × (all (put f t.0 t.1) ts ≡ Ok g)) → (g : O) × (all f (t ∷ ts) ≡ Ok g)
      by (Ok s) e ih =
          let r = ih (λ m. ((h m).0, sym (advance f t ts s e m) ∙ (h m).1)) in
          (r.0, ap (λ q. q >>= (λ s. Ok (put f t.0 t.1)) >>= λ h. all h ts) e ∙ r.1)
      by (Err c) e ih =
          let w : ◌≡◌ {A = Result F Cause} (Err c) (Ok (h t.0).0) = sym (stopped f t ts c e) ∙ (h t.0).1 in
          let no : ⊥ = cc in absurd no

  overflow : (f : O) (ts : List (M × F)) (e : Cause) → all f ts ≡ Err e → e ≡ Overflow
  overflow f [] e h = let no : ⊥ = cc in absurd no
  overflow f (t ∷ ts) e h = by (sum (value f t.0) t.1) refl (overflow (put f t.0 t.1) ts e) h
    where
      by : (r : Result F Cause) → sum (value f t.0) t.1 ≡ r → (all (put f t.0 t.1) ts ≡ Err e → e ≡ Overflow) → (r >>= (λ s. Ok (put f t.0 t.1)) >>= λ h. all h ts) ≡ Err e → e ≡ Overflow
      by (Ok s) k ih h = ih h
      by (Err c) k ih h = let w : c ≡ e = cc in sym w ∙ only (value f t.0) t.1 c k

  pub rearranged : (f : O) (xs ys : List (M × F)) → ((m : M) → here m xs ≡ here m ys) → all f xs ≡ all f ys
  rearranged f xs ys h = by (all f xs) refl (all f ys) refl
    where
      like : (g : O) (us vs : List (M × F)) → ((m : M) → here m us ≡ here m vs) → all f us ≡ Ok g → (m : M) → at m (value f m) vs ≡ Ok (value g m)
      like g us vs k d m = ap (sums (value f m)) (sym (k m)) ∙ sound f g us d m

      never : (g : O) (us vs : List (M × F)) (c : Cause) → ((m : M) → here m us ≡ here m vs) → all f us ≡ Ok g → all f vs ≡ Err c → ⊥
      never g us vs c k d e = let r = complete f vs (λ m. (value g m, like g us vs k d m)) in let w : ◌≡◌ {A = Result O Cause} (Err c) (Ok r.0) = sym e ∙ r.1 in cc

      by : (r : Result O Cause) → all f xs ≡ r → (s : Result O Cause) → all f ys ≡ s → r ≡ s
      by (Ok g) d (Ok k) e = ap Ok (same g k (λ m. same_ok _ _ (sym (like g xs ys h d m) ∙ sound f k ys e m)))
      by (Err c) d (Err b) e = ap Err (overflow f xs c d ∙ sym (overflow f ys b e))
      by (Ok g) d (Err b) e = absurd (never g xs ys b h d e)
      by (Err c) d (Ok k) e = absurd (never k ys xs c (λ m. sym (h m)) e d)
