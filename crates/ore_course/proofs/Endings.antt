-- Runs that come to an end, however it is chosen.
--     IsEnding                 each choice leads to a state of which this holds again, and there is no endless descent
--     short_upto               numbers that choices don't reach, and greater ones
--     one_choice, some_choices    a number for all states after a choice, and after some choices
--     one_more                 one more choice
--     ending_short             where choices are few, a run that ends has a number that its choices don't reach
use Rattle.std.proofs.Common.{◌≡◌, ℕ, zero, suc, ◌<◌, ◌≤◌, max, List, [], ◌∷◌, length, refl, sym, ◌∙◌, subst, arith}
use Rattle.std.specs.List.{Contains, slice_index_or}
use Rattle.std.specs.declared.result.Result.{Result}
use Rattle.std.specs.declared.result.Result.TheVariants.{Ok, Err}
use Rattle.ore_course.specs.Bounded.{IsShort, HasFewChoices}
use Rattle.ore_course.specs.Choices.{Refusal, Runner}
use Rattle.ore_course.specs.Leading.{run}
use Rattle.ore_algebra.proofs.ResultLaws.{same_ok, no_ok}

-- from each state to which a choice leads the run ends
pub data IsEnding {S C : Type 0} (R : Runner S C) : S → Type 0 where
  ending : {st : S} → ((c : C) (next : S) → R.step st c ≡ Ok next → IsEnding R next) → IsEnding R st

module _ {S C : Type 0} (R : Runner S C) where
  short_upto : (m n : ℕ) (st : S) → m ≤ n → IsShort R m st → IsShort R n st
  short_upto m n st l h cs last e = let k = h cs last e in omega (arith, l, k)

  module _ (st : S) where
    module _ (short_next : (c : C) (next : S) → R.step st c ≡ Ok next → (n : ℕ) × IsShort R n next) where
      one_choice : (c : C) → (n : ℕ) × ((next : S) → R.step st c ≡ Ok next → IsShort R n next)
      one_choice c = by (R.step st c) refl
        where
          by : (r : Result S Refusal) → R.step st c ≡ r → (n : ℕ) × ((next : S) → R.step st c ≡ Ok next → IsShort R n next)
          by (Ok mid) e = let s = short_next c mid e in (s.0, λ next f. subst (IsShort R s.0) (same_ok mid next (sym e ∙ f)) s.1)
          by (Err refusal) e = (0, λ next f. absurd (no_ok (sym e ∙ f)))

      some_choices : (cs : List C) → (n : ℕ) × ((c : C) → Contains cs c → (next : S) → R.step st c ≡ Ok next → IsShort R n next)
      some_choices [] = (0, λ c inside. absurd (let less = inside.1 in omega (arith, less)))
      some_choices (d ∷ cs) =
          let a = one_choice d in
          let b = some_choices cs in
          (max a.0 b.0, λ c inside. by c a.0 a.1 b.0 b.1 inside.0 inside.1 inside.2)
        where
          by : (c : C) (m : ℕ) → ((next : S) → R.step st d ≡ Ok next → IsShort R m next) → (n : ℕ) → ((c : C) → Contains cs c → (next : S) → R.step st c ≡ Ok next → IsShort R n next)
              → (k : ℕ) → k < length (d ∷ cs) → slice_index_or (d ∷ cs) k c ≡ c → (next : S) → R.step st c ≡ Ok next → IsShort R (max m n) next
          by c m f n g zero less is next e = short_upto m (max m n) next (omega arith) (f next (subst (λ x. R.step st x ≡ Ok next) (sym is) e))
          by c m f n g (suc k) less is next e = short_upto n (max m n) next (omega arith) (g c (k, omega (arith, less), is) next e)

    one_more : (n : ℕ) → ((c : C) (next : S) → R.step st c ≡ Ok next → IsShort R n next) → IsShort R (suc n) st
    unfolding run
    one_more n h [] last e = omega arith
    one_more n h (c ∷ cs) last e = by (R.step st c) refl e
      where
        by : (r : Result S Refusal) → R.step st c ≡ r → ◌≡◌ {A = Result S Refusal} (elim r [ Ok next ↦ run R next cs | Err refusal ↦ Err refusal ]) (Ok last) → length (c ∷ cs) < suc n
        by (Ok next) f g = let k = h c next f cs last g in omega (arith, k)
        by (Err refusal) f g = absurd (no_ok g)

  pub ending_short : HasFewChoices R → (st : S) → IsEnding R st → (n : ℕ) × IsShort R n st
  ending_short few st (ending h) =
      let b = some_choices st (λ c next e. ending_short few next (h c next e)) (few st).0 in
      (suc b.0, one_more st b.0 (λ c next e. b.1 c ((few st).1 c next e) next e))
