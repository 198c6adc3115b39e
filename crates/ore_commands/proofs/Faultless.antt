-- Texts without a faulty line.
--     whole_front          a list whose front, with one item more than another has, is the other
--     agreeing             some text of the set has the same first lines, as many as one likes
--     all_lines, same      as many lines as the text has, and one more; with these another is the text
--     not_outside          so the text itself is in the set
-- As no set of texts is decided here, what holds of some text is said twice negated.
use Rattle.std.proofs.Common.{◌≡◌, ◌≤◌, ℕ, zero, suc, List, length, take, refl, sym, ap, subst, ◌∙◌, arith}
use Rattle.std.proofs.lemmas.List.{length-take, take_all}
use Rattle.ore_parts.specs.Lines.{raw_lines}
use Rattle.ore_parts.proofs.FaultyLines.{Stray, join, join-raw_lines}

whole_front : {A : Type 0} (xs ys : List A) → take (suc (length xs)) ys ≡ xs → ys ≡ xs
whole_front xs ys e =
    let count : length (take (suc (length xs)) ys) ≡ length xs = ap length e in
    let few : length ys ≤ suc (length xs) = omega (arith, count, length-take (suc (length xs)) ys) in
    sym (take_all (suc (length xs)) ys few) ∙ e

module _ (T : List ℕ → Type 0) (some : List ℕ) (here : T some) (text : List ℕ) (faultless : (n : ℕ) → ¬ Stray T text n) where
  agreeing : (n : ℕ) → ¬ ((other : List ℕ) → T other → ¬ (take n (raw_lines text) ≡ take n (raw_lines other)))
  agreeing zero h = h some here refl
  agreeing (suc n) h = agreeing n (λ other t e. faultless n (record { follows = (other, t, e); differs = h }))

  -- as many lines as the text has, and one more
  abbrev all_lines : List ℕ → List (List ℕ)
  all_lines other = take (suc (length (raw_lines text))) (raw_lines other)

  same : (other : List ℕ) → all_lines text ≡ all_lines other → other ≡ text
  same other e =
      let few : length (raw_lines text) ≤ suc (length (raw_lines text)) = omega arith in
      let whole : raw_lines other ≡ raw_lines text = whole_front (raw_lines text) (raw_lines other) (sym e ∙ take_all (suc (length (raw_lines text))) (raw_lines text) few) in
      sym (join-raw_lines other) ∙ ap join whole ∙ join-raw_lines text

  pub not_outside : ¬ ¬ T text
  not_outside outside = agreeing (suc (length (raw_lines text))) (λ other t e. outside (subst T (same other e) t))
