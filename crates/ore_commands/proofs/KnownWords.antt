-- The words of a command.
--     word_tells       a list of one word is a list of a known one exactly where the two words are the same
--     third_word       a list of three words, the first two of which are known
--     second_word      a list of two words, the first of which is known
--     number_called    a number is named by words exactly where these spell it
--     two_words_tell   a list of two words, the first of which is known, is one of two known ones exactly where the second is too
use Rattle.ore_text.proofs.Powers.{same_word}
use Rattle.std.proofs.Common.{◌≡◌, ℕ, ◌<◌, Bool, true, false, not, List, [], ◌∷◌, length, sym, ap, subst, ◌∙◌, arith, Some, slice_get, nat_eq}
use Rattle.std.specs.Prelude.{IsTrue, ◌↔◌, MatchOption, decimal}
use Rattle.std.specs.declared.option.Option.{Option}
use Rattle.std.specs.declared.option.Option.TheVariants.{None}
use Rattle.std.specs.Cmp.Lexicographic.{pointwise}
use Rattle.std.proofs.lemmas.Slice.Eq.{bytes_eq-Decides}
use Rattle.std.proofs.lemmas.Fmt.{decimal_injective}
use Rattle.ore_parts.specs.CertificateText.{number_bound}
use Rattle.ore_commands.specs.Commands.{Names}

one_word : (words : List (List ℕ)) (word : List ℕ) → length words ≡ 1 → slice_get words 0 ≡ Some word → words ≡ word ∷ []
one_word [] word l e = absurd (omega (arith, l))
one_word (x ∷ []) word l e = let h : Some x ≡ Some word = e in cc
one_word (x ∷ y ∷ words) word l e = absurd (omega (arith, l))

pub word_tells : (words : List (List ℕ)) (word known : List ℕ) (same : Bool) → length words ≡ 1 → slice_get words 0 ≡ Some word → same ≡ pointwise nat_eq word known → IsTrue same ↔ words ≡ known ∷ []
word_tells words word known same l e s = (
  λ t. one_word words word l e ∙ ap (λ w. w ∷ []) ((bytes_eq-Decides word known).0 (sym s ∙ t)),
  λ h. s ∙ (bytes_eq-Decides word known).1 (first word known (sym (one_word words word l e) ∙ h)),
)
  where
    first : (a b : List ℕ) → a ∷ [] ≡ b ∷ [] → a ≡ b
    first a b h = cc

two_words : (words : List (List ℕ)) (a b : List ℕ) → length words ≡ 2 → slice_get words 0 ≡ Some a → slice_get words 1 ≡ Some b → words ≡ a ∷ b ∷ []
two_words [] a b l e f = absurd (omega (arith, l))
two_words (x ∷ []) a b l e f = absurd (omega (arith, l))
two_words (x ∷ y ∷ []) a b l e f =
    let h : Some x ≡ Some a = e in
    let k : Some y ≡ Some b = f in cc
two_words (x ∷ y ∷ z ∷ words) a b l e f = absurd (omega (arith, l))

pub two_words_tell : (words : List (List ℕ)) (first second a b : List ℕ) (same : Bool) → length words ≡ 2 → slice_get words 0 ≡ Some a → pointwise nat_eq a first ≡ true
    → slice_get words 1 ≡ Some b → same ≡ pointwise nat_eq b second → IsTrue same ↔ words ≡ first ∷ second ∷ []
two_words_tell words first second a b same l e known f s =
    let are : words ≡ a ∷ b ∷ [] = two_words words a b l e f in
    let is_first : a ≡ first = (bytes_eq-Decides a first).0 known in (
      λ t. are ∙ ap (λ w. w ∷ b ∷ []) is_first ∙ ap (λ w. first ∷ w ∷ []) ((bytes_eq-Decides b second).0 (sym s ∙ t)),
      λ h. s ∙ (bytes_eq-Decides b second).1 (last a b first second (sym are ∙ h)),
    )
  where
    last : (x y v w : List ℕ) → x ∷ y ∷ [] ≡ v ∷ w ∷ [] → y ≡ w
    last x y v w h = cc

three_words : (words : List (List ℕ)) (a b d : List ℕ) → length words ≡ 3 → slice_get words 0 ≡ Some a → slice_get words 1 ≡ Some b → slice_get words 2 ≡ Some d → words ≡ a ∷ b ∷ d ∷ []
three_words [] a b d l e f g = absurd (omega (arith, l))
three_words (x ∷ []) a b d l e f g = absurd (omega (arith, l))
three_words (x ∷ y ∷ []) a b d l e f g = absurd (omega (arith, l))
three_words (x ∷ y ∷ z ∷ []) a b d l e f g =
    let h : Some x ≡ Some a = e in
    let k : Some y ≡ Some b = f in
    let i : Some z ≡ Some d = g in cc
three_words (x ∷ y ∷ z ∷ w ∷ words) a b d l e f g = absurd (omega (arith, l))

pub third_word : (words : List (List ℕ)) (first second a b d : List ℕ) → length words ≡ 3 → slice_get words 0 ≡ Some a → false ≡ not (pointwise nat_eq a first)
    → slice_get words 1 ≡ Some b → false ≡ not (pointwise nat_eq b second) → slice_get words 2 ≡ Some d → words ≡ first ∷ second ∷ d ∷ []
third_word words first second a b d l e same f same_second g =
    three_words words a b d l e f g ∙ ap (λ w. w ∷ b ∷ d ∷ []) (same_word a first same) ∙ ap (λ w. first ∷ w ∷ d ∷ []) (same_word b second same_second)

pub second_word : (words : List (List ℕ)) (first a b : List ℕ) → length words ≡ 2 → slice_get words 0 ≡ Some a → false ≡ not (pointwise nat_eq a first) → slice_get words 1 ≡ Some b → words ≡ first ∷ b ∷ []
second_word words first a b l e same f = two_words words a b l e f ∙ ap (λ w. w ∷ b ∷ []) (same_word a first same)

module _ (spelled_by : List ℕ → List (List ℕ)) (apart : (a b : List ℕ) → spelled_by a ≡ spelled_by b → a ≡ b) (may : ℕ → Type 0) (few : (n : ℕ) → may n → n < number_bound) where
  pub number_called : (words : List (List ℕ)) (digits : List ℕ) (number : ℕ) (result : Option ℕ) → words ≡ spelled_by digits → number < number_bound → digits ≡ decimal number
      → MatchOption result (¬ (may number)) (λ n. may n × (n ≡ number)) → Names (λ n. spelled_by (decimal n)) may words result
  number_called words digits number None are small spelled h = λ n within same.
      let below = few n within in
      h (subst may (decimal_injective n number (omega (arith, below)) (omega (arith, small)) (sym (apart digits (decimal n) (sym are ∙ same)) ∙ spelled)) within)
  number_called words digits number (Some n) are small spelled h = (h.0, are ∙ ap spelled_by (spelled ∙ ap decimal (sym h.1)))
