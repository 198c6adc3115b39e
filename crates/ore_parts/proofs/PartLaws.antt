-- The parts of a certificate that are lines, and those that are lists of them, are formats.
--     count_line, step_line, entry_line, sizes_words, columns_words    words of lines
--     count_is                the line of a number is a format
--     apart_words             the first words of the two lines of a pair differ
--     counted, counted_makes     values behind a line with their number, as that line and so many values
--     same_term               operators of one term
--     step_is, quotients_is, entry_is, pairs_is        formats
--     steps_behind, steps_of     the steps that follow the line of a pair
--     entry_from, entry_sequence, line_and_steps       a pair from its line and its steps, and back
--     quotients_parts, entry_parts, pairs_parts        each as two parts
--     may_entry, text_entry, entry_makes               what a pair owes
--     entry_lacks, step_lacks     words that lack the line end
--     entry_same, step_same       words that are the same are of the same values
--     degree-unit, one_fits, some_step, some_written     a step that may be written
use Rattle.std.proofs.Common.{◌≡◌, ℕ, suc, ◌<◌, List, [], ◌∷◌, ◌++◌, length, refl, sym, ap, subst, ◌∙◌, append-nil, arith}
use Rattle.std.specs.Prelude.{codes, decimal}
use Rattle.std.specs.List.{All, flat_map, AllByRecursion}
use Rattle.std.proofs.lemmas.List.{append_cancel_left}
use Rattle.std.proofs.lemmas.List.Elements.{All-nil}
use Rattle.ore_algebra.specs.Free.{single}
use Rattle.ore_algebra.proofs.ListLaws.{same_cons}
use Rattle.ore_rational.specs.Fraction.{Fraction}
use Rattle.ore_rational.specs.Field.{rationals}
use Rattle.ore_monomial.specs.Monomial.{Monomial, unit, degree, plain_cmp}
use Rattle.ore_monomial.specs.Signature.{Signature}
use Rattle.ore_monomial.proofs.Declared.{MonomialOf-unit}
use Rattle.ore_ring.specs.Terms.{Summand, falling}
use Rattle.ore_ring.proofs.Falls.{single_falling}
use Rattle.ore_text.specs.CanonicalParts.{IsPrintableTerm}
use Rattle.ore_text.specs.CanonicalText.{operator_text}
use Rattle.ore_text.specs.Names.{AreNames}
use Rattle.ore_text.proofs.CanonicalUnique.{canonical_is_unique}
use Rattle.ore_text.proofs.PrintableTerms.{variables_of, storable_of}
use Rattle.ore_rows.specs.Reduction.{Step, step_operator}
use Rattle.ore_parts.specs.declared.block.PairEntry.{PairEntry}
use Rattle.ore_parts.specs.declared.block.PairEntry.TheVariants.{Pair, Skip}
use Rattle.ore_parts.specs.declared.pairs.EntryLine.{EntryLine}
use Rattle.ore_parts.specs.declared.pairs.EntryLine.TheVariants.{PairLine, SkipLine}
use Rattle.ore_parts.specs.BlockText.{place, IsWrittenStep, IsWrittenEntry, entry_text}
use Rattle.ore_parts.specs.CertificateText.{number_bound, matrix_words}
use Rattle.ore_parts.specs.Formats.{Format, sequence, items}
use Rattle.ore_parts.specs.Lines.{LacksByte}
use Rattle.ore_parts.specs.PartFormats.{count_format, step_words, step_format, quotients_format, entry_words, IsWrittenLine, entry_line_format, entry_format, pairs_format}
use Rattle.ore_parts.proofs.Bytes.{LacksByte-append, LacksByte-cons, LacksByte-decimal}
use Rattle.ore_parts.proofs.FormatLaws.{IsFormat, AreWords, Makes, line_is, items_is, none_left}
use Rattle.ore_parts.proofs.Places.{spaced_lacks, three_lack, same_place, place_rest, zero_is_place}
use Rattle.ore_parts.proofs.TwoParts.{TwoParts, two_are}
use Rattle.ore_parts.proofs.MatrixTexts.{operator_lacks_end, words_lack_end, words_cancel}
use Rattle.ore_parts.proofs.Numbers.{same_decimal}

-- ---- lines of numbers

pub count_line : (word : List ℕ) → LacksByte 10 word → AreWords (λ n. word ++ 32 ∷ decimal n) (λ n. n < number_bound)
count_line word h = record {
  some = (0, omega arith);
  lacks = λ n k. LacksByte-append 10 word (32 ∷ decimal n) h (LacksByte-cons 10 32 (decimal n) refl (LacksByte-decimal 10 n (omega arith)));
  same = λ m n k l e. same_decimal m n k l (ap (λ t. drop_one t) (append_cancel_left word (32 ∷ decimal m) (32 ∷ decimal n) e));
}
  where
    drop_one : List ℕ → List ℕ
    drop_one [] = []
    drop_one (x ∷ xs) = xs

entry_lacks : (e : EntryLine) → LacksByte 10 (entry_words e)
entry_lacks (PairLine i j count) = LacksByte-append 10 (codes "pair ") (place i ++ 32 ∷ (place j ++ 32 ∷ decimal count)) refl (three_lack (suc i) (suc j) count)
entry_lacks (SkipLine i j via) = LacksByte-append 10 (codes "skip ") (place i ++ 32 ∷ (place j ++ 32 ∷ place via)) refl (three_lack (suc i) (suc j) (suc via))

pub apart_words : (u v : List ℕ) → codes "pair " ++ u ≡ codes "skip " ++ v → ⊥
apart_words u v e = let h = (same_cons 112 115 (codes "air " ++ u) (codes "kip " ++ v) e).0 in let z : ⊥ = omega (arith, h) in z

entry_same : (e f : EntryLine) → IsWrittenLine e → IsWrittenLine f → entry_words e ≡ entry_words f → e ≡ f
entry_same (PairLine i j n) (PairLine k l m) h g e =
    let first = place_rest i k (place j ++ 32 ∷ decimal n) (place l ++ 32 ∷ decimal m) h.0 g.0 (append_cancel_left (codes "pair ") (place i ++ 32 ∷ (place j ++ 32 ∷ decimal n)) (place k ++ 32 ∷ (place l ++ 32 ∷ decimal m)) e) in
    let second = place_rest j l (decimal n) (decimal m) h.1 g.1 first.1 in
    let third = same_decimal n m h.2 g.2 second.1 in
    λ x. PairLine (first.0 x) (second.0 x) (third x)
entry_same (SkipLine i j n) (SkipLine k l m) h g e =
    let first = place_rest i k (place j ++ 32 ∷ place n) (place l ++ 32 ∷ place m) h.0 g.0 (append_cancel_left (codes "skip ") (place i ++ 32 ∷ (place j ++ 32 ∷ place n)) (place k ++ 32 ∷ (place l ++ 32 ∷ place m)) e) in
    let second = place_rest j l (place n) (place m) h.1 g.1 first.1 in
    let third = same_place n m h.2 g.2 second.1 in
    λ x. SkipLine (first.0 x) (second.0 x) (third x)
entry_same (PairLine i j n) (SkipLine k l m) h g e = absurd (apart_words (place i ++ 32 ∷ (place j ++ 32 ∷ decimal n)) (place k ++ 32 ∷ (place l ++ 32 ∷ place m)) e)
entry_same (SkipLine i j n) (PairLine k l m) h g e = absurd (apart_words (place k ++ 32 ∷ (place l ++ 32 ∷ decimal m)) (place i ++ 32 ∷ (place j ++ 32 ∷ place n)) (sym e))

pub entry_line : AreWords entry_words IsWrittenLine
entry_line = record { some = (SkipLine 0 0 0, (zero_is_place, zero_is_place, zero_is_place)); lacks = λ e h. entry_lacks e; same = entry_same }

pub sizes_words : (name : List ℕ) → LacksByte 10 name → AreWords (λ (s : ℕ × ℕ). matrix_words name s.0 s.1) (λ s. (s.0 < number_bound) × (s.1 < number_bound))
sizes_words name named = record {
  some = ((0, 0), (omega arith, omega arith));
  lacks = λ s h. words_lack_end name s.0 s.1 named;
  same = λ s t h k e.
      let r = words_cancel name s.0 s.1 t.0 t.1 [] [] named h.0 h.1 k.0 k.1 (ap (λ w. (w ++ 10 ∷ []) ++ []) e) in
      λ i. (r.0 i, r.1 i);
}

pub columns_words : (name : List ℕ) → LacksByte 10 name → AreWords (λ cols. matrix_words name 1 cols) (λ cols. cols < number_bound)
columns_words name named = record {
  some = (0, omega arith);
  lacks = λ cols h. words_lack_end name 1 cols named;
  same = λ a b h k e. (words_cancel name 1 a 1 b [] [] named (omega arith) h (omega arith) k (ap (λ w. (w ++ 10 ∷ []) ++ []) e)).1;
}

-- ---- values behind a line with their number

pub count_is : (word : List ℕ) → LacksByte 10 word → IsFormat (count_format word)
count_is word named = line_is (λ n. word ++ 32 ∷ decimal n) (λ n. n < number_bound) (count_line word named)

module _ {X : Type 0} (word : List ℕ) (named : LacksByte 10 word) (F : Format X) (f : IsFormat F) (H : Format (List X)) (parts : (xs : List X) → H.may xs → (length xs < number_bound) × All F.may xs)
    (may : (xs : List X) → length xs < number_bound → All F.may xs → H.may xs) (text : (xs : List X) → H.text xs ≡ ((word ++ 32 ∷ decimal (length xs)) ++ 10 ∷ []) ++ flat_map F.text xs) where
  pub counted_makes : Makes (sequence (count_format word) (items F)) H (λ p. p.1)
  counted_makes = record {
    may_to = λ p h. may p.1 (subst (λ n. n < number_bound) (sym h.1.0) h.0) h.1.1;
    text_to = λ p h. text p.1 ∙ ap (λ n. ((word ++ 32 ∷ decimal n) ++ 10 ∷ []) ++ flat_map F.text p.1) h.1.0;
    from = λ xs h. let k = parts xs h in ((length xs, xs), (k.0, (refl, k.1)), refl);
  }

  abbrev pub counted : TwoParts ℕ (List X) (List X)
  counted = record { first = count_format word; second = items F; whole = H; to = λ p. p.1; first_is = count_is word named; second_is = λ n h. items_is F f n; makes = counted_makes }

-- ---- steps

module _ (s : Signature) (names : List (List ℕ)) (are : AreNames names) (fit : length names ≡ length s.kinds) where
  degree-unit : degree unit ≡ 0
  unfolding degree unit
  degree-unit = refl

  one_fits : IsPrintableTerm s (unit, rationals.one)
  one_fits = record { variables = MonomialOf-unit s; storable = record { numerator = omega arith; denominator = omega arith; degree = omega (arith, degree-unit) } }

  some_step : Step rationals
  some_step = record { index = 0; monomial = unit; number = rationals.one }

  some_written : IsWrittenStep s names some_step
  unfolding some_step
  some_written =
      let falls = single_falling s.order unit rationals.one rationals.one_apart in
      let each : AllByRecursion (IsPrintableTerm s) (falling s.order (single rationals plain_cmp unit rationals.one)) = subst (AllByRecursion (IsPrintableTerm s)) (sym falls) (one_fits, tt) in
      record {
        index = zero_is_place;
        number = rationals.one_apart;
        term = record {
          names_fit = are;
          count = fit;
          variables = variables_of s (single rationals plain_cmp unit rationals.one) s.order each;
          storable = storable_of s (single rationals plain_cmp unit rationals.one) s.order each;
        };
      }

  step_lacks : (t : Step rationals) → LacksByte 10 (step_words names s.order t)
  step_lacks t = LacksByte-append 10 (codes "step ") (place t.index ++ 32 ∷ operator_text names s.order (step_operator rationals t)) refl (spaced_lacks (suc t.index) (operator_text names s.order (step_operator rationals t)) (operator_lacks_end names s.order are (step_operator rationals t)))

  -- one term is that of one monomial and one number
  pub same_term : (m q : Monomial) (x y : Fraction) → ¬ (x ≡ rationals.zero) → ¬ (y ≡ rationals.zero) → single rationals plain_cmp m x ≡ single rationals plain_cmp q y → (m ≡ q) × (x ≡ y)
  same_term m q x y h k e = first (m, x) (q, y) (sym (single_falling s.order m x h) ∙ ap (falling s.order) e ∙ single_falling s.order q y k)
    where
      first : (t u : Summand) → t ∷ [] ≡ u ∷ [] → (t.0 ≡ u.0) × (t.1 ≡ u.1)
      first t u e = let h : t ≡ u = cc in (ap (λ (v : Summand). v.0) h, ap (λ (v : Summand). v.1) h)

  step_same : (t u : Step rationals) → IsWrittenStep s names t → IsWrittenStep s names u → step_words names s.order t ≡ step_words names s.order u → t ≡ u
  step_same t u h k e =
      let f = operator_text names s.order (step_operator rationals t) in
      let g = operator_text names s.order (step_operator rationals u) in
      let first = place_rest t.index u.index f g h.index k.index (append_cancel_left (codes "step ") (place t.index ++ 32 ∷ f) (place u.index ++ 32 ∷ g) e) in
      let term = same_term t.monomial u.monomial t.number u.number h.number k.number (canonical_is_unique s names (step_operator rationals t) (step_operator rationals u) h.term k.term first.1) in
      λ i. record { index = first.0 i; monomial = term.0 i; number = term.1 i }

  pub step_line : AreWords (step_words names s.order) (IsWrittenStep s names)
  step_line = record { some = (some_step, some_written); lacks = λ t h. step_lacks t; same = step_same }

  pub step_is : IsFormat (step_format s names)
  step_is = line_is (step_words names s.order) (IsWrittenStep s names) step_line

  abbrev pub quotients_parts : TwoParts ℕ (List (Step rationals)) (List (Step rationals))
  quotients_parts = counted (codes "steps") refl (step_format s names) step_is (quotients_format s names) (λ xs h. (h.few, h.all)) (λ xs few all. record { few = few; all = all }) (λ xs. refl)

  pub quotients_is : IsFormat (quotients_format s names)
  quotients_is = two_are quotients_parts

  -- ---- pairs

  abbrev steps_behind : EntryLine → ℕ
  steps_behind (PairLine i j count) = count
  steps_behind (SkipLine i j via) = 0

  abbrev steps_of : EntryLine → Format (List (Step rationals))
  steps_of e = items (step_format s names) (steps_behind e)

  abbrev entry_from : EntryLine → List (Step rationals) → PairEntry
  entry_from (PairLine i j count) steps = Pair i j steps
  entry_from (SkipLine i j via) steps = Skip i j via

  abbrev entry_sequence : Format (EntryLine × List (Step rationals))
  entry_sequence = sequence entry_line_format steps_of

  may_entry : (e : EntryLine) (steps : List (Step rationals)) → IsWrittenLine e → (steps_of e).may steps → IsWrittenEntry s names (entry_from e steps)
  may_entry (PairLine i j count) steps h k = (h.0, h.1, record { few = subst (λ n. n < number_bound) (sym k.0) h.2; all = k.1 })
  may_entry (SkipLine i j via) steps h k = h

  text_entry : (e : EntryLine) (steps : List (Step rationals)) → (steps_of e).may steps → entry_text names s.order (entry_from e steps) ≡ entry_sequence.text (e, steps)
  text_entry (PairLine i j count) steps k = ap (λ n. (entry_words (PairLine i j n) ++ 10 ∷ []) ++ flat_map (step_format s names).text steps) k.0
  text_entry (SkipLine i j via) steps k = sym (append-nil (entry_words (SkipLine i j via) ++ 10 ∷ [])) ∙ ap (λ t. (entry_words (SkipLine i j via) ++ 10 ∷ []) ++ t) (none_left (step_format s names) steps k.0)

  line_and_steps : (e : PairEntry) → IsWrittenEntry s names e → (p : EntryLine × List (Step rationals)) × entry_sequence.may p × (entry_from p.0 p.1 ≡ e)
  line_and_steps (Pair i j steps) h = ((PairLine i j (length steps), steps), ((h.0, h.1, h.2.few), (refl, h.2.all)), refl)
  line_and_steps (Skip i j via) h = ((SkipLine i j via, []), (h, (refl, All-nil (IsWrittenStep s names))), refl)

  pub entry_makes : Makes entry_sequence (entry_format s names) (λ p. entry_from p.0 p.1)
  entry_makes = record { may_to = λ p h. may_entry p.0 p.1 h.0 h.1; text_to = λ p h. text_entry p.0 p.1 h.1; from = line_and_steps }

  abbrev pub entry_parts : TwoParts EntryLine (List (Step rationals)) PairEntry
  entry_parts = record {
    first = entry_line_format;
    second = steps_of;
    whole = entry_format s names;
    to = λ p. entry_from p.0 p.1;
    first_is = line_is entry_words IsWrittenLine entry_line;
    second_is = λ e h. items_is (step_format s names) step_is (steps_behind e);
    makes = entry_makes;
  }

  pub entry_is : IsFormat (entry_format s names)
  entry_is = two_are entry_parts

  abbrev pub pairs_parts : TwoParts ℕ (List PairEntry) (List PairEntry)
  pairs_parts = counted (codes "pairs") refl (entry_format s names) entry_is (pairs_format s names) (λ xs h. (h.few, h.all)) (λ xs few all. record { few = few; all = all }) (λ xs. refl)

  pub pairs_is : IsFormat (pairs_format s names)
  pairs_is = two_are pairs_parts
