-- What makes a format: some value may be written, texts are whole lines, and no text begins with those of two values.
--     IsFormat                the three
--     line_count-whole, line_count-append, line_count-line, whole_text    the number of lines of whole lines
--     AreWords                words of a line for each value
--     decoded                 values that are read back from their words have different words
--     fixed_is, line_is, sequence_is, items_is, made_is    formats
--     Makes                   each value that may be written is made of one of another format, which has the same text
--     text_of                 the text of what a value is made of
--     same_texts, other_texts     a text of the first is one of the second, and the other way round
--     one_more, onto, first_and_rest, more_items     so many values are one and then the others
--     second_cancel           no text begins with those of two second values
--     no_items, none_left, none_is       no value has no text, and is a format
use Rattle.std.proofs.Common.{◌≡◌, ℕ, zero, suc, ◌+◌, List, [], ◌∷◌, ◌++◌, length, refl, sym, ap, subst, ◌∙◌, append_assoc, append-nil, arith}
use Rattle.std.specs.List.{All, flat_map}
use Rattle.std.proofs.lemmas.List.{append_cancel_left, append_cancel_right}
use Rattle.std.proofs.lemmas.List.Elements.{All-nil, All-cons, All-head, All-tail}
use Rattle.ore_parts.specs.Lines.{LacksByte, IsLine, raw_lines}
use Rattle.ore_parts.specs.Formats.{Format, IsTextOf, line_count, fixed, one_line, sequence, items}
use Rattle.ore_parts.proofs.Bytes.{line_cancel}
use Rattle.ore_parts.proofs.FaultyLines.{IsWhole, whole_none, whole_line, whole_append}

-- ---- numbers of lines

pub line_count-whole : (n : ℕ) (p : List ℕ) → IsWhole n p → line_count p ≡ n
unfolding raw_lines
line_count-whole n p w = ap length (ap raw_lines (sym (append-nil p)) ∙ w.first [] ∙ append-nil w.lines) ∙ w.count

pub whole_text : (n : ℕ) (p : List ℕ) → IsWhole n p → IsWhole (line_count p) p
whole_text n p w = subst (λ k. IsWhole k p) (sym (line_count-whole n p w)) w

pub line_count-append : (m n : ℕ) (p q : List ℕ) → IsWhole m p → IsWhole n q → line_count (p ++ q) ≡ line_count p + line_count q
line_count-append m n p q a b = line_count-whole (m + n) (p ++ q) (whole_append m n p q a b) ∙ (λ i. sym (line_count-whole m p a) i + sym (line_count-whole n q b) i)

pub line_count-line : (line : List ℕ) → IsLine line → line_count line ≡ 1
line_count-line line is = line_count-whole 1 line (whole_line line is)

-- ---- formats

pub record IsFormat {X : Type 0} (F : Format X) : Type 0 where
  pub some : (x : X) × F.may x
  pub whole : (x : X) → F.may x → IsWhole (line_count (F.text x)) (F.text x)
  pub cancel : (x y : X) → F.may x → F.may y → (u v : List ℕ) → F.text x ++ u ≡ F.text y ++ v → (x ≡ y) × (u ≡ v)

pub fixed_is : (line : List ℕ) → IsLine line → IsFormat (fixed line)
fixed_is line is = record {
  some = (tt, tt);
  whole = λ x h. whole_text 1 line (whole_line line is);
  cancel = λ x y h k u v e. (refl, append_cancel_left line u v e);
}

-- some words are written, none with a line end, and no two values have the same
pub record AreWords {X : Type 0} (words : X → List ℕ) (may : X → Type 0) : Type 0 where
  pub some : (x : X) × may x
  pub lacks : (x : X) → may x → LacksByte 10 (words x)
  pub same : (x y : X) → may x → may y → words x ≡ words y → x ≡ y

pub decoded : {X : Type 0} (words : X → List ℕ) (may : X → Type 0) (read : List ℕ → X) → ((x : X) → may x → read (words x) ≡ x) → (x y : X) → may x → may y → words x ≡ words y → x ≡ y
decoded words may read again x y h k e = sym (again x h) ∙ ap read e ∙ again y k

pub line_is : {X : Type 0} (words : X → List ℕ) (may : X → Type 0) → AreWords words may → IsFormat (one_line words may)
line_is words may w = record {
  some = w.some;
  whole = λ y k. whole_text 1 (words y ++ 10 ∷ []) (whole_line (words y ++ 10 ∷ []) (words y, w.lacks y k, refl));
  cancel = λ y z k l u v e.
      let r = line_cancel (words y ++ 10 ∷ []) (words z ++ 10 ∷ []) u v (words y, w.lacks y k, refl) (words z, w.lacks z l, refl) e in
      (w.same y z k l (append_cancel_right (words y) (words z) (10 ∷ []) r.0), r.1);
}

module _ {X Y : Type 0} (F : Format X) (G : X → Format Y) (f : IsFormat F) (g : (x : X) → F.may x → IsFormat (G x)) where
  -- what follows the first value, where two values have it
  second_cancel : (x y : X) (a b : Y) → x ≡ y → F.may x → (G x).may a → (G y).may b → (u v : List ℕ) → (G x).text a ++ u ≡ (G y).text b ++ v → (a ≡ b) × (u ≡ v)
  second_cancel x y a b same h k l u v e =
      (g x h).cancel a b k (subst (λ z. (G z).may b) (sym same) l) u v (e ∙ ap (λ z. (G z).text b ++ v) (sym same))

  pub sequence_is : IsFormat (sequence F G)
  sequence_is = record {
    some = let x = f.some in let y = (g x.0 x.1).some in ((x.0, y.0), (x.1, y.1));
    whole = λ p h. whole_text (line_count (F.text p.0) + line_count ((G p.0).text p.1)) (F.text p.0 ++ (G p.0).text p.1)
        (whole_append (line_count (F.text p.0)) (line_count ((G p.0).text p.1)) (F.text p.0) ((G p.0).text p.1) (f.whole p.0 h.0) ((g p.0 h.0).whole p.1 h.1));
    cancel = λ p q h k u v e.
        let first = f.cancel p.0 q.0 h.0 k.0 ((G p.0).text p.1 ++ u) ((G q.0).text q.1 ++ v) (sym (append_assoc (F.text p.0) ((G p.0).text p.1) u) ∙ e ∙ append_assoc (F.text q.0) ((G q.0).text q.1) v) in
        let second = second_cancel p.0 q.0 p.1 q.1 first.0 h.0 h.1 k.1 u v first.1 in
        (λ i. (first.0 i, second.0 i), second.1);
  }

-- ---- values that are made of those of another format, with the same texts

pub record Makes {X Y : Type 0} (F : Format X) (H : Format Y) (to : X → Y) : Type 0 where
  pub may_to : (x : X) → F.may x → H.may (to x)
  pub text_to : (x : X) → F.may x → H.text (to x) ≡ F.text x
  pub from : (y : Y) → H.may y → (x : X) × F.may x × (to x ≡ y)

module _ {X Y : Type 0} (F : Format X) (H : Format Y) (to : X → Y) (m : Makes F H to) where
  pub text_of : (y : Y) (h : H.may y) → H.text y ≡ F.text (m.from y h).0
  text_of y h = let r = m.from y h in ap H.text (sym r.2) ∙ m.text_to r.0 r.1

  pub made_is : IsFormat F → IsFormat H
  made_is f = record {
    some = (to f.some.0, m.may_to f.some.0 f.some.1);
    whole = λ y h. let r = m.from y h in subst (λ t. IsWhole (line_count t) t) (sym (text_of y h)) (f.whole r.0 r.1);
    cancel = λ y z h k u v e.
        let a = m.from y h in
        let b = m.from z k in
        let same = f.cancel a.0 b.0 a.1 b.1 u v (ap (λ t. t ++ u) (sym (text_of y h)) ∙ e ∙ ap (λ t. t ++ v) (text_of z k)) in
        (sym a.2 ∙ ap to same.0 ∙ b.2, same.1);
  }

  pub same_texts : (t : List ℕ) → IsTextOf F t → IsTextOf H t
  same_texts t i = (to i.0, m.may_to i.0 i.1, i.2 ∙ sym (m.text_to i.0 i.1))

  pub other_texts : (t : List ℕ) → IsTextOf H t → IsTextOf F t
  other_texts t i = let r = m.from i.0 i.1 in (r.0, r.1, i.2 ∙ text_of i.0 i.1)

-- ---- so many values

module _ {X : Type 0} (F : Format X) where
  no_items : (xs : List X) → length xs ≡ 0 → [] ≡ xs
  no_items [] e = refl
  no_items (x ∷ xs) e = absurd (let z : ⊥ = omega arith in z)

  -- no value has no text
  pub none_left : (xs : List X) → length xs ≡ 0 → [] ≡ flat_map F.text xs
  none_left xs e = ap (flat_map F.text) (no_items xs e)

  none_is : IsFormat (items F 0)
  none_is = record {
    some = ([], (refl, All-nil F.may));
    whole = λ xs h. subst (λ ys. IsWhole (line_count (flat_map F.text ys)) (flat_map F.text ys)) (no_items xs h.0) (whole_text 0 [] whole_none);
    cancel = λ xs ys h k u v e.
        let a = no_items xs h.0 in
        let b = no_items ys k.0 in
        (sym a ∙ b, ap (λ zs. flat_map F.text zs ++ u) a ∙ e ∙ ap (λ zs. flat_map F.text zs ++ v) (sym b));
  }

  -- one value and then the others
  abbrev pub one_more : ℕ → Format (X × List X)
  one_more n = sequence F (λ _. items F n)

  abbrev pub onto : X × List X → List X
  onto p = p.0 ∷ p.1

  first_and_rest : (n : ℕ) (xs : List X) → (length xs ≡ suc n) × All F.may xs → (p : X × List X) × (one_more n).may p × (onto p ≡ xs)
  first_and_rest n [] h = absurd (let z : ⊥ = omega (arith, h.0) in z)
  first_and_rest n (x ∷ xs) h = ((x, xs), (All-head F.may x xs h.1, (let l : length xs ≡ n = omega (arith, h.0) in l, All-tail F.may x xs h.1)), refl)

  pub more_items : (n : ℕ) → Makes (one_more n) (items F (suc n)) onto
  more_items n = record { may_to = λ p h. (ap suc h.1.0, All-cons F.may p.0 p.1 h.0 h.1.1); text_to = λ p h. refl; from = first_and_rest n }

  pub items_is : IsFormat F → (n : ℕ) → IsFormat (items F n)
  items_is f zero = none_is
  items_is f (suc n) = made_is (one_more n) (items F (suc n)) onto (more_items n) (sequence_is F (λ _. items F n) f (λ x h. items_is f n))
