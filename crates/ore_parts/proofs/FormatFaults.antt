-- Where the faulty line of a text is that should begin with that of a value.
--     Strays                     as many lines as this come before the faulty one, whatever were to follow
--     front_lines, back_lines    the first lines of whole lines, whatever follows, and those behind them
--     strays_faulty, faulty_strays     so the next line is faulty; and the other way round
--     first_strays, second_strays      the faulty line of a value is one of a sequence with it
--     same_strays                the same texts for other values
--     items_strays               a faulty value behind some of so many
--     line_strays                the first line is none of a format of lines
--     long, long_lacks, long_line, part_length, too_long     no part of a text begins with a line that is longer than the text
--     both, count_both           the text of two values, and its number of lines
--     one_more_strays, count_more     so many values by the first and the others
use Rattle.std.proofs.Common.{◌≡◌, ◌≤◌, ◌⊎◌, inl, inr, ℕ, zero, suc, ◌+◌, ◌<◌, List, [], ◌∷◌, ◌++◌, length, take, drop, replicate, refl, sym, ap, subst, ◌∙◌, append_assoc, append-nil, arith}
use Rattle.std.specs.List.{flat_map, All}
use Rattle.std.proofs.lemmas.Bool.{cases_lt}
use Rattle.std.proofs.lemmas.List.{length-append, length-replicate, take-append-drop, take-append-le, take_all}
use Rattle.std.proofs.lemmas.List.Elements.{All-head, All-tail}
use Rattle.ore_parts.specs.Lines.{LacksByte, IsLine, raw_lines}
use Rattle.ore_parts.specs.FaultyLine.{IsFaultyStart, FollowedBy}
use Rattle.ore_parts.specs.Formats.{Format, IsTextOf, line_count, sequence, items}
use Rattle.ore_parts.proofs.FaultyLines.{IsWhole, stray_faulty, faulty_stray, whole_line, raw_lines-line, join, join-raw_lines, join-append, begins, take_past}
use Rattle.ore_parts.proofs.FormatLaws.{IsFormat, Makes, text_of, line_count-append, line_count-line, one_more, onto, more_items, items_is}

pub record Strays {X : Type 0} (F : Format X) (text : List ℕ) (before : ℕ) : Type 0 where
  pub follows : (x : X) × F.may x × (before < line_count (F.text x)) × (take before (raw_lines text) ≡ take before (raw_lines (F.text x)))
  pub differs : (x : X) (after : List ℕ) → F.may x → take (suc before) (raw_lines text) ≡ take (suc before) (raw_lines (F.text x ++ after)) → ⊥

-- the first lines of whole lines, whatever follows
pub front_lines : (p : List ℕ) → IsWhole (line_count p) p → (n : ℕ) (after : List ℕ) → n ≤ line_count p → take n (raw_lines (p ++ after)) ≡ take n (raw_lines p)
unfolding raw_lines
front_lines p w n after le =
    let lines : raw_lines p ≡ w.lines = ap raw_lines (sym (append-nil p)) ∙ w.first [] ∙ append-nil w.lines in
    let few : n ≤ length w.lines = omega (arith, w.count) in
    ap (take n) (w.first after) ∙ take-append-le n w.lines (raw_lines after) few ∙ ap (take n) (sym lines)

-- and behind them
back_lines : (p : List ℕ) → IsWhole (line_count p) p → (n : ℕ) (after : List ℕ) → take (line_count p + n) (raw_lines (p ++ after)) ≡ raw_lines p ++ take n (raw_lines after)
unfolding raw_lines
back_lines p w n after =
    let lines : raw_lines p ≡ w.lines = ap raw_lines (sym (append-nil p)) ∙ w.first [] ∙ append-nil w.lines in
    ap (take (line_count p + n)) (w.first after) ∙ take_past n w.lines (raw_lines after) (line_count p) w.count ∙ ap (λ ls. ls ++ take n (raw_lines after)) (sym lines)

module _ {X : Type 0} (F : Format X) (f : IsFormat F) (text : List ℕ) where
  pub strays_faulty : (n : ℕ) → Strays F text n → IsFaultyStart (IsTextOf F) text (suc n)
  strays_faulty n s after =
      let x = s.follows.0 in
      let le : n ≤ line_count (F.text x) = omega (arith, s.follows.2) in
      stray_faulty (FollowedBy (IsTextOf F) after) text n (record {
        follows = (F.text x ++ after, (F.text x, (x, s.follows.1, refl), refl), s.follows.3 ∙ sym (front_lines (F.text x) (f.whole x s.follows.1) n after le));
        differs = λ other o e. s.differs o.1.0 after o.1.1 (e ∙ ap (λ t. take (suc n) (raw_lines t)) (o.2 ∙ ap (λ t. t ++ after) o.1.2));
      })

  -- a line that is longer than the text
  abbrev long : List ℕ
  long = replicate (suc (length text)) 0

  long_lacks : (n : ℕ) → LacksByte 10 (replicate n 0)
  long_lacks zero = refl
  long_lacks (suc n) = long_lacks n

  long_line : IsLine (long ++ 10 ∷ [])
  long_line = (long, long_lacks (suc (length text)), refl)

  part_length : (n : ℕ) → length (join (take n (raw_lines text))) ≤ length text
  part_length n =
      let ls = raw_lines text in
      let all : join (take n ls) ++ join (drop n ls) ≡ text = sym (join-append (take n ls) (drop n ls)) ∙ ap join (take-append-drop n ls) ∙ join-raw_lines text in
      let sum = sym (length-append (join (take n ls)) (join (drop n ls))) ∙ ap length all in
      omega (arith, sum)

  -- a text doesn't agree with whole lines and a line longer than it
  too_long : (x : X) → F.may x → (n : ℕ) → line_count (F.text x) < n → take n (raw_lines text) ≡ take n (raw_lines (F.text x ++ (long ++ 10 ∷ []))) → ⊥
  unfolding raw_lines
  too_long x h n lt e =
      let w = f.whole x h in
      let last : raw_lines (long ++ 10 ∷ []) ≡ (long ++ 10 ∷ []) ∷ [] = ap raw_lines (sym (append-nil (long ++ 10 ∷ []))) ∙ raw_lines-line (long ++ 10 ∷ []) [] long_line in
      let ls = w.lines ++ (long ++ 10 ∷ []) ∷ [] in
      let lines : raw_lines (F.text x ++ (long ++ 10 ∷ [])) ≡ ls = w.first (long ++ 10 ∷ []) ∙ ap (λ t. w.lines ++ t) last in
      let few : length ls ≤ n = omega (arith, length-append w.lines ((long ++ 10 ∷ []) ∷ []), w.count) in
      let is : take n (raw_lines text) ≡ ls = e ∙ ap (take n) lines ∙ take_all n ls few in
      let size : length (join ls) ≡ length (join w.lines) + length (join ((long ++ 10 ∷ []) ∷ [])) = ap length (join-append w.lines ((long ++ 10 ∷ []) ∷ [])) ∙ length-append (join w.lines) (join ((long ++ 10 ∷ []) ∷ [])) in
      let tail : length (join ((long ++ 10 ∷ []) ∷ [])) ≡ suc (length text) + 1 = ap length (append-nil (long ++ 10 ∷ [])) ∙ length-append long (10 ∷ []) ∙ ap (λ k. k + 1) (length-replicate (suc (length text)) 0) in
      let part : length (join ls) ≤ length text = subst (λ t. length (join t) ≤ length text) is (part_length n) in
      omega (arith, size, tail, part)

  pub faulty_strays : (line : ℕ) → IsFaultyStart (IsTextOf F) text line → (n : ℕ) × (line ≡ suc n) × Strays F text n
  faulty_strays line s =
      let r = faulty_stray (FollowedBy (IsTextOf F) (long ++ 10 ∷ [])) text line (s (long ++ 10 ∷ [])) in
      let x = r.2.follows.1.1.0 in
      let h = r.2.follows.1.1.1 in
      let e : take r.0 (raw_lines text) ≡ take r.0 (raw_lines (F.text x ++ (long ++ 10 ∷ []))) = r.2.follows.2 ∙ ap (λ t. take r.0 (raw_lines t)) (r.2.follows.1.2 ∙ ap (λ t. t ++ (long ++ 10 ∷ [])) r.2.follows.1.1.2) in
      (r.0, r.1, by r.0 r.1 x h e (cases_lt r.0 (line_count (F.text x))) (cases_lt (line_count (F.text x)) r.0))
    where
      apart : (n : ℕ) → line ≡ suc n → (x : X) (after : List ℕ) → F.may x → take (suc n) (raw_lines text) ≡ take (suc n) (raw_lines (F.text x ++ after)) → ⊥
      apart n is x after h e =
          let q = faulty_stray (FollowedBy (IsTextOf F) after) text line (s after) in
          let same : q.0 ≡ n = omega (arith, q.1, is) in
          q.2.differs (F.text x ++ after) (F.text x, (x, h, refl), refl) (subst (λ k. take (suc k) (raw_lines text) ≡ take (suc k) (raw_lines (F.text x ++ after))) (sym same) e)

      by : (n : ℕ) → line ≡ suc n → (x : X) → F.may x → take n (raw_lines text) ≡ take n (raw_lines (F.text x ++ (long ++ 10 ∷ [])))
          → (n < line_count (F.text x)) ⊎ (line_count (F.text x) ≤ n) → (line_count (F.text x) < n) ⊎ (n ≤ line_count (F.text x)) → Strays F text n
      by n is x h e (inl lt) b = record {
        follows = (x, h, lt, e ∙ front_lines (F.text x) (f.whole x h) n (long ++ 10 ∷ []) (let l : n ≤ line_count (F.text x) = omega arith in l));
        differs = apart n is;
      }
      by n is x h e (inr ge) (inl lt) = absurd (too_long x h n lt e)
      by n is x h e (inr ge) (inr le) =
          let same : n ≡ line_count (F.text x) + 0 = omega arith in
          let front : take (line_count (F.text x) + 0) (raw_lines (F.text x ++ (long ++ 10 ∷ []))) ≡ take (line_count (F.text x) + 0) (raw_lines text) =
          sym (subst (λ k. take k (raw_lines text) ≡ take k (raw_lines (F.text x ++ (long ++ 10 ∷ [])))) same e) in
          let b = begins (line_count (F.text x)) 0 (F.text x) (long ++ 10 ∷ []) text (f.whole x h) front in
          absurd (apart n is x b.0 h (ap (λ t. take (suc n) (raw_lines t)) b.1))

-- ---- a value and then another

module _ {X Y : Type 0} (F : Format X) (G : X → Format Y) (f : IsFormat F) (g : (x : X) → F.may x → IsFormat (G x)) where
  abbrev both : X × Y → List ℕ
  both p = F.text p.0 ++ (G p.0).text p.1

  count_both : (x : X) (y : Y) → F.may x → (G x).may y → line_count (F.text x ++ (G x).text y) ≡ line_count (F.text x) + line_count ((G x).text y)
  count_both x y h k = line_count-append (line_count (F.text x)) (line_count ((G x).text y)) (F.text x) ((G x).text y) (f.whole x h) ((g x h).whole y k)

  pub first_strays : (text : List ℕ) (n : ℕ) → Strays F text n → Strays (sequence F G) text n
  first_strays text n s =
      let x = s.follows.0 in
      let h = s.follows.1 in
      let y = (g x h).some in
      let few : n < line_count (F.text x ++ (G x).text y.0) = omega (arith, count_both x y.0 h y.1, s.follows.2) in
      let le : n ≤ line_count (F.text x) = omega (arith, s.follows.2) in
      record {
        follows = ((x, y.0), (h, y.1), few, s.follows.3 ∙ sym (front_lines (F.text x) (f.whole x h) n ((G x).text y.0) le));
        differs = λ p after k e. s.differs p.0 ((G p.0).text p.1 ++ after) k.0 (e ∙ ap (λ t. take (suc n) (raw_lines t)) (append_assoc (F.text p.0) ((G p.0).text p.1) after));
      }

  pub second_strays : (x : X) (text left : List ℕ) (n : ℕ) → F.may x → text ≡ F.text x ++ left → Strays (G x) left n → Strays (sequence F G) text (line_count (F.text x) + n)
  second_strays x text left n h is s =
      let y = s.follows.0 in
      let k = s.follows.1 in
      let c = line_count (F.text x) in
      let few : c + n < line_count (F.text x ++ (G x).text y) = omega (arith, count_both x y h k, s.follows.2) in
      record {
        follows = ((x, y), (h, k), few, ap (λ t. take (c + n) (raw_lines t)) is ∙ back_lines (F.text x) (f.whole x h) n left ∙ ap (λ ls. raw_lines (F.text x) ++ ls) s.follows.3 ∙ sym (back_lines (F.text x) (f.whole x h) n ((G x).text y)));
        differs = λ p after m e.
            let more : suc (c + n) ≡ c + suc n = omega arith in
            let other : both p ++ after ≡ F.text p.0 ++ ((G p.0).text p.1 ++ after) = append_assoc (F.text p.0) ((G p.0).text p.1) after in
            let same = subst (λ k. take k (raw_lines (F.text x ++ left)) ≡ take k (raw_lines (both p ++ after))) more (ap (λ t. take (suc (c + n)) (raw_lines t)) (sym is) ∙ e) in
            let b = begins c (suc n) (F.text x) left (both p ++ after) (f.whole x h) same in
            let r = f.cancel p.0 x m.0 h ((G p.0).text p.1 ++ after) b.0 (sym other ∙ b.1) in
            apart x p.0 p.1 (sym r.0) m.1 left n s after (b.2 ∙ ap (λ t. take (suc n) (raw_lines t)) (sym r.1));
      }
    where
      apart : (x z : X) (y : Y) → x ≡ z → (G z).may y → (left : List ℕ) (n : ℕ) → Strays (G x) left n → (after : List ℕ) → take (suc n) (raw_lines left) ≡ take (suc n) (raw_lines ((G z).text y ++ after)) → ⊥
      apart x z y same k left n s after e =
          s.differs y after (subst (λ w. (G w).may y) (sym same) k) (e ∙ ap (λ w. take (suc n) (raw_lines ((G w).text y ++ after))) (sym same))

-- ---- the same texts for other values

pub same_strays : {X Y : Type 0} (F : Format X) (H : Format Y) (to : X → Y) → Makes F H to → (text : List ℕ) (n : ℕ) → Strays F text n → Strays H text n
same_strays F H to m text n s =
    let x = s.follows.0 in
    let h = s.follows.1 in
    let is : H.text (to x) ≡ F.text x = m.text_to x h in
    record {
      follows = (to x, m.may_to x h, subst (λ t. n < line_count t) (sym is) s.follows.2, s.follows.3 ∙ ap (λ t. take n (raw_lines t)) (sym is));
      differs = λ y after k e. let r = m.from y k in s.differs r.0 after r.1 (e ∙ ap (λ t. take (suc n) (raw_lines (t ++ after))) (text_of F H to m y k));
    }

-- ---- so many values

module _ {X : Type 0} (F : Format X) (f : IsFormat F) where
  one_more_strays : (n : ℕ) (text : List ℕ) (k : ℕ) → Strays (one_more F n) text k → Strays (items F (suc n)) text k
  one_more_strays n text k s = same_strays (one_more F n) (items F (suc n)) (onto F) (more_items F n) text k s

  count_more : (x : X) (xs : List X) → F.may x → All F.may xs → line_count (F.text x ++ flat_map F.text xs) ≡ line_count (F.text x) + line_count (flat_map F.text xs)
  count_more x xs h all = line_count-append (line_count (F.text x)) (line_count (flat_map F.text xs)) (F.text x) (flat_map F.text xs) (f.whole x h) ((items_is F f (length xs)).whole xs (refl, all))

  pub items_strays : (n : ℕ) (xs : List X) (text left : List ℕ) (k : ℕ) → All F.may xs → length xs < n → text ≡ flat_map F.text xs ++ left → Strays F left k → Strays (items F n) text (line_count (flat_map F.text xs) + k)
  unfolding raw_lines
  items_strays zero xs text left k all lt is s = absurd (let z : ⊥ = omega arith in z)
  items_strays (suc n) [] text left k all lt is s =
      let same : k ≡ 0 + k = omega arith in
      subst (λ t. Strays (items F (suc n)) t (0 + k)) (sym is) (subst (Strays (items F (suc n)) left) same
      (one_more_strays n left k (first_strays F (λ _. items F n) f (λ x h. items_is F f n) left k s)))
  items_strays (suc n) (x ∷ xs) text left k all lt is s =
      let h = All-head F.may x xs all in
      let rest = All-tail F.may x xs all in
      let few : length xs < n = omega arith in
      let deep = items_strays n xs (flat_map F.text xs ++ left) left k rest few refl s in
      let more : line_count (F.text x) + (line_count (flat_map F.text xs) + k) ≡ line_count (F.text x ++ flat_map F.text xs) + k = omega (arith, count_more x xs h rest) in
      subst (Strays (items F (suc n)) text) more
      (one_more_strays n text (line_count (F.text x) + (line_count (flat_map F.text xs) + k))
      (second_strays F (λ _. items F n) f (λ x h. items_is F f n) x text (flat_map F.text xs ++ left) (line_count (flat_map F.text xs) + k) h
      (is ∙ append_assoc (F.text x) (flat_map F.text xs) left) deep))

-- ---- one line

pub line_strays : {X : Type 0} (F : Format X) → IsFormat F → ((x : X) → F.may x → IsLine (F.text x)) → (text : List ℕ) → ((x : X) (rest : List ℕ) → F.may x → text ≡ F.text x ++ rest → ⊥) → Strays F text 0
line_strays F f lines text none =
    let x = f.some.0 in
    let h = f.some.1 in
    let few : 0 < line_count (F.text x) = omega (arith, line_count-line (F.text x) (lines x h)) in
    record {
      follows = (x, h, few, refl);
      differs = λ y after k e.
          let b = begins 1 0 (F.text y) after text (whole_line (F.text y) (lines y k)) (sym e) in
          none y b.0 k b.1;
    }
