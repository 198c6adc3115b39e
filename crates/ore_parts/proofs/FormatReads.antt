-- What a reader of a format answers, from what readers of its parts answer.
--     finds, finds_fixed, finds_line, finds_both, finds_made       what is found
--     finds_none, finds_more                                 so many values, one after the other
--     none_read, item_fails, all_read                        what a reader of so many values answers
--     first_fault, second_fault, items_fault, made_fault     a fault of a part
--     same_fault                                             sets with the same texts
--     line_fault, fixed_fault, no_line_fault, other_line_fault     a fault of a line
--     line_read                                              what a reader of a line answers
--     reads_err                                              the answer of `?`
--     whole_fault, more_fault                                the faulty line of a text that should be that of a value
--     same_line                                              the same faulty line
--     nothing_after, after_nothing                           a text with nothing after it
use Rattle.std.proofs.Common.{◌≡◌, ◌⊎◌, inl, inr, Option, None, Some, ℕ, suc, ◌+◌, ◌<◌, List, [], ◌∷◌, ◌++◌, length, Result, Ok, Err, refl, sym, ap, subst, ◌∙◌, append_assoc, append-nil, arith}
use Rattle.std.specs.Prelude.{IsErrAnd}
use Rattle.std.specs.List.{flat_map}
use Rattle.std.proofs.lemmas.List.{length_push}
use Rattle.std.proofs.lemmas.List.Concat.{flat_map-append}
use Rattle.std.proofs.lemmas.List.Elements.{All-nil, All-push}
use Rattle.std.proofs.lemmas.Result.{err_from_is_err_and}
use Rattle.ore_parts.specs.declared.fault.CertFault.{CertFault}
use Rattle.ore_parts.specs.declared.fault.CertFault.TheVariants.{Malformed, Memory}
use Rattle.ore_parts.specs.Lines.{LacksByte, IsLine, Unread, raw_lines}
use Rattle.ore_parts.specs.FaultyLine.{IsFaultyLine, IsFaultyStart, FollowedBy}
use Rattle.ore_parts.specs.Reading.{IsStartFault, IsFaultOf}
use Rattle.ore_parts.specs.Formats.{Format, IsTextOf, line_count, Finds, ReadsOne, PassesLine, FindsInLine, Spells, fixed, one_line, sequence, items}
use Rattle.ore_parts.proofs.Bytes.{byte_cancel, no_line}
use Rattle.ore_parts.proofs.FaultyLines.{stray_faulty, faulty_stray, stray_same, stray_behind, stray_end}
use Rattle.ore_parts.proofs.FormatLaws.{IsFormat, AreWords, Makes, text_of, fixed_is, line_is, same_texts, other_texts, line_count-append, line_count-line, items_is, sequence_is}
use Rattle.ore_parts.proofs.FormatFaults.{strays_faulty, faulty_strays, first_strays, second_strays, items_strays, line_strays}

-- ---- what is found

pub finds : {X : Type 0} (F : Format X) → IsFormat F → (old : Unread) (x : X) (new : Unread) → F.may x → old.left ≡ F.text x ++ new.left → new.at ≡ old.at + line_count (F.text x) → Finds F old x new
finds F f old x new h text at = record {
  may = h;
  text = text;
  at = at;
  only = λ y rest k e. (f.cancel x y h k new.left rest (sym text ∙ e)).0;
}

pub finds_fixed : (line : List ℕ) → IsLine line → (old new : Unread) → old.left ≡ line ++ new.left → new.at ≡ old.at + 1 → Finds (fixed line) old tt new
finds_fixed line is old new text at = record { may = tt; text = text; at = at ∙ ap (λ k. old.at + k) (sym (line_count-line line is)); only = λ y rest k e. refl }

pub finds_line : {X : Type 0} (words : X → List ℕ) (may : X → Type 0) → AreWords words may → (old new : Unread) (due : List ℕ) (x : X) → PassesLine old due new → may x × (due ≡ words x) → Finds (one_line words may) old x new
finds_line words may w old new due x taken is =
    finds (one_line words may) (line_is words may w) old x new is.0 (taken.1 ∙ ap (λ t. t ++ 10 ∷ new.left) is.1 ∙ sym (append_assoc (words x) (10 ∷ []) new.left))
    (taken.2 ∙ ap (λ k. old.at + k) (sym (line_count-line (words x ++ 10 ∷ []) (words x, w.lacks x is.0, refl))))

module _ {X Y : Type 0} (F : Format X) (G : X → Format Y) (f : IsFormat F) (g : (x : X) → F.may x → IsFormat (G x)) where
  pub finds_both : (old mid new : Unread) (x : X) (y : Y) → Finds F old x mid → Finds (G x) mid y new → Finds (sequence F G) old (x, y) new
  finds_both old mid new x y a b =
      let c = line_count (F.text x) in
      let d = line_count ((G x).text y) in
      let count : line_count (F.text x ++ (G x).text y) ≡ c + d = line_count-append c d (F.text x) ((G x).text y) (f.whole x a.may) ((g x a.may).whole y b.may) in
      let at : new.at ≡ old.at + line_count (F.text x ++ (G x).text y) = omega (arith, a.at, b.at, count) in
      finds (sequence F G) (sequence_is F G f g) old (x, y) new (a.may, b.may) (a.text ∙ ap (λ t. F.text x ++ t) b.text ∙ sym (append_assoc (F.text x) ((G x).text y) new.left)) at

  pub first_fault : (u : Unread) (e : CertFault) → IsStartFault (IsTextOf F) u e → IsStartFault (IsTextOf (sequence F G)) u e
  first_fault u (Malformed line) s =
      let r = faulty_strays F f u.left s.0 s.2 in (
        s.0,
        s.1,
        subst (IsFaultyStart (IsTextOf (sequence F G)) u.left) (sym r.1) (strays_faulty (sequence F G) (sequence_is F G f g) u.left r.0 (first_strays F G f g u.left r.0 r.2)),
      )
  first_fault u Memory s = tt

  pub second_fault : (old mid : Unread) (x : X) (e : CertFault) → Finds F old x mid → IsStartFault (IsTextOf (G x)) mid e → IsStartFault (IsTextOf (sequence F G)) old e
  second_fault old mid x (Malformed line) a s =
      let r = faulty_strays (G x) (g x a.may) mid.left s.0 s.2 in
      let n = line_count (F.text x) + r.0 in
      let at : line + 1 ≡ old.at + suc n = omega (arith, s.1, r.1, a.at) in
      (suc n, at, strays_faulty (sequence F G) (sequence_is F G f g) old.left n (second_strays F G f g x old.left mid.left r.0 a.may a.text r.2))
  second_fault old mid x Memory a s = tt

-- ---- the same texts for other values

module _ (T U : List ℕ → Type 0) (to : (t : List ℕ) → T t → U t) (from : (t : List ℕ) → U t → T t) where
  same_line : (text : List ℕ) (line : ℕ) → IsFaultyStart T text line → IsFaultyStart U text line
  same_line text line s after =
      let q = faulty_stray (FollowedBy T after) text line (s after) in
      subst (IsFaultyLine (FollowedBy U after) text) (sym q.1)
      (stray_faulty (FollowedBy U after) text q.0 (stray_same (FollowedBy T after) (FollowedBy U after) text q.0 (λ t o. (o.0, to o.0 o.1, o.2)) (λ t o. (o.0, from o.0 o.1, o.2)) q.2))

  pub same_fault : (u : Unread) (e : CertFault) → IsStartFault T u e → IsStartFault U u e
  same_fault u (Malformed line) s = (s.0, s.1, same_line u.left s.0 s.2)
  same_fault u Memory s = tt

module _ {X Y : Type 0} (F : Format X) (H : Format Y) (to : X → Y) (m : Makes F H to) where
  pub finds_made : (old : Unread) (x : X) (new : Unread) → Finds F old x new → Finds H old (to x) new
  finds_made old x new a = record {
    may = m.may_to x a.may;
    text = a.text ∙ ap (λ t. t ++ new.left) (sym (m.text_to x a.may));
    at = a.at ∙ ap (λ t. old.at + line_count t) (sym (m.text_to x a.may));
    only = λ y rest k e. let r = m.from y k in ap to (a.only r.0 rest r.1 (e ∙ ap (λ t. t ++ rest) (text_of F H to m y k))) ∙ r.2;
  }

  pub made_fault : (u : Unread) (e : CertFault) → IsStartFault (IsTextOf F) u e → IsStartFault (IsTextOf H) u e
  made_fault u e s = same_fault (IsTextOf F) (IsTextOf H) (same_texts F H to m) (other_texts F H to m) u e s

-- ---- so many values

module _ {X : Type 0} (F : Format X) (f : IsFormat F) where
  pub finds_none : (u : Unread) → Finds (items F 0) u [] u
  unfolding raw_lines
  finds_none u = finds (items F 0) (items_is F f 0) u [] u (refl, All-nil F.may) refl (omega arith)

  pub finds_more : (old mid new : Unread) (xs more : List X) (x : X) (k : ℕ) → Finds (items F k) old xs mid → Finds F mid x new → more ≡ xs ++ x ∷ [] → Finds (items F (k + 1)) old more new
  finds_more old mid new xs more x k a b is =
      let pushed : flat_map F.text (xs ++ x ∷ []) ≡ flat_map F.text xs ++ F.text x = flat_map-append F.text xs (x ∷ []) ∙ ap (λ t. flat_map F.text xs ++ t) (append-nil (F.text x)) in
      let c = line_count (flat_map F.text xs) in
      let d = line_count (F.text x) in
      let count : line_count (flat_map F.text (xs ++ x ∷ [])) ≡ c + d = ap line_count pushed ∙ line_count-append c d (flat_map F.text xs) (F.text x) ((items_is F f k).whole xs a.may) (f.whole x b.may) in
      let at : new.at ≡ old.at + line_count (flat_map F.text (xs ++ x ∷ [])) = omega (arith, a.at, b.at, count) in
      subst (λ ys. Finds (items F (k + 1)) old ys new) (sym is)
      (finds (items F (k + 1)) (items_is F f (k + 1)) old (xs ++ x ∷ []) new (length_push xs x ∙ ap (λ n. n + 1) a.may.0, All-push F.may xs x a.may.1 b.may)
      (a.text ∙ ap (λ t. flat_map F.text xs ++ t) b.text ∙ sym (append_assoc (flat_map F.text xs) (F.text x) new.left) ∙ ap (λ t. t ++ new.left) (sym pushed)) at)

  pub items_fault : (old mid : Unread) (xs : List X) (k n : ℕ) (e : CertFault) → Finds (items F k) old xs mid → k < n → IsStartFault (IsTextOf F) mid e → IsStartFault (IsTextOf (items F n)) old e
  items_fault old mid xs k n (Malformed line) a lt s =
      let r = faulty_strays F f mid.left s.0 s.2 in
      let c = line_count (flat_map F.text xs) + r.0 in
      let at : line + 1 ≡ old.at + suc c = omega (arith, s.1, r.1, a.at) in
      let few : length xs < n = omega (arith, a.may.0) in
      (suc c, at, strays_faulty (items F n) (items_is F f n) old.left c (items_strays F f n xs old.left mid.left r.0 a.may.1 few a.text r.2))
  items_fault old mid xs k n Memory a lt s = tt

-- ---- one line

pub line_fault : {X : Type 0} (F : Format X) → IsFormat F → ((x : X) → F.may x → IsLine (F.text x)) → (u : Unread) (line : ℕ) → line ≡ u.at → ((x : X) (rest : List ℕ) → F.may x → u.left ≡ F.text x ++ rest → ⊥)
    → IsStartFault (IsTextOf F) u (Malformed line)
line_fault F f lines u line at none = (1, ap (λ k. k + 1) at, strays_faulty F f u.left 0 (line_strays F f lines u.left none))

pub fixed_fault : (text : List ℕ) → IsLine text → (u : Unread) (e : CertFault) → (e ≡ Malformed u.at) × ((rest : List ℕ) → u.left ≡ text ++ rest → ⊥) → IsStartFault (IsTextOf (fixed text)) u e
fixed_fault text is u e none = subst (IsStartFault (IsTextOf (fixed text)) u) (sym none.0) (line_fault (fixed text) (fixed_is text is) (λ x h. is) u u.at refl (λ x rest h e. none.1 rest e))

module _ {X : Type 0} (words : X → List ℕ) (may : X → Type 0) (w : AreWords words may) where
  -- no line is left
  pub no_line_fault : (u new : Unread) (line : ℕ) → line ≡ u.at → LacksByte 10 u.left × (new ≡ u) → IsStartFault (IsTextOf (one_line words may)) u (Malformed line)
  no_line_fault u new line at none =
      line_fault (one_line words may) (line_is words may w) (λ x h. (words x, w.lacks x h, refl)) u line at (λ x rest h e. no_line (words x ++ 10 ∷ []) rest u.left (words x, w.lacks x h, refl) none.0 e)

  -- the line is none of these
  pub other_line_fault : (u new : Unread) (line : ℕ) (due : List ℕ) → line ≡ u.at → PassesLine u due new → ((x : X) → may x → due ≡ words x → ⊥) → IsStartFault (IsTextOf (one_line words may)) u (Malformed line)
  other_line_fault u new line due at taken none =
      line_fault (one_line words may) (line_is words may w) (λ x h. (words x, w.lacks x h, refl)) u line at
      (λ x rest h e. none x h (byte_cancel 10 due (words x) new.left rest taken.0 (w.lacks x h) (sym taken.1 ∙ e ∙ append_assoc (words x) (10 ∷ []) rest)).0)

  -- what a function finds in a line
  pub line_read : (finds : List ℕ → Option X → Type 0) (old : Unread) (r : Result X CertFault) (new : Unread) → FindsInLine finds old r new → ((due : List ℕ) (found : Option X) → finds due found → Spells words may due found) → ReadsOne (one_line words may) old r new
  unfolding FindsInLine
  line_read finds old (Ok x) new h spells = finds_line words may w old new h.0 x h.1 (spells h.0 (Some x) h.2)
  line_read finds old (Err (Malformed line)) new h spells = by h.1
    where
      by : LacksByte 10 old.left ⊎ ((due : List ℕ) × (after : Unread) × PassesLine old due after × finds due None) → IsStartFault (IsTextOf (one_line words may)) old (Malformed line)
      by (inl none) = no_line_fault old old line h.0 (none, refl)
      by (inr f) = other_line_fault old f.1 line f.0 h.0 f.2 (spells f.0 None f.3)
  line_read finds old (Err Memory) new h spells = absurd h

-- ---- answers

pub reads_err : {X : Type 0} (F : Format X) (old new : Unread) (r : Result X CertFault) (e : CertFault) → IsErrAnd r (λ y. y ≡ e) → IsStartFault (IsTextOf F) old e → ReadsOne F old r new
reads_err F old new r e is s = let q = err_from_is_err_and r is in subst (λ r. ReadsOne F old r new) (sym q.1) (subst (IsStartFault (IsTextOf F) old) (sym q.2) s)

-- so many values, read one after another: none yet, a fault of one, and all of them
module _ {X : Type 0} (F : Format X) (f : IsFormat F) where
  pub none_read : (u : Unread) (xs : List X) → xs ≡ [] → Finds (items F 0) u xs u
  none_read u xs is = subst (λ ys. Finds (items F 0) u ys u) (sym is) (finds_none F f u)

  pub item_fails : (old mid new : Unread) (xs : List X) (k n : ℕ) (z : Result (List X) CertFault) (e : CertFault) → IsErrAnd z (λ y. y ≡ e) → Finds (items F k) old xs mid → k < n → IsStartFault (IsTextOf F) mid e → ReadsOne (items F n) old z new
  item_fails old mid new xs k n z e is a lt s = reads_err (items F n) old new z e is (items_fault F f old mid xs k n e a lt s)

  pub all_read : (old new : Unread) (xs ys : List X) (k n : ℕ) → k ≡ n → ys ≡ xs → Finds (items F k) old xs new → Finds (items F n) old ys new
  all_read old new xs ys k n all is a = subst (λ m. Finds (items F m) old ys new) all (subst (λ zs. Finds (items F k) old zs new) (sym is) a)

-- ---- whole texts

module _ {X : Type 0} (F : Format X) (f : IsFormat F) where
  nothing_after : (t : List ℕ) → FollowedBy (IsTextOf F) [] t → IsTextOf F t
  nothing_after t o = (o.1.0, o.1.1, o.2 ∙ append-nil o.0 ∙ o.1.2)

  after_nothing : (t : List ℕ) → IsTextOf F t → FollowedBy (IsTextOf F) [] t
  after_nothing t i = (t, i, sym (append-nil t))

  pub whole_fault : (u : Unread) (e : CertFault) → u.at ≡ 1 → IsStartFault (IsTextOf F) u e → IsFaultOf (IsTextOf F) u.left e
  whole_fault u (Malformed line) one s =
      let q = faulty_stray (FollowedBy (IsTextOf F) []) u.left s.0 (s.2 []) in
      let same : suc q.0 ≡ line = omega (arith, one, s.1, q.1) in
      subst (IsFaultyLine (IsTextOf F) u.left) same (stray_faulty (IsTextOf F) u.left q.0 (stray_same (FollowedBy (IsTextOf F) []) (IsTextOf F) u.left q.0 nothing_after after_nothing q.2))
  whole_fault u Memory one s = tt

  -- something follows the text
  pub more_fault : (old new : Unread) (x : X) → old.at ≡ 1 → Finds F old x new → (new.left ≡ [] → ⊥) → IsFaultOf (IsTextOf F) old.left (Malformed new.at)
  more_fault old new x one a more =
      let c = line_count (F.text x) in
      let at : suc (c + 0) ≡ new.at = omega (arith, one, a.at) in
      subst (IsFaultyLine (IsTextOf F) old.left) at
      (stray_faulty (IsTextOf F) old.left (c + 0)
      (stray_behind (IsTextOf F) c 0 (F.text x) new.left old.left (f.whole x a.may) a.text
      (stray_end (λ t. IsTextOf F (F.text x ++ t)) new.left (x, a.may, append-nil (F.text x))
      (λ other i. (f.cancel x i.0 a.may i.1 other [] (i.2 ∙ sym (append-nil (F.text i.0)))).1) more)))
