-- The lines of a text, one after the other.
--     raw_lines-first      the first line, and the lines behind it
--     line_length_by_end     the length of the first line, by the place of the first line end
--     nothing_left, something_left      whether bytes are left
--     raw_lines-drop, raw_lines_end      the lines of a text behind some bytes
--     content-crlf, content-lf, content_none      a line with either end, and one without
--     line_due-comment, line_due-line, line_due_none      what is due where a comment, another line or none is left
--     line_due_at_comment, line_due_at_line, line_due_at_end      the same for a reader
--     split_at-slice_split, words-slice_split    words, as the library cuts a list
use Rattle.std.proofs.Math.ListN.{drop_of_length-le}
use Rattle.std.proofs.Common.{◌≡◌, ◌-◌, ◌≢◌, ◌∙◌, sym, ap, refl, ℕ, suc, ◌≤◌, ◌<◌, ◌+◌, nat_lt, not, Bool, true, false, cond, nat_eq, List, [], ◌∷◌, ◌++◌, length, take, drop, arith, true≢false, add-zero, add-suc}
use Rattle.std.specs.List.{position, prefix_len, slice_split, filter, onto_first as onto_part}
use Rattle.std.specs.declared.option.Option.{Option}
use Rattle.std.specs.declared.option.Option.TheVariants.{None, Some}
use Rattle.std.specs.Option.{MatchOption}
use Rattle.std.specs.Bool.{◌==◌}
use Rattle.std.specs.declared.result.Result.TheVariants.{Ok, Err}
use Rattle.std.proofs.lemmas.List.{length-take, take_all, drop-drop, length-drop}
use Rattle.std.proofs.lemmas.Bool.Decides.{Decides-eqb, nat_tests}
use Rattle.ore_problem.specs.Lines.{onto_first, split_at, raw_lines, content, is_comment, is_some_byte, words, next_of}
use Rattle.ore_problem.specs.Reader.{Position, line_length, cursor_of}
use Rattle.ore_problem.specs.Problems.{line_due}
use Rattle.ore_problem.specs.declared.fault.ProblemReason.TheVariants.{NoEnd}

line_length-end : (b : ℕ) (bs : List ℕ) → nat_eq b 10 ≡ true → line_length (b ∷ bs) ≡ 1
line_length-end b bs e = rw e refl

line_length-next : (b : ℕ) (bs : List ℕ) → nat_eq b 10 ≡ false → line_length (b ∷ bs) ≡ suc (line_length bs)
line_length-next b bs e = rw e refl

-- the place of the first line end, or the length
abbrev end_place : List ℕ → ℕ
end_place text = prefix_len (λ b. not (nat_eq b 10)) text

ends_there : (xs : List ℕ) → end_place xs < length xs → line_length xs ≡ end_place xs + 1
ends_there [] h = absurd (omega (arith, h))
ends_there (b ∷ bs) h = by (nat_eq b 10) refl (ends_there bs) h
  where
    by : (e : Bool) → nat_eq b 10 ≡ e → (end_place bs < length bs → line_length bs ≡ end_place bs + 1) → end_place (b ∷ bs) < length (b ∷ bs) → line_length (b ∷ bs) ≡ end_place (b ∷ bs) + 1
    by true e ih n = rw e refl
    by false e ih n = let n2 = rw e at n in let i = ih (omega (arith, n2)) in rw e (omega (arith, i))

never_ends : (xs : List ℕ) → length xs ≤ end_place xs → line_length xs ≡ length xs
never_ends [] h = refl
never_ends (b ∷ bs) h = by (nat_eq b 10) refl (never_ends bs) h
  where
    by : (e : Bool) → nat_eq b 10 ≡ e → (length bs ≤ end_place bs → line_length bs ≡ length bs) → length (b ∷ bs) ≤ end_place (b ∷ bs) → line_length (b ∷ bs) ≡ length (b ∷ bs)
    by true e ih n = let n2 = rw e at n in absurd (omega (arith, n2))
    by false e ih n = let n2 = rw e at n in let i = ih (omega (arith, n2)) in rw e (omega (arith, i))

pub line_length_by_end : (xs : List ℕ) (o : Option ℕ) → o ≡ position (λ b. nat_eq b 10) xs → MatchOption o (line_length xs ≡ length xs) (λ k. line_length xs ≡ k + 1)
line_length_by_end xs o e = by (nat_lt (end_place xs) (length xs)) refl
  where
    by : (d : Bool) → nat_lt (end_place xs) (length xs) ≡ d → MatchOption o (line_length xs ≡ length xs) (λ k. line_length xs ≡ k + 1)
    by true d = let s : o ≡ Some (end_place xs) = e ∙ rw d refl in rw s (ends_there xs (grind (arith, nat_tests)))
    by false d = let s : o ≡ None = e ∙ rw d refl in rw s (never_ends xs (grind (arith, nat_tests)))

pub raw_lines-first : (b : ℕ) (bs : List ℕ) → raw_lines (b ∷ bs) ≡ take (line_length (b ∷ bs)) (b ∷ bs) ∷ raw_lines (drop (line_length (b ∷ bs)) (b ∷ bs))
unfolding raw_lines
raw_lines-first b [] = by (nat_eq b 10) refl
  where
    by : (e : Bool) → nat_eq b 10 ≡ e → raw_lines (b ∷ []) ≡ take (line_length (b ∷ [])) (b ∷ []) ∷ raw_lines (drop (line_length (b ∷ [])) (b ∷ []))
    by true e = rw (line_length-end b [] e, e) refl
    by false e = rw (line_length-next b [] e, e) refl
raw_lines-first b (c ∷ bs) = by (nat_eq b 10) refl (raw_lines-first c bs)
  where
    by : (e : Bool) → nat_eq b 10 ≡ e
        → raw_lines (c ∷ bs) ≡ take (line_length (c ∷ bs)) (c ∷ bs) ∷ raw_lines (drop (line_length (c ∷ bs)) (c ∷ bs))
        → raw_lines (b ∷ c ∷ bs) ≡ take (line_length (b ∷ c ∷ bs)) (b ∷ c ∷ bs) ∷ raw_lines (drop (line_length (b ∷ c ∷ bs)) (b ∷ c ∷ bs))
    by true e ih = rw (line_length-end b (c ∷ bs) e, e) refl
    by false e ih = rw (line_length-next b (c ∷ bs) e, e) (ap (onto_first b) ih)

raw_lines-some : (xs : List ℕ) → suc 0 ≤ length xs → raw_lines xs ≡ take (line_length xs) xs ∷ raw_lines (drop (line_length xs) xs)
raw_lines-some [] h = absurd (omega (arith, h))
raw_lines-some (b ∷ bs) h = raw_lines-first b bs

pub raw_lines-drop : (text : List ℕ) (used : ℕ) → suc used ≤ length text
    → (let rest = take (length text - used) (drop used text) in raw_lines (drop used text) ≡ take (line_length rest) rest ∷ raw_lines (drop (used + line_length rest) text))
raw_lines-drop text used h =
    let whole : take (length text - used) (drop used text) ≡ drop used text = take_all (length text - used) (drop used text) (omega (arith, length-drop used text)) in
    rw whole (raw_lines-some (drop used text) (omega (arith, length-drop used text)) ∙ ap (λ r. take (line_length (drop used text)) (drop used text) ∷ raw_lines r) (drop-drop (line_length (drop used text)) used text))

pub raw_lines_end : (text : List ℕ) (used : ℕ) → length text ≤ used → raw_lines (drop used text) ≡ []
unfolding raw_lines
raw_lines_end text used h = rw drop_of_length-le refl

pub nothing_left : (text : List ℕ) (used : ℕ) → (length (take (length text - used) (drop used text)) == 0) ≡ true → length text ≤ used
nothing_left text used e = let z : length (take (length text - used) (drop used text)) ≡ 0 = (Decides-eqb _ 0).0 e in omega (arith, z, length-take (length text - used) (drop used text), length-drop used text)

pub something_left : (text : List ℕ) (used : ℕ) → (length (take (length text - used) (drop used text)) == 0) ≡ false → suc used ≤ length text
something_left text used e = by (nat_lt used (length text)) refl
  where
    by : (d : Bool) → nat_lt used (length text) ≡ d → suc used ≤ length text
    by true d = grind (arith, nat_tests)
    by false d = let n : length text ≤ used = grind (arith, nat_tests) in absurd (true≢false (sym ((Decides-eqb _ 0).1 (omega (arith, length-take (length text - used) (drop used text), length-drop used text))) ∙ e))

-- ---- line ends

pub content-crlf : (xs : List ℕ) → content (xs ++ 13 ∷ 10 ∷ []) ≡ xs
unfolding content
content-crlf [] = refl
content-crlf (x ∷ []) = ap (λ r. x ∷ r) (content-crlf [])
content-crlf (x ∷ y ∷ []) = ap (λ r. x ∷ r) (content-crlf (y ∷ []))
content-crlf (x ∷ y ∷ z ∷ xs) = ap (λ r. x ∷ r) (content-crlf (y ∷ z ∷ xs))

pub content-lf : (xs : List ℕ) → ((front : List ℕ) → xs ++ 10 ∷ [] ≢ front ++ 13 ∷ 10 ∷ []) → content (xs ++ 10 ∷ []) ≡ xs
unfolding content
content-lf [] n = refl
content-lf (x ∷ []) n = by (nat_eq x 13) refl
  where
    by : (e : Bool) → nat_eq x 13 ≡ e → content (x ∷ 10 ∷ []) ≡ x ∷ []
    by true e = absurd (n [] (ap (λ y. y ∷ 10 ∷ []) ((Decides-eqb x 13).0 e)))
    by false e = rw e refl
content-lf (x ∷ y ∷ []) n = ap (λ r. x ∷ r) (content-lf (y ∷ []) (λ front e. n (x ∷ front) (ap (λ r. x ∷ r) e)))
content-lf (x ∷ y ∷ z ∷ xs) n = ap (λ r. x ∷ r) (content-lf (y ∷ z ∷ xs) (λ front e. n (x ∷ front) (ap (λ r. x ∷ r) e)))

pub content_none : (xs : List ℕ) → ((front : List ℕ) → xs ≢ front ++ 10 ∷ []) → content xs ≡ xs
unfolding content
content_none [] n = refl
content_none (x ∷ []) n = by (nat_eq x 10) refl
  where
    by : (e : Bool) → nat_eq x 10 ≡ e → content (x ∷ []) ≡ x ∷ []
    by true e = absurd (n [] (ap (λ y. y ∷ []) ((Decides-eqb x 10).0 e)))
    by false e = rw e refl
content_none (x ∷ y ∷ []) n = by (nat_eq x 13) (nat_eq y 10) refl refl (content_none (y ∷ []) (λ front e. n (x ∷ front) (ap (λ r. x ∷ r) e)))
  where
    by : (d e : Bool) → nat_eq x 13 ≡ d → nat_eq y 10 ≡ e → content (y ∷ []) ≡ y ∷ [] → content (x ∷ y ∷ []) ≡ x ∷ y ∷ []
    by d true p q ih = absurd (n (x ∷ []) (ap (λ z. x ∷ z ∷ []) ((Decides-eqb y 10).0 q)))
    by true false p q ih = rw (p, q) refl
    by false false p q ih = rw (p, q) refl
content_none (x ∷ y ∷ z ∷ xs) n = ap (λ r. x ∷ r) (content_none (y ∷ z ∷ xs) (λ front e. n (x ∷ front) (ap (λ r. x ∷ r) e)))

-- ---- the line that is due

pub line_due-comment : (line used : ℕ) (raw : List ℕ) (left : List (List ℕ)) → is_comment raw ≡ true
    → line_due (record { line = line; used = used; left = raw ∷ left }) ≡ line_due (record { line = suc line; used = used + length raw; left = left })
unfolding line_due next_of
line_due-comment line used raw left e = let h : suc line + length left ≡ suc (line + length left) = omega arith in rw (e, add-suc, h) refl

pub line_due-line : (line used : ℕ) (raw : List ℕ) (left : List (List ℕ)) → is_comment raw ≡ false
    → line_due (record { line = line; used = used; left = raw ∷ left }) ≡ Ok (content raw, record { line = suc line; used = used + length raw; left = left })
unfolding line_due next_of
line_due-line line used raw left e = rw e refl

pub line_due_none : (line used : ℕ) → line_due (record { line = line; used = used; left = [] }) ≡ Err (record { line = suc line; reason = NoEnd })
unfolding line_due next_of
line_due_none line used = rw add-zero refl

-- the same of a reader before and behind a line
module _ (p q : Position) (raw : List ℕ) (left : (cursor_of p).left ≡ raw ∷ (cursor_of q).left) (line : q.line ≡ suc p.line) (used : q.used ≡ p.used + length raw) where
  pub line_due_at_comment : is_comment raw ≡ true → line_due (cursor_of p) ≡ line_due (cursor_of q)
  line_due_at_comment e =
      ap (λ l. line_due (record { line = p.line; used = p.used; left = l })) left
      ∙ line_due-comment p.line p.used raw (cursor_of q).left e
      ∙ sym (λ i. line_due (record { line = line i; used = used i; left = (cursor_of q).left }))

  pub line_due_at_line : is_comment raw ≡ false → line_due (cursor_of p) ≡ Ok (content raw, cursor_of q)
  line_due_at_line e =
      ap (λ l. line_due (record { line = p.line; used = p.used; left = l })) left
      ∙ line_due-line p.line p.used raw (cursor_of q).left e
      ∙ sym (λ i. Ok (content raw, record { line = line i; used = used i; left = (cursor_of q).left }))

pub line_due_at_end : (p : Position) → (cursor_of p).left ≡ [] → line_due (cursor_of p) ≡ Err (record { line = suc p.line; reason = NoEnd })
line_due_at_end p left = ap (λ l. line_due (record { line = p.line; used = p.used; left = l })) left ∙ line_due_none p.line p.used

-- ---- words

pub split_at-slice_split : (byte : ℕ) (xs : List ℕ) → split_at byte xs ≡ slice_split (λ b. nat_eq b byte) xs
unfolding split_at
split_at-slice_split byte [] = refl
split_at-slice_split byte (x ∷ xs) = rw (split_at-slice_split byte xs) (ap (λ r. cond (nat_eq x byte) ([] ∷ slice_split (λ b. nat_eq b byte) xs) r) (same (slice_split (λ b. nat_eq b byte) xs)))
  where
    same : (r : List (List ℕ)) → onto_first x r ≡ onto_part x r
    same [] = refl
    same (p ∷ r) = refl

pub words-slice_split : (line : List ℕ) → words line ≡ filter is_some_byte (slice_split (λ b. nat_eq b 32) line)
unfolding words
words-slice_split line = ap (filter is_some_byte) (split_at-slice_split 32 line)
