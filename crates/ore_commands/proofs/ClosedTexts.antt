-- An accepted text stays accepted when its last line gets its line end, and then some text may follow.
--     on_last                      the last of some pieces, changed
--     LastHas                      the last of some pieces has a property
--     last_append, last_behind     of two lists behind each other, and of a list without its first
--     first_line                   some bytes have a first line, which isn't empty
--     raw_lines-closed             the lines of a closed text
--     raw_lines-closed_append      the lines of a closed text with another behind it
--     IsPlain                      no byte is 13
--     plain_line                   a line is plain where its words are
--     content-closed               the content of a closed line
--     counted-closed, counts_closed      the lines that count, where the last line is closed
--     accepted_closed              the closed text is accepted
use Rattle.std.proofs.Common.{◌≡◌, ◌≢◌, ℕ, Bool, true, false, List, [], ◌∷◌, ◌++◌, refl, sym, ap, ◌∙◌, subst, arith}
use Rattle.std.specs.Prelude.{if◌then◌else◌, nat_eq, ◌&&◌, codes}
use Rattle.std.specs.List.{AllByRecursion, filter}
use Rattle.std.proofs.lemmas.Bool.Decides.{nat_tests}
use Rattle.ore_problem.specs.Lines.{onto_first, raw_lines, split_at, content, is_comment, is_some_byte, words}
use Rattle.ore_problem.specs.Accepted.{counted, LastCounts, Accepted}
use Rattle.ore_problem.specs.Problems.{System}
use Rattle.ore_commands.specs.AcceptedAnswers.{closed}

-- ---- the last of some pieces

abbrev on_last : {A : Type 0} → (A → A) → List A → List A
on_last f [] = []
on_last f (x ∷ []) = f x ∷ []
on_last f (x ∷ y ∷ ys) = x ∷ on_last f (y ∷ ys)

abbrev LastHas : {A : Type 0} → (A → Type 0) → List A → Type 0
LastHas P [] = Unit {0}
LastHas P (x ∷ []) = P x
LastHas P (x ∷ y ∷ ys) = LastHas P (y ∷ ys)

last_append : {A : Type 0} (P : A → Type 0) (xs : List A) (y : A) (ys : List A) → LastHas P (y ∷ ys) → LastHas P (xs ++ y ∷ ys)
last_append P [] y ys h = h
last_append P (x ∷ []) y ys h = h
last_append P (x ∷ z ∷ zs) y ys h = last_append P (z ∷ zs) y ys h

last_behind : {A : Type 0} (P : A → Type 0) (x : A) (xs : List A) → LastHas P (x ∷ xs) → LastHas P xs
last_behind P x [] h = tt
last_behind P x (y ∷ ys) h = h

-- ---- lines

record HasFirst (lines : List (List ℕ)) : Type 0 where
  byte : ℕ
  bytes : List ℕ
  more : List (List ℕ)
  is : lines ≡ (byte ∷ bytes) ∷ more

first_line : (b : ℕ) (bs : List ℕ) → HasFirst (raw_lines (b ∷ bs))
unfolding raw_lines
first_line b bs = by (nat_eq b 10) (raw_lines bs)
  where
    by : (t : Bool) (ls : List (List ℕ)) → HasFirst (if t then (b ∷ []) ∷ ls else onto_first b ls)
    by true ls = record { byte = b; bytes = []; more = ls; is = refl }
    by false [] = record { byte = b; bytes = []; more = []; is = refl }
    by false (l ∷ ls) = record { byte = b; bytes = l; more = ls; is = refl }

-- in front of the first of some lines stands one more, or one byte more
last_behind_line : (l : List ℕ) (ls : List (List ℕ)) → HasFirst ls → l ∷ on_last closed ls ≡ on_last closed (l ∷ ls)
last_behind_line l ls h = ap (λ ls. l ∷ on_last closed ls) h.is ∙ sym (ap (λ ls. on_last closed (l ∷ ls)) h.is)

last_behind_byte : (b : ℕ) (ls : List (List ℕ)) → HasFirst ls → onto_first b (on_last closed ls) ≡ on_last closed (onto_first b ls)
unfolding closed
last_behind_byte b ls h = ap (λ ls. onto_first b (on_last closed ls)) h.is ∙ by h.more ∙ sym (ap (λ ls. on_last closed (onto_first b ls)) h.is)
  where
    by : (more : List (List ℕ)) → onto_first b (on_last closed ((h.byte ∷ h.bytes) ∷ more)) ≡ on_last closed ((b ∷ h.byte ∷ h.bytes) ∷ more)
    by [] = refl
    by (l ∷ ls) = refl

raw_lines-closed : (text : List ℕ) → raw_lines (closed text) ≡ on_last closed (raw_lines text)
unfolding raw_lines closed
raw_lines-closed [] = refl
raw_lines-closed (b ∷ []) = by (nat_eq b 10) refl
  where
    by : (t : Bool) → nat_eq b 10 ≡ t → raw_lines (b ∷ (if t then [] else 10 ∷ [])) ≡ on_last closed (if t then (b ∷ []) ∷ [] else (b ∷ []) ∷ [])
    by true e = rw e refl
    by false e = rw e refl
raw_lines-closed (b ∷ c ∷ cs) = by (nat_eq b 10) (raw_lines-closed (c ∷ cs))
  where
    by : (t : Bool) → raw_lines (closed (c ∷ cs)) ≡ on_last closed (raw_lines (c ∷ cs))
        → (if t then (b ∷ []) ∷ raw_lines (closed (c ∷ cs)) else onto_first b (raw_lines (closed (c ∷ cs)))) ≡ on_last closed (if t then (b ∷ []) ∷ raw_lines (c ∷ cs) else onto_first b (raw_lines (c ∷ cs)))
    by true e = ap (λ ls. (b ∷ []) ∷ ls) e ∙ last_behind_line (b ∷ []) (raw_lines (c ∷ cs)) (first_line c cs)
    by false e = ap (onto_first b) e ∙ last_behind_byte b (raw_lines (c ∷ cs)) (first_line c cs)

onto_append : (b : ℕ) (ls rest : List (List ℕ)) → HasFirst ls → onto_first b (ls ++ rest) ≡ onto_first b ls ++ rest
onto_append b ls rest h = ap (λ ls. onto_first b (ls ++ rest)) h.is ∙ sym (ap (λ ls. onto_first b ls ++ rest) h.is)

closed_first : (b : ℕ) (bs : List ℕ) → HasFirst (raw_lines (closed (b ∷ bs)))
unfolding closed
closed_first b [] = first_line b (if nat_eq b 10 then [] else 10 ∷ [])
closed_first b (c ∷ cs) = first_line b (closed (c ∷ cs))

pub raw_lines-closed_append : (text rest : List ℕ) → raw_lines (closed text ++ rest) ≡ raw_lines (closed text) ++ raw_lines rest
unfolding raw_lines closed
raw_lines-closed_append [] rest = refl
raw_lines-closed_append (b ∷ []) rest = by (nat_eq b 10) refl
  where
    by : (t : Bool) → nat_eq b 10 ≡ t → raw_lines ((b ∷ (if t then [] else 10 ∷ [])) ++ rest) ≡ raw_lines (b ∷ (if t then [] else 10 ∷ [])) ++ raw_lines rest
    by true e = rw e refl
    by false e = rw e refl
raw_lines-closed_append (b ∷ c ∷ cs) rest = by (nat_eq b 10) (raw_lines-closed_append (c ∷ cs) rest)
  where
    by : (t : Bool) → raw_lines (closed (c ∷ cs) ++ rest) ≡ raw_lines (closed (c ∷ cs)) ++ raw_lines rest
        → (if t then (b ∷ []) ∷ raw_lines (closed (c ∷ cs) ++ rest) else onto_first b (raw_lines (closed (c ∷ cs) ++ rest))) ≡ (if t then (b ∷ []) ∷ raw_lines (closed (c ∷ cs)) else onto_first b (raw_lines (closed (c ∷ cs)))) ++ raw_lines rest
    by true e = ap (λ ls. (b ∷ []) ∷ ls) e
    by false e = ap (onto_first b) e ∙ onto_append b (raw_lines (closed (c ∷ cs))) (raw_lines rest) (closed_first c cs)

-- ---- the content of the last line

abbrev IsPlain : List ℕ → Type 0
IsPlain = AllByRecursion (λ b. b ≢ 13)

plain_pieces : (pieces : List (List ℕ)) → AllByRecursion IsPlain (filter is_some_byte pieces) → AllByRecursion IsPlain pieces
plain_pieces [] h = tt
plain_pieces ([] ∷ pieces) h = (tt, plain_pieces pieces h)
plain_pieces ((b ∷ bs) ∷ pieces) h = (h.0, plain_pieces pieces h.1)

space_is_plain : (b : ℕ) → nat_eq b 32 ≡ true → b ≢ 13
space_is_plain b e = λ h. let z : ⊥ = grind (arith, nat_tests) in z

plain_behind : (b : ℕ) (ls : List (List ℕ)) → AllByRecursion IsPlain (onto_first b ls) → (b ≢ 13) × AllByRecursion IsPlain ls
plain_behind b [] h = (h.0.0, tt)
plain_behind b (l ∷ ls) h = (h.0.0, (h.0.1, h.1))

plain_split : (line : List ℕ) → AllByRecursion IsPlain (split_at 32 line) → IsPlain line
unfolding split_at
plain_split [] h = tt
plain_split (b ∷ bs) h = by (nat_eq b 32) refl h (plain_split bs)
  where
    by : (t : Bool) → nat_eq b 32 ≡ t → AllByRecursion IsPlain (if t then [] ∷ split_at 32 bs else onto_first b (split_at 32 bs)) → (AllByRecursion IsPlain (split_at 32 bs) → IsPlain bs) → IsPlain (b ∷ bs)
    by true e h more = (space_is_plain b e, more h.1)
    by false e h more = let both = plain_behind b (split_at 32 bs) h in (both.0, more both.1)

plain_line : (line : List ℕ) → AllByRecursion IsPlain (words line) → IsPlain line
unfolding words
plain_line line h = plain_split line (plain_pieces (split_at 32 line) h)

no_return : (b : ℕ) → b ≢ 13 → nat_eq b 13 ≡ false
no_return b h = by (nat_eq b 13) refl
  where
    by : (t : Bool) → nat_eq b 13 ≡ t → t ≡ false
    by true e = absurd (h (let z : b ≡ 13 = grind (arith, nat_tests) in z))
    by false e = refl

both_false : (t : Bool) → (t && false) ≡ false
both_false true = refl
both_false false = refl

content-closed : (raw : List ℕ) → IsPlain (content raw) → content (closed raw) ≡ content raw
unfolding content closed
content-closed [] h = refl
content-closed (b ∷ []) h = by (nat_eq b 10) refl h
  where
    by : (t : Bool) → nat_eq b 10 ≡ t → IsPlain (if t then [] else b ∷ []) → content (b ∷ (if t then [] else 10 ∷ [])) ≡ (if t then [] else b ∷ [])
    by true e h = rw e refl
    by false e h = rw (no_return b h.0) refl
content-closed (b ∷ c ∷ []) h = by (nat_eq c 10) refl h (content-closed (c ∷ []))
  where
    by : (t : Bool) → nat_eq c 10 ≡ t → IsPlain (if nat_eq b 13 && t then [] else b ∷ content (c ∷ [])) → (IsPlain (content (c ∷ [])) → content (closed (c ∷ [])) ≡ content (c ∷ []))
        → content (b ∷ c ∷ (if t then [] else 10 ∷ [])) ≡ (if nat_eq b 13 && t then [] else b ∷ content (c ∷ []))
    by true e h more = rw e refl
    by false e h more =
        let plain = subst (λ x. IsPlain (if x then [] else b ∷ content (c ∷ []))) (both_false (nat_eq b 13)) h in
        let same : content (c ∷ 10 ∷ []) ≡ content (c ∷ []) = ap (λ t. content (c ∷ (if t then [] else 10 ∷ []))) (sym e) ∙ more plain.1 in
        ap (λ t. b ∷ t) same ∙ sym (ap (λ x. if x then [] else b ∷ content (c ∷ [])) (both_false (nat_eq b 13)))
content-closed (b ∷ c ∷ d ∷ []) h = ap (λ t. b ∷ t) (content-closed (c ∷ d ∷ []) h.1)
content-closed (b ∷ c ∷ d ∷ e ∷ es) h = ap (λ t. b ∷ t) (content-closed (c ∷ d ∷ e ∷ es) h.1)

is_comment-closed : (raw : List ℕ) → is_comment (closed raw) ≡ is_comment raw
unfolding closed
is_comment-closed [] = refl
is_comment-closed (b ∷ []) = refl
is_comment-closed (b ∷ c ∷ cs) = refl

counts_closed : (raws : List (List ℕ)) → LastCounts raws → LastCounts (on_last closed raws)
counts_closed [] h = tt
counts_closed (raw ∷ []) h = is_comment-closed raw ∙ h
counts_closed (raw ∷ next ∷ []) h = is_comment-closed next ∙ h
counts_closed (raw ∷ next ∷ other ∷ left) h = counts_closed (next ∷ other ∷ left) h

counted-closed : (raws : List (List ℕ)) → LastCounts raws → LastHas IsPlain (counted raws) → counted (on_last closed raws) ≡ counted raws
counted-closed [] counts h = refl
counted-closed (raw ∷ []) counts h = by (is_comment (closed raw)) (is_comment raw) (is_comment-closed raw ∙ counts) counts h
  where
    by : (t u : Bool) → t ≡ false → u ≡ false → LastHas IsPlain (if u then [] else content raw ∷ []) → (if t then [] else content (closed raw) ∷ []) ≡ (if u then [] else content raw ∷ [])
    by t u e f h = (λ i. if e i then [] else content (closed raw) ∷ []) ∙ ap (λ l. l ∷ []) (content-closed raw (subst (λ u. LastHas IsPlain (if u then [] else content raw ∷ [])) f h)) ∙ (λ i. if sym f i then [] else content raw ∷ [])
counted-closed (raw ∷ next ∷ left) counts h = by (is_comment raw) h (counted-closed (next ∷ left) counts)
  where
    by : (t : Bool) → LastHas IsPlain (if t then counted (next ∷ left) else content raw ∷ counted (next ∷ left)) → (LastHas IsPlain (counted (next ∷ left)) → counted (on_last closed (next ∷ left)) ≡ counted (next ∷ left))
        → (if t then counted (on_last closed (next ∷ left)) else content raw ∷ counted (on_last closed (next ∷ left))) ≡ (if t then counted (next ∷ left) else content raw ∷ counted (next ∷ left))
    by true h more = more h
    by false h more = ap (λ ls. content raw ∷ ls) (more (last_behind IsPlain (content raw) (counted (next ∷ left)) h))

-- ---- texts

end_is_plain : IsPlain (codes "end")
end_is_plain = ((λ e. cc), ((λ e. cc), ((λ e. cc), tt)))

last_is_plain : (bytes : List ℕ) (p : System) (h : Accepted bytes p) → LastHas IsPlain (counted (raw_lines bytes))
last_is_plain bytes p h =
    let last = plain_line h.last (subst (AllByRecursion IsPlain) (sym h.last_words) (end_is_plain, tt)) in
    subst (LastHas IsPlain) (sym h.lines) (last_append IsPlain (h.header ∷ h.order ∷ h.declarations) h.matrix (h.rows ++ h.last ∷ []) (last_append IsPlain (h.matrix ∷ h.rows) h.last [] last))

pub accepted_closed : (bytes : List ℕ) (p : System) → Accepted bytes p → Accepted (closed bytes) p
accepted_closed bytes p h = record {
  header = h.header;
  order = h.order;
  declarations = h.declarations;
  matrix = h.matrix;
  rows = h.rows;
  last = h.last;
  lines = ap counted (raw_lines-closed bytes) ∙ counted-closed (raw_lines bytes) h.none_behind (last_is_plain bytes p h) ∙ h.lines;
  none_behind = subst LastCounts (sym (raw_lines-closed bytes)) (counts_closed (raw_lines bytes) h.none_behind);
  header_words = h.header_words;
  order_words = h.order_words;
  names = h.names;
  kinds = h.kinds;
  declared = h.declared;
  matrix_words = h.matrix_words;
  row_count = h.row_count;
  column_count = h.column_count;
  entries = h.entries;
  last_words = h.last_words;
}
