-- The lines of a printed text, and the words of each.
--     ended                               a line with its end
--     split_at-append, split_at-piece     the pieces of a text that is put together at a byte, and of one that lacks
--                                         the byte
--     IsWord                              a text has a byte, and bytes of names alone
--     words_joined, plain_joined          the words of a line that is put together from words; such a line is plain
--     IsLine                              no line end and no sign of a comment stands in a line
--     plain_line, line_append             plain texts are such lines, and so are two in a row
--     AllLines                            each of some texts is such a line
--     counted_ended, last_counts_ended    lines are no comments, and are what stands between the line ends
--     Prints                              a text has these lines, wherever it stands
--     prints_none, prints_line, prints_append, prints_all    no line; one line; two texts; the texts of a list
use Rattle.std.proofs.Common.{◌≡◌, ℕ, Bool, true, false, not, cond, List, [], ◌∷◌, ◌++◌, map, refl, sym, ap, ◌∙◌, true≢false, append_assoc}
use Rattle.std.specs.Prelude.{nat_eq, if◌then◌else◌, ◌&&◌}
use Rattle.std.specs.List.{AllByRecursion, list_all, join_with_byte, filter, flat_map}
use Rattle.std.proofs.lemmas.List.{map-append}
use Rattle.std.proofs.lemmas.List.Folds.{list_all-append}
use Rattle.ore_ring.proofs.Falls.{left_true, right_true}
use Rattle.ore_problem.specs.Lines.{split_at, onto_first, raw_lines, is_line_end, content, is_comment, is_some_byte, words}
use Rattle.ore_problem.specs.Accepted.{counted, LastCounts}
use Rattle.ore_problem.proofs.AgainBytes.{all_append, IsPlain, IsBare, Lacks, plain_lacks, bare_lacks, plain_append, plain_bare, plain_cons, plain_ten, plain_thirteen, plain_hash, plain_space}

abbrev pub ended : List ℕ → List ℕ
ended line = line ++ 10 ∷ []

not_true : (b : Bool) → not b ≡ true → b ≡ false
not_true true e = absurd (true≢false (sym e))
not_true false e = refl

head_lacks : (byte b : ℕ) (bs : List ℕ) → Lacks byte (b ∷ bs) → nat_eq b byte ≡ false
head_lacks byte b bs h = not_true (nat_eq b byte) (left_true (not (nat_eq b byte)) (list_all (λ x. not (nat_eq x byte)) bs) h)

tail_lacks : (byte b : ℕ) (bs : List ℕ) → Lacks byte (b ∷ bs) → Lacks byte bs
tail_lacks byte b bs h = right_true (not (nat_eq b byte)) (list_all (λ x. not (nat_eq x byte)) bs) h

-- ---- pieces

pub split_at-append : (byte : ℕ) (piece rest : List ℕ) → nat_eq byte byte ≡ true → Lacks byte piece → split_at byte (piece ++ byte ∷ rest) ≡ piece ∷ split_at byte rest
unfolding split_at
split_at-append byte [] rest same h = ap (λ t. if t then [] ∷ split_at byte rest else onto_first byte (split_at byte rest)) same
split_at-append byte (b ∷ bs) rest same h =
    (λ i. if head_lacks byte b bs h i then [] ∷ split_at byte (bs ++ byte ∷ rest) else onto_first b (split_at-append byte bs rest same (tail_lacks byte b bs h) i))

pub split_at-piece : (byte : ℕ) (piece : List ℕ) → Lacks byte piece → split_at byte piece ≡ piece ∷ []
unfolding split_at
split_at-piece byte [] h = refl
split_at-piece byte (b ∷ bs) h = (λ i. if head_lacks byte b bs h i then [] ∷ split_at byte bs else onto_first b (split_at-piece byte bs (tail_lacks byte b bs h) i))

-- ---- words

-- some bytes, each of a name
abbrev pub IsWord : List ℕ → Type 0
IsWord word = (is_some_byte word ≡ true) × IsBare word

space_apart : (word : List ℕ) → IsWord word → Lacks 32 word
space_apart word h = bare_lacks 32 refl word h.1

split_at-joined : (w : List ℕ) (ws : List (List ℕ)) → AllByRecursion IsWord (w ∷ ws) → split_at 32 (join_with_byte 32 (w ∷ ws)) ≡ w ∷ ws
split_at-joined w [] h = split_at-piece 32 w (space_apart w h.0)
split_at-joined w (v ∷ ws) h = split_at-append 32 w (join_with_byte 32 (v ∷ ws)) refl (space_apart w h.0) ∙ ap (λ vs. w ∷ vs) (split_at-joined v ws h.1)

all_kept : (ws : List (List ℕ)) → AllByRecursion IsWord ws → filter is_some_byte ws ≡ ws
all_kept [] h = refl
all_kept (w ∷ ws) h = (λ i. cond (h.0.0 i) (w ∷ all_kept ws h.1 i) (all_kept ws h.1 i))

pub words_joined : (w : List ℕ) (ws : List (List ℕ)) → AllByRecursion IsWord (w ∷ ws) → words (join_with_byte 32 (w ∷ ws)) ≡ w ∷ ws
unfolding words
words_joined w ws h = ap (filter is_some_byte) (split_at-joined w ws h) ∙ all_kept (w ∷ ws) h

pub plain_joined : (ws : List (List ℕ)) → AllByRecursion IsWord ws → IsPlain (join_with_byte 32 ws)
plain_joined [] h = refl
plain_joined (w ∷ []) h = plain_bare w h.0.1
plain_joined (w ∷ v ∷ ws) h = plain_append w (32 ∷ join_with_byte 32 (v ∷ ws)) (plain_bare w h.0.1) (plain_cons 32 (join_with_byte 32 (v ∷ ws)) plain_space (plain_joined (v ∷ ws) h.1))

-- ---- one line

pub raw_lines-append : (line rest : List ℕ) → Lacks 10 line → raw_lines (line ++ 10 ∷ rest) ≡ ended line ∷ raw_lines rest
unfolding raw_lines
raw_lines-append [] rest h = refl
raw_lines-append (b ∷ bs) rest h = (λ i. if head_lacks 10 b bs h i then (b ∷ []) ∷ raw_lines (bs ++ 10 ∷ rest) else onto_first b (raw_lines-append bs rest (tail_lacks 10 b bs h) i))

no_end : (b : ℕ) (bs : List ℕ) → nat_eq b 13 ≡ false → is_line_end (b ∷ ended bs) ≡ false
no_end b [] h = ap (λ t. t && true) h
no_end b (c ∷ []) h = refl
no_end b (c ∷ d ∷ bs) h = refl

content-ended : (line : List ℕ) → Lacks 13 line → content (ended line) ≡ line
unfolding content
content-ended [] h = refl
content-ended (b ∷ bs) h = (λ i. if no_end b bs (head_lacks 13 b bs h) i then [] else b ∷ content-ended bs (tail_lacks 13 b bs h) i)

no_comment : (line : List ℕ) → Lacks 35 line → is_comment (ended line) ≡ false
no_comment [] h = refl
no_comment (b ∷ bs) h = head_lacks 35 b bs h

-- no line end and no sign of a comment stands in a line
pub record IsLine (line : List ℕ) : Type 0 where
  pub new_line : Lacks 10 line
  pub return : Lacks 13 line
  pub hash : Lacks 35 line

pub plain_line : (line : List ℕ) → IsPlain line → IsLine line
plain_line line h = record { new_line = plain_lacks 10 plain_ten line h; return = plain_lacks 13 plain_thirteen line h; hash = plain_lacks 35 plain_hash line h }

pub lacks_append : (byte : ℕ) (a b : List ℕ) → Lacks byte a → Lacks byte b → Lacks byte (a ++ b)
lacks_append byte a b h k = list_all-append (λ x. not (nat_eq x byte)) a b ∙ (λ i. h i && k i)

pub line_append : (a b : List ℕ) → IsLine a → IsLine b → IsLine (a ++ b)
line_append a b h k = record { new_line = lacks_append 10 a b h.new_line k.new_line; return = lacks_append 13 a b h.return k.return; hash = lacks_append 35 a b h.hash k.hash }

abbrev pub AllLines : List (List ℕ) → Type 0
AllLines lines = AllByRecursion IsLine lines

pub counted_ended : (lines : List (List ℕ)) → AllLines lines → counted (map ended lines) ≡ lines
counted_ended [] h = refl
counted_ended (line ∷ lines) h = (λ i. if no_comment line h.0.hash i then counted (map ended lines) else content-ended line h.0.return i ∷ counted_ended lines h.1 i)

pub last_counts_ended : (lines : List (List ℕ)) → AllLines lines → LastCounts (map ended lines)
last_counts_ended [] h = tt
last_counts_ended (line ∷ []) h = no_comment line h.0.hash
last_counts_ended (line ∷ next ∷ lines) h = last_counts_ended (next ∷ lines) h.1

-- ---- texts

pub record Prints (text : List ℕ) (lines : List (List ℕ)) : Type 0 where
  pub stands : (rest : List ℕ) → raw_lines (text ++ rest) ≡ map ended lines ++ raw_lines rest
  pub are_lines : AllLines lines

pub prints_line : (line : List ℕ) → IsLine line → Prints (ended line) (line ∷ [])
prints_line line h = record { stands = λ rest. ap raw_lines (append_assoc line (10 ∷ []) rest) ∙ raw_lines-append line rest h.new_line; are_lines = (h, tt) }

pub prints_append : (text more : List ℕ) (lines others : List (List ℕ)) → Prints text lines → Prints more others → Prints (text ++ more) (lines ++ others)
prints_append text more lines others h k = record {
  stands = λ rest. ap raw_lines (append_assoc text more rest)
      ∙ h.stands (more ++ rest)
      ∙ ap (λ ls. map ended lines ++ ls) (k.stands rest)
      ∙ sym (append_assoc (map ended lines) (map ended others) (raw_lines rest))
      ∙ ap (λ ls. ls ++ raw_lines rest) (sym (map-append ended lines others));
  are_lines = all_append IsLine lines others h.are_lines k.are_lines;
}

pub prints_none : Prints [] []
prints_none = record { stands = λ rest. refl; are_lines = tt }

pub prints_all : {X : Type 0} (text line : X → List ℕ) (xs : List X) → AllByRecursion (λ x. Prints (text x) (line x ∷ [])) xs → Prints (flat_map text xs) (map line xs)
prints_all text line [] h = prints_none
prints_all text line (x ∷ xs) h = prints_append (text x) (flat_map text xs) (line x ∷ []) (map line xs) h.0 (prints_all text line xs h.1)
