-- Lines of a word and numbers, written one number after another.
--     spaced            numbers, each with a space before it
--     joined-spaced     they are what follows the word
--     line_first, line_next, line_last      the turns of a loop that appends them
use Rattle.std.proofs.Common.{◌≡◌, ℕ, ◌+◌, ◌<◌, ◌≤◌, List, [], ◌∷◌, ◌++◌, length, map, drop, get_or, sym, ap, ◌∙◌, append_assoc, append-nil}
use Rattle.std.specs.Prelude.{decimal}
use Rattle.std.specs.List.{flat_map, join_with_byte}
use Rattle.std.proofs.lemmas.List.{drop_all, drop_more}
use Rattle.ore_text.specs.Lines.{line}

abbrev pub spaced : List ℕ → List ℕ
spaced ns = flat_map (λ n. 32 ∷ decimal n) ns

joined-spaced : (word : List ℕ) (ns : List ℕ) → join_with_byte 32 (word ∷ map decimal ns) ≡ word ++ spaced ns
joined-spaced word [] = sym (append-nil word)
joined-spaced word (n ∷ ns) = ap (λ t. word ++ 32 ∷ t) (joined-spaced (decimal n) ns)

pub line_first : (word ns out more : List ℕ) → more ≡ out ++ word → more ++ spaced ns ≡ out ++ (word ++ spaced ns)
line_first word ns out more m = ap (λ t. t ++ spaced ns) m ∙ append_assoc out word (spaced ns)

pub line_next : (ns out more : List ℕ) (i d : ℕ) → i < length ns → more ≡ out ++ 32 ∷ decimal (get_or ns i d) → more ++ spaced (drop (i + 1) ns) ≡ out ++ spaced (drop i ns)
line_next ns out more i d h m =
    ap (λ t. t ++ spaced (drop (i + 1) ns)) m
    ∙ append_assoc out (32 ∷ decimal (get_or ns i d)) (spaced (drop (i + 1) ns))
    ∙ ap (λ t. out ++ t) (sym (ap spaced (drop_more ns i d h)))

pub line_last : (word ns base out more : List ℕ) (i : ℕ) → length ns ≤ i → out ++ spaced (drop i ns) ≡ base ++ (word ++ spaced ns) → more ≡ out ++ 10 ∷ [] → more ≡ base ++ line (word ∷ map decimal ns)
line_last word ns base out more i h kept m =
    let all : out ≡ base ++ join_with_byte 32 (word ∷ map decimal ns) =
    sym (append-nil out) ∙ ap (λ t. out ++ spaced t) (sym (drop_all i ns h)) ∙ kept ∙ ap (λ t. base ++ t) (sym (joined-spaced word ns)) in
    m ∙ ap (λ t. t ++ 10 ∷ []) all ∙ append_assoc base (join_with_byte 32 (word ∷ map decimal ns)) (10 ∷ [])
