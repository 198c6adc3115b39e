-- The tokens of a text that is put together from numbers, names, symbols and spaces.
--     Spells                  wherever a text stands, these are its tokens
--     EndsName                no number and no name goes on into what follows
--     Piece                   a text whose tokens come first, before any text that doesn't go on with it
--     spells_none             no bytes spell no tokens
--     spells_space, spells_token     a text with a space in front, with a token in front
--     piece_number, piece_name       a number and a name
--     piece_between           two pieces with a symbol between them
use Rattle.ore_text.proofs.ByteTests.{letter_no_digit, digit_true}
use Rattle.std.proofs.Common.{◌≡◌, ℕ, suc, ◌-◌, Bool, true, false, cond, ◌||◌, List, [], ◌∷◌, ◌++◌, length, refl, sym, ap, ◌∙◌, arith, append_assoc}
use Rattle.std.specs.Prelude.{nat_eq, if◌then◌else◌, take_while}
use Rattle.std.specs.Char.{is_ascii_digit, is_ascii_alphabetic}
use Rattle.std.specs.List.{AllByRecursion, AllPass}
use Rattle.std.specs.Str.Parse.{AllDigits, IsNumeral}
use Rattle.std.proofs.lemmas.Bool.Decides.{nat_tests}
use Rattle.std.proofs.lemmas.List.Sums.{take_while-cons}
use Rattle.std.proofs.lemmas.List.Elements.{All-head, All-tail}
use Rattle.ore_expr.specs.Tokens.{is_name_byte, IsName, Token, Number, Name, symbol, token_at, more_bytes, lexemes_from, tokens_of}

abbrev pub Spells : List ℕ → List Token → Type 0
Spells text ts = (k : ℕ) → tokens_of (lexemes_from 0 k text) ≡ ts

abbrev pub EndsName : List ℕ → Type 0
EndsName [] = Unit {0}
EndsName (b ∷ bs) = is_name_byte b ≡ false

abbrev pub Piece : List ℕ → List Token → Type 0
Piece text ts = (rest : List ℕ) (us : List Token) → EndsName rest → Spells rest us → Spells (text ++ rest) (ts ++ us)

-- ---- one token

pub spells_none : Spells [] []
unfolding lexemes_from
spells_none k = refl

pub spells_space : (rest : List ℕ) (ts : List Token) → Spells rest ts → Spells (32 ∷ rest) ts
unfolding lexemes_from
spells_space rest ts s k = s (suc k)

skip : (bs rest : List ℕ) (ts : List Token) → Spells rest ts → (k : ℕ) → tokens_of (lexemes_from (length bs) k (bs ++ rest)) ≡ ts
unfolding lexemes_from
skip [] rest ts s k = s k
skip (b ∷ bs) rest ts s k = skip bs rest ts s (suc k)

pub spells_token : (b : ℕ) (bs rest : List ℕ) (t : Token) (ts : List Token) → nat_eq b 32 ≡ false → token_at b (bs ++ rest) ≡ t → more_bytes t ≡ length bs → Spells rest ts → Spells (b ∷ (bs ++ rest)) (t ∷ ts)
unfolding lexemes_from
spells_token b bs rest t ts e f g s k =
    (λ i. tokens_of (if e i then lexemes_from 0 (suc k) (bs ++ rest) else record { place = k; token = f i } ∷ lexemes_from (more_bytes (f i)) (suc k) (bs ++ rest)))
    ∙ ap (λ n. t ∷ tokens_of (lexemes_from n (suc k) (bs ++ rest))) g
    ∙ ap (λ us. t ∷ us) (skip bs rest ts s (suc k))

-- ---- numbers and names

-- what passes is taken, up to what doesn't
abbrev Ends : (ℕ → Bool) → List ℕ → Type 0
Ends p [] = Unit {0}
Ends p (b ∷ bs) = p b ≡ false

taken : (p : ℕ → Bool) (xs rest : List ℕ) → AllByRecursion (λ x. p x ≡ true) xs → Ends p rest → take_while p (xs ++ rest) ≡ xs
taken p [] [] h e = refl
taken p [] (b ∷ rest) h e = take_while-cons p b rest ∙ ap (λ c. cond c (b ∷ take_while p rest) []) e
taken p (x ∷ xs) rest h e = take_while-cons p x (xs ++ rest) ∙ ap (λ c. cond c (x ∷ take_while p (xs ++ rest)) []) h.0 ∙ ap (λ ys. x ∷ ys) (taken p xs rest h.1 e)

none_of : (a b c d : Bool) → (((a || b) || c) || d) ≡ false → (a ≡ false) × (b ≡ false) × (c ≡ false)
none_of false false false d e = (refl, refl, refl)
none_of false false true d e = cc
none_of false true c d e = cc
none_of true b c d e = cc

no_digit : (rest : List ℕ) → EndsName rest → Ends is_ascii_digit rest
no_digit [] s = tt
no_digit (b ∷ rest) s = (none_of _ _ _ _ s).0

no_name : (rest : List ℕ) → EndsName rest → Ends is_name_byte rest
no_name [] s = tt
no_name (b ∷ rest) s = s

digits_true : (ds : List ℕ) → AllDigits 10 ds → AllByRecursion (λ c. is_ascii_digit c ≡ true) ds
digits_true [] h = tt
digits_true (c ∷ cs) h = (digit_true c h.0, digits_true cs h.1)

digit_no_space : (c : ℕ) → is_ascii_digit c ≡ true → nat_eq c 32 ≡ false
digit_no_space c h = grind (arith, nat_tests)

letter_no_space : (c : ℕ) → is_ascii_alphabetic c ≡ true → nat_eq c 32 ≡ false
letter_no_space c h = grind (arith, nat_tests)

less_one : (n : ℕ) → suc n - 1 ≡ n
less_one n = omega arith

all_passing : (xs : List ℕ) → AllPass is_name_byte xs → AllByRecursion (λ x. is_name_byte x ≡ true) xs
all_passing [] h = tt
all_passing (x ∷ xs) h = (All-head (λ x. is_name_byte x ≡ true) x xs h, all_passing xs (All-tail (λ x. is_name_byte x ≡ true) x xs h))

pub piece_number : (ds : List ℕ) → IsNumeral 10 ds → Piece ds (Number ds ∷ [])
piece_number [] h rest us st sp = absurd (omega arith)
piece_number (d ∷ ds) h rest us st sp =
    let all = digits_true (d ∷ ds) h.1 in
    let t : token_at d (ds ++ rest) ≡ Number (d ∷ ds) =
    (λ i. if all.0 i then Number (d ∷ taken is_ascii_digit ds rest all.1 (no_digit rest st) i) else if is_ascii_alphabetic d then Name (d ∷ take_while is_name_byte (ds ++ rest)) else symbol d) in
    spells_token d ds rest (Number (d ∷ ds)) us (digit_no_space d all.0) t (less_one (length ds)) sp

pub piece_name : (name : List ℕ) → IsName name → Piece name (Name name ∷ [])
piece_name [] h rest us st sp = absurd h
piece_name (b ∷ bs) h rest us st sp =
    let t : token_at b (bs ++ rest) ≡ Name (b ∷ bs) =
    (λ i. if letter_no_digit b h.0 i then Number (b ∷ take_while is_ascii_digit (bs ++ rest)) else if h.0 i then Name (b ∷ taken is_name_byte bs rest (all_passing bs h.2) (no_name rest st) i) else symbol b) in
    spells_token b bs rest (Name (b ∷ bs)) us (letter_no_space b h.0) t (less_one (length bs)) sp

-- ---- two pieces

pub piece_between : (b : ℕ) (t : Token) → is_name_byte b ≡ false → nat_eq b 32 ≡ false → ((bs : List ℕ) → token_at b bs ≡ t) → more_bytes t ≡ 0
    → (first last : List ℕ) (ts us : List Token) → Piece first ts → Piece last us → Piece (first ++ b ∷ last) (ts ++ t ∷ us)
piece_between b t n e f g first last ts us p q rest vs st sp k =
    ap (λ x. tokens_of (lexemes_from 0 k x)) (append_assoc first (b ∷ last) rest)
    ∙ p (b ∷ (last ++ rest)) (t ∷ (us ++ vs)) n (spells_token b [] (last ++ rest) t (us ++ vs) e (f (last ++ rest)) g (q rest vs st sp)) k
    ∙ sym (append_assoc ts (t ∷ us) vs)
