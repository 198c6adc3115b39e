-- Where the faulty line of a text is.
--     join, join-append, join-onto_first     lines one after another, as a text; of two lists; of a first line with one byte more
--     join-raw_lines              the lines of a text are the text
--     bytes_line, raw_lines-line  the lines of a text that begins with a whole line
--     IsWhole, join-lines         a text is so many whole lines; these are the text
--     whole_none, whole_line, whole_append     no line, one line, and two such texts
--     past_all, take_past         the first items of lists
--     begins                      a text whose first lines are those of whole lines begins with these
--     Stray                       as many lines as this come before the faulty one
--     stray_faulty, faulty_stray     so the next line is faulty; and the other way round
--     stray_behind                a text that begins with whole lines, by what may follow them
--     stray_same                  sets with the same texts
--     stray_end                   the first line is faulty, where the set has the empty text alone
--     one_faulty_line             a text has at most one faulty line, and none where it is in the set
use Rattle.std.proofs.Common.{◌≡◌, ℕ, suc, ◌+◌, Bool, true, false, true≢false, not, ◌&&◌, if◌then◌else◌, List, [], ◌∷◌, ◌++◌, length, take, drop, refl, sym, ap, subst, ◌∙◌, append_assoc, append-nil, arith}
use Rattle.std.specs.Prelude.{nat_eq}
use Rattle.std.specs.List.{list_all}
use Rattle.std.proofs.lemmas.List.{append_cancel_left, length-append, take-append-drop}
use Rattle.ore_text.proofs.FaultyLines as of_lines
use Rattle.ore_parts.specs.Lines.{LacksByte, IsLine, onto_first, raw_lines}
use Rattle.ore_parts.specs.FaultyLine.{IsFaultyLine, HasOneFaultyLine}

-- ---- lines and their text

abbrev pub join : List (List ℕ) → List ℕ
join [] = []
join (x ∷ xs) = x ++ join xs

pub join-append : (xs ys : List (List ℕ)) → join (xs ++ ys) ≡ join xs ++ join ys
join-append [] ys = refl
join-append (x ∷ xs) ys = ap (λ t. x ++ t) (join-append xs ys) ∙ sym (append_assoc x (join xs) (join ys))

join-onto_first : (b : ℕ) (xs : List (List ℕ)) → join (onto_first b xs) ≡ b ∷ join xs
join-onto_first b [] = refl
join-onto_first b (x ∷ xs) = refl

pub join-raw_lines : (t : List ℕ) → join (raw_lines t) ≡ t
unfolding raw_lines
join-raw_lines [] = refl
join-raw_lines (b ∷ bs) = by (nat_eq b 10) (join-raw_lines bs)
  where
    by : (x : Bool) → join (raw_lines bs) ≡ bs → join (if x then (b ∷ []) ∷ raw_lines bs else onto_first b (raw_lines bs)) ≡ b ∷ bs
    by true e = ap (λ t. b ∷ t) e
    by false e = join-onto_first b (raw_lines bs) ∙ ap (λ t. b ∷ t) e

bytes_line : (bs u : List ℕ) → LacksByte 10 bs → raw_lines ((bs ++ 10 ∷ []) ++ u) ≡ (bs ++ 10 ∷ []) ∷ raw_lines u
unfolding raw_lines
bytes_line [] u h = refl
bytes_line (b ∷ bs) u h = by (nat_eq b 10) refl h (bytes_line bs u)
  where
    by : (x : Bool) → nat_eq b 10 ≡ x → (not x && list_all (λ b. not (nat_eq b 10)) bs) ≡ true → (LacksByte 10 bs → raw_lines ((bs ++ 10 ∷ []) ++ u) ≡ (bs ++ 10 ∷ []) ∷ raw_lines u)
        → raw_lines (b ∷ ((bs ++ 10 ∷ []) ++ u)) ≡ (b ∷ (bs ++ 10 ∷ [])) ∷ raw_lines u
    by true e h more = absurd (true≢false (sym h))
    by false e h more = ap (λ x. if x then (b ∷ []) ∷ raw_lines ((bs ++ 10 ∷ []) ++ u) else onto_first b (raw_lines ((bs ++ 10 ∷ []) ++ u))) e ∙ ap (onto_first b) (more h)

pub raw_lines-line : (line u : List ℕ) → IsLine line → raw_lines (line ++ u) ≡ line ∷ raw_lines u
raw_lines-line line u is = ap (λ t. raw_lines (t ++ u)) is.2 ∙ bytes_line is.0 u is.1 ∙ ap (λ t. t ∷ raw_lines u) (sym is.2)

pub record IsWhole (number : ℕ) (p : List ℕ) : Type 0 where
  pub lines : List (List ℕ)
  pub count : length lines ≡ number
  pub first : (u : List ℕ) → raw_lines (p ++ u) ≡ lines ++ raw_lines u

pub whole_none : IsWhole 0 []
whole_none = record { lines = []; count = refl; first = λ u. refl }

pub whole_line : (line : List ℕ) → IsLine line → IsWhole 1 line
whole_line line is = record { lines = line ∷ []; count = refl; first = λ u. raw_lines-line line u is }

pub whole_append : (m n : ℕ) (p q : List ℕ) → IsWhole m p → IsWhole n q → IsWhole (m + n) (p ++ q)
whole_append m n p q a b = record {
  lines = a.lines ++ b.lines;
  count = length-append a.lines b.lines ∙ (λ i. a.count i + b.count i);
  first = λ u. ap raw_lines (append_assoc p q u) ∙ a.first (q ++ u) ∙ ap (λ t. a.lines ++ t) (b.first u) ∙ sym (append_assoc a.lines b.lines (raw_lines u));
}

join-lines : (n : ℕ) (p : List ℕ) (w : IsWhole n p) → join w.lines ≡ p
unfolding raw_lines
join-lines n p w = ap join (sym (append-nil w.lines) ∙ sym (w.first [])) ∙ join-raw_lines (p ++ []) ∙ append-nil p

-- ---- lines in front of others

past_all : {A : Type 0} (n : ℕ) (xs ls : List A) → take (length ls + n) (ls ++ xs) ≡ ls ++ take n xs
past_all n xs [] = let z : 0 + n ≡ n = omega arith in ap (λ k. take k xs) z
past_all n xs (l ∷ ls) = let s : suc (length ls) + n ≡ suc (length ls + n) = omega arith in ap (λ k. take k (l ∷ (ls ++ xs))) s ∙ ap (λ t. l ∷ t) (past_all n xs ls)

pub take_past : {A : Type 0} (n : ℕ) (ls xs : List A) (m : ℕ) → length ls ≡ m → take (m + n) (ls ++ xs) ≡ ls ++ take n xs
take_past n ls xs m e = ap (λ k. take (k + n) (ls ++ xs)) (sym e) ∙ past_all n xs ls

-- ---- the faulty line

abbrev pub Stray : (List ℕ → Type 0) → List ℕ → ℕ → Type 0
Stray T text before = of_lines.Stray raw_lines T text before

pub stray_faulty : (T : List ℕ → Type 0) (text : List ℕ) (n : ℕ) → Stray T text n → IsFaultyLine T text (suc n)
stray_faulty T text n s = of_lines.stray_faulty raw_lines T text n s

pub faulty_stray : (T : List ℕ → Type 0) (text : List ℕ) (line : ℕ) → IsFaultyLine T text line → (n : ℕ) × (line ≡ suc n) × Stray T text n
faulty_stray T text line f = of_lines.faulty_stray raw_lines T text line f

pub stray_same : (T U : List ℕ → Type 0) (text : List ℕ) (n : ℕ) → ((t : List ℕ) → T t → U t) → ((t : List ℕ) → U t → T t) → Stray T text n → Stray U text n
stray_same T U text n to from s = record {
  follows = (s.follows.0, to s.follows.0 s.follows.1, s.follows.2);
  differs = λ other u e. s.differs other (from other u) e;
}

-- a text whose lines begin with those of whole lines begins with them
pub begins : (c n : ℕ) (p rest other : List ℕ) → IsWhole c p → take (c + n) (raw_lines (p ++ rest)) ≡ take (c + n) (raw_lines other)
    → (w : List ℕ) × (other ≡ p ++ w) × (take n (raw_lines rest) ≡ take n (raw_lines w))
begins c n p rest other whole e =
    let front : take (c + n) (raw_lines other) ≡ whole.lines ++ take n (raw_lines rest) = sym e ∙ ap (take (c + n)) (whole.first rest) ∙ take_past n whole.lines (raw_lines rest) c whole.count in
    let w = join (take n (raw_lines rest) ++ drop (c + n) (raw_lines other)) in
    let all : raw_lines other ≡ whole.lines ++ (take n (raw_lines rest) ++ drop (c + n) (raw_lines other)) =
    sym (take-append-drop (c + n) (raw_lines other)) ∙ ap (λ t. t ++ drop (c + n) (raw_lines other)) front ∙ append_assoc whole.lines (take n (raw_lines rest)) (drop (c + n) (raw_lines other)) in
    let is : other ≡ p ++ w = sym (join-raw_lines other) ∙ ap join all ∙ join-append whole.lines (take n (raw_lines rest) ++ drop (c + n) (raw_lines other)) ∙ ap (λ t. t ++ w) (join-lines c p whole) in
    let again : take (c + n) (raw_lines other) ≡ whole.lines ++ take n (raw_lines w) = ap (λ t. take (c + n) (raw_lines t)) is ∙ ap (take (c + n)) (whole.first w) ∙ take_past n whole.lines (raw_lines w) c whole.count in
    (w, is, append_cancel_left whole.lines (take n (raw_lines rest)) (take n (raw_lines w)) (sym front ∙ again))

pub stray_behind : (T : List ℕ → Type 0) (c n : ℕ) (p rest text : List ℕ) → IsWhole c p → text ≡ p ++ rest → Stray (λ t. T (p ++ t)) rest n → Stray T text (c + n)
stray_behind T c n p rest text whole is s = subst (λ t. Stray T t (c + n)) (sym is) (record {
  follows = (
    p ++ s.follows.0,
    s.follows.1,
    ap (take (c + n)) (whole.first rest) ∙ take_past n whole.lines (raw_lines rest) c whole.count ∙ ap (λ t. whole.lines ++ t) s.follows.2
        ∙ sym (ap (take (c + n)) (whole.first s.follows.0) ∙ take_past n whole.lines (raw_lines s.follows.0) c whole.count),
  );
  differs = λ other t e.
      let more : suc (c + n) ≡ c + suc n = omega arith in
      let b = begins c (suc n) p rest other whole (ap (λ k. take k (raw_lines (p ++ rest))) (sym more) ∙ e ∙ ap (λ k. take k (raw_lines other)) more) in
      s.differs b.0 (subst T b.1 t) b.2;
})

pub stray_end : (T : List ℕ → Type 0) (text : List ℕ) → T [] → ((other : List ℕ) → T other → other ≡ []) → (text ≡ [] → ⊥) → Stray T text 0
unfolding raw_lines
stray_end T text here each more = record {
  follows = ([], here, refl);
  differs = λ other t e. more (sym (join-raw_lines text) ∙ ap join (none (raw_lines text) (e ∙ ap (λ t. take 1 (raw_lines t)) (each other t))));
}
  where
    none : (ls : List (List ℕ)) → take 1 ls ≡ [] → ls ≡ []
    none [] e = refl
    none (l ∷ ls) e = cc

-- ---- there is one

pub one_faulty_line : (T : List ℕ → Type 0) → HasOneFaultyLine T
one_faulty_line T = of_lines.one_faulty_line raw_lines T
