-- The lines that are passed from one cursor to another.
--     cursor           a cursor by its parts
--     Goes             from a cursor these lines, beside comments before each, lead to another cursor
--     GoesFrom         the same, from a cursor as a whole
--     arrived, stays   no lines lead to the cursor itself, and from it
--     goes_same        so they do from the same cursor
--     step, due        the first of them is the next line, and the line that is due
--     back, due_back   the next line, or the line that is due, and the lines behind it
--     over             the cursor behind some lines
--     goes_over        the lines that count lead over all lines
--     goes_all         where nothing is left, all lines that count are passed
use Rattle.std.proofs.Common.{◌≡◌, ℕ, suc, ◌+◌, Bool, true, false, List, [], ◌∷◌, ◌++◌, length, refl, sym, ap, ◌∙◌, subst, ◌⊎◌, inl, inr, true≢false}
use Rattle.std.specs.Prelude.{if◌then◌else◌}
use Rattle.std.specs.declared.option.Option.{Option}
use Rattle.std.specs.declared.option.Option.TheVariants.{None, Some}
use Rattle.std.specs.declared.result.Result.TheVariants.{Ok}
use Rattle.ore_problem.specs.Lines.{Cursor, content, is_comment, next_of}
use Rattle.ore_problem.specs.declared.fault.ProblemReason.TheVariants.{NoEnd}
use Rattle.ore_problem.specs.Problems.{found_or, line_due}
use Rattle.ore_problem.specs.Accepted.{counted, LastCounts}

abbrev pub cursor : ℕ → ℕ → List (List ℕ) → Cursor
cursor line used left = record { line = line; used = used; left = left }

abbrev pub Goes : ℕ → ℕ → List (List ℕ) → List (List ℕ) → Cursor → Type 0
Goes line used [] [] goal = cursor line used [] ≡ goal
Goes line used [] (l ∷ ls) goal = ⊥
Goes line used (raw ∷ left) [] goal = cursor line used (raw ∷ left) ≡ goal
Goes line used (raw ∷ left) (l ∷ ls) goal =
    ((is_comment raw ≡ true) × Goes (suc line) (used + length raw) left (l ∷ ls) goal)
    ⊎ ((is_comment raw ≡ false) × (content raw ≡ l) × Goes (suc line) (used + length raw) left ls goal)

abbrev pub GoesFrom : Cursor → List (List ℕ) → Cursor → Type 0
GoesFrom c ls goal = Goes c.line c.used c.left ls goal

pub arrived : (c : Cursor) (goal : Cursor) → GoesFrom c [] goal → c ≡ goal
arrived c goal g = by c.left g
  where
    by : (left : List (List ℕ)) → Goes c.line c.used left [] goal → cursor c.line c.used left ≡ goal
    by [] g = g
    by (raw ∷ left) g = g

pub stays : (line used : ℕ) (left : List (List ℕ)) → Goes line used left [] (cursor line used left)
stays line used [] = refl
stays line used (raw ∷ left) = refl

pub goes_same : {A : Type 0} (y : A) (d : Cursor) (x : A × Cursor) (ls : List (List ℕ)) (goal : Cursor) → (y, d) ≡ x → GoesFrom x.1 ls goal → GoesFrom d ls goal
goes_same {A} y d x ls goal e g = subst (λ (c : Cursor). GoesFrom c ls goal) (sym (ap (λ (z : A × Cursor). z.1) {x = (y, d)} {y = x} e)) g

-- ---- one line

pub step : (line used : ℕ) (left : List (List ℕ)) (l : List ℕ) (ls : List (List ℕ)) (goal : Cursor) → Goes line used left (l ∷ ls) goal → (d : Cursor) × (next_of line used left ≡ Some (l, d)) × GoesFrom d ls goal
unfolding next_of
step line used [] l ls goal g = absurd g
step line used (raw ∷ left) l ls goal (inl (e, g)) =
    let s = step (suc line) (used + length raw) left l ls goal g in
    (s.0, ap (λ b. if b then next_of (suc line) (used + length raw) left else Some (content raw, cursor (suc line) (used + length raw) left)) e ∙ s.1, s.2)
step line used (raw ∷ left) l ls goal (inr (e, f, g)) =
    (cursor (suc line) (used + length raw) left, (λ i. if e i then next_of (suc line) (used + length raw) left else Some (f i, cursor (suc line) (used + length raw) left)), g)

pub due : (c : Cursor) (l : List ℕ) (ls : List (List ℕ)) (goal : Cursor) → GoesFrom c (l ∷ ls) goal → (d : Cursor) × (line_due c ≡ Ok (l, d)) × GoesFrom d ls goal
unfolding line_due
due c l ls goal g = let s = step c.line c.used c.left l ls goal g in (s.0, rw s.1 refl, s.2)

both : {A B : Type 0} (x y : A × B) → Some x ≡ Some y → x ≡ y
both x y e = cc

pub back : (line used : ℕ) (left : List (List ℕ)) (l : List ℕ) (d : Cursor) (ls : List (List ℕ)) (goal : Cursor) → next_of line used left ≡ Some (l, d) → GoesFrom d ls goal → Goes line used left (l ∷ ls) goal
unfolding next_of
back line used [] l d ls goal e g = cc
back line used (raw ∷ left) l d ls goal e g = by (is_comment raw) refl e (λ f. back (suc line) (used + length raw) left l d ls goal f g)
  where
    by : (b : Bool) → is_comment raw ≡ b → (if b then next_of (suc line) (used + length raw) left else Some (content raw, cursor (suc line) (used + length raw) left)) ≡ Some (l, d)
        → (next_of (suc line) (used + length raw) left ≡ Some (l, d) → Goes (suc line) (used + length raw) left (l ∷ ls) goal) → Goes line used (raw ∷ left) (l ∷ ls) goal
    by true b e more = inl (b, more e)
    by false b e more =
        let same = both (content raw, cursor (suc line) (used + length raw) left) (l, d) e in
        inr (b, ap (λ x. x.0) same, subst (λ (x : Cursor). GoesFrom x ls goal) (sym (ap (λ x. x.1) same)) g)

pub due_back : (c : Cursor) (l : List ℕ) (d : Cursor) (ls : List (List ℕ)) (goal : Cursor) → line_due c ≡ Ok (l, d) → GoesFrom d ls goal → GoesFrom c (l ∷ ls) goal
unfolding line_due
due_back c l d ls goal e g = back c.line c.used c.left l d ls goal (by (next_of c.line c.used c.left) e) g
  where
    by : (o : Option (List ℕ × Cursor)) → found_or o (suc (c.line + length c.left)) NoEnd ≡ Ok (l, d) → o ≡ Some (l, d)
    by None e = cc
    by (Some x) e = cc

-- ---- all lines

abbrev pub over : ℕ → ℕ → List (List ℕ) → List (List ℕ) → Cursor
over line used [] rest = cursor line used rest
over line used (raw ∷ raws) rest = over (suc line) (used + length raw) raws rest

tail_counts : (raw : List ℕ) (raws : List (List ℕ)) → LastCounts (raw ∷ raws) → LastCounts raws
tail_counts raw [] h = tt
tail_counts raw (next ∷ raws) h = h

some_count : (raw : List ℕ) (raws : List (List ℕ)) → LastCounts (raw ∷ raws) → counted (raw ∷ raws) ≡ [] → ⊥
some_count raw [] h e = by (is_comment raw) h e
  where
    by : (b : Bool) → b ≡ false → (if b then [] else content raw ∷ []) ≡ [] → ⊥
    by true h e = true≢false h
    by false h e = cc
some_count raw (next ∷ raws) h e = by (is_comment raw) (some_count next raws h) e
  where
    by : (b : Bool) → (counted (next ∷ raws) ≡ [] → ⊥) → (if b then counted (next ∷ raws) else content raw ∷ counted (next ∷ raws)) ≡ [] → ⊥
    by true more e = more e
    by false more e = cc

pub goes_over : (line used : ℕ) (raws rest : List (List ℕ)) → LastCounts raws → Goes line used (raws ++ rest) (counted raws) (over line used raws rest)
goes_over line used [] rest h = stays line used rest
goes_over line used (raw ∷ raws) rest h = by (is_comment raw) refl (goes_over (suc line) (used + length raw) raws rest (tail_counts raw raws h))
  where
    goal : Cursor
    goal = over (suc line) (used + length raw) raws rest

    comment : (raws ls : List (List ℕ)) → LastCounts (raw ∷ raws) → counted raws ≡ ls → is_comment raw ≡ true → Goes (suc line) (used + length raw) (raws ++ rest) ls goal → Goes line used (raw ∷ (raws ++ rest)) ls goal
    comment [] [] h e b g = absurd (true≢false (sym b ∙ h))
    comment (next ∷ raws) [] h e b g = absurd (some_count next raws h e)
    comment raws (l ∷ ls) h e b g = inl (b, g)

    by : (b : Bool) → is_comment raw ≡ b → Goes (suc line) (used + length raw) (raws ++ rest) (counted raws) goal → Goes line used (raw ∷ (raws ++ rest)) (if b then counted raws else content raw ∷ counted raws) goal
    by true b g = comment raws (counted raws) h refl b g
    by false b g = inr (b, refl, g)

pub goes_all : (line used : ℕ) (left ls : List (List ℕ)) (goal : Cursor) → Goes line used left ls goal → goal.left ≡ [] → (counted left ≡ ls) × LastCounts left
goes_all line used [] [] goal g e = (refl, tt)
goes_all line used [] (l ∷ ls) goal g e = absurd g
goes_all line used (raw ∷ left) [] goal g e = let f = ap (λ (c : Cursor). c.left) g ∙ e in cc
goes_all line used (raw ∷ left) (l ∷ ls) goal (inl (b, g)) e =
    let more = goes_all (suc line) (used + length raw) left (l ∷ ls) goal g e in
    (ap (λ b. if b then counted left else content raw ∷ counted left) b ∙ more.0, by left more.0 more.1)
  where
    by : (left : List (List ℕ)) → counted left ≡ l ∷ ls → LastCounts left → LastCounts (raw ∷ left)
    by [] e h = cc
    by (next ∷ left) e h = h
goes_all line used (raw ∷ left) (l ∷ ls) goal (inr (b, f, g)) e =
    let more = goes_all (suc line) (used + length raw) left ls goal g e in
    ((λ i. if b i then counted left else f i ∷ more.0 i), by left more.1)
  where
    by : (left : List (List ℕ)) → LastCounts left → LastCounts (raw ∷ left)
    by [] h = b
    by (next ∷ left) h = h
