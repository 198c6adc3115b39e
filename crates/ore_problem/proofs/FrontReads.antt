-- The front of a text is read as a problem where it is accepted, and this is its problem.
--     byte_count                        the number of bytes of some lines
--     over-all                     the cursor behind some lines
--     byte_count-raw_lines              all bytes of a text are in its lines
--     no_lines                     a text without lines is empty
--     Cut, alone, cut                     a text whose lines are two lists is cut between them
--     GoneOver, gone_over          the lines between two cursors
--     front_back, front_due        a front that is read is accepted, and back
--     prefix_reads_exactly         the law
use Rattle.std.proofs.Common.{◌≡◌, ℕ, suc, ◌+◌, Bool, true, false, List, [], ◌∷◌, ◌++◌, length, refl, sym, ap, ◌∙◌, subst, arith, inl, inr}
use Rattle.std.specs.Prelude.{if◌then◌else◌, nat_eq}
use Rattle.std.specs.declared.result.Result.TheVariants.{Ok}
use Rattle.ore_problem.specs.Lines.{Cursor, at_start, raw_lines, onto_first, content, is_comment}
use Rattle.ore_problem.specs.Problems.{System, Read, prefix_of, prefix_sizes}
use Rattle.ore_algebra.specs.Results.{◌>>=◌}
use Rattle.ore_problem.specs.Accepted.{counted, LastCounts}
use Rattle.ore_problem.specs.Laws.{HasFront, IsPrefixReadExactly}
use Rattle.ore_problem.proofs.AcceptedLines.{cursor, Goes, over}
use Rattle.ore_algebra.proofs.ResultLaws.{bound, same_ok}
use Rattle.ore_problem.proofs.AcceptedReads.{prefix_stands, accepted_prefix, lines_accepted}

-- ---- the cursor behind some lines

abbrev pub byte_count : List (List ℕ) → ℕ
byte_count [] = 0
byte_count (raw ∷ raws) = length raw + byte_count raws

pub over-all : (line used : ℕ) (raws rest : List (List ℕ)) → over line used raws rest ≡ cursor (line + length raws) (used + byte_count raws) rest
over-all line used [] rest = let a : line ≡ line + 0 = omega arith in let b : used ≡ used + 0 = omega arith in (λ i. cursor (a i) (b i) rest)
over-all line used (raw ∷ raws) rest =
    let a : suc line + length raws ≡ line + suc (length raws) = omega arith in
    let b : (used + length raw) + byte_count raws ≡ used + (length raw + byte_count raws) = omega arith in
    over-all (suc line) (used + length raw) raws rest ∙ (λ i. cursor (a i) (b i) rest)

byte_count-onto_first : (b : ℕ) (raws : List (List ℕ)) → byte_count (onto_first b raws) ≡ suc (byte_count raws)
byte_count-onto_first b [] = omega arith
byte_count-onto_first b (raw ∷ raws) = omega arith

pub byte_count-raw_lines : (text : List ℕ) → byte_count (raw_lines text) ≡ length text
unfolding raw_lines
byte_count-raw_lines [] = refl
byte_count-raw_lines (b ∷ bs) = by (nat_eq b 10) (byte_count-raw_lines bs)
  where
    by : (t : Bool) → byte_count (raw_lines bs) ≡ length bs → byte_count (if t then (b ∷ []) ∷ raw_lines bs else onto_first b (raw_lines bs)) ≡ suc (length bs)
    by true e = omega arith
    by false e = byte_count-onto_first b (raw_lines bs) ∙ ap suc e

-- ---- texts in two parts

record Cut (text : List ℕ) (raws others : List (List ℕ)) : Type 0 where
  front : List ℕ
  rest : List ℕ
  parts : text ≡ front ++ rest
  front_lines : raw_lines front ≡ raws
  rest_lines : raw_lines rest ≡ others

no_lines : (text : List ℕ) → raw_lines text ≡ [] → text ≡ []
unfolding raw_lines
no_lines [] e = refl
no_lines (b ∷ bs) e = by (nat_eq b 10) (raw_lines bs) e
  where
    by : (t : Bool) (ls : List (List ℕ)) → (if t then (b ∷ []) ∷ ls else onto_first b ls) ≡ [] → b ∷ bs ≡ []
    by true ls e = cc
    by false [] e = cc
    by false (l ∷ ls) e = cc

-- one byte, which ends no line, is all there is
alone : (b : ℕ) (bs r : List ℕ) → nat_eq b 10 ≡ false → raw_lines bs ≡ [] → b ∷ [] ≡ r → (rs others : List (List ℕ)) → [] ≡ rs ++ others → Cut (b ∷ bs) (r ∷ rs) others
unfolding raw_lines
alone b bs r f l first [] [] e = record {
  front = b ∷ [];
  rest = [];
  parts = ap (λ t. b ∷ t) (no_lines bs l);
  front_lines = ap (λ t. if t then (b ∷ []) ∷ [] else (b ∷ []) ∷ []) f ∙ ap (λ t. t ∷ []) first;
  rest_lines = refl;
}
alone b bs r f l first [] (other ∷ others) e = cc
alone b bs r f l first (x ∷ rs) others e = cc

cut : (text : List ℕ) (raws others : List (List ℕ)) → raw_lines text ≡ raws ++ others → Cut text raws others
unfolding raw_lines
cut text [] others e = record { front = []; rest = text; parts = refl; front_lines = refl; rest_lines = e }
cut [] (r ∷ rs) others e = cc
cut (b ∷ bs) (r ∷ rs) others e = by (nat_eq b 10) refl e
    (λ more. cut bs rs others more)
    (λ x more. cut bs (x ∷ rs) others more)
  where
    ended : nat_eq b 10 ≡ true → (b ∷ []) ∷ raw_lines bs ≡ r ∷ (rs ++ others) → (raw_lines bs ≡ rs ++ others → Cut bs rs others) → Cut (b ∷ bs) (r ∷ rs) others
    ended t e more =
        let first : b ∷ [] ≡ r = cc in
        let rest : raw_lines bs ≡ rs ++ others = cc in
        let c = more rest in
        record {
          front = b ∷ c.front;
          rest = c.rest;
          parts = ap (λ x. b ∷ x) c.parts;
          front_lines = ap (λ x. if x then (b ∷ []) ∷ raw_lines c.front else onto_first b (raw_lines c.front)) t ∙ (λ i. first i ∷ c.front_lines i);
          rest_lines = c.rest_lines;
        }

    goes_on : nat_eq b 10 ≡ false → (ls : List (List ℕ)) → raw_lines bs ≡ ls → onto_first b ls ≡ r ∷ (rs ++ others) → ((x : List ℕ) → raw_lines bs ≡ x ∷ (rs ++ others) → Cut bs (x ∷ rs) others) → Cut (b ∷ bs) (r ∷ rs) others
    goes_on f [] l e more =
        let first : b ∷ [] ≡ r = cc in
        let none : [] ≡ rs ++ others = cc in
        alone b bs r f l first rs others none
    goes_on f (x ∷ xs) l e more =
        let first : b ∷ x ≡ r = cc in
        let rest : xs ≡ rs ++ others = cc in
        let c = more x (l ∙ ap (λ t. x ∷ t) rest) in
        record {
          front = b ∷ c.front;
          rest = c.rest;
          parts = ap (λ t. b ∷ t) c.parts;
          front_lines = ap (λ t. if t then (b ∷ []) ∷ raw_lines c.front else onto_first b (raw_lines c.front)) f ∙ ap (onto_first b) c.front_lines ∙ ap (λ t. t ∷ rs) first;
          rest_lines = c.rest_lines;
        }

    by : (t : Bool) → nat_eq b 10 ≡ t → (if t then (b ∷ []) ∷ raw_lines bs else onto_first b (raw_lines bs)) ≡ r ∷ (rs ++ others) → (raw_lines bs ≡ rs ++ others → Cut bs rs others) → ((x : List ℕ) → raw_lines bs ≡ x ∷ (rs ++ others) → Cut bs (x ∷ rs) others)
        → Cut (b ∷ bs) (r ∷ rs) others
    by true t e more less = ended t e more
    by false t e more less = goes_on t (raw_lines bs) refl e less

-- ---- the lines between two cursors

record GoneOver (line used : ℕ) (left ls : List (List ℕ)) (goal : Cursor) : Type 0 where
  raws : List (List ℕ)
  all : left ≡ raws ++ goal.left
  lines : counted raws ≡ ls
  last : LastCounts raws
  cursors : over line used raws goal.left ≡ goal

last_behind : (raw : List ℕ) (raws : List (List ℕ)) (l : List ℕ) (ls : List (List ℕ)) → counted raws ≡ l ∷ ls → LastCounts raws → LastCounts (raw ∷ raws)
last_behind raw [] l ls e h = cc
last_behind raw (next ∷ raws) l ls e h = h

last_line : (raw : List ℕ) (raws : List (List ℕ)) → is_comment raw ≡ false → LastCounts raws → LastCounts (raw ∷ raws)
last_line raw [] b h = b
last_line raw (next ∷ raws) b h = h

gone_over : (line used : ℕ) (left ls : List (List ℕ)) (goal : Cursor) → Goes line used left ls goal → GoneOver line used left ls goal
gone_over line used [] [] goal g = record { raws = []; all = ap (λ (c : Cursor). c.left) g; lines = refl; last = tt; cursors = ap (cursor line used) (sym (ap (λ (c : Cursor). c.left) g)) ∙ g }
gone_over line used [] (l ∷ ls) goal g = absurd g
gone_over line used (raw ∷ left) [] goal g = record { raws = []; all = ap (λ (c : Cursor). c.left) g; lines = refl; last = tt; cursors = ap (cursor line used) (sym (ap (λ (c : Cursor). c.left) g)) ∙ g }
gone_over line used (raw ∷ left) (l ∷ ls) goal (inl (b, g)) =
    let m = gone_over (suc line) (used + length raw) left (l ∷ ls) goal g in
    record {
      raws = raw ∷ m.raws;
      all = ap (λ x. raw ∷ x) m.all;
      lines = ap (λ b. if b then counted m.raws else content raw ∷ counted m.raws) b ∙ m.lines;
      last = last_behind raw m.raws l ls m.lines m.last;
      cursors = m.cursors;
    }
gone_over line used (raw ∷ left) (l ∷ ls) goal (inr (b, f, g)) =
    let m = gone_over (suc line) (used + length raw) left ls goal g in
    record {
      raws = raw ∷ m.raws;
      all = ap (λ x. raw ∷ x) m.all;
      lines = (λ i. if b i then counted m.raws else f i ∷ m.lines i);
      last = last_line raw m.raws b m.last;
      cursors = m.cursors;
    }

-- ---- the law

module _ (bytes : List ℕ) (p : System) where
  front_cursor : (goal : Cursor) → prefix_of bytes ≡ Ok (p, goal) → HasFront bytes p goal.used goal.line
  front_cursor goal e =
      let s = prefix_stands p goal bytes e in
      let g = gone_over 0 0 (raw_lines bytes) _ goal s.goes in
      let c = cut bytes g.raws goal.left g.all in
      let here = sym g.cursors ∙ over-all 0 0 g.raws goal.left in (
        c.front,
        c.rest,
        record {
          parts = c.parts;
          lines = g.all ∙ (λ i. sym c.front_lines i ++ sym c.rest_lines i);
          accepted = lines_accepted c.front p (at_start bytes) goal s (ap counted c.front_lines ∙ g.lines) (subst LastCounts (sym c.front_lines) g.last);
        },
        ap (λ (c : Cursor). c.used) here ∙ (let z : 0 + byte_count g.raws ≡ byte_count g.raws = omega arith in z) ∙ ap byte_count (sym c.front_lines) ∙ byte_count-raw_lines c.front,
        ap (λ (c : Cursor). c.line) here ∙ (let z : 0 + length g.raws ≡ length g.raws = omega arith in z) ∙ ap length (sym c.front_lines),
      )

  front_back : (used lines : ℕ) → prefix_sizes bytes ≡ Ok (p, (used, lines)) → HasFront bytes p used lines
  front_back used lines e =
      let a = bound (prefix_of bytes) (λ x. Ok (x.0, (x.1.used, x.1.line))) (p, (used, lines)) e in
      let same = same_ok (a.0.0, (a.0.1.used, a.0.1.line)) (p, (used, lines)) a.2 in
      let q : a.0.0 ≡ p = ap (λ (x : System × (ℕ × ℕ)). x.0) same in
      let u : a.0.1.used ≡ used = ap (λ (x : System × (ℕ × ℕ)). x.1.0) same in
      let l : a.0.1.line ≡ lines = ap (λ (x : System × (ℕ × ℕ)). x.1.1) same in
      subst (HasFront bytes p used) l (subst (λ n. HasFront bytes p n a.0.1.line) u (front_cursor a.0.1 (a.1 ∙ ap (λ (s : System). Ok (s, a.0.1)) q)))

  front_due : (used lines : ℕ) → HasFront bytes p used lines → prefix_sizes bytes ≡ Ok (p, (used, lines))
  front_due used lines (front, rest, h, u, l) =
      ap (λ (r : Read (System × Cursor)). r >>= λ x. Ok (x.0, (x.1.used, x.1.line))) (accepted_prefix front bytes p (raw_lines rest) h.lines h.accepted ∙ ap (λ c. Ok (p, c)) (over-all 0 0 (raw_lines front) (raw_lines rest)))
      ∙ (let a : 0 + byte_count (raw_lines front) ≡ used = omega (arith, byte_count-raw_lines front, u) in
      let b : 0 + length (raw_lines front) ≡ lines = omega (arith, l) in
      (λ i. Ok (p, (a i, b i))))

pub prefix_reads_exactly : IsPrefixReadExactly
prefix_reads_exactly bytes p used lines = (front_back bytes p used lines, front_due bytes p used lines)
