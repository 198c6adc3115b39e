-- A text is read as a problem where it is accepted, and this is its problem.
--     header                       the words of the first line
--     header_back, header_due      the first line
--     order_back, order_due        the second line
--     end_back, end_due            the last line
--     HasProblemLines              from a cursor to another the lines of a problem stand
--     prefix_stands                they stand where a problem is read at the front
--     stands_prefix                and where they stand, it is read
--     lines_accepted               the lines of a problem are those of an accepted text
--     accepted_prefix, accepted_read    an accepted text is read at the front of any lines, and alone
--     reads_exactly                the law
use Rattle.std.proofs.Common.{◌≡◌, ℕ, suc, ◌+◌, List, [], ◌∷◌, ◌++◌, length, refl, sym, ap, ◌∙◌, subst, append-nil}
use Rattle.std.specs.Prelude.{codes}
use Rattle.std.specs.declared.result.Result.TheVariants.{Ok}
use Rattle.std.specs.List.{AllZip}
use Rattle.ore_rational.specs.Field.{rationals}
use Rattle.ore_monomial.specs.declared.order.Order.{Order}
use Rattle.ore_monomial.specs.SignatureCode.{signature_of}
use Rattle.ore_text.specs.Names.{AreNames}
use Rattle.ore_rows.specs.Rows.{Row}
use Rattle.ore_problem.specs.declared.fault.ProblemReason.TheVariants as reason
use Rattle.ore_problem.specs.Lines.{Cursor, at_start, raw_lines, words}
use Rattle.ore_problem.specs.ProblemText.{order_word}
use Rattle.ore_problem.specs.Problems.{System, Read, Frame, accepted_where, found_or, are_words, line_due, header_after, order_named, order_after, is_matrix, Declarations, declarations_after, sizes_of, rows_after, end_after, prefix_of, ends_there, problem_of}
use Rattle.ore_algebra.specs.Results.{◌>>=◌}
use Rattle.ore_problem.specs.Accepted.{counted, LastCounts, AllDeclare, IsRow, Accepted}
use Rattle.ore_problem.specs.Laws.{IsReadExactly}
use Rattle.ore_problem.proofs.AcceptedLines.{GoesFrom, goes_same, cursor, arrived, stays, due, due_back, over, goes_over, goes_all}
use Rattle.ore_problem.proofs.AcceptedWords.{found, passed_test, same_words, order_words, order_of-words, AreSizes, sizes_of-words, size_words}
use Rattle.ore_algebra.proofs.ResultLaws.{bound, same_ok}
use Rattle.ore_problem.proofs.AcceptedDeclarations.{Found, declarations_back, declarations_due, same_frame}
use Rattle.ore_problem.proofs.AcceptedRows.{frame_of, rows_back, rows_due}

-- ---- the first two lines, and the last

abbrev pub header : List (List ℕ)
header = codes "ore" ∷ codes "1" ∷ []

header_back : (c d : Cursor) (ls : List (List ℕ)) (goal : Cursor) → header_after c ≡ Ok d → GoesFrom d ls goal → (l : List ℕ) × (words l ≡ header) × GoesFrom c (l ∷ ls) goal
unfolding header_after
header_back c d ls goal e g =
    let a = bound (line_due c) (λ x. accepted_where (are_words (words x.0) header) x.1 reason.Header x.1) d e in
    let t = passed_test (are_words (words a.0.0) header) a.0.1 reason.Header a.0.1 d a.2 in
    (a.0.0, same_words (words a.0.0) header t.0, due_back c a.0.0 a.0.1 ls goal a.1 (subst (λ (x : Cursor). GoesFrom x ls goal) (sym t.1) g))

header_due : (c : Cursor) (l : List ℕ) (ls : List (List ℕ)) (goal : Cursor) → words l ≡ header → GoesFrom c (l ∷ ls) goal → (d : Cursor) × (header_after c ≡ Ok d) × GoesFrom d ls goal
unfolding header_after
header_due c l ls goal w g = let a = due c l ls goal g in (a.0, rw (a.1, w) refl, a.2)

end_back : (c d : Cursor) (ls : List (List ℕ)) (goal : Cursor) → end_after c ≡ Ok d → GoesFrom d ls goal → (l : List ℕ) × (words l ≡ codes "end" ∷ []) × GoesFrom c (l ∷ ls) goal
unfolding end_after
end_back c d ls goal e g =
    let a = bound (line_due c) (λ x. accepted_where (are_words (words x.0) (codes "end" ∷ [])) x.1 reason.NoEnd x.1) d e in
    let t = passed_test (are_words (words a.0.0) (codes "end" ∷ [])) a.0.1 reason.NoEnd a.0.1 d a.2 in
    (a.0.0, same_words (words a.0.0) (codes "end" ∷ []) t.0, due_back c a.0.0 a.0.1 ls goal a.1 (subst (λ (x : Cursor). GoesFrom x ls goal) (sym t.1) g))

end_due : (c : Cursor) (l : List ℕ) (ls : List (List ℕ)) (goal : Cursor) → words l ≡ codes "end" ∷ [] → GoesFrom c (l ∷ ls) goal → (d : Cursor) × (end_after c ≡ Ok d) × GoesFrom d ls goal
unfolding end_after
end_due c l ls goal w g = let a = due c l ls goal g in (a.0, rw (a.1, w) refl, a.2)

order_back : (c : Cursor) (x : Order × Cursor) (ls : List (List ℕ)) (goal : Cursor) → order_after c ≡ Ok x → GoesFrom x.1 ls goal → (l : List ℕ) × (words l ≡ codes "order" ∷ order_word x.0 ∷ []) × GoesFrom c (l ∷ ls) goal
unfolding order_after
order_back c x ls goal e g =
    let a = bound (line_due c) (λ y. found_or (order_named (words y.0)) y.1.line reason.Header >>= λ o. Ok (o, y.1)) x e in
    let b = bound (found_or (order_named (words a.0.0)) a.0.1.line reason.Header) (λ o. Ok (o, a.0.1)) x a.2 in
    let same = same_ok (b.0, a.0.1) x b.2 in
    let o = found (order_named (words a.0.0)) a.0.1.line reason.Header b.0 b.1 in (
      a.0.0,
      order_words (words a.0.0) b.0 o ∙ ap (λ (y : Order × Cursor). codes "order" ∷ order_word y.0 ∷ []) same,
      due_back c a.0.0 a.0.1 ls goal a.1 (goes_same b.0 a.0.1 x ls goal same g),
    )

order_due : (c : Cursor) (l : List ℕ) (o : Order) (ls : List (List ℕ)) (goal : Cursor) → words l ≡ codes "order" ∷ order_word o ∷ [] → GoesFrom c (l ∷ ls) goal → (d : Cursor) × (order_after c ≡ Ok (o, d)) × GoesFrom d ls goal
unfolding order_after
order_due c l o ls goal w g = let a = due c l ls goal g in let k = ap order_named w ∙ order_of-words o in (a.0, rw (a.1, k) refl, a.2)

-- ---- a problem

-- from a cursor these lines lead to another, and they are those of a problem
pub record HasProblemLines (c : Cursor) (p : System) (goal : Cursor) : Type 0 where
  pub first : List ℕ
  pub order : List ℕ
  pub declarations : List (List ℕ)
  pub matrix : List ℕ
  pub rows : List (List ℕ)
  pub last : List ℕ
  pub goes : GoesFrom c (first ∷ order ∷ (declarations ++ matrix ∷ (rows ++ last ∷ []))) goal
  pub header_words : words first ≡ header
  pub order_words : words order ≡ codes "order" ∷ order_word p.signature.order ∷ []
  pub names : AreNames p.names
  pub declared : AllDeclare [] declarations p.names p.signature.kinds
  pub sizes : AreSizes (words matrix) (length p.rows, p.cols)
  pub entries : AllZip (IsRow p) rows p.rows
  pub last_words : words last ≡ codes "end" ∷ []

abbrev pub system : Frame → ℕ → List (Row rationals) → System
system f cols rows = record { names = f.names; signature = f.signature; cols = cols; rows = rows }

-- ---- what is read behind each line

abbrev pub end_read : Frame → ℕ → List (Row rationals) → Cursor → Read (System × Cursor)
end_read f cols rows c = end_after c >>= λ e. Ok (system f cols rows, e)

abbrev pub rows_read : Frame → ℕ × ℕ → Cursor → Read (System × Cursor)
rows_read f n c = rows_after f n.1 n.0 c >>= λ r. end_read f n.1 r.0 r.1

abbrev pub sizes_read : Declarations → Read (System × Cursor)
sizes_read d = sizes_of d.cursor.line d.sizes >>= λ n. rows_read d.frame n d.cursor

abbrev pub declarations_read : Order → Cursor → Read (System × Cursor)
declarations_read o c = declarations_after o c >>= sizes_read

abbrev pub order_read : Cursor → Read (System × Cursor)
order_read c = order_after c >>= λ o. declarations_read o.0 o.1

-- ---- a problem that is read

module _ (p : System) (goal : Cursor) where
  record RowsStand (f : Frame) (n : ℕ × ℕ) (c : Cursor) : Type 0 where
    values : List (Row rationals)
    rows : List (List ℕ)
    last : List ℕ
    same : system f n.1 values ≡ p
    count : length values ≡ n.0
    entries : AllZip (IsRow (system f n.1 values)) rows values
    last_words : words last ≡ codes "end" ∷ []
    goes : GoesFrom c (rows ++ last ∷ []) goal

  rows_stand : (f : Frame) (n : ℕ × ℕ) (c : Cursor) → rows_read f n c ≡ Ok (p, goal) → RowsStand f n c
  rows_stand f n c e =
      let a = bound (rows_after f n.1 n.0 c) (λ r. end_read f n.1 r.0 r.1) (p, goal) e in
      let b = bound (end_after a.0.1) (λ d. Ok (system f n.1 a.0.0, d)) (p, goal) a.2 in
      let same = same_ok (system f n.1 a.0.0, b.0) (p, goal) b.2 in
      let ended = end_back a.0.1 b.0 [] goal b.1 (goes_same (system f n.1 a.0.0) b.0 (p, goal) [] goal same (stays goal.line goal.used goal.left)) in
      let all = rows_back (system f n.1 []) n.0 c a.0 (ended.0 ∷ []) goal a.1 ended.2 in
      record {
        values = a.0.0;
        rows = all.0;
        last = ended.0;
        same = ap (λ (x : System × Cursor). x.0) {x = (system f n.1 a.0.0, b.0)} {y = (p, goal)} same;
        count = all.2;
        entries = all.1;
        last_words = ended.1;
        goes = all.3;
      }

  -- the lines behind the second
  record BodyStands (o : Order) (c : Cursor) (q : System) : Type 0 where
    declarations : List (List ℕ)
    matrix : List ℕ
    rows : List (List ℕ)
    last : List ℕ
    goes : GoesFrom c (declarations ++ matrix ∷ (rows ++ last ∷ [])) goal
    order_stays : q.signature.order ≡ o
    names : AreNames q.names
    declared : AllDeclare [] declarations q.names q.signature.kinds
    sizes : AreSizes (words matrix) (length q.rows, q.cols)
    entries : AllZip (IsRow q) rows q.rows
    last_words : words last ≡ codes "end" ∷ []

  body : (o : Order) (c : Cursor) (d : Declarations) (n : ℕ × ℕ) (r : RowsStand d.frame n d.cursor) → Found (record { names = []; signature = signature_of [] o }) d c.line c.used c.left (r.rows ++ r.last ∷ []) goal → AreSizes d.sizes n
      → BodyStands o c (system d.frame n.1 r.values)
  body o c d n r h z = record {
    declarations = h.lines;
    matrix = h.matrix;
    rows = r.rows;
    last = r.last;
    goes = h.goes;
    order_stays = h.grows.order_stays;
    names = h.are;
    declared = subst (λ ks. AllDeclare [] h.lines d.frame.names ks) (sym h.grows.kinds_grow) (subst (λ ns. AllDeclare [] h.lines ns h.kinds) (sym h.grows.names_grow) h.declared);
    sizes = subst (λ (m : ℕ × ℕ). AreSizes (words h.matrix) m) (λ i. (sym r.count i, n.1)) (subst (λ ws. AreSizes ws n) (sym h.sizes) z);
    entries = r.entries;
    last_words = r.last_words;
  }

  body_found : (o : Order) (c : Cursor) (d : Declarations) (n : ℕ × ℕ) → declarations_after o c ≡ Ok d → sizes_of d.cursor.line d.sizes ≡ Ok n → rows_read d.frame n d.cursor ≡ Ok (p, goal) → BodyStands o c p
  body_found o c d n e f g =
      let start : Frame = record { names = []; signature = signature_of [] o } in
      let r = rows_stand d.frame n d.cursor g in
      let h = declarations_back start c.line c.used c.left d (r.rows ++ r.last ∷ []) goal (record { form = tt; distinct = tt }) e r.goes in
      let z = size_words d.cursor.line d.sizes n (ap is_matrix (sym h.sizes) ∙ h.ends) f in
      subst (BodyStands o c) r.same (body o c d n r h z)

  body_stands : (o : Order) (c : Cursor) → declarations_read o c ≡ Ok (p, goal) → BodyStands o c p
  body_stands o c e =
      let a = bound (declarations_after o c) sizes_read (p, goal) e in
      let b = bound (sizes_of a.0.cursor.line a.0.sizes) (λ n. rows_read a.0.frame n a.0.cursor) (p, goal) a.2 in
      body_found o c a.0 b.0 a.1 b.1 b.2

  front_stands : (text : List ℕ) (c : Cursor) (o : Order × Cursor) → header_after (at_start text) ≡ Ok c → order_after c ≡ Ok o → BodyStands o.0 o.1 p → HasProblemLines (at_start text) p goal
  front_stands text c o e f rest =
      let lines = rest.declarations ++ rest.matrix ∷ (rest.rows ++ rest.last ∷ []) in
      let second = order_back c o lines goal f rest.goes in
      let first = header_back (at_start text) c (second.0 ∷ lines) goal e second.2 in
      record {
        first = first.0;
        order = second.0;
        declarations = rest.declarations;
        matrix = rest.matrix;
        rows = rest.rows;
        last = rest.last;
        goes = first.2;
        header_words = first.1;
        order_words = second.1 ∙ ap (λ x. codes "order" ∷ order_word x ∷ []) (sym rest.order_stays);
        names = rest.names;
        declared = rest.declared;
        sizes = rest.sizes;
        entries = rest.entries;
        last_words = rest.last_words;
      }

  pub prefix_stands : (text : List ℕ) → prefix_of text ≡ Ok (p, goal) → HasProblemLines (at_start text) p goal
  unfolding prefix_of
  prefix_stands text e =
      let a = bound (header_after (at_start text)) order_read (p, goal) e in
      let b = bound (order_after a.0) (λ o. declarations_read o.0 o.1) (p, goal) a.2 in
      front_stands text a.0 b.0 a.1 b.1 (body_stands b.0.0 b.0.1 b.2)

  -- ---- and back

  rows_go : (f : Frame) (n : ℕ × ℕ) (c : Cursor) (rows : List (List ℕ)) (last : List ℕ) → f ≡ frame_of p → n ≡ (length p.rows, p.cols) → AllZip (IsRow p) rows p.rows → words last ≡ codes "end" ∷ [] → GoesFrom c (rows ++ last ∷ []) goal
      → rows_read f n c ≡ Ok (p, goal)
  rows_go f n c rows last e h z w g =
      let a = rows_due p (length p.rows) c rows p.rows (last ∷ []) goal z refl g in
      let b = end_due a.0 last [] goal w a.2 in
      (λ i. rows_read (e i) (h i) c)
      ∙ ap (λ r. r >>= λ x. end_read (frame_of p) p.cols x.0 x.1) a.1
      ∙ ap (λ r. r >>= λ x. Ok (p, x)) b.1
      ∙ ap (λ x. Ok (p, x)) (arrived b.0 goal b.2)

  sizes_go : (d : Declarations) (rows : List (List ℕ)) (last : List ℕ) → d.frame ≡ frame_of p → AreSizes d.sizes (length p.rows, p.cols) → AllZip (IsRow p) rows p.rows → words last ≡ codes "end" ∷ [] → GoesFrom d.cursor (rows ++ last ∷ []) goal
      → sizes_read d ≡ Ok (p, goal)
  sizes_go d rows last e h z w g =
      ap (λ r. r >>= λ n. rows_read d.frame n d.cursor) (sizes_of-words d.cursor.line d.sizes (length p.rows, p.cols) h)
      ∙ rows_go d.frame (length p.rows, p.cols) d.cursor rows last e refl z w g

  declarations_go : (c : Cursor) (lines : List (List ℕ)) (matrix : List ℕ) (rows : List (List ℕ)) (last : List ℕ) → AreNames p.names → AllDeclare [] lines p.names p.signature.kinds → AreSizes (words matrix) (length p.rows, p.cols)
      → AllZip (IsRow p) rows p.rows → words last ≡ codes "end" ∷ [] → GoesFrom c (lines ++ matrix ∷ (rows ++ last ∷ [])) goal → declarations_read p.signature.order c ≡ Ok (p, goal)
  declarations_go c lines matrix rows last a d h z w g =
      let start : Frame = record { names = []; signature = signature_of [] p.signature.order } in
      let m = ap is_matrix h.spelled in
      let b = declarations_due start c.line c.used c.left lines matrix p.names p.signature.kinds (rows ++ last ∷ []) goal a p.signature.accepted d m g in
      let same = same_frame b.frame (frame_of p) b.grows.names_grow b.grows.kinds_grow b.grows.order_stays in
      ap (λ r. r >>= sizes_read) b.reads
      ∙ sizes_go (record { frame = b.frame; sizes = words matrix; cursor = b.behind }) rows last same h z w b.goes

  pub stands_prefix : (text : List ℕ) → HasProblemLines (at_start text) p goal → prefix_of text ≡ Ok (p, goal)
  unfolding prefix_of
  stands_prefix text h =
      let body = h.declarations ++ h.matrix ∷ (h.rows ++ h.last ∷ []) in
      let a = header_due (at_start text) h.first (h.order ∷ body) goal h.header_words h.goes in
      let b = order_due a.0 h.order p.signature.order body goal h.order_words a.2 in
      ap (λ r. r >>= order_read) a.1
      ∙ ap (λ r. r >>= λ o. declarations_read o.0 o.1) b.1
      ∙ declarations_go b.0 h.declarations h.matrix h.rows h.last h.names h.declared h.sizes h.entries h.last_words b.2

-- ---- whole texts

accepted_stands : (text : List ℕ) (p : System) (rest : List (List ℕ)) (c : Cursor) → c.left ≡ raw_lines text ++ rest → Accepted text p → HasProblemLines c p (over c.line c.used (raw_lines text) rest)
accepted_stands text p rest c e h = record {
  first = h.header;
  order = h.order;
  declarations = h.declarations;
  matrix = h.matrix;
  rows = h.rows;
  last = h.last;
  goes = subst (λ ls. GoesFrom c ls (over c.line c.used (raw_lines text) rest)) h.lines
      (subst (λ left. GoesFrom (cursor c.line c.used left) (counted (raw_lines text)) (over c.line c.used (raw_lines text) rest)) (sym e) (goes_over c.line c.used (raw_lines text) rest h.none_behind));
  header_words = h.header_words;
  order_words = h.order_words;
  names = h.names;
  declared = h.declared;
  sizes = record { spelled = h.matrix_words; rows = h.row_count; cols = h.column_count };
  entries = h.entries;
  last_words = h.last_words;
}

-- what stands between two cursors is accepted as the text that has these lines
pub lines_accepted : (text : List ℕ) (p : System) (c goal : Cursor) (h : HasProblemLines c p goal) → counted (raw_lines text) ≡ h.first ∷ h.order ∷ (h.declarations ++ h.matrix ∷ (h.rows ++ h.last ∷ [])) → LastCounts (raw_lines text) → Accepted text p
lines_accepted text p c goal h lines last = record {
  header = h.first;
  order = h.order;
  declarations = h.declarations;
  matrix = h.matrix;
  rows = h.rows;
  last = h.last;
  lines = lines;
  none_behind = last;
  header_words = h.header_words;
  order_words = h.order_words;
  names = h.names;
  kinds = p.signature.accepted;
  declared = h.declared;
  matrix_words = h.sizes.spelled;
  row_count = h.sizes.rows;
  column_count = h.sizes.cols;
  entries = h.entries;
  last_words = h.last_words;
}

stands_accepted : (text : List ℕ) (p : System) (goal : Cursor) → goal.left ≡ [] → HasProblemLines (at_start text) p goal → Accepted text p
stands_accepted text p goal e h =
    let all = goes_all 0 0 (raw_lines text) (h.first ∷ h.order ∷ (h.declarations ++ h.matrix ∷ (h.rows ++ h.last ∷ []))) goal h.goes e in
    lines_accepted text p (at_start text) goal h all.0 all.1

-- an accepted text is read at the front of any lines
pub accepted_prefix : (text more : List ℕ) (p : System) (rest : List (List ℕ)) → raw_lines more ≡ raw_lines text ++ rest → Accepted text p → prefix_of more ≡ Ok (p, over 0 0 (raw_lines text) rest)
accepted_prefix text more p rest e h = stands_prefix p (over 0 0 (raw_lines text) rest) more (accepted_stands text p rest (at_start more) e h)

nothing_left : (line used : ℕ) (raws : List (List ℕ)) → (over line used raws []).left ≡ []
nothing_left line used [] = refl
nothing_left line used (raw ∷ raws) = nothing_left (suc line) (used + length raw) raws

ends_where : (p q : System) (c : Cursor) → ends_there p c c.left ≡ Ok q → (p ≡ q) × (c.left ≡ [])
ends_where p q c e = by c.left e
  where
    by : (left : List (List ℕ)) → ends_there p c left ≡ Ok q → (p ≡ q) × (left ≡ [])
    by [] e = (same_ok p q e, refl)
    by (raw ∷ left) e = cc

there_ends : (p : System) (c : Cursor) → c.left ≡ [] → ends_there p c c.left ≡ Ok p
there_ends p c e = ap (ends_there p c) e

pub accepted_read : (text : List ℕ) (p : System) → Accepted text p → problem_of text ≡ Ok p
unfolding problem_of
accepted_read text p h =
    let c = over 0 0 (raw_lines text) [] in
    ap (λ r. r >>= λ x. ends_there x.0 x.1 x.1.left) (accepted_prefix text text p [] (sym (append-nil (raw_lines text))) h)
    ∙ there_ends p c (nothing_left 0 0 (raw_lines text))

read_accepted : (text : List ℕ) (p : System) → problem_of text ≡ Ok p → Accepted text p
unfolding problem_of
read_accepted text p e =
    let a = bound (prefix_of text) (λ x. ends_there x.0 x.1 x.1.left) p e in
    let b = ends_where a.0.0 p a.0.1 a.2 in
    subst (Accepted text) b.0 (stands_accepted text a.0.0 a.0.1 b.1 (prefix_stands a.0.0 a.0.1 text a.1))

pub reads_exactly : IsReadExactly
reads_exactly text p = (read_accepted text p, accepted_read text p)
