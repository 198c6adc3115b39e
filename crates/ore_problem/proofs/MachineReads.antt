-- A text is read as its lines are, one after another.
--     comment_same             a line is a comment with its end where it is one without
--     contents                 the lines that are left, without their ends
--     Behind                   what is done with a problem and the cursor behind it closes the text
--     due_runs                 the line that is due is the next that is no comment
--     ended_runs, rows_run, declarations_run, order_runs, prefix_runs     from the last line to the first
use Rattle.std.proofs.Common.{arith, ◌≡◌, ℕ, zero, suc, ◌+◌, Bool, true, false, List, [], ◌∷◌, ◌++◌, length, map, refl, sym, ap, ◌∙◌, append_assoc, append-nil}
use Rattle.std.specs.Prelude.{if◌then◌else◌, codes, nat_eq, ◌&&◌, drop}
use Rattle.std.specs.declared.option.Option.{Option}
use Rattle.std.specs.declared.option.Option.TheVariants.{None, Some}
use Rattle.std.specs.declared.result.Result.TheVariants.{Ok, Err}
use Rattle.std.proofs.lemmas.Bool.Decides.{nat_tests}
use Rattle.ore_algebra.proofs.ResultLaws.{bind_assoc}
use Rattle.ore_rational.specs.Field.{rationals}
use Rattle.ore_monomial.specs.declared.order.Order.{Order}
use Rattle.ore_rows.specs.Rows.{Row}
use Rattle.ore_problem.specs.declared.fault.ProblemReason.TheVariants as reason
use Rattle.ore_problem.specs.Lines.{Cursor, at_start, raw_lines, is_line_end, content, is_comment, words}
use Rattle.ore_problem.specs.Problems.{System, Read, Frame, Declarations, found_or, accepted_where, line_due, are_words, header_after, order_named, order_after, is_matrix, declared_frame, declarations_of, sizes_of, is_row, row_entries, row_after, rows_after, end_after, prefix_of}
use Rattle.ore_algebra.specs.Results.{◌>>=◌}
use Rattle.ore_problem.proofs.AcceptedLines.{cursor}
use Rattle.ore_problem.proofs.AcceptedReads.{header, system, end_read, rows_read, sizes_read, declarations_read, order_read}
use Rattle.ore_problem.proofs.LineLemmas.{line_due-comment, line_due-line, line_due_none}
use Rattle.ore_problem.proofs.LineMachine.{Need, First, Second, Declaring, InRows, Due, no_names, ended_read, row_read, header_read, declaring_read, step, Closing, run}

-- ---- lines

first_is_end : (b : ℕ) (bs : List ℕ) → is_line_end (b ∷ bs) ≡ true → nat_eq b 35 ≡ false
first_is_end b [] e = grind (arith, nat_tests)
first_is_end b (c ∷ []) e = by (nat_eq b 13) refl e
  where
    by : (t : Bool) → nat_eq b 13 ≡ t → (t && nat_eq c 10) ≡ true → nat_eq b 35 ≡ false
    by true t e = grind (arith, nat_tests)
    by false t e = cc
first_is_end b (c ∷ d ∷ bs) e = cc

comment_same : (raw : List ℕ) → is_comment (content raw) ≡ is_comment raw
unfolding content
comment_same [] = refl
comment_same (b ∷ bs) = by (is_line_end (b ∷ bs)) refl
  where
    by : (t : Bool) → is_line_end (b ∷ bs) ≡ t → is_comment (if t then [] else b ∷ content bs) ≡ nat_eq b 35
    by true t = sym (first_is_end b bs t)
    by false t = refl

abbrev contents : Cursor → List (List ℕ)
contents c = map content c.left

module _ (K : Closing) (behind : System × Cursor → Read System) (Behind : (p : System) (c : Cursor) → behind (p, c) ≡ K.closes p c.line (contents c)) where
  abbrev Runs : Need → Cursor → Read System → Type 0
  Runs s c r = r ≡ run K (Due s) c.line (contents c)

  -- the step of a stage, and what is read behind it
  abbrev stepped : Need → ℕ → List ℕ → List (List ℕ) → Read System
  stepped s line x ls = step s line x >>= λ t. run K t line ls

  due_by : (s : Need) (G : List ℕ × Cursor → Read System) → ((x : List ℕ) (d : Cursor) → G (x, d) ≡ stepped s d.line x (contents d)) → (line used : ℕ) (left : List (List ℕ)) → (line_due (cursor line used left) >>= G) ≡ run K (Due s) line (map content left)
  due_by s G h line used [] = ap (λ r. r >>= G) (line_due_none line used)
  due_by s G h line used (raw ∷ left) = by (is_comment raw) refl (due_by s G h (suc line) (used + length raw) left)
    where
      by : (t : Bool) → is_comment raw ≡ t → (line_due (cursor (suc line) (used + length raw) left) >>= G) ≡ run K (Due s) (suc line) (map content left)
          → (line_due (cursor line used (raw ∷ left)) >>= G) ≡ run K (Due s) line (content raw ∷ map content left)
      by true t more =
          ap (λ r. r >>= G) (line_due-comment line used raw left t)
          ∙ more
          ∙ sym (ap (λ c. if c then run K (Due s) (suc line) (map content left) else stepped s (suc line) (content raw) (map content left)) (comment_same raw ∙ t))
      by false t more =
          ap (λ r. r >>= G) (line_due-line line used raw left t)
          ∙ h (content raw) (cursor (suc line) (used + length raw) left)
          ∙ sym (ap (λ c. if c then run K (Due s) (suc line) (map content left) else stepped s (suc line) (content raw) (map content left)) (comment_same raw ∙ t))

  due_runs : (s : Need) (G : List ℕ × Cursor → Read System) → ((x : List ℕ) (d : Cursor) → G (x, d) ≡ stepped s d.line x (contents d)) → (c : Cursor) → Runs s c (line_due c >>= G)
  due_runs s G h c = due_by s G h c.line c.used c.left

  -- ---- the last line

  ended_runs : (f : Frame) (cols : ℕ) (rows : List (Row rationals)) (c : Cursor) → Runs (InRows f cols 0 rows) c (end_read f cols rows c >>= behind)
  unfolding end_after
  ended_runs f cols rows c =
      bind_assoc (end_after c) (λ e. Ok (system f cols rows, e)) behind
      ∙ bind_assoc (line_due c) (λ x. accepted_where (are_words (words x.0) (codes "end" ∷ [])) x.1 reason.NoEnd x.1) (λ e. behind (system f cols rows, e))
      ∙ due_runs (InRows f cols 0 rows) (λ x. accepted_where (are_words (words x.0) (codes "end" ∷ [])) x.1 reason.NoEnd x.1 >>= λ e. behind (system f cols rows, e)) (λ x d. by (are_words (words x) (codes "end" ∷ [])) d) c
    where
      by : (b : Bool) (d : Cursor) → (accepted_where b d reason.NoEnd d >>= λ e. behind (system f cols rows, e)) ≡ (ended_read b f cols rows d.line >>= λ t. run K t d.line (contents d))
      by true d = Behind (system f cols rows) d
      by false d = refl

  -- ---- rows

  abbrev rows_then : Frame → ℕ → List (Row rationals) → List (Row rationals) × Cursor → Read System
  rows_then f cols rows r = end_read f cols (rows ++ r.0) r.1 >>= behind

  abbrev with_cursor : {A : Type 0} → Cursor → A → Read (A × Cursor)
  with_cursor c x = Ok (x, c)

  abbrev row_found : Frame → ℕ → List ℕ × Cursor → Read (Row rationals × Cursor)
  row_found f cols x = accepted_where (is_row x.0) x.1 reason.BadRow (drop 3 x.0) >>= λ rest. row_entries f cols x.1.line rest >>= λ r. Ok (r, x.1)

  abbrev rows_found : Frame → ℕ → ℕ → Row rationals × Cursor → Read (List (Row rationals) × Cursor)
  rows_found f cols n r = rows_after f cols n r.1 >>= λ rs. Ok (r.0 ∷ rs.0, rs.1)

  abbrev found_then : Frame → ℕ → ℕ → List (Row rationals) → Row rationals × Cursor → Read System
  found_then f cols n rows r = rows_found f cols n r >>= rows_then f cols rows

  -- what is read behind a row
  row_then : (f : Frame) (cols n : ℕ) (rows : List (Row rationals)) (r : Row rationals) (d : Cursor) → Runs (InRows f cols n (rows ++ r ∷ [])) d (rows_after f cols n d >>= rows_then f cols (rows ++ r ∷ []))
      → (rows_after f cols n d >>= λ rs. rows_then f cols rows (r ∷ rs.0, rs.1)) ≡ run K (Due (InRows f cols n (rows ++ r ∷ []))) d.line (contents d)
  row_then f cols n rows r d h = (λ i. rows_after f cols n d >>= λ rs. end_read f cols (sym (append_assoc rows (r ∷ []) rs.0) i) rs.1 >>= behind) ∙ h

  rows_run : (f : Frame) (cols n : ℕ) (rows : List (Row rationals)) (c : Cursor) → Runs (InRows f cols n rows) c (rows_after f cols n c >>= rows_then f cols rows)
  unfolding rows_after row_after
  rows_run f cols zero rows c = ap (λ rs. end_read f cols rs c >>= behind) (append-nil rows) ∙ ended_runs f cols rows c
  rows_run f cols (suc n) rows c =
      bind_assoc (row_after f cols c) (rows_found f cols n) (rows_then f cols rows)
      ∙ bind_assoc (line_due c) (row_found f cols) (found_then f cols n rows)
      ∙ due_runs (InRows f cols (suc n) rows) (λ x. row_found f cols x >>= found_then f cols n rows) (λ x d. by (is_row x) (drop 3 x) d (λ r. rows_run f cols n (rows ++ r ∷ []) d)) c
    where
      entries : (e : Read (Row rationals)) (d : Cursor) → ((r : Row rationals) → Runs (InRows f cols n (rows ++ r ∷ [])) d (rows_after f cols n d >>= rows_then f cols (rows ++ r ∷ [])))
          → ((e >>= λ r. with_cursor d r) >>= found_then f cols n rows) ≡ ((e >>= λ r. Ok (Due (InRows f cols n (rows ++ r ∷ [])))) >>= λ t. run K t d.line (contents d))
      entries (Ok r) d more = bind_assoc (rows_after f cols n d) (λ rs. Ok (r ∷ rs.0, rs.1)) (rows_then f cols rows) ∙ row_then f cols n rows r d (more r)
      entries (Err g) d more = refl

      by : (b : Bool) (rest : List ℕ) (d : Cursor) → ((r : Row rationals) → Runs (InRows f cols n (rows ++ r ∷ [])) d (rows_after f cols n d >>= rows_then f cols (rows ++ r ∷ [])))
          → ((accepted_where b d reason.BadRow rest >>= λ rest. row_entries f cols d.line rest >>= λ r. with_cursor d r) >>= found_then f cols n rows)
          ≡ (row_read b f cols n rows d.line rest >>= λ t. run K t d.line (contents d))
      by true rest d more = entries (row_entries f cols d.line rest) d more
      by false rest d more = refl

  -- ---- declarations

  sizes_run : (f : Frame) (line used : ℕ) (left : List (List ℕ)) (ws : List (List ℕ)) → (sizes_read (record { frame = f; sizes = ws; cursor = cursor line used left }) >>= behind) ≡ (declaring_read true f line ws >>= λ t. run K t line (map content left))
  sizes_run f line used left ws = by (sizes_of line ws)
    where
      by : (r : Read (ℕ × ℕ)) → ((r >>= λ n. rows_read f n (cursor line used left)) >>= behind) ≡ ((r >>= λ n. Ok (Due (InRows f n.1 n.0 []))) >>= λ t. run K t line (map content left))
      by (Ok n) = bind_assoc (rows_after f n.1 n.0 (cursor line used left)) (λ r. end_read f n.1 r.0 r.1) behind ∙ rows_run f n.1 n.0 [] (cursor line used left)
      by (Err g) = refl

  abbrev declared_then : Declarations → Read System
  declared_then d = sizes_read d >>= behind

  declarations_run : (f : Frame) (line used : ℕ) (left : List (List ℕ)) → (declarations_of f line used left >>= λ d. sizes_read d >>= behind) ≡ run K (Due (Declaring f)) line (map content left)
  unfolding declarations_of
  declarations_run f line used [] = refl
  declarations_run f line used (raw ∷ left) = by (is_comment raw) refl (λ g. declarations_run g (suc line) (used + length raw) left)
    where
      declared : (r : Read Frame) → ((g : Frame) → (declarations_of g (suc line) (used + length raw) left >>= declared_then) ≡ run K (Due (Declaring g)) (suc line) (map content left))
          → ((r >>= λ g. declarations_of g (suc line) (used + length raw) left) >>= declared_then) ≡ ((r >>= λ g. Ok (Due (Declaring g))) >>= λ t. run K t (suc line) (map content left))
      declared (Ok g) more = more g
      declared (Err e) more = refl

      line_run : (m : Bool) → ((g : Frame) → (declarations_of g (suc line) (used + length raw) left >>= declared_then) ≡ run K (Due (Declaring g)) (suc line) (map content left))
          → ((if m then Ok (record { frame = f; sizes = words (content raw); cursor = cursor (suc line) (used + length raw) left }) else (declared_frame f (suc line) (words (content raw)) >>= λ g. declarations_of g (suc line) (used + length raw) left)) >>= declared_then)
          ≡ (declaring_read m f (suc line) (words (content raw)) >>= λ t. run K t (suc line) (map content left))
      line_run true more = sizes_run f (suc line) (used + length raw) left (words (content raw))
      line_run false more = declared (declared_frame f (suc line) (words (content raw))) more

      by : (t : Bool) → is_comment raw ≡ t → ((g : Frame) → (declarations_of g (suc line) (used + length raw) left >>= declared_then) ≡ run K (Due (Declaring g)) (suc line) (map content left))
          → ((if t then declarations_of f (suc line) (used + length raw) left
          else if is_matrix (words (content raw)) then Ok (record { frame = f; sizes = words (content raw); cursor = cursor (suc line) (used + length raw) left })
          else (declared_frame f (suc line) (words (content raw)) >>= λ g. declarations_of g (suc line) (used + length raw) left)) >>= declared_then)
          ≡ run K (Due (Declaring f)) line (content raw ∷ map content left)
      by true t more = more f ∙ sym (ap (λ c. if c then run K (Due (Declaring f)) (suc line) (map content left) else stepped (Declaring f) (suc line) (content raw) (map content left)) (comment_same raw ∙ t))
      by false t more =
          line_run (is_matrix (words (content raw))) more
          ∙ sym (ap (λ c. if c then run K (Due (Declaring f)) (suc line) (map content left) else stepped (Declaring f) (suc line) (content raw) (map content left)) (comment_same raw ∙ t))

  -- ---- the first two lines

  abbrev order_found : List ℕ × Cursor → Read (Order × Cursor)
  order_found x = found_or (order_named (words x.0)) x.1.line reason.Header >>= λ o. Ok (o, x.1)

  abbrev order_then : Order × Cursor → Read System
  order_then o = declarations_read o.0 o.1 >>= behind

  order_runs : (c : Cursor) → Runs Second c (order_read c >>= behind)
  unfolding order_after
  order_runs c =
      bind_assoc (order_after c) (λ o. declarations_read o.0 o.1) behind
      ∙ bind_assoc (line_due c) order_found order_then
      ∙ due_runs Second (λ x. order_found x >>= order_then) (λ x d. by (order_named (words x)) d) c
    where
      by : (o : Option Order) (d : Cursor) → ((found_or o d.line reason.Header >>= λ o. with_cursor d o) >>= order_then) ≡ ((found_or o d.line reason.Header >>= λ o. Ok (Due (Declaring (no_names o)))) >>= λ t. run K t d.line (contents d))
      by None d = refl
      by (Some o) d = bind_assoc (declarations_of (no_names o) d.line d.used d.left) sizes_read behind ∙ declarations_run (no_names o) d.line d.used d.left

  header_runs : (c : Cursor) → Runs First c ((header_after c >>= order_read) >>= behind)
  unfolding header_after
  header_runs c =
      bind_assoc (header_after c) order_read behind
      ∙ bind_assoc (line_due c) (λ x. accepted_where (are_words (words x.0) header) x.1 reason.Header x.1) (λ d. order_read d >>= behind)
      ∙ due_runs First (λ x. accepted_where (are_words (words x.0) header) x.1 reason.Header x.1 >>= λ d. order_read d >>= behind) (λ x d. by (are_words (words x) header) d) c
    where
      by : (b : Bool) (d : Cursor) → (accepted_where b d reason.Header d >>= λ d. order_read d >>= behind) ≡ (header_read b d.line >>= λ t. run K t d.line (contents d))
      by true d = order_runs d
      by false d = refl

  pub prefix_runs : (text : List ℕ) → (prefix_of text >>= behind) ≡ run K (Due First) 0 (map content (raw_lines text))
  unfolding prefix_of
  prefix_runs text = header_runs (at_start text)
