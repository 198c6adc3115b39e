-- The layout of a certificate counts the lines of its text.
--     Spans                      a text goes on from the begin of one line to the begin of another
--     spans_none, spans_append, spans_line     no text; two texts; a line
--     matrix_spans, row_spans    a matrix; a row as a matrix of one row
--     steps_span, quotients_span, entry_spans, entries_span, pairs_span      steps, a pair, pairs without their number and with it
--     exact_spans, outside_spans, link_spans, links_span     blocks and links
--     kind_is_line               the line of the kind
--     generated_spans, unit_spans, rest_spans     what stands between it and the last line
--     end_is_last                the last line is that of the end
use Rattle.std.proofs.Common.{◌≡◌, ℕ, suc, ◌+◌, List, [], ◌∷◌, ◌++◌, length, refl, ◌∙◌, arith}
use Rattle.std.specs.Prelude.{codes, decimal}
use Rattle.std.specs.List.{All, flat_map}
use Rattle.std.proofs.lemmas.List.{length-map}
use Rattle.std.proofs.lemmas.List.Elements.{All-head, All-tail}
use Rattle.ore_rational.specs.Field.{rationals}
use Rattle.ore_monomial.specs.Signature.{Signature}
use Rattle.ore_ring.specs.Ordered.{Ordered}
use Rattle.ore_rows.specs.Reduction.{Step}
use Rattle.ore_rows.specs.Stored.{OperatorMatrix, sums_of, rows_of}
use Rattle.ore_text.specs.Names.{AreNames}
use Rattle.ore_parts.specs.Lines.{LacksByte, IsLine}
use Rattle.ore_parts.specs.Formats.{line_count}
use Rattle.ore_text.specs.Lines.{line}
use Rattle.ore_parts.specs.BlockText.{place, step_text, entry_text, pairs_text, steps_text, matrix_part, row_part, exact_text, outside_text, IsWrittenStep, IsWrittenSteps, IsWrittenEntry, IsWrittenPairs, IsWrittenExact, IsWrittenOutside, is_place}
use Rattle.ore_parts.specs.PartFormats.{step_words, entry_words}
use Rattle.ore_parts.specs.declared.pairs.EntryLine.TheVariants.{PairLine, SkipLine}
use Rattle.ore_parts.specs.declared.block.PairEntry.{PairEntry}
use Rattle.ore_parts.specs.declared.block.PairEntry.TheVariants.{Pair, Skip}
use Rattle.ore_parts.specs.declared.block.ExactBlock.{ExactBlock}
use Rattle.ore_parts.specs.declared.block.OutsideBlock.{OutsideBlock}
use Rattle.ore_parts.specs.declared.block.Link.{Link}
use Rattle.ore_parts.proofs.FaultyLines.{IsWhole, whole_none, whole_line, whole_append}
use Rattle.ore_parts.proofs.FormatLaws.{line_count-whole}
use Rattle.ore_parts.proofs.MatrixTexts.{whole_matrix}
use Rattle.ore_parts.proofs.PartLaws.{count_line, entry_line, step_line}
use Rattle.ore_parts.proofs.BlockLaws as heads
use Rattle.ore_cert.specs.declared.certificate.Side.TheVariants.{Left, Right}
use Rattle.ore_cert.specs.declared.certificate.Certificate.{Certificate}
use Rattle.ore_cert.specs.declared.certificate.Certificate.TheVariants.{Controllable, AutonomousElement, LeftInverse, RightInverse, NoLeftInverse, NoRightInverse, Kernel, Resolution, ExtZero, ExtNonzero, Halted}
use Rattle.ore_cert.specs.declared.kind.Kind.TheVariants as kind
use Rattle.ore_cert.specs.KindWords.{kind_words}
use Rattle.ore_cert.specs.WholeFormats.{operator_words}
use Rattle.ore_cert.specs.WholeText.{kind_text, link_text, operator_line, rest_text, certificate_text, IsWrittenLink, IsWrittenCertificate}
use Rattle.ore_cert.proofs.KindLaws.{kind_line}
use Rattle.ore_cert.proofs.WholeLaws.{unit_words_are, operator_words_are}
use Rattle.ore_blocks.specs.declared.place.Place.TheVariants.{End}
use Rattle.ore_check.specs.Check.{IsNoReport}
use Rattle.ore_check.specs.Layout.{entry_lines, lines_before, line_behind, exact_layout, outside_layout, link_layout, behind_links, line_in}

-- as many whole lines as lie between
abbrev pub Spans : List ℕ → ℕ → ℕ → Type 0
Spans text a b = (n : ℕ) × IsWhole n text × (a + n ≡ b)

spans_none : (a : ℕ) → Spans [] a a
spans_none a = (0, whole_none, omega arith)

spans_append : (p q : List ℕ) (a b c : ℕ) → Spans p a b → Spans q b c → Spans (p ++ q) a c
spans_append p q a b c (m, v, e) (n, w, f) = (m + n, whole_append m n p q v w, omega arith)

pub spans_line : (words : List ℕ) (a : ℕ) → LacksByte 10 words → Spans (words ++ 10 ∷ []) a (suc a)
spans_line words a h = (1, whole_line (words ++ 10 ∷ []) (words, h, refl), omega arith)

module _ (s : Signature) (names : List (List ℕ)) (are : AreNames names) (fit : length names ≡ length s.kinds) where
  pub matrix_spans : (name : List ℕ) (m : OperatorMatrix) (a : ℕ) → LacksByte 10 name → Spans (matrix_part names s.order name m) a (line_behind a m)
  matrix_spans name m a h = (1 + length (rows_of m), whole_matrix name names s.order are h m.cols (rows_of m), (let e = length-map m.rows sums_of in omega arith))

  pub row_spans : (name : List ℕ) (r : List Ordered) (a : ℕ) → LacksByte 10 name → Spans (row_part names s.order name r) a (a + 2)
  row_spans name r a h = (2, whole_matrix name names s.order are h (length r) (sums_of r ∷ []), refl)

  -- ---- pairs

  steps_span : (steps : List (Step rationals)) (a : ℕ) → All (IsWrittenStep s names) steps → Spans (flat_map (step_text names s.order) steps) a (a + length steps)
  steps_span [] a h = (0, whole_none, refl)
  steps_span (t ∷ steps) a h =
      let rest = steps_span steps (suc a) (All-tail (IsWrittenStep s names) t steps h) in
      let first = spans_line (step_words names s.order t) a ((step_line s names are fit).lacks t (All-head (IsWrittenStep s names) t steps h)) in
      spans_append (step_text names s.order t) (flat_map (step_text names s.order) steps) a (suc a) (a + suc (length steps)) first (rest.0, rest.1, (let e = rest.2 in omega arith))

  entry_spans : (e : PairEntry) (a : ℕ) → IsWrittenEntry s names e → Spans (entry_text names s.order e) a (a + entry_lines e)
  unfolding entry_lines
  entry_spans (Pair i j steps) a h =
      let first = spans_line (entry_words (PairLine i j (length steps))) a (entry_line.lacks (PairLine i j (length steps)) (h.0, h.1, h.2.few)) in
      let rest = steps_span steps (suc a) h.2.all in
      spans_append (entry_words (PairLine i j (length steps)) ++ 10 ∷ []) (flat_map (step_text names s.order) steps) a (suc a) (a + suc (length steps)) first (rest.0, rest.1, (let e = rest.2 in omega arith))
  entry_spans (Skip i j via) a h = (1, whole_line (entry_words (SkipLine i j via) ++ 10 ∷ []) (entry_words (SkipLine i j via), entry_line.lacks (SkipLine i j via) h, refl), refl)

  entries_span : (es : List PairEntry) (a : ℕ) → All (IsWrittenEntry s names) es → Spans (flat_map (entry_text names s.order) es) a (a + lines_before es (length es))
  unfolding lines_before
  entries_span [] a h = (0, whole_none, refl)
  entries_span (e ∷ es) a h =
      let first = entry_spans e a (All-head (IsWrittenEntry s names) e es h) in
      let rest = entries_span es (a + entry_lines e) (All-tail (IsWrittenEntry s names) e es h) in
      spans_append (entry_text names s.order e) (flat_map (entry_text names s.order) es) a (a + entry_lines e) (a + (entry_lines e + lines_before es (length es))) first (rest.0, rest.1, (let e = rest.2 in omega arith))

  pub pairs_span : (es : List PairEntry) (a : ℕ) → IsWrittenPairs s names es → Spans (pairs_text names s.order es) a (a + suc (lines_before es (length es)))
  pairs_span es a h =
      let first = spans_line (codes "pairs" ++ 32 ∷ decimal (length es)) a ((count_line (codes "pairs") refl).lacks (length es) h.few) in
      let rest = entries_span es (suc a) h.all in
      spans_append (line (codes "pairs" ∷ decimal (length es) ∷ [])) (flat_map (entry_text names s.order) es) a (suc a) (a + suc (lines_before es (length es))) first (rest.0, rest.1, (let e = rest.2 in omega arith))

  pub quotients_span : (steps : List (Step rationals)) (a : ℕ) → IsWrittenSteps s names steps → Spans (steps_text names s.order steps) a (a + suc (length steps))
  quotients_span steps a h =
      let first = spans_line (codes "steps" ++ 32 ∷ decimal (length steps)) a ((count_line (codes "steps") refl).lacks (length steps) h.few) in
      let rest = steps_span steps (suc a) h.all in
      spans_append (line (codes "steps" ∷ decimal (length steps) ∷ [])) (flat_map (step_text names s.order) steps) a (suc a) (a + suc (length steps)) first (rest.0, rest.1, (let e = rest.2 in omega arith))

  -- ---- blocks

  exact_spans : (claim a : ℕ) (b : ExactBlock) → IsWrittenExact s names b → Spans (exact_text names s.order b) a (exact_layout claim a b).end
  exact_spans claim a b h =
      let l = exact_layout claim a b in
      spans_append heads.exact_head _ a (suc a) l.end (spans_line (codes "block exact") a refl)
      (spans_append (matrix_part names s.order (codes "basis") b.basis) _ (suc a) l.from l.end (matrix_spans (codes "basis") b.basis (suc a) refl)
      (spans_append (matrix_part names s.order (codes "from") b.from) _ l.from l.to l.end (matrix_spans (codes "from") b.from l.from refl)
      (spans_append (matrix_part names s.order (codes "to") b.to) _ l.to l.pairs l.end (matrix_spans (codes "to") b.to l.to refl)
      (spans_append (pairs_text names s.order b.pairs) _ l.pairs l.inside l.end (pairs_span b.pairs l.pairs h.pairs)
      (matrix_spans (codes "inside") b.inside l.inside refl)))))

  outside_spans : (claim a : ℕ) (b : OutsideBlock) → IsWrittenOutside s names b → Spans (outside_text names s.order b) a (outside_layout claim a b).end
  outside_spans claim a b h =
      let l = outside_layout claim a b in
      spans_append heads.outside_head _ a (suc a) l.end (spans_line (codes "block outside") a refl)
      (spans_append (matrix_part names s.order (codes "basis") b.basis) _ (suc a) l.from l.end (matrix_spans (codes "basis") b.basis (suc a) refl)
      (spans_append (matrix_part names s.order (codes "from") b.from) _ l.from l.pairs l.end (matrix_spans (codes "from") b.from l.from refl)
      (spans_append (pairs_text names s.order b.pairs) _ l.pairs l.steps l.end (pairs_span b.pairs l.pairs h.pairs)
      (spans_append (steps_text names s.order b.quotients) _ l.steps l.rest l.end (quotients_span b.quotients l.steps h.quotients)
      (row_spans (codes "rest") b.rest l.rest refl)))))

  link_spans : (k : Link) (a : ℕ) → IsWrittenLink s names k → Spans (link_text names s.order k) a (link_layout a k).end
  link_spans k a h = spans_append (matrix_part names s.order (codes "L") k.l) (exact_text names s.order k.block) a (line_behind a k.l) (link_layout a k).end (matrix_spans (codes "L") k.l a refl) (exact_spans a (line_behind a k.l) k.block h.block)

  links_span : (ks : List Link) (a : ℕ) → All (IsWrittenLink s names) ks → Spans (flat_map (link_text names s.order) ks) a (behind_links a ks)
  unfolding behind_links
  links_span [] a h = spans_none a
  links_span (k ∷ ks) a h =
      spans_append (link_text names s.order k) (flat_map (link_text names s.order) ks) a (link_layout a k).end (behind_links (link_layout a k).end ks)
      (link_spans k a (All-head (IsWrittenLink s names) k ks h))
      (links_span ks (link_layout a k).end (All-tail (IsWrittenLink s names) k ks h))

  -- ---- certificates

  kind_is_line : (c : Certificate) → IsWrittenCertificate s names c → IsNoReport c → IsLine (kind_text c)
  kind_is_line (Controllable q block) h claims = (codes "controllable", refl, refl)
  kind_is_line (AutonomousElement element operator cofactor block) h claims = (codes "autonomous-element", refl, refl)
  kind_is_line (LeftInverse m) h claims = (codes "left-inverse", refl, refl)
  kind_is_line (RightInverse m) h claims = (codes "right-inverse", refl, refl)
  kind_is_line (NoLeftInverse unit block) h claims = (codes "no-left-inverse", refl, refl)
  kind_is_line (NoRightInverse unit block) h claims = (codes "no-right-inverse", refl, refl)
  kind_is_line (Kernel Left generators block) h claims = (codes "kernel left", refl, refl)
  kind_is_line (Kernel Right generators block) h claims = (codes "kernel right", refl, refl)
  kind_is_line (Resolution links) h claims = (kind_words (kind.Resolution (length links)), kind_line.lacks (kind.Resolution (length links)) h.count, refl)
  kind_is_line (ExtZero links block) h claims = (kind_words (kind.ExtZero (length links)), kind_line.lacks (kind.ExtZero (length links)) h.0.count, refl)
  kind_is_line (ExtNonzero links element block) h claims = (kind_words (kind.ExtNonzero (length links)), kind_line.lacks (kind.ExtNonzero (length links)) h.0.count, refl)
  kind_is_line (Halted report) h claims = absurd claims

  generated_spans : (name : List ℕ) (m : OperatorMatrix) (block : ExactBlock) → LacksByte 10 name → IsWrittenExact s names block
      → Spans (matrix_part names s.order name m ++ exact_text names s.order block) 3 (exact_layout 3 (line_behind 3 m) block).end
  generated_spans name m block named h = spans_append (matrix_part names s.order name m) (exact_text names s.order block) 3 (line_behind 3 m) (exact_layout 3 (line_behind 3 m) block).end (matrix_spans name m 3 named) (exact_spans 3 (line_behind 3 m) block h)

  unit_spans : (unit : ℕ) (block : OutsideBlock) → is_place unit → IsWrittenOutside s names block
      → Spans (line (codes "unit" ∷ place unit ∷ []) ++ outside_text names s.order block) 3 (outside_layout 3 4 block).end
  unit_spans unit block u h = spans_append (line (codes "unit" ∷ place unit ∷ [])) (outside_text names s.order block) 3 4 (outside_layout 3 4 block).end (spans_line (codes "unit " ++ place unit) 3 (unit_words_are.lacks unit u)) (outside_spans 3 4 block h)

  rest_spans : (c : Certificate) → IsWrittenCertificate s names c → IsNoReport c → Spans (rest_text names s.order c) 3 (line_in c End)
  rest_spans (Controllable q block) h claims = generated_spans (codes "Q") q block refl h.1
  rest_spans (AutonomousElement element operator cofactor block) h claims =
      let end = (outside_layout 3 8 block).end in
      spans_append (row_part names s.order (codes "element") element) _ 3 5 end (row_spans (codes "element") element 3 refl)
      (spans_append (operator_line names s.order (codes "operator") operator) _ 5 6 end (spans_line (operator_words s names (codes "operator") operator) 5 ((operator_words_are s names are fit (codes "operator") refl).lacks operator h.1))
      (spans_append (row_part names s.order (codes "cofactor") cofactor) _ 6 8 end (row_spans (codes "cofactor") cofactor 6 refl)
      (outside_spans 3 8 block h.3)))
  rest_spans (LeftInverse m) h claims = matrix_spans (codes "S") m 3 refl
  rest_spans (RightInverse m) h claims = matrix_spans (codes "S") m 3 refl
  rest_spans (NoLeftInverse unit block) h claims = unit_spans unit block h.0 h.1
  rest_spans (NoRightInverse unit block) h claims = unit_spans unit block h.0 h.1
  rest_spans (Kernel Left generators block) h claims = generated_spans (codes "L") generators block refl h.1
  rest_spans (Kernel Right generators block) h claims = generated_spans (codes "Q") generators block refl h.1
  rest_spans (Resolution links) h claims = links_span links 3 h.all
  rest_spans (ExtZero links block) h claims =
      let a = behind_links 3 links in
      spans_append (flat_map (link_text names s.order) links) (exact_text names s.order block) 3 a (exact_layout 0 a block).end (links_span links 3 h.0.all) (exact_spans 0 a block h.1)
  rest_spans (ExtNonzero links element block) h claims =
      let a = behind_links 3 links in
      let end = (outside_layout a (a + 2) block).end in
      spans_append (flat_map (link_text names s.order) links) _ 3 a end (links_span links 3 h.0.all)
      (spans_append (row_part names s.order (codes "element") element) (outside_text names s.order block) a (a + 2) end (row_spans (codes "element") element a refl) (outside_spans a (a + 2) block h.2))
  rest_spans (Halted report) h claims = absurd claims

  pub end_is_last : (c : Certificate) → IsWrittenCertificate s names c → IsNoReport c → line_count (certificate_text names s.order c) ≡ line_in c End
  end_is_last c h claims =
      let kind = kind_is_line c h claims in
      let rest = rest_spans c h claims in
      let whole = spans_append (codes "certificate 1\n") (kind_text c ++ (rest_text names s.order c ++ codes "end\n")) 1 2 (suc (line_in c End)) (spans_line (codes "certificate 1") 1 refl)
      (spans_append (kind_text c) (rest_text names s.order c ++ codes "end\n") 2 3 (suc (line_in c End)) (1, whole_line (kind_text c) kind, refl)
      (spans_append (rest_text names s.order c) (codes "end\n") 3 (line_in c End) (suc (line_in c End)) rest (spans_line (codes "end") (line_in c End) refl))) in
      line_count-whole whole.0 (certificate_text names s.order c) whole.1 ∙ (let e = whole.2 in omega arith)
