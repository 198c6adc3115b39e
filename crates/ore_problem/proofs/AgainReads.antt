-- The text of a problem is read as the problem.
--     lines_of             the lines of the text
--     prints_problem       the text has these lines
--     printed_accepted     the text is accepted, as the text of this problem
--     printed_is_read      the law
use Rattle.std.proofs.Common.{◌≡◌, ℕ, ◌+◌, ◌<◌, ◌≤◌, ◌^◌, List, [], ◌∷◌, ◌++◌, length, map, refl, sym, ap, ◌∙◌, subst, arith, append-nil}
use Rattle.std.specs.Prelude.{codes, decimal}
use Rattle.std.specs.declared.result.Result.TheVariants.{Ok}
use Rattle.std.specs.List.{AllByRecursion, AllZip, join_with_byte, flat_map, zip}
use Rattle.ore_rational.specs.Field.{rationals}
use Rattle.ore_monomial.specs.declared.order.Order.{Order}
use Rattle.ore_monomial.specs.declared.order.Order.TheVariants.{DegLex, DegRevLex}
use Rattle.ore_text.specs.RowText.{row_text}
use Rattle.ore_rows.specs.Rows.{Row}
use Rattle.ore_problem.specs.Lines.{raw_lines}
use Rattle.ore_problem.specs.ProblemText.{order_word, declaration_text, matrix_text, problem_text}
use Rattle.ore_problem.specs.Problems.{System}
use Rattle.ore_problem.specs.Stored.{IsPrintableSystem}
use Rattle.ore_problem.specs.Accepted.{counted, LastCounts, AllDeclare, IsRow, Accepted}
use Rattle.ore_problem.specs.Laws.{cursor_behind, PrintedProblemIsRead}
use Rattle.ore_problem.proofs.AcceptedLines.{cursor, over}
use Rattle.ore_problem.proofs.FrontReads.{byte_count, over-all, byte_count-raw_lines}
use Rattle.ore_problem.proofs.AcceptedReads.{accepted_prefix, accepted_read}
use Rattle.ore_problem.proofs.AgainLines.{ended, IsWord, words_joined, plain_joined, plain_line, counted_ended, last_counts_ended, Prints, prints_line, prints_append, prints_all}
use Rattle.ore_problem.proofs.AgainEntries.{row_line, AllPrint, prints_row, row_is}
use Rattle.ore_problem.proofs.AgainDeclarations.{number_word, line_of, all_declare}

-- ---- the lines of the text

module _ (p : System) where
  abbrev order_line : List ℕ
  order_line = join_with_byte 32 (codes "order" ∷ order_word p.signature.order ∷ [])

  abbrev matrix_line : List ℕ
  matrix_line = join_with_byte 32 (codes "matrix" ∷ decimal (length p.rows) ∷ decimal p.cols ∷ [])

module _ (p : System) (h : IsPrintableSystem p) where
  abbrev declaration_lines : List (List ℕ)
  declaration_lines = map (line_of p.signature p.names h.names) (zip p.names p.signature.kinds)

  abbrev row_lines : List (List ℕ)
  row_lines = map (row_line p) p.rows

  abbrev lines_of : List (List ℕ)
  lines_of = codes "ore 1" ∷ order_line p ∷ (declaration_lines ++ matrix_line p ∷ (row_lines ++ codes "end" ∷ []))

  order_is_words : (o : Order) → AllByRecursion IsWord (codes "order" ∷ order_word o ∷ [])
  order_is_words DegLex = ((refl, refl), ((refl, refl), tt))
  order_is_words DegRevLex = ((refl, refl), ((refl, refl), tt))

  less_64 : (n : ℕ) → n ≤ 64 → n < 2 ^ 64
  less_64 n l = omega arith

  sizes_are_words : AllByRecursion IsWord (codes "matrix" ∷ decimal (length p.rows) ∷ decimal p.cols ∷ [])
  sizes_are_words = ((refl, refl), (number_word (length p.rows) (less_64 (length p.rows) h.rows), (number_word p.cols (less_64 p.cols h.cols), tt)))

  declarations_print : AllDeclare [] declaration_lines p.names p.signature.kinds × AllByRecursion (λ d. Prints (declaration_text p.names d) (line_of p.signature p.names h.names d ∷ [])) (zip p.names p.signature.kinds)
  declarations_print = all_declare p.signature p.names h.names [] [] p.names p.signature.kinds refl refl refl h.count

  all_rows_print : (rows : List (Row rationals)) → AllByRecursion (λ row. Prints (row_text p.names p.signature.order row) (row_line p row ∷ [])) rows
  all_rows_print [] = tt
  all_rows_print (row ∷ rows) = (prints_row p h.names row, all_rows_print rows)

  all_rows_are : (rows : List (Row rationals)) → AllByRecursion (λ r. length r ≡ p.cols) rows → AllByRecursion (AllPrint p) rows → AllZip (IsRow p) (map (row_line p) rows) rows
  all_rows_are [] l e = tt
  all_rows_are (row ∷ rows) l e = (row_is p h.names row l.0 e.0, all_rows_are rows l.1 e.1)

  prints_problem : Prints (problem_text p) lines_of
  unfolding problem_text
  prints_problem =
      let o = p.signature.order in
      let first = prints_line (codes "ore 1") (record { new_line = refl; return = refl; hash = refl }) in
      let last = prints_line (codes "end") (record { new_line = refl; return = refl; hash = refl }) in
      let order = prints_line (order_line p) (plain_line (order_line p) (plain_joined (codes "order" ∷ order_word o ∷ []) (order_is_words o))) in
      let sizes = prints_line (matrix_line p) (plain_line (matrix_line p) (plain_joined (codes "matrix" ∷ decimal (length p.rows) ∷ decimal p.cols ∷ []) sizes_are_words)) in
      let rows = prints_all (row_text p.names o) (row_line p) p.rows (all_rows_print p.rows) in
      let declared = prints_all (declaration_text p.names) (line_of p.signature p.names h.names) (zip p.names p.signature.kinds) declarations_print.1 in
      let matrix = prints_append (ended (matrix_line p)) (flat_map (row_text p.names o) p.rows) (matrix_line p ∷ []) row_lines sizes rows in
      let end = prints_append (matrix_text p.names o p.cols p.rows) (codes "end\n") (matrix_line p ∷ row_lines) (codes "end" ∷ []) matrix last in
      let body = prints_append (flat_map (declaration_text p.names) (zip p.names p.signature.kinds)) (matrix_text p.names o p.cols p.rows ++ codes "end\n") declaration_lines (matrix_line p ∷ (row_lines ++ codes "end" ∷ [])) declared end in
      let rest = flat_map (declaration_text p.names) (zip p.names p.signature.kinds) ++ (matrix_text p.names o p.cols p.rows ++ codes "end\n") in
      let tail = prints_append (ended (order_line p)) rest (order_line p ∷ []) (declaration_lines ++ matrix_line p ∷ (row_lines ++ codes "end" ∷ [])) order body in
      prints_append (codes "ore 1\n") (ended (order_line p) ++ rest) (codes "ore 1" ∷ []) (order_line p ∷ (declaration_lines ++ matrix_line p ∷ (row_lines ++ codes "end" ∷ []))) first tail

  raw_lines-problem : raw_lines (problem_text p) ≡ map ended lines_of
  unfolding raw_lines
  raw_lines-problem = ap raw_lines (sym (append-nil (problem_text p))) ∙ prints_problem.stands [] ∙ append-nil (map ended lines_of)

  raw_lines-more : (rest : List ℕ) → raw_lines (problem_text p ++ rest) ≡ raw_lines (problem_text p) ++ raw_lines rest
  raw_lines-more rest = prints_problem.stands rest ∙ ap (λ ls. ls ++ raw_lines rest) (sym raw_lines-problem)

  printed_accepted : Accepted (problem_text p) p
  printed_accepted =
      let all = prints_problem.are_lines in
      record {
        header = codes "ore 1";
        order = order_line p;
        declarations = declaration_lines;
        matrix = matrix_line p;
        rows = row_lines;
        last = codes "end";
        lines = ap counted raw_lines-problem ∙ counted_ended lines_of all;
        none_behind = subst LastCounts (sym raw_lines-problem) (last_counts_ended lines_of all);
        header_words = words_joined (codes "ore") (codes "1" ∷ []) ((refl, refl), ((refl, refl), tt));
        order_words = words_joined (codes "order") (order_word p.signature.order ∷ []) (order_is_words p.signature.order);
        names = h.names;
        kinds = p.signature.accepted;
        declared = declarations_print.0;
        matrix_words = words_joined (codes "matrix") (decimal (length p.rows) ∷ decimal p.cols ∷ []) sizes_are_words;
        row_count = h.rows;
        column_count = h.cols;
        entries = all_rows_are p.rows h.lengths h.entries;
        last_words = words_joined (codes "end") [] ((refl, refl), tt);
      }

-- ---- the cursor behind the text

over-behind : (p : System) (rest : List ℕ) → over 0 0 (raw_lines (problem_text p)) (raw_lines rest) ≡ cursor_behind p rest
over-behind p rest =
    over-all 0 0 (raw_lines (problem_text p)) (raw_lines rest)
    ∙ (let a : 0 + length (raw_lines (problem_text p)) ≡ length (raw_lines (problem_text p)) = omega arith in
    let b : 0 + byte_count (raw_lines (problem_text p)) ≡ length (problem_text p) = omega (arith, byte_count-raw_lines (problem_text p)) in
    (λ i. cursor (a i) (b i) (raw_lines rest)))

-- ---- the law

pub printed_is_read : PrintedProblemIsRead
printed_is_read =
    record {
      alone = λ p h. accepted_read (problem_text p) p (printed_accepted p h);
      before = λ p h rest. accepted_prefix (problem_text p) (problem_text p ++ rest) p (raw_lines rest) (raw_lines-more p h rest) (printed_accepted p h)
          ∙ ap (λ c. Ok (p, c)) (over-behind p rest);
    }
