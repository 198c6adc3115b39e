-- Reading by lines: what is due before each line, and the fault of the first line that isn't so.
--     Need, Stage                  what is due next; or a whole problem was read
--     step                         what is due behind a line, or its fault
--     Closing                      what follows a whole problem, all of it or anything
--     run                          lines are read, each where it is due; comments are passed over
--     HasLine                      a fault is one of this line
--     step_line                    the fault of a step is one of its line
--     zero_line, complete          each stage can be completed
--     Faulty, faulty               the lines before a fault can be completed, and with the line there they can't
use Rattle.std.proofs.Common.{◌≡◌, ℕ, zero, suc, ◌+◌, ◌≤◌, Bool, true, false, cond, List, [], ◌∷◌, ◌++◌, length, take, refl, sym, ap, ◌∙◌, subst, arith}
use Rattle.std.specs.Prelude.{if◌then◌else◌, ◌&&◌, codes, drop, nat_eq, nat_lt, pos}
use Rattle.std.specs.Str.Parse.{digits_value}
use Rattle.std.proofs.lemmas.Bool.Decides.{nat_tests}
use Rattle.std.specs.declared.option.Option.{Option}
use Rattle.std.specs.declared.option.Option.TheVariants.{None, Some}
use Rattle.std.specs.declared.result.Result.{Result}
use Rattle.std.specs.declared.result.Result.TheVariants.{Ok, Err}
use Rattle.std.specs.List.{AllByRecursion, list_all}
use Rattle.ore_algebra.proofs.ResultLaws.{same_err}
use Rattle.ore_algebra.specs.Limits.{Cause, program}
use Rattle.ore_rational.specs.Field.{rationals}
use Rattle.ore_rational.specs.Fraction.{whole}
use Rattle.ore_monomial.specs.Signature.{Signature}
use Rattle.ore_monomial.specs.SignatureCode.{signature_of}
use Rattle.ore_monomial.specs.declared.order.Order.{Order}
use Rattle.ore_monomial.specs.declared.order.Order.TheVariants.{DegLex}
use Rattle.ore_expr.specs.declared.fault.TextFault.{TextFault}
use Rattle.ore_expr.specs.declared.instruction.Instruction.{Instruction}
use Rattle.ore_expr.specs.declared.instruction.Instruction.TheVariants as code
use Rattle.ore_expr.specs.Tokens.{lexemes_from}
use Rattle.ore_expr.specs.Parsing.{parse}
use Rattle.ore_expr.specs.Evaluation.{applied, value_of}
use Rattle.ore_expr.specs.Reading.{stop_fault}
use Rattle.ore_rows.specs.Rows.{Row}
use Rattle.ore_problem.specs.declared.fault.ProblemFault.{ProblemFault}
use Rattle.ore_problem.specs.declared.fault.ProblemReason.{ProblemReason}
use Rattle.ore_problem.specs.declared.fault.ProblemReason.TheVariants as reason
use Rattle.ore_problem.specs.Lines.{split_at, is_comment, words}
use Rattle.ore_problem.specs.Declarations.{declared_by, declaration_fault, is_count}
use Rattle.ore_problem.specs.Problems.{System, Read, Frame, fault_at, found_or, fault_or, are_words, order_named, is_matrix, declared_frame, with_declared, sizes_of, is_space, is_row, text_read, value_read, parsed, evaluated, row_entries}
use Rattle.ore_algebra.specs.Results.{◌>>=◌}
use Rattle.ore_monomial.specs.LetterRule.{constant}
use Rattle.ore_problem.proofs.AgainBytes.{Lacks}
use Rattle.ore_problem.proofs.AcceptedReads.{header, system}

-- ---- stages

-- of the rows so many are due, and these are read
pub data Need : Type 0 where
  First : Need
  Second : Need
  Declaring : Frame → Need
  InRows : Frame → ℕ → ℕ → List (Row rationals) → Need

pub data Stage : Type 0 where
  Due : Need → Stage
  Ended : System → Stage

abbrev pub no_names : Order → Frame
no_names o = record { names = []; signature = signature_of [] o }

abbrev pub ended_read : Bool → Frame → ℕ → List (Row rationals) → ℕ → Read Stage
ended_read true f cols rows line = Ok (Ended (system f cols rows))
ended_read false f cols rows line = fault_at line reason.NoEnd

abbrev pub row_read : Bool → Frame → ℕ → ℕ → List (Row rationals) → ℕ → List ℕ → Read Stage
row_read true f cols n rows line rest = row_entries f cols line rest >>= λ r. Ok (Due (InRows f cols n (rows ++ r ∷ [])))
row_read false f cols n rows line rest = fault_at line reason.BadRow

abbrev pub header_read : Bool → ℕ → Read Stage
header_read true line = Ok (Due Second)
header_read false line = fault_at line reason.Header

abbrev pub declaring_read : Bool → Frame → ℕ → List (List ℕ) → Read Stage
declaring_read true f line ws = sizes_of line ws >>= λ n. Ok (Due (InRows f n.1 n.0 []))
declaring_read false f line ws = declared_frame f line ws >>= λ g. Ok (Due (Declaring g))

abbrev pub step : Need → ℕ → List ℕ → Read Stage
step First line x = header_read (are_words (words x) header) line
step Second line x = found_or (order_named (words x)) line reason.Header >>= λ o. Ok (Due (Declaring (no_names o)))
step (Declaring f) line x = declaring_read (is_matrix (words x)) f line (words x)
step (InRows f cols zero rows) line x = ended_read (are_words (words x) (codes "end" ∷ [])) f cols rows line
step (InRows f cols (suc n) rows) line x = row_read (is_row x) f cols n rows line (drop 3 x)

-- what is answered behind a whole problem
pub record Closing : Type 0 where
  pub closes : System → ℕ → List (List ℕ) → Read System
  pub nothing : (p : System) (line : ℕ) → closes p line [] ≡ Ok p
  pub faulty : (p : System) (line : ℕ) (ls : List (List ℕ)) (f : ProblemFault) → closes p line ls ≡ Err f → (f.line ≡ suc line) × ((ys : List (List ℕ)) → take 1 ls ≡ take 1 ys → closes p line ys ≡ Err f)

-- ---- the fault of a line

abbrev HasLine : {A : Type 0} → Read A → ℕ → Type 0
HasLine r line = (f : ProblemFault) → r ≡ Err f → f.line ≡ line

line_at : {A : Type 0} (line : ℕ) (r : ProblemReason) → HasLine {A = A} (fault_at line r) line
line_at {A = A} line r f e = ap (λ (g : ProblemFault). g.line) (sym (same_err {A = A} (record { line = line; reason = r }) f e))

line_ok : {A : Type 0} (x : A) (line : ℕ) → HasLine {A = A} (Ok x) line
line_ok x line f e = cc

line_then : {A B : Type 0} (r : Read A) (g : A → Read B) (line : ℕ) → HasLine r line → ((x : A) → HasLine (g x) line) → HasLine (r >>= g) line
line_then {A} {B} (Ok x) g line h k f e = k x f e
line_then {A} {B} (Err y) g line h k f e = ap (λ (z : ProblemFault). z.line) (sym (same_err {A = B} y f e)) ∙ h y refl

line_found : {A : Type 0} (o : Option A) (line : ℕ) (r : ProblemReason) → HasLine (found_or o line r) line
line_found {A} None line r = line_at {A = A} line r
line_found {A} (Some x) line r = line_ok x line

line_fault_or : {A : Type 0} (o : Option ProblemReason) (line : ℕ) (x : A) → HasLine (fault_or o line x) line
line_fault_or {A} None line x = line_ok x line
line_fault_or {A} (Some r) line x = line_at {A = A} line r

line_declared : (g : Frame) (line : ℕ) (ws : List (List ℕ)) → HasLine (declared_frame g line ws) line
unfolding declared_frame
line_declared g line ws = line_then (found_or (declared_by g.names ws) line reason.BadDeclaration) (λ d. fault_or (declaration_fault g.names g.signature.kinds d) line (with_declared g d)) line
    (line_found (declared_by g.names ws) line reason.BadDeclaration)
    (λ d. line_fault_or (declaration_fault g.names g.signature.kinds d) line (with_declared g d))

line_if : {A : Type 0} (b : Bool) (x y : Read A) (line : ℕ) → HasLine x line → HasLine y line → HasLine (if b then x else y) line
line_if true x y line h k = h
line_if false x y line h k = k

line_cond : {A : Type 0} (b : Bool) (x y : Read A) (line : ℕ) → HasLine x line → HasLine y line → HasLine (cond b x y) line
line_cond true x y line h k = h
line_cond false x y line h k = k

line_sizes : (line : ℕ) (ws : List (List ℕ)) → HasLine (sizes_of line ws) line
unfolding sizes_of
line_sizes line [] = line_at {A = ℕ × ℕ} line reason.BadMatrix
line_sizes line (a ∷ []) = line_at {A = ℕ × ℕ} line reason.BadMatrix
line_sizes line (a ∷ b ∷ []) = line_at {A = ℕ × ℕ} line reason.BadMatrix
line_sizes line (a ∷ q ∷ p ∷ []) =
    line_if (is_count q && is_count p) _ _ line
    (line_if (nat_lt 64 (digits_value 10 q)) _ _ line (line_at {A = ℕ × ℕ} line reason.TooManyRows)
    (line_if (nat_lt 64 (digits_value 10 p)) _ _ line (line_at {A = ℕ × ℕ} line reason.TooManyColumns) (line_ok (digits_value 10 q, digits_value 10 p) line)))
    (line_at {A = ℕ × ℕ} line reason.BadMatrix)
line_sizes line (a ∷ b ∷ c ∷ d ∷ ws) = line_at {A = ℕ × ℕ} line reason.BadMatrix

line_text : {A : Type 0} (line : ℕ) (r : Result A TextFault) → HasLine (text_read line r) line
line_text {A} line (Ok x) = line_ok x line
line_text {A} line (Err g) = line_at {A = A} line (reason.Text g)

line_value : {A : Type 0} (line : ℕ) (r : Result A Cause) → HasLine (value_read line r) line
line_value {A} line (Ok x) = line_ok x line
line_value {A} line (Err g) = line_at {A = A} line (reason.Text (stop_fault g))

line_parsed : (names : List (List ℕ)) (line : ℕ) (parts : List (List ℕ)) → HasLine (parsed names line parts) line
unfolding parsed
line_parsed names line [] = line_ok [] line
line_parsed names line (part ∷ parts) = line_then (text_read line (parse names part)) (λ p. parsed names line parts >>= λ ps. Ok (p ∷ ps)) line
    (line_text line (parse names part))
    (λ p. line_then (parsed names line parts) (λ ps. Ok (p ∷ ps)) line (line_parsed names line parts) (λ ps. line_ok (p ∷ ps) line))

line_evaluated : (s : Signature) (line : ℕ) (ps : List (List Instruction)) → HasLine (evaluated s line ps) line
unfolding evaluated
line_evaluated s line [] = line_ok [] line
line_evaluated s line (p ∷ ps) = line_then (value_read line (value_of program s p)) (λ f. evaluated s line ps >>= λ fs. Ok (f ∷ fs)) line
    (line_value line (value_of program s p))
    (λ f. line_then (evaluated s line ps) (λ fs. Ok (f ∷ fs)) line (line_evaluated s line ps) (λ fs. line_ok (f ∷ fs) line))

line_entries : (f : Frame) (cols line : ℕ) (rest : List ℕ) → HasLine (row_entries f cols line rest) line
unfolding row_entries
line_entries f zero line rest = line_cond (list_all is_space rest) (Ok []) (fault_at line reason.WrongLength) line (line_ok [] line) (line_at {A = Row rationals} line reason.WrongLength)
line_entries f (suc p) line rest = line_if (nat_eq (length (split_at 44 rest)) (suc p)) _ _ line
    (line_then (parsed f.names line (split_at 44 rest)) (λ ps. evaluated f.signature line ps) line (line_parsed f.names line (split_at 44 rest)) (λ ps. line_evaluated f.signature line ps))
    (line_at {A = Row rationals} line reason.WrongLength)

line_header : (b : Bool) (line : ℕ) → HasLine (header_read b line) line
line_header true line = line_ok (Due Second) line
line_header false line = line_at {A = Stage} line reason.Header

line_declaring : (b : Bool) (f : Frame) (line : ℕ) (ws : List (List ℕ)) → HasLine (declaring_read b f line ws) line
line_declaring true f line ws = line_then (sizes_of line ws) (λ n. Ok (Due (InRows f n.1 n.0 []))) line (line_sizes line ws) (λ n. line_ok (Due (InRows f n.1 n.0 [])) line)
line_declaring false f line ws = line_then (declared_frame f line ws) (λ g. Ok (Due (Declaring g))) line (line_declared f line ws) (λ g. line_ok (Due (Declaring g)) line)

line_ended : (b : Bool) (f : Frame) (cols : ℕ) (rows : List (Row rationals)) (line : ℕ) → HasLine (ended_read b f cols rows line) line
line_ended true f cols rows line = line_ok (Ended (system f cols rows)) line
line_ended false f cols rows line = line_at {A = Stage} line reason.NoEnd

line_row : (b : Bool) (f : Frame) (cols n : ℕ) (rows : List (Row rationals)) (line : ℕ) (rest : List ℕ) → HasLine (row_read b f cols n rows line rest) line
line_row true f cols n rows line rest = line_then (row_entries f cols line rest) (λ r. Ok (Due (InRows f cols n (rows ++ r ∷ [])))) line (line_entries f cols line rest) (λ r. line_ok (Due (InRows f cols n (rows ++ r ∷ []))) line)
line_row false f cols n rows line rest = line_at {A = Stage} line reason.BadRow

step_line : (s : Need) (line : ℕ) (x : List ℕ) → HasLine (step s line x) line
step_line First line x = line_header (are_words (words x) header) line
step_line Second line x = line_then (found_or (order_named (words x)) line reason.Header) (λ o. Ok (Due (Declaring (no_names o)))) line (line_found (order_named (words x)) line reason.Header) (λ o. line_ok (Due (Declaring (no_names o))) line)
step_line (Declaring f) line x = line_declaring (is_matrix (words x)) f line (words x)
step_line (InRows f cols zero rows) line x = line_ended (are_words (words x) (codes "end" ∷ [])) f cols rows line
step_line (InRows f cols (suc n) rows) line x = line_row (is_row x) f cols n rows line (drop 3 x)

-- ---- rows of zeros

abbrev others : ℕ → List ℕ
others zero = []
others (suc n) = 44 ∷ 32 ∷ 48 ∷ others n

abbrev zeros : ℕ → List ℕ
zeros n = 32 ∷ 48 ∷ others n

abbrev zero_rest : ℕ → List ℕ
zero_rest zero = []
zero_rest (suc n) = zeros n

abbrev zero_line : ℕ → List ℕ
zero_line cols = codes "row" ++ zero_rest cols

abbrev pieces : ℕ → List (List ℕ)
pieces zero = codes " 0" ∷ []
pieces (suc n) = codes " 0" ∷ pieces n

split_zeros : (n : ℕ) → split_at 44 (zeros n) ≡ pieces n
unfolding split_at
split_zeros zero = refl
split_zeros (suc n) = ap (λ ps. codes " 0" ∷ ps) (split_zeros n)

count_pieces : (n : ℕ) → length (pieces n) ≡ suc n
count_pieces zero = refl
count_pieces (suc n) = ap suc (count_pieces n)

lacks_others : (n : ℕ) → Lacks 10 (others n)
lacks_others zero = refl
lacks_others (suc n) = lacks_others n

lacks_zero_line : (cols : ℕ) → Lacks 10 (zero_line cols)
lacks_zero_line zero = refl
lacks_zero_line (suc n) = lacks_others n

zero_line_row : (cols : ℕ) → is_row (zero_line cols) ≡ true
zero_line_row zero = refl
zero_line_row (suc n) = refl

zero_line_rest : (cols : ℕ) → drop 3 (zero_line cols) ≡ zero_rest cols
zero_line_rest zero = refl
zero_line_rest (suc n) = refl

abbrev zero_code : List Instruction
zero_code = code.Constant (whole (pos 0)) ∷ []

parse_zero : (names : List (List ℕ)) → parse names (codes " 0") ≡ Ok zero_code
unfolding lexemes_from
parse_zero names = refl

parsed_zeros : (names : List (List ℕ)) (line n : ℕ) → (ps : List (List Instruction)) × (parsed names line (pieces n) ≡ Ok ps) × ((s : Signature) → (row : Row rationals) × (evaluated s line ps ≡ Ok row))
unfolding parsed evaluated applied
parsed_zeros names line zero = (zero_code ∷ [], (λ i. text_read line (parse_zero names i) >>= λ q. Ok (q ∷ [])), λ s. (constant rationals (whole (pos 0)) ∷ [], refl))
parsed_zeros names line (suc n) =
    let m = parsed_zeros names line n in (
      zero_code ∷ m.0,
      (λ i. text_read line (parse_zero names i) >>= λ q. m.1 i >>= λ qs. Ok (q ∷ qs)),
      λ s. let r = m.2 s in (constant rationals (whole (pos 0)) ∷ r.0, ap (λ (x : Read (Row rationals)). x >>= λ fs. Ok (constant rationals (whole (pos 0)) ∷ fs)) r.1),
    )

tests_equal : (n m : ℕ) → n ≡ m → nat_eq n m ≡ true
tests_equal n m h = grind (arith, nat_tests)

zero_entries : (f : Frame) (cols line : ℕ) → (row : Row rationals) × (row_entries f cols line (zero_rest cols) ≡ Ok row)
unfolding row_entries
zero_entries f zero line = ([], refl)
zero_entries f (suc n) line =
    let a = parsed_zeros f.names line n in
    let b = a.2 f.signature in
    let c : nat_eq (length (pieces n)) (suc n) ≡ true = tests_equal (length (pieces n)) (suc n) (count_pieces n) in (
      b.0,
      ap (λ ps. if nat_eq (length ps) (suc n) then (parsed f.names line ps >>= λ qs. evaluated f.signature line qs) else fault_at line reason.WrongLength) (split_zeros n)
          ∙ (λ i. if c i then (a.1 i >>= λ qs. evaluated f.signature line qs) else fault_at line reason.WrongLength)
          ∙ b.1,
    )

-- ---- reading

module _ (K : Closing) where
  abbrev pub run : Stage → ℕ → List (List ℕ) → Read System
  run (Ended p) line ls = K.closes p line ls
  run (Due s) line [] = fault_at (suc line) reason.NoEnd
  run (Due s) line (x ∷ ls) = if is_comment x then run (Due s) (suc line) ls else (step s (suc line) x >>= λ t. run t (suc line) ls)

  -- ---- each stage can be completed

  record Completed (s : Need) (line : ℕ) : Type 0 where
    more : List (List ℕ)
    lack : AllByRecursion (Lacks 10) more
    problem : System
    reads : run (Due s) line more ≡ Ok problem

  one_more : (s : Need) (line : ℕ) (x : List ℕ) (t : Need) → Lacks 10 x → is_comment x ≡ false → step s (suc line) x ≡ Ok (Due t) → Completed t (suc line) → Completed s line
  one_more s line x t l c e m = record {
    more = x ∷ m.more;
    lack = (l, m.lack);
    problem = m.problem;
    reads = (λ i. if c i then run (Due s) (suc line) m.more else (e i >>= λ t. run t (suc line) m.more)) ∙ m.reads;
  }

  complete_rows : (f : Frame) (cols n : ℕ) (rows : List (Row rationals)) (line : ℕ) → Completed (InRows f cols n rows) line
  unfolding words split_at
  complete_rows f cols zero rows line = record { more = codes "end" ∷ []; lack = (refl, tt); problem = system f cols rows; reads = K.nothing (system f cols rows) (suc line) }
  complete_rows f cols (suc n) rows line =
      let z = zero_entries f cols (suc line) in
      one_more (InRows f cols (suc n) rows) line (zero_line cols) (InRows f cols n (rows ++ z.0 ∷ [])) (lacks_zero_line cols) refl
      ((λ i. row_read (zero_line_row cols i) f cols n rows (suc line) (zero_line_rest cols i)) ∙ ap (λ (r : Read (Row rationals)). r >>= λ r. Ok (Due (InRows f cols n (rows ++ r ∷ [])))) z.1)
      (complete_rows f cols n (rows ++ z.0 ∷ []) (suc line))

  complete_declaring : (f : Frame) (line : ℕ) → Completed (Declaring f) line
  unfolding words split_at sizes_of
  complete_declaring f line = one_more (Declaring f) line (codes "matrix 0 0") (InRows f 0 0 []) refl refl refl (complete_rows f 0 0 [] (suc line))

  complete_second : (line : ℕ) → Completed Second line
  unfolding words split_at
  complete_second line = one_more Second line (codes "order deglex") (Declaring (no_names DegLex)) refl refl refl (complete_declaring (no_names DegLex) (suc line))

  complete : (s : Need) (line : ℕ) → Completed s line
  unfolding words split_at
  complete First line = one_more First line (codes "ore 1") Second refl refl refl (complete_second (suc line))
  complete Second line = complete_second line
  complete (Declaring f) line = complete_declaring f line
  complete (InRows f cols n rows) line = complete_rows f cols n rows line

  -- ---- faults

  pub record Faulty (s : Stage) (line : ℕ) (ls : List (List ℕ)) (f : ProblemFault) : Type 0 where
    pub before : ℕ
    pub place : f.line ≡ suc (line + before)
    pub within : before ≤ length ls
    pub more : List (List ℕ)
    pub lack : AllByRecursion (Lacks 10) more
    pub problem : System
    pub follows : run s line (take before ls ++ more) ≡ Ok problem
    pub differs : (ys : List (List ℕ)) → take (suc before) ls ≡ take (suc before) ys → run s line ys ≡ Err f

  -- a line is passed, behind which the fault is
  passed_line : (s : Need) (line : ℕ) (x : List ℕ) (ls : List (List ℕ)) (t : Stage) (f : ProblemFault) → ((ys : List (List ℕ)) → run (Due s) line (x ∷ ys) ≡ run t (suc line) ys) → Faulty t (suc line) ls f → Faulty (Due s) line (x ∷ ls) f
  passed_line s line x ls t f h m = record {
    before = suc m.before;
    place = let e = m.place in omega (arith, e);
    within = let e = m.within in omega (arith, e);
    more = m.more;
    lack = m.lack;
    problem = m.problem;
    follows = h (take m.before ls ++ m.more) ∙ m.follows;
    differs = by;
  }
    where
      by : (ys : List (List ℕ)) → take (suc (suc m.before)) (x ∷ ls) ≡ take (suc (suc m.before)) ys → run (Due s) line ys ≡ Err f
      by [] e = cc
      by (y ∷ ys) e =
          let first : x ≡ y = cc in
          let rest : take (suc m.before) ls ≡ take (suc m.before) ys = cc in
          subst (λ z. run (Due s) line (z ∷ ys) ≡ Err f) first (h ys ∙ m.differs ys rest)

  -- the fault is here
  faulty_line : (s : Need) (line : ℕ) (ls : List (List ℕ)) (f : ProblemFault) → f.line ≡ suc line → ((ys : List (List ℕ)) → take 1 ls ≡ take 1 ys → run (Due s) line ys ≡ Err f) → Faulty (Due s) line ls f
  faulty_line s line ls f e h =
      let c = complete s line in
      record {
        before = 0;
        place = omega (arith, e);
        within = omega arith;
        more = c.more;
        lack = c.lack;
        problem = c.problem;
        follows = c.reads;
        differs = h;
      }

  no_line : (s : Need) (line : ℕ) (ys : List (List ℕ)) → [] ≡ take 1 ys → run (Due s) line ys ≡ fault_at (suc line) reason.NoEnd
  no_line s line [] e = refl
  no_line s line (y ∷ ys) e = cc

  this_line : (s : Need) (line : ℕ) (x : List ℕ) (f : ProblemFault) → is_comment x ≡ false → step s (suc line) x ≡ Err f → (ys : List (List ℕ)) → x ∷ [] ≡ take 1 ys → run (Due s) line ys ≡ Err f
  this_line s line x f c e [] h = cc
  this_line s line x f c e (y ∷ ys) h =
      let first : x ≡ y = cc in
      subst (λ z. run (Due s) line (z ∷ ys) ≡ Err f) first (λ i. if c i then run (Due s) (suc line) ys else (e i >>= λ t. run t (suc line) ys))

  pub faulty : (s : Stage) (line : ℕ) (ls : List (List ℕ)) (f : ProblemFault) → run s line ls ≡ Err f → Faulty s line ls f
  faulty (Ended p) line ls f e =
      let c = K.faulty p line ls f e in
      let l = c.0 in
      record {
        before = 0;
        place = omega (arith, l);
        within = omega arith;
        more = [];
        lack = tt;
        problem = p;
        follows = K.nothing p line;
        differs = c.1;
      }
  faulty (Due s) line [] f e =
      let same = same_err {A = System} (record { line = suc line; reason = reason.NoEnd }) f e in
      faulty_line s line [] f (ap (λ (g : ProblemFault). g.line) (sym same)) (λ ys h. no_line s line ys h ∙ e)
  faulty (Due s) line (x ∷ ls) f e = by (is_comment x) refl (step s (suc line) x) refl e (λ t h. faulty t (suc line) ls f h)
    where
      by : (c : Bool) → is_comment x ≡ c → (r : Read Stage) → step s (suc line) x ≡ r → (if c then run (Due s) (suc line) ls else (r >>= λ t. run t (suc line) ls)) ≡ Err f
          → ((t : Stage) → run t (suc line) ls ≡ Err f → Faulty t (suc line) ls f) → Faulty (Due s) line (x ∷ ls) f
      by true c r h e more = passed_line s line x ls (Due s) f (λ ys. ap (λ c. if c then run (Due s) (suc line) ys else (step s (suc line) x >>= λ t. run t (suc line) ys)) c) (more (Due s) e)
      by false c (Ok t) h e more = passed_line s line x ls t f (λ ys i. if c i then run (Due s) (suc line) ys else (h i >>= λ t. run t (suc line) ys)) (more t e)
      by false c (Err g) h e more =
          let same = same_err {A = System} g f e in
          let here : step s (suc line) x ≡ Err f = h ∙ ap Err same in
          faulty_line s line (x ∷ ls) f (step_line s (suc line) x f here) (this_line s line x f c here)
