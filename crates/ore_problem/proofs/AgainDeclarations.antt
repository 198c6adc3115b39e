-- The declarations of a printed text.
--     index_of-get_or         a name is found by its index
--     number_word, name_word  a number and a name are words
--     words_of, line_of       the words of a declaration, and its line without its end
--     IsDeclaredAt            a name and its kind stand behind these in the signature
--     declares_words          the words declare the name and its kind
--     all_declare             the lines declare all names and kinds, and the text has these lines
use Rattle.std.proofs.Common.{◌≡◌, ◌≢◌, ℕ, zero, suc, ◌<◌, ◌≤◌, ◌^◌, Bool, true, false, List, [], ◌∷◌, ◌++◌, length, map, get_or, refl, sym, ap, ◌∙◌, subst, arith, append_assoc, length-append}
use Rattle.std.specs.Prelude.{if◌then◌else◌, ◌&&◌, decimal}
use Rattle.std.specs.declared.option.Option.TheVariants.{Some}
use Rattle.std.specs.Option.{option_map}
use Rattle.std.specs.Char.{is_ascii_digit}
use Rattle.std.specs.List.{AllByRecursion, list_all, join_with_byte, zip}
use Rattle.std.specs.Str.{bytes_eq}
use Rattle.std.specs.Str.Parse.{AllDigits, IsNumeral}
use Rattle.std.proofs.Math.Seq.{get_or-append_seam}
use Rattle.std.proofs.lemmas.List.{get_or_append_left}
use Rattle.std.proofs.lemmas.Slice.Eq.{bytes_eq-Decides}
use Rattle.std.proofs.lemmas.Fmt.{decimal_is_IsNumeral}
use Rattle.ore_monomial.specs.Signature.{Signature, kind_at, is_acting, coordinate_of, step_of}
use Rattle.ore_monomial.specs.declared.signature.VarKind.{VarKind}
use Rattle.ore_monomial.specs.declared.signature.VarKind.TheVariants.{Coordinate, Constant, Plain, Differential, Shift, Delay}
use Rattle.ore_monomial.proofs.Signatures.{lawful, step_in_range}
use Rattle.ore_expr.specs.Tokens.{IsName}
use Rattle.ore_expr.specs.Faults.{index_of}
use Rattle.ore_text.specs.Names.{IsDistinct, AreNames}
use Rattle.ore_text.proofs.ByteTests.{digit_true}
use Rattle.ore_problem.specs.Lines.{is_some_byte}
use Rattle.ore_problem.specs.Declarations.{is_digits}
use Rattle.ore_problem.specs.ProblemText.{declaration_word, declaration_words, declaration_text}
use Rattle.ore_problem.specs.Accepted.{Declares, AllDeclare}
use Rattle.ore_problem.proofs.AcceptedDeclarations.{all_front}
use Rattle.ore_problem.proofs.AgainBytes.{bare_decimal, bare_name}
use Rattle.ore_problem.proofs.AgainLines.{IsWord, words_joined, plain_joined, plain_line, Prints, prints_line}

-- ---- names by their indices

at_index : (P : List ℕ → Type 0) (xs : List (List ℕ)) (i : ℕ) → AllByRecursion P xs → i < length xs → P (get_or xs i [])
at_index P [] i h l = absurd (omega arith)
at_index P (x ∷ xs) zero h l = h.0
at_index P (x ∷ xs) (suc i) h l = at_index P xs i h.1 (omega arith)

index_of-get_or : (names : List (List ℕ)) (i : ℕ) → IsDistinct names → i < length names → index_of names (get_or names i []) ≡ Some i
index_of-get_or [] i h l = absurd (omega arith)
index_of-get_or (n ∷ names) zero h l = ap (λ b. if b then Some 0 else option_map suc (index_of names n)) ((bytes_eq-Decides n n).1 refl)
index_of-get_or (n ∷ names) (suc i) h l = by (bytes_eq n (get_or names i [])) refl (at_index (λ m. m ≢ n) names i h.0 (omega arith)) (index_of-get_or names i h.1 (omega arith))
  where
    by : (b : Bool) → bytes_eq n (get_or names i []) ≡ b → get_or names i [] ≢ n → index_of names (get_or names i []) ≡ Some i → (if b then Some 0 else option_map suc (index_of names (get_or names i []))) ≡ Some (suc i)
    by true e differs h = absurd (differs (sym ((bytes_eq-Decides n (get_or names i [])).0 e)))
    by false e differs h = ap (option_map suc) h

distinct_front : (xs : List (List ℕ)) (y : List ℕ) (ys : List (List ℕ)) → IsDistinct (xs ++ y ∷ ys) → IsDistinct xs
distinct_front [] y ys h = tt
distinct_front (x ∷ xs) y ys h = ((all_front (λ m. m ≢ x) xs y ys h.0).0, distinct_front xs y ys h.1)

-- ---- steps

all_tests : (ds : List ℕ) → AllDigits 10 ds → list_all is_ascii_digit ds ≡ true
all_tests [] h = refl
all_tests (c ∷ cs) h = λ i. digit_true c h.0 i && all_tests cs h.1 i

numeral_test : (ds : List ℕ) → IsNumeral 10 ds → is_digits ds ≡ true
numeral_test [] h = absurd (omega arith)
numeral_test (c ∷ cs) h = all_tests (c ∷ cs) h.1

some_digit : (ds : List ℕ) → 0 < length ds → is_some_byte ds ≡ true
some_digit [] h = absurd (omega arith)
some_digit (c ∷ cs) h = refl

pub number_word : (n : ℕ) → n < 2 ^ 64 → IsWord (decimal n)
number_word n h = (some_digit (decimal n) (decimal_is_IsNumeral n h).0.0, bare_decimal n)

pub name_word : (name : List ℕ) → IsName name → IsWord name
name_word [] h = absurd h
name_word (b ∷ bs) h = (refl, bare_name (b ∷ bs) h)

-- ---- one declaration

module _ (s : Signature) (all : List (List ℕ)) (are : AreNames all) where
  abbrev words_of : List ℕ × VarKind → List (List ℕ)
  words_of d = declaration_word d.1 ∷ d.0 ∷ declaration_words all d.1

  abbrev pub line_of : List ℕ × VarKind → List ℕ
  line_of d = join_with_byte 32 (words_of d)

  -- what stands before the name and its kind, and what behind them
  record IsDeclaredAt (before : List (List ℕ)) (kbefore : List VarKind) (name : List ℕ) (kind : VarKind) (names : List (List ℕ)) (ks : List VarKind) : Type 0 where
    names_stand : all ≡ before ++ name ∷ names
    kinds_stand : s.kinds ≡ kbefore ++ kind ∷ ks
    same_count : length before ≡ length kbefore

  record Keeps (before : List (List ℕ)) (kind : VarKind) : Type 0 where
    acts_on : is_acting kind ≡ true → coordinate_of kind < length before
    step : step_of kind ≤ 1000
    index : is_acting kind ≡ true → index_of before (get_or all (coordinate_of kind) []) ≡ Some (coordinate_of kind)
    within : is_acting kind ≡ true → coordinate_of kind < length all

  keeps : (before : List (List ℕ)) (kbefore : List VarKind) (name : List ℕ) (kind : VarKind) (names : List (List ℕ)) (ks : List VarKind) → IsDeclaredAt before kbefore name kind names ks → Keeps before kind
  keeps before kbefore name kind names ks h =
      let here : kind_at s (length kbefore) ≡ kind = ap (λ ms. get_or ms (length kbefore) Constant) h.kinds_stand ∙ get_or-append_seam kbefore kind ks Constant in
      let count = h.same_count in
      let acts : (is_acting kind ≡ true → coordinate_of kind < length before) =
      λ a. (let less = (lawful s (length kbefore) (ap is_acting here ∙ a)).0 in let same = ap coordinate_of here in omega arith) in
      record {
        acts_on = acts;
        step = subst (λ x. step_of x ≤ 1000) here (step_in_range s (length kbefore)).1;
        index = λ a. (let l = acts a in
            ap (λ ns. index_of before (get_or ns (coordinate_of kind) [])) h.names_stand
            ∙ ap (index_of before) (get_or_append_left before (name ∷ names) [] (coordinate_of kind) l)
            ∙ index_of-get_or before (coordinate_of kind) (distinct_front before name names (subst IsDistinct h.names_stand are.distinct)) l);
        within = λ a. (let l = acts a in let e = ap length h.names_stand ∙ length-append before (name ∷ names) in omega arith);
      }

  less_64 : (n : ℕ) → n ≤ 1000 → n < 2 ^ 64
  less_64 n h = omega arith

  declares_words : (before : List (List ℕ)) (name : List ℕ) (kind : VarKind) → Keeps before kind → Declares before (words_of (name, kind)) name kind
  declares_words before name Coordinate k = refl
  declares_words before name Constant k = refl
  declares_words before name Plain k = refl
  declares_words before name (Differential on) k = (get_or all on [], refl, k.index refl)
  declares_words before name (Shift on step) k =
      let n = decimal_is_IsNumeral step (less_64 step k.step) in
      (get_or all on [], decimal step, refl, k.index refl, (numeral_test (decimal step) n.0, n.1))
  declares_words before name (Delay on step) k =
      let n = decimal_is_IsNumeral step (less_64 step k.step) in
      (get_or all on [], decimal step, refl, k.index refl, (numeral_test (decimal step) n.0, n.1))

  other_word : (on : ℕ) → on < length all → IsWord (get_or all on [])
  other_word on l = name_word (get_or all on []) (at_index IsName all on are.form l)

  are_words : (before : List (List ℕ)) (name : List ℕ) (kind : VarKind) → IsName name → Keeps before kind → AllByRecursion IsWord (words_of (name, kind))
  are_words before name Coordinate n k = ((refl, refl), (name_word name n, tt))
  are_words before name Constant n k = ((refl, refl), (name_word name n, tt))
  are_words before name Plain n k = ((refl, refl), (name_word name n, tt))
  are_words before name (Differential on) n k = ((refl, refl), (name_word name n, (other_word on (k.within refl), tt)))
  are_words before name (Shift on step) n k = ((refl, refl), (name_word name n, (other_word on (k.within refl), (number_word step (less_64 step k.step), tt))))
  are_words before name (Delay on step) n k = ((refl, refl), (name_word name n, (other_word on (k.within refl), (number_word step (less_64 step k.step), tt))))

  name_at : (before : List (List ℕ)) (kbefore : List VarKind) (name : List ℕ) (kind : VarKind) (names : List (List ℕ)) (ks : List VarKind) → IsDeclaredAt before kbefore name kind names ks → IsName name
  name_at before kbefore name kind names ks h = (all_front IsName before name names (subst (AllByRecursion IsName) h.names_stand are.form)).1

  -- ---- all declarations

  abbrev Prints_one : List ℕ × VarKind → Type 0
  Prints_one d = Prints (declaration_text all d) (line_of d ∷ [])

  pub all_declare : (before : List (List ℕ)) (kbefore : List VarKind) (names : List (List ℕ)) (ks : List VarKind) → all ≡ before ++ names → s.kinds ≡ kbefore ++ ks → length before ≡ length kbefore → length names ≡ length ks
      → AllDeclare before (map line_of (zip names ks)) names ks × AllByRecursion Prints_one (zip names ks)
  all_declare before kbefore [] [] e f g h = (tt, tt)
  all_declare before kbefore [] (k ∷ ks) e f g h = absurd (omega arith)
  all_declare before kbefore (n ∷ names) [] e f g h = absurd (omega arith)
  all_declare before kbefore (n ∷ names) (k ∷ ks) e f g h =
      let next : IsDeclaredAt before kbefore n k names ks = record { names_stand = e; kinds_stand = f; same_count = g } in
      let kept = keeps before kbefore n k names ks next in
      let ws = are_words before n k (name_at before kbefore n k names ks next) kept in
      let longer : length (before ++ n ∷ []) ≡ length (kbefore ++ k ∷ []) = omega (arith, length-append before (n ∷ []), length-append kbefore (k ∷ [])) in
      let more = all_declare (before ++ n ∷ []) (kbefore ++ k ∷ []) names ks (e ∙ sym (append_assoc before (n ∷ []) names)) (f ∙ sym (append_assoc kbefore (k ∷ []) ks)) longer (omega arith) in (
        (subst (λ vs. Declares before vs n k) (sym (words_joined (declaration_word k) (n ∷ declaration_words all k) ws)) (declares_words before n k kept), more.0),
        (prints_line (line_of (n, k)) (plain_line (line_of (n, k)) (plain_joined (words_of (n, k)) ws)), more.1),
      )
