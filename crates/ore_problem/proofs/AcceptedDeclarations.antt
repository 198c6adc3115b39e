-- The declarations that are read are those of an accepted text.
--     fault_after-append             the faults of kinds in two parts
--     first_of_next                  kinds without a fault, up to one of them
--     Limited, limited               what a kind acts on is one of twelve, and its step at most 1000; so it is of a
--                                    kind without a fault
--     Shows                          the words are those of a declaration, whose name is one
--     declares, declared_by-words    the words of a declaration, from the reader's and to it
--     Grows                          from one frame to another, these names and kinds are more
--     OneMore                        the same of one declaration, by its words
--     frame_back, frame_due          one declaration more
--     Found                          the lines of the declarations and the matrix line, beside what is read of them
--     Passed                         what is read of such lines
--     all_front                      a fact of all of a list holds of its front, and of the item behind
--     declarations_back, declarations_due    all declarations up to the matrix line
--     same_frame                     a frame is its names, kinds and order
--     declared_same                  as many names are declared as kinds
use Rattle.std.proofs.Common.{◌≡◌, ◌≢◌, ℕ, suc, ◌+◌, ◌<◌, ◌≤◌, Bool, true, false, ◌&&◌, cond, List, [], ◌∷◌, ◌++◌, length, get_or, refl, sym, ap, ◌∙◌, subst, inl, inr, arith, append_assoc, append-nil, min}
use Rattle.std.specs.Prelude.{if◌then◌else◌, nat_le, codes}
use Rattle.std.specs.declared.option.Option.{Option}
use Rattle.std.specs.declared.option.Option.TheVariants.{None, Some}
use Rattle.std.specs.Option.{unwrap_or, is_some, option_map}
use Rattle.std.specs.declared.result.Result.TheVariants.{Ok, Err}
use Rattle.std.specs.List.{AllByRecursion}
use Rattle.std.specs.Str.{bytes_eq}
use Rattle.std.specs.Str.Parse.{digits_value}
use Rattle.std.proofs.lemmas.Slice.Eq.{bytes_eq-Decides}
use Rattle.std.proofs.lemmas.Bool.Decides.{nat_tests}
use Rattle.std.proofs.lemmas.Option.{same_Some}
use Rattle.ore_monomial.specs.declared.order.Order.{Order}
use Rattle.ore_monomial.specs.Signature.{Signature, coordinate_of, step_of, is_acting, kind_at, first_fault, fault_after, or_else}
use Rattle.ore_monomial.specs.Signature as kinds
use Rattle.ore_monomial.specs.SignatureCode.{signature_accepted, same_signature}
use Rattle.ore_monomial.specs.declared.signature.VarKind.{VarKind}
use Rattle.ore_monomial.specs.declared.signature.VarKind.TheVariants.{Coordinate, Constant, Plain, Differential, Shift, Delay}
use Rattle.ore_monomial.specs.declared.signature.SignatureFault.{SignatureFault}
use Rattle.ore_monomial.specs.declared.signature.SignatureFault.TheVariants.{TooMany}
use Rattle.ore_monomial.proofs.Signatures.{lawful, step_in_range, or_else_none}
use Rattle.ore_ring.proofs.Falls.{right_true}
use Rattle.ore_expr.specs.Tokens.{IsName}
use Rattle.ore_expr.specs.Faults.{index_of}
use Rattle.ore_text.specs.Names.{IsDistinct, AreNames}
use Rattle.ore_text.proofs.NameLemmas.{AreNames-push}
use Rattle.ore_problem.specs.declared.fault.ProblemReason.{ProblemReason}
use Rattle.ore_problem.specs.declared.fault.ProblemReason.TheVariants as reason
use Rattle.ore_problem.specs.Lines.{Cursor, content, is_comment, words}
use Rattle.ore_problem.specs.Declarations.{Declared, is_name, is_digits, no_coordinate, coordinate_index, step_value, named, two_words, three_words, four_words, declared_by, declaration_fault}
use Rattle.ore_problem.specs.Problems.{Read, found_or, fault_or, Frame, with_declared, declared_frame, is_matrix, Declarations, declarations_of}
use Rattle.ore_algebra.specs.Results.{◌>>=◌}
use Rattle.ore_problem.specs.Accepted.{Declares, AllDeclare}
use Rattle.ore_problem.proofs.AcceptedLines.{Goes, GoesFrom, cursor}
use Rattle.ore_problem.proofs.AcceptedWords.{name_test}
use Rattle.ore_problem.proofs.WordLemmas.{is_name_form}
use Rattle.ore_algebra.proofs.ResultLaws.{same_ok}

-- ---- faults of kinds

or_else_assoc : (a b c : Option SignatureFault) → or_else a (or_else b c) ≡ or_else (or_else a b) c
or_else_assoc None b c = refl
or_else_assoc (Some f) b c = refl

fault_after-append : (before ks ls : List VarKind) → fault_after before (ks ++ ls) ≡ or_else (fault_after before ks) (fault_after (before ++ ks) ls)
fault_after-append before [] ls = ap (λ bs. fault_after bs ls) (sym (append-nil before))
fault_after-append before (k ∷ ks) ls =
    ap (or_else (kinds.fault_of before k)) (fault_after-append (before ++ k ∷ []) ks ls ∙ ap (λ bs. or_else (fault_after (before ++ k ∷ []) ks) (fault_after bs ls)) (append_assoc before (k ∷ []) ks))
    ∙ or_else_assoc (kinds.fault_of before k) (fault_after (before ++ k ∷ []) ks) (fault_after (before ++ (k ∷ ks)) ls)

first_of_more : (ks ls : List VarKind) → first_fault (ks ++ ls) ≡ None → first_fault ks ≡ None
first_of_more ks ls e = (or_else_none (first_fault ks) (fault_after ks ls) (sym (fault_after-append [] ks ls) ∙ e)).0

pub first_of_next : (ks : List VarKind) (k : VarKind) (ls : List VarKind) → first_fault (ks ++ k ∷ ls) ≡ None → first_fault (ks ++ k ∷ []) ≡ None
first_of_next ks k ls e = first_of_more (ks ++ k ∷ []) ls (ap first_fault (append_assoc ks (k ∷ []) ls) ∙ e)

-- ---- what a kind without a fault keeps to

pub record Limited (kind : VarKind) : Type 0 where
  pub acts_on : is_acting kind ≡ true → coordinate_of kind < 12
  pub step : step_of kind ≤ 1000

at_end : (ks : List VarKind) (k d : VarKind) (ls : List VarKind) → get_or (ks ++ k ∷ ls) (length ks) d ≡ k
at_end [] k d ls = refl
at_end (x ∷ ks) k d ls = at_end ks k d ls

few : (ks : List VarKind) → nat_le 12 (length ks) ≡ false → length ks < 12
few ks h = grind (arith, nat_tests)

pub limited : (ks : List VarKind) (k : VarKind) → nat_le 12 (length ks) ≡ false → first_fault (ks ++ k ∷ []) ≡ None → (o : Order) → Limited k
limited ks k h e o =
    let s : Signature = record { kinds = ks ++ k ∷ []; order = o; accepted = e } in
    let here : kind_at s (length ks) ≡ k = at_end ks k Constant [] in
    let law = lawful s (length ks) in
    let range = step_in_range s (length ks) in
    let short = few ks h in
    record {
      acts_on = λ a. let less = (law (ap is_acting here ∙ a)).0 in let same = ap coordinate_of here in omega arith;
      step = subst (λ x. step_of x ≤ 1000) here range.1;
    }

cond_none : (t : Bool) (f : SignatureFault) (rest : Option SignatureFault) → cond t (Some f) rest ≡ None → t ≡ false
cond_none true f rest e = absurd (cc)
cond_none false f rest e = refl

first_few : (ks : List VarKind) (k : VarKind) → first_fault (ks ++ k ∷ []) ≡ None → nat_le 12 (length ks) ≡ false
first_few ks k e = cond_none _ _ _ (or_else_none (kinds.fault_of ks k) None (or_else_none (first_fault ks) (or_else (kinds.fault_of ks k) None) (sym (fault_after-append [] ks (k ∷ [])) ∙ e)).1).0

-- ---- the words of a declaration

indexed : (o : Option ℕ) → unwrap_or o no_coordinate < 12 → o ≡ Some (unwrap_or o no_coordinate)
indexed None h = absurd (omega arith)
indexed (Some x) h = refl

small_step : (v : ℕ) → min v 1001 ≤ 1000 → v ≡ min v 1001
small_step v h = omega arith

same_step : (v n : ℕ) → v ≡ n → n ≤ 1000 → min v 1001 ≡ n
same_step v n e h = omega arith

module _ (before : List (List ℕ)) where
  -- the words are those of the declaration
  abbrev pub Shows : List (List ℕ) → Declared → Type 0
  Shows ws d = Declares before ws d.name d.kind × (is_name d.name ≡ true)

  shows : (ws : List (List ℕ)) (name : List ℕ) (fits : Bool) (kind : VarKind) (d : Declared) → named name fits kind ≡ Some d → Limited d.kind → (fits ≡ true → Limited kind → Declares before ws name kind) → Shows ws d
  shows ws name fits kind d e l h = by (is_name name) fits refl h e
    where
      by : (a b : Bool) → is_name name ≡ a → (b ≡ true → Limited kind → Declares before ws name kind) → (if a && b then Some (record { name = name; kind = kind }) else None) ≡ Some d → Shows ws d
      by true true f h e =
          let same : record { name = name; kind = kind } ≡ d = same_Some (record { name = name; kind = kind }) d e in
          subst (Shows ws) same (h refl (subst Limited (sym (ap (λ (x : Declared). x.kind) same)) l), f)
      by true false f h e = cc
      by false b f h e = cc

  shows_two : (word name : List ℕ) (d : Declared) → two_words before word name ≡ Some d → Limited d.kind → Shows (word ∷ name ∷ []) d
  shows_two word name d e l = by (bytes_eq word (codes "coordinate")) (bytes_eq word (codes "constant")) (bytes_eq word (codes "plain")) refl refl refl e
    where
      by : (a b c : Bool) → bytes_eq word (codes "coordinate") ≡ a → bytes_eq word (codes "constant") ≡ b → bytes_eq word (codes "plain") ≡ c
          → (if a then named name true Coordinate else if b then named name true Constant else if c then named name true Plain else None) ≡ Some d → Shows (word ∷ name ∷ []) d
      by true b c f g h e = shows (word ∷ name ∷ []) name true Coordinate d e l (λ t m. ap (λ w. w ∷ name ∷ []) ((bytes_eq-Decides word (codes "coordinate")).0 f))
      by false true c f g h e = shows (word ∷ name ∷ []) name true Constant d e l (λ t m. ap (λ w. w ∷ name ∷ []) ((bytes_eq-Decides word (codes "constant")).0 g))
      by false false true f g h e = shows (word ∷ name ∷ []) name true Plain d e l (λ t m. ap (λ w. w ∷ name ∷ []) ((bytes_eq-Decides word (codes "plain")).0 h))
      by false false false f g h e = cc

  shows_three : (word name on : List ℕ) (d : Declared) → three_words before word name on ≡ Some d → Limited d.kind → Shows (word ∷ name ∷ on ∷ []) d
  shows_three word name on d e l = by (bytes_eq word (codes "differential")) refl e
    where
      by : (a : Bool) → bytes_eq word (codes "differential") ≡ a → (if a then named name (is_name on) (Differential (coordinate_index before on)) else None) ≡ Some d → Shows (word ∷ name ∷ on ∷ []) d
      by true f e =
          shows (word ∷ name ∷ on ∷ []) name (is_name on) (Differential (coordinate_index before on)) d e l
          (λ t m. (on, ap (λ w. w ∷ name ∷ on ∷ []) ((bytes_eq-Decides word (codes "differential")).0 f), indexed (index_of before on) (m.acts_on refl)))
      by false f e = cc

  shows_four : (word name on step : List ℕ) (d : Declared) → four_words before word name on step ≡ Some d → Limited d.kind → Shows (word ∷ name ∷ on ∷ step ∷ []) d
  shows_four word name on step d e l = by (bytes_eq word (codes "shift")) (bytes_eq word (codes "delay")) refl refl e
    where
      by : (a b : Bool) → bytes_eq word (codes "shift") ≡ a → bytes_eq word (codes "delay") ≡ b
          → (if a then named name (is_name on && is_digits step) (Shift (coordinate_index before on) (step_value step)) else if b then named name (is_name on && is_digits step) (Delay (coordinate_index before on) (step_value step)) else None) ≡ Some d
          → Shows (word ∷ name ∷ on ∷ step ∷ []) d
      by true b f g e =
          shows (word ∷ name ∷ on ∷ step ∷ []) name (is_name on && is_digits step) (Shift (coordinate_index before on) (step_value step)) d e l
          (λ t m. (on, step, ap (λ w. w ∷ name ∷ on ∷ step ∷ []) ((bytes_eq-Decides word (codes "shift")).0 f), indexed (index_of before on) (m.acts_on refl), (right_true (is_name on) (is_digits step) t, small_step (digits_value 10 step) m.step)))
      by false true f g e =
          shows (word ∷ name ∷ on ∷ step ∷ []) name (is_name on && is_digits step) (Delay (coordinate_index before on) (step_value step)) d e l
          (λ t m. (on, step, ap (λ w. w ∷ name ∷ on ∷ step ∷ []) ((bytes_eq-Decides word (codes "delay")).0 g), indexed (index_of before on) (m.acts_on refl), (right_true (is_name on) (is_digits step) t, small_step (digits_value 10 step) m.step)))
      by false false f g e = cc

  pub declares : (ws : List (List ℕ)) (d : Declared) → declared_by before ws ≡ Some d → Limited d.kind → Shows ws d
  unfolding declared_by
  declares [] d e l = cc
  declares (word ∷ []) d e l = cc
  declares (word ∷ name ∷ []) d e l = shows_two word name d e l
  declares (word ∷ name ∷ on ∷ []) d e l = shows_three word name on d e l
  declares (word ∷ name ∷ on ∷ step ∷ []) d e l = shows_four word name on step d e l
  declares (word ∷ name ∷ on ∷ step ∷ more ∷ rest) d e l = cc

  -- ---- and back

  found_name : (names : List (List ℕ)) (name : List ℕ) (x : ℕ) → AllByRecursion IsName names → index_of names name ≡ Some x → IsName name
  found_name [] name x h e = cc
  found_name (n ∷ names) name x h e = by (bytes_eq n name) (index_of names name) refl refl e (λ y. found_name names name y h.1)
    where
      by : (b : Bool) (o : Option ℕ) → bytes_eq n name ≡ b → index_of names name ≡ o → (if b then Some 0 else option_map suc o) ≡ Some x → ((y : ℕ) → index_of names name ≡ Some y → IsName name) → IsName name
      by true o f g e more = subst IsName ((bytes_eq-Decides n name).0 f) h.0
      by false (Some y) f g e more = more y g
      by false None f g e more = cc

  pub declared_by-words : (ws : List (List ℕ)) (name : List ℕ) (kind : VarKind) → AllByRecursion IsName before → Declares before ws name kind → is_name name ≡ true → Limited kind → declared_by before ws ≡ Some (record { name = name; kind = kind })
  unfolding declared_by
  declared_by-words ws name Coordinate a e n l = subst (λ vs. declared_by before vs ≡ Some (record { name = name; kind = Coordinate })) (sym e) (rw n refl)
  declared_by-words ws name Constant a e n l = subst (λ vs. declared_by before vs ≡ Some (record { name = name; kind = Constant })) (sym e) (rw n refl)
  declared_by-words ws name Plain a e n l = subst (λ vs. declared_by before vs ≡ Some (record { name = name; kind = Plain })) (sym e) (rw n refl)
  declared_by-words ws name (Differential on) a (other, e, x) n l =
      subst (λ vs. declared_by before vs ≡ Some (record { name = name; kind = Differential on })) (sym e)
      (rw (n, name_test other (found_name before other on a x), x) refl)
  declared_by-words ws name (Shift on step) a (other, digits, e, x, s) n l =
      subst (λ vs. declared_by before vs ≡ Some (record { name = name; kind = Shift on step })) (sym e)
      (rw (n, name_test other (found_name before other on a x), x, s.0, same_step (digits_value 10 digits) step s.1 l.step) refl)
  declared_by-words ws name (Delay on step) a (other, digits, e, x, s) n l =
      subst (λ vs. declared_by before vs ≡ Some (record { name = name; kind = Delay on step })) (sym e)
      (rw (n, name_test other (found_name before other on a x), x, s.0, same_step (digits_value 10 digits) step s.1 l.step) refl)

-- ---- one declaration more

pub record Grows (f g : Frame) (names : List (List ℕ)) (ks : List VarKind) : Type 0 where
  pub names_grow : g.names ≡ f.names ++ names
  pub kinds_grow : g.signature.kinds ≡ f.signature.kinds ++ ks
  pub order_stays : g.signature.order ≡ f.signature.order

with_declared_grows : (f : Frame) (d : Declared) → first_fault (f.signature.kinds ++ d.kind ∷ []) ≡ None → Grows f (with_declared f d) (d.name ∷ []) (d.kind ∷ [])
with_declared_grows f d e =
    let same = signature_accepted (f.signature.kinds ++ d.kind ∷ []) f.signature.order e in
    record { names_grow = refl; kinds_grow = ap (λ (s : Signature). s.kinds) same; order_stays = ap (λ (s : Signature). s.order) same }

more_grows : (f g h : Frame) (name : List ℕ) (names : List (List ℕ)) (k : VarKind) (ks : List VarKind) → Grows f g (name ∷ []) (k ∷ []) → Grows g h names ks → Grows f h (name ∷ names) (k ∷ ks)
more_grows f g h name names k ks a b = record {
  names_grow = b.names_grow ∙ ap (λ ns. ns ++ names) a.names_grow ∙ append_assoc f.names (name ∷ []) names;
  kinds_grow = b.kinds_grow ∙ ap (λ ms. ms ++ ks) a.kinds_grow ∙ append_assoc f.signature.kinds (k ∷ []) ks;
  order_stays = b.order_stays ∙ a.order_stays;
}

-- nothing is wrong with a declaration
record IsFine (f : Frame) (d : Declared) : Type 0 where
  few_before : nat_le 12 (length f.signature.kinds) ≡ false
  new : index_of f.names d.name ≡ None
  kinds_fit : first_fault (f.signature.kinds ++ d.kind ∷ []) ≡ None

is_fine : (f : Frame) (d : Declared) → declaration_fault f.names f.signature.kinds d ≡ None → IsFine f d
unfolding declaration_fault
is_fine f d e = by (nat_le 12 (length f.signature.kinds)) (index_of f.names d.name) (first_fault (f.signature.kinds ++ d.kind ∷ [])) refl refl refl e
  where
    by : (b : Bool) (o : Option ℕ) (m : Option SignatureFault) → nat_le 12 (length f.signature.kinds) ≡ b → index_of f.names d.name ≡ o → first_fault (f.signature.kinds ++ d.kind ∷ []) ≡ m
        → (if b then Some (reason.Signature TooMany) else if is_some o then Some reason.NameTwice else option_map reason.Signature m) ≡ None → IsFine f d
    by false None None g h i e = record { few_before = g; new = h; kinds_fit = i }
    by false None (Some m) g h i e = cc
    by false (Some x) m g h i e = cc
    by true o m g h i e = cc

no_fault : (f : Frame) (d : Declared) → IsFine f d → declaration_fault f.names f.signature.kinds d ≡ None
unfolding declaration_fault
no_fault f d h = rw (h.few_before, h.new, h.kinds_fit) refl

pub record OneMore (f g : Frame) (ws : List (List ℕ)) : Type 0 where
  pub name : List ℕ
  pub kind : VarKind
  pub declared : Declares f.names ws name kind
  pub grows : Grows f g (name ∷ []) (kind ∷ [])
  pub are : AreNames g.names

pub frame_back : (f : Frame) (line : ℕ) (ws : List (List ℕ)) (g : Frame) → AreNames f.names → declared_frame f line ws ≡ Ok g → OneMore f g ws
unfolding declared_frame
frame_back f line ws g a e = by (declared_by f.names ws) refl e
  where
    grown : (d : Declared) → declared_by f.names ws ≡ Some d → (o : Option ProblemReason) → declaration_fault f.names f.signature.kinds d ≡ o → fault_or o line (with_declared f d) ≡ Ok g → OneMore f g ws
    grown d h (Some r) k e = cc
    grown d h None k e =
        let fine = is_fine f d k in
        let shown = declares f.names ws d h (limited f.signature.kinds d.kind fine.few_before fine.kinds_fit f.signature.order) in
        subst (λ (x : Frame). OneMore f x ws) (same_ok (with_declared f d) g e)
        (record { name = d.name; kind = d.kind; declared = shown.0; grows = with_declared_grows f d fine.kinds_fit; are = AreNames-push f.names d.name a (is_name_form d.name shown.1) fine.new })

    by : (o : Option Declared) → declared_by f.names ws ≡ o → (found_or o line reason.BadDeclaration >>= λ d. fault_or (declaration_fault f.names f.signature.kinds d) line (with_declared f d)) ≡ Ok g → OneMore f g ws
    by None h e = cc
    by (Some d) h e = grown d h (declaration_fault f.names f.signature.kinds d) refl e

-- ---- all declarations

pub record Found (f : Frame) (x : Declarations) (line used : ℕ) (left ls : List (List ℕ)) (goal : Cursor) : Type 0 where
  pub lines : List (List ℕ)
  pub matrix : List ℕ
  pub names : List (List ℕ)
  pub kinds : List VarKind
  pub goes : Goes line used left (lines ++ matrix ∷ ls) goal
  pub sizes : words matrix ≡ x.sizes
  pub ends : is_matrix (words matrix) ≡ true
  pub declared : AllDeclare f.names lines names kinds
  pub grows : Grows f x.frame names kinds
  pub are : AreNames x.frame.names

module _ (f : Frame) (line used : ℕ) (raw : List ℕ) (left ls : List (List ℕ)) (goal : Cursor) where
  found_comment : (x : Declarations) → is_comment raw ≡ true → Found f x (suc line) (used + length raw) left ls goal → Found f x line used (raw ∷ left) ls goal
  found_comment x b h =
      record { lines = h.lines; matrix = h.matrix; names = h.names; kinds = h.kinds; goes = go h.lines h.goes; sizes = h.sizes; ends = h.ends; declared = h.declared; grows = h.grows; are = h.are }
    where
      go : (lines : List (List ℕ)) → Goes (suc line) (used + length raw) left (lines ++ h.matrix ∷ ls) goal → Goes line used (raw ∷ left) (lines ++ h.matrix ∷ ls) goal
      go [] g = inl (b, g)
      go (l ∷ lines) g = inl (b, g)

  found_matrix : AreNames f.names → is_comment raw ≡ false → is_matrix (words (content raw)) ≡ true → Goes (suc line) (used + length raw) left ls goal
      → Found f (record { frame = f; sizes = words (content raw); cursor = cursor (suc line) (used + length raw) left }) line used (raw ∷ left) ls goal
  found_matrix a b m g = record {
    lines = [];
    matrix = content raw;
    names = [];
    kinds = [];
    goes = inr (b, refl, g);
    sizes = refl;
    ends = m;
    declared = tt;
    grows = record { names_grow = sym (append-nil f.names); kinds_grow = sym (append-nil f.signature.kinds); order_stays = refl };
    are = a;
  }

  found_one : (g : Frame) (x : Declarations) → is_comment raw ≡ false → OneMore f g (words (content raw)) → Found g x (suc line) (used + length raw) left ls goal → Found f x line used (raw ∷ left) ls goal
  found_one g x b o h = record {
    lines = content raw ∷ h.lines;
    matrix = h.matrix;
    names = o.name ∷ h.names;
    kinds = o.kind ∷ h.kinds;
    goes = inr (b, refl, h.goes);
    sizes = h.sizes;
    ends = h.ends;
    declared = (o.declared, subst (λ ns. AllDeclare ns h.lines h.names h.kinds) o.grows.names_grow h.declared);
    grows = more_grows f g x.frame o.name h.names o.kind h.kinds o.grows h.grows;
    are = h.are;
  }

pub declarations_back : (f : Frame) (line used : ℕ) (left : List (List ℕ)) (x : Declarations) (ls : List (List ℕ)) (goal : Cursor) → AreNames f.names → declarations_of f line used left ≡ Ok x → GoesFrom x.cursor ls goal → Found f x line used left ls goal
unfolding declarations_of
declarations_back f line used [] x ls goal a e g = cc
declarations_back f line used (raw ∷ left) x ls goal a e g =
    by (is_comment raw) refl (is_matrix (words (content raw))) refl (declared_frame f (suc line) (words (content raw))) refl e
    (λ h b k. declarations_back h (suc line) (used + length raw) left x ls goal b k g)
  where
    matrix : Declarations
    matrix = record { frame = f; sizes = words (content raw); cursor = cursor (suc line) (used + length raw) left }

    by : (b : Bool) → is_comment raw ≡ b → (m : Bool) → is_matrix (words (content raw)) ≡ m → (r : Read Frame) → declared_frame f (suc line) (words (content raw)) ≡ r
        → (if b then declarations_of f (suc line) (used + length raw) left
        else if m then Ok (record { frame = f; sizes = words (content raw); cursor = cursor (suc line) (used + length raw) left })
        else (r >>= λ h. declarations_of h (suc line) (used + length raw) left)) ≡ Ok x
        → ((h : Frame) → AreNames h.names → declarations_of h (suc line) (used + length raw) left ≡ Ok x → Found h x (suc line) (used + length raw) left ls goal) → Found f x line used (raw ∷ left) ls goal
    by true b m p r q e more = found_comment f line used raw left ls goal x b (more f a e)
    by false b true p r q e more =
        let same = same_ok (record { frame = f; sizes = words (content raw); cursor = cursor (suc line) (used + length raw) left }) x e in
        subst (λ (y : Declarations). Found f y line used (raw ∷ left) ls goal) same
        (found_matrix f line used raw left ls goal a b p (subst (λ (y : Declarations). GoesFrom y.cursor ls goal) (sym same) g))
    by false b false p (Err r) q e more = cc
    by false b false p (Ok h) q e more = let o = frame_back f (suc line) (words (content raw)) h a q in found_one f line used raw left ls goal h x b o (more h o.are e)

-- ---- and back

pub all_front : {X : Type 0} (P : X → Type 0) (xs : List X) (y : X) (ys : List X) → AllByRecursion P (xs ++ y ∷ ys) → AllByRecursion P xs × P y
all_front P [] y ys h = (tt, h.0)
all_front P (x ∷ xs) y ys h = let more = all_front P xs y ys h.1 in ((h.0, more.0), more.1)

new_name : (xs : List (List ℕ)) (n : List ℕ) (ys : List (List ℕ)) → IsDistinct (xs ++ n ∷ ys) → index_of xs n ≡ None
new_name [] n ys h = refl
new_name (x ∷ xs) n ys h = by (bytes_eq x n) refl (all_front (λ m. m ≢ x) xs n ys h.0).1 (new_name xs n ys h.1)
  where
    by : (b : Bool) → bytes_eq x n ≡ b → n ≢ x → index_of xs n ≡ None → (if b then Some 0 else option_map suc (index_of xs n)) ≡ None
    by true e differs h = absurd (differs (sym ((bytes_eq-Decides x n).0 e)))
    by false e differs h = ap (option_map suc) h

no_matrix : (before ws : List (List ℕ)) (name : List ℕ) (kind : VarKind) → Declares before ws name kind → is_matrix ws ≡ false
no_matrix before ws name Coordinate e = ap is_matrix e
no_matrix before ws name Constant e = ap is_matrix e
no_matrix before ws name Plain e = ap is_matrix e
no_matrix before ws name (Differential on) (other, e, x) = ap is_matrix e
no_matrix before ws name (Shift on step) (other, digits, e, x, s) = ap is_matrix e
no_matrix before ws name (Delay on step) (other, digits, e, x, s) = ap is_matrix e

pub frame_due : (f : Frame) (line : ℕ) (ws : List (List ℕ)) (name : List ℕ) (kind : VarKind) (names : List (List ℕ)) (ks : List VarKind) → AreNames (f.names ++ name ∷ names) → first_fault (f.signature.kinds ++ kind ∷ ks) ≡ None
    → Declares f.names ws name kind → declared_frame f line ws ≡ Ok (with_declared f (record { name = name; kind = kind }))
unfolding declared_frame
frame_due f line ws name kind names ks a e d =
    let fit = first_of_next f.signature.kinds kind ks e in
    let few = first_few f.signature.kinds kind fit in
    let front = all_front IsName f.names name names a.form in
    let small = limited f.signature.kinds kind few fit f.signature.order in
    let one : Declared = record { name = name; kind = kind } in
    let fine : IsFine f one = record { few_before = few; new = new_name f.names name names a.distinct; kinds_fit = fit } in
    rw (declared_by-words f.names ws name kind front.0 d (name_test name front.1) small, no_fault f one fine) refl

module _ (f : Frame) (line used : ℕ) (raw : List ℕ) (left : List (List ℕ)) where
  abbrev read_on : Frame → Read Declarations
  read_on h = declarations_of h (suc line) (used + length raw) left

  abbrev at_matrix : List (List ℕ) → Declarations
  at_matrix ws = record { frame = f; sizes = ws; cursor = cursor (suc line) (used + length raw) left }

  comment_read : is_comment raw ≡ true → declarations_of f line used (raw ∷ left) ≡ read_on f
  unfolding declarations_of
  comment_read b = rw b refl

  matrix_read : (l : List ℕ) → is_comment raw ≡ false → content raw ≡ l → is_matrix (words l) ≡ true → declarations_of f line used (raw ∷ left) ≡ Ok (at_matrix (words l))
  unfolding declarations_of
  matrix_read l b c m = rw (b, c, m) refl

  one_read : (l : List ℕ) (g : Frame) → is_comment raw ≡ false → content raw ≡ l → is_matrix (words l) ≡ false → declared_frame f (suc line) (words l) ≡ Ok g → declarations_of f line used (raw ∷ left) ≡ read_on g
  unfolding declarations_of
  one_read l g b c m d = rw (b, c, m, d) refl

pub record Passed (f : Frame) (r : Read Declarations) (matrix : List ℕ) (names : List (List ℕ)) (ks : List VarKind) (ls : List (List ℕ)) (goal : Cursor) : Type 0 where
  pub frame : Frame
  pub behind : Cursor
  pub reads : r ≡ Ok (record { frame = frame; sizes = words matrix; cursor = behind })
  pub grows : Grows f frame names ks
  pub goes : GoesFrom behind ls goal

passed_more : (f g : Frame) (r q : Read Declarations) (matrix : List ℕ) (name : List ℕ) (names : List (List ℕ)) (k : VarKind) (ks : List VarKind) (ls : List (List ℕ)) (goal : Cursor) → r ≡ q → Grows f g (name ∷ []) (k ∷ [])
    → Passed g q matrix names ks ls goal → Passed f r matrix (name ∷ names) (k ∷ ks) ls goal
passed_more f g r q matrix name names k ks ls goal e w p =
    record { frame = p.frame; behind = p.behind; reads = e ∙ p.reads; grows = more_grows f g p.frame name names k ks w p.grows; goes = p.goes }

pub declarations_due : (f : Frame) (line used : ℕ) (left lines : List (List ℕ)) (matrix : List ℕ) (names : List (List ℕ)) (ks : List VarKind) (ls : List (List ℕ)) (goal : Cursor)
    → AreNames (f.names ++ names) → first_fault (f.signature.kinds ++ ks) ≡ None → AllDeclare f.names lines names ks → is_matrix (words matrix) ≡ true → Goes line used left (lines ++ matrix ∷ ls) goal
    → Passed f (declarations_of f line used left) matrix names ks ls goal
declarations_due f line used [] [] matrix names ks ls goal a e d m g = absurd g
declarations_due f line used [] (l ∷ lines) matrix names ks ls goal a e d m g = absurd g
declarations_due f line used (raw ∷ left) [] matrix [] [] ls goal a e d m (inl (b, g)) =
    let p = declarations_due f (suc line) (used + length raw) left [] matrix [] [] ls goal a e d m g in
    record { frame = p.frame; behind = p.behind; reads = comment_read f line used raw left b ∙ p.reads; grows = p.grows; goes = p.goes }
declarations_due f line used (raw ∷ left) [] matrix [] [] ls goal a e d m (inr (b, c, g)) = record {
  frame = f;
  behind = cursor (suc line) (used + length raw) left;
  reads = matrix_read f line used raw left matrix b c m;
  grows = record { names_grow = sym (append-nil f.names); kinds_grow = sym (append-nil f.signature.kinds); order_stays = refl };
  goes = g;
}
declarations_due f line used (raw ∷ left) [] matrix [] (k ∷ ks) ls goal a e d m g = absurd d
declarations_due f line used (raw ∷ left) [] matrix (n ∷ names) ks ls goal a e d m g = absurd d
declarations_due f line used (raw ∷ left) (l ∷ lines) matrix [] ks ls goal a e d m g = absurd d
declarations_due f line used (raw ∷ left) (l ∷ lines) matrix (n ∷ names) [] ls goal a e d m g = absurd d
declarations_due f line used (raw ∷ left) (l ∷ lines) matrix (n ∷ names) (k ∷ ks) ls goal a e d m (inl (b, g)) =
    let p = declarations_due f (suc line) (used + length raw) left (l ∷ lines) matrix (n ∷ names) (k ∷ ks) ls goal a e d m g in
    record { frame = p.frame; behind = p.behind; reads = comment_read f line used raw left b ∙ p.reads; grows = p.grows; goes = p.goes }
declarations_due f line used (raw ∷ left) (l ∷ lines) matrix (n ∷ names) (k ∷ ks) ls goal a e d m (inr (b, c, g)) =
    let one : Declared = record { name = n; kind = k } in
    let w = with_declared_grows f one (first_of_next f.signature.kinds k ks e) in
    let due = frame_due f (suc line) (words l) n k names ks a e d.0 in
    passed_more f (with_declared f one) (declarations_of f line used (raw ∷ left)) (declarations_of (with_declared f one) (suc line) (used + length raw) left) matrix n names k ks ls goal
    (one_read f line used raw left l (with_declared f one) b c (no_matrix f.names (words l) n k d.0) due)
    w
    (declarations_due (with_declared f one) (suc line) (used + length raw) left lines matrix names ks ls goal
    (subst AreNames (sym (append_assoc f.names (n ∷ []) names)) a)
    (ap first_fault (ap (λ ms. ms ++ ks) w.kinds_grow ∙ append_assoc f.signature.kinds (k ∷ []) ks) ∙ e)
    d.1 m g)

-- what grew to the names and the kinds of a signature is a frame of them
pub same_frame : (f g : Frame) → f.names ≡ g.names → f.signature.kinds ≡ g.signature.kinds → f.signature.order ≡ g.signature.order → f ≡ g
same_frame f g n k o = λ i. record { names = n i; signature = same_signature f.signature g.signature k o i }

pub declared_same : (before lines names : List (List ℕ)) (ks : List VarKind) → AllDeclare before lines names ks → length names ≡ length ks
declared_same before [] [] [] h = refl
declared_same before (line ∷ lines) (name ∷ names) (k ∷ ks) h = ap suc (declared_same (before ++ name ∷ []) lines names ks h.1)
declared_same before [] [] (k ∷ ks) h = absurd h
declared_same before [] (name ∷ names) ks h = absurd h
declared_same before (line ∷ lines) [] ks h = absurd h
declared_same before (line ∷ lines) (name ∷ names) [] h = absurd h
