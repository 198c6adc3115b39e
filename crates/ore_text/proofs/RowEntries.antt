-- The entries of a row one after the other.
--     entries_text             entries, each behind a separator, the first behind one of its own, and the line end
--     row_of_entries           entries with commas between them, as entries behind separators
--     row_text-entries         the line of a row
--     position_or_len-le, place_past       a first place is at most the length, and is the length where no byte passes
--     not_front, is_front, same_bytes, other_bytes       what tests of a text say
--     cut, cut_is              a text without its separator is cut at its first comma or line end
--     appended_first, appended_next, appended_last      the turns of a loop that appends entries
--     IsFoundSoFar, IsOnlySoFar            what a loop that reads entries keeps: the line from what was read, and the other way round
--     AreLeft                  the entries that are left, of a row that the line is
--     found_first, found_next, found_last    the first of these stands before the loop, after a turn, and gives the
--                                            line in the end
--     only_first, only_next, only_last    the second stands before the loop, after a turn, and gives the row in the end
--     no_next                  where no entry can be read, the line is that of no row
--     all_next                 a fact of all entries, with one more
use Rattle.std.proofs.Common.{◌≡◌, ℕ, suc, ◌+◌, ◌<◌, ◌≤◌, Bool, true, false, true≢false, not, ◌&&◌, cond, List, [], ◌∷◌, ◌++◌, length, map, take, drop, get_or, None, refl, sym, ap, subst, ◌∙◌, append_assoc, append-nil, arith}
use Rattle.std.specs.Prelude.{codes, nat_eq}
use Rattle.std.specs.Cmp.Lexicographic.{pointwise}
use Rattle.std.specs.List.{list_all, position, position_or_len, AllByRecursion}
use Rattle.std.proofs.lemmas.Bool.Decides.{nat_tests}
use Rattle.std.proofs.lemmas.List.{append_cancel_left, drop_more, drop_all, length-map, length-append, map_push, take-append-drop, take_at, drop_at}
use Rattle.std.proofs.lemmas.Slice.Eq.{bytes_eq-Decides}
use Rattle.ore_rational.specs.Field.{rationals}
use Rattle.ore_monomial.specs.declared.order.Order.{Order}
use Rattle.ore_monomial.specs.LetterRule.{Operator}
use Rattle.ore_text.specs.CanonicalText.{operator_text}
use Rattle.ore_text.specs.RowText.{listed, row_text}
use Rattle.ore_text.specs.RowParts.{is_stop, LacksStops, BeginsWithStop}

module _ {X : Type 0} (text : X → List ℕ) where
  unfoldable pub entries_text : List ℕ → List X → List ℕ
  entries_text separator [] = 10 ∷ []
  entries_text separator (f ∷ fs) = separator ++ (text f ++ entries_text (codes ", ") fs)

  listed-entries : (f : X) (fs : List X) → listed (map text (f ∷ fs)) ++ 10 ∷ [] ≡ text f ++ entries_text (codes ", ") fs
  unfolding entries_text
  listed-entries f [] = refl
  listed-entries f (g ∷ gs) =
      append_assoc (text f) (codes ", " ++ listed (map text (g ∷ gs))) (10 ∷ [])
      ∙ ap (λ t. text f ++ t) (append_assoc (codes ", ") (listed (map text (g ∷ gs))) (10 ∷ []) ∙ ap (λ t. codes ", " ++ t) (listed-entries g gs))

  pub row_of_entries : (f : X) (fs : List X) → codes "row " ++ (listed (map text (f ∷ fs)) ++ 10 ∷ []) ≡ codes "row" ++ entries_text (codes " ") (f ∷ fs)
  unfolding entries_text
  row_of_entries f fs = ap (λ t. codes "row " ++ t) (listed-entries f fs)

pub row_text-entries : (names : List (List ℕ)) (o : Order) (fs : List (Operator rationals)) → row_text names o fs ≡ codes "row" ++ entries_text (operator_text names o) (codes " ") fs
unfolding entries_text
row_text-entries names o [] = refl
row_text-entries names o (f ∷ fs) = row_of_entries (operator_text names o) f fs

-- ---- a text is cut

pub position_or_len-le : {A : Type 0} (p : A → Bool) (xs : List A) → position_or_len p xs ≤ length xs
position_or_len-le p [] = omega arith
position_or_len-le p (x ∷ xs) = by (p x) (position_or_len-le p xs)
  where
    by : (b : Bool) → position_or_len p xs ≤ length xs → cond (not b) (1 + position_or_len p xs) 0 ≤ suc (length xs)
    by true h = omega arith
    by false h = omega arith

pub place_past : {A : Type 0} (p : A → Bool) (xs : List A) → position p xs ≡ None → length xs ≡ position_or_len p xs
place_past p xs e = let h = position_or_len-le p xs in grind (arith, nat_tests)

stops_after : (front rest : List ℕ) → LacksStops front → BeginsWithStop rest → position_or_len is_stop (front ++ rest) ≡ length front
stops_after [] [] h k = refl
stops_after [] (b ∷ rest) h k = ap (λ t. cond (not t) (1 + position_or_len is_stop rest) 0) k
stops_after (x ∷ xs) rest h k = by (is_stop x) refl h (λ h. stops_after xs rest h k)
  where
    by : (b : Bool) → is_stop x ≡ b → (not b && list_all (λ b. not (is_stop b)) xs) ≡ true → (LacksStops xs → position_or_len is_stop (xs ++ rest) ≡ length xs) → position_or_len is_stop (x ∷ (xs ++ rest)) ≡ suc (length xs)
    by true e h more = cc
    by false e h more =
        let s : 1 + position_or_len is_stop (xs ++ rest) ≡ suc (position_or_len is_stop (xs ++ rest)) = omega arith in
        ap (λ t. cond (not t) (1 + position_or_len is_stop (xs ++ rest)) 0) e ∙ s ∙ ap suc (more h)

-- what `strip_prefix` says, by cases
pub not_front : (text front rest : List ℕ) → pointwise nat_eq (take (length front) text) front ≡ false → text ≡ front ++ rest → ⊥
not_front text front rest h e = true≢false (sym ((bytes_eq-Decides (take (length front) text) front).1 (ap (take (length front)) e ∙ take_at front rest (length front) refl)) ∙ h)

pub is_front : (text front rest : List ℕ) → pointwise nat_eq (take (length front) text) front ≡ true → rest ≡ drop (length front) text → text ≡ front ++ rest
is_front text front rest h e = sym (take-append-drop (length front) text) ∙ (λ i. (bytes_eq-Decides (take (length front) text) front).0 h i ++ sym e i)

-- what `==` says of bytes, by cases
pub same_bytes : (a b : List ℕ) (r : Bool) → r ≡ pointwise nat_eq a b → r ≡ true → a ≡ b
same_bytes a b r e h = (bytes_eq-Decides a b).0 (sym e ∙ h)

pub other_bytes : (a b : List ℕ) (r : Bool) → r ≡ pointwise nat_eq a b → r ≡ false → a ≡ b → ⊥
other_bytes a b r e h same = true≢false (sym ((bytes_eq-Decides a b).1 same) ∙ sym e ∙ h)

-- of what follows the separator, the parts before and behind a place
pub cut : (text separator entry front back : List ℕ) (place : ℕ) → text ≡ separator ++ entry → front ≡ take place entry → back ≡ drop place entry → text ≡ separator ++ (front ++ back)
cut text separator entry front back place e f b = e ∙ ap (λ t. separator ++ t) (sym (take-append-drop place entry) ∙ (λ i. sym f i ++ sym b i))

pub cut_is : (text separator entry front back : List ℕ) (place : ℕ) → text ≡ separator ++ entry → front ≡ take place entry → back ≡ drop place entry → place ≡ position_or_len is_stop entry
    → (first rest : List ℕ) → LacksStops first → BeginsWithStop rest → text ≡ separator ++ (first ++ rest) → (front ≡ first) × (back ≡ rest)
cut_is text separator entry front back place e f b p first rest h k t =
    let same : entry ≡ first ++ rest = append_cancel_left separator entry (first ++ rest) (sym e ∙ t) in
    let here : length first ≡ place = sym (p ∙ ap (position_or_len is_stop) same ∙ stops_after first rest h k) in
    (f ∙ ap (take place) same ∙ take_at first rest place here, b ∙ ap (drop place) same ∙ drop_at first rest place here)

-- ---- entries are appended

module _ {Y X : Type 0} (value : Y → X) (text : X → List ℕ) where
  values_left : (row : List Y) (i : ℕ) (y : Y) → i < length row → y ≡ get_or row i y → map value (drop i row) ≡ value y ∷ map value (drop (i + 1) row)
  values_left row i y h e = ap (map value) (drop_more row i y h) ∙ ap (λ z. value z ∷ map value (drop (i + 1) row)) (sym e)

  pub appended_next : (out more separator : List ℕ) (row : List Y) (i : ℕ) (y : Y) → i < length row → y ≡ get_or row i y → more ≡ out ++ (separator ++ text (value y))
      → more ++ entries_text text (codes ", ") (map value (drop (i + 1) row)) ≡ out ++ entries_text text separator (map value (drop i row))
  unfolding entries_text
  appended_next out more separator row i y h e m =
      ap (λ t. t ++ entries_text text (codes ", ") (map value (drop (i + 1) row))) m
      ∙ append_assoc out (separator ++ text (value y)) _
      ∙ ap (λ t. out ++ t) (append_assoc separator (text (value y)) _)
      ∙ ap (λ t. out ++ entries_text text separator t) (sym (values_left row i y h e))

  pub appended_last : (out more separator : List ℕ) (row : List Y) (i : ℕ) → length row ≤ i → more ≡ out ++ 10 ∷ [] → more ≡ out ++ entries_text text separator (map value (drop i row))
  unfolding entries_text
  appended_last out more separator row i h m = m ∙ ap (λ t. out ++ entries_text text separator (map value t)) (sym (drop_all i row h))

pub appended_first : (names : List (List ℕ)) (o : Order) (out more : List ℕ) (fs : List (Operator rationals)) → more ≡ out ++ codes "row" → more ++ entries_text (operator_text names o) (codes " ") fs ≡ out ++ row_text names o fs
appended_first names o out more fs m =
    ap (λ t. t ++ entries_text (operator_text names o) (codes " ") fs) m ∙ append_assoc out (codes "row") _ ∙ ap (λ t. out ++ t) (sym (row_text-entries names o fs))

-- ---- entries are read

module _ {Y X : Type 0} (value : Y → X) (text : X → List ℕ) (P : X → Type 0) (line_of : List X → List ℕ) (line : List ℕ) where
  unfoldable pub IsFoundSoFar : List ℕ → List Y → List ℕ → Type 0
  IsFoundSoFar separator row rest = (gs : List X) → rest ≡ entries_text text separator gs → line ≡ line_of (map value row ++ gs)

  -- the entries that are left, of a row that the line is
  abbrev pub AreLeft : List ℕ → List Y → List ℕ → List X → List X → Type 0
  AreLeft separator row rest fs gs = (fs ≡ map value row ++ gs) × AllByRecursion P gs × (rest ≡ entries_text text separator gs)

  unfoldable pub IsOnlySoFar : ℕ → List ℕ → List Y → List ℕ → Type 0
  IsOnlySoFar cols separator row rest = (fs : List X) → AllByRecursion P fs → length fs ≡ cols → line ≡ line_of fs → (gs : List X) × AreLeft separator row rest fs gs

  pub found_first : (rest : List ℕ) (row : List Y) → ((fs : List X) → line_of fs ≡ codes "row" ++ entries_text text (codes " ") fs) → line ≡ codes "row" ++ rest → row ≡ [] → IsFoundSoFar (codes " ") row rest
  unfolding IsFoundSoFar
  found_first rest row starts e n gs r = e ∙ ap (λ t. codes "row" ++ t) r ∙ sym (starts gs) ∙ ap (λ t. line_of (map value t ++ gs)) (sym n)

  pub only_first : (cols : ℕ) (rest : List ℕ) (row : List Y) → ((fs : List X) → line_of fs ≡ codes "row" ++ entries_text text (codes " ") fs) → line ≡ codes "row" ++ rest → row ≡ [] → IsOnlySoFar cols (codes " ") row rest
  unfolding IsOnlySoFar
  only_first cols rest row starts e n fs all len l = (fs, (ap (λ t. map value t ++ fs) (sym n), all, append_cancel_left (codes "row") rest (entries_text text (codes " ") fs) (sym e ∙ l ∙ starts fs)))

  values_more : (row more : List Y) (y : Y) (gs : List X) → more ≡ row ++ y ∷ [] → map value row ++ value y ∷ gs ≡ map value more ++ gs
  values_more row more y gs m = sym (ap (λ t. map value t ++ gs) m ∙ ap (λ t. t ++ gs) (map_push value row y) ∙ append_assoc (map value row) (value y ∷ []) gs)

  pub found_next : (separator rest after : List ℕ) (row more : List Y) (y : Y) → more ≡ row ++ y ∷ [] → rest ≡ separator ++ (text (value y) ++ after) → IsFoundSoFar separator row rest → IsFoundSoFar (codes ", ") more after
  unfolding entries_text IsFoundSoFar
  found_next separator rest after row more y m r found gs a = found (value y ∷ gs) (r ∙ ap (λ t. separator ++ (text (value y) ++ t)) a) ∙ ap line_of (values_more row more y gs m)

  stop_left : (gs : List X) → BeginsWithStop (entries_text text (codes ", ") gs)
  unfolding entries_text
  stop_left [] = refl
  stop_left (g ∷ gs) = refl

  none_left : (cols k : ℕ) (separator rest : List ℕ) (row : List Y) (fs : List X) → AreLeft separator row rest fs [] → length row ≡ k → length fs ≡ cols → k < cols → ⊥
  none_left cols k separator rest row fs left n len h =
      let a = ap length (left.0 ∙ append-nil (map value row)) ∙ length-map row value in
      omega arith

  some_left : (cols k : ℕ) (separator rest : List ℕ) (row : List Y) (fs : List X) (g : X) (gs : List X) → AreLeft separator row rest fs (g ∷ gs) → length row ≡ k → length fs ≡ cols → cols ≤ k → ⊥
  some_left cols k separator rest row fs g gs left n len h =
      let a = ap length left.0 ∙ length-append (map value row) (g ∷ gs) in
      let b = length-map row value in
      let d : length (g ∷ gs) ≡ suc (length gs) = refl in
      omega arith

  pub only_next : (cols k : ℕ) (separator rest after : List ℕ) (row more : List Y) (y : Y) → more ≡ row ++ y ∷ [] → length row ≡ k → k < cols
      → ((g : X) (tail : List ℕ) → P g → BeginsWithStop tail → rest ≡ separator ++ (text g ++ tail) → (value y ≡ g) × (after ≡ tail))
      → IsOnlySoFar cols separator row rest → IsOnlySoFar cols (codes ", ") more after
  unfolding entries_text IsOnlySoFar
  only_next cols k separator rest after row more y m n h due only fs all len l = let r = only fs all len l in by r.0 r.1
    where
      by : (gs : List X) → AreLeft separator row rest fs gs → (gs : List X) × AreLeft (codes ", ") more after fs gs
      by [] left = absurd (none_left cols k separator rest row fs left n len h)
      by (g ∷ gs) left =
          let here = due g (entries_text text (codes ", ") gs) left.1.0 (stop_left gs) left.2 in
          (gs, (left.0 ∙ ap (λ x. map value row ++ x ∷ gs) (sym here.0) ∙ values_more row more y gs m, left.1.1, here.1))

  pub no_next : (cols k : ℕ) (separator rest : List ℕ) (row : List Y) → length row ≡ k → k < cols
      → ((g : X) (tail : List ℕ) → P g → BeginsWithStop tail → rest ≡ separator ++ (text g ++ tail) → ⊥)
      → IsOnlySoFar cols separator row rest → (fs : List X) → AllByRecursion P fs → length fs ≡ cols → line ≡ line_of fs → ⊥
  unfolding entries_text IsOnlySoFar
  no_next cols k separator rest row n h due only fs all len l = let r = only fs all len l in by r.0 r.1
    where
      by : (gs : List X) → AreLeft separator row rest fs gs → ⊥
      by [] left = none_left cols k separator rest row fs left n len h
      by (g ∷ gs) left = due g (entries_text text (codes ", ") gs) left.1.0 (stop_left gs) left.2

  pub found_last : (separator rest : List ℕ) (row : List Y) → rest ≡ 10 ∷ [] → IsFoundSoFar separator row rest → line ≡ line_of (map value row)
  unfolding entries_text IsFoundSoFar
  found_last separator rest row e found = found [] e ∙ ap line_of (append-nil (map value row))

  pub only_last : (cols k : ℕ) (separator rest : List ℕ) (row : List Y) → length row ≡ k → cols ≤ k → IsOnlySoFar cols separator row rest
      → (fs : List X) → AllByRecursion P fs → length fs ≡ cols → line ≡ line_of fs → (rest ≡ 10 ∷ []) × (map value row ≡ fs)
  unfolding entries_text IsOnlySoFar
  only_last cols k separator rest row n h only fs all len l = let r = only fs all len l in by r.0 r.1
    where
      by : (gs : List X) → AreLeft separator row rest fs gs → (rest ≡ 10 ∷ []) × (map value row ≡ fs)
      by [] left = (left.2, sym (left.0 ∙ append-nil (map value row)))
      by (g ∷ gs) left = absurd (some_left cols k separator rest row fs g gs left n len h)

  pub all_next : (row more : List Y) (y : Y) → more ≡ row ++ y ∷ [] → AllByRecursion P (map value row) → P (value y) → AllByRecursion P (map value more)
  all_next row more y m all here = subst (AllByRecursion P) (sym (ap (map value) m ∙ map_push value row y)) (pushed (map value row) all)
    where
      pushed : (xs : List X) → AllByRecursion P xs → AllByRecursion P (xs ++ value y ∷ [])
      pushed [] all = (here, tt)
      pushed (x ∷ xs) all = (all.0, pushed xs all.1)
