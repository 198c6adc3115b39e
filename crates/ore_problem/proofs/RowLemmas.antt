-- Rows and their entries, one after the other.
--     before, rows_before      what was read, before what is still to be read
--     ReadsEach                a list is read by reading each of its items
--     each_stops, each_goes_on, each_ends      the steps of a loop that reads one
--     reads_parsed, reads_evaluated      texts of entries are read so, and their instructions
--     rows_stop, rows_go_on, rows_end      the steps of a loop that reads rows
use Rattle.std.proofs.Common.{◌≡◌, ℕ, suc, ◌+◌, ◌<◌, ◌≤◌, List, [], ◌∷◌, ◌++◌, length, map, drop, get_or, refl, sym, ap, ◌∙◌, add-one, append-nil, append_assoc}
use Rattle.std.specs.declared.result.Result.TheVariants.{Ok, Err}
use Rattle.std.proofs.Math.ListN.{drop_of_length-le}
use Rattle.std.proofs.Math.Seq.{drop-cons}
use Rattle.ore_algebra.specs.Limits.{program}
use Rattle.ore_rational.specs.Field.{rationals}
use Rattle.ore_monomial.specs.Signature.{Signature}
use Rattle.ore_expr.specs.Evaluation.{value_of}
use Rattle.ore_expr.specs.Parsing.{parse}
use Rattle.ore_rows.specs.Rows.{Row}
use Rattle.ore_problem.specs.declared.fault.ProblemFault.{ProblemFault}
use Rattle.ore_problem.specs.Lines.{Cursor}
use Rattle.ore_problem.specs.Problems.{Frame, Read, text_read, value_read, parsed, evaluated, row_after, rows_after}
use Rattle.ore_algebra.specs.Results.{◌>>=◌}

abbrev pub before : {A : Type 0} → List A → Read (List A) → Read (List A)
before xs r = r >>= λ ys. Ok (xs ++ ys)

pub record ReadsEach {X A : Type 0} (g : X → Read A) (all : List X → Read (List A)) : Type 0 where
  pub none : all [] ≡ Ok []
  pub next : (x : X) (xs : List X) → all (x ∷ xs) ≡ (g x >>= λ y. all xs >>= λ ys. Ok (y ∷ ys))

map-drop_next : {A B : Type 0} (f : A → B) (xs : List A) (i : ℕ) (d : A) → i < length xs → map f (drop i xs) ≡ f (get_or xs i d) ∷ map f (drop (i + 1) xs)
map-drop_next f xs i d h = ap (map f) (drop-cons xs i d h) ∙ ap (λ n. f (get_or xs i d) ∷ map f (drop n xs)) (sym (add-one i))

module _ {X A : Type 0} (g : X → Read A) (all : List X → Read (List A)) (r : ReadsEach g all) (ys : List A) (whole : Read (List A)) where
  module _ {P : Type 0} (f : P → X) (items : List P) (i : ℕ) (told : before ys (all (map f (drop i items))) ≡ whole) where
    module _ (d : P) (h : i < length items) where
      next_is : (o : Read A) → g (f (get_or items i d)) ≡ o → whole ≡ before ys (o >>= λ y. all (map f (drop (i + 1) items)) >>= λ zs. Ok (y ∷ zs))
      next_is o e =
          sym told
          ∙ ap (λ xs. before ys (all xs)) (map-drop_next f items i d h)
          ∙ ap (before ys) (r.next (f (get_or items i d)) (map f (drop (i + 1) items)) ∙ ap (λ o. o >>= λ y. all (map f (drop (i + 1) items)) >>= λ zs. Ok (y ∷ zs)) e)

      pub each_stops : (e : ProblemFault) → g (f (get_or items i d)) ≡ Err e → whole ≡ Err e
      each_stops e h = next_is (Err e) h

      pub each_goes_on : (y : A) → g (f (get_or items i d)) ≡ Ok y → before (ys ++ y ∷ []) (all (map f (drop (i + 1) items))) ≡ whole
      each_goes_on y h = sym (next_is (Ok y) h ∙ by (all (map f (drop (i + 1) items))))
        where
          by : (o : Read (List A)) → before ys (o >>= λ zs. Ok (y ∷ zs)) ≡ before (ys ++ y ∷ []) o
          by (Ok zs) = ap (λ l. Ok l) (sym (append_assoc ys (y ∷ []) zs))
          by (Err e) = refl

    pub each_ends : length items ≤ i → whole ≡ Ok ys
    each_ends h = sym told ∙ ap (λ xs. before ys (all (map f xs))) (drop_of_length-le items h) ∙ ap (before ys) r.none ∙ ap (λ l. Ok l) (append-nil ys)

pub reads_parsed : (names : List (List ℕ)) (line : ℕ) → ReadsEach (λ part. text_read line (parse names part)) (parsed names line)
unfolding parsed
reads_parsed names line = record { none = refl; next = λ x xs. refl }

pub reads_evaluated : (s : Signature) (line : ℕ) → ReadsEach (λ p. value_read line (value_of program s p)) (evaluated s line)
unfolding evaluated
reads_evaluated s line = record { none = refl; next = λ x xs. refl }

-- ---- rows

abbrev pub rows_before : List (Row rationals) → Read (List (Row rationals) × Cursor) → Read (List (Row rationals) × Cursor)
rows_before rs r = r >>= λ x. Ok (rs ++ x.0, x.1)

module _ (f : Frame) (p : ℕ) (rs : List (Row rationals)) (c : Cursor) (whole : Read (List (Row rationals) × Cursor)) where
  module _ (n : ℕ) (told : rows_before rs (rows_after f p (suc n) c) ≡ whole) where
    pub rows_stop : (e : ProblemFault) → row_after f p c ≡ Err e → whole ≡ Err e
    unfolding rows_after
    rows_stop e h = sym told ∙ ap (λ o. rows_before rs (o >>= λ r. rows_after f p n r.1 >>= λ qs. Ok (r.0 ∷ qs.0, qs.1))) h

    pub rows_go_on : (r : Row rationals) (d : Cursor) → row_after f p c ≡ Ok (r, d) → rows_before (rs ++ r ∷ []) (rows_after f p n d) ≡ whole
    unfolding rows_after
    rows_go_on r d h = sym (sym told ∙ ap (λ o. rows_before rs (o >>= λ r. rows_after f p n r.1 >>= λ qs. Ok (r.0 ∷ qs.0, qs.1))) h ∙ by (rows_after f p n d))
      where
        by : (o : Read (List (Row rationals) × Cursor)) → rows_before rs (o >>= λ qs. Ok (r ∷ qs.0, qs.1)) ≡ rows_before (rs ++ r ∷ []) o
        by (Ok qs) = ap (λ l. Ok (l, qs.1)) (sym (append_assoc rs (r ∷ []) qs.0))
        by (Err e) = refl

  pub rows_end : rows_before rs (rows_after f p 0 c) ≡ whole → whole ≡ Ok (rs, c)
  unfolding rows_after
  rows_end told = sym told ∙ ap (λ l. Ok (l, c)) (append-nil rs)
