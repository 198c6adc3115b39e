-- The line of a row is that of one row.
--     stop_cancel          what stands before a comma or a line end
--     row_same             rows of the same width with the same line
--     stored_same          stored rows of a signature with the same operators
--     no_stop, is_no_stop, rest_lacks     a byte that is no comma and no line end; texts of such bytes
--     text_of, lacks       the canonical text of an operator, without commas and line ends
--     listed_line, listed_more, listed_same     operators with commas between, and a line end
--     ArePrintable         each operator may be written
--     first_of_rows        the first entries of equal rows, and the others
use Rattle.std.proofs.Common.{◌≡◌, ℕ, Bool, true, false, true≢false, not, ◌&&◌, List, [], ◌∷◌, ◌++◌, length, map, refl, sym, ap, ◌∙◌, append_assoc, arith}
use Rattle.std.specs.Prelude.{codes}
use Rattle.std.specs.List.{list_all, All, AllByRecursion}
use Rattle.std.proofs.lemmas.List.{append_cancel_left}
use Rattle.std.proofs.lemmas.List.Elements.{All-head, All-tail}
use Rattle.ore_algebra.proofs.ListLaws.{same_cons}
use Rattle.ore_rational.specs.Field.{rationals}
use Rattle.ore_monomial.specs.Signature.{Signature}
use Rattle.ore_monomial.specs.LetterRule.{Operator}
use Rattle.ore_ring.specs.Belongs.{Belongs}
use Rattle.ore_ring.specs.Ordered.{Ordered}
use Rattle.ore_rows.specs.Rows.{Row}
use Rattle.ore_rows.specs.Stored.{sums_of}
use Rattle.ore_text.specs.CanonicalText.{operator_text}
use Rattle.ore_text.specs.Printable.{IsPrintable}
use Rattle.ore_text.specs.Names.{AreNames}
use Rattle.ore_text.specs.RowParts.{is_stop, LacksStops}
use Rattle.ore_text.specs.RowText.{listed, row_text}
use Rattle.ore_text.proofs.CanonicalUnique.{canonical_is_unique}
use Rattle.ore_text.proofs.RowBytes.{LacksStops-operator}
use Rattle.ore_parts.specs.CertificateText.{IsRowOf}

abbrev no_stop : ℕ → Bool
no_stop b = not (is_stop b)

is_no_stop : (x : ℕ) (xs : List ℕ) → LacksStops (x ∷ xs) → is_stop x ≡ true → ⊥
is_no_stop x xs h e = true≢false (sym h ∙ (λ i. not (e i) && list_all no_stop xs))

rest_lacks : (x : ℕ) (xs : List ℕ) → LacksStops (x ∷ xs) → LacksStops xs
rest_lacks x xs h = by (no_stop x) h
  where
    by : (t : Bool) → (t && list_all no_stop xs) ≡ true → LacksStops xs
    by true h = h
    by false h = absurd (true≢false (sym h))

pub stop_cancel : (a b : List ℕ) (x y : ℕ) (u v : List ℕ) → LacksStops a → LacksStops b → is_stop x ≡ true → is_stop y ≡ true → a ++ x ∷ u ≡ b ++ y ∷ v → (a ≡ b) × (u ≡ v)
stop_cancel [] [] x y u v h k s t e = (refl, (same_cons x y u v e).1)
stop_cancel [] (c ∷ b) x y u v h k s t e = absurd (is_no_stop c b k (ap is_stop (sym (same_cons x c u (b ++ y ∷ v) e).0) ∙ s))
stop_cancel (c ∷ a) [] x y u v h k s t e = absurd (is_no_stop c a h (ap is_stop (same_cons c y (a ++ x ∷ u) v e).0 ∙ t))
stop_cancel (c ∷ a) (d ∷ b) x y u v h k s t e =
    let parts = same_cons c d (a ++ x ∷ u) (b ++ y ∷ v) e in
    let r = stop_cancel a b x y u v (rest_lacks c a h) (rest_lacks d b k) s t parts.1 in
    (λ i. parts.0 i ∷ r.0 i, r.1)

module _ (s : Signature) (names : List (List ℕ)) (are : AreNames names) where
  abbrev text_of : Operator rationals → List ℕ
  text_of f = operator_text names s.order f

  lacks : (f : Operator rationals) → LacksStops (text_of f)
  lacks f = LacksStops-operator names s.order f are

  abbrev listed_line : Row rationals → List ℕ
  listed_line fs = listed (map text_of fs) ++ 10 ∷ []

  listed_more : (f g : Operator rationals) (fs : Row rationals) → listed_line (f ∷ g ∷ fs) ≡ text_of f ++ 44 ∷ (32 ∷ listed_line (g ∷ fs))
  listed_more f g fs = append_assoc (text_of f) (codes ", " ++ listed (map text_of (g ∷ fs))) (10 ∷ [])

  abbrev ArePrintable : Row rationals → Type 0
  ArePrintable = AllByRecursion (IsPrintable s names)

  listed_same : (fs gs : Row rationals) → length fs ≡ length gs → ArePrintable fs → ArePrintable gs → listed_line fs ≡ listed_line gs → fs ≡ gs
  listed_same [] [] l h k e = refl
  listed_same [] (g ∷ gs) l h k e = absurd (let z : ⊥ = omega arith in z)
  listed_same (f ∷ fs) [] l h k e = absurd (let z : ⊥ = omega arith in z)
  listed_same (f ∷ []) (g ∷ []) l h k e =
      let r = stop_cancel (text_of f) (text_of g) 10 10 [] [] (lacks f) (lacks g) refl refl e in
      ap (λ x. x ∷ []) (canonical_is_unique s names f g h.0 k.0 r.0)
  listed_same (f ∷ []) (g ∷ y ∷ gs) l h k e = absurd (let z : ⊥ = omega arith in z)
  listed_same (f ∷ x ∷ fs) (g ∷ []) l h k e = absurd (let z : ⊥ = omega arith in z)
  listed_same (f ∷ x ∷ fs) (g ∷ y ∷ gs) l h k e =
      let r = stop_cancel (text_of f) (text_of g) 44 44 (32 ∷ listed_line (x ∷ fs)) (32 ∷ listed_line (y ∷ gs)) (lacks f) (lacks g) refl refl (sym (listed_more f x fs) ∙ e ∙ listed_more g y gs) in
      let first = canonical_is_unique s names f g h.0 k.0 r.0 in
      let m : length (x ∷ fs) ≡ length (y ∷ gs) = omega (arith, l) in
      let rest = listed_same (x ∷ fs) (y ∷ gs) m h.1 k.1 (same_cons 32 32 (listed_line (x ∷ fs)) (listed_line (y ∷ gs)) r.1).1 in
      λ i. first i ∷ rest i

  pub row_same : (cols : ℕ) (fs gs : Row rationals) → IsRowOf s names cols fs → IsRowOf s names cols gs → row_text names s.order fs ≡ row_text names s.order gs → fs ≡ gs
  row_same cols [] [] h k e = refl
  row_same cols [] (g ∷ gs) h k e = absurd (let a = h.width in let b = k.width in let z : ⊥ = omega arith in z)
  row_same cols (f ∷ fs) [] h k e = absurd (let a = h.width in let b = k.width in let z : ⊥ = omega arith in z)
  row_same cols (f ∷ fs) (g ∷ gs) h k e = listed_same (f ∷ fs) (g ∷ gs) (h.width ∙ sym k.width) h.entries k.entries (append_cancel_left (codes "row ") (listed_line (f ∷ fs)) (listed_line (g ∷ gs)) e)

first_of_rows : (f g : Operator rationals) (fs gs : Row rationals) → f ∷ fs ≡ g ∷ gs → (f ≡ g) × (fs ≡ gs)
first_of_rows f g fs gs e = (cc, cc)

pub stored_same : (s : Signature) (xs ys : List Ordered) → All (Belongs s) xs → All (Belongs s) ys → sums_of xs ≡ sums_of ys → xs ≡ ys
stored_same s [] [] h k e = refl
stored_same s [] (y ∷ ys) h k e = absurd (let l = ap length e in let z : ⊥ = omega (arith, l) in z)
stored_same s (x ∷ xs) [] h k e = absurd (let l = ap length e in let z : ⊥ = omega (arith, l) in z)
stored_same s (x ∷ xs) (y ∷ ys) h k e =
    let both = first_of_rows x.sum y.sum (sums_of xs) (sums_of ys) e in
    let order = (All-head (Belongs s) x xs h).order ∙ sym (All-head (Belongs s) y ys k).order in
    let rest = stored_same s xs ys (All-tail (Belongs s) x xs h) (All-tail (Belongs s) y ys k) both.1 in
    λ i. record { by = order i; sum = both.0 i } ∷ rest i
