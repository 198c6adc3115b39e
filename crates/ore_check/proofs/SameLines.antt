-- Lines that are the same, or both past 2^64 - 1.
--     same_capped            the answer has one number for both
--     same_up, same_trans, same_back     what is behind them; by way of a third; the other way round
--     first_next, first_all  the line behind one link more, and behind all
--     line_there, line_past  the line of a place in a link that is there, and past the last link
--     exact_start, outside_start, exact_moves, outside_moves     what begins at a line, and the line of a place, where the section
--         begins at the one line or the other
--     link_moves, end_moves  the same of a link
use Rattle.std.proofs.Common.{◌≡◌, ℕ, zero, suc, ◌+◌, ◌<◌, ◌≤◌, ◌^◌, List, [], ◌∷◌, length, cond, refl, inl, inr, sym, ap, ◌∙◌, subst, Some, arith}
use Rattle.std.proofs.lemmas.Bool.{lt-leb}
use Rattle.std.specs.List.{slice_get}
use Rattle.ore_parts.specs.declared.block.PairEntry.{PairEntry}
use Rattle.ore_parts.specs.declared.block.ExactBlock.{ExactBlock}
use Rattle.ore_parts.specs.declared.block.OutsideBlock.{OutsideBlock}
use Rattle.ore_parts.specs.declared.block.Link.{Link}
use Rattle.ore_blocks.specs.declared.place.Name.{Name}
use Rattle.ore_blocks.specs.declared.place.Name.TheVariants.{Generators, Inverse, Element, Cofactor, Basis, From, To, Inside, Rest}
use Rattle.ore_blocks.specs.declared.place.Place.{Place}
use Rattle.ore_blocks.specs.declared.place.Place.TheVariants as place
use Rattle.ore_check.specs.Check.{capped}
use Rattle.ore_check.specs.InnerContracts.{AreSameLine, behind_first}
use Rattle.ore_check.specs.Layout.{exact_layout, outside_layout, link_layout, start_of, line_of, behind_links, link_line}

far : (n : ℕ) → 2 ^ 64 ≤ n → capped n ≡ 18446744073709551615
far n h = let past : 18446744073709551615 < n = omega (arith, h) in ap (λ b. cond b n 18446744073709551615) (lt-leb n 18446744073709551615 past)

pub same_capped : (a b : ℕ) → AreSameLine a b → capped a ≡ capped b
same_capped a b (inl e) = ap capped e
same_capped a b (inr (x, y)) = far a x ∙ sym (far b y)

-- a line that another line determines, and that isn't before it
pub same_up : (a b : ℕ) (f : ℕ → ℕ) → ((n : ℕ) → n ≤ f n) → AreSameLine a b → AreSameLine (f a) (f b)
same_up a b f up (inl e) = inl (ap f e)
same_up a b f up (inr (x, y)) = inr (let h = up a in omega (arith, h, x), let h = up b in omega (arith, h, y))

pub same_trans : (a b c : ℕ) → AreSameLine a b → AreSameLine b c → AreSameLine a c
same_trans a b c (inl e) h = subst (λ n. AreSameLine n c) (sym e) h
same_trans a b c (inr (x, y)) (inl e) = inr (x, subst (λ n. 2 ^ 64 ≤ n) e y)
same_trans a b c (inr (x, y)) (inr (u, v)) = inr (x, v)

pub same_back : (a b : ℕ) → AreSameLine a b → AreSameLine b a
same_back a b (inl e) = inl (sym e)
same_back a b (inr (x, y)) = inr (y, x)

-- ---- links

behind_next : (line : ℕ) (ks : List Link) (i : ℕ) (k : Link) → slice_get ks i ≡ Some k → behind_first line ks (suc i) ≡ (link_layout (behind_first line ks i) k).end
unfolding behind_first
behind_next line [] i k at = absurd cc
behind_next line (x ∷ ks) zero k at = let same : x ≡ k = cc in ap (λ (y : Link). (link_layout line y).end) same
behind_next line (x ∷ ks) (suc i) k at = behind_next (link_layout line x).end ks i k at

pub first_next : (line : ℕ) (ks : List Link) (i : ℕ) (k : Link) → slice_get ks i ≡ Some k → behind_first line ks (i + 1) ≡ (link_layout (behind_first line ks i) k).end
first_next line ks i k at = let e : i + 1 ≡ suc i = omega arith in ap (behind_first line ks) e ∙ behind_next line ks i k at

behind_all : (line : ℕ) (ks : List Link) → behind_first line ks (length ks) ≡ behind_links line ks
unfolding behind_first behind_links
behind_all line [] = refl
behind_all line (x ∷ ks) = behind_all (link_layout line x).end ks

pub first_all : (line : ℕ) (ks : List Link) (k : ℕ) → k ≡ length ks → behind_first line ks k ≡ behind_links line ks
first_all line ks k all = ap (behind_first line ks) all ∙ behind_all line ks

pub line_there : (line : ℕ) (ks : List Link) (i : ℕ) (k : Link) (p : Place) → slice_get ks i ≡ Some k → link_line line ks i p ≡ line_of (link_layout (behind_first line ks i) k) k.block.pairs p
unfolding behind_first link_line
line_there line [] i k p at = absurd cc
line_there line (x ∷ ks) zero k p at = let same : x ≡ k = cc in ap (λ (y : Link). line_of (link_layout line y) y.block.pairs p) same
line_there line (x ∷ ks) (suc i) k p at = line_there (link_layout line x).end ks i k p at

pub line_past : (line : ℕ) (ks : List Link) (i : ℕ) (p : Place) → length ks ≤ i → link_line line ks i p ≡ behind_first line ks (length ks)
unfolding behind_first link_line
line_past line [] i p h = refl
line_past line (x ∷ ks) zero p h = absurd (omega arith)
line_past line (x ∷ ks) (suc i) p h = line_past (link_layout line x).end ks i p (omega arith)

-- ---- sections that begin at the one or the other line

module _ (a b c d : ℕ) (claims : AreSameLine a b) (blocks : AreSameLine c d) where
  module _ (block : ExactBlock) where
    pub exact_start : (name : Name) → AreSameLine (start_of (exact_layout a c block) name) (start_of (exact_layout b d block) name)
    exact_start Generators = claims
    exact_start Inverse = claims
    exact_start Element = claims
    exact_start Cofactor = same_up a b (λ n. n + 3) (λ n. omega arith) claims
    exact_start Basis = same_up c d (λ n. suc n) (λ n. omega arith) blocks
    exact_start From = same_up c d (λ n. (exact_layout a n block).from) (λ n. omega arith) blocks
    exact_start To = same_up c d (λ n. (exact_layout a n block).to) (λ n. omega arith) blocks
    exact_start Inside = same_up c d (λ n. (exact_layout a n block).inside) (λ n. omega arith) blocks
    exact_start Rest = inl refl

    pub exact_moves : (es : List PairEntry) (p : Place) → AreSameLine (line_of (exact_layout a c block) es p) (line_of (exact_layout b d block) es p)
    exact_moves es (place.Header at name) = exact_start name
    exact_moves es (place.Row at name k) = same_up (start_of (exact_layout a c block) name) (start_of (exact_layout b d block) name) (λ n. suc (n + k)) (λ n. omega arith) (exact_start name)
    exact_moves es place.Operator = same_up a b (λ n. n + 2) (λ n. omega arith) claims
    exact_moves es place.Unit = claims
    exact_moves es (place.Block at) = blocks
    exact_moves es (place.Pairs at) = same_up c d (λ n. (exact_layout a n block).pairs) (λ n. omega arith) blocks
    exact_moves es (place.Pair at k m) = same_up c d (λ n. line_of (exact_layout a n block) es (place.Pair at k m)) (λ n. omega arith) blocks
    exact_moves es (place.Step n) = inl refl
    exact_moves es place.End = same_up c d (λ n. (exact_layout a n block).end) (λ n. omega arith) blocks

  module _ (block : OutsideBlock) where
    pub outside_start : (name : Name) → AreSameLine (start_of (outside_layout a c block) name) (start_of (outside_layout b d block) name)
    outside_start Generators = claims
    outside_start Inverse = claims
    outside_start Element = claims
    outside_start Cofactor = same_up a b (λ n. n + 3) (λ n. omega arith) claims
    outside_start Basis = same_up c d (λ n. suc n) (λ n. omega arith) blocks
    outside_start From = same_up c d (λ n. (outside_layout a n block).from) (λ n. omega arith) blocks
    outside_start To = inl refl
    outside_start Inside = inl refl
    outside_start Rest = same_up c d (λ n. (outside_layout a n block).rest) (λ n. omega arith) blocks

    pub outside_moves : (es : List PairEntry) (p : Place) → AreSameLine (line_of (outside_layout a c block) es p) (line_of (outside_layout b d block) es p)
    outside_moves es (place.Header at name) = outside_start name
    outside_moves es (place.Row at name k) = same_up (start_of (outside_layout a c block) name) (start_of (outside_layout b d block) name) (λ n. suc (n + k)) (λ n. omega arith) (outside_start name)
    outside_moves es place.Operator = same_up a b (λ n. n + 2) (λ n. omega arith) claims
    outside_moves es place.Unit = claims
    outside_moves es (place.Block at) = blocks
    outside_moves es (place.Pairs at) = same_up c d (λ n. (outside_layout a n block).pairs) (λ n. omega arith) blocks
    outside_moves es (place.Pair at k m) = same_up c d (λ n. line_of (outside_layout a n block) es (place.Pair at k m)) (λ n. omega arith) blocks
    outside_moves es (place.Step m) = same_up c d (λ n. (outside_layout a n block).steps + m) (λ n. omega arith) blocks
    outside_moves es place.End = same_up c d (λ n. (outside_layout a n block).end) (λ n. omega arith) blocks

module _ (a b : ℕ) (same : AreSameLine a b) (k : Link) where
  pub link_moves : (es : List PairEntry) (p : Place) → AreSameLine (line_of (link_layout a k) es p) (line_of (link_layout b k) es p)
  link_moves = exact_moves a b (a + suc (length k.l.rows)) (b + suc (length k.l.rows)) same (same_up a b (λ n. n + suc (length k.l.rows)) (λ n. omega arith) same) k.block

  pub end_moves : AreSameLine (link_layout a k).end (link_layout b k).end
  end_moves = link_moves [] place.End
