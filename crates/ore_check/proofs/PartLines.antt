-- Each part of the text of a certificate begins at the line of its place.
--     follow, ends               a part, and those behind it; behind the last
--     LinesOf                    a layout gives the lines of a section
--     exact_follow, outside_follow     the parts of a block
--     links_follow               the parts of links
--     parts_follow               those of a certificate
--     exact_joined, outside_joined, links_joined, rest_joined     the text of a block, of links and of a certificate is that of the parts
--     parts_begin                both
use Rattle.std.proofs.Common.{◌≡◌, ℕ, suc, ◌+◌, List, [], ◌∷◌, ◌++◌, length, refl, sym, ap, ◌∙◌, subst, append_assoc, append-nil, arith}
use Rattle.std.specs.Prelude.{codes}
use Rattle.std.specs.List.{All, flat_map}
use Rattle.std.proofs.lemmas.Grind.{flat_map-append}
use Rattle.std.proofs.lemmas.List.Elements.{All-head, All-tail}
use Rattle.ore_monomial.specs.Signature.{Signature}
use Rattle.ore_text.specs.Names.{AreNames}
use Rattle.ore_parts.specs.BlockText.{pairs_text, steps_text, matrix_part, row_part, exact_text, outside_text, IsWrittenExact, IsWrittenOutside}
use Rattle.ore_parts.specs.BlockText.{place as place_text}
use Rattle.ore_parts.specs.declared.block.ExactBlock.{ExactBlock}
use Rattle.ore_parts.specs.declared.block.OutsideBlock.{OutsideBlock}
use Rattle.ore_parts.specs.declared.block.Link.{Link}
use Rattle.ore_parts.proofs.FormatLaws.{line_count-whole}
use Rattle.ore_cert.specs.declared.certificate.Side.TheVariants.{Left, Right}
use Rattle.ore_cert.specs.declared.certificate.Certificate.{Certificate}
use Rattle.ore_cert.specs.declared.certificate.Certificate.TheVariants.{Controllable, AutonomousElement, LeftInverse, RightInverse, NoLeftInverse, NoRightInverse, Kernel, Resolution, ExtZero, ExtNonzero, Halted}
use Rattle.ore_cert.specs.WholeFormats.{operator_words}
use Rattle.ore_cert.specs.WholeText.{link_text, rest_text, IsWrittenLink, IsWrittenCertificate}
use Rattle.ore_cert.proofs.WholeLaws.{unit_words_are, operator_words_are}
use Rattle.ore_blocks.specs.declared.place.Section.{Section}
use Rattle.ore_blocks.specs.declared.place.Section.TheVariants as section
use Rattle.ore_blocks.specs.declared.place.Name.TheVariants.{Generators, Element}
use Rattle.ore_blocks.specs.declared.place.Place.{Place}
use Rattle.ore_blocks.specs.declared.place.Place.TheVariants as place
use Rattle.ore_check.specs.Check.{IsNoReport}
use Rattle.ore_check.specs.Layout.{line_behind, exact_layout, outside_layout, link_layout, behind_links, link_line, linked_line, line_of, line_in, section_of}
use Rattle.ore_check.specs.Parts.{Part, matrix_at, part_at_row, exact_parts, outside_parts, link_parts, parts_of, FollowOn}
use Rattle.ore_check.proofs.TextLines.{Spans, spans_line, matrix_spans, row_spans, pairs_span, quotients_span}

-- a part that goes on to line b, at its line, and those behind it
follow : (at : Place → ℕ) (a b : ℕ) (part : Part) (parts : List Part) → at part.0 ≡ a → Spans part.1 a b → FollowOn at b parts → FollowOn at a (part ∷ parts)
unfolding FollowOn
follow at a b part parts e (n, w, f) rest = (e, subst (λ k. FollowOn at k parts) (sym (ap (λ k. a + k) (line_count-whole n part.1 w) ∙ f)) rest)

-- behind the last part stands the end
ends : (at : Place → ℕ) (a : ℕ) → at place.End ≡ a → FollowOn at a []
unfolding FollowOn
ends at a e = e

-- a layout gives the lines of the places of a section
abbrev LinesOf : (Place → ℕ) → Section → (Place → ℕ) → Type 0
LinesOf at part lines = (p : Place) → section_of p ≡ part → at p ≡ lines p

module _ (s : Signature) (names : List (List ℕ)) (are : AreNames names) (fit : length names ≡ length s.kinds) where
  exact_follow : (at : Place → ℕ) (part : Section) (claim a : ℕ) (b : ExactBlock) (parts : List Part) → IsWrittenExact s names b → LinesOf at part (line_of (exact_layout claim a b) b.pairs)
      → FollowOn at (exact_layout claim a b).end parts → FollowOn at a (exact_parts names s.order part b ++ parts)
  exact_follow at part claim a b parts h lines rest =
      let l = exact_layout claim a b in
      follow at a (suc a) (place.Block part, codes "block exact\n") _ (lines (place.Block part) refl) (spans_line (codes "block exact") a refl)
      (follow at (suc a) l.from _ _ (lines _ refl) (matrix_spans s names are fit (codes "basis") b.basis (suc a) refl)
      (follow at l.from l.to _ _ (lines _ refl) (matrix_spans s names are fit (codes "from") b.from l.from refl)
      (follow at l.to l.pairs _ _ (lines _ refl) (matrix_spans s names are fit (codes "to") b.to l.to refl)
      (follow at l.pairs l.inside _ _ (lines _ refl) (pairs_span s names are fit b.pairs l.pairs h.pairs)
      (follow at l.inside l.end _ _ (lines _ refl) (matrix_spans s names are fit (codes "inside") b.inside l.inside refl) rest)))))

  outside_follow : (at : Place → ℕ) (claim a : ℕ) (b : OutsideBlock) → IsWrittenOutside s names b → LinesOf at section.Body (line_of (outside_layout claim a b) b.pairs)
      → FollowOn at a (outside_parts names s.order b)
  outside_follow at claim a b h lines =
      let l = outside_layout claim a b in
      follow at a (suc a) (place.Block section.Body, codes "block outside\n") _ (lines (place.Block section.Body) refl) (spans_line (codes "block outside") a refl)
      (follow at (suc a) l.from _ _ (lines _ refl) (matrix_spans s names are fit (codes "basis") b.basis (suc a) refl)
      (follow at l.from l.pairs _ _ (lines _ refl) (matrix_spans s names are fit (codes "from") b.from l.from refl)
      (follow at l.pairs l.steps _ _ (lines _ refl) (pairs_span s names are fit b.pairs l.pairs h.pairs)
      (follow at l.steps l.rest _ _ (lines (place.Step 0) refl ∙ (let e : l.steps + 0 ≡ l.steps = omega arith in e)) (quotients_span s names are fit b.quotients l.steps h.quotients)
      (follow at l.rest l.end _ _ (lines _ refl) (row_spans s names are fit (codes "rest") b.rest l.rest refl) (ends at l.end (lines place.End refl)))))))

  -- ---- links

  links_follow : (at : Place → ℕ) (i a : ℕ) (ks : List Link) (parts : List Part) → All (IsWrittenLink s names) ks → ((j : ℕ) → LinesOf at (section.Link (i + j)) (link_line a ks j))
      → FollowOn at (behind_links a ks) parts → FollowOn at a (link_parts names s.order i ks ++ parts)
  unfolding link_parts behind_links link_line
  links_follow at i a [] parts h lines rest = rest
  links_follow at i a (k ∷ ks) parts h lines rest =
      let written = All-head (IsWrittenLink s names) k ks h in
      let more = link_parts names s.order (suc i) ks in
      let first = matrix_at names s.order (section.Link i) Generators (codes "L") k.l in
      let behind_block = links_follow at (suc i) (link_layout a k).end ks parts (All-tail (IsWrittenLink s names) k ks h) later rest in
      subst (FollowOn at a) (sym (append_assoc (first ∷ exact_parts names s.order (section.Link i) k.block) more parts))
      (follow at a (line_behind a k.l) first (exact_parts names s.order (section.Link i) k.block ++ (more ++ parts)) (here (place.Header (section.Link i) Generators) refl) (matrix_spans s names are fit (codes "L") k.l a refl)
      (exact_follow at (section.Link i) a (line_behind a k.l) k.block (more ++ parts) written.block here behind_block))
    where
      here : LinesOf at (section.Link i) (line_of (link_layout a k) k.block.pairs)
      here p e = lines 0 p (e ∙ ap section.Link (let n : i ≡ i + 0 = omega arith in n))

      later : (j : ℕ) → LinesOf at (section.Link (suc i + j)) (link_line (link_layout a k).end ks j)
      later j p e = lines (suc j) p (e ∙ ap section.Link (let n : suc i + j ≡ i + suc j = omega arith in n))

  -- ---- certificates

  parts_follow : (c : Certificate) → IsWrittenCertificate s names c → IsNoReport c → FollowOn (line_in c) 3 (parts_of names s.order c)
  parts_follow (Controllable q block) h claims =
      let c = Controllable q block in
      follow (line_in c) 3 (line_behind 3 q) _ _ refl (matrix_spans s names are fit (codes "Q") q 3 refl) (exact_follow (line_in c) section.Body 3 (line_behind 3 q) block [] h.1 (λ p e. refl) (ends (line_in c) _ refl))
  parts_follow (AutonomousElement element operator cofactor block) h claims =
      let c = AutonomousElement element operator cofactor block in
      follow (line_in c) 3 5 _ _ refl (row_spans s names are fit (codes "element") element 3 refl)
      (follow (line_in c) 5 6 _ _ refl (spans_line (operator_words s names (codes "operator") operator) 5 ((operator_words_are s names are fit (codes "operator") refl).lacks operator h.1))
      (follow (line_in c) 6 8 _ _ refl (row_spans s names are fit (codes "cofactor") cofactor 6 refl)
      (outside_follow (line_in c) 3 8 block h.3 (λ p e. refl))))
  parts_follow (LeftInverse m) h claims = let c = LeftInverse m in follow (line_in c) 3 (line_behind 3 m) _ _ refl (matrix_spans s names are fit (codes "S") m 3 refl) (ends (line_in c) _ refl)
  parts_follow (RightInverse m) h claims = let c = RightInverse m in follow (line_in c) 3 (line_behind 3 m) _ _ refl (matrix_spans s names are fit (codes "S") m 3 refl) (ends (line_in c) _ refl)
  parts_follow (NoLeftInverse unit block) h claims =
      let c = NoLeftInverse unit block in
      follow (line_in c) 3 4 _ _ refl (spans_line (codes "unit " ++ place_text unit) 3 (unit_words_are.lacks unit h.0)) (outside_follow (line_in c) 3 4 block h.1 (λ p e. refl))
  parts_follow (NoRightInverse unit block) h claims =
      let c = NoRightInverse unit block in
      follow (line_in c) 3 4 _ _ refl (spans_line (codes "unit " ++ place_text unit) 3 (unit_words_are.lacks unit h.0)) (outside_follow (line_in c) 3 4 block h.1 (λ p e. refl))
  parts_follow (Kernel Left m block) h claims =
      let c = Kernel Left m block in
      follow (line_in c) 3 (line_behind 3 m) _ _ refl (matrix_spans s names are fit (codes "L") m 3 refl) (exact_follow (line_in c) section.Body 3 (line_behind 3 m) block [] h.1 (λ p e. refl) (ends (line_in c) _ refl))
  parts_follow (Kernel Right m block) h claims =
      let c = Kernel Right m block in
      follow (line_in c) 3 (line_behind 3 m) _ _ refl (matrix_spans s names are fit (codes "Q") m 3 refl) (exact_follow (line_in c) section.Body 3 (line_behind 3 m) block [] h.1 (λ p e. refl) (ends (line_in c) _ refl))
  parts_follow (Resolution links) h claims =
      let c = Resolution links in
      subst (FollowOn (line_in c) 3) (append-nil (link_parts names s.order 0 links))
      (links_follow (line_in c) 0 3 links [] h.all (λ j p e. ap (linked_line links (behind_links 3 links) p) e ∙ ap (λ n. link_line 3 links n p) (let n : 0 + j ≡ j = omega arith in n)) (ends (line_in c) _ refl))
  parts_follow (ExtZero links block) h claims =
      let c = ExtZero links block in
      let a = behind_links 3 links in
      links_follow (line_in c) 0 3 links _ h.0.all (λ j p e. ap (linked_line links (line_of (exact_layout 0 a block) block.pairs p) p) e ∙ ap (λ n. link_line 3 links n p) (let n : 0 + j ≡ j = omega arith in n))
      (exact_follow (line_in c) section.Body 0 a block [] h.1 (λ p e. ap (linked_line links (line_of (exact_layout 0 a block) block.pairs p) p) e) (ends (line_in c) _ refl))
  parts_follow (ExtNonzero links element block) h claims =
      let c = ExtNonzero links element block in
      let a = behind_links 3 links in
      links_follow (line_in c) 0 3 links _ h.0.all (λ j p e. ap (linked_line links (line_of (outside_layout a (a + 2) block) block.pairs p) p) e ∙ ap (λ n. link_line 3 links n p) (let n : 0 + j ≡ j = omega arith in n))
      (follow (line_in c) a (a + 2) _ _ refl (row_spans s names are fit (codes "element") element a refl)
      (outside_follow (line_in c) a (a + 2) block h.2 (λ p e. ap (linked_line links (line_of (outside_layout a (a + 2) block) block.pairs p) p) e)))
  parts_follow (Halted report) h claims = absurd claims

  -- ---- texts

  abbrev joined : List Part → List ℕ
  joined parts = flat_map (λ part. part.1) parts

  exact_joined : (part : Section) (b : ExactBlock) → exact_text names s.order b ≡ joined (exact_parts names s.order part b)
  exact_joined part b =
      ap (λ t. codes "block exact\n" ++ (matrix_part names s.order (codes "basis") b.basis ++ (matrix_part names s.order (codes "from") b.from ++ (matrix_part names s.order (codes "to") b.to ++ (pairs_text names s.order b.pairs ++ t)))))
      (sym (append-nil (matrix_part names s.order (codes "inside") b.inside)))

  outside_joined : (b : OutsideBlock) → outside_text names s.order b ≡ joined (outside_parts names s.order b)
  outside_joined b =
      ap (λ t. codes "block outside\n" ++ (matrix_part names s.order (codes "basis") b.basis ++ (matrix_part names s.order (codes "from") b.from ++ (pairs_text names s.order b.pairs ++ (steps_text names s.order b.quotients ++ t)))))
      (sym (append-nil (row_part names s.order (codes "rest") b.rest)))

  links_joined : (i : ℕ) (ks : List Link) → flat_map (link_text names s.order) ks ≡ joined (link_parts names s.order i ks)
  unfolding link_parts
  links_joined i [] = refl
  links_joined i (k ∷ ks) =
      let first = matrix_part names s.order (codes "L") k.l in
      (λ n. (first ++ exact_joined (section.Link i) k.block n) ++ links_joined (suc i) ks n)
      ∙ sym (flat_map-append (λ part. part.1) (matrix_at names s.order (section.Link i) Generators (codes "L") k.l ∷ exact_parts names s.order (section.Link i) k.block) (link_parts names s.order (suc i) ks))

  rest_joined : (c : Certificate) → IsNoReport c → rest_text names s.order c ≡ joined (parts_of names s.order c)
  rest_joined (Controllable q block) claims = ap (λ t. matrix_part names s.order (codes "Q") q ++ t) (exact_joined section.Body block)
  rest_joined (AutonomousElement element operator cofactor block) claims =
      ap (λ t. row_part names s.order (codes "element") element ++ ((operator_words s names (codes "operator") operator ++ 10 ∷ []) ++ (row_part names s.order (codes "cofactor") cofactor ++ t))) (outside_joined block)
  rest_joined (LeftInverse m) claims = sym (append-nil (matrix_part names s.order (codes "S") m))
  rest_joined (RightInverse m) claims = sym (append-nil (matrix_part names s.order (codes "S") m))
  rest_joined (NoLeftInverse unit block) claims = ap (λ t. (codes "unit " ++ place_text unit ++ 10 ∷ []) ++ t) (outside_joined block)
  rest_joined (NoRightInverse unit block) claims = ap (λ t. (codes "unit " ++ place_text unit ++ 10 ∷ []) ++ t) (outside_joined block)
  rest_joined (Kernel Left m block) claims = ap (λ t. matrix_part names s.order (codes "L") m ++ t) (exact_joined section.Body block)
  rest_joined (Kernel Right m block) claims = ap (λ t. matrix_part names s.order (codes "Q") m ++ t) (exact_joined section.Body block)
  rest_joined (Resolution links) claims = links_joined 0 links
  rest_joined (ExtZero links block) claims =
      (λ n. links_joined 0 links n ++ exact_joined section.Body block n) ∙ sym (flat_map-append (λ part. part.1) (link_parts names s.order 0 links) (exact_parts names s.order section.Body block))
  rest_joined (ExtNonzero links element block) claims =
      (λ n. links_joined 0 links n ++ (row_part names s.order (codes "element") element ++ outside_joined block n))
      ∙ sym (flat_map-append (λ part. part.1) (link_parts names s.order 0 links) (part_at_row names s.order Element (codes "element") element ∷ outside_parts names s.order block))
  rest_joined (Halted report) claims = absurd claims

  pub parts_begin : (c : Certificate) → IsWrittenCertificate s names c → IsNoReport c → (rest_text names s.order c ≡ flat_map (λ part. part.1) (parts_of names s.order c)) × FollowOn (line_in c) 3 (parts_of names s.order c)
  parts_begin c h claims = (rest_joined c claims, parts_follow c h claims)
