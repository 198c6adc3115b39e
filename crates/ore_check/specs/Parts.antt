-- The parts of the text of a certificate behind the line of its kind, each with its place.
--     Part                            a place, and the text that begins there
--     matrix_at, part_at_row          a matrix of a section; a row as a matrix of one row
--     exact_parts, outside_parts      the parts of a block
--     link_parts                      those of links, from number i on
--     parts_of                        those of a certificate, in their order
--     FollowOn                        each part begins at the line of its place, behind those before it
use Rattle.std.specs.Prelude.{◌≡◌, ℕ, suc, ◌+◌, List, [], ◌∷◌, ◌++◌, codes}
use Rattle.ore_monomial.specs.declared.order.Order.{Order}
use Rattle.ore_ring.specs.Ordered.{Ordered}
use Rattle.ore_rows.specs.Stored.{OperatorMatrix}
use Rattle.ore_text.specs.Lines.{line}
use Rattle.ore_parts.specs.BlockText.{pairs_text, steps_text, matrix_part, row_part}
use Rattle.ore_parts.specs.BlockText.{place as place_text}
use Rattle.ore_parts.specs.Formats.{line_count}
use Rattle.ore_parts.specs.declared.block.ExactBlock.{ExactBlock}
use Rattle.ore_parts.specs.declared.block.OutsideBlock.{OutsideBlock}
use Rattle.ore_parts.specs.declared.block.Link.{Link}
use Rattle.ore_cert.specs.declared.certificate.Certificate.{Certificate}
use Rattle.ore_cert.specs.declared.certificate.Certificate.TheVariants.{Controllable, AutonomousElement, LeftInverse, RightInverse, NoLeftInverse, NoRightInverse, Kernel, Resolution, ExtZero, ExtNonzero, Halted}
use Rattle.ore_cert.specs.WholeText.{generators_name, operator_line}
use Rattle.ore_blocks.specs.declared.place.Section.{Section}
use Rattle.ore_blocks.specs.declared.place.Section.TheVariants as section
use Rattle.ore_blocks.specs.declared.place.Name.{Name}
use Rattle.ore_blocks.specs.declared.place.Name.TheVariants.{Generators, Inverse, Element, Cofactor, Basis, From, To, Inside, Rest}
use Rattle.ore_blocks.specs.declared.place.Place.{Place}
use Rattle.ore_blocks.specs.declared.place.Place.TheVariants as place

-- a place, and the text that begins there
abbrev pub Part : Type 0
Part = Place × List ℕ

module _ (names : List (List ℕ)) (o : Order) where
  -- its header stands first
  abbrev pub matrix_at : Section → Name → List ℕ → OperatorMatrix → Part
  matrix_at at name word m = (place.Header at name, matrix_part names o word m)

  -- the same of a row
  abbrev pub part_at_row : Name → List ℕ → List Ordered → Part
  part_at_row name word r = (place.Header section.Body name, row_part names o word r)

  -- the line `block exact`, and then the parts in this order
  abbrev pub exact_parts : Section → ExactBlock → List Part
  exact_parts at b = (place.Block at, codes "block exact\n") ∷ matrix_at at Basis (codes "basis") b.basis ∷ matrix_at at From (codes "from") b.from ∷ matrix_at at To (codes "to") b.to
      ∷ (place.Pairs at, pairs_text names o b.pairs) ∷ matrix_at at Inside (codes "inside") b.inside ∷ []

  -- the line `block outside`, and then the parts in this order
  abbrev pub outside_parts : OutsideBlock → List Part
  outside_parts b = (place.Block section.Body, codes "block outside\n") ∷ matrix_at section.Body Basis (codes "basis") b.basis ∷ matrix_at section.Body From (codes "from") b.from
      ∷ (place.Pairs section.Body, pairs_text names o b.pairs) ∷ (place.Step 0, steps_text names o b.quotients) ∷ part_at_row Rest (codes "rest") b.rest ∷ []

  -- of each link the matrix and the parts of its block
  unfoldable pub link_parts : ℕ → List Link → List Part
  link_parts i [] = []
  link_parts i (k ∷ ks) = (matrix_at (section.Link i) Generators (codes "L") k.l ∷ exact_parts (section.Link i) k.block) ++ link_parts (suc i) ks

  -- kind by kind; a report has no places
  abbrev pub parts_of : Certificate → List Part
  parts_of (Controllable q block) = matrix_at section.Body Generators (codes "Q") q ∷ exact_parts section.Body block
  parts_of (AutonomousElement element operator cofactor block) = part_at_row Element (codes "element") element ∷ (place.Operator, operator_line names o (codes "operator") operator)
      ∷ part_at_row Cofactor (codes "cofactor") cofactor ∷ outside_parts block
  parts_of (LeftInverse m) = matrix_at section.Body Inverse (codes "S") m ∷ []
  parts_of (RightInverse m) = matrix_at section.Body Inverse (codes "S") m ∷ []
  parts_of (NoLeftInverse unit block) = (place.Unit, line (codes "unit" ∷ place_text unit ∷ [])) ∷ outside_parts block
  parts_of (NoRightInverse unit block) = (place.Unit, line (codes "unit" ∷ place_text unit ∷ [])) ∷ outside_parts block
  parts_of (Kernel side generators block) = matrix_at section.Body Generators (generators_name side) generators ∷ exact_parts section.Body block
  parts_of (Resolution links) = link_parts 0 links
  parts_of (ExtZero links block) = link_parts 0 links ++ exact_parts section.Body block
  parts_of (ExtNonzero links element block) = link_parts 0 links ++ (part_at_row Element (codes "element") element ∷ outside_parts block)
  parts_of (Halted report) = []

-- from a line on; behind the last part stands the end
unfoldable pub FollowOn : (Place → ℕ) → ℕ → List Part → Type 0
FollowOn line a [] = line place.End ≡ a
FollowOn line a (part ∷ parts) = (line part.0 ≡ a) × FollowOn line (a + line_count part.1) parts
