-- The lines at which the places of a certificate stand in its text, from 1. Conditions are said of places.
--     entry_lines, lines_before        how many lines an entry of a list of pairs has, and how many the first k have
--     line_behind                      the line behind a matrix that begins at a line
--     exact_layout, outside_layout     where the parts of a section begin whose block is exact, or outside
--     inverse_layout                   where those of an inverse begin, which has no block
--     start_of                         the line that names a matrix
--     line_of                          the line of a place, by the layout and the pairs of its section
--     section_of                       the section of a place
--     link_layout, behind_links        the layout of a link that begins at a line; the line behind some links
--     link_line, linked_line           the line of a place in one of some links; of a place in links or behind them
--     exact_line, outside_line         the line of a place of a block that begins at a line, and of its claim
--     line_in                          the line of a place of a certificate
use Rattle.std.specs.Prelude.{ℕ, zero, suc, ◌+◌, List, [], ◌∷◌, length}
use Rattle.ore_rows.specs.Stored.{OperatorMatrix}
use Rattle.ore_parts.specs.declared.block.PairEntry.{PairEntry}
use Rattle.ore_parts.specs.declared.block.PairEntry.TheVariants as entry
use Rattle.ore_parts.specs.declared.block.ExactBlock.{ExactBlock}
use Rattle.ore_parts.specs.declared.block.OutsideBlock.{OutsideBlock}
use Rattle.ore_parts.specs.declared.block.Link.{Link}
use Rattle.ore_cert.specs.declared.certificate.Certificate.{Certificate}
use Rattle.ore_cert.specs.declared.certificate.Certificate.TheVariants.{Controllable, AutonomousElement, LeftInverse, RightInverse, NoLeftInverse, NoRightInverse, Kernel, Resolution, ExtZero, ExtNonzero, Halted}
use Rattle.ore_blocks.specs.declared.place.Section.{Section}
use Rattle.ore_blocks.specs.declared.place.Section.TheVariants as section
use Rattle.ore_blocks.specs.declared.place.Name.{Name}
use Rattle.ore_blocks.specs.declared.place.Name.TheVariants.{Generators, Inverse, Element, Cofactor, Basis, From, To, Inside, Rest}
use Rattle.ore_blocks.specs.declared.place.Place.{Place}
use Rattle.ore_blocks.specs.declared.place.Place.TheVariants as place
use Rattle.ore_check.specs.declared.layout.Layout.{Layout}

-- a treated pair has a line, and one for each step; a skipped pair has a line
unfoldable pub entry_lines : PairEntry → ℕ
entry_lines (entry.Pair i j steps) = suc (length steps)
entry_lines (entry.Skip i j via) = 1

-- how many lines the first k pairs have
unfoldable pub lines_before : List PairEntry → ℕ → ℕ
lines_before [] k = 0
lines_before (e ∷ es) zero = 0
lines_before (e ∷ es) (suc k) = entry_lines e + lines_before es k

-- a matrix has a line of its own, and one for each row
abbrev pub line_behind : ℕ → OperatorMatrix → ℕ
line_behind line m = line + suc (length m.rows)

-- ---- layouts

-- the claim, and an exact block behind it: the basis, `from`, `to`, the pairs and `inside`
abbrev pub exact_layout : ℕ → ℕ → ExactBlock → Layout
exact_layout claim block b =
    let from = line_behind (suc block) b.basis in
    let to = line_behind from b.from in
    let pairs = line_behind to b.to in
    let inside = pairs + suc (lines_before b.pairs (length b.pairs)) in
    record { claim = claim; block = block; from = from; to = to; pairs = pairs; inside = inside; steps = 0; rest = 0; end = line_behind inside b.inside }

-- the claim, and an outside block behind it: the basis, `from`, the pairs, the steps and `rest`, which has one row
abbrev pub outside_layout : ℕ → ℕ → OutsideBlock → Layout
outside_layout claim block b =
    let from = line_behind (suc block) b.basis in
    let pairs = line_behind from b.from in
    let steps = pairs + suc (lines_before b.pairs (length b.pairs)) in
    let rest = steps + suc (length b.quotients) in
    record { claim = claim; block = block; from = from; to = 0; pairs = pairs; inside = 0; steps = steps; rest = rest; end = rest + 2 }

-- an inverse alone, behind the line of the kind
abbrev pub inverse_layout : OperatorMatrix → Layout
inverse_layout m = record { claim = 3; block = 0; from = 0; to = 0; pairs = 0; inside = 0; steps = 0; rest = 0; end = line_behind 3 m }

-- ---- lines

-- the operator and the cofactor row stand behind the element, which has one row
abbrev pub start_of : Layout → Name → ℕ
start_of l Generators = l.claim
start_of l Inverse = l.claim
start_of l Element = l.claim
start_of l Cofactor = l.claim + 3
start_of l Basis = suc l.block
start_of l From = l.from
start_of l To = l.to
start_of l Inside = l.inside
start_of l Rest = l.rest

-- the line of a place of the section with this layout and these pairs
abbrev pub line_of : Layout → List PairEntry → Place → ℕ
line_of l es (place.Header at name) = start_of l name
line_of l es (place.Row at name k) = suc (start_of l name + k)
line_of l es place.Operator = l.claim + 2
line_of l es place.Unit = l.claim
line_of l es (place.Block at) = l.block
line_of l es (place.Pairs at) = l.pairs
line_of l es (place.Pair at k n) = suc (l.pairs + (lines_before es k + n))
line_of l es (place.Step n) = l.steps + n
line_of l es place.End = l.end

-- ---- links

-- some places stand outside links in all certificates
abbrev pub section_of : Place → Section
section_of (place.Header at name) = at
section_of (place.Row at name k) = at
section_of (place.Block at) = at
section_of (place.Pairs at) = at
section_of (place.Pair at k n) = at
section_of other = section.Body

-- the matrix of a link, and its block
abbrev pub link_layout : ℕ → Link → Layout
link_layout line k = exact_layout line (line_behind line k.l) k.block

-- the links stand one behind the other from a line on
unfoldable pub behind_links : ℕ → List Link → ℕ
behind_links line [] = line
behind_links line (k ∷ ks) = behind_links (link_layout line k).end ks

-- the line of a place in link i
unfoldable pub link_line : ℕ → List Link → ℕ → Place → ℕ
link_line line [] i p = line
link_line line (k ∷ ks) zero p = line_of (link_layout line k) k.block.pairs p
link_line line (k ∷ ks) (suc i) p = link_line (link_layout line k).end ks i p

-- the line of a place of a certificate with links, where it is this line if the place is behind them
abbrev pub linked_line : List Link → ℕ → Place → Section → ℕ
linked_line links line p (section.Link i) = link_line 3 links i p
linked_line links line p section.Body = line

-- ---- certificates

-- the line of a place where the claim stands on line 3, and the exact block begins at a line
abbrev pub exact_line : ℕ → ExactBlock → Place → ℕ
exact_line first b p = line_of (exact_layout 3 first b) b.pairs p

-- the same with an outside block
abbrev pub outside_line : ℕ → OutsideBlock → Place → ℕ
outside_line first b p = line_of (outside_layout 3 first b) b.pairs p

-- line 1 begins the certificate, and line 2 names its kind; a report has no place
abbrev pub line_in : Certificate → Place → ℕ
line_in (Controllable q block) p = exact_line (line_behind 3 q) block p
line_in (AutonomousElement element operator cofactor block) p = outside_line 8 block p
line_in (LeftInverse m) p = line_of (inverse_layout m) [] p
line_in (RightInverse m) p = line_of (inverse_layout m) [] p
line_in (NoLeftInverse unit block) p = outside_line 4 block p
line_in (NoRightInverse unit block) p = outside_line 4 block p
line_in (Kernel side generators block) p = exact_line (line_behind 3 generators) block p
line_in (Resolution links) p = linked_line links (behind_links 3 links) p (section_of p)
line_in (ExtZero links block) p = linked_line links (line_of (exact_layout 0 (behind_links 3 links) block) block.pairs p) p (section_of p)
line_in (ExtNonzero links element block) p = linked_line links (line_of (outside_layout (behind_links 3 links) (behind_links 3 links + 2) block) block.pairs p) p (section_of p)
line_in (Halted report) p = 0
