-- The blocks are formats.
--     exact_head, exact_line, outside_head, outside_line     their first lines, each one line
--     exact_from, outside_from, exact_makes, outside_makes     each from a line and five parts
--     exact_parts, outside_parts     the line and the parts
--     exact_is, outside_is           the blocks are formats
--     matrix_of                      the format of a matrix by its name
use Rattle.std.proofs.Common.{◌≡◌, List, ℕ, length, refl}
use Rattle.std.specs.Prelude.{codes}
use Rattle.ore_monomial.specs.Signature.{Signature}
use Rattle.ore_text.specs.Names.{AreNames}
use Rattle.ore_rational.specs.Field.{rationals}
use Rattle.ore_ring.specs.Ordered.{Ordered}
use Rattle.ore_rows.specs.Reduction.{Step}
use Rattle.ore_rows.specs.Stored.{OperatorMatrix}
use Rattle.ore_parts.specs.declared.block.PairEntry.{PairEntry}
use Rattle.ore_parts.specs.declared.block.ExactBlock.{ExactBlock}
use Rattle.ore_parts.specs.declared.block.OutsideBlock.{OutsideBlock}
use Rattle.ore_parts.specs.Formats.{Format}
use Rattle.ore_parts.specs.Lines.{IsLine}
use Rattle.ore_parts.specs.PartFormats.{quotients_format, pairs_format, matrix_format, row_format, exact_format, outside_format}
use Rattle.ore_parts.proofs.FiveParts.{FiveParts, five, five_is}
use Rattle.ore_parts.proofs.FormatLaws.{IsFormat, Makes}
use Rattle.ore_parts.proofs.MatrixLaws.{matrix_is, row_is}
use Rattle.ore_parts.proofs.PartLaws.{quotients_is, pairs_is}

abbrev pub exact_head : List ℕ
exact_head = codes "block exact\n"

abbrev pub outside_head : List ℕ
outside_head = codes "block outside\n"

pub exact_line : IsLine exact_head
exact_line = (codes "block exact", refl, refl)

pub outside_line : IsLine outside_head
outside_line = (codes "block outside", refl, refl)

module _ (s : Signature) (names : List (List ℕ)) where
  abbrev matrix_of : List ℕ → Format OperatorMatrix
  matrix_of name = matrix_format s names name

  abbrev exact_from : Unit {0} × (OperatorMatrix × (OperatorMatrix × (OperatorMatrix × (List PairEntry × OperatorMatrix)))) → ExactBlock
  exact_from p = record { basis = p.1.0; from = p.1.1.0; to = p.1.1.1.0; pairs = p.1.1.1.1.0; inside = p.1.1.1.1.1 }

  pub exact_makes : Makes (five (matrix_of (codes "basis")) (matrix_of (codes "from")) (matrix_of (codes "to")) (pairs_format s names) (matrix_of (codes "inside")) exact_head) (exact_format s names) exact_from
  exact_makes = record {
    may_to = λ p h. record { basis = h.1.0; from = h.1.1.0; to = h.1.1.1.0; pairs = h.1.1.1.1.0; inside = h.1.1.1.1.1 };
    text_to = λ p h. refl;
    from = λ b h. ((tt, (b.basis, (b.from, (b.to, (b.pairs, b.inside))))), (tt, (h.basis, (h.from, (h.to, (h.pairs, h.inside))))), refl);
  }

  abbrev outside_from : Unit {0} × (OperatorMatrix × (OperatorMatrix × (List PairEntry × (List (Step rationals) × List Ordered)))) → OutsideBlock
  outside_from p = record { basis = p.1.0; from = p.1.1.0; pairs = p.1.1.1.0; quotients = p.1.1.1.1.0; rest = p.1.1.1.1.1 }

  pub outside_makes : Makes (five (matrix_of (codes "basis")) (matrix_of (codes "from")) (pairs_format s names) (quotients_format s names) (row_format s names (codes "rest")) outside_head) (outside_format s names) outside_from
  outside_makes = record {
    may_to = λ p h. record { basis = h.1.0; from = h.1.1.0; pairs = h.1.1.1.0; quotients = h.1.1.1.1.0; rest = h.1.1.1.1.1 };
    text_to = λ p h. refl;
    from = λ b h. ((tt, (b.basis, (b.from, (b.pairs, (b.quotients, b.rest))))), (tt, (h.basis, (h.from, (h.pairs, (h.quotients, h.rest))))), refl);
  }

  module _ (are : AreNames names) (fit : length names ≡ length s.kinds) where
    abbrev pub exact_parts : FiveParts OperatorMatrix OperatorMatrix OperatorMatrix (List PairEntry) OperatorMatrix ExactBlock
    exact_parts = record {
      head = exact_head;
      line = exact_line;
      a = matrix_of (codes "basis");
      b = matrix_of (codes "from");
      c = matrix_of (codes "to");
      d = pairs_format s names;
      e = matrix_of (codes "inside");
      a_is = matrix_is s names are fit (codes "basis") refl;
      b_is = matrix_is s names are fit (codes "from") refl;
      c_is = matrix_is s names are fit (codes "to") refl;
      d_is = pairs_is s names are fit;
      e_is = matrix_is s names are fit (codes "inside") refl;
      whole = exact_format s names;
      to = exact_from;
      makes = exact_makes;
    }

    abbrev pub outside_parts : FiveParts OperatorMatrix OperatorMatrix (List PairEntry) (List (Step rationals)) (List Ordered) OutsideBlock
    outside_parts = record {
      head = outside_head;
      line = outside_line;
      a = matrix_of (codes "basis");
      b = matrix_of (codes "from");
      c = pairs_format s names;
      d = quotients_format s names;
      e = row_format s names (codes "rest");
      a_is = matrix_is s names are fit (codes "basis") refl;
      b_is = matrix_is s names are fit (codes "from") refl;
      c_is = pairs_is s names are fit;
      d_is = quotients_is s names are fit;
      e_is = row_is s names are fit (codes "rest") refl;
      whole = outside_format s names;
      to = outside_from;
      makes = outside_makes;
    }

    pub exact_is : IsFormat (exact_format s names)
    exact_is = five_is exact_parts

    pub outside_is : IsFormat (outside_format s names)
    outside_is = five_is outside_parts
