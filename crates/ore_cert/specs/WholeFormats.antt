-- The formats of certificates.
--     operator_words, operator_format, unit_format   the line of a word and an operator; that of the place of a unit row
--     link_format                    a matrix with its block
--     with_exact, with_unit, row_and_outside, with_operator, autonomous_parts, links_format, links_exact, links_row
--                                    what some kinds have between these lines
--     Parts, with_parts              what a certificate of a kind is made of; the certificate
--     parts_format                   its parts one after the other
--     IsMadeOf                       a certificate of a kind whose parts may be written
--     body_format                    what stands between the line of the kind and the last line
--     closed_format                  that, and the last line
--     kinds_format                   what follows the first line
--     certificate_format             the whole text
use Rattle.std.specs.Prelude.{◌≡◌, ℕ, List, ◌∷◌, ◌++◌, codes}
use Rattle.ore_monomial.specs.Signature.{Signature}
use Rattle.ore_ring.specs.Ordered.{Ordered}
use Rattle.ore_rows.specs.Stored.{OperatorMatrix}
use Rattle.ore_rows.specs.declared.choices.Choice.{Choice}
use Rattle.ore_text.specs.CanonicalText.{operator_text}
use Rattle.ore_parts.specs.declared.block.ExactBlock.{ExactBlock}
use Rattle.ore_parts.specs.declared.block.OutsideBlock.{OutsideBlock}
use Rattle.ore_parts.specs.declared.block.Link.{Link}
use Rattle.ore_cert.specs.declared.certificate.Side.TheVariants.{Left, Right}
use Rattle.ore_cert.specs.declared.certificate.Certificate.{Certificate}
use Rattle.ore_cert.specs.declared.certificate.Certificate.TheVariants as certificate
use Rattle.ore_cert.specs.declared.kind.Kind.{Kind}
use Rattle.ore_cert.specs.declared.kind.Kind.TheVariants.{Controllable, AutonomousElement, LeftInverse, RightInverse, NoLeftInverse, NoRightInverse, KernelLeft, KernelRight, Resolution, ExtZero, ExtNonzero, Halted}
use Rattle.ore_cert.specs.declared.report.Plan.{Plan}
use Rattle.ore_cert.specs.declared.report.Stop.{Stop}
use Rattle.ore_parts.specs.BlockText.{place, is_place}
use Rattle.ore_parts.specs.Formats.{Format, one_line, sequence, items}
use Rattle.ore_parts.specs.PartFormats.{matrix_format, row_format, exact_format, outside_format}
use Rattle.ore_cert.specs.ReportFormats.{report_rest_format}
use Rattle.ore_cert.specs.WholeText.{link_text, kind_text, rest_text, certificate_text, IsWrittenLink, IsWrittenOperator, IsWrittenCertificate}

-- `unit` and the place of a unit row, on one line
abbrev pub unit_format : Format ℕ
unit_format = one_line (λ k. codes "unit " ++ place k) is_place

module _ (s : Signature) (names : List (List ℕ)) where
  -- the word and the canonical text of the operator, without the line end
  abbrev pub operator_words : List ℕ → Ordered → List ℕ
  operator_words word f = word ++ 32 ∷ operator_text names s.order f.sum

  -- the word and an operator of the signature, on one line
  abbrev pub operator_format : List ℕ → Format Ordered
  operator_format word = one_line (operator_words word) (IsWrittenOperator s names)

  -- the matrix `L`, and then its exact block
  abbrev pub link_format : Format Link
  link_format = record { text = link_text names s.order; may = IsWrittenLink s names }

  -- a matrix of this name, and then an exact block
  abbrev pub with_exact : List ℕ → Format (OperatorMatrix × ExactBlock)
  with_exact name = sequence (matrix_format s names name) (λ _. exact_format s names)

  -- the place of a unit row, and then an outside block
  abbrev pub with_unit : Format (ℕ × OutsideBlock)
  with_unit = sequence unit_format (λ _. outside_format s names)

  -- a row of this name, and then an outside block
  abbrev pub row_and_outside : List ℕ → Format (List Ordered × OutsideBlock)
  row_and_outside name = sequence (row_format s names name) (λ _. outside_format s names)

  -- an operator, the row `cofactor` and an outside block
  abbrev pub with_operator : Format (Ordered × (List Ordered × OutsideBlock))
  with_operator = sequence (operator_format (codes "operator")) (λ _. row_and_outside (codes "cofactor"))

  -- the row `element`, and then these three
  abbrev pub autonomous_parts : Format (List Ordered × (Ordered × (List Ordered × OutsideBlock)))
  autonomous_parts = sequence (row_format s names (codes "element")) (λ _. with_operator)

  -- so many links
  abbrev pub links_format : ℕ → Format (List Link)
  links_format count = items link_format count

  -- so many links, and then an exact block
  abbrev pub links_exact : ℕ → Format (List Link × ExactBlock)
  links_exact count = sequence (links_format count) (λ _. exact_format s names)

  -- so many links, the row `element` and an outside block
  abbrev pub links_row : ℕ → Format (List Link × (List Ordered × OutsideBlock))
  links_row count = sequence (links_format count) (λ _. row_and_outside (codes "element"))

  -- what stands between the line of the kind and the last line, as a tuple in the order of the text
  abbrev pub Parts : Kind → Type 0
  Parts Controllable = OperatorMatrix × ExactBlock
  Parts AutonomousElement = List Ordered × (Ordered × (List Ordered × OutsideBlock))
  Parts LeftInverse = OperatorMatrix
  Parts RightInverse = OperatorMatrix
  Parts NoLeftInverse = ℕ × OutsideBlock
  Parts NoRightInverse = ℕ × OutsideBlock
  Parts KernelLeft = OperatorMatrix × ExactBlock
  Parts KernelRight = OperatorMatrix × ExactBlock
  Parts (Resolution count) = List Link
  Parts (ExtZero count) = List Link × ExactBlock
  Parts (ExtNonzero count) = List Link × (List Ordered × OutsideBlock)
  Parts (Halted cause) = Plan × (List (List Choice) × Stop)

  -- the format of these parts
  abbrev pub parts_format : (k : Kind) → Format (Parts k)
  parts_format Controllable = with_exact (codes "Q")
  parts_format AutonomousElement = autonomous_parts
  parts_format LeftInverse = matrix_format s names (codes "S")
  parts_format RightInverse = matrix_format s names (codes "S")
  parts_format NoLeftInverse = with_unit
  parts_format NoRightInverse = with_unit
  parts_format KernelLeft = with_exact (codes "L")
  parts_format KernelRight = with_exact (codes "Q")
  parts_format (Resolution count) = links_format count
  parts_format (ExtZero count) = links_exact count
  parts_format (ExtNonzero count) = links_row count
  parts_format (Halted cause) = report_rest_format

  -- the certificate that has these parts
  abbrev pub with_parts : (k : Kind) → Parts k → Certificate
  with_parts Controllable p = certificate.Controllable p.0 p.1
  with_parts AutonomousElement p = certificate.AutonomousElement p.0 p.1.0 p.1.1.0 p.1.1.1
  with_parts LeftInverse m = certificate.LeftInverse m
  with_parts RightInverse m = certificate.RightInverse m
  with_parts NoLeftInverse p = certificate.NoLeftInverse p.0 p.1
  with_parts NoRightInverse p = certificate.NoRightInverse p.0 p.1
  with_parts KernelLeft p = certificate.Kernel Left p.0 p.1
  with_parts KernelRight p = certificate.Kernel Right p.0 p.1
  with_parts (Resolution count) links = certificate.Resolution links
  with_parts (ExtZero count) p = certificate.ExtZero p.0 p.1
  with_parts (ExtNonzero count) p = certificate.ExtNonzero p.0 p.1.0 p.1.1
  with_parts (Halted cause) p = certificate.Halted (record { cause = cause; plan = p.0; runs = p.1.0; stop = p.1.1 })

  -- the certificate is one of the kind, and has parts that may be written
  abbrev pub IsMadeOf : (k : Kind) → Certificate → Type 0
  IsMadeOf k c = (p : Parts k) × (parts_format k).may p × (with_parts k p ≡ c)

  -- certificates of a kind, by the text of their parts
  abbrev pub body_format : Kind → Format Certificate
  body_format k = record { text = rest_text names s.order; may = IsMadeOf k }

  -- certificates of a kind, by the text of their parts and the last line, `end`
  abbrev pub closed_format : Kind → Format Certificate
  closed_format k = record { text = λ c. rest_text names s.order c ++ codes "end\n"; may = IsMadeOf k }

  -- certificates of all kinds, by what follows the first line of their texts
  abbrev pub kinds_format : Format Certificate
  kinds_format = record { text = λ c. kind_text c ++ (rest_text names s.order c ++ codes "end\n"); may = IsWrittenCertificate s names }

  -- certificates of all kinds, by their whole texts
  abbrev pub certificate_format : Format Certificate
  certificate_format = record { text = certificate_text names s.order; may = IsWrittenCertificate s names }
