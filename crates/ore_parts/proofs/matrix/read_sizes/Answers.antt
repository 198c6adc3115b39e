use Rattle.std.proofs.Common.{ℕ, ◌<◌, rules}
use Rattle.ore_parts.specs.CertificateText.{number_bound, matrix_words}
use Rattle.ore_parts.proofs.PartLaws.{sizes_words}
use Rattle.ore_parts.proofs.FormatReads.{line_read}
use Rattle.ore_parts.proofs.matrix.read_sizes.Goals as goal

pub returns : goal.returns
returns c = line_read (λ (s : ℕ × ℕ). matrix_words c.args.name.now s.0 s.1) (λ s. (s.0 < number_bound) × (s.1 < number_bound)) (sizes_words c.args.name.now c.requires) _ c.args.lines.now c.read_line.result c.read_line.new.lines c.read_line.ensures (λ due found h. search rules)
