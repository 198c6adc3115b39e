use Rattle.std.proofs.Common.{◌≡◌, ◌++◌, [], ◌∷◌, length, take}
use Rattle.std.specs.List.{flat_map}
use Rattle.ore_rows.specs.Stored.{rows_of}
use Rattle.ore_text.specs.RowText.{row_text}
use Rattle.ore_parts.specs.CertificateText.{matrix_words}
use Rattle.ore_parts.proofs.matrix.append_matrix.Given as goal

abbrev pub invariant-loop-k : goal.invariant-loop-k
invariant-loop-k l =
    l.out.items ≡ l.fn.out.items ++ ((matrix_words l.name (length (rows_of l.m)) l.m.cols ++ 10 ∷ []) ++ flat_map (row_text l.algebra.names.now l.algebra.signature.now.order) (take l.k (rows_of l.m)))
