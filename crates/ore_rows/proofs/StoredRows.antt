-- Stored rows whose operators belong to a signature are rows of that signature.
--     row_of_stored, rows_of_stored     the entries of a row, and of the rows of a matrix
use Rattle.std.proofs.Common.{List, [], ◌∷◌, map}
use Rattle.std.specs.List.{All, AllByRecursion}
use Rattle.std.proofs.lemmas.List.Elements.{All-head, All-tail}
use Rattle.ore_rational.specs.Field.{rationals}
use Rattle.ore_monomial.specs.Signature.{Signature}
use Rattle.ore_ring.specs.Belongs.{Belongs}
use Rattle.ore_ring.specs.Ordered.{Ordered}
use Rattle.ore_rows.specs.Rows.{RowOf}
use Rattle.ore_rows.specs.Stored.{sums_of}

pub row_of_stored : (s : Signature) (r : List Ordered) → All (Belongs s) r → RowOf rationals s (sums_of r)
row_of_stored s [] h = tt
row_of_stored s (f ∷ r) h = ((All-head (Belongs s) f r h).variables, row_of_stored s r (All-tail (Belongs s) f r h))

pub rows_of_stored : (s : Signature) (rows : List (List Ordered)) → All (All (Belongs s)) rows → AllByRecursion (RowOf rationals s) (map sums_of rows)
rows_of_stored s [] h = tt
rows_of_stored s (r ∷ rows) h = (row_of_stored s r (All-head (All (Belongs s)) r rows h), rows_of_stored s rows (All-tail (All (Belongs s)) r rows h))
