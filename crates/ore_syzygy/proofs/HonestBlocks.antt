-- The parts of a complete run as those of a block.
--     row_from-map                 a row that is mapped beside an origin
--     ordered_row-sums_of          a row of a signature has its order
--     ordered-rows                 so do rows
--     ordered-basis_rows, basis_cofactors    so do the rows of a basis, and their cofactors
--     counted                      the events made some of its basis rows
--     last_is                      its last state
--     exact_is, outside_is         the blocks of a run
--     holds, many_origins          what its last state holds; there is an origin for each syzygy
use Rattle.std.proofs.Common.{◌≡◌, ℕ, ◌-◌, ◌≤◌, Bool, true, false, cond, List, [], ◌∷◌, length, map, refl, sym, ap, ◌∙◌, arith}
use Rattle.std.specs.List.{All}
use Rattle.std.proofs.lemmas.List.{length-map}
use Rattle.std.proofs.lemmas.List.Elements.{All-head, All-tail}
use Rattle.ore_algebra.specs.Limits.{program}
use Rattle.ore_rational.specs.Field.{rationals, rational_inverses}
use Rattle.ore_monomial.specs.Signature.{Signature}
use Rattle.ore_monomial.proofs.Signatures.{lawful}
use Rattle.ore_ring.specs.Belongs.{Belongs}
use Rattle.ore_ring.specs.Ordered.{Ordered}
use Rattle.ore_rows.specs.Arithmetic.{within}
use Rattle.ore_rows.specs.Reduction.{BasisRow, Step}
use Rattle.ore_rows.specs.Reduction as reduction
use Rattle.ore_rows.specs.Rows.{Row, zero_row}
use Rattle.ore_rows.specs.Stored.{OperatorMatrix, sums_of, rows_of}
use Rattle.ore_rows.specs.StoredBasis.{BasisBelongs, monic_of}
use Rattle.ore_rows.proofs.SoundArithmetic.{within_sound}
use Rattle.ore_rows.specs.declared.choices.Choice.{Choice}
use Rattle.ore_rows.specs.declared.choices.Origin.{Origin}
use Rattle.ore_pairs.specs.Run as run
use Rattle.ore_pairs.specs.RunBlocks.{is_origin, row_from, inside_origins, placed}
use Rattle.ore_parts.specs.declared.block.ExactBlock.{ExactBlock}
use Rattle.ore_parts.specs.declared.block.OutsideBlock.{OutsideBlock}
use Rattle.ore_parts.specs.OfSignature.{MatrixOf}
use Rattle.ore_blocks.specs.CheckBlock.{row_matrix_of}
use Rattle.ore_blocks.specs.BlockOfRun.{ordered_row, stored_matrix, stored_entry, exact_block_of, outside_block_of}
use Rattle.ore_blocks.proofs.Converted.{wide_rows}
use Rattle.ore_groebner.specs.Courses.{last_of}
use Rattle.ore_groebner.specs.Honest.{IsHonestRun}
use Rattle.ore_groebner.specs.RunProgress.{entries_from, new_rows}
use Rattle.ore_groebner.specs.declared.outcome.Finished.{Finished}
use Rattle.ore_groebner.proofs.Holding.{Holds}
use Rattle.ore_groebner.proofs.Running.{reached_holds}

row_from-map : {X Y : Type 0} (f : X → Y) (other : X) (o : Origin) (xs : List Origin) (rows : List X) → f (row_from xs rows other o) ≡ row_from xs (map f rows) (f other) o
unfolding row_from
row_from-map f other o [] rows = refl
row_from-map f other o (x ∷ xs) [] = refl
row_from-map f other o (x ∷ xs) (r ∷ rows) = by (is_origin x o) (row_from-map f other o xs rows)
  where
    by : (b : Bool) → f (row_from xs rows other o) ≡ row_from xs (map f rows) (f other) o → f (cond b r (row_from xs rows other o)) ≡ cond b (f r) (row_from xs (map f rows) (f other) o)
    by true same = refl
    by false same = same

module _ (s : Signature) where
  pub ordered_row-sums_of : (r : List Ordered) → All (Belongs s) r → ordered_row s.order (sums_of r) ≡ r
  ordered_row-sums_of [] h = refl
  ordered_row-sums_of (f ∷ r) h = λ i. record { by = sym (All-head (Belongs s) f r h).order i; sum = f.sum } ∷ ordered_row-sums_of r (All-tail (Belongs s) f r h) i

  pub ordered-rows : (rows : List (List Ordered)) → All (All (Belongs s)) rows → map (ordered_row s.order) (map sums_of rows) ≡ rows
  ordered-rows [] h = refl
  ordered-rows (r ∷ rows) h = λ i. ordered_row-sums_of r (All-head (All (Belongs s)) r rows h) i ∷ ordered-rows rows (All-tail (All (Belongs s)) r rows h) i

  ordered-basis_rows : (items : List (BasisRow (List Ordered))) → BasisBelongs s items → map (ordered_row s.order) (reduction.basis_rows (map monic_of items)) ≡ reduction.basis_rows items
  ordered-basis_rows [] h = refl
  ordered-basis_rows (b ∷ items) h =
      let P = λ (b : BasisRow (List Ordered)). All (Belongs s) b.row × All (Belongs s) b.cofactor in
      λ i. ordered_row-sums_of b.row (All-head P b items h).0 i ∷ ordered-basis_rows items (All-tail P b items h) i

  basis_cofactors : (items : List (BasisRow (List Ordered))) → BasisBelongs s items → map (ordered_row s.order) (reduction.cofactors_of (map monic_of items)) ≡ reduction.cofactors_of items
  basis_cofactors [] h = refl
  basis_cofactors (b ∷ items) h =
      let P = λ (b : BasisRow (List Ordered)). All (Belongs s) b.row × All (Belongs s) b.cofactor in
      λ i. ordered_row-sums_of b.cofactor (All-head P b items h).1 i ∷ basis_cofactors items (All-tail P b items h) i

  module _ (f : Finished) (a : OperatorMatrix) (choices : List Choice) (h : IsHonestRun s a choices f) where
    abbrev size : ℕ
    size = length f.basis.items

    size_is : length h.last.basis ≡ size
    size_is = ap length h.basis ∙ length-map f.basis.items monic_of

    basis_is : stored_matrix s.order a.cols (reduction.basis_rows h.last.basis) ≡ record { cols = f.basis.cols; rows = reduction.basis_rows f.basis.items }
    basis_is = λ i. record { cols = sym h.cols i; rows = (ap (λ (bs : List (BasisRow (Row rationals))). map (ordered_row s.order) (reduction.basis_rows bs)) h.basis ∙ ordered-basis_rows f.basis.items h.basis_of) i }

    to_is : stored_matrix s.order (length (rows_of a)) (reduction.cofactors_of h.last.basis) ≡ record { cols = f.basis.width; rows = reduction.cofactors_of f.basis.items }
    to_is = λ i. record { cols = (length-map a.rows sums_of ∙ sym h.width) i; rows = (ap (λ (bs : List (BasisRow (Row rationals))). map (ordered_row s.order) (reduction.cofactors_of bs)) h.basis ∙ basis_cofactors f.basis.items h.basis_of) i }

    from_is : stored_matrix s.order (length (reduction.basis_rows h.last.basis)) (run.from_rows rationals s.order (length h.last.basis) 0 (rows_of a)) ≡ f.from
    from_is = λ i. record { cols = (length-map h.last.basis (λ b. b.row) ∙ sym h.from_cols) i; rows = (ap (map (ordered_row s.order)) (sym h.from) ∙ ordered-rows f.from.rows h.from_of) i }

    first_is : length h.start.basis ≡ size - new_rows f.events
    first_is = let n = h.counted in let m = size_is in omega arith

    listed_is : h.last.listed ≡ entries_from (size - new_rows f.events) f.events
    listed_is = h.listed ∙ ap (λ n. entries_from n f.events) first_is

    pub counted : new_rows f.events ≤ size
    counted = let n = h.counted in let m = size_is in omega arith

    pub last_is : h.last ≡ last_of f
    last_is = λ i. record { basis = h.basis i; listed = listed_is i; syzygies = h.syzygies i; origins = h.origins i }

    module _ (inside : OperatorMatrix) (of : All (All (Belongs s)) inside.rows) where
      abbrev zeros : List Ordered
      zeros = ordered_row s.order (zero_row rationals inside.cols)

      inside_is : stored_matrix s.order inside.cols (placed rationals (length (rows_of a)) inside.cols h.last (rows_of inside))
          ≡ record { cols = inside.cols; rows = map (row_from f.origins inside.rows zeros) (inside_origins f.syzygies.cols (entries_from (size - new_rows f.events) f.events)) }
      inside_is = λ i. record { cols = inside.cols; rows = (each (inside_origins (length (rows_of a)) h.last.listed) ∙ moved) i }
        where
          one : (o : Origin) → ordered_row s.order (row_from h.last.origins (rows_of inside) (zero_row rationals inside.cols) o) ≡ row_from f.origins inside.rows zeros o
          one o =
              row_from-map (ordered_row s.order) (zero_row rationals inside.cols) o h.last.origins (rows_of inside)
              ∙ (λ i. row_from (h.origins i) (ordered-rows inside.rows of i) zeros o)

          each : (os : List Origin) → map (ordered_row s.order) (map (row_from h.last.origins (rows_of inside) (zero_row rationals inside.cols)) os) ≡ map (row_from f.origins inside.rows zeros) os
          each [] = refl
          each (o ∷ os) = λ i. one o i ∷ each os i

          moved : map (row_from f.origins inside.rows zeros) (inside_origins (length (rows_of a)) h.last.listed) ≡ map (row_from f.origins inside.rows zeros) (inside_origins f.syzygies.cols (entries_from (size - new_rows f.events) f.events))
          moved = λ i. map (row_from f.origins inside.rows zeros) (inside_origins ((length-map a.rows sums_of ∙ sym h.syzygy_cols) i) (listed_is i))

      pub exact_is : (b : ExactBlock) → b.basis ≡ record { cols = f.basis.cols; rows = reduction.basis_rows f.basis.items } → b.from ≡ f.from → b.to ≡ record { cols = f.basis.width; rows = reduction.cofactors_of f.basis.items }
          → b.pairs ≡ map stored_entry (entries_from (size - new_rows f.events) f.events)
          → b.inside ≡ record { cols = inside.cols; rows = map (row_from f.origins inside.rows zeros) (inside_origins f.syzygies.cols (entries_from (size - new_rows f.events) f.events)) }
          → b ≡ exact_block_of s (row_matrix_of a) (last_of f) (row_matrix_of inside)
      exact_is b basis from to pairs rows =
          (λ i. record {
            basis = (basis ∙ sym basis_is) i;
            from = (from ∙ sym from_is) i;
            to = (to ∙ sym to_is) i;
            pairs = (pairs ∙ ap (map stored_entry) (sym listed_is)) i;
            inside = (rows ∙ sym inside_is) i;
          })
          ∙ ap (λ st. exact_block_of s (row_matrix_of a) st (row_matrix_of inside)) last_is

    pub outside_is : (steps : List (Step rationals)) (rest : List Ordered) → All (Belongs s) rest → (b : OutsideBlock) → b.basis ≡ record { cols = f.basis.cols; rows = reduction.basis_rows f.basis.items } → b.from ≡ f.from
        → b.pairs ≡ map stored_entry (entries_from (size - new_rows f.events) f.events) → b.quotients ≡ steps → b.rest ≡ rest → b ≡ outside_block_of s (row_matrix_of a) (last_of f) steps (sums_of rest)
    outside_is steps rest of b basis from pairs quotients same =
        (λ i. record {
          basis = (basis ∙ sym basis_is) i;
          from = (from ∙ sym from_is) i;
          pairs = (pairs ∙ ap (map stored_entry) (sym listed_is)) i;
          quotients = quotients i;
          rest = (same ∙ sym (ordered_row-sums_of rest of)) i;
        })
        ∙ ap (λ st. outside_block_of s (row_matrix_of a) st steps (sums_of rest)) last_is

module _ (s : Signature) (f : Finished) (a : OperatorMatrix) (choices : List Choice) (h : IsHonestRun s a choices f) (of : MatrixOf s a) where
  pub holds : Holds rationals s s.order a.cols (rows_of a) h.last
  holds =
      reached_holds rationals rational_inverses s (lawful s) s.order a.cols (rows_of a) (wide_rows s a of) (within program s) (within_sound program s) h.last
      (choices, record { start = h.start; begun = h.begun; led = h.led })

  pub many_origins : length f.origins ≡ length f.syzygies.rows
  many_origins = ap length (sym h.origins) ∙ holds.many ∙ ap length h.syzygies ∙ length-map f.syzygies.rows sums_of
