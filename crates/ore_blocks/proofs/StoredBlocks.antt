-- Stored rows, matrices and blocks beside the plain ones from which they are made.
--     sums_of-ordered_row, rows_of-stored     without the orders, a row and a matrix are what they were
--     dealt_pairs-stored                      so are the entries of a list of pairs
--     exact_of-stored, outside_of-stored      so are blocks
--     row_stored, matrix_stored, entries_stored     of a signature, where the plain ones are
--     exact_stored, outside_stored            so are blocks, where their rows are as long as their matrices ask
--     exact_block-valid, outside_block-valid  the blocks of a state are valid where the plain ones are
--     exact_block-of, outside_block-of        and then of the signature where these are
use Rattle.std.proofs.Common.{◌≡◌, ℕ, List, [], ◌∷◌, map, length, ◌∙◌, refl, sym, subst}
use Rattle.std.specs.List.{All, AllByRecursion}
use Rattle.std.proofs.lemmas.List.{length-map}
use Rattle.std.proofs.lemmas.List.Elements.{All-nil, All-cons, All-from_recursion}
use Rattle.ore_rational.specs.Field.{rationals}
use Rattle.ore_monomial.specs.Signature.{Signature, MonomialOf}
use Rattle.ore_monomial.specs.declared.order.Order.{Order}
use Rattle.ore_ring.specs.Belongs.{Belongs}
use Rattle.ore_ring.specs.Ordered.{Ordered}
use Rattle.ore_rows.specs.Reduction.{Step}
use Rattle.ore_rows.specs.Reduction.{basis_rows}
use Rattle.ore_rows.specs.Rows.{Row, RowOf, AreLong}
use Rattle.ore_rows.specs.Stored.{HasColumns, sums_of, rows_of}
use Rattle.ore_pairs.specs.Blocks as blocks
use Rattle.ore_pairs.specs.PairList.{DealtPair, AreEntriesOf}
use Rattle.ore_pairs.specs.PairList as listed
use Rattle.ore_pairs.specs.Run.{RunState}
use Rattle.ore_pairs.specs.RunBlocks.{exact_of_run, outside_of_run}
use Rattle.ore_pairs.specs.Steps.{AreStepsOf}
use Rattle.ore_parts.specs.OfSignature.{MatrixOf, IsEntryOf, IsExactOf, IsOutsideOf}
use Rattle.ore_parts.specs.declared.block.PairEntry.TheVariants.{Pair, Skip}
use Rattle.ore_blocks.specs.BlockOfRun.{ordered_row, stored_matrix, stored_entry, stored_exact, stored_outside, exact_block_of, outside_block_of}
use Rattle.ore_blocks.specs.CheckBlock.{RowMatrix, dealt_pairs}
use Rattle.ore_blocks.specs.Valid.{exact_of, outside_of, IsValidExactFor, IsValidOutsideFor}

module _ (o : Order) where
  pub sums_of-ordered_row : (r : Row rationals) → sums_of (ordered_row o r) ≡ r
  sums_of-ordered_row [] = refl
  sums_of-ordered_row (f ∷ r) = λ i. f ∷ sums_of-ordered_row r i

  pub rows_of-stored : (n : ℕ) (rows : List (Row rationals)) → rows_of (stored_matrix o n rows) ≡ rows
  rows_of-stored n [] = refl
  rows_of-stored n (r ∷ rows) = λ i. sums_of-ordered_row r i ∷ rows_of-stored n rows i

pub dealt_pairs-stored : (es : List (DealtPair rationals)) → dealt_pairs (map stored_entry es) ≡ es
dealt_pairs-stored [] = refl
dealt_pairs-stored (listed.Pair i j steps ∷ es) = λ k. listed.Pair i j steps ∷ dealt_pairs-stored es k
dealt_pairs-stored (listed.Skip i j via ∷ es) = λ k. listed.Skip i j via ∷ dealt_pairs-stored es k

module _ (o : Order) (n : ℕ) where
  pub exact_of-stored : (q m : ℕ) (b : blocks.ExactBlock rationals) → exact_of (stored_exact o n q m b) ≡ b
  exact_of-stored q m b = λ i. record {
    basis = rows_of-stored o n b.basis i;
    from = rows_of-stored o (length b.basis) b.from i;
    to = rows_of-stored o q b.to i;
    entries = dealt_pairs-stored b.entries i;
    inside = rows_of-stored o m b.inside i;
  }

  pub outside_of-stored : (b : blocks.OutsideBlock rationals) → outside_of (stored_outside o n b) ≡ b
  outside_of-stored b = λ i. record {
    basis = rows_of-stored o n b.basis i;
    from = rows_of-stored o (length b.basis) b.from i;
    entries = dealt_pairs-stored b.entries i;
    steps = b.steps;
    rest = sums_of-ordered_row o b.rest i;
  }

module _ (s : Signature) where
  pub row_stored : (r : Row rationals) → RowOf rationals s r → All (Belongs s) (ordered_row s.order r)
  row_stored [] h = All-nil (Belongs s)
  row_stored (f ∷ r) h = All-cons (Belongs s) (record { by = s.order; sum = f }) (ordered_row s.order r) (record { order = refl; variables = h.0 }) (row_stored r h.1)

  each_stored : (rows : List (Row rationals)) → AllByRecursion (RowOf rationals s) rows → All (All (Belongs s)) (map (ordered_row s.order) rows)
  each_stored [] h = All-nil (All (Belongs s))
  each_stored (r ∷ rows) h = All-cons (All (Belongs s)) (ordered_row s.order r) (map (ordered_row s.order) rows) (row_stored r h.0) (each_stored rows h.1)

  columns_stored : (n : ℕ) (rows : List (Row rationals)) → AreLong rationals n rows → HasColumns n (map (ordered_row s.order) rows)
  columns_stored n [] h = All-nil (λ (r : List Ordered). length r ≡ n)
  columns_stored n (r ∷ rows) h =
      All-cons (λ (r : List Ordered). length r ≡ n) (ordered_row s.order r) (map (ordered_row s.order) rows) (length-map r (λ f. record { by = s.order; sum = f }) ∙ h.0) (columns_stored n rows h.1)

  pub matrix_stored : (n : ℕ) (rows : List (Row rationals)) → AreLong rationals n rows → AllByRecursion (RowOf rationals s) rows → MatrixOf s (stored_matrix s.order n rows)
  matrix_stored n rows long d = record { columns = columns_stored n rows long; of = each_stored rows d }

  steps_stored : (steps : List (Step rationals)) → AreStepsOf rationals s steps → All (λ t. MonomialOf s t.monomial) steps
  steps_stored steps h = All-from_recursion (λ t. MonomialOf s t.monomial) steps h

  pub entries_stored : (es : List (DealtPair rationals)) → AreEntriesOf rationals s es → All (IsEntryOf s) (map stored_entry es)
  entries_stored [] h = All-nil (IsEntryOf s)
  entries_stored (listed.Pair i j steps ∷ es) h = All-cons (IsEntryOf s) (Pair i j steps) (map stored_entry es) (steps_stored steps h.0) (entries_stored es h.1)
  entries_stored (listed.Skip i j via ∷ es) h = All-cons (IsEntryOf s) (Skip i j via) (map stored_entry es) tt (entries_stored es h)

  module _ (n : ℕ) where
    pub exact_stored : (q m : ℕ) (b : blocks.ExactBlock rationals) → AreLong rationals n b.basis → AreLong rationals (length b.basis) b.from → AreLong rationals q b.to → AreLong rationals m b.inside
        → blocks.IsExactBlockOfSignature rationals s b → IsExactOf s (stored_exact s.order n q m b)
    exact_stored q m b basis from to inside d = record {
      basis = matrix_stored n b.basis basis d.basis;
      from = matrix_stored (length b.basis) b.from from d.from;
      to = matrix_stored q b.to to d.to;
      pairs = entries_stored b.entries d.entries;
      inside = matrix_stored m b.inside inside d.inside;
    }

    pub outside_stored : (b : blocks.OutsideBlock rationals) → AreLong rationals n b.basis → AreLong rationals (length b.basis) b.from
        → blocks.IsOutsideBlockOfSignature rationals s b → RowOf rationals s b.rest → IsOutsideOf s (stored_outside s.order n b)
    outside_stored b basis from d rest = record {
      basis = matrix_stored n b.basis basis d.basis;
      from = matrix_stored (length b.basis) b.from from d.from;
      pairs = entries_stored b.entries d.entries;
      quotients = steps_stored b.steps d.steps;
      rest = row_stored b.rest rest;
    }

-- ---- the blocks of a state

module _ (s : Signature) (a : RowMatrix) (st : RunState rationals) where
  -- rows of a matrix, where `inside` has a column for each
  module _ (inside : RowMatrix) (m : RowMatrix) (fits : inside.cols ≡ length m.rows) where
    abbrev made : blocks.ExactBlock rationals
    made = exact_of_run rationals s.order a.rows st inside.cols inside.rows

    pub exact_block-valid : blocks.IsValidExact rationals s s.order a.cols a.rows m.rows made → IsValidExactFor s a m (exact_block_of s a st inside)
    exact_block-valid h = record {
      basis_columns = refl;
      from_columns = sym (length-map (basis_rows st.basis) (ordered_row s.order));
      to_columns = refl;
      inside_columns = fits;
      valid = subst (blocks.IsValidExact rationals s s.order a.cols a.rows m.rows) (sym (exact_of-stored s.order a.cols (length a.rows) inside.cols made)) h;
    }

    pub exact_block-of : blocks.IsValidExact rationals s s.order a.cols a.rows m.rows made → blocks.IsExactBlockOfSignature rationals s made → IsExactOf s (exact_block_of s a st inside)
    exact_block-of h d =
        exact_stored s a.cols (length a.rows) inside.cols made h.is_basis.long h.is_basis.from_shape.1 h.to_shape.1 (subst (λ n. AreLong rationals n made.inside) (sym fits) h.inside_shape.1) d

  module _ (steps : List (Step rationals)) (rest : Row rationals) (w : Row rationals) (fits : length rest ≡ a.cols) where
    abbrev left_made : blocks.OutsideBlock rationals
    left_made = outside_of_run rationals s.order a.rows st steps rest

    pub outside_block-valid : blocks.IsValidOutside rationals s s.order a.cols a.rows w left_made → IsValidOutsideFor s a w (outside_block_of s a st steps rest)
    outside_block-valid h = record {
      basis_columns = refl;
      from_columns = sym (length-map (basis_rows st.basis) (ordered_row s.order));
      rest_columns = length-map rest (λ f. record { by = s.order; sum = f }) ∙ fits;
      valid = subst (blocks.IsValidOutside rationals s s.order a.cols a.rows w) (sym (outside_of-stored s.order a.cols left_made)) h;
    }

    pub outside_block-of : blocks.IsValidOutside rationals s s.order a.cols a.rows w left_made → blocks.IsOutsideBlockOfSignature rationals s left_made → RowOf rationals s rest → IsOutsideOf s (outside_block_of s a st steps rest)
    outside_block-of h d of_rest = outside_stored s a.cols left_made h.is_basis.long h.is_basis.from_shape.1 d of_rest
