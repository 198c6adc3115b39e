-- The syzygies of a complete run are a kernel.
--     matrix_of        a stored matrix of a signature
--     run_exact        the kernel of the matrix of the run
--     right_is         by way of transposed adjoints
--     adjoint_is       the stored transposed adjoint
--     syzygies_width, answer_is     the width of the syzygies; the answer of the course of a right kernel
use Rattle.std.proofs.Common.{◌≡◌, ℕ, List, length, sym, ap, ◌∙◌, subst}
use Rattle.std.specs.List.{All}
use Rattle.std.specs.declared.result.Result.TheVariants.{Ok}
use Rattle.std.proofs.lemmas.List.{length-map}
use Rattle.ore_algebra.specs.Limits.{program}
use Rattle.ore_rational.specs.Field.{rationals}
use Rattle.ore_monomial.specs.Signature.{Signature}
use Rattle.ore_monomial.proofs.Signatures.{lawful}
use Rattle.ore_ring.specs.Belongs.{Belongs}
use Rattle.ore_rows.specs.Rows.{AreLong, IsExact, transpose_adjoint}
use Rattle.ore_rows.specs.Stored.{OperatorMatrix, HasColumns, sums_of, rows_of}
use Rattle.ore_rows.specs.declared.choices.Choice.{Choice}
use Rattle.ore_rows.proofs.RowLaws as Rows
use Rattle.ore_adjoint.specs.AdjointMatrix.{transpose_adjoint_within}
use Rattle.ore_adjoint.proofs.AdjointValues.{matrix_value}
use Rattle.ore_parts.specs.OfSignature.{MatrixOf}
use Rattle.ore_blocks.specs.CheckBlock.{row_matrix_of}
use Rattle.ore_blocks.proofs.Converted.{wide_rows, rows_are_of}
use Rattle.ore_groebner.proofs.Complete.{complete_exact}
use Rattle.ore_groebner.proofs.Holding.{wide_syzygies}
use Rattle.ore_groebner.specs.Honest.{IsHonestRun}
use Rattle.ore_groebner.specs.declared.outcome.Finished.{Finished}
use Rattle.ore_groebner.specs.Courses.{last_of}
use Rattle.ore_syzygy.specs.Kernels.{IsRightKernel, adjoint_rows, right_answer}
use Rattle.ore_syzygy.proofs.HonestBlocks.{holds}

module _ (s : Signature) where
  pub adjoint_is : (r a : OperatorMatrix) → a.cols ≡ length r.rows → transpose_adjoint_within program s r.cols (rows_of r) ≡ Ok (rows_of a) → row_matrix_of a ≡ adjoint_rows s r
  adjoint_is r a cols formed = λ i. record { cols = cols i; rows = matrix_value program s r.cols (rows_of r) (rows_of a) formed i }

  pub matrix_of : (m : OperatorMatrix) (n : ℕ) → HasColumns n m.rows → n ≡ m.cols → All (All (Belongs s)) m.rows → MatrixOf s m
  matrix_of m n columns e of = record { columns = subst (λ n. HasColumns n m.rows) e columns; of = of }

  module _ (f : Finished) (a : OperatorMatrix) (choices : List Choice) (h : IsHonestRun s a choices f) where
    pub syzygies_width : f.syzygies.cols ≡ length (rows_of a)
    syzygies_width = h.syzygy_cols ∙ sym (length-map a.rows sums_of)

    pub answer_is : (r generators : OperatorMatrix) → transpose_adjoint_within program s r.cols (rows_of r) ≡ Ok (rows_of a) → generators.cols ≡ length f.syzygies.rows
        → record { adjoint = record { cols = length (rows_of r); rows = rows_of a }; last = last_of f; generators = record { cols = length (rows_of f.syzygies); rows = rows_of generators } } ≡ right_answer s r (record { generators = generators; run = f })
    answer_is r generators formed cols = λ i. record {
      adjoint = record { cols = length-map r.rows sums_of i; rows = matrix_value program s r.cols (rows_of r) (rows_of a) formed i };
      last = last_of f;
      generators = record { cols = (length-map f.syzygies.rows sums_of ∙ sym cols) i; rows = rows_of generators };
    }

  module _ (f : Finished) (a : OperatorMatrix) (choices : List Choice) (h : IsHonestRun s a choices f) (of : MatrixOf s a) where
    pub run_exact : IsExact rationals s a.cols (rows_of a) (rows_of f.syzygies)
    run_exact = subst (IsExact rationals s a.cols (rows_of a)) h.syzygies
        (complete_exact rationals s (lawful s) s.order a.cols (rows_of a) (wide_rows s a of) (rows_are_of s a of) h.last (holds s f a choices h of) h.complete)

    long_syzygies : AreLong rationals (length (rows_of a)) (rows_of f.syzygies)
    long_syzygies = subst (AreLong rationals (length (rows_of a))) h.syzygies (wide_syzygies rationals s s.order a.cols (rows_of a) h.last.syzygies (holds s f a choices h of).syzygies)

    -- where the matrix of the run is the transposed adjoint of r, and the generators that of the syzygies
    pub right_is : (r generators : OperatorMatrix) → a.cols ≡ length r.rows → length a.rows ≡ r.cols → transpose_adjoint_within program s r.cols (rows_of r) ≡ Ok (rows_of a)
        → generators.cols ≡ length f.syzygies.rows → length generators.rows ≡ f.syzygies.cols → transpose_adjoint_within program s f.syzygies.cols (rows_of f.syzygies) ≡ Ok (rows_of generators)
        → IsRightKernel s r (record { generators = generators; run = f })
    right_is r generators cols rows formed gen_cols gen_rows back = record {
      rows = gen_rows ∙ h.syzygy_cols ∙ rows;
      cols = gen_cols;
      generators = made;
      exact =
          subst (λ n. IsExact rationals s n (transpose_adjoint rationals s r.cols (rows_of r)) (transpose_adjoint rationals s generators.cols (rows_of generators))) cols
          (subst (λ b. IsExact rationals s a.cols b (transpose_adjoint rationals s generators.cols (rows_of generators))) (matrix_value program s r.cols (rows_of r) (rows_of a) formed)
          (subst (IsExact rationals s a.cols (rows_of a)) (sym again) run_exact));
    }
      where
        width : f.syzygies.cols ≡ r.cols
        width = h.syzygy_cols ∙ rows

        made : rows_of generators ≡ transpose_adjoint rationals s r.cols (rows_of f.syzygies)
        made = matrix_value program s f.syzygies.cols (rows_of f.syzygies) (rows_of generators) back ∙ ap (λ n. transpose_adjoint rationals s n (rows_of f.syzygies)) width

        again : transpose_adjoint rationals s generators.cols (rows_of generators) ≡ rows_of f.syzygies
        again =
            (λ i. transpose_adjoint rationals s ((gen_cols ∙ sym (length-map f.syzygies.rows sums_of)) i) (made i))
            ∙ Rows.adjoint_twice rationals s (lawful s) r.cols (rows_of f.syzygies) (subst (λ n. AreLong rationals n (rows_of f.syzygies)) (length-map a.rows sums_of ∙ rows) long_syzygies)
