-- What a certificate shows for which the check says that it is valid, over the fractions, for a signature and its order.
--     CheckIsTrue                a certificate that passes the check is true
--     ExactIsTorsionFree         a matrix that is what takes another to zeros leaves no torsion
--     IsControllable, IsAutonomous      a certificate of the one verdict, and of the other
--     HasOneVerdict              no matrix has both verdicts
--     as_column                  some entries as a column
--     IsColumnOf                 a column is a combination of the columns of a matrix
--     RightKernelIsExact         a true right kernel is just the columns that the matrix takes to zeros
--     LastLineIsEnd              the layout counts the lines of the text of a certificate
--     PartsBeginAtLines          each part of the text begins at the line of its place
use Rattle.std.specs.Prelude.{◌≡◌, ◌↔◌, ℕ, List, [], ◌∷◌, length, map}
use Rattle.std.specs.declared.result.Result.TheVariants.{Ok}
use Rattle.ore_algebra.specs.Limits.{Limits}
use Rattle.ore_rational.specs.Field.{rationals}
use Rattle.ore_monomial.specs.Signature.{Signature}
use Rattle.ore_rows.specs.Rows.{Row, RowOf, AreLong, zero_row, matrix_times, IsExact, IsTorsionFree}
use Rattle.ore_rows.specs.Stored.{OperatorMatrix, rows_of}
use Rattle.ore_parts.specs.declared.block.ExactBlock.{ExactBlock}
use Rattle.ore_parts.specs.OfSignature.{MatrixOf}
use Rattle.ore_cert.specs.declared.certificate.Side.TheVariants.{Right}
use Rattle.ore_cert.specs.declared.certificate.Certificate.{Certificate}
use Rattle.ore_cert.specs.declared.certificate.Certificate.TheVariants.{Controllable, AutonomousElement, Kernel}
use Rattle.ore_cert.specs.CertificateOf.{IsCertificateOf}
use Rattle.ore_check.specs.Check.{check, IsNoReport}
use Rattle.ore_check.specs.Layout.{line_in}
use Rattle.ore_blocks.specs.declared.place.Place.TheVariants.{End}
use Rattle.ore_text.specs.Names.{AreNames}
use Rattle.ore_parts.specs.Formats.{line_count}
use Rattle.ore_cert.specs.WholeText.{rest_text, certificate_text, IsWrittenCertificate}
use Rattle.std.specs.List.{flat_map}
use Rattle.ore_check.specs.Parts.{parts_of, FollowOn}
use Rattle.ore_blocks.specs.CheckBlock.{RowMatrix}
use Rattle.ore_check.specs.Meaning.{RowsOf, Means}

-- each entry is a row of its own
abbrev pub as_column : Row rationals → List (Row rationals)
as_column e = map (λ f. f ∷ []) e

module _ (s : Signature) where
  -- a certificate of the signature that passes the check, within whatever limits, is true of r
  abbrev pub CheckIsTrue : Type 0
  CheckIsTrue = (l : Limits) (r : RowMatrix) (c : Certificate) → AreLong rationals r.cols r.rows → RowsOf s r.rows → IsCertificateOf s c
      → (claims : IsNoReport c) → check l s r c claims ≡ Ok tt → Means s r c

  -- where the rows that take q to zeros are the row module of r, no row is torsion but those of the module; q has a row
  -- for each column of r (Chyzak, Quadrat and Robertz 2005)
  abbrev pub ExactIsTorsionFree : Type 0
  ExactIsTorsionFree = (n : ℕ) (q : List (Row rationals)) (r : RowMatrix) → AreLong rationals r.cols r.rows → RowsOf s r.rows → AreLong rationals n q → RowsOf s q → length q ≡ r.cols
      → IsExact rationals s n q r.rows → IsTorsionFree rationals s r.cols r.rows

  -- the certificate claims that nothing is torsion
  abbrev pub IsControllable : Certificate → Type 0
  IsControllable (Controllable q block) = Unit {0}
  IsControllable other = ⊥

  -- the certificate claims that an element is torsion
  abbrev pub IsAutonomous : Certificate → Type 0
  IsAutonomous (AutonomousElement element operator cofactor block) = Unit {0}
  IsAutonomous other = ⊥

  -- of a true certificate of the one verdict and one of the other, for one matrix r, there is none
  abbrev pub HasOneVerdict : Type 0
  HasOneVerdict = (r : RowMatrix) (c d : Certificate) → AreLong rationals r.cols r.rows → RowsOf s r.rows → IsCertificateOf s c → IsCertificateOf s d
      → IsControllable c → IsAutonomous d → Means s r c → ¬ Means s r d

  -- some column of the signature, of which m times it is this one
  abbrev pub IsColumnOf : OperatorMatrix → Row rationals → Type 0
  IsColumnOf m e = (x : Row rationals) × (length x ≡ m.cols) × RowOf rationals s x × (matrix_times rationals s 1 (rows_of m) (as_column x) ≡ as_column e)

  -- of a true right kernel: a column of the signature that r takes to zeros is a combination of the columns of the
  -- generators, and each such combination is one
  abbrev pub RightKernelIsExact : Type 0
  RightKernelIsExact = (r : RowMatrix) (m : OperatorMatrix) (block : ExactBlock) → AreLong rationals r.cols r.rows → MatrixOf s m → Means s r (Kernel Right m block)
      → (e : Row rationals) → length e ≡ r.cols → RowOf rationals s e
      → (matrix_times rationals s 1 r.rows (as_column e) ≡ as_column (zero_row rationals (length r.rows))) ↔ IsColumnOf m e

  -- the text of a certificate that may be written has as many lines as its layout counts, of which the last is that of
  -- its end; there is a name for each variable
  abbrev pub LastLineIsEnd : Type 0
  LastLineIsEnd = (names : List (List ℕ)) → AreNames names → length names ≡ length s.kinds → (c : Certificate) → IsWrittenCertificate s names c → IsNoReport c
      → line_count (certificate_text names s.order c) ≡ line_in c End

  -- of a certificate that may be written the text behind the line of the kind is that of its parts, each of which
  -- begins at the line that the layout gives to its place
  abbrev pub PartsBeginAtLines : Type 0
  PartsBeginAtLines = (names : List (List ℕ)) → AreNames names → length names ≡ length s.kinds → (c : Certificate) → IsWrittenCertificate s names c → IsNoReport c
      → (rest_text names s.order c ≡ flat_map (λ part. part.1) (parts_of names s.order c)) × FollowOn (line_in c) 3 (parts_of names s.order c)
