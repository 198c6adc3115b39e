-- The links of a resolution, from one on.
--     before_next          the matrix before the next link is that of this link
--     before_of, found_of  each of these matrices is of the signature
--     links_next           the conditions of this link and of those behind it
--     links_end            none behind the last
use Rattle.std.proofs.Common.{◌≡◌, ℕ, zero, suc, ◌+◌, ◌≤◌, List, [], ◌∷◌, drop, length, nat_eq, refl, sym, ap, ◌∙◌, subst, Some, arith}
use Rattle.std.specs.List.{All, slice_get}
use Rattle.std.specs.declared.result.Result.TheVariants.{Ok, Err}
use Rattle.std.proofs.lemmas.List.{at_drop_all}
use Rattle.std.proofs.lemmas.List.Elements.{All-head, All-tail}
use Rattle.ore_algebra.specs.Limits.{Limits}
use Rattle.ore_algebra.specs.Results.{◌>>=◌}
use Rattle.ore_algebra.proofs.ListLaws.{drop_read}
use Rattle.ore_monomial.specs.Signature.{Signature}
use Rattle.ore_ring.specs.Belongs.{Belongs}
use Rattle.ore_rows.specs.Stored.{OperatorMatrix}
use Rattle.ore_parts.specs.OfSignature.{IsLinkOf}
use Rattle.ore_parts.specs.declared.block.Link.{Link}
use Rattle.ore_blocks.specs.CheckBlock.{RowMatrix, row_matrix_of, check_exact}
use Rattle.ore_blocks.specs.Conditions.{Checked, required}
use Rattle.ore_blocks.specs.declared.place.Name.TheVariants.{Generators}
use Rattle.ore_blocks.specs.declared.place.Place.TheVariants.{Header}
use Rattle.ore_blocks.specs.declared.place.Section.TheVariants as section
use Rattle.ore_blocks.specs.declared.reason.Reason.TheVariants.{Shape}
use Rattle.ore_check.specs.Check.{check_links}
use Rattle.ore_check.specs.InnerContracts.{check_link, matrix_before}

behind : (r : OperatorMatrix) (ks : List Link) (i : ℕ) (k : Link) → slice_get ks i ≡ Some k → matrix_before r ks (suc i) ≡ k.l
unfolding matrix_before
behind r [] i k at = absurd cc
behind r (x ∷ ks) zero k at = let same : x ≡ k = cc in ap (λ (y : Link). y.l) same
behind r (x ∷ ks) (suc i) k at = behind x.l ks i k at

pub before_next : (r : OperatorMatrix) (ks : List Link) (i : ℕ) (k : Link) → slice_get ks i ≡ Some k → matrix_before r ks (i + 1) ≡ k.l
before_next r ks i k at = let e : i + 1 ≡ suc i = omega arith in ap (matrix_before r ks) e ∙ behind r ks i k at

pub before_of : (s : Signature) (r : OperatorMatrix) (ks : List Link) (i : ℕ) → All (All (Belongs s)) r.rows → All (IsLinkOf s) ks → All (All (Belongs s)) (matrix_before r ks i).rows
unfolding matrix_before
before_of s r ks zero of all = of
before_of s r [] (suc i) of all = of
before_of s r (x ∷ ks) (suc i) of all = before_of s x.l ks i (All-head (IsLinkOf s) x ks all).l.of (All-tail (IsLinkOf s) x ks all)

pub found_of : (s : Signature) (r : OperatorMatrix) (ks : List Link) (i : ℕ) (m : OperatorMatrix) → m ≡ matrix_before r ks i → All (All (Belongs s)) r.rows → All (IsLinkOf s) ks → All (All (Belongs s)) m.rows
found_of s r ks i m found of all = subst (λ (m : OperatorMatrix). All (All (Belongs s)) m.rows) (sym found) (before_of s r ks i of all)

joined : {X : Type 0} (a b : Checked (Unit {0})) (k : Checked X) → (a >>= λ u. b >>= λ v. k) ≡ ((a >>= λ u. b) >>= λ v. k)
joined (Ok u) b k = refl
joined (Err e) b k = refl

module _ (l : Limits) (s : Signature) (before at : RowMatrix) (ks : List Link) (i : ℕ) where
  pub links_next : (k : Link) → slice_get ks i ≡ Some k → check_links l s i before at (drop i ks) ≡ (check_link l s i at k >>= λ u. check_links l s (i + 1) at (row_matrix_of k.l) (drop (i + 1) ks))
  unfolding check_links check_link
  links_next k here =
      ap (check_links l s i before at) (drop_read ks i k here)
      ∙ joined (required (Header (section.Link i) Generators) Shape (nat_eq k.l.cols (length at.rows))) (check_exact l s (section.Link i) at (row_matrix_of k.l) k.block) (check_links l s (suc i) at (row_matrix_of k.l) (drop (i + 1) ks))
      ∙ ap (λ n. check_link l s i at k >>= λ u. check_links l s n at (row_matrix_of k.l) (drop (i + 1) ks)) (let e : suc i ≡ i + 1 = omega arith in e)

  pub links_end : length ks ≤ i → check_links l s i before at (drop i ks) ≡ Ok (before, at)
  unfolding check_links
  links_end h = at_drop_all (check_links l s i before at) ks i h
