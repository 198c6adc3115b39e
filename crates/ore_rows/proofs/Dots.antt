-- Facts about the loop that multiplies a row with a column.
--     entry_place       the operator at a place of a row, and of the operators of the row
--     all_at            what holds of all of a list holds of the item at a place
--     all_first         and of its first item
--     zero_belongs      the operator zero belongs to each signature whose order it carries
--     term_belongs      and so does a term whose monomial is of the signature
use Rattle.std.proofs.Common.{◌≡◌, ℕ, List, ◌∷◌, get_or, Some, sym, ap, ◌∙◌, subst, arith}
use Rattle.std.specs.Prelude.{IfOk}
use Rattle.std.specs.List.{All, slice_get}
use Rattle.std.specs.declared.result.Result.{Result}
use Rattle.std.specs.declared.result.Result.TheVariants.{Ok, Err}
use Rattle.std.proofs.lemmas.List.{get_or-map}
use Rattle.std.proofs.lemmas.Option.{slice_get_within, get_or_from_slice_get}
use Rattle.ore_algebra.specs.Free.{empty_sum, single}
use Rattle.ore_rational.specs.Fraction.{Fraction}
use Rattle.ore_rational.specs.Field.{rationals}
use Rattle.ore_monomial.specs.Monomial.{Monomial, plain_cmp}
use Rattle.ore_monomial.specs.declared.order.Order.{Order}
use Rattle.ore_monomial.specs.Signature.{Signature, MonomialOf}
use Rattle.ore_ring.specs.Belongs.{Belongs, OperatorOf}
use Rattle.ore_ring.specs.Ordered.{Ordered}
use Rattle.ore_ring.proofs.Belonging.{of_none, of_single}
use Rattle.ore_rows.specs.Stored.{sums_of}

pub entry_place : (r : List Ordered) (j : ℕ) (e : Ordered) → slice_get r j ≡ Some e → get_or (sums_of r) j (empty_sum rationals plain_cmp) ≡ e.sum
entry_place r j e h = get_or-map (λ (w : Ordered). w.sum) r j e (empty_sum rationals plain_cmp) (slice_get_within r j e h) ∙ ap (λ (w : Ordered). w.sum) (get_or_from_slice_get r j e e h)

pub all_at : {A : Type 0} (P : A → Type 0) (r : List A) (j : ℕ) (e : A) → slice_get r j ≡ Some e → All P r → P e
all_at P r j e h a = subst P (get_or_from_slice_get r j e e h) (a j e (slice_get_within r j e h))

pub all_first : {A : Type 0} (P : A → Type 0) (xs : List A) (x : A) (us : List A) → xs ≡ x ∷ us → All P xs → P x
all_first P xs x us e a = subst (All P) e a 0 x (omega arith)

pub zero_belongs : (s : Signature) (o : Order) (v : Ordered) → v ≡ record { by = o; sum = empty_sum rationals plain_cmp } → o ≡ s.order → Belongs s v
zero_belongs s o v e h = record { order = ap (λ (w : Ordered). w.by) e ∙ h; variables = subst (OperatorOf rationals s) (sym (ap (λ (w : Ordered). w.sum) e)) (of_none rationals s) }

pub term_belongs : {E : Type 0} (s : Signature) (o : Order) (m : Monomial) (k : Fraction) (r : Result Ordered E) → o ≡ s.order → MonomialOf s m → IfOk r (λ v. v ≡ record { by = o; sum = single rationals plain_cmp m k }) → IfOk r (Belongs s)
term_belongs s o m k (Ok v) h d e = record { order = ap (λ (w : Ordered). w.by) e ∙ h; variables = subst (OperatorOf rationals s) (sym (ap (λ (w : Ordered). w.sum) e)) (of_single rationals s m k d) }
term_belongs s o m k (Err x) h d e = tt
