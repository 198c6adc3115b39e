-- Names and signatures with one declaration more.
--     index_of_below        the index of a name is below the number of names
--     signature_from        a signature is that of its kinds and its order
--     declared_by_shorter, declared_by_longer      one word and five words are no declaration
--     frame_added           the frame with one declaration more
--     extended_from         what making a signature answers, as the signature with one kind more
use Rattle.std.proofs.Common.{◌≡◌, ◌↔◌, ℕ, suc, ◌<◌, ◌≤◌, Bool, true, false, cond, nat_le, true≢false, List, [], ◌∷◌, ◌++◌, length, refl, sym, ap, ◌∙◌, arith}
use Rattle.std.specs.declared.option.Option.{Option}
use Rattle.std.specs.declared.option.Option.TheVariants.{None, Some}
use Rattle.std.specs.Option.{option_map, is_some}
use Rattle.std.specs.declared.result.Result.{Result}
use Rattle.std.specs.declared.result.Result.TheVariants.{Ok, Err}
use Rattle.std.specs.Result.{IsOk, IfOk, IfErr}
use Rattle.std.specs.Str.{bytes_eq}
use Rattle.std.proofs.lemmas.Bool.Decides.{nat_tests}
use Rattle.ore_monomial.specs.declared.order.Order.{Order}
use Rattle.ore_monomial.specs.declared.signature.VarKind.{VarKind}
use Rattle.ore_monomial.specs.declared.signature.SignatureFault.{SignatureFault}
use Rattle.ore_monomial.specs.Signature.{Signature, first_fault}
use Rattle.ore_monomial.specs.SignatureCode.{signature_of, signature_again}
use Rattle.ore_expr.specs.Faults.{index_of}
use Rattle.ore_text.specs.Names.{IsAdded}
use Rattle.ore_problem.specs.Declarations.{Declared, declared_by, declaration_fault}
use Rattle.ore_problem.specs.Problems.{Frame, fault_or, with_declared}
use Rattle.ore_problem.specs.Reader.{IsExtended}

pub index_of_below : (names : List (List ℕ)) (name : List ℕ) (k : ℕ) → index_of names name ≡ Some k → k < length names
index_of_below [] name k e = cc
index_of_below (n ∷ names) name k e = by (bytes_eq n name) (index_of names name) k (λ j h. index_of_below names name j h) e
  where
    by : (b : Bool) (o : Option ℕ) (k : ℕ) → ((j : ℕ) → o ≡ Some j → j < length names) → cond b (Some 0) (option_map suc o) ≡ Some k → k < suc (length names)
    by true o k h e = let z : 0 ≡ k = cc in omega (arith, z)
    by false None k h e = cc
    by false (Some j) k h e = let z : suc j ≡ k = cc in omega (arith, z, h j refl)

pub signature_from : (s : Signature) (kinds : List VarKind) (order : Order) → s.kinds ≡ kinds → s.order ≡ order → s ≡ signature_of kinds order
signature_from s kinds order e f = sym (signature_again s) ∙ (λ i. signature_of (e i) (f i))

pub extended_from : (r : Result Signature SignatureFault) (s : Signature) (kind : VarKind) (kinds : List VarKind) (order : Order) → kinds ≡ s.kinds ++ kind ∷ [] → order ≡ s.order
    → IsOk r ↔ (first_fault kinds ≡ None) → IfOk r (λ t. t.kinds ≡ kinds) → IfOk r (λ t. t.order ≡ order) → IfErr r (λ f. first_fault kinds ≡ Some f)
    → IsExtended r s kind
extended_from (Ok t) s kind kinds order e f ok k o err = (ap first_fault (sym e) ∙ ok.0 refl, signature_from t _ _ (k ∙ e) (o ∙ f))
extended_from (Err fault) s kind kinds order e f ok k o err = ap first_fault (sym e) ∙ err

pub declared_by_shorter : (names ws : List (List ℕ)) → length ws ≤ 1 → declared_by names ws ≡ None
unfolding declared_by
declared_by_shorter names [] h = refl
declared_by_shorter names (u ∷ []) h = refl
declared_by_shorter names (u ∷ v ∷ ws) h = absurd (omega (arith, h))

pub declared_by_longer : (names ws : List (List ℕ)) → 5 ≤ length ws → declared_by names ws ≡ None
unfolding declared_by
declared_by_longer names [] h = refl
declared_by_longer names (u ∷ []) h = refl
declared_by_longer names (u ∷ v ∷ []) h = absurd (omega (arith, h))
declared_by_longer names (u ∷ v ∷ w ∷ []) h = absurd (omega (arith, h))
declared_by_longer names (u ∷ v ∷ w ∷ x ∷ []) h = absurd (omega (arith, h))
declared_by_longer names (u ∷ v ∷ w ∷ x ∷ y ∷ ws) h = refl

sound : (names : List (List ℕ)) (kinds : List VarKind) (d : Declared) → length kinds < 12 → is_some (index_of names d.name) ≡ false → first_fault (kinds ++ d.kind ∷ []) ≡ None → declaration_fault names kinds d ≡ None
unfolding declaration_fault
sound names kinds d few new none = let small : nat_le 12 (length kinds) ≡ false = grind (arith, nat_tests) in rw (small, new, none) refl

pub frame_added : (E : Type 0) (f : Frame) (d : Declared) (line : ℕ) (b : Bool) (names : List (List ℕ)) (s : Signature)
    → length f.signature.kinds < 12 → is_some (index_of f.names d.name) ≡ false → IsExtended (Ok s) f.signature d.kind → IsAdded {E = E} (Ok b) f.names names d.name
    → fault_or (declaration_fault f.names f.signature.kinds d) line (with_declared f d) ≡ Ok (record { names = names; signature = s })
frame_added E f d line false names s few new extended added = absurd (true≢false (sym added.0 ∙ new))
frame_added E f d line true names s few new extended added =
    ap (λ r. fault_or r line (with_declared f d)) (sound f.names f.signature.kinds d few new extended.0)
    ∙ (λ i. Ok (record { names = sym added.1 i; signature = sym extended.1 i }))
