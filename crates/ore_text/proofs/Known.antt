-- What is known of an answer.
--     same_some, not_none, same_ok, not_error       one answer is two things
--     at_some, at_none, if_some, is_some            a fact of an answer, where it is known
use Rattle.std.proofs.Common.{◌≡◌, Some, None, Ok, Err, sym, subst}
use Rattle.std.specs.Prelude.{MatchOption, IfSome}
use Rattle.std.specs.declared.option.Option.{Option}
use Rattle.std.specs.declared.result.Result.{Result}

pub same_some : {A : Type 0} {x y : A} {o : Option A} → o ≡ Some x → o ≡ Some y → x ≡ y
same_some e f = cc

pub not_none : {A : Type 0} {x : A} {o : Option A} → o ≡ Some x → o ≡ None → ⊥
not_none e f = cc

pub same_ok : {E A : Type 0} {x y : A} {r : Result A E} → r ≡ Ok x → r ≡ Ok y → x ≡ y
same_ok e f = cc

pub not_error : {E A : Type 0} {x : A} {d : E} {r : Result A E} → r ≡ Ok x → r ≡ Err d → ⊥
not_error e f = cc

pub at_some : {A : Type 0} (P : A → Type 0) (o : Option A) (x : A) → o ≡ Some x → MatchOption o ⊥ P → P x
at_some P o x e m = subst (λ o. MatchOption o ⊥ P) e m

pub at_none : {A : Type 0} (P : A → Type 0) (o : Option A) → o ≡ None → MatchOption o ⊥ P → ⊥
at_none P o e m = subst (λ o. MatchOption o ⊥ P) e m

pub if_some : {A : Type 0} (P : A → Type 0) (o : Option A) (x : A) → o ≡ Some x → IfSome o P → P x
if_some P o x e m = subst (λ o. IfSome o P) e m

pub is_some : {A : Type 0} (P : A → Type 0) (o : Option A) (x : A) → o ≡ Some x → P x → MatchOption o ⊥ P
is_some P o x e p = subst (λ o. MatchOption o ⊥ P) (sym e) p
