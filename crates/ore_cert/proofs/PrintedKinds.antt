-- Texts of certificates that are printed by their kind.
--     rest_of, rest_of_either     what follows the line of the kind, of a certificate that is known, or is one of two
use Rattle.std.proofs.Common.{◌≡◌, ◌⊎◌, inl, inr, ℕ, List, ◌++◌, Result, sym, subst}
use Rattle.std.specs.Prelude.{OnOk}
use Rattle.ore_monomial.specs.declared.order.Order.{Order}
use Rattle.ore_cert.specs.declared.certificate.Certificate.{Certificate}
use Rattle.ore_cert.specs.WholeText.{rest_text}

pub rest_of : {E : Type 0} (names : List (List ℕ)) (o : Order) (r : Result (Unit {0}) E) (more base : List ℕ) (c k : Certificate) → c ≡ k → OnOk r (more ≡ base ++ rest_text names o k) → OnOk r (more ≡ base ++ rest_text names o c)
rest_of names o r more base c k e h = subst (λ k. OnOk r (more ≡ base ++ rest_text names o k)) (sym e) h

pub rest_of_either : {E : Type 0} (names : List (List ℕ)) (o : Order) (r : Result (Unit {0}) E) (more base : List ℕ) (c j k : Certificate) → (c ≡ j) ⊎ (c ≡ k)
    → OnOk r (more ≡ base ++ rest_text names o j) → OnOk r (more ≡ base ++ rest_text names o k) → OnOk r (more ≡ base ++ rest_text names o c)
rest_of_either names o r more base c j k (inl e) h g = rest_of names o r more base c j e h
rest_of_either names o r more base c j k (inr e) h g = rest_of names o r more base c k e g
