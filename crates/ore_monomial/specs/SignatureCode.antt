-- How signatures are stored: as the kinds and the order, from which the fact that they have no fault follows.
--     signature_of         the signature of kinds without a fault, and the empty signature of others
--     signature_again      a signature is that of its kinds and its order
--     same_signature       signatures with the same kinds and the same order are the same
--     signature_code       the code of signatures, from the codes of kinds and of orders
--     signature_at         the same, where the fault of the kinds is given
--     signature_accepted   kinds without a fault are those of the signature made of them
--     kind_numbers, kind_with, kind_again  a kind as three numbers, and back from them
--     is_deg_lex, order_where, order_again  an order as a truth value, and back from it
--     kind_code, order_code  the codes of kinds and of orders
use Rattle.std.specs.Prelude.{◌≡◌, ℕ, zero, suc, Bool, true, false, List, []}
use Rattle.std.specs.Coded.{Coded, coded_ℕ, coded_bool, coded_list, coded×, code_by}
use Rattle.std.specs.declared.option.Option.{Option}
use Rattle.std.specs.declared.option.Option.TheVariants.{None, Some}
use Rattle.std.proofs.Common.{refl, sym, ◌∙◌}
use Rattle.std.proofs.Math.Path.{path_j}
use Rattle.ore_monomial.specs.declared.order.Order.{Order}
use Rattle.ore_monomial.specs.declared.order.Order.TheVariants.{DegLex, DegRevLex}
use Rattle.ore_monomial.specs.declared.signature.VarKind.{VarKind}
use Rattle.ore_monomial.specs.declared.signature.VarKind.TheVariants.{Coordinate, Constant, Plain, Differential, Shift, Delay}
use Rattle.ore_monomial.specs.declared.signature.SignatureFault.{SignatureFault}
use Rattle.ore_monomial.specs.Signature.{Signature, first_fault}

-- the signature of these kinds where the fault is none, and else the empty one
abbrev pub signature_at : (kinds : List VarKind) → Order → (fault : Option SignatureFault) → first_fault kinds ≡ fault → Signature
signature_at kinds order None e = record { kinds = kinds; order = order; accepted = e }
signature_at kinds order (Some fault) e = record { kinds = []; order = order; accepted = refl }

-- the signature of kinds without a fault, and the empty signature of others
abbrev pub signature_of : List VarKind → Order → Signature
signature_of kinds order = signature_at kinds order (first_fault kinds) refl

pub signature_accepted : (kinds : List VarKind) (order : Order) (e : first_fault kinds ≡ None) → signature_of kinds order ≡ record { kinds = kinds; order = order; accepted = e }
signature_accepted kinds order e = path_j (λ (fault : Option SignatureFault) (p : first_fault kinds ≡ fault). signature_of kinds order ≡ signature_at kinds order fault p) refl e

pub signature_again : (s : Signature) → signature_of s.kinds s.order ≡ s
signature_again s = signature_accepted s.kinds s.order s.accepted

pub same_signature : (s t : Signature) → s.kinds ≡ t.kinds → s.order ≡ t.order → s ≡ t
same_signature s t e f = sym (signature_again s) ∙ (λ i. signature_of (e i) (f i)) ∙ signature_again t

-- ---- codes

-- a kind as three numbers: which kind it is, its coordinate and its step
abbrev pub kind_numbers : VarKind → ℕ × (ℕ × ℕ)
kind_numbers Coordinate = (0, (0, 0))
kind_numbers Constant = (1, (0, 0))
kind_numbers Plain = (2, (0, 0))
kind_numbers (Differential on) = (3, (on, 0))
kind_numbers (Shift on step) = (4, (on, step))
kind_numbers (Delay on step) = (5, (on, step))

-- the kind with these three numbers
abbrev pub kind_with : ℕ → ℕ → ℕ → VarKind
kind_with zero on step = Coordinate
kind_with (suc zero) on step = Constant
kind_with (suc (suc zero)) on step = Plain
kind_with (suc (suc (suc zero))) on step = Differential on
kind_with (suc (suc (suc (suc zero)))) on step = Shift on step
kind_with (suc (suc (suc (suc (suc n))))) on step = Delay on step

pub kind_again : (kind : VarKind) → (let n = kind_numbers kind in kind_with n.0 n.1.0 n.1.1 ≡ kind)
kind_again Coordinate = refl
kind_again Constant = refl
kind_again Plain = refl
kind_again (Differential on) = refl
kind_again (Shift on step) = refl
kind_again (Delay on step) = refl

abbrev pub kind_code : Coded VarKind
kind_code = code_by (ℕ × (ℕ × ℕ)) (coded× coded_ℕ (coded× coded_ℕ coded_ℕ)) kind_numbers (λ n. kind_with n.0 n.1.0 n.1.1) kind_again

abbrev pub is_deg_lex : Order → Bool
is_deg_lex DegLex = true
is_deg_lex DegRevLex = false

abbrev pub order_where : Bool → Order
order_where true = DegLex
order_where false = DegRevLex

pub order_again : (order : Order) → order_where (is_deg_lex order) ≡ order
order_again DegLex = refl
order_again DegRevLex = refl

abbrev pub order_code : Coded Order
order_code = code_by Bool coded_bool is_deg_lex order_where order_again

abbrev pub signature_code : Coded Signature
signature_code = code_by (List VarKind × Order) (coded× (coded_list kind_code) order_code) (λ s. (s.kinds, s.order)) (λ p. signature_of p.0 p.1) signature_again
