-- Dickson's lemma for leads: a list of leads in the first n columns that is made longer only by one that no earlier lead
-- of its column divides comes to an end.
--     IsNewLead, LeadsEnd      no lead divides it; however new leads are put in front, there is an end
--     tuple_of, tuple_divides, exponents_of, term_divides    exponents as a tuple
--     by_columns               a list for each column
--     every_leads_end          from any leads on there is an end
use Rattle.std.proofs.Common.{◌≡◌, ℕ, zero, suc, pred, ◌<◌, ◌≤◌, true, false, ◌&&◌, nat_eq, nat_le, List, [], ◌∷◌, length, replicate, get_or, set, refl, sym, ap, ◌∙◌, subst, true≢false, arith}
use Rattle.std.specs.List.{AllByRecursion, list_all, zip}
use Rattle.std.proofs.lemmas.List.{get_or-set_same, get_or-set_other, length-replicate, get_or-replicate}
use Rattle.std.proofs.lemmas.Bool.Decides.{nat_tests}
use native.Mathlib.Decide.{ℕ_discrete}
use Rattle.ore_monomial.specs.Term.{Term}
use Rattle.ore_leads.specs.FirstDivisor.{divides_term}
use Rattle.ore_leads.proofs.Dickson.{IsNew, AllEnd, by_slices, Tuple, Divides, dickson}

-- no lead of its column divides q
abbrev pub IsNewLead : Term → List Term → Type 0
IsNewLead q leads = AllByRecursion (λ b. divides_term b q ≡ false) leads

-- however new leads in the first n columns are put in front, there is an end
pub data LeadsEnd (n : ℕ) : List Term → Type 0 where
  leads_end : {leads : List Term} → ((q : Term) → q.column < n → IsNewLead q leads → LeadsEnd n (q ∷ leads)) → LeadsEnd n leads

tuple_of : (k : ℕ) → List ℕ → Tuple k
tuple_of zero es = tt
tuple_of (suc k) [] = (0, tuple_of k [])
tuple_of (suc k) (e ∷ es) = (e, tuple_of k es)

nat_le_of : (a b : ℕ) → a ≤ b → nat_le a b ≡ true
nat_le_of a b h = grind (arith, nat_tests)

own_number : (a b : ℕ) → a ≡ b → nat_eq a b ≡ true
own_number a b e = grind (arith, nat_tests)

tuple_divides : (k : ℕ) (es fs : List ℕ) → length es ≡ k → length fs ≡ k → Divides k (tuple_of k es) (tuple_of k fs) → list_all (λ p. nat_le p.0 p.1) (zip es fs) ≡ true
unfolding tuple_of
tuple_divides k [] fs l m h = refl
tuple_divides k (e ∷ es) [] l m h = refl
tuple_divides zero (e ∷ es) (f ∷ fs) l m h = absurd (omega arith)
tuple_divides (suc k) (e ∷ es) (f ∷ fs) l m h = ap (λ b. b && list_all (λ p. nat_le p.0 p.1) (zip es fs)) (nat_le_of e f h.0) ∙ tuple_divides k es fs (ap pred l) (ap pred m) h.1

exponents_of : Term → Tuple 12
exponents_of q = tuple_of 12 q.monomial.exponents

term_divides : (b q : Term) → b.column ≡ q.column → Divides 12 (exponents_of b) (exponents_of q) → divides_term b q ≡ true
unfolding divides_term exponents_of
term_divides b q e h = (λ i. own_number b.column q.column e i && list_all (λ p. nat_le p.0 p.1) (zip b.monomial.exponents q.monomial.exponents)) ∙ tuple_divides 12 b.monomial.exponents q.monomial.exponents b.monomial.twelve q.monomial.twelve h

-- what is new among the leads is new in the slice of its column
abbrev ColumnsNew : ℕ → List (List (Tuple 12)) → List Term → Type 0
ColumnsNew n slices leads = (q : Term) → q.column < n → IsNewLead q leads → IsNew (Divides 12) (exponents_of q) (get_or slices q.column [])

by_columns : (n : ℕ) (slices : List (List (Tuple 12))) → length slices ≡ n → AllEnd (Divides 12) slices → (leads : List Term) → ColumnsNew n slices leads → LeadsEnd n leads
by_columns n = by_slices (Divides 12) n (λ ss. (leads : List Term) → ColumnsNew n ss leads → LeadsEnd n leads)
    (λ ss l all lowered leads c. leads_end (λ q h new. lowered q.column (exponents_of q) h (c q h new) (q ∷ leads) (longer ss l leads c q h)))
  where
    longer : (ss : List (List (Tuple 12))) → length ss ≡ n → (leads : List Term) → ColumnsNew n ss leads → (q : Term) → q.column < n → ColumnsNew n (set ss q.column (exponents_of q ∷ get_or ss q.column [])) (q ∷ leads)
    longer ss l leads c q h r k w = by (ℕ_discrete r.column q.column)
      where
        next : List (List (Tuple 12))
        next = set ss q.column (exponents_of q ∷ get_or ss q.column [])

        by : Dec (r.column ≡ q.column) → IsNew (Divides 12) (exponents_of r) (get_or next r.column [])
        by (yes e) =
            let same : get_or next r.column [] ≡ exponents_of q ∷ get_or ss q.column [] = ap (λ j. get_or next j []) e ∙ get_or-set_same ss q.column (exponents_of q ∷ get_or ss q.column []) [] (subst (λ m. q.column < m) (sym l) h) in
            subst (IsNew (Divides 12) (exponents_of r)) (sym same) (λ d. true≢false (sym (term_divides q r (sym e) d) ∙ w.0), subst (λ j. IsNew (Divides 12) (exponents_of r) (get_or ss j [])) e (c r k w.1))
        by (no d) = subst (IsNew (Divides 12) (exponents_of r)) (sym (get_or-set_other ss q.column r.column (exponents_of q ∷ get_or ss q.column []) [] d)) (c r k w.1)

-- from any leads on
pub every_leads_end : (n : ℕ) (leads : List Term) → LeadsEnd n leads
every_leads_end n leads = by_columns n (replicate n nothing) (length-replicate n nothing) (all n) leads (λ q h w. subst (IsNew (Divides 12) (exponents_of q)) (sym (get_or-replicate n q.column nothing [] h)) tt)
  where
    nothing : List (Tuple 12)
    nothing = []

    all : (n : ℕ) → AllEnd (Divides 12) (replicate n nothing)
    all zero = tt
    all (suc n) = (dickson 12, all n)
