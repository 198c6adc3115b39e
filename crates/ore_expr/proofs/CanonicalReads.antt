-- The canonical text of an operator is an expression, and its value is the operator.
--     storable_falling     the falling terms of an operator are in range where its terms are
--     canonical_is_read    the text is spelled as the tree, no token has a fault, and the tree has this value
use Rattle.std.proofs.Common.{◌≡◌, ℕ, ◌^◌, Bool, true, ◌&&◌, List, [], ◌∷◌, length, nat_abs, refl, sym, ap, ◌∙◌, subst}
use Rattle.std.specs.Prelude.{nat_lt, nat_le}
use Rattle.std.specs.declared.result.Result.TheVariants.{Ok}
use Rattle.std.specs.List.{AllByRecursion, list_all}
use Rattle.std.proofs.lemmas.Bool.Decides.{Decides-ltb}
use Rattle.std.proofs.lemmas.Bool.{le-leb, leb-true}
use Rattle.ore_algebra.specs.Free.{terms, coefficient}
use Rattle.ore_rational.specs.Field.{rationals}
use Rattle.ore_monomial.specs.Monomial.{degree, plain_cmp}
use Rattle.ore_monomial.specs.Signature.{Signature}
use Rattle.ore_monomial.specs.declared.order.Order.{Order}
use Rattle.ore_monomial.specs.LetterRule.{Operator}
use Rattle.ore_monomial.specs.Numbers.{AreNonZero}
use Rattle.ore_ring.specs.Belongs.{OperatorOf}
use Rattle.ore_ring.specs.Terms.{Summand, Terms, falling}
use Rattle.ore_ring.proofs.TermLaws.{collect-falling}
use Rattle.ore_ring.proofs.AllTerms.{falls-falling, all_terms}
use Rattle.ore_ring.proofs.Falls.{left_true, right_true}
use Rattle.ore_expr.specs.Tokens.{lexemes}
use Rattle.ore_text.specs.CanonicalText.{operator_text}
use Rattle.ore_expr.specs.Laws.{IsStorableTerm, IsStorable, CanonicalIsRead}
use Rattle.ore_expr.proofs.CanonicalTree.{canonical_tree, canonical_tokens}
use Rattle.ore_expr.proofs.CanonicalFaults.{IsIndexed, AreSound, names_indexed, sound_lexemes, canonical_sound}
use Rattle.ore_expr.proofs.CanonicalTermValue.{term_gives}
use Rattle.ore_expr.proofs.CanonicalValue.{TermGives, falling_own, own_terms, canonical_value}

-- ---- the terms are in range

storable_test : Summand → Bool
storable_test t = nat_lt (nat_abs t.1.num) (2 ^ 127) && (nat_lt t.1.den (2 ^ 127) && nat_le (degree t.0) 32767)

passes : (t : Summand) → IsStorableTerm t → storable_test t ≡ true
unfolding storable_test
passes t h = λ i. (Decides-ltb (nat_abs t.1.num) (2 ^ 127)).1 h.numerator i && ((Decides-ltb t.1.den (2 ^ 127)).1 h.denominator i && le-leb (degree t.0) 32767 h.degree i)

storable : (t : Summand) → storable_test t ≡ true → IsStorableTerm t
unfolding storable_test
storable t h = record {
  numerator = (Decides-ltb (nat_abs t.1.num) (2 ^ 127)).0 (left_true _ _ h);
  denominator = (Decides-ltb t.1.den (2 ^ 127)).0 (left_true _ _ (right_true _ _ h));
  degree = leb-true (degree t.0) 32767 (right_true _ _ (right_true _ _ h));
}

all_pass : (ts : Terms) → AllByRecursion IsStorableTerm ts → list_all storable_test ts ≡ true
all_pass [] h = refl
all_pass (t ∷ ts) h = λ i. passes t h.0 i && all_pass ts h.1 i

all_storable : (ts : Terms) → list_all storable_test ts ≡ true → AllByRecursion IsStorableTerm ts
all_storable [] h = tt
all_storable (t ∷ ts) h = (storable t (left_true _ _ h), all_storable ts (right_true _ _ h))

pub storable_falling : (o : Order) (f : Operator rationals) → IsStorable f → AllByRecursion IsStorableTerm (falling o f)
storable_falling o f h =
    all_storable (falling o f)
    (sym (all_terms storable_test o (falling o f) (falls-falling o f))
    ∙ ap (λ g. list_all storable_test (terms rationals plain_cmp g)) (collect-falling o f)
    ∙ all_pass (terms rationals plain_cmp f) h)

-- ---- the terms have values

module _ (s : Signature) (names : List (List ℕ)) (indexed : IsIndexed names 0 names) (count : length names ≡ length s.kinds) where
  terms_give : (f : Operator rationals) → OperatorOf rationals s f → (ts : Terms) → AllByRecursion IsStorableTerm ts → AreNonZero rationals ts → AllByRecursion (λ (u : Summand). coefficient rationals plain_cmp f u.0 ≡ u.1) ts → AllByRecursion (TermGives s names) ts
  terms_give f of [] h a c = tt
  terms_give f of (t ∷ ts) h a c = (term_gives s names indexed count t h.0 (of t.0 (λ e. a.0 (sym c.0 ∙ e))) a.0, terms_give f of ts h.1 a.1 c.1)

pub canonical_is_read : CanonicalIsRead
unfolding operator_text
canonical_is_read s names f p =
    let ts = falling s.order f in
    let falls = falls-falling s.order f in
    let own = falling_own s.order ts falls in
    let stored = storable_falling s.order f p.storable in
    let indexed = names_indexed names p.names_fit.distinct in
    let spelled = canonical_tokens names p.names_fit.form ts stored in
    let owns = subst (λ g. AllByRecursion (λ (u : Summand). coefficient rationals plain_cmp g u.0 ≡ u.1) ts) (collect-falling s.order f) (own_terms ts own) in (
      canonical_tree names ts,
      record {
        spelled = spelled;
        sound = sound_lexemes names [] (lexemes (operator_text names s.order f)) (subst (AreSound names []) (sym spelled) (canonical_sound names indexed ts stored));
      },
      canonical_value s names ts own (terms_give s names indexed p.count f p.variables ts stored falls.apart owns) ∙ ap Ok (collect-falling s.order f),
    )
