-- The text of the operator zero.
--     zero_printable     the operator zero can be printed
--     zero_spelled       its text is `0`
--     zero_alone         no other operator has that text
use Rattle.std.proofs.Common.{◌≡◌, ℕ, List, [], ◌∷◌, length, sym, ap, ◌∙◌, subst}
use Rattle.std.specs.List.{AllByRecursion}
use Rattle.ore_algebra.specs.Free.{empty_sum}
use Rattle.ore_rational.specs.Field.{rationals}
use Rattle.ore_monomial.specs.Monomial.{plain_cmp}
use Rattle.ore_monomial.specs.Signature.{Signature}
use Rattle.ore_monomial.specs.LetterRule.{Operator}
use Rattle.ore_monomial.specs.declared.order.Order.{Order}
use Rattle.ore_ring.proofs.Belonging.{of_none}
use Rattle.ore_ring.proofs.Falls.{falling-none}
use Rattle.ore_text.specs.CanonicalParts.{IsPrintableTerm}
use Rattle.ore_text.specs.CanonicalText.{terms_text, operator_text}
use Rattle.ore_text.specs.Names.{AreNames}
use Rattle.ore_text.specs.Printable.{IsPrintable}
use Rattle.ore_text.proofs.CanonicalUnique.{canonical_is_unique}
use Rattle.ore_text.proofs.PrintableTerms.{storable_of}

abbrev zero_operator : Operator rationals
zero_operator = empty_sum rationals plain_cmp

module _ (s : Signature) (names : List (List ℕ)) where
  pub zero_printable : AreNames names → length names ≡ length s.kinds → IsPrintable s names zero_operator
  zero_printable form count = record {
    names_fit = form;
    count = count;
    variables = of_none rationals s;
    storable = storable_of s zero_operator s.order (subst (AllByRecursion (IsPrintableTerm s)) (sym (falling-none s.order)) tt);
  }

  pub zero_spelled : (o : Order) → operator_text names o zero_operator ≡ 48 ∷ []
  unfolding operator_text
  zero_spelled o = ap (terms_text names) (falling-none o)

  pub zero_alone : AreNames names → length names ≡ length s.kinds → (text : List ℕ) → text ≡ 48 ∷ [] → (f : Operator rationals) → IsPrintable s names f → text ≡ operator_text names s.order f → zero_operator ≡ f
  zero_alone form count text zero f p e = canonical_is_unique s names zero_operator f (zero_printable form count) p (zero_spelled s.order ∙ sym zero ∙ e)
