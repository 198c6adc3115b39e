-- Values that are read as one part and then another, as a line that names a count and then so many.
--     TwoParts                       the formats of the parts, and of the values that are made of both
--     both                           the two parts alone
--     two_are                        the values are a format
--     first_fails, second_fails      what a reader answers where the first part has a fault, or the second
--     both_found, last_found         where both are found; where the second one is the whole value
--     behind_first                   a fault of the second part is one of the whole
use Rattle.std.proofs.Common.{◌≡◌, Result, Ok, Err, refl, subst}
use Rattle.std.specs.Prelude.{IsErrAnd}
use Rattle.ore_parts.specs.declared.fault.CertFault.{CertFault}
use Rattle.ore_parts.specs.Formats.{Format, IsTextOf, Finds, ReadsOne, sequence}
use Rattle.ore_parts.specs.Lines.{Unread}
use Rattle.ore_parts.specs.Reading.{IsStartFault}
use Rattle.ore_parts.proofs.FormatLaws.{IsFormat, Makes, made_is, sequence_is}
use Rattle.ore_parts.proofs.FormatReads.{finds_both, finds_made, first_fault, second_fault, made_fault, reads_err}

pub record TwoParts (X Y Z : Type 0) : Type 1 where
  pub first : Format X
  pub second : X → Format Y
  pub whole : Format Z
  pub to : X × Y → Z
  pub first_is : IsFormat first
  pub second_is : (x : X) → first.may x → IsFormat (second x)
  pub makes : Makes (sequence first second) whole to

-- the value is the tuple of the parts
abbrev pub both : {X Y : Type 0} (F : Format X) (G : X → Format Y) → IsFormat F → ((x : X) → F.may x → IsFormat (G x)) → TwoParts X Y (X × Y)
both F G f g = record { first = F; second = G; whole = sequence F G; to = λ p. p; first_is = f; second_is = g; makes = record { may_to = λ p h. h; text_to = λ p h. refl; from = λ p h. (p, h, refl) } }

module _ {X Y Z : Type 0} (p : TwoParts X Y Z) where
  pub two_are : IsFormat p.whole
  two_are = made_is (sequence p.first p.second) p.whole p.to p.makes (sequence_is p.first p.second p.first_is p.second_is)

  pub both_found : (old mid new : Unread) (x : X) (y : Y) → Finds p.first old x mid → Finds (p.second x) mid y new → Finds p.whole old (p.to (x, y)) new
  both_found old mid new x y a b = finds_made (sequence p.first p.second) p.whole p.to p.makes old (x, y) new (finds_both p.first p.second p.first_is p.second_is old mid new x y a b)

  behind_first : (old mid : Unread) (x : X) (e : CertFault) → Finds p.first old x mid → IsStartFault (IsTextOf (p.second x)) mid e → IsStartFault (IsTextOf p.whole) old e
  behind_first old mid x e a s = made_fault (sequence p.first p.second) p.whole p.to p.makes old e (second_fault p.first p.second p.first_is p.second_is old mid x e a s)

  pub first_fails : (old new : Unread) (z : Result Z CertFault) (e : CertFault) → IsErrAnd z (λ y. y ≡ e) → IsStartFault (IsTextOf p.first) old e → ReadsOne p.whole old z new
  first_fails old new z e is s = reads_err p.whole old new z e is (made_fault (sequence p.first p.second) p.whole p.to p.makes old e (first_fault p.first p.second p.first_is p.second_is old e s))

  pub second_fails : (old mid new : Unread) (x : X) (z : Result Z CertFault) (e : CertFault) → IsErrAnd z (λ y. y ≡ e) → Finds p.first old x mid → IsStartFault (IsTextOf (p.second x)) mid e → ReadsOne p.whole old z new
  second_fails old mid new x z e is a s = reads_err p.whole old new z e is (behind_first old mid x e a s)

-- the second part is the whole value
module _ {X Y : Type 0} (p : TwoParts X Y Y) (second : (x : X) (y : Y) → p.to (x, y) ≡ y) where
  pub last_found : (old mid new : Unread) (x : X) (z : Result Y CertFault) → Finds p.first old x mid → ReadsOne (p.second x) mid z new → ReadsOne p.whole old z new
  last_found old mid new x (Ok y) a b = subst (λ w. Finds p.whole old w new) (second x y) (both_found p old mid new x y a b)
  last_found old mid new x (Err e) a s = behind_first p old mid x e a s
