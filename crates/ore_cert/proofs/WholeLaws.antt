-- Certificates are a format.
--     zero_written, same_operator     zero may be written; words of operators that are the same
--     unit_words_are, operator_words_are     the words of lines
--     operator_spelled           what reading a canonical text says of a line
--     unit_is, operator_is, link_makes, link_is, links_are, row_and_outside_is, with_operator_is     lines, links and some parts are formats
--     with_exact_parts, with_unit_parts, row_and_outside_parts, with_operator_parts, element_parts, link_parts, links_exact_parts, links_row_parts
--                                what is read as one part and then another
--     parts_is, parts_text, body_makes, body_is      the parts of each kind, their text, and what they make
--     body_found, body_fails     what their readers answer
--     may_kind                   a certificate that may be written has a kind, and parts, that may be written
--     same_kind, made_kind       what parts of a kind make is of that kind
--     few_links, written, made_written     a certificate whose parts may be written may be written
--     line_of                    the line of a kind
--     closed_parts, kinds_parts, certificate_parts   the parts and the last line; the line of the kind and these; the first line and all others
--     closed_makes, closed_is, kinds_make, certificate_makes, certificate_is      so the whole texts are a format
use Rattle.std.proofs.Common.{◌≡◌, ℕ, suc, List, [], ◌∷◌, ◌++◌, length, Option, None, Some, Result, Ok, Err, refl, sym, ap, subst, ◌∙◌, append_assoc}
use Rattle.std.specs.Prelude.{codes, IsErrAnd, IfOk, IfSome, MatchOption}
use Rattle.std.proofs.lemmas.List.{append_cancel_left}
use Rattle.ore_rational.specs.Field.{rationals}
use Rattle.ore_monomial.specs.Signature.{Signature}
use Rattle.ore_monomial.specs.LetterRule.{Operator}
use Rattle.ore_ring.specs.Belongs.{Belongs}
use Rattle.ore_ring.specs.Ordered.{Ordered}
use Rattle.ore_text.specs.CanonicalText.{operator_text}
use Rattle.ore_text.specs.Printable.{IsPrintable}
use Rattle.ore_text.specs.Names.{AreNames}
use Rattle.ore_text.proofs.CanonicalUnique.{canonical_is_unique}
use Rattle.ore_rows.specs.Stored.{OperatorMatrix}
use Rattle.ore_parts.specs.declared.block.Link.{Link}
use Rattle.ore_parts.specs.declared.block.ExactBlock.{ExactBlock}
use Rattle.ore_parts.specs.declared.block.OutsideBlock.{OutsideBlock}
use Rattle.ore_cert.specs.declared.certificate.Side.TheVariants.{Left, Right}
use Rattle.ore_cert.specs.declared.certificate.Certificate.{Certificate}
use Rattle.ore_cert.specs.declared.certificate.Certificate.TheVariants as certificate
use Rattle.ore_parts.specs.declared.fault.CertFault.{CertFault}
use Rattle.ore_cert.specs.declared.kind.Kind.{Kind}
use Rattle.ore_cert.specs.declared.kind.Kind.TheVariants.{Controllable, AutonomousElement, LeftInverse, RightInverse, NoLeftInverse, NoRightInverse, KernelLeft, KernelRight, Resolution, ExtZero, ExtNonzero, Halted}
use Rattle.ore_parts.specs.BlockText.{place, is_place}
use Rattle.ore_parts.specs.Formats.{IsTextOf, Finds, ReadsOne, sequence, fixed, Spells}
use Rattle.ore_cert.specs.KindFormat.{kind_format, IsWrittenKind}
use Rattle.ore_cert.specs.KindWords.{kind_words, kind_of}
use Rattle.ore_parts.specs.Lines.{LacksByte, Unread}
use Rattle.ore_parts.specs.Reading.{IsStartFault}
use Rattle.ore_parts.specs.PartFormats.{matrix_format, row_format, exact_format, outside_format}
use Rattle.ore_cert.specs.WholeFormats.{unit_format, operator_words, operator_format, link_format, with_exact, row_and_outside, with_operator, links_format, Parts, parts_format, with_parts, IsMadeOf, body_format, closed_format, kinds_format, certificate_format}
use Rattle.ore_cert.specs.WholeText.{rest_text, IsLength, IsWrittenOperator, IsWrittenLinks, IsWrittenCertificate}
use Rattle.ore_parts.proofs.Bytes.{LacksByte-append, LacksByte-cons}
use Rattle.ore_parts.proofs.FormatLaws.{IsFormat, AreWords, Makes, made_is, line_is, fixed_is, items_is}
use Rattle.ore_cert.proofs.KindLaws.{kind_is}
use Rattle.ore_parts.proofs.FormatReads.{finds_made, made_fault, reads_err}
use Rattle.ore_parts.proofs.BlockLaws.{exact_is, outside_is}
use Rattle.ore_parts.proofs.MatrixLaws.{zero_entry, zero_belongs, matrix_is, row_is}
use Rattle.ore_parts.proofs.MatrixTexts.{operator_lacks_end, none_printable}
use Rattle.ore_parts.proofs.Places.{counted_lacks, same_place, zero_is_place}
use Rattle.ore_parts.proofs.TwoParts.{TwoParts, both, two_are}
use Rattle.ore_cert.proofs.RunsLaws.{report_parts}

-- ---- lines

pub unit_words_are : AreWords (λ k. codes "unit " ++ place k) is_place
unit_words_are = record {
  some = (0, zero_is_place);
  lacks = λ k h. counted_lacks (codes "unit ") (suc k) refl;
  same = λ j k h g e. same_place j k h g (append_cancel_left (codes "unit ") (place j) (place k) e);
}

pub unit_is : IsFormat unit_format
unit_is = line_is (λ k. codes "unit " ++ place k) is_place unit_words_are

module _ (s : Signature) (names : List (List ℕ)) (are : AreNames names) (fit : length names ≡ length s.kinds) where
  zero_written : IsWrittenOperator s names (zero_entry s)
  zero_written = record { written = none_printable s names are fit; of = zero_belongs s }

  same_operator : (word : List ℕ) (f g : Ordered) → IsWrittenOperator s names f → IsWrittenOperator s names g → operator_words s names word f ≡ operator_words s names word g → f ≡ g
  same_operator word f g h k e =
      let text = append_cancel_left (word ++ 32 ∷ []) (operator_text names s.order f.sum) (operator_text names s.order g.sum)
      (append_assoc word (32 ∷ []) (operator_text names s.order f.sum) ∙ e ∙ sym (append_assoc word (32 ∷ []) (operator_text names s.order g.sum))) in
      let order : f.by ≡ g.by = h.of.order ∙ sym k.of.order in
      let sum = canonical_is_unique s names f.sum g.sum h.written k.written text in
      λ i. record { by = order i; sum = sum i }

  pub operator_words_are : (word : List ℕ) → LacksByte 10 word → AreWords (operator_words s names word) (IsWrittenOperator s names)
  operator_words_are word named = record {
    some = (zero_entry s, zero_written);
    lacks = λ f h. LacksByte-append 10 word (32 ∷ operator_text names s.order f.sum) named (LacksByte-cons 10 32 (operator_text names s.order f.sum) refl (operator_lacks_end names s.order are f.sum));
    same = same_operator word;
  }

  pub operator_is : (word : List ℕ) → LacksByte 10 word → IsFormat (operator_format s names word)
  operator_is word named = line_is (operator_words s names word) (IsWrittenOperator s names) (operator_words_are word named)

  -- what reading its canonical text says of the words of a line
  pub operator_spelled : {E : Type 0} (word words text : List ℕ) (r : Result (Option Ordered) E) → words ≡ word ++ 32 ∷ text
      → IfOk r (λ o. IfSome o (λ f. IsPrintable s names f.sum × (text ≡ operator_text names s.order f.sum))) → IfOk r (λ o. IfSome o (Belongs s))
      → IfOk r (λ o. (f : Operator rationals) → IsPrintable s names f → text ≡ operator_text names s.order f → MatchOption o ⊥ (λ g. g.sum ≡ f))
      → IfOk r (Spells (operator_words s names word) (IsWrittenOperator s names) words)
  operator_spelled word words text (Ok None) is found of only = λ f h e. only f.sum h.written (append_cancel_left (32 ∷ []) text (operator_text names s.order f.sum) (append_cancel_left word (32 ∷ text) (32 ∷ operator_text names s.order f.sum) (sym is ∙ e)))
  operator_spelled word words text (Ok (Some f)) is found of only = (record { written = found.0; of = of }, is ∙ ap (λ t. word ++ 32 ∷ t) found.1)
  operator_spelled word words text (Err e) is found of only = tt

  -- ---- parts of some kinds

  abbrev pub with_exact_parts : (name : List ℕ) → LacksByte 10 name → TwoParts OperatorMatrix ExactBlock (OperatorMatrix × ExactBlock)
  with_exact_parts name named = both (matrix_format s names name) (λ _. exact_format s names) (matrix_is s names are fit name named) (λ m h. exact_is s names are fit)

  abbrev pub with_unit_parts : TwoParts ℕ OutsideBlock (ℕ × OutsideBlock)
  with_unit_parts = both unit_format (λ _. outside_format s names) unit_is (λ k h. outside_is s names are fit)

  abbrev pub row_and_outside_parts : (name : List ℕ) → LacksByte 10 name → TwoParts (List Ordered) OutsideBlock (List Ordered × OutsideBlock)
  row_and_outside_parts name named = both (row_format s names name) (λ _. outside_format s names) (row_is s names are fit name named) (λ r h. outside_is s names are fit)

  pub row_and_outside_is : (name : List ℕ) → LacksByte 10 name → IsFormat (row_and_outside s names name)
  row_and_outside_is name named = two_are (row_and_outside_parts name named)

  abbrev pub with_operator_parts : TwoParts Ordered (List Ordered × OutsideBlock) (Ordered × (List Ordered × OutsideBlock))
  with_operator_parts = both (operator_format s names (codes "operator")) (λ _. row_and_outside s names (codes "cofactor")) (operator_is (codes "operator") refl) (λ f h. row_and_outside_is (codes "cofactor") refl)

  pub with_operator_is : IsFormat (with_operator s names)
  with_operator_is = two_are with_operator_parts

  abbrev pub element_parts : TwoParts (List Ordered) (Ordered × (List Ordered × OutsideBlock)) (List Ordered × (Ordered × (List Ordered × OutsideBlock)))
  element_parts = both (row_format s names (codes "element")) (λ _. with_operator s names) (row_is s names are fit (codes "element") refl) (λ r h. with_operator_is)

  pub link_makes : Makes (with_exact s names (codes "L")) (link_format s names) (λ p. record { l = p.0; block = p.1 })
  link_makes = record { may_to = λ p h. record { l = h.0; block = h.1 }; text_to = λ p h. refl; from = λ k h. ((k.l, k.block), (h.l, h.block), refl) }

  abbrev pub link_parts : TwoParts OperatorMatrix ExactBlock Link
  link_parts = record {
    first = matrix_format s names (codes "L");
    second = λ _. exact_format s names;
    whole = link_format s names;
    to = λ p. record { l = p.0; block = p.1 };
    first_is = matrix_is s names are fit (codes "L") refl;
    second_is = λ m h. exact_is s names are fit;
    makes = link_makes;
  }

  pub link_is : IsFormat (link_format s names)
  link_is = two_are link_parts

  pub links_are : (count : ℕ) → IsFormat (links_format s names count)
  links_are count = items_is (link_format s names) link_is count

  abbrev pub links_exact_parts : (count : ℕ) → TwoParts (List Link) ExactBlock (List Link × ExactBlock)
  links_exact_parts count = both (links_format s names count) (λ _. exact_format s names) (links_are count) (λ k h. exact_is s names are fit)

  abbrev pub links_row_parts : (count : ℕ) → TwoParts (List Link) (List Ordered × OutsideBlock) (List Link × (List Ordered × OutsideBlock))
  links_row_parts count = both (links_format s names count) (λ _. row_and_outside s names (codes "element")) (links_are count) (λ k h. row_and_outside_is (codes "element") refl)

  -- ---- kinds

  pub parts_is : (k : Kind) → IsFormat (parts_format s names k)
  parts_is Controllable = two_are (with_exact_parts (codes "Q") refl)
  parts_is AutonomousElement = two_are element_parts
  parts_is LeftInverse = matrix_is s names are fit (codes "S") refl
  parts_is RightInverse = matrix_is s names are fit (codes "S") refl
  parts_is NoLeftInverse = two_are with_unit_parts
  parts_is NoRightInverse = two_are with_unit_parts
  parts_is KernelLeft = two_are (with_exact_parts (codes "L") refl)
  parts_is KernelRight = two_are (with_exact_parts (codes "Q") refl)
  parts_is (Resolution count) = links_are count
  parts_is (ExtZero count) = two_are (links_exact_parts count)
  parts_is (ExtNonzero count) = two_are (links_row_parts count)
  parts_is (Halted cause) = two_are report_parts

  parts_text : (k : Kind) (p : Parts s names k) → rest_text names s.order (with_parts s names k p) ≡ (parts_format s names k).text p
  parts_text Controllable p = refl
  parts_text AutonomousElement p = refl
  parts_text LeftInverse p = refl
  parts_text RightInverse p = refl
  parts_text NoLeftInverse p = refl
  parts_text NoRightInverse p = refl
  parts_text KernelLeft p = refl
  parts_text KernelRight p = refl
  parts_text (Resolution count) p = refl
  parts_text (ExtZero count) p = refl
  parts_text (ExtNonzero count) p = refl
  parts_text (Halted cause) p = refl

  pub body_makes : (k : Kind) → Makes (parts_format s names k) (body_format s names k) (with_parts s names k)
  body_makes k = record { may_to = λ p h. (p, h, refl); text_to = λ p h. parts_text k p; from = λ c m. m }

  pub body_is : (k : Kind) → IsFormat (body_format s names k)
  body_is k = made_is (parts_format s names k) (body_format s names k) (with_parts s names k) (body_makes k) (parts_is k)

  pub body_found : (k : Kind) (old : Unread) (p : Parts s names k) (new : Unread) → Finds (parts_format s names k) old p new → Finds (body_format s names k) old (with_parts s names k p) new
  body_found k old p new a = finds_made (parts_format s names k) (body_format s names k) (with_parts s names k) (body_makes k) old p new a

  pub body_fails : (k : Kind) (old new : Unread) (z : Result Certificate CertFault) (e : CertFault) → IsErrAnd z (λ y. y ≡ e) → IsStartFault (IsTextOf (parts_format s names k)) old e → ReadsOne (body_format s names k) old z new
  body_fails k old new z e is f = reads_err (body_format s names k) old new z e is (made_fault (parts_format s names k) (body_format s names k) (with_parts s names k) (body_makes k) old e f)

  -- ---- the whole text

  pub closed_makes : (k : Kind) → Makes (sequence (body_format s names k) (λ _. fixed (codes "end\n"))) (closed_format s names k) (λ p. p.0)
  closed_makes k = record { may_to = λ p h. h.0; text_to = λ p h. refl; from = λ c h. ((c, tt), (h, tt), refl) }

  abbrev pub closed_parts : Kind → TwoParts Certificate (Unit {0}) Certificate
  closed_parts k = record {
    first = body_format s names k;
    second = λ _. fixed (codes "end\n");
    whole = closed_format s names k;
    to = λ p. p.0;
    first_is = body_is k;
    second_is = λ c h. fixed_is (codes "end\n") (codes "end", refl, refl);
    makes = closed_makes k;
  }

  pub closed_is : (k : Kind) → IsFormat (closed_format s names k)
  closed_is k = two_are (closed_parts k)

  pub may_kind : (c : Certificate) → IsWrittenCertificate s names c → IsWrittenKind (kind_of c) × IsMadeOf s names (kind_of c) c
  may_kind (certificate.Controllable q block) h = (tt, ((q, block), h, refl))
  may_kind (certificate.AutonomousElement element operator cofactor block) h = (tt, ((element, (operator, (cofactor, block))), (h.0, (h.1, (h.2, h.3))), refl))
  may_kind (certificate.LeftInverse m) h = (tt, (m, h, refl))
  may_kind (certificate.RightInverse m) h = (tt, (m, h, refl))
  may_kind (certificate.NoLeftInverse unit block) h = (tt, ((unit, block), h, refl))
  may_kind (certificate.NoRightInverse unit block) h = (tt, ((unit, block), h, refl))
  may_kind (certificate.Kernel Left generators block) h = (tt, ((generators, block), h, refl))
  may_kind (certificate.Kernel Right generators block) h = (tt, ((generators, block), h, refl))
  may_kind (certificate.Resolution links) h = (h.count, (links, (refl, h.all), refl))
  may_kind (certificate.ExtZero links block) h = (h.0.count, ((links, block), ((refl, h.0.all), h.1), refl))
  may_kind (certificate.ExtNonzero links element block) h = (h.0.count, ((links, (element, block)), ((refl, h.0.all), (h.1, h.2)), refl))
  may_kind (certificate.Halted r) h = (h.cause, ((r.plan, (r.runs, r.stop)), (h.plan, (h.runs, h.stop)), refl))

  few_links : (count : ℕ) (links : List Link) → IsLength count → (links_format s names count).may links → IsWrittenLinks s names links
  few_links count links h k = record { count = subst IsLength (sym k.0) h; all = k.1 }

  written : (k : Kind) (p : Parts s names k) → IsWrittenKind k → (parts_format s names k).may p → IsWrittenCertificate s names (with_parts s names k p)
  written Controllable p h k = k
  written AutonomousElement p h k = (k.0, k.1.0, k.1.1.0, k.1.1.1)
  written LeftInverse p h k = k
  written RightInverse p h k = k
  written NoLeftInverse p h k = k
  written NoRightInverse p h k = k
  written KernelLeft p h k = k
  written KernelRight p h k = k
  written (Resolution count) p h k = few_links count p h k
  written (ExtZero count) p h k = (few_links count p.0 h k.0, k.1)
  written (ExtNonzero count) p h k = (few_links count p.0 h k.0, k.1.0, k.1.1)
  written (Halted cause) p h k = record { cause = h; plan = k.0; runs = k.1.0; stop = k.1.1 }

  same_kind : (k : Kind) (p : Parts s names k) → (parts_format s names k).may p → kind_of (with_parts s names k p) ≡ k
  same_kind Controllable p h = refl
  same_kind AutonomousElement p h = refl
  same_kind LeftInverse p h = refl
  same_kind RightInverse p h = refl
  same_kind NoLeftInverse p h = refl
  same_kind NoRightInverse p h = refl
  same_kind KernelLeft p h = refl
  same_kind KernelRight p h = refl
  same_kind (Resolution count) p h = ap Resolution h.0
  same_kind (ExtZero count) p h = ap ExtZero h.0.0
  same_kind (ExtNonzero count) p h = ap ExtNonzero h.0.0
  same_kind (Halted cause) p h = refl

  abbrev line_of : Kind → List ℕ
  line_of k = kind_words k ++ 10 ∷ []

  pub made_kind : (k : Kind) (c : Certificate) → IsMadeOf s names k c → kind_of c ≡ k
  made_kind k c m = ap kind_of (sym m.2) ∙ same_kind k m.0 m.1

  pub made_written : (k : Kind) (c : Certificate) → IsWrittenKind k → IsMadeOf s names k c → IsWrittenCertificate s names c
  made_written k c h m = subst (IsWrittenCertificate s names) m.2 (written k m.0 h m.1)

  pub kinds_make : Makes (sequence kind_format (closed_format s names)) (kinds_format s names) (λ p. p.1)
  kinds_make = record {
    may_to = λ p h. made_written p.0 p.1 h.0 h.1;
    text_to = λ p h. ap (λ k. line_of k ++ (rest_text names s.order p.1 ++ codes "end\n")) (made_kind p.0 p.1 h.1);
    from = λ c h. ((kind_of c, c), may_kind c h, refl);
  }

  abbrev pub kinds_parts : TwoParts Kind Certificate Certificate
  kinds_parts = record { first = kind_format; second = closed_format s names; whole = kinds_format s names; to = λ p. p.1; first_is = kind_is; second_is = λ k h. closed_is k; makes = kinds_make }

  pub certificate_makes : Makes (sequence (fixed (codes "certificate 1\n")) (λ _. kinds_format s names)) (certificate_format s names) (λ p. p.1)
  certificate_makes = record { may_to = λ p h. h.1; text_to = λ p h. refl; from = λ c h. ((tt, c), (tt, h), refl) }

  abbrev pub certificate_parts : TwoParts (Unit {0}) Certificate Certificate
  certificate_parts = record {
    first = fixed (codes "certificate 1\n");
    second = λ _. kinds_format s names;
    whole = certificate_format s names;
    to = λ p. p.1;
    first_is = fixed_is (codes "certificate 1\n") (codes "certificate 1", refl, refl);
    second_is = λ h k. two_are kinds_parts;
    makes = certificate_makes;
  }

  pub certificate_is : IsFormat (certificate_format s names)
  certificate_is = two_are certificate_parts
