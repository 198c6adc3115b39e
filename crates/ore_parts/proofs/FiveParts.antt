-- A line and five parts, as the blocks are.
--     five                       the sequence
--     FiveParts                  the line and the five formats, and that of the values that are made of them
--     five_is                    these values are a format
--     four_last                  all but the line and the first part
--     head_fails                 a fault of the line
--     a_fails, b_fails, c_fails, d_fails, e_fails     a fault of a part behind those that were read
--     five_found                 all of it is read
--     last_two, last_three, last_four, all_five, line_and_five     the sequences from a part on
--     from_a, from_b, from_c, from_d     the parts from one on are a format
--     head_read                  the line is read
--     fails, behind_head, behind_a, behind_b, behind_c     a fault of what stands from a place on is one of the whole
use Rattle.std.proofs.Common.{◌≡◌, List, ℕ, ◌+◌, ◌++◌, Result}
use Rattle.std.specs.Prelude.{IsErrAnd}
use Rattle.ore_parts.specs.declared.fault.CertFault.{CertFault}
use Rattle.ore_parts.specs.declared.fault.CertFault.TheVariants.{Malformed}
use Rattle.ore_parts.specs.Formats.{Format, IsTextOf, Finds, ReadsOne, fixed, sequence}
use Rattle.ore_parts.specs.Lines.{IsLine, Unread}
use Rattle.ore_parts.specs.Reading.{IsStartFault}
use Rattle.ore_parts.proofs.FormatLaws.{IsFormat, Makes, made_is, fixed_is, sequence_is}
use Rattle.ore_parts.proofs.FormatReads.{finds_fixed, finds_both, finds_made, first_fault, second_fault, made_fault, fixed_fault, reads_err}

module _ {A B C D E : Type 0} (FA : Format A) (FB : Format B) (FC : Format C) (FD : Format D) (FE : Format E) where
  abbrev pub four_last : Format (B × (C × (D × E)))
  four_last = sequence FB (λ _. sequence FC (λ _. sequence FD (λ _. FE)))

  abbrev pub five : List ℕ → Format (Unit {0} × (A × (B × (C × (D × E)))))
  five head = sequence (fixed head) (λ _. sequence FA (λ _. four_last))

pub record FiveParts (A B C D E Z : Type 0) : Type 1 where
  pub head : List ℕ
  pub line : IsLine head
  pub a : Format A
  pub b : Format B
  pub c : Format C
  pub d : Format D
  pub e : Format E
  pub a_is : IsFormat a
  pub b_is : IsFormat b
  pub c_is : IsFormat c
  pub d_is : IsFormat d
  pub e_is : IsFormat e
  pub whole : Format Z
  pub to : Unit {0} × (A × (B × (C × (D × E)))) → Z
  pub makes : Makes (five a b c d e head) whole to

module _ {A B C D E Z : Type 0} (p : FiveParts A B C D E Z) where
  abbrev last_two : Format (D × E)
  last_two = sequence p.d (λ _. p.e)

  abbrev last_three : Format (C × (D × E))
  last_three = sequence p.c (λ _. last_two)

  abbrev last_four : Format (B × (C × (D × E)))
  last_four = four_last p.a p.b p.c p.d p.e

  abbrev all_five : Format (A × (B × (C × (D × E))))
  all_five = sequence p.a (λ _. last_four)

  abbrev line_and_five : Format (Unit {0} × (A × (B × (C × (D × E)))))
  line_and_five = five p.a p.b p.c p.d p.e p.head

  from_d : IsFormat last_two
  from_d = sequence_is p.d (λ _. p.e) p.d_is (λ _ _. p.e_is)

  from_c : IsFormat last_three
  from_c = sequence_is p.c (λ _. last_two) p.c_is (λ _ _. from_d)

  from_b : IsFormat last_four
  from_b = sequence_is p.b (λ _. last_three) p.b_is (λ _ _. from_c)

  from_a : IsFormat all_five
  from_a = sequence_is p.a (λ _. last_four) p.a_is (λ _ _. from_b)

  pub five_is : IsFormat p.whole
  five_is = made_is line_and_five p.whole p.to p.makes (sequence_is (fixed p.head) (λ _. all_five) (fixed_is p.head p.line) (λ _ _. from_a))

  module _ (old new : Unread) (z : Result Z CertFault) (fault : CertFault) (is : IsErrAnd z (λ y. y ≡ fault)) where
    fails : IsStartFault (IsTextOf line_and_five) old fault → ReadsOne p.whole old z new
    fails s = reads_err p.whole old new z fault is (made_fault line_and_five p.whole p.to p.makes old fault s)

    pub head_fails : (fault ≡ Malformed old.at) × ((rest : List ℕ) → old.left ≡ p.head ++ rest → ⊥) → ReadsOne p.whole old z new
    head_fails s = fails (first_fault (fixed p.head) (λ _. all_five) (fixed_is p.head p.line) (λ _ _. from_a) old fault (fixed_fault p.head p.line old fault s))

    -- the line was taken
    module _ (at_a : Unread) (taken : (old.left ≡ p.head ++ at_a.left) × (at_a.at ≡ old.at + 1)) where
      head_read : Finds (fixed p.head) old tt at_a
      head_read = finds_fixed p.head p.line old at_a taken.0 taken.1

      behind_head : IsStartFault (IsTextOf all_five) at_a fault → ReadsOne p.whole old z new
      behind_head s = fails (second_fault (fixed p.head) (λ _. all_five) (fixed_is p.head p.line) (λ _ _. from_a) old at_a tt fault head_read s)

      pub a_fails : IsStartFault (IsTextOf p.a) at_a fault → ReadsOne p.whole old z new
      a_fails s = behind_head (first_fault p.a (λ _. last_four) p.a_is (λ _ _. from_b) at_a fault s)

      module _ (at_b : Unread) (x : A) (read_a : Finds p.a at_a x at_b) where
        behind_a : IsStartFault (IsTextOf last_four) at_b fault → ReadsOne p.whole old z new
        behind_a s = behind_head (second_fault p.a (λ _. last_four) p.a_is (λ _ _. from_b) at_a at_b x fault read_a s)

        pub b_fails : IsStartFault (IsTextOf p.b) at_b fault → ReadsOne p.whole old z new
        b_fails s = behind_a (first_fault p.b (λ _. last_three) p.b_is (λ _ _. from_c) at_b fault s)

        module _ (at_c : Unread) (y : B) (read_b : Finds p.b at_b y at_c) where
          behind_b : IsStartFault (IsTextOf last_three) at_c fault → ReadsOne p.whole old z new
          behind_b s = behind_a (second_fault p.b (λ _. last_three) p.b_is (λ _ _. from_c) at_b at_c y fault read_b s)

          pub c_fails : IsStartFault (IsTextOf p.c) at_c fault → ReadsOne p.whole old z new
          c_fails s = behind_b (first_fault p.c (λ _. last_two) p.c_is (λ _ _. from_d) at_c fault s)

          module _ (at_d : Unread) (v : C) (read_c : Finds p.c at_c v at_d) where
            behind_c : IsStartFault (IsTextOf last_two) at_d fault → ReadsOne p.whole old z new
            behind_c s = behind_b (second_fault p.c (λ _. last_two) p.c_is (λ _ _. from_d) at_c at_d v fault read_c s)

            pub d_fails : IsStartFault (IsTextOf p.d) at_d fault → ReadsOne p.whole old z new
            d_fails s = behind_c (first_fault p.d (λ _. p.e) p.d_is (λ _ _. p.e_is) at_d fault s)

            pub e_fails : (at_e : Unread) (w : D) → Finds p.d at_d w at_e → IsStartFault (IsTextOf p.e) at_e fault → ReadsOne p.whole old z new
            e_fails at_e w read_d s = behind_c (second_fault p.d (λ _. p.e) p.d_is (λ _ _. p.e_is) at_d at_e w fault read_d s)

  pub five_found : (old at_a at_b at_c at_d at_e new : Unread) (x : A) (y : B) (v : C) (w : D) (u : E) → (old.left ≡ p.head ++ at_a.left) × (at_a.at ≡ old.at + 1) → Finds p.a at_a x at_b
      → Finds p.b at_b y at_c → Finds p.c at_c v at_d → Finds p.d at_d w at_e → Finds p.e at_e u new → Finds p.whole old (p.to (tt, (x, (y, (v, (w, u)))))) new
  five_found old at_a at_b at_c at_d at_e new x y v w u h i j k l m =
      let last = finds_both p.d (λ _. p.e) p.d_is (λ _ _. p.e_is) at_d at_e new w u l m in
      let three = finds_both p.c (λ _. last_two) p.c_is (λ _ _. from_d) at_c at_d new v (w, u) k last in
      let four = finds_both p.b (λ _. last_three) p.b_is (λ _ _. from_c) at_b at_c new y (v, (w, u)) j three in
      let all = finds_both p.a (λ _. last_four) p.a_is (λ _ _. from_b) at_a at_b new x (y, (v, (w, u))) i four in
      finds_made line_and_five p.whole p.to p.makes old (tt, (x, (y, (v, (w, u))))) new (finds_both (fixed p.head) (λ _. all_five) (fixed_is p.head p.line) (λ _ _. from_a) old at_a new tt (x, (y, (v, (w, u)))) (finds_fixed p.head p.line old at_a h.0 h.1) all)
