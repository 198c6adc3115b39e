-- The lines of kinds have one value each.
--     other_words                a text isn't the one it was compared with
--     byte_at, apart_at          a byte of a text; texts that differ there
--     number_behind              the value of the digits behind so many bytes
--     counted_same               a word and a number tell the number
--     cause_lacks                the words of a stopped computation lack the line end
--     read_cause, read_kind      the cause, and the kind, that words tell
--     kind_again                 those of a kind that may be written tell it
--     few_treated, below         numbers that may be written
--     kind_lacks                 the words of a kind lack the line end
--     kind_line                  the words of kinds differ
--     kind_is                    so they are a format
--     no_kind, no_cause          words that are of no kind, and of no cause
use Rattle.std.proofs.Common.{◌≡◌, ℕ, ◌<◌, ◌≤◌, Bool, false, true≢false, if◌then◌else◌, List, [], ◌∷◌, ◌++◌, drop, get_or, refl, sym, ap, ◌∙◌, arith}
use Rattle.std.specs.Prelude.{◌≢◌, nat_eq, codes, decimal}
use Rattle.std.specs.Cmp.Lexicographic.{pointwise}
use Rattle.std.specs.Str.Parse.{digits_value}
use Rattle.std.proofs.lemmas.Bool.{eq-eqb}
use Rattle.std.proofs.lemmas.List.{append_cancel_left}
use Rattle.ore_text.proofs.RowEntries.{other_bytes}
use Rattle.ore_cert.specs.declared.kind.Kind.{Kind}
use Rattle.ore_cert.specs.declared.kind.Kind.TheVariants.{Controllable, AutonomousElement, LeftInverse, RightInverse, NoLeftInverse, NoRightInverse, KernelLeft, KernelRight, Resolution, ExtZero, ExtNonzero, Halted}
use Rattle.ore_cert.specs.declared.report.Cause.{Cause}
use Rattle.ore_cert.specs.declared.report.Cause.TheVariants.{Overflow, Degree, Budget}
use Rattle.ore_parts.specs.CertificateText.{number_bound}
use Rattle.ore_cert.specs.KindWords.{kind_words}
use Rattle.ore_cert.specs.KindFormat.{IsWrittenKind, kind_format, halted_words, IsNoUnnumberedKind, IsNoLinks}
use Rattle.ore_parts.specs.Lines.{LacksByte}
use Rattle.ore_cert.specs.WholeText.{IsWrittenCause}
use Rattle.ore_parts.proofs.FormatLaws.{IsFormat, AreWords, decoded, line_is}
use Rattle.ore_parts.proofs.Numbers.{same_decimal}
use Rattle.ore_parts.proofs.Places.{number_value, counted_lacks}

-- a text that was compared with a word in a slice
pub other_words : (a b w : List ℕ) (r : Bool) → r ≡ pointwise nat_eq a w → w ≡ b → r ≡ false → a ≢ b
other_words a b w r e is h same = other_bytes a b r (e ∙ ap (pointwise nat_eq a) is) h same

abbrev pub byte_at : ℕ → List ℕ → ℕ
byte_at k t = get_or t k 0

abbrev pub number_behind : ℕ → List ℕ → ℕ
number_behind k t = digits_value 10 (drop k t)

-- two numbers behind one word
pub counted_same : (word words : List ℕ) (m n : ℕ) → m < number_bound → n < number_bound → words ≡ word ++ 32 ∷ decimal m → words ≡ word ++ 32 ∷ decimal n → m ≡ n
counted_same word words m n h k e f = same_decimal m n h k (append_cancel_left (32 ∷ []) (decimal m) (decimal n) (append_cancel_left word (32 ∷ decimal m) (32 ∷ decimal n) (sym e ∙ f)))

pub apart_at : (k a b : ℕ) (u v : List ℕ) → u ≡ v → byte_at k u ≡ a → byte_at k v ≡ b → nat_eq a b ≡ false → ⊥
apart_at k a b u v e p q n = true≢false (sym (eq-eqb a b (sym p ∙ ap (byte_at k) e ∙ q)) ∙ n)

-- ---- causes

read_cause : List ℕ → Cause
read_cause t = if nat_eq (byte_at 0 t) 111 then Overflow else if nat_eq (byte_at 0 t) 100 then Degree else Budget (number_behind 7 t)

few_treated : (n : ℕ) → n ≤ 1000000 → n < number_bound
few_treated n h = omega (arith, h)

cause_lacks : (c : Cause) → LacksByte 10 (halted_words c)
cause_lacks Overflow = refl
cause_lacks Degree = refl
cause_lacks (Budget n) = counted_lacks (codes "halted budget ") n refl

-- ---- kinds

pub below : (n : ℕ) → n ≤ 12 → n < number_bound
below n h = omega (arith, h)

read_kind : List ℕ → Kind
read_kind t =
    if nat_eq (byte_at 0 t) 99 then Controllable else if nat_eq (byte_at 0 t) 97 then AutonomousElement else if nat_eq (byte_at 0 t) 108 then LeftInverse
    else if nat_eq (byte_at 0 t) 114 then (if nat_eq (byte_at 1 t) 105 then RightInverse else Resolution (number_behind 11 t))
    else if nat_eq (byte_at 0 t) 110 then (if nat_eq (byte_at 3 t) 108 then NoLeftInverse else NoRightInverse)
    else if nat_eq (byte_at 0 t) 107 then (if nat_eq (byte_at 7 t) 108 then KernelLeft else KernelRight)
    else if nat_eq (byte_at 0 t) 101 then (if nat_eq (byte_at 4 t) 122 then ExtZero (number_behind 9 t) else ExtNonzero (number_behind 12 t))
    else Halted (read_cause (drop 7 t))

kind_again : (k : Kind) → IsWrittenKind k → read_kind (kind_words k) ≡ k
unfolding read_kind read_cause
kind_again Controllable h = refl
kind_again AutonomousElement h = refl
kind_again LeftInverse h = refl
kind_again RightInverse h = refl
kind_again NoLeftInverse h = refl
kind_again NoRightInverse h = refl
kind_again KernelLeft h = refl
kind_again KernelRight h = refl
kind_again (Resolution n) h = ap Resolution (number_value n (below n h.1))
kind_again (ExtZero n) h = ap ExtZero (number_value n (below n h.1))
kind_again (ExtNonzero n) h = ap ExtNonzero (number_value n (below n h.1))
kind_again (Halted Overflow) h = refl
kind_again (Halted Degree) h = refl
kind_again (Halted (Budget n)) h = ap (λ m. Halted (Budget m)) (number_value n (few_treated n h))

kind_lacks : (k : Kind) → LacksByte 10 (kind_words k)
kind_lacks Controllable = refl
kind_lacks AutonomousElement = refl
kind_lacks LeftInverse = refl
kind_lacks RightInverse = refl
kind_lacks NoLeftInverse = refl
kind_lacks NoRightInverse = refl
kind_lacks KernelLeft = refl
kind_lacks KernelRight = refl
kind_lacks (Resolution n) = counted_lacks (codes "resolution ") n refl
kind_lacks (ExtZero n) = counted_lacks (codes "ext-zero ") n refl
kind_lacks (ExtNonzero n) = counted_lacks (codes "ext-nonzero ") n refl
kind_lacks (Halted c) = cause_lacks c

pub kind_line : AreWords kind_words IsWrittenKind
kind_line = record { some = (Controllable, tt); lacks = λ k h. kind_lacks k; same = decoded kind_words IsWrittenKind read_kind kind_again }

pub kind_is : IsFormat kind_format
kind_is = line_is kind_words IsWrittenKind kind_line

pub no_kind : (text : List ℕ) → IsNoUnnumberedKind text → IsNoLinks text → ((c : Cause) → IsWrittenCause c → text ≢ halted_words c) → (k : Kind) → IsWrittenKind k → text ≢ kind_words k
no_kind text p l h Controllable k e = p.controllable e
no_kind text p l h AutonomousElement k e = p.autonomous e
no_kind text p l h LeftInverse k e = p.left e
no_kind text p l h RightInverse k e = p.right e
no_kind text p l h NoLeftInverse k e = p.no_left e
no_kind text p l h NoRightInverse k e = p.no_right e
no_kind text p l h KernelLeft k e = p.kernel_left e
no_kind text p l h KernelRight k e = p.kernel_right e
no_kind text p l h (Resolution n) k e = l.resolution n k e
no_kind text p l h (ExtZero n) k e = l.ext_zero n k e
no_kind text p l h (ExtNonzero n) k e = l.ext_nonzero n k e
no_kind text p l h (Halted c) k e = h c k e

pub no_cause : (text : List ℕ) → text ≢ codes "halted overflow" → text ≢ codes "halted degree" → ((n : ℕ) → n ≤ 1000000 → text ≢ codes "halted budget" ++ 32 ∷ decimal n) → (c : Cause) → IsWrittenCause c → text ≢ halted_words c
no_cause text o d b Overflow h e = o e
no_cause text o d b Degree h e = d e
no_cause text o d b (Budget n) h e = b n h e
