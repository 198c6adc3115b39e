-- Numbers and places in the words of a line, with one space between.
--     number_value                the value of the digits of a number
--     counted_lacks, spaced_lacks, two_lack, three_lack     a word and a number, a number and a rest, numbers: they lack the line end
--     same_place, place_rest, two_same     equal words are of equal places
--     zero_is_place               the first place may be written
use Rattle.std.proofs.Common.{◌≡◌, ℕ, suc, ◌<◌, List, ◌∷◌, ◌++◌, refl, arith}
use Rattle.std.specs.Prelude.{decimal}
use Rattle.std.specs.Str.Parse.{digits_value}
use Rattle.std.proofs.lemmas.Fmt.{decimal_is_IsNumeral}
use Rattle.ore_parts.specs.BlockText.{place, is_place}
use Rattle.ore_parts.specs.CertificateText.{number_bound}
use Rattle.ore_parts.specs.Lines.{LacksByte}
use Rattle.ore_parts.proofs.Bytes.{LacksByte-append, LacksByte-cons, LacksByte-decimal}
use Rattle.ore_parts.proofs.Numbers.{numbers_cancel, same_decimal}

pub number_value : (n : ℕ) → n < number_bound → digits_value 10 (decimal n) ≡ n
number_value n h = (decimal_is_IsNumeral n (omega (arith, h))).1

-- ---- without a line end

pub counted_lacks : (word : List ℕ) (n : ℕ) → LacksByte 10 word → LacksByte 10 (word ++ decimal n)
counted_lacks word n h = LacksByte-append 10 word (decimal n) h (LacksByte-decimal 10 n (omega arith))

pub spaced_lacks : (n : ℕ) (rest : List ℕ) → LacksByte 10 rest → LacksByte 10 (decimal n ++ 32 ∷ rest)
spaced_lacks n rest h = LacksByte-append 10 (decimal n) (32 ∷ rest) (LacksByte-decimal 10 n (omega arith)) (LacksByte-cons 10 32 rest refl h)

pub two_lack : (a b : ℕ) → LacksByte 10 (decimal a ++ 32 ∷ decimal b)
two_lack a b = spaced_lacks a (decimal b) (LacksByte-decimal 10 b (omega arith))

pub three_lack : (a b c : ℕ) → LacksByte 10 (decimal a ++ 32 ∷ (decimal b ++ 32 ∷ decimal c))
three_lack a b c = spaced_lacks a (decimal b ++ 32 ∷ decimal c) (two_lack b c)

-- ---- places

pub same_place : (i j : ℕ) → is_place i → is_place j → place i ≡ place j → i ≡ j
same_place i j h k e = let s = same_decimal (suc i) (suc j) h k e in omega (arith, s)

-- a place, a space and a rest
pub place_rest : (i j : ℕ) (u v : List ℕ) → is_place i → is_place j → place i ++ 32 ∷ u ≡ place j ++ 32 ∷ v → (i ≡ j) × (u ≡ v)
place_rest i j u v h k e = let r = numbers_cancel (suc i) (suc j) u v e in (same_place i j h k r.0, r.1)

pub two_same : (i j k l : ℕ) → is_place i × is_place j → is_place k × is_place l → place i ++ 32 ∷ place j ≡ place k ++ 32 ∷ place l → (i ≡ k) × (j ≡ l)
two_same i j k l h g e = let r = place_rest i k (place j) (place l) h.0 g.0 e in (r.0, same_place j l h.1 g.1 r.1)

pub zero_is_place : is_place 0
zero_is_place = omega arith
