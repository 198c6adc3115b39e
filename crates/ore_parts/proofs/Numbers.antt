-- Numbers that are read from their one text.
--     utf8_number         the text of a number is a text
--     number_read         what parsing it gives
--     same_number, no_error     what two answers of one call say
--     if_some             of what is found
--     some_found, none_found     what holds of what is found; nothing is found
--     spells_behind, match_weaker     words behind a front; a weaker statement of what is found
--     behind_places       what follows two places
--     place_cut           a text that begins with a place
--     numbers_cancel      two numbers with a space between
--     same_decimal               equal texts are of equal numbers
--     small               a number below the bound has 64 bits
use Rattle.std.proofs.Common.{◌≡◌, ℕ, suc, ◌<◌, ◌^◌, List, ◌∷◌, ◌++◌, Option, None, Some, Ok, Err, Result, sym, ap, subst, ◌∙◌, arith}
use Rattle.std.specs.Prelude.{decimal, MatchOption, IfSome}
use Rattle.std.proofs.lemmas.List.{append_cancel_left}
use Rattle.std.specs.Str.{IsUtf8, IsAscii}
use Rattle.std.specs.Str.Parse.{ParsesUnsigned}
use Rattle.std.proofs.lemmas.Fmt.{IsAscii-decimal, parse-decimal, decimal_injective}
use Rattle.std.proofs.lemmas.Str.{IsUtf8-from_ascii}
use Rattle.ore_parts.specs.BlockText.{place}
use Rattle.ore_parts.specs.CertificateText.{number_bound}
use Rattle.ore_parts.specs.Formats.{Spells}
use Rattle.ore_parts.specs.Lines.{LacksByte}
use Rattle.ore_parts.proofs.Bytes.{LacksByte-decimal, byte_cancel}

small : (n : ℕ) → n < number_bound → n < 2 ^ 64
small n h = omega arith

pub utf8_number : (n : ℕ) (text : List ℕ) → n < number_bound → text ≡ decimal n → IsUtf8 text
utf8_number n text h e = IsUtf8-from_ascii text (subst IsAscii (sym e) (IsAscii-decimal n (small n h)))

pub number_read : {E : Type 0} (n : ℕ) (text : List ℕ) (r : Result ℕ E) → n < number_bound → text ≡ decimal n → ParsesUnsigned 64 10 text r → r ≡ Ok n
number_read n text r h e p = parse-decimal 64 n text r (small n h) (small n h) e p

pub same_number : {E : Type 0} {m n : ℕ} {r : Result ℕ E} → r ≡ Ok m → r ≡ Ok n → m ≡ n
same_number e f = cc

pub no_error : {E : Type 0} {x : E} {n : ℕ} {r : Result ℕ E} → r ≡ Err x → r ≡ Ok n → ⊥
no_error e f = cc

pub numbers_cancel : (m n : ℕ) (u v : List ℕ) → decimal m ++ 32 ∷ u ≡ decimal n ++ 32 ∷ v → (decimal m ≡ decimal n) × (u ≡ v)
numbers_cancel m n u v e = byte_cancel 32 (decimal m) (decimal n) u v (LacksByte-decimal 32 m (omega arith)) (LacksByte-decimal 32 n (omega arith)) e

pub same_decimal : (m n : ℕ) → m < number_bound → n < number_bound → decimal m ≡ decimal n → m ≡ n
same_decimal m n h k e = decimal_injective m n (small m h) (small n k) e

pub none_found : {A : Type 0} (o : Option A) (P : A → Type 0) → o ≡ None → MatchOption o ⊥ P → ⊥
none_found o P e m = subst (λ o. MatchOption o ⊥ P) e m

pub if_some : {A : Type 0} (r : Option A) (P Q : A → Type 0) → IfSome r P → ((x : A) → P x → Q x) → IfSome r Q
if_some None P Q h f = tt
if_some (Some x) P Q h f = f x h

-- what stands before the first space of a text that begins with a place, and what follows it
pub place_cut : (front back text : List ℕ) (k : ℕ) (rest : List ℕ) → LacksByte 32 front × (text ≡ front ++ 32 ∷ back) → text ≡ place k ++ 32 ∷ rest → (front ≡ place k) × (back ≡ rest)
place_cut front back text k rest cut e = byte_cancel 32 front (place k) back rest cut.0 (LacksByte-decimal 32 (suc k) (omega arith)) (sym cut.1 ∙ e)

pub some_found : {A : Type 0} (o : Option A) (P : A → Type 0) (x : A) → o ≡ Some x → IfSome o P → P x
some_found o P x e h = subst (λ o. IfSome o P) e h

-- the words of a value behind a front
pub spells_behind : {X : Type 0} (words : X → List ℕ) (may : X → Type 0) (front text whole : List ℕ) (r : Option X) → whole ≡ front ++ text → Spells words may text r → Spells (λ x. front ++ words x) may whole r
spells_behind words may front text whole None is s = λ x h e. s x h (append_cancel_left front text (words x) (sym is ∙ e))
spells_behind words may front text whole (Some x) is s = (s.0, is ∙ ap (λ t. front ++ t) s.1)

pub match_weaker : {X : Type 0} (r : Option X) (A C : Type 0) (B D : X → Type 0) → MatchOption r A B → (A → C) → ((x : X) → B x → D x) → MatchOption r C D
match_weaker None A C B D m f g = f m
match_weaker (Some x) A C B D m f g = g x m

-- what follows two places
pub behind_places : (i j k l : ℕ) (u v : List ℕ) → place i ++ 32 ∷ (place j ++ 32 ∷ u) ≡ place k ++ 32 ∷ (place l ++ 32 ∷ v) → u ≡ v
behind_places i j k l u v e = (numbers_cancel (suc j) (suc l) u v (numbers_cancel (suc i) (suc k) (place j ++ 32 ∷ u) (place l ++ 32 ∷ v) e).1).1
