-- Names of variables.
--     is_name_byte    a letter, a digit or an underscore
--     IsName          a letter and at most 15 name bytes after it
--     index_of        the index of a name in a list
--     IsDistinct      no name of a list stands in it twice
--     IsAdded         what a call that adds a name answers, and the names before and after
--     AreNames        each is of the form of a name, and no two are the same
use Rattle.std.specs.Prelude.{◌≡◌, ◌≢◌, ℕ, suc, ◌≤◌, Bool, true, false, ◌||◌, nat_eq, if◌then◌else◌, List, [], ◌∷◌, ◌++◌, length}
use Rattle.std.specs.Char.{is_ascii_alphabetic, is_ascii_alphanumeric}
use Rattle.std.specs.Str.{bytes_eq}
use Rattle.std.specs.declared.option.Option.{Option}
use Rattle.std.specs.declared.option.Option.TheVariants.{None, Some}
use Rattle.std.specs.Option.{IsSome, option_map}
use Rattle.std.specs.declared.result.Result.{Result}
use Rattle.std.specs.declared.result.Result.TheVariants.{Ok, Err}
use Rattle.std.specs.List.{AllByRecursion, AllPass}

-- an ASCII letter, a digit, or `_`, which is the byte 95
abbrev pub is_name_byte : ℕ → Bool
is_name_byte b = is_ascii_alphanumeric b || nat_eq b 95

-- 1 to 16 name bytes, the first of them a letter
abbrev pub IsName : List ℕ → Type 0
IsName [] = ⊥
IsName (b ∷ bs) = (is_ascii_alphabetic b ≡ true) × (length bs ≤ 15) × AllPass is_name_byte bs

-- the index of the first name that is these bytes
abbrev pub index_of : List (List ℕ) → List ℕ → Option ℕ
index_of [] name = None
index_of (n ∷ names) name = if bytes_eq n name then Some 0 else option_map suc (index_of names name)

-- each name differs from all that stand behind it
abbrev pub IsDistinct : List (List ℕ) → Type 0
IsDistinct [] = Unit {0}
IsDistinct (n ∷ names) = AllByRecursion (λ m. m ≢ n) names × IsDistinct names

-- each is a letter with at most 15 name bytes behind it, and no two are the same
pub record AreNames (names : List (List ℕ)) : Type 0 where
  pub form : AllByRecursion IsName names
  pub distinct : IsDistinct names

-- true where the name is added at the end, false where it is there, and a refusal changes nothing
abbrev pub IsAdded : {E : Type 0} → Result Bool E → List (List ℕ) → List (List ℕ) → List ℕ → Type 0
IsAdded (Ok true) old new name = (index_of old name ≡ None) × (new ≡ old ++ name ∷ [])
IsAdded (Ok false) old new name = IsSome (index_of old name) × (new ≡ old)
IsAdded (Err e) old new name = new ≡ old
