-- Lists of any kind.
--     BeginsWith     a list begins with another
use Rattle.std.specs.Prelude.{◌≡◌, List, ◌++◌}

-- the first list is the second, followed by some rest
abbrev pub BeginsWith : {A : Type 0} → List A → List A → Type 0
BeginsWith {A} xs front = (rest : List A) × (xs ≡ front ++ rest)
