-- That names are names has one proof at most, which the logic asks of a fact that each value of a type carries.
--     IsName_prop, IsDistinct_prop, AreNames_prop     of a name, of different names, of all
use Rattle.std.specs.Prelude.{◌≢◌, ℕ, List, [], ◌∷◌}
use Rattle.std.specs.Coded.{×_prop, Unit-prop}
use Rattle.std.specs.List.{AllByRecursion-prop}
use Rattle.std.proofs.Props.{props}
use mathlib.Core.HLevel.{¬_prop}
use Rattle.ore_text.specs.Names.{IsName, IsDistinct, AreNames}

IsName_prop : (name : List ℕ) → IsProp (IsName name)
IsName_prop [] = λ a b. absurd a
IsName_prop (b ∷ bs) = Prim.hlevel props

IsDistinct_prop : (names : List (List ℕ)) → IsProp (IsDistinct names)
IsDistinct_prop [] = Unit-prop
IsDistinct_prop (n ∷ names) = ×_prop (AllByRecursion-prop (λ m. m ≢ n) (λ m. ¬_prop) names) (IsDistinct_prop names)

pub AreNames_prop : (names : List (List ℕ)) → IsProp (AreNames names)
AreNames_prop names p q = λ i. record {
  form = AllByRecursion-prop IsName IsName_prop names p.form q.form i;
  distinct = IsDistinct_prop names p.distinct q.distinct i;
}
