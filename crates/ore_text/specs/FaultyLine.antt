-- The faulty line of a text that isn't in a set of texts: the first line that no text of the set with the same lines
-- before it has there. A text that ends too early is faulty at the line behind its last, and one that goes on is faulty
-- at the first line too many. What the lines of a text are, with or without their ends, is a function that is given.
--     AgreeOn           two texts have the same first so many lines, or end at the same place before that
--     IsFaultyLine      the faulty line, from 1
--     HasOneFaultyLine  a text has at most one faulty line, and none where it is in the set
use Rattle.std.specs.Prelude.{◌≡◌, ◌<◌, ◌-◌, ℕ, List, slice_get}

module _ (lines : List ℕ → List (List ℕ)) where
  -- at each of the first count places both texts have the same line, or both have none
  abbrev pub AgreeOn : ℕ → List ℕ → List ℕ → Type 0
  AgreeOn count text other = (k : ℕ) → k < count → slice_get (lines text) k ≡ slice_get (lines other) k

  -- some text of the set has the same lines before this one, and none has the same lines up to this one
  pub record IsFaultyLine (T : List ℕ → Type 0) (text : List ℕ) (line : ℕ) : Type 0 where
    pub follows : (other : List ℕ) × T other × AgreeOn (line - 1) text other
    pub differs : (other : List ℕ) → T other → ¬ AgreeOn line text other

  -- two faulty lines of one text are the same, and a text of the set has none
  pub record HasOneFaultyLine (T : List ℕ → Type 0) : Type 0 where
    pub one : (text : List ℕ) (j k : ℕ) → IsFaultyLine T text j → IsFaultyLine T text k → j ≡ k
    pub none : (text : List ℕ) (k : ℕ) → T text → ¬ IsFaultyLine T text k
