-- Bytes in memory that are written from the front on.
--     Filling   what was written, and how much room is left
use Rattle.std.specs.Prelude.{ℕ, List}

-- the bytes that were written, and how many more can be
pub record Filling : Type 0 where
  pub written : List ℕ
  pub spare : ℕ
