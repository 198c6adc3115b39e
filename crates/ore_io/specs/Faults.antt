-- Counts of faults.
--     most_faults   the greatest count; one that is there stays there
--     one_more      a count after one more
--     Rose          a count has risen, or stands where it can't
use Rattle.std.specs.Prelude.{◌≡◌, ℕ, ◌+◌, ◌<◌, ◌⊎◌, min}

-- 2^64 - 1, the greatest u64
abbrev pub most_faults : ℕ
most_faults = 18446744073709551615

-- one more, up to the greatest count
abbrev pub one_more : ℕ → ℕ
one_more count = min (count + 1) most_faults

-- the new count is above the old one, or both are the greatest
abbrev pub Rose : ℕ → ℕ → Type 0
Rose old new = (old < new) ⊎ ((old ≡ most_faults) × (new ≡ most_faults))
