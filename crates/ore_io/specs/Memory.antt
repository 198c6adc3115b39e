-- Sources and sinks over bytes in memory.
--     MemReading    a source: what is left, the most bytes of a call, the calls, the faults
--     MemWriting    a sink: what was written, the room left, the most bytes of a call, the calls, the faults
--     SureWriting   a sink with no chunk: what was written, the room left, the faults
use Rattle.std.specs.Prelude.{ℕ, List}
use Rattle.ore_io.specs.Calls.{Calls}

-- left are the bytes to read; a call gives chunk bytes at most; faults counts the calls that failed
pub record MemReading : Type 0 where
  pub left : List ℕ
  pub chunk : ℕ
  pub calls : Calls
  pub faults : ℕ

-- spare is how many bytes can still be written; a call takes chunk bytes at most; faults counts the calls that failed
pub record MemWriting : Type 0 where
  pub written : List ℕ
  pub spare : ℕ
  pub chunk : ℕ
  pub calls : Calls
  pub faults : ℕ

-- spare is how many bytes can still be written, and faults counts the calls that found no room
pub record SureWriting : Type 0 where
  pub written : List ℕ
  pub spare : ℕ
  pub faults : ℕ
