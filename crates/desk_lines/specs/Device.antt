-- What a reader and a writer are seen as, and what a read and a write do.
use Rattle.std.specs.Prelude.{◌≡◌, ℕ, ◌+◌, ◌-◌, ◌^◌, ◌&&◌, ◌==◌, Bool, true, false, min, List, length, if◌then◌else◌, Option, Result, Ok, Err, nat_lt}
use Rattle.std.specs.Io.{ReadsAtMost, WritesAtMost}
use Rattle.std.specs.Io.KnownBytes.{ReadConsumes, WriteAppends}

-- The bytes that reads will give from here on, where they are known; how many faults there were; how many bytes came.
pub record Reader : Type 0 where
  pub remaining : Option (List ℕ)
  pub faults : ℕ
  pub came : ℕ

-- The bytes that were written, where they are known; how many faults there were.
pub record Writer : Type 0 where
  pub contents : Option (List ℕ)
  pub faults : ℕ

-- a count that grew by n, at the most that it can be
abbrev pub grown : ℕ → ℕ → ℕ
grown count n = min (count + n) (2 ^ 64 - 1)

-- a read fails where it answers an error
abbrev pub read_fails : {E : Type 0} → Result ℕ E → Bool
read_fails (Ok n) = false
read_fails (Err e) = true

-- a write fails where it answers an error, or takes nothing of a piece that is not empty
abbrev pub write_fails : {E : Type 0} → Result ℕ E → List ℕ → Bool
write_fails (Ok n) piece = (n == 0) && nat_lt 0 (length piece)
write_fails (Err e) piece = true

-- the count of faults after a call
abbrev pub counted : ℕ → Bool → ℕ
counted count fails = if fails then grown count 1 else count

-- the count of bytes after a read
abbrev pub came_after : {E : Type 0} → ℕ → Result ℕ E → ℕ
came_after came (Ok n) = grown came n
came_after came (Err e) = came

-- a read gave the first bytes of the buffer, as std's does, and what it came to is counted
pub record Reads {E : Type 0} (old new : Reader) (result : Result ℕ E) (buffer : List ℕ) : Type 0 where
  pub bound : ReadsAtMost result buffer
  pub bytes : ReadConsumes old.remaining new.remaining result buffer
  pub faults : new.faults ≡ counted old.faults (read_fails result)
  pub came : new.came ≡ came_after old.came result

-- a write took the first bytes of the piece, as std's does, and what it came to is counted
pub record Writes {E : Type 0} (old new : Writer) (result : Result ℕ E) (piece : List ℕ) : Type 0 where
  pub bound : WritesAtMost result piece
  pub bytes : WriteAppends old.contents new.contents result piece
  pub faults : new.faults ≡ counted old.faults (write_fails result piece)
