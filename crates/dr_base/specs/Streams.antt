-- What a read does to the bytes that are left, and a write to those that were taken.
use Rattle.std.specs.Prelude.{ℕ, Bool, true, ◌==◌, ◌&&◌, nat_lt, ◌≡◌, ◌<◌, List, [], ◌++◌, length, take, Option, Result, Ok, Err}
use Rattle.std.specs.Io.KnownBytes.{Appends}

-- a read moved the next bytes to the front of the buffer, none of them only at the end; a failed one moved none
abbrev pub ReadsFrom : {E : Type 0} → List ℕ → List ℕ → List ℕ → Result ℕ E → Type 0
ReadsFrom old new buf (Ok n) = (old ≡ take n buf ++ new) × (n ≡ 0 → 0 < length buf → new ≡ [])
ReadsFrom old new buf (Err e) = new ≡ old

-- a write took the first n bytes; a failed one took none
abbrev pub WritesTo : {E : Type 0} → List ℕ → List ℕ → List ℕ → Result ℕ E → Type 0
WritesTo old new bytes (Ok n) = new ≡ old ++ take n bytes
WritesTo old new bytes (Err e) = new ≡ old

-- whether a write with this result is a fault: it failed, or took none of some bytes
abbrev pub counts_as_fault : {E : Type 0} → List ℕ → Result ℕ E → Bool
counts_as_fault bytes (Ok n) = (n == 0) && nat_lt 0 (length bytes)
counts_as_fault bytes (Err e) = true

-- what a writer holds, where that is known, grew by the first of these bytes, or by none
abbrev pub TookFirst : Option (List ℕ) → Option (List ℕ) → List ℕ → Type 0
TookFirst old new bytes = (n : ℕ) × Appends old new (take n bytes)
