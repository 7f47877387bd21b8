-- Numbers in texts.
use Rattle.std.specs.Prelude.{ℕ, ◌≡◌, ◌≢◌, ◌<◌, ◌^◌, List, Option, Some, None, decimal}

-- bytes are read as a number of 64 bits: the one that they spell in decimal, without leading zeros, if there is one
abbrev pub ReadsDecimal : List ℕ → Option ℕ → Type 0
ReadsDecimal bytes (Some n) = bytes ≡ decimal n
ReadsDecimal bytes None = (n : ℕ) → n < 2 ^ 64 → bytes ≢ decimal n
