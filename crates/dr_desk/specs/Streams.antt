-- Whole inputs and outputs.
use Rattle.std.specs.Prelude.{ℕ, ◌≡◌, ◌<◌, ◌≤◌, List, ◌++◌, length, take, drop, Result, Ok, Err}

-- the bytes that are looked at: no more than 4,194,305
abbrev pub looked_at : List ℕ → List ℕ
looked_at bytes = take 4194305 bytes

-- no more than 4,194,305 bytes were read
pub record ReadsNoFurther (old new : List ℕ) : Type 0 where
  pub count : ℕ
  pub few : count ≤ 4194305
  pub rest : new ≡ drop count old

-- all bytes were taken, or some of the first of them where a call failed
abbrev pub WritesAll : {E : Type 0} → List ℕ → List ℕ → List ℕ → Result (Unit {0}) E → Type 0
WritesAll old new bytes (Ok _) = new ≡ old ++ bytes
WritesAll old new bytes (Err _) = (count : ℕ) × (count < length bytes) × (new ≡ old ++ take count bytes)
