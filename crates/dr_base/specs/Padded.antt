-- How a short text lies in an array of fixed size: its bytes first, and zeros behind them.
use Rattle.std.specs.Prelude.{ℕ, ◌≡◌, ◌-◌, ◌≤◌, List, ◌++◌, length, take, drop, replicate}
use Rattle.std.proofs.Common.{arith}
use Rattle.std.proofs.lemmas.List.{take-append-drop, length-take-le}

-- the first len of these bytes are the text, and zeros fill the rest
pub record IsPadded (capacity : ℕ) (bytes : List ℕ) (len : ℕ) : Type 0 where
  pub size : length bytes ≡ capacity
  pub fits : len ≤ capacity
  pub zeros : drop len bytes ≡ replicate (capacity - len) 0

-- a text filled up with zeros
abbrev pub padded : ℕ → List ℕ → List ℕ
padded capacity text = text ++ replicate (capacity - length text) 0

-- the text has the length that is kept beside it
pub length-text : (capacity : ℕ) (bytes : List ℕ) (len : ℕ) → IsPadded capacity bytes len → length (take len bytes) ≡ len
length-text capacity bytes len p = length-take-le len bytes (omega (arith, p.size, p.fits))

-- filled up again, the text gives the array back
pub padded-text : (capacity : ℕ) (bytes : List ℕ) (len : ℕ) → IsPadded capacity bytes len → padded capacity (take len bytes) ≡ bytes
padded-text capacity bytes len p = rw (length-text capacity bytes len p) (rw (← p.zeros) (take-append-drop len bytes))
