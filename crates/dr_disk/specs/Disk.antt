-- What the calls of a disk do to its bytes, and what a restart may find between two syncs.
use Rattle.std.specs.Prelude.{◌≡◌, ℕ, ◌+◌, ◌≤◌, min, max, List, ◌++◌, length, take, drop, Option, Some}

-- a file with these bytes written at a place
abbrev pub written : ℕ → List ℕ → List ℕ → List ℕ
written at bytes old = take at old ++ bytes ++ drop (at + length bytes) old

-- A write of n bytes at a place may be made in part: the range may hold any bytes, all others stay, and the file may grow by any part of the range.
pub record Torn (at n : ℕ) (old new : List ℕ) : Type 0 where
  pub before : take at new ≡ take at old
  pub after : drop (at + n) new ≡ drop (at + n) old
  pub no_shorter : length old ≤ length new
  pub no_longer : length new ≤ max (length old) (at + n)

-- A cut to n bytes may be made in part: a front of the file is left, of n bytes or more where the file had them.
pub record Cut (n : ℕ) (old new : List ℕ) : Type 0 where
  pub no_shorter : min n (length old) ≤ length new
  pub front : take (length new) old ≡ new

-- each file of the second set is one of the first
abbrev pub NoOther : (List ℕ → Type 0) → (List ℕ → Type 0) → Type 0
NoOther old new = (file : List ℕ) → new file → old file

-- each file of the second set comes from one of the first by a step
abbrev pub Follows : (List ℕ → List ℕ → Type 0) → (List ℕ → Type 0) → (List ℕ → Type 0) → Type 0
Follows step old new = (file : List ℕ) → new file → (before : List ℕ) × old before × step before file

-- there is no file in the set but this one
abbrev pub OnlyOne : (List ℕ → Type 0) → Option (List ℕ) → Type 0
OnlyOne files one = (file : List ℕ) → files file → one ≡ Some file
