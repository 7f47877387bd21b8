-- What one file, or each image of a disk, has of another's records.
use Rattle.std.specs.Prelude.{◌≡◌, ℕ, ◌≤◌, List, ◌++◌, length, take}
use Rattle.dr_journal.specs.Reading.{journal_of}
use Rattle.dr_journal.specs.Reading.Reading.{Whole}

-- the two files stand for the same
abbrev pub SameRecords : List ℕ → List ℕ → Type 0
SameRecords old new = journal_of new ≡ journal_of old

-- the second file has the records of the first, and these behind them
pub record Appends (more : List (List ℕ)) (old new : List ℕ) : Type 0 where
  pub bodies : List (List ℕ)
  pub had : journal_of old ≡ Whole bodies
  pub has : journal_of new ≡ Whole (bodies ++ more)

-- the second file has the records of the first, and behind them none, some or all of these, the first ones in order
pub record AppendsSome (more : List (List ℕ)) (old new : List ℕ) : Type 0 where
  pub count : ℕ
  pub within : count ≤ length more
  pub appends : Appends (take count more) old new

-- each image has these records and no others
abbrev pub Have : (List ℕ → Type 0) → List (List ℕ) → Type 0
Have images bodies = (file : List ℕ) → images file → journal_of file ≡ Whole bodies

-- the records of each image begin with these
abbrev pub BeginWith : (List ℕ → Type 0) → List (List ℕ) → Type 0
BeginWith images kept = (file : List ℕ) → images file → (more : List (List ℕ)) × (journal_of file ≡ Whole (kept ++ more))

-- what the records of each image begin with at the start, they begin with at the end
abbrev pub Keeps : (List ℕ → Type 0) → (List ℕ → Type 0) → Type 0
Keeps old new = (kept : List (List ℕ)) → BeginWith old kept → BeginWith new kept
