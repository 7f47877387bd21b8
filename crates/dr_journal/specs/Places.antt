-- Where the gates of a journal stand, and which record is behind one.
use Rattle.std.specs.Prelude.{◌≡◌, ℕ, ◌+◌, List, ◌++◌, Option, length, take, drop, sum_by}
use Rattle.std.specs.List.{slice_get}
use Rattle.dr_journal.specs.Reading.{journal_of}
use Rattle.dr_journal.specs.Reading.Reading.{Whole}

-- the place of the gate behind these records
abbrev pub place_after : List (List ℕ) → ℕ
place_after bodies = 16 + sum_by (λ body. 5 + length body) bodies

-- a gate stands at this place: it is behind the first records of the file, or behind all of them
abbrev pub StandsAt : List ℕ → ℕ → Type 0
StandsAt file at = (before : List (List ℕ)) × (after : List (List ℕ)) × (journal_of file ≡ Whole (before ++ after)) × (at ≡ place_after before)

-- this is the body of the record whose gate stands at this place, or none stands there but the closing gate
abbrev pub IsNext : List ℕ → ℕ → Option (List ℕ) → Type 0
IsNext file at next = (before after : List (List ℕ)) → journal_of file ≡ Whole (before ++ after) → at ≡ place_after before → next ≡ slice_get after 0

-- these are bytes of the file, from this place on
abbrev pub AreAt : List ℕ → ℕ → List ℕ → Type 0
AreAt file place bytes = bytes ≡ take (length bytes) (drop place file)
