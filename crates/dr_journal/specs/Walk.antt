-- Where a reader of a journal's records stands.
use Rattle.std.specs.Prelude.{◌≡◌, ℕ, ◌-◌, Bool, true, false, List, [], ◌∷◌, ◌++◌, length, drop}
use Rattle.dr_journal.specs.Reading.{form_1}
use Rattle.dr_journal.specs.Held.{IsTrimmed}
use Rattle.dr_journal.specs.Places.{place_after, AreAt}

-- a reader of the records of an opened journal
pub record ReaderState : Type 0 where
  -- the file's length
  pub file_length : ℕ
  -- the place of the gate of the record that it stands on, or of the gate that it came to last
  pub place : ℕ
  -- the body of that record
  pub body : List ℕ
  -- the place of the gate that comes next
  pub next_place : ℕ
  -- the place in the file of the window's first byte
  pub window_place : ℕ
  -- the bytes of the window
  pub window : List ℕ

-- the window's bytes from a place of the file on
abbrev pub bytes_from : ReaderState → ℕ → List ℕ
bytes_from reader place = drop (place - reader.window_place) reader.window

-- a reader of this file, which ends with its closing gate, has the first records behind it and the others in front; its window shows bytes of the file
pub record IsAt (reader : ReaderState) (file : List ℕ) (before after : List (List ℕ)) : Type 0 where
  pub trimmed : IsTrimmed form_1 (before ++ after) file
  pub ends : length file ≡ reader.file_length
  pub place : reader.next_place ≡ place_after before
  pub shows : AreAt file reader.window_place reader.window

-- a reader that had these records behind it and in front went on by one, and has its body; or it stands where it stood, as none was left
abbrev pub Moves : List ℕ → List (List ℕ) → List (List ℕ) → Bool → ReaderState → Type 0
Moves file before [] more reader = (more ≡ false) × IsAt reader file before []
Moves file before (body ∷ after) more reader = (more ≡ true) × (reader.body ≡ body) × IsAt reader file (before ++ body ∷ []) after
