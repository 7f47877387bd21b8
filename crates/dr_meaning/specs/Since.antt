-- From the entry of a line to here: the images and the outside that there were, and those that there are.
use Rattle.std.specs.Prelude.{◌≡◌, ℕ, ◌<◌, ◌≤◌, ◌⊎◌, IsTrue, List, [], ◌∷◌, ◌++◌, length, Contains, IfSome}
use Rattle.dr_groups.specs.Groups.{IsPairOf}
use Rattle.dr_base.specs.Lists.{has}
use Rattle.dr_outside.specs.BySide.{at}
use Rattle.dr_meaning.specs.Types.{StartRow, Record}
use Rattle.dr_meaning.specs.Worlds.{World}
use Rattle.dr_meaning.specs.Runs.{Setting, Run, protected_side}
use Rattle.dr_meaning.specs.Fits.{pair_row}
use Rattle.dr_meaning.specs.Journals.{HasRecords, Stands}
use Rattle.dr_meaning.specs.Sound.{AreSound}
use Rattle.dr_meaning.specs.Images.{BeginWith, SomeHas}
use Rattle.dr_meaning.specs.Changes.{least_at, ReadsAtLeast, OnlyDrifts, ChangedBy}

-- a Start behind these records, the last of which came since, gives no fewer writes of a pair than it had
abbrev pub ReadTruly : (records since : List Record) → StartRow → World → Type 0
ReadTruly records since row old =
    (setting : Setting) (runs : List Run) → Stands setting records runs → (g p : ℕ) → IsPairOf setting.estate g p → p < old.pair_count → IsTrue (has row.groups g) →
    IfSome (pair_row p row) (ReadsAtLeast (least_at g p runs since old) (protected_side setting row.groups runs))

-- a Start gives no fewer writes of a pair of its groups than the pair has now
abbrev pub GivesWrites : Setting → List Run → StartRow → World → Type 0
GivesWrites setting runs row world =
    (g p : ℕ) → IsPairOf setting.estate g p → p < world.pair_count → IsTrue (has row.groups g) →
    IfSome (pair_row p row) (ReadsAtLeast (λ side. (at side (world.pair p).content).writes) (protected_side setting row.groups runs))

-- the Start stands among these records, behind those of an image at entry and some that came since, and read truly
pub record IsTrueStart (images : List ℕ → Type 0) (old : World) (records : List Record) (row : StartRow) : Type 0 where
  pub file : List ℕ
  pub was : images file
  pub had : List Record
  pub has_had : HasRecords had file
  pub since : List Record
  pub later : List Record
  pub are : records ≡ (had ++ since) ++ Record.Start row ∷ later
  pub truly : ReadTruly (had ++ since) since row old

-- each Start of these records is one of an image at entry, or read truly
abbrev pub HasTrueStarts : (images : List ℕ → Type 0) → World → List Record → Type 0
HasTrueStarts images old records = (row : StartRow) → Contains records (Record.Start row) → SomeHas images (Record.Start row) ⊎ IsTrueStart images old records row

-- a file has the records of an image at entry, no record was added, and nothing changed but by drift
pub record Rests (old_images : List ℕ → Type 0) (old new : World) (added : List Record) (file : List ℕ) : Type 0 where
  pub entry : List ℕ
  pub was : old_images entry
  pub had : List Record
  pub has_had : HasRecords had entry
  pub has_same : HasRecords had file
  pub only : OnlyDrifts old new
  pub none : added ≡ []

-- a file comes from an image at entry: behind its records stand new ones that are kept, these among them, by which the outside changed; and at most one that may be kept or not
pub record Comes (old_images new_images : List ℕ → Type 0) (old new : World) (added : List Record) (file : List ℕ) : Type 0 where
  pub entry : List ℕ
  pub was : old_images entry
  pub had : List Record
  pub has_had : HasRecords had entry
  pub more : List Record
  pub last : List Record
  pub one_at_most : length last ≤ 1
  pub has_all : HasRecords ((had ++ more) ++ last) file
  pub kept : BeginWith new_images (had ++ more)
  pub changed : ChangedBy (had ++ more) more old new
  pub among : (item : Record) → Contains added item → Contains more item

-- from the images and the outside at entry to those of now, where the line added these records: each image is sound, rests as one at entry or comes from it, and has true Starts
pub record Since (old_images : List ℕ → Type 0) (old : World) (added : List Record) (new_images : List ℕ → Type 0) (new : World) : Type 0 where
  pub sound : AreSound new_images new
  pub comes : (file : List ℕ) → new_images file → Rests old_images old new added file ⊎ Comes old_images new_images old new added file
  pub starts : (file : List ℕ) (records : List Record) → new_images file → HasRecords records file → HasTrueStarts old_images old records
