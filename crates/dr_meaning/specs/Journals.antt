-- What a journal's file tells: records, the setting that the first of them declares, and runs.
use Rattle.std.specs.Prelude.{◌≡◌, ℕ, ◌⊎◌, List, [], ◌∷◌, ◌++◌}
use Rattle.dr_inventory.specs.declared.members.Members.{Members}
use Rattle.dr_declared.specs.Contents.{Declares}
use Rattle.dr_records.specs.Spelling.{IsRecord, spelling}
use Rattle.dr_journal.specs.Places.{place_after}
use Rattle.dr_journal.specs.Reading.{journal_of}
use Rattle.dr_journal.specs.Reading.Reading.{Whole, DamagedAt}
use Rattle.dr_meaning.specs.Types.{Record}
use Rattle.dr_meaning.specs.Runs.{Setting, Run, runs_of}
use Rattle.dr_meaning.specs.Lawful.{LawfulAfter}

-- The setting of an estate's text ------------------------------------------------------------------------

-- the bytes declare this estate and these plans
pub record DeclaresSetting (bytes : List ℕ) (setting : Setting) : Type 0 where
  pub members : Members
  pub declares : Declares bytes (record { estate = setting.estate; members = members; plans = setting.plans })

-- The records of a journal -----------------------------------------------------------------------------------

-- these runs, newest first, stand in a journal of these records: its first record declares what is in force, and each other one may come after those before it
pub record Stands (setting : Setting) (records : List Record) (runs : List Run) : Type 0 where
  pub bytes : List ℕ
  pub rest : List Record
  pub are : records ≡ Record.Estate bytes ∷ rest
  pub declares : DeclaresSetting bytes setting
  pub lawful : LawfulAfter setting [] rest
  pub runs_are : runs ≡ runs_of setting rest

-- the body is the spelling of this record
pub record IsSpelled (body : List ℕ) (item : Record) : Type 0 where
  pub is_record : IsRecord item
  pub spelled : spelling item ≡ body

-- the bodies are the spellings of these records, one each
abbrev pub AreSpelled : List (List ℕ) → List Record → Type 0
AreSpelled [] [] = Unit {0}
AreSpelled (body ∷ bodies) (item ∷ records) = IsSpelled body item × AreSpelled bodies records
AreSpelled [] (item ∷ records) = ⊥
AreSpelled (body ∷ bodies) [] = ⊥

-- the file is a journal of these records
pub record HasRecords (records : List Record) (file : List ℕ) : Type 0 where
  pub bodies : List (List ℕ)
  pub whole : journal_of file ≡ Whole bodies
  pub spelled : AreSpelled bodies records

-- the file is a lawful journal, not empty, which declares this setting and tells these runs
pub record Tells (setting : Setting) (runs : List Run) (file : List ℕ) : Type 0 where
  pub records : List Record
  pub has : HasRecords records file
  pub stand : Stands setting records runs

-- each image of a disk tells these runs in this setting
abbrev pub AllTell : Setting → List Run → (List ℕ → Type 0) → Type 0
AllTell setting runs images = (file : List ℕ) → images file → Tells setting runs file

-- Files that are no journal --------------------------------------------------------------------------------------

-- these are the records of a lawful journal: it is empty, or runs stand in it
abbrev pub AreLawful : List Record → Type 0
AreLawful records = (records ≡ []) ⊎ ((setting : Setting) × (runs : List Run) × Stands setting records runs)

-- a body may follow these records: it spells a record, with which they are lawful
pub record MayFollow (records : List Record) (body : List ℕ) : Type 0 where
  pub item : Record
  pub spelled : IsSpelled body item
  pub lawful : AreLawful (records ++ item ∷ [])

-- at this place stands the gate of the first body that may not follow those before it
pub record IsUnlawfulAt (place : ℕ) (file : List ℕ) : Type 0 where
  pub before : List (List ℕ)
  pub body : List ℕ
  pub behind : List (List ℕ)
  pub whole : journal_of file ≡ Whole (before ++ body ∷ behind)
  pub records : List Record
  pub spelled : AreSpelled before records
  pub lawful : AreLawful records
  pub unlawful : ¬ MayFollow records body
  pub is_at : place ≡ place_after before

-- a file is damaged at this place: its gates are, or else a record is unlawful
abbrev pub IsDamagedAt : ℕ → List ℕ → Type 0
IsDamagedAt place file = (journal_of file ≡ DamagedAt place) ⊎ IsUnlawfulAt place file
