-- What every image of a disk has: the records that are kept whatever a restart finds.
use Rattle.std.specs.Prelude.{◌≡◌, ℕ, ◌≤◌, List, ◌++◌, length, Contains}
use Rattle.dr_meaning.specs.Types.{Record}
use Rattle.dr_meaning.specs.Journals.{HasRecords}

-- these records are kept: those of each image begin with them
abbrev pub BeginWith : (List ℕ → Type 0) → List Record → Type 0
BeginWith images records = (file : List ℕ) → images file → (more : List Record) × HasRecords (records ++ more) file

-- what is kept at the start is kept at the end
abbrev pub Keeps : (old new : List ℕ → Type 0) → Type 0
Keeps old new = (records : List Record) → BeginWith old records → BeginWith new records

-- the longest list of records that are kept; where there is no image, no list is it
pub record AreKept (images : List ℕ → Type 0) (records : List Record) : Type 0 where
  pub begin : BeginWith images records
  pub longest : (longer : List Record) → BeginWith images longer → length longer ≤ length records

-- n records are kept, and perhaps more
pub record AreKeptSome (images : List ℕ → Type 0) (n : ℕ) : Type 0 where
  pub records : List Record
  pub kept : BeginWith images records
  pub count : length records ≡ n

-- no more than n records are kept
abbrev pub AreKeptAtMost : (List ℕ → Type 0) → ℕ → Type 0
AreKeptAtMost images n = (records : List Record) → BeginWith images records → length records ≤ n

-- each image has these records, and at most one more: that of an append that failed
abbrev pub HaveOneMoreAtMost : (List ℕ → Type 0) → List Record → Type 0
HaveOneMoreAtMost images records = (file : List ℕ) → images file → (last : List Record) × (length last ≤ 1) × HasRecords (records ++ last) file

-- an image has this record
pub record SomeHas (images : List ℕ → Type 0) (item : Record) : Type 0 where
  pub file : List ℕ
  pub there : images file
  pub records : List Record
  pub has : HasRecords records file
  pub listed : Contains records item
