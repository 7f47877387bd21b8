-- What contracts see of an opened journal.
use Rattle.std.specs.Prelude.{◌≡◌, ℕ, List, Option, length}
use Rattle.std.specs.Option.{ForSome}
use Rattle.dr_disk.specs.Disk.{OnlyOne}
use Rattle.dr_journal.specs.Reading.{form_1}
use Rattle.dr_journal.specs.Held.{IsTrimmed}

-- an opened journal
pub record JournalState : Type 0 where
  -- the file's length
  pub file_length : ℕ
  -- how many bytes the reserved appends may take together
  pub room : ℕ
  -- the greatest length of a body of theirs
  pub largest : ℕ
  -- the disk's greatest length, as the last reserve saw it
  pub limit : ℕ

-- the journal is that of what a disk reads, which is the disk's only image
pub record IsOpen (journal : JournalState) (reads : Option (List ℕ)) (images : List ℕ → Type 0) : Type 0 where
  pub one : OnlyOne images reads
  pub trimmed : ForSome reads (λ file. (bodies : List (List ℕ)) × IsTrimmed form_1 bodies file)
  pub ends : ForSome reads (λ file. length file ≡ journal.file_length)
