-- When each fault comes.
use Rattle.std.specs.Prelude.{◌≡◌, ℕ, ◌+◌, ◌<◌, List, Option}
use Rattle.std.specs.Option.{ForSome}
use Rattle.dr_base.specs.Causes.{Rose}
use Rattle.dr_journal.specs.Reading.{journal_of}
use Rattle.dr_journal.specs.Reading.Reading.{DamagedAt}
use Rattle.dr_journal.specs.declared.fault.JournalFault.{JournalFault}
use Rattle.dr_journal.specs.declared.fault.JournalFault.TheVariants.{Disk, Damaged, Full, NoMemory}

-- of a call that reads the journal, by what the disk reads and its counts before and after: the count rose, or the file is damaged there; want of memory is free
abbrev pub OpenFault : Option (List ℕ) → ℕ → ℕ → JournalFault → Type 0
OpenFault reads before now Disk = Rose before now
OpenFault reads before now (Damaged place) = ForSome reads (λ file. journal_of file ≡ DamagedAt place)
OpenFault reads before now (Full size need) = ⊥
OpenFault reads before now NoMemory = Unit {0}

-- of a reserve, by the file's length, what is asked for and the disk's limit: the limit would be passed; want of memory is free
abbrev pub ReserveFault : ℕ → ℕ → ℕ → JournalFault → Type 0
ReserveFault size need limit Disk = ⊥
ReserveFault size need limit (Damaged place) = ⊥
ReserveFault size need limit (Full size' need') = (size' ≡ size) × (need' ≡ need) × (limit < size + need)
ReserveFault size need limit NoMemory = Unit {0}

-- of reading bytes: the count rose; want of memory is free
abbrev pub ReadFault : ℕ → ℕ → JournalFault → Type 0
ReadFault before now Disk = Rose before now
ReadFault before now (Damaged place) = ⊥
ReadFault before now (Full size need) = ⊥
ReadFault before now NoMemory = Unit {0}
