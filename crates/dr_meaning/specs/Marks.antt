-- The marks of a call of the desk that takes several lines: how many records stood for each line's answer.
use Rattle.std.specs.Prelude.{◌≡◌, ◌≢◌, ℕ, ◌≤◌, Bool, true, false, MatchOption, IsSome, Option, None, List, [], ◌∷◌}
use Rattle.std.specs.Bool.{MatchBool}
use Rattle.std.specs.List.{AllByRecursion}
use Rattle.dr_base.specs.Causes.{Rose}
use Rattle.dr_base.specs.declared.estate_fault.EstateFault.{EstateFault}
use Rattle.dr_base.specs.declared.estate_fault.Limit.{Limit}
use Rattle.dr_base.specs.declared.answer.Answer.{Answer}
use Rattle.dr_meaning.specs.Images.{AreKeptSome, AreKeptAtMost}

-- a line of a call: the answer whose text was to be written for it, how many records it found when it got the journal open, and its mark
pub record MarkedLine : Type 0 where
  pub answer : Answer
  pub found : Option ℕ
  pub mark : ℕ

-- Whether a line got the journal open ----------------------------------------------------------------------

-- whether what there is too much of are an estate's bytes
abbrev pub are_bytes : Limit → Bool
are_bytes Limit.Bytes = true
are_bytes Limit.Machines = false
are_bytes Limit.Devices = false
are_bytes Limit.Datastores = false
are_bytes Limit.Consistency = false
are_bytes Limit.Groups = false
are_bytes Limit.Maps = false
are_bytes Limit.Plans = false
are_bytes Limit.MachineDatastores = false
are_bytes Limit.DatastoreDevices = false
are_bytes Limit.PlanSteps = false
are_bytes Limit.PlanAfter = false
are_bytes Limit.PlanBefore = false
are_bytes Limit.PlanThen = false
are_bytes Limit.PlanSuspend = false

-- whether an estate is refused for the number of its bytes: this is asked before the journal is opened, all else of an estate behind it
abbrev pub is_of_bytes : EstateFault → Bool
is_of_bytes (EstateFault.Limit what count) = are_bytes what
is_of_bytes EstateFault.NotToml = false
is_of_bytes (EstateFault.Key path) = false
is_of_bytes (EstateFault.BadName path) = false
is_of_bytes (EstateFault.Twice name) = false
is_of_bytes (EstateFault.Unknown name) = false
is_of_bytes (EstateFault.DeviceTwice name) = false
is_of_bytes EstateFault.NoMemory = false

-- What an answer tells of it. Words, requests, lines and the source are read before it; a damaged journal isn't opened. A journal's fault and want of memory come at any place. A failed write is no line's answer.
abbrev pub TellsOpened : Answer → Option ℕ → Type 0
TellsOpened (Answer.BadWords place) found = found ≡ None
TellsOpened (Answer.Request fault) found = found ≡ None
TellsOpened (Answer.TooLong what) found = found ≡ None
TellsOpened Answer.ReadFault found = found ≡ None
TellsOpened (Answer.JournalDamaged offset) found = found ≡ None
TellsOpened (Answer.Estate fault) found = MatchBool (is_of_bytes fault) (found ≡ None) (IsSome found)
TellsOpened Answer.JournalFault found = Unit {0}
TellsOpened Answer.NoMemory found = Unit {0}
TellsOpened Answer.WriteFault found = ⊥
TellsOpened (Answer.Done run) found = IsSome found
TellsOpened Answer.Loaded found = IsSome found
TellsOpened Answer.Replied found = IsSome found
TellsOpened Answer.Shown found = IsSome found
TellsOpened (Answer.Groups fault) found = IsSome found
TellsOpened (Answer.Plan name fault) found = IsSome found
TellsOpened (Answer.Unmapped machine) found = IsSome found
TellsOpened (Answer.Refused refusal) found = IsSome found
TellsOpened (Answer.Waiting run step) found = IsSome found
TellsOpened (Answer.Incomplete run machines) found = IsSome found
TellsOpened (Answer.ArrayFault side) found = IsSome found
TellsOpened (Answer.PortFault machine) found = IsSome found
TellsOpened (Answer.CalloutFault step) found = IsSome found
TellsOpened (Answer.Foreign object wanted_code found_code) found = IsSome found

-- Marks ----------------------------------------------------------------------------------------------------

-- the mark of a line is at least what it found, or that of the line before it where it didn't get the journal open
abbrev pub MarksFrom : ℕ → List MarkedLine → Type 0
MarksFrom before [] = Unit {0}
MarksFrom before (line ∷ lines) = MatchOption line.found (line.mark ≡ before) (λ n. n ≤ line.mark) × MarksFrom line.mark lines

-- the mark of the last line, or the one before all of them
abbrev pub last_mark : ℕ → List MarkedLine → ℕ
last_mark before [] = before
last_mark before (line ∷ lines) = last_mark line.mark lines

-- what holds of each line: its answer tells whether it got the journal open, its mark is no more than what is kept, and it is answered with a journal's fault only where the disk's count rose
pub record FitsLine (images : List ℕ → Type 0) (old_count new_count : ℕ) (line : MarkedLine) : Type 0 where
  pub opened : TellsOpened line.answer line.found
  pub at_most : AreKeptSome images line.mark
  pub cause : line.answer ≡ Answer.JournalFault → Rose old_count new_count

-- the marks never fall from this number on
abbrev pub NeverFall : ℕ → List MarkedLine → Type 0
NeverFall least [] = Unit {0}
NeverFall least (line ∷ lines) = (least ≤ line.mark) × NeverFall line.mark lines

-- a line that got the journal open has at least what was kept at the call's entry
abbrev pub HasKept : (List ℕ → Type 0) → MarkedLine → Type 0
HasKept images line = IsSome line.found → AreKeptAtMost images line.mark

-- the last line, where it got the journal open and isn't answered with a journal's fault, has all that is kept
abbrev pub LastHasAll : (List ℕ → Type 0) → List MarkedLine → Type 0
LastHasAll images [] = Unit {0}
LastHasAll images (line ∷ []) = line.answer ≢ Answer.JournalFault → HasKept images line
LastHasAll images (line ∷ next ∷ lines) = LastHasAll images (next ∷ lines)

-- what a disk adds that tells its bytes
pub record ToldMarks (old_images new_images : List ℕ → Type 0) (before : ℕ) (lines : List MarkedLine) : Type 0 where
  pub rising : NeverFall before lines
  pub at_least : AllByRecursion (HasKept old_images) lines
  pub last : LastHasAll new_images lines

-- the marks of lines in a row, the first one first, behind a line with this mark, by the disk's images and counts before and after them; before a call's first line the mark is 0
pub record HasMarks (old_images new_images : List ℕ → Type 0) (old_count new_count : ℕ) (before : ℕ) (lines : List MarkedLine) : Type 0 where
  pub each_from : MarksFrom before lines
  pub each : AllByRecursion (FitsLine new_images old_count new_count) lines
  pub told : (file : List ℕ) → new_images file → ToldMarks old_images new_images before lines
