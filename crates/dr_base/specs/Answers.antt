-- The status of an answer, with which the program ends.
use Rattle.std.specs.Prelude.{ℕ}
use Rattle.dr_base.specs.declared.answer.Answer.{Answer}
use Rattle.dr_base.specs.declared.answer.Answer.TheVariants.{Done, Loaded, Replied, Shown, BadWords, Estate, Groups, Plan, Unmapped, Refused, Request, TooLong, Waiting, Incomplete, ArrayFault, PortFault, CalloutFault, JournalFault, ReadFault, WriteFault, NoMemory, JournalDamaged, Foreign}

-- 0 is success, 1 and 2 are refusals, 3 and 4 ask for an operator, 5 to 13 are faults
abbrev pub status_of : Answer → ℕ
status_of (Done run) = 0
status_of Loaded = 0
status_of Replied = 0
status_of Shown = 0
status_of (BadWords place) = 1
status_of (Estate fault) = 2
status_of (Groups fault) = 2
status_of (Plan name fault) = 2
status_of (Unmapped machine) = 2
status_of (Refused refusal) = 2
status_of (Request fault) = 2
status_of (TooLong what) = 2
status_of (Waiting run step) = 3
status_of (Incomplete run machines) = 4
status_of (ArrayFault side) = 5
status_of (PortFault machine) = 6
status_of (CalloutFault step) = 7
status_of JournalFault = 8
status_of ReadFault = 9
status_of WriteFault = 10
status_of NoMemory = 11
status_of (JournalDamaged offset) = 12
status_of (Foreign object wanted found) = 13
