-- One call of the desk: what it answered, why, and what it told.
use Rattle.std.specs.Prelude.{ℕ, ◌≡◌, ◌<◌, ◌⊎◌, Bool, false, ◌||◌, ◌==◌, List, [], ◌∷◌, ◌++◌, length, take, Option, Some, None, Result, Ok, Err}
use Rattle.dr_base.specs.declared.side.Side.{Side}
use Rattle.dr_base.specs.Answers.{status_of}
use Rattle.dr_base.specs.Causes.{Rose}
use Rattle.dr_base.specs.declared.answer.Answer.{Answer}
use Rattle.dr_base.specs.declared.answer.Answer.TheVariants.{BadWords, Refused, Shown, ReadFault, NoMemory}
use Rattle.dr_base.specs.declared.command.Command.{Command}
use Rattle.dr_inventory.specs.declared.estate.Estate.{Estate}
use Rattle.dr_plan.specs.declared.plan.Plan.{Plan}
use Rattle.dr_base.specs.declared.refusal.Refusal.TheVariants.{UnknownPlan}
use Rattle.dr_declared.specs.declared.contents.Declared.{Declared}
use Rattle.dr_declared.specs.declared.contents.DeclaredFault.{DeclaredFault}
use Rattle.dr_declared.specs.Contents.{Declares}
use Rattle.dr_declared.specs.Faults.{IsReading}
use Rattle.dr_outside.specs.Pairs.{Drift}
use Rattle.dr_base.specs.Lists.{has}
use Rattle.dr_meaning.specs.Testing.{DriftsButSnapshot}
use Rattle.dr_testing.specs.Placing.{is_planned}
use Rattle.dr_testing.specs.Starts.{ChangesAtB}
use Rattle.dr_testing.specs.Tests.{Outside, HasOpeningPairs, HasOpeningMachines, AreInOrder, AreTestedPairs, AreTestedMachines, MachinesDone, PairsDone, KeepsPairs, KeepsMachines, RunCause}
use Rattle.dr_report.specs.Texts.{answer_text_of}
use Rattle.dr_report.specs.Reports.{TellsGroups, preview_text_of}
use Rattle.dr_desk.specs.Faults.{fault_estate, fault_answer}
use Rattle.dr_desk.specs.Streams.{looked_at}
use Rattle.dr_desk.specs.Decisions.{Decision, decision, Refuse, ShowGroups, ShowPlan, Test, NotAsked}
use Rattle.dr_desk.specs.Words.{IsCommand, IsFirstBadWord}

-- what a source has left, and its count of faults, before and after a call
pub record Received : Type 0 where
  pub before : List ℕ
  pub after : List ℕ
  pub faults_before : ℕ
  pub faults_after : ℕ

-- the source of a call
abbrev pub received : {S : Type 0} → (S → List ℕ) → (S → ℕ) → S → S → Received
received left faults old new = record { before = left old; after = left new; faults_before = faults old; faults_after = faults new }

-- what a sink took, and its count of faults, before and after a call
pub record Sent : Type 0 where
  pub before : List ℕ
  pub after : List ℕ
  pub faults_before : ℕ
  pub faults_after : ℕ

-- the sink of a call
abbrev pub sent : {K : Type 0} → (K → List ℕ) → (K → ℕ) → K → K → Sent
sent taken faults old new = record { before = taken old; after = taken new; faults_before = faults old; faults_after = faults new }

-- what a call said: its answer, and the text of that, with a report before it where one is asked for
pub record Said : Type 0 where
  pub answer : Answer
  pub text : List ℕ

-- an answer with its text
abbrev pub said_by : Answer → List ℕ → Said
said_by answer text = record { answer = answer; text = text }

-- an answer alone, in which what this estate numbers goes by its name
abbrev pub plain : Option Estate → Answer → Said
plain estate answer = record { answer = answer; text = answer_text_of estate answer }

-- a report, and that it was shown
abbrev pub shown : List ℕ → Said
shown report = record { answer = Shown; text = report ++ answer_text_of None Shown }

-- nothing was called, and this was said
pub record SaysOnly (old new : Outside) (said wanted : Said) : Type 0 where
  pub same : new ≡ old
  pub told : said ≡ wanted

-- memory was wanting, or this holds of what was said
abbrev pub OrLacks : Said → Type 0 → Type 0
OrLacks said rest = (said ≡ plain None NoMemory) ⊎ rest

-- memory was wanting before anything was called, or this holds of what was said
abbrev pub OrLacked : Outside → Outside → Said → Type 0 → Type 0
OrLacked old new said rest = SaysOnly old new said (plain None NoMemory) ⊎ rest

-- a report was shown that meets this
abbrev pub IsShown : (List ℕ → Type 0) → Said → Type 0
IsShown Tells said = (report : List ℕ) × Tells report × (said ≡ shown report)

-- what a test of this plan answered, why, and what it leaves of the site
pub record IsTestOutcome (array_tells port_tells : Type 0) (estate : Estate) (plan : Plan) (old new : Outside) (said : Said) : Type 0 where
  pub cause : RunCause array_tells port_tells estate plan old new said.answer
  pub told : said ≡ plain (Some estate) said.answer
  pub no_pairs : length plan.pairs ≡ 0 → new.array ≡ old.array
  pub pairs_done : array_tells → HasOpeningPairs old → PairsDone plan old.array new.array said.answer
  pub pairs_kept : array_tells → HasOpeningPairs old → KeepsPairs plan old.array.pair new.array.pair
  pub machines_done : port_tells → HasOpeningMachines old → MachinesDone estate plan old.machine new.machine said.answer
  pub machines_kept : port_tells → KeepsMachines plan old.machine new.machine
  pub order : port_tells → HasOpeningMachines old → AreInOrder estate plan new.machine

-- nothing was called, and a report was shown that meets this
pub record ShowsOnly (old new : Outside) (said : Said) (Tells : List ℕ → Type 0) : Type 0 where
  pub same : new ≡ old
  pub is_shown : IsShown Tells said

-- what a command said and did, by what it came to
abbrev pub DecisionCause : (array_tells port_tells : Type 0) → Estate → Decision → Outside → Outside → Said → Type 0
DecisionCause array_tells port_tells estate (Refuse refusal) old new said = SaysOnly old new said (plain (Some estate) (Refused refusal))
DecisionCause array_tells port_tells estate ShowGroups old new said = ShowsOnly old new said (TellsGroups estate)
DecisionCause array_tells port_tells estate (ShowPlan plan) old new said = ShowsOnly old new said (λ report. report ≡ preview_text_of estate plan)
DecisionCause array_tells port_tells estate (Test plan) old new said = IsTestOutcome array_tells port_tells estate plan old new said
DecisionCause array_tells port_tells estate NotAsked old new said = ⊥

-- what a command said and did, by what its input declares, or what is wrong with it
abbrev pub ReadingCause : (array_tells port_tells : Type 0) → Command → Result Declared DeclaredFault → Outside → Outside → Said → Type 0
ReadingCause array_tells port_tells command (Ok declared) old new said = DecisionCause array_tells port_tells declared.estate (decision declared old command) old new said
ReadingCause array_tells port_tells command (Err fault) old new said = SaysOnly old new said (plain (fault_estate fault) (fault_answer fault))

-- what a preview under this name said
abbrev pub PreviewCause : Estate → List ℕ → Option Plan → Said → Type 0
PreviewCause estate name None said = said ≡ plain (Some estate) (Refused (UnknownPlan name))
PreviewCause estate name (Some plan) said = IsShown (λ report. report ≡ preview_text_of estate plan) said

-- the input was read
pub record IsInputAnswer (array_tells port_tells : Type 0) (command : Command) (input : List ℕ) (old new : Outside) (said : Said) : Type 0 where
  pub reading : Result Declared DeclaredFault
  pub is_reading : IsReading input reading
  pub cause : ReadingCause array_tells port_tells command reading old new said

-- the words are no command
pub record IsWordsAnswer (words : List (List ℕ)) (old new : Outside) (said : Said) : Type 0 where
  pub place : ℕ
  pub bad : IsFirstBadWord words place
  pub says : SaysOnly old new said (plain None (BadWords place))

-- the source failed
pub record IsReadFailed (source : Received) (old new : Outside) (said : Said) : Type 0 where
  pub rose : Rose source.faults_before source.faults_after
  pub says : SaysOnly old new said (plain None ReadFault)

-- the words are a command, and why this was said: the source failed, memory was wanting, or by the input
pub record IsCommandAnswer (source_tells array_tells port_tells : Type 0) (words : List (List ℕ)) (source : Received) (old new : Outside) (said : Said) : Type 0 where
  pub command : Command
  pub is_command : IsCommand words command
  pub input : List ℕ
  pub read : source_tells → input ≡ looked_at source.before
  pub cause : IsReadFailed source old new said ⊎ OrLacked old new said (IsInputAnswer array_tells port_tells command input old new said)

-- what a call said, and why: in the order of the refusals, the words, the source, and then the input
abbrev pub IsAnswer : (source_tells array_tells port_tells : Type 0) → List (List ℕ) → Received → Outside → Outside → Said → Type 0
IsAnswer source_tells array_tells port_tells words source old new said =
    IsWordsAnswer words old new said ⊎ IsCommandAnswer source_tells array_tells port_tells words source old new said

-- the whole text was taken, and the status is the answer's
pub record IsTold (tells : Type 0) (sink : Sent) (status : ℕ) (said : Said) : Type 0 where
  pub status_is : status ≡ status_of said.answer
  pub written : tells → sink.after ≡ sink.before ++ said.text

-- a write failed: the first bytes of the text were taken, and nothing after them
pub record IsCutOff (tells : Type 0) (sink : Sent) (status : ℕ) (said : Said) : Type 0 where
  pub status_is : status ≡ 10
  pub rose : Rose sink.faults_before sink.faults_after
  pub written : tells → (count : ℕ) × (count < length said.text) × (sink.after ≡ sink.before ++ take count said.text)

-- what was said was told, whole or in part
abbrev pub IsWritten : (tells : Type 0) → Sent → ℕ → Said → Type 0
IsWritten tells sink status said = IsTold tells sink status said ⊎ IsCutOff tells sink status said

-- there was no room for an answer, and nothing was written
pub record IsSilent (tells : Type 0) (sink : Sent) (status : ℕ) : Type 0 where
  pub status_is : status ≡ 11
  pub written : tells → sink.after ≡ sink.before

-- want of memory: told, or without room for an answer not even that
abbrev pub LacksMemory : (tells : Type 0) → Sent → ℕ → Type 0
LacksMemory tells sink status = IsWritten tells sink status (plain None NoMemory) ⊎ IsSilent tells sink status

-- what a call said, with its cause, and the one line's mark of no records
pub record Answers (source_tells sink_tells array_tells port_tells : Type 0) (words : List (List ℕ)) (source : Received) (old new : Outside) (sink : Sent) (status : ℕ) (marks : List ℕ) : Type 0 where
  pub said : Said
  pub is : IsAnswer source_tells array_tells port_tells words source old new said
  pub gives : IsWritten sink_tells sink status said
  pub marked : marks ≡ 0 ∷ []

-- there was no room for an answer: nothing is read, written, marked or changed
pub record HasNoRoom (sink_tells : Type 0) (source : Received) (old new : Outside) (sink : Sent) (status : ℕ) (marks : List ℕ) : Type 0 where
  pub silent : IsSilent sink_tells sink status
  pub unmarked : marks ≡ []
  pub unread : source.after ≡ source.before
  pub unasked : source.faults_after ≡ source.faults_before
  pub same : new ≡ old

-- a call answers, or has no room for an answer
abbrev pub Answered : (source_tells sink_tells array_tells port_tells : Type 0) → List (List ℕ) → Received → Outside → Outside → Sent → ℕ → List ℕ → Type 0
Answered source_tells sink_tells array_tells port_tells words source old new sink status marks =
    Answers source_tells sink_tells array_tells port_tells words source old new sink status marks ⊎ HasNoRoom sink_tells source old new sink status marks

-- the statuses at which nothing is called: bad words, refusals, a failed read, want of memory
abbrev pub is_refusal : ℕ → Bool
is_refusal status = (status == 1) || (status == 2) || (status == 9) || (status == 11)

-- no call failed: no count rose
pub record NoneRose (source : Received) (old new : Outside) (sink : Sent) : Type 0 where
  pub source_faults : Rose source.faults_before source.faults_after → ⊥
  pub sink_faults : Rose sink.faults_before sink.faults_after → ⊥
  pub array_faults : (side : Side) → Rose (old.array.faults side) (new.array.faults side) → ⊥
  pub port_faults : (i : ℕ) (side : Side) → Rose ((old.machine i).faults side) ((new.machine i).faults side) → ⊥

-- a read may have failed
abbrev pub MayFailToRead : (tells : Type 0) → Received → Sent → ℕ → Type 0
MayFailToRead tells source sink status = Rose source.faults_before source.faults_after × IsWritten tells sink status (plain None ReadFault)

-- the call says this, unless a read failed or memory was wanting before
abbrev pub Says : (tells : Type 0) → Received → Sent → ℕ → Said → Type 0
Says tells source sink status said =
    IsWritten tells sink status said ⊎ (MayFailToRead tells source sink status ⊎ LacksMemory tells sink status)

-- the call shows a report that meets this, unless a read failed or memory was wanting before
abbrev pub Shows : (tells : Type 0) → Received → Sent → ℕ → (List ℕ → Type 0) → Type 0
Shows tells source sink status Tells =
    ((report : List ℕ) × Tells report × IsWritten tells sink status (shown report)) ⊎ (MayFailToRead tells source sink status ⊎ LacksMemory tells sink status)

-- the refusal that a verdict gives, if it refuses
abbrev pub decision_refusal : Estate → Decision → Option Said
decision_refusal estate (Refuse refusal) = Some (plain (Some estate) (Refused refusal))
decision_refusal estate _ = None

-- the refusal that is due: of an input with a fault, or of the command
abbrev pub refusal_due : Result Declared DeclaredFault → Outside → Command → Option Said
refusal_due (Ok declared) outside command = decision_refusal declared.estate (decision declared outside command)
refusal_due (Err fault) outside command = Some (plain (fault_estate fault) (fault_answer fault))

-- the words are this command, and the input declares this estate; this is what it comes to
pub record ComesTo (words : List (List ℕ)) (input : List ℕ) (outside : Outside) (estate : Estate) (wanted : Decision) : Type 0 where
  pub command : Command
  pub is_command : IsCommand words command
  pub declared : Declared
  pub declares : Declares input declared
  pub estate_is : declared.estate ≡ estate
  pub decision_is : decision declared outside command ≡ wanted

-- the words and the input ask for a test of this plan, and nothing refuses it
abbrev pub AsksToTest : List (List ℕ) → List ℕ → Outside → Estate → Plan → Type 0
AsksToTest words input outside estate plan = ComesTo words input outside estate (Test plan)

-- what a finished test leaves of all that tells its state
pub record IsTested (array_tells port_tells : Type 0) (estate : Estate) (plan : Plan) (old new : Outside) : Type 0 where
  pub pairs : array_tells → HasOpeningPairs old → AreTestedPairs plan old.array.pair new.array.pair
  pub machines : port_tells → HasOpeningMachines old → AreTestedMachines estate plan old.machine new.machine

-- each pair differs by drift and by its snapshot alone, and each machine by its post at the recovery side alone
pub record KeepsProtected (array_tells port_tells : Type 0) (old new : Outside) : Type 0 where
  pub pairs : array_tells → HasOpeningPairs old → (i : ℕ) → DriftsButSnapshot (old.array.pair i) (new.array.pair i)
  pub machines : port_tells → (i : ℕ) → ChangesAtB (old.machine i) (new.machine i)

-- what isn't the plan's drifted, or is as it was
pub record KeepsOthers (array_tells port_tells : Type 0) (plan : Plan) (old new : Outside) : Type 0 where
  pub pairs : array_tells → HasOpeningPairs old → (i : ℕ) → has plan.pairs i ≡ false → Drift (old.array.pair i) (new.array.pair i)
  pub machines : port_tells → (i : ℕ) → is_planned plan i ≡ false → new.machine i ≡ old.machine i
