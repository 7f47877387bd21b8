-- Which record of a run may come, by the run that it belongs to.
use Rattle.std.specs.Prelude.{◌≡◌, ℕ, Bool, true, false, IsTrue, List}
use Rattle.std.specs.List.{AllByRecursion}
use Rattle.dr_meaning.specs.Types.{Record}
use Rattle.dr_meaning.specs.declared.stage.StageKind.{StageKind}
use Rattle.dr_base.specs.Lists.{has}
use Rattle.dr_meaning.specs.Stages.{stage_at}
use Rattle.dr_meaning.specs.Visits.{is_excused, last_visit}
use Rattle.dr_meaning.specs.Runs.{Run, stages_of}
use Rattle.dr_meaning.specs.Meaning.{is_left}
use Rattle.dr_meaning.specs.Lawful.{is_coded, tokens, MayBegin, MayDone, MaySkip, MaySetAside, MayAnswer, MayCode, MayFinish}

-- whether a record is a Start
abbrev pub is_start : Record → Bool
is_start (Record.Start row) = true
is_start _ = false

-- a machine of a run is left, or has the codes of its commands
abbrev pub HasMachineCodes : Run → ℕ → Type 0
HasMachineCodes run machine = is_left run machine ≡ false → AllByRecursion (λ t. IsTrue (is_coded run t machine)) (tokens run machine)

-- a machine is one of a Start stage that doesn't excuse it yet
pub record MayExcuse (run : Run) (stage machine : ℕ) : Type 0 where
  pub start : (stage_at (stages_of run) stage).kind ≡ StageKind.Start
  pub in_wave : IsTrue (has (stage_at (stages_of run) stage).machines machine)
  pub once : is_excused machine (last_visit stage run.log) ≡ false

-- a stage is a prompt of this step
pub record IsPromptOf (run : Run) (stage step : ℕ) : Type 0 where
  pub prompt : (stage_at (stages_of run) stage).kind ≡ StageKind.Prompt
  pub of_step : (stage_at (stages_of run) stage).step ≡ step

-- these machines have one, if that is left
abbrev pub NamesIfLeft : Run → (machines : List ℕ) → (machine : ℕ) → Type 0
NamesIfLeft run machines machine = is_left run machine ≡ true → IsTrue (has machines machine)

-- a record may come to this one of these runs, if that is open; an Estate and a Start belong to none
abbrev pub MayTake : List Run → Run → Record → Type 0
MayTake runs run (Record.Estate bytes) = ⊥
MayTake runs run (Record.Start row) = ⊥
MayTake runs run (Record.Attempt n moment) = Unit {0}
MayTake runs run (Record.Begin n stage) = MayBegin run stage
MayTake runs run (Record.Done n stage) = MayDone run stage
MayTake runs run (Record.Skip n stage machine) = MaySkip run stage machine
MayTake runs run (Record.Aside n machine by) = (stage : ℕ) × MaySetAside run machine by stage
MayTake runs run (Record.Answer n step text) = (stage : ℕ) × MayAnswer runs run step stage
MayTake runs run (Record.Code n token machine code) = (stage : ℕ) × MayCode run token machine stage
MayTake runs run (Record.Finish n moment machines) = MayFinish run machines
