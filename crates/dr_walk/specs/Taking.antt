-- Which record of a run may come, by the run that it belongs to.
use Rattle.std.specs.Prelude.{◌≡◌, ℕ, ◌==◌, false, IsTrue, List, Some, find}
use Rattle.std.specs.List.{AllByRecursion}
use Rattle.dr_meaning.specs.Types.{Record}
use Rattle.dr_meaning.specs.declared.stage.StageKind.{StageKind}
use Rattle.dr_base.specs.Lists.{has}
use Rattle.dr_meaning.specs.Stages.{stage_at}
use Rattle.dr_meaning.specs.Visits.{is_excused, last_visit}
use Rattle.dr_meaning.specs.Runs.{Run, stages_of}
use Rattle.dr_meaning.specs.Meaning.{is_left}
use Rattle.dr_meaning.specs.Next.{next_stage}
use Rattle.dr_meaning.specs.Lawful.{is_answered, is_coded, tokens, MayBegin, MayDone, MaySkip, MaySetAside, MayAnswer, MayCode, MayFinish}

-- a machine of a run is left, or has the codes of its commands
abbrev pub HasMachineCodes : Run → ℕ → Type 0
HasMachineCodes run machine = is_left run machine ≡ false → AllByRecursion (λ t. IsTrue (is_coded run t machine)) (tokens run machine)

-- a machine is one of a Start stage that doesn't excuse it yet
pub record MayExcuse (run : Run) (stage machine : ℕ) : Type 0 where
  pub start : (stage_at (stages_of run) stage).kind ≡ StageKind.Start
  pub in_wave : IsTrue (has (stage_at (stages_of run) stage).machines machine)
  pub once : is_excused machine (last_visit stage run.log) ≡ false

-- a stage is a prompt of this step
pub record IsPromptOf (run : Run) (stage step : ℕ) : Type 0 where
  pub prompt : (stage_at (stages_of run) stage).kind ≡ StageKind.Prompt
  pub of_step : (stage_at (stages_of run) stage).step ≡ step

-- a run's next stage is this prompt of this step, and the step has no Answer
pub record IsUnanswered (run : Run) (step stage : ℕ) : Type 0 where
  pub next : next_stage run ≡ Some stage
  pub prompt : IsPromptOf run stage step
  pub unanswered : is_answered run step ≡ false

-- a run is the last of its plan
abbrev pub IsLastOfPlan : List Run → Run → Type 0
IsLastOfPlan runs run = find (λ r. r.start.plan == run.start.plan) runs ≡ Some run

-- a record may come to this one of these runs, if that is open; an Estate and a Start belong to none
abbrev pub MayTake : List Run → Run → Record → Type 0
MayTake runs run (Record.Estate bytes) = ⊥
MayTake runs run (Record.Start row) = ⊥
MayTake runs run (Record.Attempt n moment) = Unit {0}
MayTake runs run (Record.Begin n stage) = MayBegin run stage
MayTake runs run (Record.Done n stage) = MayDone run stage
MayTake runs run (Record.Skip n stage machine) = MaySkip run stage machine
MayTake runs run (Record.Aside n machine by) = (stage : ℕ) × MaySetAside run machine by stage
MayTake runs run (Record.Answer n step text) = (stage : ℕ) × MayAnswer runs run step stage
MayTake runs run (Record.Code n token machine code) = (stage : ℕ) × MayCode run token machine stage
MayTake runs run (Record.Finish n moment machines) = MayFinish run machines
