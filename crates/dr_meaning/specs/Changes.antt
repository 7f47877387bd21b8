-- What changes of the outside while records come to a journal.
use Rattle.std.specs.Prelude.{◌≡◌, ℕ, ◌+◌, ◌<◌, ◌≤◌, ◌==◌, ◌⊎◌, Bool, true, false, ◌&&◌, ◌||◌, not, List, [], ◌∷◌, ◌++◌, Contains, Option, Some, None, option_map, find, slice_get}
use Rattle.std.specs.List.{list_any, list_all, AllByRecursion}
use Rattle.std.specs.Option.{option_or}
use Rattle.dr_groups.specs.Groups.{IsPairOf, IsMachineOf}
use Rattle.dr_base.specs.Sides.{other}
use Rattle.dr_outside.specs.BySide.{at}
use Rattle.dr_outside.specs.Commands.{HasTokensOnce}
use Rattle.dr_outside.specs.Pairs.{Drift}
use Rattle.dr_meaning.specs.Types.{Side, Op, Callout, Step, PlanMachine, Kept, StageKind, Stage, StartRow, StartPair, Record}
use Rattle.dr_meaning.specs.Testing.{DriftsButSnapshot}
use Rattle.dr_meaning.specs.Worlds.{World}
use Rattle.dr_base.specs.Lists.{has}
use Rattle.dr_meaning.specs.Stages.{stage_at, stages}
use Rattle.dr_meaning.specs.Runs.{Setting, Run, TakenOver, number, op, new, root, migration, holds, run_named, stages_of, is_finished, group_state}
use Rattle.dr_meaning.specs.Lawful.{machine_in_plan, token_of}
use Rattle.dr_meaning.specs.Fits.{pair_row}
use Rattle.dr_meaning.specs.Journals.{Stands}

-- Runs with new records ------------------------------------------------------------------------------------

-- whether a record is one of the run of this number: its Start, or one behind it
abbrev pub is_of_run : ℕ → Record → Bool
is_of_run n (Record.Start row) = row.run == n
is_of_run n (Record.Estate bytes) = false
is_of_run n item = run_named item == n

-- whether a run that holds the group has one of these records
abbrev pub has_new : ℕ → List Record → Run → Bool
has_new group more run = holds group run && list_any (is_of_run (number run)) more

-- whether one of these records is of a run that holds the group
abbrev pub is_touched : ℕ → List Record → List Run → Bool
is_touched group more runs = list_any (has_new group more) runs

-- whether an operation leaves the protected side alone: a test or a cleanup
abbrev pub is_test : Op → Bool
is_test Op.Testing = true
is_test Op.Cleanup = true
is_test Op.Migrate = false
is_test Op.Failover = false
is_test Op.Reprotect = false

-- whether each run that holds the group and has one of these records is a test or a cleanup
abbrev pub is_only_tested : ℕ → List Record → List Run → Bool
is_only_tested group more runs = list_all (λ run. not (has_new group more run) || is_test (op run)) runs

-- Commands ---------------------------------------------------------------------------------------------------

-- whether a record begins this stage
abbrev pub begins : ℕ → Record → Bool
begins stage (Record.Begin run k) = k == stage
begins stage (Record.Estate bytes) = false
begins stage (Record.Start row) = false
begins stage (Record.Attempt run moment) = false
begins stage (Record.Done run k) = false
begins stage (Record.Skip run k machine) = false
begins stage (Record.Aside run machine by) = false
begins stage (Record.Answer run step text) = false
begins stage (Record.Code run token machine code) = false
begins stage (Record.Finish run moment machines) = false

-- a stage that passes the test was begun, by a list of stages and a log
abbrev pub Began : List Stage → List Record → (Stage → Type 0) → Type 0
Began stages log Is = (k : ℕ) × (list_any (begins k) log ≡ true) × Is (stage_at stages k)

-- the same in a run that was taken over
abbrev pub TakenBegan : Option TakenOver → (Stage → Type 0) → Type 0
TakenBegan None Is = ⊥
TakenBegan (Some taken) Is = Began (stages taken.plan taken.start.op taken.start.forced) taken.log Is

-- the same in a run or the migration that it took over
abbrev pub HasBegun : Run → (Stage → Type 0) → Type 0
HasBegun run Is = Began (stages_of run) run.log Is ⊎ TakenBegan (migration run) Is

-- the stage starts this machine
abbrev pub StartsMachine : ℕ → Stage → Type 0
StartsMachine machine stage = (stage.kind ≡ StageKind.Start) × (has stage.machines machine ≡ true)

-- the stage runs the command of this step
abbrev pub RunsStep : ℕ → Stage → Type 0
RunsStep step stage = (stage.kind ≡ StageKind.Command) × (stage.step ≡ step)

-- the commands of a machine, if it is in the plan
abbrev pub all_commands_of : Option PlanMachine → List (Option (List ℕ))
all_commands_of None = []
all_commands_of (Some machine) = machine.commands

-- a code that a machine keeps is of a command of it, in one of these runs, which has begun to start it, itself or in the migration that it took over: under the command's token, with its name, at the run's new side
pub record IsMachineCommand (runs : List Run) (machine : ℕ) (kept : Kept) : Type 0 where
  pub run : Run
  pub listed : Contains runs run
  pub index : ℕ
  pub command : slice_get (all_commands_of (machine_in_plan run.plan machine)) index ≡ Some (Some kept.name)
  pub token : kept.token ≡ token_of (root run) index
  pub side : kept.side ≡ Some (new run)
  pub begun : HasBegun run (StartsMachine machine)

-- the step of this number of a plan, from 1, runs the command of this name
pub record IsCommandStep (steps : List Step) (number : ℕ) (name : List ℕ) : Type 0 where
  pub before : ℕ
  pub place : ℕ
  pub counted : number ≡ place + 1
  pub step : slice_get steps place ≡ Some (record { before = before; what = Callout.Command name })

-- a code that the runner keeps is of a step of one of these runs, which has begun its stage, itself or in the migration that it took over: under the step's token, with its name
pub record IsStepCommand (runs : List Run) (kept : Kept) : Type 0 where
  pub run : Run
  pub listed : Contains runs run
  pub number : ℕ
  pub command : IsCommandStep run.plan.steps number kept.name
  pub token : kept.token ≡ token_of (root run) number
  pub side : kept.side ≡ None
  pub begun : HasBegun run (RunsStep number)

-- a kept list only grows, each new code is so, and none is of a token that was kept
pub record GrowsBy (Is : Kept → Type 0) (old new : List Kept) : Type 0 where
  pub added : List Kept
  pub grows : new ≡ old ++ added
  pub each : AllByRecursion Is added
  pub once : HasTokensOnce old → HasTokensOnce new

-- Writes -------------------------------------------------------------------------------------------------------

-- whether an operation is a reprotect
abbrev pub is_reprotect : Op → Bool
is_reprotect Op.Testing = false
is_reprotect Op.Cleanup = false
is_reprotect Op.Migrate = false
is_reprotect Op.Failover = false
is_reprotect Op.Reprotect = true

-- whether a run is the reprotect of this number, and holds the group
abbrev pub is_reverse : (group run : ℕ) → Run → Bool
is_reverse group n run = (number run == n) && (holds group run && is_reprotect (op run))

-- the Start of the reprotect of the group that a record finishes
abbrev pub reversed_by : ℕ → List Run → Record → Option StartRow
reversed_by group runs (Record.Finish run moment machines) = option_map (λ reprotect. reprotect.start) (find (is_reverse group run) runs)
reversed_by group runs (Record.Estate bytes) = None
reversed_by group runs (Record.Start row) = None
reversed_by group runs (Record.Attempt run moment) = None
reversed_by group runs (Record.Begin run k) = None
reversed_by group runs (Record.Done run k) = None
reversed_by group runs (Record.Skip run k machine) = None
reversed_by group runs (Record.Aside run machine by) = None
reversed_by group runs (Record.Answer run step text) = None
reversed_by group runs (Record.Code run token machine code) = None

-- the Start of the last reprotect of the group that these records finish
abbrev pub last_reverse : ℕ → List Run → List Record → Option StartRow
last_reverse group runs [] = None
last_reverse group runs (item ∷ rest) = option_or (last_reverse group runs rest) (reversed_by group runs item)

-- whether a reprotect of the group isn't finished: it may discard writes
abbrev pub is_reversing : ℕ → List Run → Bool
is_reversing group runs = list_any (λ run. holds group run && (is_reprotect (op run) && not (is_finished run))) runs

-- the writes of the new side that a row gives, or 0 where there is none
abbrev pub new_writes_of : Option StartPair → ℕ
new_writes_of None = 0
new_writes_of (Some row) = row.new_writes

-- the least writes that a pair may have: those that were there, or, since a reprotect discards writes, those that its Start read at its new side
abbrev pub least_of : ℕ → (was : ℕ) → Option StartRow → ℕ
least_of pair was None = was
least_of pair was (Some reprotect) = new_writes_of (pair_row pair reprotect)

-- the same of a side, by what was there before these records and the last reprotect that they finish
abbrev pub least_at : (group pair : ℕ) → List Run → List Record → World → Side → ℕ
least_at group pair runs more old side = least_of pair (at side (old.pair pair).content).writes (last_reverse group runs more)

-- a pair's row in a Start gives at least these writes: at the new side always, at the old side where it was read
pub record ReadsAtLeast (least : Side → ℕ) (old_side : Side) (row : StartPair) : Type 0 where
  pub new_side : least (other old_side) ≤ row.new_writes
  pub old_side_too : row.seen ≡ true → least old_side ≤ row.old_writes

-- What changes -----------------------------------------------------------------------------------------------------

-- what changes while the last records of a journal come, in which these runs stand with them
pub record ChangesWorld (setting : Setting) (runs : List Run) (more : List Record) (old new : World) : Type 0 where
  -- an object of no group that is held by a run with a new record is as it was, a pair but for drift
  pub idle_pairs : (p : ℕ) → ((g : ℕ) → IsPairOf setting.estate g p → is_touched g more runs ≡ false) → Drift (old.pair p) (new.pair p)
  pub idle_posts : (m : ℕ) → ((g : ℕ) → IsMachineOf setting.estate g m → is_touched g more runs ≡ false) → new.post m ≡ old.post m
  -- where all such runs are tests and cleanups, the protected side is as it was, and a pair but for drift and its snapshot
  pub tested_pairs : (g p : ℕ) → IsPairOf setting.estate g p → p < old.pair_count → is_only_tested g more runs ≡ true → DriftsButSnapshot (old.pair p) (new.pair p)
  pub tested_posts : (g m : ℕ) → IsMachineOf setting.estate g m → is_only_tested g more runs ≡ true →
      at (group_state setting.estate g runs).protected (new.post m) ≡ at (group_state setting.estate g runs).protected (old.post m)
  -- it has as many pairs and machines as before
  pub pair_count : new.pair_count ≡ old.pair_count
  pub machine_count : new.machine_count ≡ old.machine_count
  -- kept lists only grow, by commands of runs that have begun them
  pub kept : (m : ℕ) → GrowsBy (IsMachineCommand runs m) (old.kept m) (new.kept m)
  pub runner : GrowsBy (IsStepCommand runs) old.runner new.runner

-- no side of a pair has fewer writes than it had, or than the Start of a reprotect read that was finished since; while one is open, nothing is said
abbrev pub KeepsWrites : Setting → List Run → List Record → World → World → Type 0
KeepsWrites setting runs more old new =
    (g p : ℕ) (side : Side) → IsPairOf setting.estate g p → p < old.pair_count → is_reversing g runs ≡ false →
    least_at g p runs more old side ≤ (at side (new.pair p).content).writes

-- nothing changes but pairs, by drift
pub record OnlyDrifts (old new : World) : Type 0 where
  pub pair_count : new.pair_count ≡ old.pair_count
  pub machine_count : new.machine_count ≡ old.machine_count
  pub pairs : (p : ℕ) → Drift (old.pair p) (new.pair p)
  pub posts : (m : ℕ) → new.post m ≡ old.post m
  pub kept : (m : ℕ) → new.kept m ≡ old.kept m
  pub runner : new.runner ≡ old.runner

-- the outside changed while the last of these records came: as they say, and without any record by drift alone
pub record ChangedBy (records more : List Record) (old new : World) : Type 0 where
  pub by_runs : (setting : Setting) (runs : List Run) → Stands setting records runs → ChangesWorld setting runs more old new
  pub writes : (setting : Setting) (runs : List Run) → Stands setting records runs → KeepsWrites setting runs more old new
  pub empty : records ≡ [] → OnlyDrifts old new
