-- The runs of a journal's records, and the states of protection groups.
use Rattle.std.specs.Prelude.{ℕ, ◌==◌, Bool, true, false, ◌&&◌, not, List, [], ◌∷◌, Option, Some, None, fold, map, find, slice_get, option_map, if◌then◌else◌}
use Rattle.std.specs.List.{list_any}
use Rattle.dr_base.specs.Sides.{other}
use Rattle.dr_meaning.specs.Types.{Side, Op, Phase, GroupState, Estate, GroupRow, Plan, Stage, StartRow, Record}
use Rattle.dr_base.specs.Lists.{has}
use Rattle.dr_meaning.specs.Stages.{stages}

-- what is in force: an estate and all its plans
pub record Setting : Type 0 where
  pub estate : Estate
  pub plans : List Plan

-- a run as it stood when another took it over: it gets no more records
pub record TakenOver : Type 0 where
  pub start : StartRow
  pub plan : Plan
  pub log : List Record

-- a run, and what was in force when it started
pub record Run : Type 0 where
  pub start : StartRow
  pub estate : Estate
  pub plan : Plan
  -- its old side: the protected side of its groups when it started
  pub old : Side
  -- its records after the Start, newest first
  pub log : List Record
  -- the run that it took over
  pub took : Option TakenOver
  -- the run that took it over, or 0
  pub by : ℕ

-- a run's number
abbrev pub number : Run → ℕ
number run = run.start.run

-- what it does
abbrev pub op : Run → Op
op run = run.start.op

-- its new side: the recovery side when it started
abbrev pub new : Run → Side
new run = other run.old

-- its stages
abbrev pub stages_of : Run → List Stage
stages_of run = stages run.plan run.start.op run.start.forced

-- whether it holds a group: its Start names the group
abbrev pub holds : ℕ → Run → Bool
holds group run = has run.start.groups group

-- whether a record is a Finish
abbrev pub is_finish : Record → Bool
is_finish (Record.Finish run moment machines) = true
is_finish _ = false

-- whether it is finished
abbrev pub is_finished : Run → Bool
is_finished run = list_any is_finish run.log

-- whether it is open: neither finished nor taken over
abbrev pub is_open : Run → Bool
is_open run = not (is_finished run) && (run.by == 0)

-- Group states -------------------------------------------------------------------------------------

-- what a finished run of a plan makes of the state of a group that it holds
abbrev pub finish : Op → ℕ → GroupState → GroupState
finish Op.Testing plan state = record { protected = state.protected; phase = Phase.Tested; plan = plan }
finish Op.Cleanup plan state = record { protected = state.protected; phase = Phase.Ready; plan = 0 }
finish Op.Migrate plan state = record { protected = state.protected; phase = Phase.Recovered; plan = plan }
finish Op.Failover plan state = record { protected = state.protected; phase = Phase.Recovered; plan = plan }
finish Op.Reprotect plan state = record { protected = other state.protected; phase = Phase.Ready; plan = 0 }

-- the side that the estate names, of a group's row
abbrev pub protects : Option GroupRow → Side
protects None = Side.A
protects (Some row) = row.protects

-- the side that the estate names for a group
abbrev pub named_side : Estate → ℕ → Side
named_side estate group = protects (slice_get estate.groups group)

-- a group's state after these runs, newest first: one that isn't finished leaves it as it was
abbrev pub group_state : Estate → ℕ → List Run → GroupState
group_state estate group [] = record { protected = named_side estate group; phase = Phase.Ready; plan = 0 }
group_state estate group (run ∷ earlier) =
    if holds group run && is_finished run
    then finish (op run) run.start.plan (group_state estate group earlier)
    else group_state estate group earlier

-- The runs, one record after another -----------------------------------------------------------------

-- the run that a record belongs to; 0 for an Estate and a Start, which belong to none before them
abbrev pub run_named : Record → ℕ
run_named (Record.Attempt run moment) = run
run_named (Record.Begin run stage) = run
run_named (Record.Done run stage) = run
run_named (Record.Skip run stage machine) = run
run_named (Record.Aside run machine by) = run
run_named (Record.Answer run step text) = run
run_named (Record.Code run token machine code) = run
run_named (Record.Finish run moment machines) = run
run_named (Record.Estate bytes) = 0
run_named (Record.Start row) = 0

-- the run with one more record in its log
abbrev pub with_record : Run → Record → Run
with_record run item = record run { log = item ∷ run.log }

-- the run with this record, if it belongs to it
abbrev pub take_in : Record → Run → Run
take_in item run = if number run == run_named item then with_record run item else run

-- the run, taken over by a Start that names it; the first such Start counts
abbrev pub take_over : StartRow → Run → Run
take_over row run = if (number run == row.over) && (run.by == 0) then record run { by = row.run } else run

-- the run of this number
abbrev pub run_at : ℕ → List Run → Option Run
run_at n runs = find (λ run. number run == n) runs

-- a run as one that is taken over now
abbrev pub as_taken : Run → TakenOver
as_taken run = record { start = run.start; plan = run.plan; log = run.log }

-- the protected side of a plan's first group
abbrev pub protected_side : Setting → List ℕ → List Run → Side
protected_side setting [] runs = Side.A
protected_side setting (group ∷ groups) runs = (group_state setting.estate group runs).protected

-- the runs after a Start of this plan, which begins a new one
abbrev pub begin_run : Setting → StartRow → Option Plan → List Run → List Run
begin_run setting row None runs = runs
begin_run setting row (Some plan) runs =
    record {
      start = row;
      estate = setting.estate;
      plan = plan;
      old = protected_side setting row.groups runs;
      log = [];
      took = option_map as_taken (run_at row.over runs);
      by = 0;
    }
    ∷ map (take_over row) runs

-- the runs after one more record, newest first
abbrev pub add_record : Setting → List Run → Record → List Run
add_record setting runs (Record.Estate bytes) = runs
add_record setting runs (Record.Start row) = begin_run setting row (slice_get setting.plans row.plan) runs
add_record setting runs (Record.Attempt run moment) = map (take_in (Record.Attempt run moment)) runs
add_record setting runs (Record.Begin run k) = map (take_in (Record.Begin run k)) runs
add_record setting runs (Record.Done run k) = map (take_in (Record.Done run k)) runs
add_record setting runs (Record.Skip run k machine) = map (take_in (Record.Skip run k machine)) runs
add_record setting runs (Record.Aside run machine by) = map (take_in (Record.Aside run machine by)) runs
add_record setting runs (Record.Answer run step text) = map (take_in (Record.Answer run step text)) runs
add_record setting runs (Record.Code run token machine code) = map (take_in (Record.Code run token machine code)) runs
add_record setting runs (Record.Finish run moment machines) = map (take_in (Record.Finish run moment machines)) runs

-- the runs of a journal's records, newest first
abbrev pub runs_of : Setting → List Record → List Run
runs_of setting records = fold (add_record setting) [] records

-- the last run that holds the group
abbrev pub last_of_group : ℕ → List Run → Option Run
last_of_group group runs = find (holds group) runs

-- the number of the migration that a failover took over, else the run's own
abbrev pub root_number : Op → StartRow → ℕ
root_number Op.Failover row = if row.over == 0 then row.run else row.over
root_number _ row = row.run

-- a run's root: the number from which the tokens of its commands are made, and which the array is given at a split
abbrev pub root : Run → ℕ
root run = root_number (op run) run.start

-- what a run took over, where it is a failover: that is a migration
abbrev pub migration_of : Op → Option TakenOver → Option TakenOver
migration_of Op.Failover took = took
migration_of _ took = None

-- the migration that a failover took over
abbrev pub migration : Run → Option TakenOver
migration run = migration_of (op run) run.took
