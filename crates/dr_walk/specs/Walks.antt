-- A run, and what is kept of it.
use Rattle.std.specs.Prelude.{◌≡◌, ℕ, ◌-◌, ◌<◌, ◌≤◌, ◌==◌, ◌^◌, Bool, false, ◌&&◌, not, List, IfSome, length, map, filter, is_some}
use Rattle.dr_meaning.specs.Types.{Op}
use Rattle.dr_meaning.specs.declared.stage.StageKind.{StageKind}
use Rattle.dr_plan.specs.Orders.{IsOrdered}
use Rattle.dr_meaning.specs.Stages.{stage_at}
use Rattle.dr_meaning.specs.Visits.{last_visit, is_excused, begun}
use Rattle.dr_meaning.specs.Runs.{Run, number, op, stages_of, migration}
use Rattle.dr_meaning.specs.Meaning.{is_wave_of}
use Rattle.dr_meaning.specs.Lawful.{was_answered}
use Rattle.dr_meaning.specs.Reports.{left_machines}
use Rattle.dr_progress.specs.declared.facts.Facts.{Facts}
use Rattle.dr_progress.specs.Facts.{answer_at}
use Rattle.dr_progress.specs.Progress.{asides_in, left_in, Keeps}
use Rattle.dr_walk.specs.declared.walk.Walk.{Walk}

-- the machines of a run's plan
abbrev pub machines_of : Run → List ℕ
machines_of run = map (λ m. m.machine) run.plan.machines

-- whether a machine was set aside in the last visit of a stage, its Start stage
abbrev pub is_set_aside : Run → (stage machine : ℕ) → Bool
is_set_aside run stage machine = is_wave_of StageKind.Start machine (stage_at (stages_of run) stage) && is_excused machine (last_visit stage run.log)

-- Asides are counted: those of a stage's last visit are its machines that were set aside, and those that no Begin followed are the machines that are left
pub record IsCounted (run : Run) : Type 0 where
  pub each : (stage : ℕ) → asides_in stage run.log ≡ length (filter (is_set_aside run stage) (machines_of run))
  pub left : left_in run.log ≡ length (left_machines run)

-- whether the migration that a failover took over has an answer to a step, by what is kept
abbrev pub is_answered_over : Facts → Op → (over step : ℕ) → Bool
is_answered_over facts Op.Failover over step = not (over == 0) && is_some (answer_at facts over step)
is_answered_over facts _ over step = false

-- this is the run, with what is kept of it
pub record IsWalkOf (walk : Walk) (run : Run) : Type 0 where
  pub number : walk.run ≡ number run
  pub op : walk.op ≡ op run
  pub over : walk.over ≡ run.start.over
  pub stages : walk.route.now.stages.items ≡ stages_of run
  pub keeps : Keeps walk.facts.now walk.run walk.progress.now run.log
  pub answered : (step : ℕ) → was_answered step (migration run) ≡ is_answered_over walk.facts.now walk.op walk.over step
  -- as it is of each run of a lawful journal
  pub ordered : IsOrdered run.plan
  pub counted : IsCounted run
  pub within : IfSome (begun run.log) (λ stage. (1 ≤ stage) × (stage ≤ length (stages_of run)))
  pub few : length run.log < 2 ^ 32 - 1
