-- The stages of each operation, in order.
use Rattle.std.specs.Prelude.{ℕ, ◌+◌, ◌==◌, Bool, true, false, List, [], ◌∷◌, ◌++◌, map, reverse, if◌then◌else◌}
use Rattle.std.specs.List.{flat_map}
use Rattle.dr_meaning.specs.Types.{Op, Callout, Step, Plan, Wave, StageKind, Stage}
use Rattle.dr_plan.specs.Waves.{priorities, waves_at, waves_of}

-- a stage of the array
abbrev pub array_stage : StageKind → Stage
array_stage kind = record { kind = kind; priority = 0; depth = 0; machines = []; step = 0 }

-- a stage that works the machines of a wave
abbrev pub wave_stage : StageKind → Wave → Stage
wave_stage kind wave = record { kind = kind; priority = wave.priority; depth = wave.depth; machines = wave.machines; step = 0 }

-- whether a step runs a command or waits for an answer
abbrev pub step_kind : Callout → StageKind
step_kind (Callout.Command name) = StageKind.Command
step_kind (Callout.Prompt text) = StageKind.Prompt

-- a plan's step, by its number in the plan
abbrev pub step_stage : ℕ → Step → Stage
step_stage number step = record { kind = step_kind step.what; priority = step.before; depth = 0; machines = []; step = number }

-- the steps before one priority, in their order, numbered from the number given
abbrev pub steps_before : ℕ → ℕ → List Step → List Stage
steps_before priority number [] = []
steps_before priority number (step ∷ steps) =
    if step.before == priority
    then step_stage number step ∷ steps_before priority (number + 1) steps
    else steps_before priority (number + 1) steps

-- a priority: the plan's steps before it, and then its machines, those without dependencies first
abbrev pub start_priority : Plan → ℕ → List Stage
start_priority plan priority = steps_before priority 1 plan.steps ++ map (wave_stage StageKind.Start) (waves_at plan.machines priority)

-- start-up, the same for all operations that start machines: the priorities from 1 to 5
abbrev pub start_up : Plan → List Stage
start_up plan = flat_map (start_priority plan) priorities

-- the waves the other way round: the last priority first, and in it the greatest depth
abbrev pub wind_down : StageKind → Plan → List Stage
wind_down kind plan = reverse (map (wave_stage kind) (waves_of plan))

-- replicate, shut down, freeze, replicate again, split, start up
abbrev pub recovery : Plan → List Stage
recovery plan =
    array_stage StageKind.Sync ∷ wind_down StageKind.Stop plan
    ++ array_stage StageKind.Prepare ∷ array_stage StageKind.FinalSync ∷ array_stage StageKind.Split ∷ start_up plan

-- the stages of an operation; a forced failover leaves the old side alone
abbrev pub stages : Plan → Op → Bool → List Stage
stages plan Op.Testing forced = array_stage StageKind.Sync ∷ array_stage StageKind.TestStart ∷ start_up plan
stages plan Op.Cleanup forced = wind_down StageKind.Clear plan ++ array_stage StageKind.TestStop ∷ []
stages plan Op.Migrate forced = recovery plan
stages plan Op.Failover false = recovery plan
stages plan Op.Failover true = array_stage StageKind.Split ∷ start_up plan
stages plan Op.Reprotect forced =
    wind_down StageKind.Clear plan
    ++ array_stage StageKind.Prepare ∷ array_stage StageKind.Reverse ∷ array_stage StageKind.FinalSync ∷ []

-- no stage: what stands where no stage has a number
abbrev pub no_stage : Stage
no_stage = array_stage StageKind.Prompt

-- the stage numbered k, where the first of these is numbered n
abbrev pub stage_from : ℕ → List Stage → ℕ → Stage
stage_from n [] k = no_stage
stage_from n (stage ∷ stages) k = if k == n then stage else stage_from (n + 1) stages k

-- the stage numbered k, from 1
abbrev pub stage_at : List Stage → ℕ → Stage
stage_at stages k = stage_from 1 stages k
