-- No machine runs at the new side before its dependencies, priorities, commands and pairs permit.
use Rattle.std.specs.Prelude.{◌≡◌, ℕ, ◌+◌, ◌<◌, ◌≤◌, ◌==◌, ◌⊎◌, Bool, true, false, IsTrue, List, [], ◌∷◌, Some, option_map, take, is_some}
use Rattle.std.specs.List.{list_any, AllByRecursion}
use Rattle.dr_inventory.specs.declared.estate.Estate.{Estate}
use Rattle.dr_groups.specs.Links.{HasDevice}
use Rattle.dr_groups.specs.Groups.{IsOnDatastore}
use Rattle.dr_outside.specs.BySide.{at}
use Rattle.dr_outside.specs.Commands.{code_of}
use Rattle.dr_meaning.specs.Types.{Op, Link, Pair, Post, Kept, Callout, Step, PlanMachine, Record}
use Rattle.dr_meaning.specs.StartUp.{is_started}
use Rattle.dr_meaning.specs.Worlds.{World}
use Rattle.dr_meaning.specs.Runs.{Run, number, op, new, root, last_of_group}
use Rattle.dr_meaning.specs.Lawful.{token_of, tokens_from, is_answered}

-- whether a machine is ready, in any placement
abbrev pub is_ready : Post → Bool
is_ready (Post.Ready placed) = true
is_ready _ = false

-- whether a record sets this machine aside
abbrev pub is_aside : ℕ → Record → Bool
is_aside machine (Record.Aside run m by) = m == machine
is_aside machine _ = false

-- whether a code is kept for a token
abbrev pub has_code : List Kept → ℕ → Bool
has_code kept token = is_some (code_of kept token)

-- whether an operation starts machines: a test, a migration or a failover
abbrev pub is_start_up : Op → Bool
is_start_up Op.Testing = true
is_start_up Op.Migrate = true
is_start_up Op.Failover = true
is_start_up _ = false

-- whether a machine is ready at a run's new side
abbrev pub is_ready_at_new : World → Run → ℕ → Bool
is_ready_at_new world run machine = is_ready (at (new run) (world.post machine))

-- this pair is one of the datastores of this machine
pub record IsPairOfMachine (estate : Estate) (machine pair : ℕ) : Type 0 where
  pub datastore : ℕ
  pub on : IsOnDatastore estate machine datastore
  pub named : HasDevice estate datastore pair

-- a pair serves a machine that was started: in a test it has the test's snapshot, otherwise it is split
abbrev pub IsServing : Op → (run : ℕ) → Pair → Type 0
IsServing Op.Testing run pair = option_map (λ s. s.run) pair.snapshot ≡ Some run
IsServing _ run pair = pair.link ≡ Link.Split

-- a step is taken: its command is kept by the runner, or its prompt has an Answer
abbrev pub StepTaken : (runner : List Kept) → Run → ℕ → Callout → Type 0
StepTaken runner run number (Callout.Command name) = IsTrue (has_code runner (token_of (root run) number))
StepTaken runner run number (Callout.Prompt text) = IsTrue (is_answered run number)

-- each step before this priority or an earlier one is taken, where the first of these has this number
abbrev pub StepsTaken : (runner : List Kept) → Run → (priority number : ℕ) → List Step → Type 0
StepsTaken runner run priority number [] = Unit {0}
StepsTaken runner run priority number (step ∷ steps) =
    (step.before ≤ priority → StepTaken runner run number step.what) × StepsTaken runner run priority (number + 1) steps

-- a machine of a run's plan may be started at the new side: what it rests on is ready, taken or served
pub record MayRun (world : World) (run : Run) (machine : PlanMachine) : Type 0 where
  -- those that it depends on are ready there
  pub dependencies : AllByRecursion (λ m. IsTrue (is_ready_at_new world run m)) machine.after
  -- each machine of an earlier priority is ready there, or was set aside in the run
  pub priorities :
      AllByRecursion
      (λ m. m.priority < machine.priority → (is_ready_at_new world run m.machine ≡ true) ⊎ (list_any (is_aside m.machine) run.log ≡ true))
      run.plan.machines
  -- its own commands before power-on ran
  pub commands : AllByRecursion (λ t. IsTrue (has_code (world.kept machine.machine) t)) (tokens_from (root run) 0 (take 2 machine.commands))
  -- the plan's steps before it are taken
  pub steps : StepsTaken world.runner run machine.priority 1 run.plan.steps
  -- the pairs of its datastores serve it
  pub serving : (p : ℕ) → IsPairOfMachine run.estate machine.machine p → IsServing (op run) (number run) (world.pair p)

-- each machine of a run's plan that was started at the new side may be so
abbrev pub RunsInOrder : World → Run → Type 0
RunsInOrder world run = AllByRecursion (λ m. is_started (at (new run) (world.post m.machine)) ≡ true → MayRun world run m) run.plan.machines

-- a run is the last one of each of its groups
abbrev pub IsLastOfAll : List Run → Run → Type 0
IsLastOfAll runs run = AllByRecursion (λ group. last_of_group group runs ≡ Some run) run.start.groups

-- The machines of each test, migration and failover that is the last run of all its groups were started in order.
abbrev pub InOrder : World → List Run → Type 0
InOrder world runs =
    (group : ℕ) (run : Run) → last_of_group group runs ≡ Some run → IsLastOfAll runs run → is_start_up (op run) ≡ true → RunsInOrder world run
