-- How many bytes of the journal a command needs: as much as its records can take at most, with the gate and the length before each.
use Rattle.std.specs.Prelude.{ℕ, ◌+◌, ◌*◌, ◌^◌, ◌<◌, Bool, true, false, List, length, sum_by, Option, Some, None}
use Rattle.dr_meaning.specs.Types.{Op, Callout, Step, PlanMachine, Plan}

-- a plan has fewer than 2 ^ 32 groups, pairs, machines and steps, as each plan that was read has
pub record HasShortLists (plan : Plan) : Type 0 where
  pub groups : length plan.groups < 2 ^ 32
  pub pairs : length plan.pairs < 2 ^ 32
  pub machines : length plan.machines < 2 ^ 32
  pub steps : length plan.steps < 2 ^ 32

-- whether a command is there, as a number
abbrev pub count_some : Option (List ℕ) → ℕ
count_some None = 0
count_some (Some name) = 1

-- how many commands a step runs
abbrev pub count_command : Callout → ℕ
count_command (Callout.Command name) = 1
count_command (Callout.Prompt text) = 0

-- the commands of these steps
abbrev pub step_commands : List Step → ℕ
step_commands steps = sum_by (λ s. count_command s.what) steps

-- the commands of these machines
abbrev pub machine_commands : List PlanMachine → ℕ
machine_commands machines = sum_by (λ m. sum_by count_some m.commands) machines

-- the commands of a plan: those of its steps and of its machines
abbrev pub plan_commands : Plan → ℕ
plan_commands plan = step_commands plan.steps + machine_commands plan.machines

-- the commands that an operation runs: a plan's, where it starts machines
abbrev pub commands_of : Op → Plan → ℕ
commands_of Op.Testing plan = plan_commands plan
commands_of Op.Cleanup plan = 0
commands_of Op.Migrate plan = plan_commands plan
commands_of Op.Failover plan = plan_commands plan
commands_of Op.Reprotect plan = 0

-- room for the Skips and Asides of a failover of so many machines, and for their numbers in its Finish
abbrev pub failover_room : Op → ℕ → ℕ
failover_room Op.Testing machines = 0
failover_room Op.Cleanup machines = 0
failover_room Op.Migrate machines = 0
failover_room Op.Failover machines = 40 * machines + 72
failover_room Op.Reprotect machines = 0

-- a run behind its Start or Attempt: stages, codes, skips and asides, and the Finish
abbrev pub walk_need : Plan → ℕ → Op → ℕ
walk_need plan stages op = 28 * stages + 23 * commands_of op plan + failover_room op (length plan.machines) + 20

-- the body of a run's Start under an id of this length
abbrev pub start_need : Plan → ℕ → ℕ
start_need plan id = 28 + id + 4 * length plan.groups + 21 * length plan.pairs

-- a run that has so many stages: a fresh one with its Start, a resumed one with an Attempt
abbrev pub run_need : Plan → ℕ → Op → (id : ℕ) → (fresh : Bool) → ℕ
run_need plan stages op id true = 5 + start_need plan id + walk_need plan stages op
run_need plan stages op id false = 5 + 13 + walk_need plan stages op

-- the answer to a prompt, by the length of its text
abbrev pub answer_need : ℕ → ℕ
answer_need text = 15 + text

-- the closing of a failover with so many machines left
abbrev pub close_need : ℕ → ℕ
close_need left = 20 + 4 * left

-- the loading of an estate of so many bytes
abbrev pub load_need : ℕ → ℕ
load_need bytes = 6 + bytes
