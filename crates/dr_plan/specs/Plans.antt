-- The plan of a valid row.
use Rattle.std.specs.Prelude.{ℕ, ◌≡◌, List, [], map, length, Some, slice_get, slice_index, slice_index_or}
use Rattle.dr_inventory.specs.declared.estate.StepRow.{StepRow}
use Rattle.dr_inventory.specs.declared.estate.PlanRow.{PlanRow}
use Rattle.dr_inventory.specs.declared.estate.Estate.{Estate}
use Rattle.dr_inventory.specs.declared.members.Members.{Members}
use Rattle.dr_plan.specs.declared.plan.PlanMachine.{PlanMachine}
use Rattle.dr_plan.specs.declared.plan.Step.{Step}
use Rattle.dr_plan.specs.declared.plan.Plan.{Plan}
use Rattle.dr_plan.specs.Rows.{machine_names, group_numbers, planned_machines, planned_pairs, natural, row_of, wanted_commands, priority_of, dependencies}
use Rattle.dr_plan.specs.Faults.{IsRowValid}
use Rattle.dr_plan.specs.Waves.{above, waves_in}

-- Each machine's depth is 0 where it depends on none, else one more than the greatest depth of those that it depends on. The graph has these for each machine.
pub record AreDepths (graph : List (List ℕ)) (depths : List ℕ) : Type 0 where
  pub one_each : length depths ≡ length graph
  pub each : (machine : ℕ) (after : List ℕ) → slice_get graph machine ≡ Some after → slice_index depths machine ≡ above (map (slice_index depths) after)

-- what the plan says of the machine of this name, which has this number, this depth and these dependencies
abbrev pub named_machine : PlanRow → ℕ → ℕ → List ℕ → List ℕ → PlanMachine
named_machine row machine depth after n = record {
  machine = machine;
  priority = natural (priority_of row n);
  depth = depth;
  after = after;
  commands = wanted_commands (row_of row n);
}

-- what the plan says of this machine
abbrev pub plan_machine : Estate → PlanRow → List ℕ → ℕ → PlanMachine
plan_machine estate row depths machine = named_machine row machine (slice_index depths machine) (slice_index_or (dependencies estate row) machine []) (slice_index_or (machine_names estate) machine [])

-- what the plan says of its machines, ascending
abbrev pub plan_machines : Estate → Members → PlanRow → List ℕ → List PlanMachine
plan_machines estate members row depths = map (plan_machine estate row depths) (planned_machines estate members row)

-- a custom step
abbrev pub plan_step : StepRow → Step
plan_step step = record { before = natural step.before; what = step.what }

-- the plan of a row, where machines have these depths
abbrev pub plan_of : Estate → Members → PlanRow → List ℕ → Plan
plan_of estate members row depths = record {
  name = row.name;
  groups = group_numbers estate row;
  pairs = planned_pairs estate members row;
  machines = plan_machines estate members row depths;
  steps = map plan_step row.step;
  wave_count = length (waves_in (plan_machines estate members row depths));
}

-- the plan of this number is valid, and this is it
pub record IsPlanOf (estate : Estate) (members : Members) (number : ℕ) (plan : Plan) : Type 0 where
  pub row : PlanRow
  pub found : slice_get estate.plans number ≡ Some row
  pub row_valid : IsRowValid estate members row
  pub depths : List ℕ
  pub are_depths : AreDepths (dependencies estate row) depths
  pub value : plan ≡ plan_of estate members row depths
