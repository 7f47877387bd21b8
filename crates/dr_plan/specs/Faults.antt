-- What may be wrong with the row of a plan. Each list has all faults of one kind, in the row's order, and is meant where the lists before it are empty.
use Rattle.std.specs.Prelude.{ℕ, ◌+◌, ◌≡◌, ◌≢◌, not, List, [], ◌∷◌, ◌++◌, map, filter, flat_map, Some, slice_get, if◌then◌else◌}
use Rattle.std.specs.Ordering.{int_eq}
use Rattle.dr_base.specs.declared.plan_fault.PlanFault.{PlanFault}
use Rattle.dr_base.specs.declared.plan_fault.PlanFault.TheVariants.{UnknownGroup, GroupTwice, UnknownMachine, BadPriority, OtherPriority, Cycle, BadPosition, NoMemory}
use Rattle.dr_inventory.specs.declared.estate.StepRow.{StepRow}
use Rattle.dr_inventory.specs.declared.estate.PlanMachineRow.{PlanMachineRow}
use Rattle.dr_inventory.specs.declared.estate.PlanRow.{PlanRow}
use Rattle.dr_inventory.specs.declared.estate.Estate.{Estate}
use Rattle.dr_inventory.specs.Names.{first, unknown, twice_in}
use Rattle.dr_inventory.specs.declared.members.Members.{Members}
use Rattle.dr_groups.specs.Marks.{ListsAscending}
use Rattle.dr_plan.specs.Cycles.{IsOnCycle}
use Rattle.dr_plan.specs.Rows.{group_names, machine_number, is_planned, is_priority, priority_of, dependencies}

-- names of no protection group
abbrev pub unknown_groups : Estate → PlanRow → List PlanFault
unknown_groups estate row = map UnknownGroup (unknown (λ x. x) (group_names estate) row.groups)

-- groups that are named before
abbrev pub groups_twice : PlanRow → List PlanFault
groups_twice row = map GroupTwice (twice_in row.groups)

-- the machine that a part of the row speaks of, then those that it depends on
abbrev pub named_machines : PlanMachineRow → List (List ℕ)
named_machines m = m.name ∷ m.after

-- names of no machine of the plan's groups
abbrev pub unknown_machines : Estate → Members → PlanRow → List PlanFault
unknown_machines estate members row = map UnknownMachine (filter (λ n. not (is_planned estate members row n)) (flat_map named_machines row.machine))

-- priorities that aren't 1 to 5
abbrev pub bad_priorities : Estate → PlanRow → List PlanFault
bad_priorities estate row = map (λ m. BadPriority (machine_number estate m.name) m.priority) (filter (λ m. not (is_priority m.priority)) row.machine)

-- a machine beside each of its dependencies that has another priority, by their numbers
abbrev pub other_pairs : (List ℕ → ℕ) → PlanRow → PlanMachineRow → List (ℕ × ℕ)
other_pairs number_of row m = map (λ n. (number_of m.name, number_of n)) (filter (λ n. not (int_eq (priority_of row n) m.priority)) m.after)

-- dependencies on machines of another priority
abbrev pub other_priorities : Estate → PlanRow → List PlanFault
other_priorities estate row = map (λ pair. OtherPriority pair.0 pair.1) (flat_map (other_pairs (machine_number estate) row) row.machine)

-- All that is wrong with the names and the priorities of a row, in order. After a fault of names the numbers are stand-ins, so of such a list only the first is ever told.
abbrev pub name_faults : Estate → Members → PlanRow → List PlanFault
name_faults estate members row = unknown_groups estate row ++ (groups_twice row ++ (unknown_machines estate members row ++ (bad_priorities estate row ++ other_priorities estate row)))

-- steps before a priority that isn't 1 to 5, where the first step has this number
unfoldable pub bad_positions : ℕ → List StepRow → List PlanFault
bad_positions number [] = []
bad_positions number (step ∷ steps) = (if is_priority step.before then [] else BadPosition number step.before ∷ []) ++ bad_positions (number + 1) steps

-- names and priorities are right, and exactly these machines lie on cycles: at least one
pub record IsFirstCycle (estate : Estate) (members : Members) (row : PlanRow) (machines : List ℕ) : Type 0 where
  pub named : name_faults estate members row ≡ []
  pub on_cycles : ListsAscending (IsOnCycle (dependencies estate row)) machines
  pub some : machines ≢ []

-- all but the steps is right, and this is the first fault of these
pub record IsFirstPosition (estate : Estate) (members : Members) (row : PlanRow) (fault : PlanFault) : Type 0 where
  pub named : name_faults estate members row ≡ []
  pub no_cycle : (machine : ℕ) → ¬ IsOnCycle (dependencies estate row) machine
  pub told : first (bad_positions 1 row.step) ≡ Some fault

-- what is wrong with a row, first of all: names and priorities, then cycles, then steps. Want of memory is no fault of it.
abbrev pub IsFirstOfRow : Estate → Members → PlanRow → PlanFault → Type 0
IsFirstOfRow estate members row (Cycle machines) = IsFirstCycle estate members row machines
IsFirstOfRow estate members row (BadPosition step number) = IsFirstPosition estate members row (BadPosition step number)
IsFirstOfRow estate members row NoMemory = ⊥
IsFirstOfRow estate members row fault = first (name_faults estate members row) ≡ Some fault

-- this is the first of all that is wrong with the plan of this number
pub record IsFirstFault (estate : Estate) (members : Members) (number : ℕ) (fault : PlanFault) : Type 0 where
  pub row : PlanRow
  pub found : slice_get estate.plans number ≡ Some row
  pub first_of_row : IsFirstOfRow estate members row fault

-- nothing is wrong with a row
pub record IsRowValid (estate : Estate) (members : Members) (row : PlanRow) : Type 0 where
  pub named : name_faults estate members row ≡ []
  pub no_cycle : (machine : ℕ) → ¬ IsOnCycle (dependencies estate row) machine
  pub positions : bad_positions 1 row.step ≡ []

-- nothing is wrong with the plan of this number
pub record IsValid (estate : Estate) (members : Members) (number : ℕ) : Type 0 where
  pub row : PlanRow
  pub found : slice_get estate.plans number ≡ Some row
  pub row_valid : IsRowValid estate members row
