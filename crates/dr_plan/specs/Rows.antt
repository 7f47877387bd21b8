-- What the row of a plan says, with the estate's numbers in place of names.
use Rattle.std.specs.Prelude.{ℕ, ℤ, pos, negsuc, Bool, false, ◌&&◌, nat_eq, nat_le, List, [], ◌∷◌, map, filter, find, length, slice_get, slice_index_or, bytes_eq, Option, Some, None}
use Rattle.std.specs.List.{list_any, range_with_len}
use Rattle.dr_inventory.specs.declared.estate.PlanMachineRow.{PlanMachineRow}
use Rattle.dr_inventory.specs.declared.estate.PlanRow.{PlanRow}
use Rattle.dr_inventory.specs.declared.estate.Estate.{Estate}
use Rattle.dr_inventory.specs.Names.{place, number}
use Rattle.dr_inventory.specs.declared.members.Members.{Members}

-- the names of the protection groups
abbrev pub group_names : Estate → List (List ℕ)
group_names estate = map (λ g. g.name) estate.groups

-- the names of the machines
abbrev pub machine_names : Estate → List (List ℕ)
machine_names estate = map (λ m. m.name) estate.machines

-- the machine of this name
abbrev pub machine_number : Estate → List ℕ → ℕ
machine_number estate n = number (λ x. x) (machine_names estate) n

-- the plan's groups, in the row's order
abbrev pub group_numbers : Estate → PlanRow → List ℕ
group_numbers estate row = map (number (λ x. x) (group_names estate)) row.groups

-- whether one of these groups holds this number, where each group has its list
abbrev pub is_held : List (List ℕ) → List ℕ → ℕ → Bool
is_held lists groups k = list_any (λ g. list_any (λ held. nat_eq held k) (slice_index_or lists g [])) groups

-- the numbers below `count` that one of these groups holds, ascending
abbrev pub all_held : List (List ℕ) → List ℕ → ℕ → List ℕ
all_held lists groups count = filter (is_held lists groups) (range_with_len 0 count)

-- the machines of the plan's groups, ascending
abbrev pub planned_machines : Estate → Members → PlanRow → List ℕ
planned_machines estate members row = all_held members.machines (group_numbers estate row) (length estate.machines)

-- the pairs of the plan's groups, ascending
abbrev pub planned_pairs : Estate → Members → PlanRow → List ℕ
planned_pairs estate members row = all_held members.pairs (group_numbers estate row) (length estate.devices)

-- whether one of these groups holds the machine of this place, if there is one
abbrev pub is_held_place : List (List ℕ) → List ℕ → Option ℕ → Bool
is_held_place lists groups None = false
is_held_place lists groups (Some k) = is_held lists groups k

-- whether a machine of the plan's groups has this name
abbrev pub is_planned : Estate → Members → PlanRow → List ℕ → Bool
is_planned estate members row n = is_held_place members.machines (group_numbers estate row) (place (λ x. x) (machine_names estate) n)

-- whether this is 1 to 5
abbrev pub is_priority : ℤ → Bool
is_priority (pos n) = nat_le 1 n && nat_le n 5
is_priority (negsuc n) = false

-- a priority as the number that it is
abbrev pub natural : ℤ → ℕ
natural (pos n) = n
natural (negsuc n) = 0

-- what the plan says of the machine of this name
abbrev pub row_of : PlanRow → List ℕ → Option PlanMachineRow
row_of row n = find (λ m. bytes_eq n m.name) row.machine

-- the priority that is wanted, 3 where nothing is said
abbrev pub wanted_priority : Option PlanMachineRow → ℤ
wanted_priority None = pos 3
wanted_priority (Some m) = m.priority

-- the dependencies that are wanted
abbrev pub wanted_after : Option PlanMachineRow → List (List ℕ)
wanted_after None = []
wanted_after (Some m) = m.after

-- the commands that are wanted: two before power-on, then two after it
abbrev pub wanted_commands : Option PlanMachineRow → List (Option (List ℕ))
wanted_commands None = None ∷ None ∷ None ∷ None ∷ []
wanted_commands (Some m) = slice_get m.before 0 ∷ slice_get m.before 1 ∷ slice_get m.then 0 ∷ slice_get m.then 1 ∷ []

-- the priority of the machine of this name
abbrev pub priority_of : PlanRow → List ℕ → ℤ
priority_of row n = wanted_priority (row_of row n)

-- the machines that the one of this name depends on, in the row's order
abbrev pub after_of : Estate → PlanRow → List ℕ → List ℕ
after_of estate row n = map (machine_number estate) (wanted_after (row_of row n))

-- for each machine of the estate those that it depends on by this plan
abbrev pub dependencies : Estate → PlanRow → List (List ℕ)
dependencies estate row = map (after_of estate row) (machine_names estate)
