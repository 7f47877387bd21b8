-- What the reading of a row keeps on its way: places of names, marks of machines, and why it stops.
use Rattle.std.specs.Prelude.{ℕ, ℤ, ◌+◌, ◌≡◌, ◌<◌, All, IsTrue, Bool, false, List, [], ◌∷◌, map, length, slice_index_or, Option, Some, None, IfSome, if◌then◌else◌}
use Rattle.std.specs.Ordering.{nat_cmp}
use Rattle.std.specs.Cmp.Lexicographic.{slice_cmp}
use Rattle.std.specs.BTreeMap.{BTreeMap, get}
use Rattle.dr_base.specs.declared.plan_fault.PlanFault.{PlanFault}
use Rattle.dr_base.specs.declared.stop.Stop.{Stop}
use Rattle.dr_base.specs.declared.stop.Stop.TheVariants as stop
use Rattle.dr_inventory.specs.declared.estate.PlanMachineRow.{PlanMachineRow}
use Rattle.dr_inventory.specs.declared.estate.StepRow.{StepRow}
use Rattle.dr_inventory.specs.declared.estate.PlanRow.{PlanRow}
use Rattle.dr_inventory.specs.declared.estate.Estate.{Estate}
use Rattle.dr_inventory.specs.Names.{place}
use Rattle.dr_inventory.specs.declared.members.Members.{Members}
use Rattle.dr_plan.specs.declared.machines.Found.{Found}
use Rattle.dr_plan.specs.Rows.{group_numbers, is_held, is_priority, dependencies}
use Rattle.dr_plan.specs.declared.plan.Plan.{Plan}
use Rattle.dr_plan.specs.Plans.{AreDepths, plan_of}
use Rattle.dr_plan.specs.Faults.{IsFirstOfRow, IsRowValid, unknown_groups, groups_twice, unknown_machines, bad_priorities, other_priorities}

-- the places of these names
abbrev pub IsPlaces : List (List ℕ) → BTreeMap (List ℕ) ℕ → Type 0
IsPlaces names places = (q : List ℕ) → get (slice_cmp nat_cmp) places q ≡ place (λ x. x) names q

-- the names of the machines that the plan speaks of
abbrev pub row_names : PlanRow → List (List ℕ)
row_names row = map (λ m. m.name) row.machine

-- whether this place is marked, if there is one
abbrev pub is_marked_place : List Bool → Option ℕ → Bool
is_marked_place marks None = false
is_marked_place marks (Some k) = slice_index_or marks k false

-- the machines that these groups hold are marked
pub record AreMarks (lists : List (List ℕ)) (groups : List ℕ) (count : ℕ) (marks : List Bool) : Type 0 where
  pub one_each : length marks ≡ count
  pub each : (k : ℕ) → k < count → slice_index_or marks k false ≡ is_held lists groups k

-- the reading stopped for this reason: this is the first fault of the row, or memory ran out
abbrev pub StopsBy : Estate → Members → PlanRow → Stop PlanFault → Type 0
StopsBy estate members row stop.Memory = Unit {0}
StopsBy estate members row (stop.Fault found) = IsFirstOfRow estate members row found

-- each place that is kept is below this number
abbrev pub ArePlacesBelow : ℕ → BTreeMap (List ℕ) ℕ → Type 0
ArePlacesBelow count places = (q : List ℕ) → IfSome (get (slice_cmp nat_cmp) places q) (λ k. k < count)

-- whether a machine of this name is marked
abbrev pub is_marked_name : BTreeMap (List ℕ) ℕ → List Bool → List ℕ → Bool
is_marked_name machines marks n = is_marked_place marks (get (slice_cmp nat_cmp) machines n)

-- a machine's number and its priority, as a fault tells them
abbrev pub number_and_priority : (List ℕ → ℕ) → PlanMachineRow → ℕ × ℤ
number_and_priority number_of m = (number_of m.name, m.priority)

-- a bad step's number and where it stands, where the first step has this number
abbrev pub number_and_position : ℕ → List StepRow → Option (ℕ × ℤ)
number_and_position number [] = None
number_and_position number (step ∷ steps) = if is_priority step.before then number_and_position (number + 1) steps else Some (number, step.before)

-- what was found of a plan's machines
pub record IsFound (estate : Estate) (members : Members) (row : PlanRow) (found : Found) : Type 0 where
  pub marks : AreMarks members.machines (group_numbers estate row) (length estate.machines) found.marks.items
  pub places : IsPlaces (row_names row) found.places
  pub graph : found.graph.items ≡ dependencies estate row

-- the groups of a row are right
pub record AreGroupsRight (estate : Estate) (row : PlanRow) : Type 0 where
  pub known : unknown_groups estate row ≡ []
  pub once : groups_twice row ≡ []

-- the machines of a row are right, and so are their priorities
pub record AreMachinesRight (estate : Estate) (members : Members) (row : PlanRow) : Type 0 where
  pub known : unknown_machines estate members row ≡ []
  pub priorities : bad_priorities estate row ≡ []
  pub same_priorities : other_priorities estate row ≡ []

-- each priority that a row names is 1 to 5
abbrev pub AllPriorities : PlanRow → Type 0
AllPriorities row = All (λ m. IsTrue (is_priority m.priority)) row.machine

-- nothing is wrong with a row, and this is its plan
pub record IsPlanOfRow (estate : Estate) (members : Members) (row : PlanRow) (plan : Plan) : Type 0 where
  pub row_valid : IsRowValid estate members row
  pub depths : List ℕ
  pub are_depths : AreDepths (dependencies estate row) depths
  pub value : plan ≡ plan_of estate members row depths
