-- What every estate that was read keeps, and what calls that take an estate may rely on.
use Rattle.std.specs.Prelude.{ℕ, ◌≡◌, ◌≢◌, ◌≤◌, ◌<◌, IsTrue, List, length, map, flat_map, bytes_eq, nat_eq, All}
use Rattle.std.specs.List.{IsDistinct}
use Rattle.dr_base.specs.Names.{is_name}
use Rattle.dr_base.specs.declared.placement.Kind.TheVariants.{Folder}
use Rattle.dr_inventory.specs.declared.estate.MapRow.{MapRow}
use Rattle.dr_inventory.specs.declared.estate.PlanMachineRow.{PlanMachineRow}
use Rattle.dr_inventory.specs.declared.estate.PlanRow.{PlanRow}
use Rattle.dr_inventory.specs.declared.estate.Estate.{Estate}
use Rattle.dr_inventory.specs.Maps.{map_key}

-- each of these numbers is one of a list of so many rows
abbrev pub AllBelow : ℕ → List ℕ → Type 0
AllBelow count numbers = All (λ k. k < count) numbers

-- no number stands twice
abbrev pub NoneTwice : List ℕ → Type 0
NoneTwice numbers = IsDistinct nat_eq numbers

-- no name stands twice
abbrev pub NoNameTwice : List (List ℕ) → Type 0
NoNameTwice names = IsDistinct bytes_eq names

-- the numbers of an estate lie within its lists, and each device has one consistency entry
pub record HasNumbersWithin (e : Estate) : Type 0 where
  pub machine_datastores : All (λ m. AllBelow (length e.datastores) m.datastores) e.machines
  pub datastore_devices : All (λ d. AllBelow (length e.devices) d.devices) e.datastores
  pub consistency : AllBelow (length e.devices) e.consistency
  pub one_entry_each : length e.consistency ≡ length e.devices
  pub group_datastores : All (λ g. AllBelow (length e.datastores) g.datastores) e.groups

-- what a plan says of a machine keeps the limits
pub record IsPlanMachineWithin (m : PlanMachineRow) : Type 0 where
  pub after : length m.after ≤ 32
  pub before : length m.before ≤ 2
  pub then_list : length m.then ≤ 2

-- a plan keeps the limits
pub record IsPlanWithin (p : PlanRow) : Type 0 where
  pub steps : length p.step ≤ 64
  pub machines : All IsPlanMachineWithin p.machine

-- the lists of an estate keep the limits
pub record IsWithinLimits (e : Estate) : Type 0 where
  pub machines : length e.machines ≤ 2000
  pub devices : length e.devices ≤ 1024
  pub datastores : length e.datastores ≤ 1024
  pub groups : length e.groups ≤ 256
  pub maps : length e.maps ≤ 4096
  pub plans : length e.plans ≤ 64
  pub machine_datastores : All (λ m. length m.datastores ≤ 16) e.machines
  pub datastore_devices : All (λ d. length d.devices ≤ 16) e.datastores
  pub in_plans : All IsPlanWithin e.plans

-- what a map of a kind other than folder leads from and to are single names
pub record HasSingleNames (m : MapRow) : Type 0 where
  pub from : m.kind ≢ Folder → IsTrue (is_name m.from)
  pub to : m.kind ≢ Folder → IsTrue (is_name m.to)

-- no list of what a plan says of a machine names something twice
pub record HasNoneTwiceInMachine (m : PlanMachineRow) : Type 0 where
  pub after : NoNameTwice m.after
  pub before : NoNameTwice m.before
  pub then_list : NoNameTwice m.then

-- a plan speaks of no machine twice
pub record HasNoneTwiceInPlan (p : PlanRow) : Type 0 where
  pub machines : NoNameTwice (map (λ m. m.name) p.machine)
  pub lists : All HasNoneTwiceInMachine p.machine

-- nothing stands twice in an estate that may stand once
pub record HasNoneTwice (e : Estate) : Type 0 where
  pub machines : NoNameTwice (map (λ m. m.name) e.machines)
  pub machine_datastores : All (λ m. NoneTwice m.datastores) e.machines
  pub datastores : NoNameTwice (map (λ d. d.name) e.datastores)
  pub devices : NoNameTwice e.devices
  pub datastore_devices : NoneTwice (flat_map (λ d. d.devices) e.datastores)
  pub groups : NoNameTwice (map (λ g. g.name) e.groups)
  pub group_datastores : All (λ g. NoneTwice g.datastores) e.groups
  pub maps : NoNameTwice (map map_key e.maps)
  pub plans : NoNameTwice (map (λ p. p.name) e.plans)
  pub in_plans : All HasNoneTwiceInPlan e.plans

-- an estate that calls may take
pub record IsSoundEstate (e : Estate) : Type 0 where
  pub numbers : HasNumbersWithin e
  pub limits : IsWithinLimits e
  pub maps : All HasSingleNames e.maps
  pub none_twice : HasNoneTwice e
