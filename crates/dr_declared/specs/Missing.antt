-- Machines of protection groups that lack a map where a run may start them.
use Rattle.std.specs.Prelude.{ℕ, ◌≡◌, ◌<◌, ◌≤◌, false, true, nat_lt, if◌then◌else◌, List, Contains, slice_get, Option, Some, None, Result, Ok, Err}
use Rattle.std.specs.Option.{option_or}
use Rattle.dr_base.specs.declared.side.Side.{Side}
use Rattle.dr_base.specs.Sides.{other}
use Rattle.dr_base.specs.declared.placement.Placement.{Placement}
use Rattle.dr_base.specs.declared.placement.Unmapped.{Unmapped}
use Rattle.dr_inventory.specs.declared.estate.GroupRow.{GroupRow}
use Rattle.dr_inventory.specs.declared.estate.Estate.{Estate}
use Rattle.dr_inventory.specs.declared.members.Members.{Members}
use Rattle.dr_mappings.specs.Placements.{place_of}

-- the map that a placement lacks
abbrev pub lacking : Result Placement Unmapped → Option Unmapped
lacking (Ok place) = None
lacking (Err unmapped) = Some unmapped

-- the first map that a machine lacks: at the other side than home, there in a bubble, at home in a bubble
abbrev pub missing : Estate → ℕ → Side → Option Unmapped
missing estate machine home =
    option_or (lacking (place_of estate machine home (other home) false))
    (option_or (lacking (place_of estate machine home (other home) true)) (lacking (place_of estate machine home home true)))

-- this protection group, of which this is the row, holds this machine
pub record IsHeldBy (estate : Estate) (members : Members) (group machine : ℕ) (row : GroupRow) : Type 0 where
  pub found : slice_get estate.groups group ≡ Some row
  pub list : List ℕ
  pub listed : slice_get members.machines group ≡ Some list
  pub held : Contains list machine

-- this is the first map that its machine lacks, which this protection group holds
pub record Lacks (estate : Estate) (members : Members) (group : ℕ) (unmapped : Unmapped) : Type 0 where
  pub row : GroupRow
  pub held : IsHeldBy estate members group unmapped.machine row
  pub told : missing estate unmapped.machine row.protects ≡ Some unmapped

-- each machine of each protection group has its places
abbrev pub AreAllPlaced : Estate → Members → Type 0
AreAllPlaced estate members =
    (group machine : ℕ) (row : GroupRow) → IsHeldBy estate members group machine row → missing estate machine row.protects ≡ None

-- the least machine of a protection group that lacks a map, with the first map that it lacks
pub record IsFirstUnmapped (estate : Estate) (members : Members) (unmapped : Unmapped) : Type 0 where
  pub group : ℕ
  pub lacks : Lacks estate members group unmapped
  pub least_machine : (g : ℕ) (other : Unmapped) → Lacks estate members g other → unmapped.machine ≤ other.machine
  pub least_group : (g : ℕ) (other : Unmapped) → Lacks estate members g other → other.machine ≡ unmapped.machine → group ≤ g

-- of these machines, where the estate names this side, none lacks a map, or this is the first one that does, with the first map that it lacks
abbrev pub IsFirstOfList : Estate → Side → List ℕ → Option Unmapped → Type 0
IsFirstOfList estate home list None = (machine : ℕ) → Contains list machine → missing estate machine home ≡ None
IsFirstOfList estate home list (Some unmapped) =
    Contains list unmapped.machine × (missing estate unmapped.machine home ≡ Some unmapped)
    × ((machine : ℕ) → Contains list machine → machine < unmapped.machine → missing estate machine home ≡ None)

-- the same of a protection group's machines
abbrev pub IsFirstOfGroup : Estate → Members → ℕ → Option Unmapped → Type 0
IsFirstOfGroup estate members group None = (unmapped : Unmapped) → Lacks estate members group unmapped → ⊥
IsFirstOfGroup estate members group (Some unmapped) =
    Lacks estate members group unmapped × ((other : Unmapped) → Lacks estate members group other → unmapped.machine ≤ other.machine)

-- of the groups below this number none holds a machine that lacks a map
abbrev pub NoneBelow : Estate → Members → ℕ → Type 0
NoneBelow estate members count = (group : ℕ) (unmapped : Unmapped) → group < count → Lacks estate members group unmapped → ⊥

-- the same as the least machine of the groups below this number that lacks a map
pub record IsFirstBelow (estate : Estate) (members : Members) (count : ℕ) (unmapped : Unmapped) : Type 0 where
  pub group : ℕ
  pub below : group < count
  pub lacks : Lacks estate members group unmapped
  pub least_machine : (g : ℕ) (other : Unmapped) → g < count → Lacks estate members g other → unmapped.machine ≤ other.machine
  pub least_group : (g : ℕ) (other : Unmapped) → g < count → Lacks estate members g other → other.machine ≡ unmapped.machine → group ≤ g

-- what the groups below this number lack
abbrev pub FirstBelow : Estate → Members → ℕ → Option Unmapped → Type 0
FirstBelow estate members count None = NoneBelow estate members count
FirstBelow estate members count (Some unmapped) = IsFirstBelow estate members count unmapped

-- the one of the lesser machine, and the first where both are of one
abbrev pub lesser : Option Unmapped → Option Unmapped → Option Unmapped
lesser None b = b
lesser (Some a) None = Some a
lesser (Some a) (Some b) = if nat_lt b.machine a.machine then Some b else Some a
