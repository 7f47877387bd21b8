-- The first of all that is wrong with the bytes of an estate: with the estate by its own rules, with its protection groups, its plans, its maps.
use Rattle.std.specs.Prelude.{ℕ, ◌≡◌, ◌≢◌, ◌<◌, List, length, Some, slice_get, All, Result, Ok, Err}
use Rattle.dr_base.specs.declared.estate_fault.EstateFault.{EstateFault}
use Rattle.dr_base.specs.declared.estate_fault.EstateFault.TheVariants.{NoMemory as NoMemoryForEstate}
use Rattle.dr_base.specs.declared.group_fault.GroupFault.{GroupFault}
use Rattle.dr_base.specs.declared.group_fault.GroupFault.TheVariants.{NotClosed, InTwo, NoMemory as NoMemoryForGroups}
use Rattle.dr_base.specs.declared.plan_fault.PlanFault.{PlanFault}
use Rattle.dr_base.specs.declared.plan_fault.PlanFault.TheVariants.{BadPriority, OtherPriority, Cycle, NoMemory as NoMemoryForPlan}
use Rattle.dr_base.specs.declared.placement.Unmapped.{Unmapped}
use Rattle.dr_inventory.specs.declared.estate.PlanRow.{PlanRow}
use Rattle.dr_inventory.specs.declared.estate.Estate.{Estate}
use Rattle.dr_inventory.specs.declared.members.Members.{Members}
use Rattle.dr_inventory.specs.Estates.{IsEstateText, IsTextFault}
use Rattle.dr_groups.specs.Groups.{Passes, AreMembersOf, IsFirstFault as IsFirstGroupFault}
use Rattle.dr_plan.specs.Faults.{IsFirstFault as IsFirstOfPlan, IsValid}
use Rattle.dr_declared.specs.declared.contents.Declared.{Declared}
use Rattle.dr_declared.specs.declared.contents.ProtectionFault.{ProtectionFault}
use Rattle.dr_declared.specs.declared.contents.ProtectionFault.TheVariants.{Groups as OfGroups, Plan as OfPlan, Unmapped as OfMaps}
use Rattle.dr_declared.specs.declared.contents.DeclaredFault.{DeclaredFault}
use Rattle.dr_declared.specs.declared.contents.DeclaredFault.TheVariants.{Estate as OfEstate, Protection as OfProtection, NoMemory}
use Rattle.dr_base.specs.declared.stop.Stop.{Stop}
use Rattle.dr_base.specs.declared.stop.Stop.TheVariants.{Fault, Memory}
use Rattle.dr_declared.specs.Contents.{Declares}
use Rattle.dr_declared.specs.Missing.{IsFirstUnmapped}

-- this is the first of all that is wrong with the protection groups
pub record IsFirstOfGroups (estate : Estate) (fault : GroupFault) : Type 0 where
  pub is_first : IsFirstGroupFault estate fault
  pub is_fault : fault ≢ NoMemoryForGroups

-- the first of all that is wrong with the plan of this number, with its name
pub record IsFaultyPlan (estate : Estate) (members : Members) (number : ℕ) (name : List ℕ) (fault : PlanFault) : Type 0 where
  pub row : PlanRow
  pub found : slice_get estate.plans number ≡ Some row
  pub named : name ≡ row.name
  pub is_first : IsFirstOfPlan estate members number fault

-- the first of all that is wrong with the plans of an estate: in the first plan that isn't valid, with its name
pub record IsFirstOfPlans (estate : Estate) (members : Members) (name : List ℕ) (fault : PlanFault) : Type 0 where
  pub number : ℕ
  pub faulty : IsFaultyPlan estate members number name fault
  pub before : (earlier : ℕ) → earlier < number → IsValid estate members earlier

-- all plans are valid, and this is the first map that is missing
pub record IsFirstOfMaps (estate : Estate) (members : Members) (unmapped : Unmapped) : Type 0 where
  pub valid : (number : ℕ) → number < length estate.plans → IsValid estate members number
  pub is_first : IsFirstUnmapped estate members unmapped

-- groups are right, and with what they hold a plan is faulty, or a map is missing
pub record IsBehindGroups (estate : Estate) (IsFirst : Members → Type 0) : Type 0 where
  pub passes : Passes estate
  pub members : Members
  pub are_members : AreMembersOf estate members
  pub is_first : IsFirst members

-- the first of all that is wrong with the protection of an estate: with its groups, its plans, its maps
abbrev pub IsProtectionFaultOf : Estate → ProtectionFault → Type 0
IsProtectionFaultOf estate (OfGroups fault) = IsFirstOfGroups estate fault
IsProtectionFaultOf estate (OfPlan name fault) = IsBehindGroups estate (λ members. IsFirstOfPlans estate members name fault)
IsProtectionFaultOf estate (OfMaps unmapped) = IsBehindGroups estate (λ members. IsFirstOfMaps estate members unmapped)

-- the first of all that is wrong with bytes: they are no estate's text, or with the protection of their estate. Want of memory is no fault of theirs.
abbrev pub IsFirstFaultOf : List ℕ → DeclaredFault → Type 0
IsFirstFaultOf bytes (OfEstate fault) = IsTextFault bytes fault × (fault ≢ NoMemoryForEstate)
IsFirstFaultOf bytes (OfProtection estate fault) = IsEstateText bytes estate × IsProtectionFaultOf estate fault
IsFirstFaultOf bytes NoMemory = ⊥

-- what bytes declare, or the first of all that is wrong with them
abbrev pub IsReading : List ℕ → Result Declared DeclaredFault → Type 0
IsReading bytes (Ok declared) = Declares bytes declared
IsReading bytes (Err fault) = IsFirstFaultOf bytes fault

-- the numbers of protection groups, datastores and machines that a fault tells are the estate's
abbrev pub HoldsNumbers : Estate → ProtectionFault → Type 0
HoldsNumbers estate (OfGroups (NotClosed group inside outside)) = (group < length estate.groups) × (inside < length estate.datastores) × (outside < length estate.datastores)
HoldsNumbers estate (OfGroups (InTwo datastore first second)) = (datastore < length estate.datastores) × (first < length estate.groups) × (second < length estate.groups)
HoldsNumbers estate (OfPlan name (BadPriority machine priority)) = machine < length estate.machines
HoldsNumbers estate (OfPlan name (OtherPriority machine dependency)) = (machine < length estate.machines) × (dependency < length estate.machines)
HoldsNumbers estate (OfPlan name (Cycle machines)) = All (λ m. m < length estate.machines) machines
HoldsNumbers estate (OfMaps unmapped) = unmapped.machine < length estate.machines
HoldsNumbers estate _ = Unit {0}

-- What the steps of the reading answer ----------------------------------------------------------------

-- why the protection of an estate wasn't read: its first fault, or want of memory
abbrev pub ReadError : Type 0
ReadError = Stop ProtectionFault

-- why something wasn't read: a fault that is so, or want of memory
abbrev pub UnlessMemory : (ProtectionFault → Type 0) → ReadError → Type 0
UnlessMemory IsSo (Fault fault) = IsSo fault
UnlessMemory IsSo Memory = Unit {0}

-- the first fault of the plan of this number
abbrev pub IsFaultOfPlan : Estate → Members → ℕ → ProtectionFault → Type 0
IsFaultOfPlan estate members number (OfPlan name fault) = IsFaultyPlan estate members number name fault
IsFaultOfPlan estate members number _ = ⊥

-- why what protection groups hold isn't known
abbrev pub groups_error : GroupFault → ReadError
groups_error NoMemoryForGroups = Memory
groups_error fault = Fault (OfGroups fault)

-- why the plan of this name wasn't read
abbrev pub plan_error : List ℕ → PlanFault → ReadError
plan_error name NoMemoryForPlan = Memory
plan_error name fault = Fault (OfPlan name fault)

-- why bytes are no estate
abbrev pub estate_fault : EstateFault → DeclaredFault
estate_fault NoMemoryForEstate = NoMemory
estate_fault fault = OfEstate fault

-- why the protection of this estate wasn't read
abbrev pub protection_fault : Estate → ReadError → DeclaredFault
protection_fault estate (Fault fault) = OfProtection estate fault
protection_fault estate Memory = NoMemory
