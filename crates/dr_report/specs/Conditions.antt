-- What answers must meet that are told: their numbers are the estate's, and none hides another answer.
use Rattle.std.specs.Prelude.{ℕ, ◌≢◌, ◌<◌, List, length, All, Option}
use Rattle.dr_base.specs.declared.answer.Answer.{Answer}
use Rattle.dr_base.specs.declared.answer.Answer.TheVariants as answers
use Rattle.dr_base.specs.declared.answer.Thing.TheVariants as things
use Rattle.dr_base.specs.declared.estate_fault.EstateFault.TheVariants as estate_faults
use Rattle.dr_base.specs.declared.group_fault.GroupFault.TheVariants as group_faults
use Rattle.dr_base.specs.declared.group_state.Phase.{Phase}
use Rattle.dr_base.specs.declared.group_state.Phase.TheVariants.{Ready, Tested, Recovered}
use Rattle.dr_base.specs.declared.plan_fault.PlanFault.TheVariants as plan_faults
use Rattle.dr_base.specs.declared.refusal.Refusal.TheVariants as refusals
use Rattle.dr_base.specs.declared.request_fault.RequestFault.TheVariants as request_faults
use Rattle.dr_inventory.specs.declared.estate.Estate.{Estate}
use Rattle.dr_report.specs.Texts.{machine_names, pair_names, datastore_names, group_names, plan_names}

-- a number that has a name
abbrev pub IsNumberOf : List (List ℕ) → ℕ → Type 0
IsNumberOf names number = number < length names

-- the plan of a group's state is the estate's, unless the group is ready
abbrev pub HoldsPlanOf : Option Estate → Phase → ℕ → Type 0
HoldsPlanOf estate Ready plan = Unit {0}
HoldsPlanOf estate Tested plan = IsNumberOf (plan_names estate) plan
HoldsPlanOf estate Recovered plan = IsNumberOf (plan_names estate) plan

-- the numbers of machines, pairs, datastores, groups and plans that an answer holds are the estate's, which is there where it holds one
abbrev pub HoldsNumbersOf : Option Estate → Answer → Type 0
HoldsNumbersOf estate (answers.Groups (group_faults.NotClosed group inside outside)) = IsNumberOf (group_names estate) group × IsNumberOf (datastore_names estate) inside × IsNumberOf (datastore_names estate) outside
HoldsNumbersOf estate (answers.Groups (group_faults.InTwo datastore first second)) = IsNumberOf (datastore_names estate) datastore × IsNumberOf (group_names estate) first × IsNumberOf (group_names estate) second
HoldsNumbersOf estate (answers.Plan name (plan_faults.BadPriority machine number)) = IsNumberOf (machine_names estate) machine
HoldsNumbersOf estate (answers.Plan name (plan_faults.OtherPriority machine dependency)) = IsNumberOf (machine_names estate) machine × IsNumberOf (machine_names estate) dependency
HoldsNumbersOf estate (answers.Plan name (plan_faults.Cycle machines)) = All (IsNumberOf (machine_names estate)) machines
HoldsNumbersOf estate (answers.Unmapped unmapped) = IsNumberOf (machine_names estate) unmapped.machine
HoldsNumbersOf estate (answers.Refused (refusals.WrongState group state)) = IsNumberOf (group_names estate) group × HoldsPlanOf estate state.phase state.plan
HoldsNumbersOf estate (answers.PortFault machine) = IsNumberOf (machine_names estate) machine
HoldsNumbersOf estate (answers.Foreign (things.Pair pair) wanted found) = IsNumberOf (pair_names estate) pair
HoldsNumbersOf estate (answers.Foreign (things.Machine machine) wanted found) = IsNumberOf (machine_names estate) machine
HoldsNumbersOf estate _ = Unit {0}

-- an answer holds no fault's want of memory and no request's read fault, which are answers of their own
abbrev pub HidesNoAnswer : Answer → Type 0
HidesNoAnswer (answers.Estate fault) = fault ≢ estate_faults.NoMemory
HidesNoAnswer (answers.Groups fault) = fault ≢ group_faults.NoMemory
HidesNoAnswer (answers.Plan name fault) = fault ≢ plan_faults.NoMemory
HidesNoAnswer (answers.Request fault) = (fault ≢ request_faults.ReadFault) × (fault ≢ request_faults.NoMemory)
HidesNoAnswer _ = Unit {0}

-- answers whose text has a bounded length: all but those that hold a path or a list
abbrev pub IsShort : Answer → Type 0
IsShort (answers.Estate (estate_faults.Key path)) = ⊥
IsShort (answers.Estate (estate_faults.BadName path)) = ⊥
IsShort (answers.Plan name (plan_faults.Cycle machines)) = ⊥
IsShort _ = Unit {0}
