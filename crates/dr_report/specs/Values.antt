-- Which values answers have whose texts tell them apart: numbers fit their types, names are names, and paths have no spaces.
use Rattle.std.specs.Prelude.{ℕ, Bool, ◌≡◌, ◌&&◌, ◌<◌, ◌^◌, nat_le, List, IsTrue, All, Option, FitsSigned}
use Rattle.std.specs.Int.{w64}
use Rattle.std.specs.List.{list_all}
use Rattle.dr_base.specs.Names.{is_name}
use Rattle.dr_base.specs.Paths.{is_path}
use Rattle.dr_base.specs.declared.answer.Answer.{Answer}
use Rattle.dr_base.specs.declared.answer.Answer.TheVariants as answers
use Rattle.dr_base.specs.declared.estate_fault.EstateFault.{EstateFault}
use Rattle.dr_base.specs.declared.estate_fault.EstateFault.TheVariants as estate_faults
use Rattle.dr_base.specs.declared.group_fault.GroupFault.TheVariants as group_faults
use Rattle.dr_base.specs.declared.group_state.Phase.TheVariants.{Ready}
use Rattle.dr_base.specs.declared.plan_fault.PlanFault.{PlanFault}
use Rattle.dr_base.specs.declared.plan_fault.PlanFault.TheVariants as plan_faults
use Rattle.dr_base.specs.declared.refusal.Refusal.{Refusal}
use Rattle.dr_base.specs.declared.refusal.Refusal.TheVariants as refusals
use Rattle.dr_base.specs.declared.request_fault.RequestFault.TheVariants as request_faults
use Rattle.dr_inventory.specs.declared.estate.Estate.{Estate}
use Rattle.dr_report.specs.Texts.{machine_names, pair_names, datastore_names, group_names, plan_names}

-- a name
abbrev pub IsName : List ℕ → Type 0
IsName bytes = IsTrue (is_name bytes)

-- the names of an estate are names
pub record HasNames (estate : Option Estate) : Type 0 where
  pub machines : All IsName (machine_names estate)
  pub pairs : All IsName (pair_names estate)
  pub datastores : All IsName (datastore_names estate)
  pub groups : All IsName (group_names estate)
  pub plans : All IsName (plan_names estate)

-- a byte from '!' to '~'
abbrev pub is_visible : ℕ → Bool
is_visible b = nat_le 33 b && nat_le b 126

-- where something stands in an estate's text: no spaces
abbrev pub IsPlace : List ℕ → Type 0
IsPlace path = IsTrue (list_all is_visible path)

-- a number of 32 bits
abbrev pub IsNumber : ℕ → Type 0
IsNumber n = n < 2 ^ 32

-- a number of 64 bits
abbrev pub IsWide : ℕ → Type 0
IsWide n = n < 2 ^ 64

-- a faulty estate that is told
abbrev pub IsEstateFault : EstateFault → Type 0
IsEstateFault estate_faults.NotToml = Unit {0}
IsEstateFault (estate_faults.Key path) = IsPlace path
IsEstateFault (estate_faults.BadName path) = IsPlace path
IsEstateFault (estate_faults.Twice path) = IsTrue (is_path path)
IsEstateFault (estate_faults.Unknown name) = IsName name
IsEstateFault (estate_faults.DeviceTwice name) = IsName name
IsEstateFault (estate_faults.Limit kind count) = IsWide count
IsEstateFault estate_faults.NoMemory = ⊥

-- a faulty plan that is told
abbrev pub IsPlanFault : PlanFault → Type 0
IsPlanFault (plan_faults.UnknownGroup name) = IsName name
IsPlanFault (plan_faults.GroupTwice name) = IsName name
IsPlanFault (plan_faults.UnknownMachine name) = IsName name
IsPlanFault (plan_faults.BadPriority machine number) = FitsSigned w64 number
IsPlanFault (plan_faults.OtherPriority machine dependency) = Unit {0}
IsPlanFault (plan_faults.Cycle machines) = Unit {0}
IsPlanFault (plan_faults.BadPosition step number) = IsNumber step × FitsSigned w64 number
IsPlanFault plan_faults.NoMemory = ⊥

-- a refused command that is told: a group that is ready was brought there by no plan
abbrev pub IsRefusal : Refusal → Type 0
IsRefusal refusals.NoEstate = Unit {0}
IsRefusal (refusals.UnknownPlan name) = IsName name
IsRefusal (refusals.NotBuilt name) = IsName name
IsRefusal (refusals.UnknownRun id) = IsName id
IsRefusal (refusals.IdTaken run) = IsNumber run
IsRefusal (refusals.TakenOver run by) = IsNumber run × IsNumber by
IsRefusal (refusals.GroupsInUse run) = IsNumber run
IsRefusal (refusals.WrongState group state) = state.phase ≡ Ready → state.plan ≡ 0
IsRefusal (refusals.NotWaiting run stage) = IsNumber run × IsNumber stage
IsRefusal (refusals.NotWalked run stage) = IsNumber run × IsNumber stage
IsRefusal refusals.EstateStands = Unit {0}
IsRefusal (refusals.NotAmended kind name) = IsName name
IsRefusal (refusals.NoSlot kind have need) = IsNumber have × IsNumber need
IsRefusal (refusals.JournalFull length need) = IsWide length × IsWide need

-- an answer that is told: no want of memory of a fault and no read fault of a request, which are answers of their own; a missing method is not told with the method that there is
abbrev pub IsToldAnswer : Answer → Type 0
IsToldAnswer (answers.Done run) = IsNumber run
IsToldAnswer (answers.BadWords place) = IsNumber place
IsToldAnswer (answers.Estate fault) = IsEstateFault fault
IsToldAnswer (answers.Groups group_faults.NoMemory) = ⊥
IsToldAnswer (answers.Plan name fault) = IsName name × IsPlanFault fault
IsToldAnswer (answers.Refused refusal) = IsRefusal refusal
IsToldAnswer (answers.Request (request_faults.H4 method)) = ⊥
IsToldAnswer (answers.Request request_faults.ReadFault) = ⊥
IsToldAnswer (answers.Request request_faults.NoMemory) = ⊥
IsToldAnswer (answers.Waiting run step) = IsNumber run × IsNumber step
IsToldAnswer (answers.Incomplete run machines) = IsNumber run × IsNumber machines
IsToldAnswer (answers.CalloutFault step) = IsNumber step
IsToldAnswer (answers.JournalDamaged offset) = IsWide offset
IsToldAnswer (answers.Foreign object wanted found) = IsNumber wanted × IsNumber found
IsToldAnswer _ = Unit {0}
