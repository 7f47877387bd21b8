-- The texts of answers: one line each, in which what the estate numbers goes by its name.
use Rattle.std.specs.Prelude.{ℕ, List, [], ◌∷◌, slice_index_or, map, codes, decimal, Option, Some, None}
use Rattle.std.specs.Fmt.{signed_decimal}
use Rattle.dr_base.specs.declared.side.Side.{Side}
use Rattle.dr_base.specs.declared.side.Side.TheVariants.{A, B}
use Rattle.dr_base.specs.declared.answer.Answer.{Answer}
use Rattle.dr_base.specs.declared.answer.Answer.TheVariants as answers
use Rattle.dr_base.specs.declared.answer.Long.TheVariants.{Line, Session}
use Rattle.dr_base.specs.declared.answer.Thing.TheVariants as things
use Rattle.dr_base.specs.declared.estate_fault.EstateFault.{EstateFault}
use Rattle.dr_base.specs.declared.estate_fault.EstateFault.TheVariants as estate_faults
use Rattle.dr_base.specs.declared.estate_fault.Limit.{Limit}
use Rattle.dr_base.specs.declared.estate_fault.Limit.TheVariants as limits
use Rattle.dr_base.specs.declared.group_fault.GroupFault.{GroupFault}
use Rattle.dr_base.specs.declared.group_fault.GroupFault.TheVariants as group_faults
use Rattle.dr_base.specs.declared.group_state.Phase.{Phase}
use Rattle.dr_base.specs.declared.group_state.Phase.TheVariants.{Ready, Tested, Recovered}
use Rattle.dr_base.specs.declared.placement.Kind.{Kind}
use Rattle.dr_base.specs.declared.placement.Kind.TheVariants as kinds
use Rattle.dr_base.specs.declared.plan_fault.PlanFault.{PlanFault}
use Rattle.dr_base.specs.declared.plan_fault.PlanFault.TheVariants as plan_faults
use Rattle.dr_base.specs.declared.refusal.AmendKind.{AmendKind}
use Rattle.dr_base.specs.declared.refusal.AmendKind.TheVariants as amends
use Rattle.dr_base.specs.declared.refusal.Refusal.{Refusal}
use Rattle.dr_base.specs.declared.refusal.Refusal.TheVariants as refusals
use Rattle.dr_base.specs.declared.refusal.SlotKind.{SlotKind}
use Rattle.dr_base.specs.declared.refusal.SlotKind.TheVariants as slots
use Rattle.dr_base.specs.declared.request_fault.RequestFault.{RequestFault}
use Rattle.dr_base.specs.declared.request_fault.RequestFault.TheVariants as request_faults
use Rattle.dr_inventory.specs.declared.estate.Estate.{Estate}
use Rattle.dr_report.specs.Lines.{told}

-- the names of an estate's machines, by their numbers
abbrev pub machine_names : Option Estate → List (List ℕ)
machine_names None = []
machine_names (Some estate) = map (λ m. m.name) estate.machines

-- the names of its pairs, which go by their devices
abbrev pub pair_names : Option Estate → List (List ℕ)
pair_names None = []
pair_names (Some estate) = estate.devices

-- the names of its datastores
abbrev pub datastore_names : Option Estate → List (List ℕ)
datastore_names None = []
datastore_names (Some estate) = map (λ d. d.name) estate.datastores

-- the names of its protection groups
abbrev pub group_names : Option Estate → List (List ℕ)
group_names None = []
group_names (Some estate) = map (λ g. g.name) estate.groups

-- the names of its plans
abbrev pub plan_names : Option Estate → List (List ℕ)
plan_names None = []
plan_names (Some estate) = map (λ p. p.name) estate.plans

-- the name of a number
abbrev pub name_at : List (List ℕ) → ℕ → List ℕ
name_at names number = slice_index_or names number []

-- a site's letter
abbrev pub side_text : Side → List ℕ
side_text A = codes "A"
side_text B = codes "B"

-- what an estate has too many of
abbrev pub limit_text : Limit → List ℕ
limit_text limits.Bytes = codes "bytes"
limit_text limits.Machines = codes "machines"
limit_text limits.Devices = codes "devices"
limit_text limits.Datastores = codes "datastores"
limit_text limits.Consistency = codes "consistency"
limit_text limits.Groups = codes "groups"
limit_text limits.Maps = codes "maps"
limit_text limits.Plans = codes "plans"
limit_text limits.MachineDatastores = codes "machine-datastores"
limit_text limits.DatastoreDevices = codes "datastore-devices"
limit_text limits.PlanSteps = codes "plan-steps"
limit_text limits.PlanAfter = codes "plan-after"
limit_text limits.PlanBefore = codes "plan-before"
limit_text limits.PlanThen = codes "plan-then"
limit_text limits.PlanSuspend = codes "plan-suspend"

-- what a map maps
abbrev pub kind_text : Kind → List ℕ
kind_text kinds.Network = codes "network"
kind_text kinds.Folder = codes "folder"
kind_text kinds.Pool = codes "pool"
kind_text kinds.Test = codes "test"

-- how far a protection group was brought
abbrev pub phase_text : Phase → List ℕ
phase_text Ready = codes "ready"
phase_text Tested = codes "tested"
phase_text Recovered = codes "recovered"

-- the plan that brought it there, or a dash where it is ready
abbrev pub phase_plan_text : Option Estate → Phase → ℕ → List ℕ
phase_plan_text estate Ready plan = codes "-"
phase_plan_text estate Tested plan = name_at (plan_names estate) plan
phase_plan_text estate Recovered plan = name_at (plan_names estate) plan

-- what a site may have too few of
abbrev pub slot_text : SlotKind → List ℕ
slot_text slots.Machines = codes "machines"
slot_text slots.Pairs = codes "pairs"

-- why an estate can't take the place of the one in force
abbrev pub amend_text : AmendKind → List ℕ
amend_text amends.Order = codes "order"
amend_text amends.Moved = codes "moved"
amend_text amends.Busy = codes "busy"

-- a faulty estate
abbrev pub estate_fault_text : EstateFault → List ℕ
estate_fault_text estate_faults.NotToml = told (codes "2 E1 not toml") []
estate_fault_text (estate_faults.Key path) = told (codes "2 E2 key") (path ∷ [])
estate_fault_text (estate_faults.BadName path) = told (codes "2 E3 bad name") (path ∷ [])
estate_fault_text (estate_faults.Twice name) = told (codes "2 E4 twice") (name ∷ [])
estate_fault_text (estate_faults.Unknown name) = told (codes "2 E5 unknown") (name ∷ [])
estate_fault_text (estate_faults.DeviceTwice name) = told (codes "2 E6 device twice") (name ∷ [])
estate_fault_text (estate_faults.Limit kind count) = told (codes "2 E7 limit") (limit_text kind ∷ decimal count ∷ [])
estate_fault_text estate_faults.NoMemory = []

-- faulty protection groups
abbrev pub group_fault_text : Option Estate → GroupFault → List ℕ
group_fault_text estate (group_faults.NotClosed group inside outside) = told (codes "2 G1 not closed") (name_at (group_names estate) group ∷ name_at (datastore_names estate) inside ∷ name_at (datastore_names estate) outside ∷ [])
group_fault_text estate (group_faults.InTwo datastore first second) = told (codes "2 G2 in two") (name_at (datastore_names estate) datastore ∷ name_at (group_names estate) first ∷ name_at (group_names estate) second ∷ [])
group_fault_text estate group_faults.NoMemory = []

-- a faulty plan of this name
abbrev pub plan_fault_text : Option Estate → List ℕ → PlanFault → List ℕ
plan_fault_text estate plan (plan_faults.UnknownGroup name) = told (codes "2 P1 unknown group") (plan ∷ name ∷ [])
plan_fault_text estate plan (plan_faults.GroupTwice name) = told (codes "2 P2 group twice") (plan ∷ name ∷ [])
plan_fault_text estate plan (plan_faults.UnknownMachine name) = told (codes "2 P3 unknown machine") (plan ∷ name ∷ [])
plan_fault_text estate plan (plan_faults.BadPriority machine number) = told (codes "2 P4 bad priority") (plan ∷ name_at (machine_names estate) machine ∷ signed_decimal number ∷ [])
plan_fault_text estate plan (plan_faults.OtherPriority machine dependency) = told (codes "2 P5 other priority") (plan ∷ name_at (machine_names estate) machine ∷ name_at (machine_names estate) dependency ∷ [])
plan_fault_text estate plan (plan_faults.Cycle machines) = told (codes "2 P6 cycle") (plan ∷ map (name_at (machine_names estate)) machines)
plan_fault_text estate plan (plan_faults.BadPosition step number) = told (codes "2 P7 bad position") (plan ∷ decimal step ∷ signed_decimal number ∷ [])
plan_fault_text estate plan plan_faults.NoMemory = []

-- a refused command
abbrev pub refusal_text : Option Estate → Refusal → List ℕ
refusal_text estate refusals.NoEstate = told (codes "2 N1 no estate") []
refusal_text estate (refusals.UnknownPlan name) = told (codes "2 N2 unknown plan") (name ∷ [])
refusal_text estate (refusals.NotBuilt name) = told (codes "2 N13 not built") (name ∷ [])
refusal_text estate (refusals.UnknownRun id) = told (codes "2 N12 unknown run") (id ∷ [])
refusal_text estate (refusals.IdTaken run) = told (codes "2 N3 id taken run") (decimal run ∷ [])
refusal_text estate (refusals.TakenOver run by) = told (codes "2 N8 taken over run") (decimal run ∷ codes "by" ∷ codes "run" ∷ decimal by ∷ [])
refusal_text estate (refusals.GroupsInUse run) = told (codes "2 N4 groups in use run") (decimal run ∷ [])
refusal_text estate (refusals.WrongState group state) = told (codes "2 N5 wrong state") (name_at (group_names estate) group ∷ codes "protected" ∷ side_text state.protected ∷ phase_text state.phase ∷ phase_plan_text estate state.phase state.plan ∷ [])
refusal_text estate (refusals.NotWaiting run stage) = told (codes "2 N10 not waiting run") (decimal run ∷ codes "stage" ∷ decimal stage ∷ [])
refusal_text estate (refusals.NotWalked run stage) = told (codes "2 N11 not walked run") (decimal run ∷ codes "stage" ∷ decimal stage ∷ [])
refusal_text estate refusals.EstateStands = told (codes "2 N9 estate stands") []
refusal_text estate (refusals.NotAmended kind name) = told (codes "2 N14 not amended") (amend_text kind ∷ name ∷ [])
refusal_text estate (refusals.NoSlot kind have need) = told (codes "2 N6 no slot") (slot_text kind ∷ decimal have ∷ decimal need ∷ [])
refusal_text estate (refusals.JournalFull length need) = told (codes "2 N7 journal full") (decimal length ∷ decimal need ∷ [])

-- a refused request, which isn't told with the method that its target has
abbrev pub request_fault_text : RequestFault → List ℕ
request_fault_text request_faults.H1 = told (codes "2 H1 malformed") []
request_fault_text request_faults.H2 = told (codes "2 H2 too large") []
request_fault_text request_faults.H3 = told (codes "2 H3 no route") []
request_fault_text (request_faults.H4 method) = told (codes "2 H4 no method") []
request_fault_text request_faults.H5 = told (codes "2 H5 bad body") []
request_fault_text request_faults.ReadFault = []
request_fault_text request_faults.NoMemory = []

-- an answer's line; a fault's want of memory, and a request's read fault, are answers of their own
abbrev pub answer_text_of : Option Estate → Answer → List ℕ
answer_text_of estate (answers.Done run) = told (codes "0 done run") (decimal run ∷ [])
answer_text_of estate answers.Loaded = told (codes "0 done estate") []
answer_text_of estate answers.Replied = told (codes "0 done answer") []
answer_text_of estate answers.Shown = told (codes "0 done") []
answer_text_of estate (answers.BadWords place) = told (codes "1 bad words at") (decimal place ∷ [])
answer_text_of estate (answers.Estate fault) = estate_fault_text fault
answer_text_of estate (answers.Groups fault) = group_fault_text estate fault
answer_text_of estate (answers.Plan name fault) = plan_fault_text estate name fault
answer_text_of estate (answers.Unmapped unmapped) = told (codes "2 unmapped") (name_at (machine_names estate) unmapped.machine ∷ kind_text unmapped.kind ∷ side_text unmapped.side ∷ [])
answer_text_of estate (answers.Refused refusal) = refusal_text estate refusal
answer_text_of estate (answers.Request fault) = request_fault_text fault
answer_text_of estate (answers.TooLong Line) = told (codes "2 too long line") []
answer_text_of estate (answers.TooLong Session) = told (codes "2 too long session") []
answer_text_of estate (answers.Waiting run step) = told (codes "3 waiting run") (decimal run ∷ codes "prompt" ∷ decimal step ∷ [])
answer_text_of estate (answers.Incomplete run machines) = told (codes "4 incomplete run") (decimal run ∷ codes "asides" ∷ decimal machines ∷ [])
answer_text_of estate (answers.ArrayFault side) = told (codes "5 array fault") (side_text side ∷ [])
answer_text_of estate (answers.PortFault machine) = told (codes "6 port fault") (name_at (machine_names estate) machine ∷ [])
answer_text_of estate (answers.CalloutFault step) = told (codes "7 callout fault") (decimal step ∷ [])
answer_text_of estate answers.JournalFault = told (codes "8 journal fault") []
answer_text_of estate answers.ReadFault = told (codes "9 read fault") []
answer_text_of estate answers.WriteFault = told (codes "10 write fault") []
answer_text_of estate answers.NoMemory = told (codes "11 no memory") []
answer_text_of estate (answers.JournalDamaged offset) = told (codes "12 journal damaged at") (decimal offset ∷ [])
answer_text_of estate (answers.Foreign (things.Pair pair) wanted found) = told (codes "13 foreign pair") (name_at (pair_names estate) pair ∷ decimal wanted ∷ decimal found ∷ [])
answer_text_of estate (answers.Foreign (things.Machine machine) wanted found) = told (codes "13 foreign machine") (name_at (machine_names estate) machine ∷ decimal wanted ∷ decimal found ∷ [])
