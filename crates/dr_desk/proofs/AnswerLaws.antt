-- What each answer may tell, and what it comes to.
use Rattle.std.proofs.Common.{◌≡◌, ◌≢◌, ℕ, ◌<◌, inl, inr, true, false, List, length, refl, sym, ◌∙◌, ap, subst, arith, get_or}
use Rattle.std.proofs.lemmas.Bool.{lt-ltb, le-ltb, eqb-true}
use Rattle.std.proofs.lemmas.List.{length-map}
use Rattle.std.proofs.lemmas.List.Folds.{Any-from_list_any}
use Rattle.std.specs.Prelude.{◌==◌, slice_index}
use Rattle.std.specs.Prelude.{Some, nat_lt}
use Rattle.dr_base.specs.declared.answer.Answer.{Answer}
use Rattle.dr_base.specs.declared.answer.Answer.TheVariants.{Done, Refused, ArrayFault, PortFault, NoMemory, Foreign, Groups as GroupsAnswer, Plan as PlanAnswer}
use Rattle.dr_base.specs.declared.answer.Thing.TheVariants.{Pair as PairThing, Machine as MachineThing}
use Rattle.dr_base.specs.declared.refusal.Refusal.{Refusal}
use Rattle.dr_base.specs.declared.refusal.Refusal.TheVariants.{UnknownPlan, NotBuilt, NoSlot}
use Rattle.dr_base.specs.declared.refusal.SlotKind.TheVariants.{Machines, Pairs}
use Rattle.dr_base.specs.declared.group_fault.GroupFault.{GroupFault}
use Rattle.dr_base.specs.declared.group_fault.GroupFault.TheVariants.{NotClosed, InTwo, NoMemory as NoMemoryForGroups}
use Rattle.dr_base.specs.declared.plan_fault.PlanFault.{PlanFault}
use Rattle.dr_base.specs.declared.plan_fault.PlanFault.TheVariants as plan_faults
use Rattle.dr_inventory.specs.declared.estate.Machine.{Machine}
use Rattle.dr_inventory.specs.declared.estate.Datastore.{Datastore}
use Rattle.dr_inventory.specs.declared.estate.GroupRow.{GroupRow}
use Rattle.dr_inventory.specs.declared.estate.Estate.{Estate}
use Rattle.dr_plan.specs.declared.plan.PlanMachine.{PlanMachine}
use Rattle.dr_plan.specs.declared.plan.Plan.{Plan}
use Rattle.dr_base.specs.Lists.{has}
use Rattle.dr_outside.proofs.Listed.{place_of}
use Rattle.dr_testing.specs.Placing.{is_planned}
use Rattle.dr_testing.specs.Tests.{Outside, CallsNothing, HasSlots, IsTestable, TestCause, RunCause}
use Rattle.dr_inventory.specs.Sound.{IsSoundEstate}
use Rattle.dr_plan.specs.Faults.{IsFirstOfRow}
use Rattle.dr_declared.specs.declared.contents.ProtectionFault.{ProtectionFault}
use Rattle.dr_declared.specs.declared.contents.ProtectionFault.TheVariants.{Groups as OfGroups, Plan as OfPlan, Unmapped as OfMaps}
use Rattle.dr_declared.specs.declared.contents.DeclaredFault.{DeclaredFault}
use Rattle.dr_declared.specs.declared.contents.DeclaredFault.TheVariants as faults
use Rattle.dr_declared.specs.Faults.{HoldsNumbers, IsFirstFaultOf, IsProtectionFaultOf}
use Rattle.dr_declared.proofs.UniqueLaws.{fault_numbers, text_sound}
use Rattle.dr_report.specs.Conditions.{HidesNoAnswer, HoldsNumbersOf, IsShort}
use Rattle.dr_base.specs.declared.answer.Thing.{Thing}
use Rattle.dr_desk.specs.Calls.{Said, OrLacked, DecisionCause, IsTestOutcome, plain}
use Rattle.dr_desk.specs.Faults.{fault_answer, fault_estate, protection_answer}
use Rattle.dr_desk.specs.Decisions.{slots_decision, IsPlainRefusal, Test}

-- an answer that may be told, and whose text always finds room
pub record IsTellable (estate : Estate) (answer : Answer) : Type 0 where
  pub numbers : HoldsNumbersOf (Some estate) answer
  pub plain_answer : HidesNoAnswer answer
  pub short : IsShort answer

-- a machine of a plan is the estate's
planned_within : (estate : Estate) (plan : Plan) (machine : ℕ) → IsTestable estate plan → is_planned plan machine ≡ true → machine < length estate.machines
planned_within estate plan machine t is =
    let found = Any-from_list_any (λ (m : PlanMachine). m.machine == machine) plan.machines is in
    let number : found.1.machine ≡ machine = eqb-true found.1.machine machine found.4 in
    let within : (get_or plan.machines found.0 found.1).machine < length estate.machines = t.machines found.0 found.1 found.2 in
    omega (arith, number, ap (λ (m : PlanMachine). m.machine) found.3, within)

-- a pair of a plan is the estate's
listed_within : (estate : Estate) (plan : Plan) (pair : ℕ) → IsTestable estate plan → has plan.pairs pair ≡ true → pair < length estate.devices
listed_within estate plan pair t is =
    let found = place_of plan.pairs pair is in
    let within : slice_index plan.pairs found.0 < length estate.devices = t.pairs.below found.0 found.1 in
    omega (arith, found.2, within)

-- each answer of a test may be told
pub test_tells : (array_tells port_tells : Type 0) (estate : Estate) (plan : Plan) (old new : Outside) (answer : Answer) → IsTestable estate plan → TestCause array_tells port_tells estate plan old new answer → IsTellable estate answer
test_tells array_tells port_tells estate plan old new (Refused (NoSlot Machines have need)) t cause = record { numbers = tt; plain_answer = tt; short = tt }
test_tells array_tells port_tells estate plan old new (Refused (NoSlot Pairs have need)) t cause = record { numbers = tt; plain_answer = tt; short = tt }
test_tells array_tells port_tells estate plan old new NoMemory t cause = record { numbers = tt; plain_answer = tt; short = tt }
test_tells array_tells port_tells estate plan old new (Done run) t cause = record { numbers = tt; plain_answer = tt; short = tt }
test_tells array_tells port_tells estate plan old new (ArrayFault side) t cause = record { numbers = tt; plain_answer = tt; short = tt }
test_tells array_tells port_tells estate plan old new (PortFault machine) t cause = record { numbers = omega (arith, length-map estate.machines (λ (m : Machine). m.name), planned_within estate plan machine t cause.1.planned); plain_answer = tt; short = tt }
test_tells array_tells port_tells estate plan old new (Foreign (PairThing pair) wanted found) t cause = record { numbers = listed_within estate plan pair t cause.1.0.refused.listed; plain_answer = tt; short = tt }
test_tells array_tells port_tells estate plan old new (Foreign (MachineThing machine) wanted found) t cause = record { numbers = omega (arith, length-map estate.machines (λ (m : Machine). m.name), planned_within estate plan machine t cause.1.planned); plain_answer = tt; short = tt }
test_tells array_tells port_tells estate plan old new answer t cause = absurd cause.1

-- a test's answer, by what it came to
module _ (array_tells port_tells : Type 0) (estate : Estate) (plan : Plan) (old new : Outside) where
  -- the site has room
  room_decision : HasSlots estate old → slots_decision estate plan old ≡ Test plan
  room_decision slots =
      let machines : nat_lt old.slots (length estate.machines) ≡ false = le-ltb old.slots (length estate.machines) slots.machines in
      let pairs : nat_lt old.array.count (length estate.devices) ≡ false = le-ltb old.array.count (length estate.devices) slots.pairs in
      rw (machines, pairs) refl

  -- an answer of a test that called the array
  called : (said : Said) → HasSlots estate old → IsTestOutcome array_tells port_tells estate plan old new said → DecisionCause array_tells port_tells estate (slots_decision estate plan old) old new said
  called said slots is = subst (λ v. DecisionCause array_tells port_tells estate v old new said) (sym (room_decision slots)) is

  pub slots_cause : (answer : Answer) (said : Said) → said ≡ plain (Some estate) answer → TestCause array_tells port_tells estate plan old new answer → CallsNothing old new answer
      → (RunCause array_tells port_tells estate plan old new answer → IsTestOutcome array_tells port_tells estate plan old new said)
      → OrLacked old new said (DecisionCause array_tells port_tells estate (slots_decision estate plan old) old new said)
  slots_cause (Refused (NoSlot Machines have need)) said told cause nothing test =
      let few : nat_lt old.slots (length estate.machines) ≡ true = lt-ltb old.slots (length estate.machines) (omega (arith, cause.0, cause.1, cause.2)) in
      inr (rw few (record { same = nothing; told = told ∙ ap (λ (r : Refusal). plain (Some estate) (Refused r)) (ap (λ h. NoSlot Machines h need) cause.0 ∙ ap (λ n. NoSlot Machines old.slots n) cause.1) }))
  slots_cause (Refused (NoSlot Pairs have need)) said told cause nothing test =
      let enough : nat_lt old.slots (length estate.machines) ≡ false = le-ltb old.slots (length estate.machines) cause.0 in
      let few : nat_lt old.array.count (length estate.devices) ≡ true = lt-ltb old.array.count (length estate.devices) (omega (arith, cause.1, cause.2, cause.3)) in
      inr (rw (enough, few) (record { same = nothing; told = told ∙ ap (λ (r : Refusal). plain (Some estate) (Refused r)) (ap (λ h. NoSlot Pairs h need) cause.1 ∙ ap (λ n. NoSlot Pairs old.array.count n) cause.2) }))
  slots_cause NoMemory said told cause nothing test = inl (record { same = nothing; told = told })
  slots_cause (Done run) said told cause nothing test = inr (called said cause.0 (test cause.1))
  slots_cause (ArrayFault side) said told cause nothing test = inr (called said cause.0 (test cause.1))
  slots_cause (PortFault machine) said told cause nothing test = inr (called said cause.0 (test cause.1))
  slots_cause (Foreign thing wanted found) said told cause nothing test = inr (called said (slots_of thing cause) (test (rest_of thing cause)))
    where
      slots_of : (t : Thing) → TestCause array_tells port_tells estate plan old new (Foreign t wanted found) → HasSlots estate old
      slots_of (PairThing k) c = c.0
      slots_of (MachineThing k) c = c.0

      rest_of : (t : Thing) → TestCause array_tells port_tells estate plan old new (Foreign t wanted found) → RunCause array_tells port_tells estate plan old new (Foreign t wanted found)
      rest_of (PairThing k) c = c.1
      rest_of (MachineThing k) c = c.1
  slots_cause answer said told cause nothing test = absurd cause.1

-- a refusal that holds no number may be told
pub refusal_tells : (estate : Estate) (refusal : Refusal) → IsPlainRefusal refusal → IsTellable estate (Refused refusal)
refusal_tells estate (UnknownPlan name) is = record { numbers = tt; plain_answer = tt; short = tt }
refusal_tells estate (NotBuilt name) is = record { numbers = tt; plain_answer = tt; short = tt }
refusal_tells estate refusal is = absurd is

-- a faulty group may be told
groups_tell : (estate : Estate) (fault : GroupFault) → HoldsNumbers estate (OfGroups fault) → HoldsNumbersOf (Some estate) (GroupsAnswer fault)
groups_tell estate (NotClosed g a b) numbers = (
  omega (arith, length-map estate.groups (λ (r : GroupRow). r.name), numbers.0),
  omega (arith, length-map estate.datastores (λ (d : Datastore). d.name), numbers.1),
  omega (arith, length-map estate.datastores (λ (d : Datastore). d.name), numbers.2),
)
groups_tell estate (InTwo d g h) numbers = (
  omega (arith, length-map estate.datastores (λ (x : Datastore). x.name), numbers.0),
  omega (arith, length-map estate.groups (λ (r : GroupRow). r.name), numbers.1),
  omega (arith, length-map estate.groups (λ (r : GroupRow). r.name), numbers.2),
)
groups_tell estate NoMemoryForGroups numbers = tt

-- a faulty plan may be told
plans_tell : (estate : Estate) (name : List ℕ) (fault : PlanFault) → HoldsNumbers estate (OfPlan name fault) → HoldsNumbersOf (Some estate) (PlanAnswer name fault)
plans_tell estate name (plan_faults.BadPriority machine number) numbers = omega (arith, length-map estate.machines (λ (m : Machine). m.name), numbers)
plans_tell estate name (plan_faults.OtherPriority machine dependency) numbers = (
  omega (arith, length-map estate.machines (λ (m : Machine). m.name), numbers.0),
  omega (arith, length-map estate.machines (λ (m : Machine). m.name), numbers.1),
)
plans_tell estate name (plan_faults.Cycle machines) numbers = λ k d below. omega (arith, length-map estate.machines (λ (m : Machine). m.name), numbers k d below)
plans_tell estate name fault numbers = tt

-- a fault of an estate's protection may be told
protection_tells : (estate : Estate) (fault : ProtectionFault) → IsSoundEstate estate → IsProtectionFaultOf estate fault → HoldsNumbersOf (Some estate) (protection_answer fault) × HidesNoAnswer (protection_answer fault)
protection_tells estate (OfGroups fault) sound is = (groups_tell estate fault (fault_numbers estate (OfGroups fault) sound is), is.is_fault)
protection_tells estate (OfPlan name fault) sound is = (
  plans_tell estate name fault (fault_numbers estate (OfPlan name fault) sound is),
  λ none. (let row = is.is_first.faulty.is_first in subst (λ f. IsFirstOfRow estate is.members row.row f) none row.first_of_row),
)
protection_tells estate (OfMaps unmapped) sound is = (omega (arith, length-map estate.machines (λ (m : Machine). m.name), fault_numbers estate (OfMaps unmapped) sound is), tt)

-- what is wrong with an input may be told
pub fault_tells : (input : List ℕ) (fault : DeclaredFault) → (fault ≢ faults.NoMemory → IsFirstFaultOf input fault) → HoldsNumbersOf (fault_estate fault) (fault_answer fault) × HidesNoAnswer (fault_answer fault)
fault_tells input (faults.Estate fault) is = (tt, (is (λ e. cc e)).1)
fault_tells input (faults.Protection estate fault) is = (let first = is (λ e. cc e) in protection_tells estate fault (text_sound input estate first.0) first.1)
fault_tells input faults.NoMemory is = (tt, tt)
