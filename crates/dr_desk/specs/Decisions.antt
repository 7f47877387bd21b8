-- What a command comes to, where nothing is wrong with the estate and its plans.
use Rattle.std.specs.Prelude.{ℕ, Bool, false, ◌||◌, nat_lt, if◌then◌else◌, is_some, List, find, slice_get, bytes_eq, length, Option, Some, None}
use Rattle.std.specs.List.{list_any}
use Rattle.dr_base.specs.declared.side.Side.TheVariants.{B}
use Rattle.dr_base.specs.Sides.{same_side}
use Rattle.dr_base.specs.declared.command.Command.{Command}
use Rattle.dr_base.specs.declared.command.Command.TheVariants.{Run, Preview, Groups}
use Rattle.dr_base.specs.declared.command.Op.{Op}
use Rattle.dr_base.specs.declared.command.Op.TheVariants.{Testing}
use Rattle.dr_base.specs.declared.refusal.Refusal.{Refusal}
use Rattle.dr_base.specs.declared.refusal.Refusal.TheVariants.{UnknownPlan, NotBuilt, NoSlot}
use Rattle.dr_base.specs.declared.refusal.SlotKind.TheVariants.{Machines, Pairs}
use Rattle.dr_inventory.specs.declared.estate.GroupRow.{GroupRow}
use Rattle.dr_inventory.specs.declared.estate.Estate.{Estate}
use Rattle.dr_plan.specs.declared.plan.PlanMachine.{PlanMachine}
use Rattle.dr_plan.specs.declared.plan.Plan.{Plan}
use Rattle.dr_declared.specs.declared.contents.Declared.{Declared}
use Rattle.dr_testing.specs.Tests.{Outside}

-- the plan of this name
abbrev pub plan_named : List Plan → List ℕ → Option Plan
plan_named plans name = find (λ p. bytes_eq p.name name) plans

-- whether a group's row protects B
abbrev pub row_protects_b : Option GroupRow → Bool
row_protects_b None = false
row_protects_b (Some row) = same_side row.protects B

-- whether this protection group protects B
abbrev pub protects_b : Estate → ℕ → Bool
protects_b estate group = row_protects_b (slice_get estate.groups group)

-- whether a machine of a plan has a command
abbrev pub has_command : PlanMachine → Bool
has_command m = list_any is_some m.commands

-- whether a test of the plan needs what isn't built yet: a custom step, a machine's command, or a group that protects B
abbrev pub needs_unbuilt : Estate → Plan → Bool
needs_unbuilt estate plan = is_some (slice_get plan.steps 0) || (list_any has_command plan.machines || list_any (protects_b estate) plan.groups)

-- what a command may come to
pub data Decision : Type 0 where
  -- it is refused
  Refuse : (refusal : Refusal) → Decision
  -- the datastores are shown, with their datastore groups
  ShowGroups : Decision
  -- the order of start-up of this plan is shown
  ShowPlan : (plan : Plan) → Decision
  -- this plan is tested
  Test : (plan : Plan) → Decision
  -- no words ask for it yet
  NotAsked : Decision

-- a test of a plan that needs nothing unbuilt is refused where the site has too few machines for the estate, then where it has too few pairs
abbrev pub slots_decision : Estate → Plan → Outside → Decision
slots_decision estate plan outside =
    if nat_lt outside.slots (length estate.machines) then Refuse (NoSlot Machines outside.slots (length estate.machines))
    else (if nat_lt outside.array.count (length estate.devices) then Refuse (NoSlot Pairs outside.array.count (length estate.devices)) else Test plan)

-- a test under this name, of this plan
abbrev pub test_decision : Estate → List ℕ → Outside → Option Plan → Decision
test_decision estate name outside None = Refuse (UnknownPlan name)
test_decision estate name outside (Some plan) = if needs_unbuilt estate plan then Refuse (NotBuilt name) else slots_decision estate plan outside

-- a preview under this name, of this plan
abbrev pub preview_decision : List ℕ → Option Plan → Decision
preview_decision name None = Refuse (UnknownPlan name)
preview_decision name (Some plan) = ShowPlan plan

-- what a run of this operation comes to: of all operations only a test is asked for yet
abbrev pub run_decision : Declared → Outside → List ℕ → Op → Decision
run_decision declared outside name Testing = test_decision declared.estate name outside (plan_named declared.plans name)
run_decision declared outside name _ = NotAsked

-- what each command comes to
abbrev pub decision : Declared → Outside → Command → Decision
decision declared outside (Run run) = run_decision declared outside run.plan run.op
decision declared outside (Preview name) = preview_decision name (plan_named declared.plans name)
decision declared outside Groups = ShowGroups
decision declared outside _ = NotAsked

-- refusals that hold no number that must be the estate's
abbrev pub IsPlainRefusal : Refusal → Type 0
IsPlainRefusal (UnknownPlan name) = Unit {0}
IsPlainRefusal (NotBuilt name) = Unit {0}
IsPlainRefusal _ = ⊥
