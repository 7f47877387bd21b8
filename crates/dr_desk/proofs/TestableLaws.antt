-- A plan that needs nothing unbuilt can be tested.
use Rattle.std.proofs.Common.{◌≡◌, ℕ, ◌<◌, Bool, true, false, ◌||◌, List, length, refl, sym, ◌∙◌, ap, subst, arith, get_or}
use Rattle.std.proofs.lemmas.List.Folds.{list_any_at, find_at}
use Rattle.std.specs.List.{list_any, position_or_len}
use Rattle.std.specs.Option.{option_or}
use Rattle.std.specs.Prelude.{find, bytes_eq, is_some, Option, Some, None, Result, Ok, Err, IsOk, Contains, slice_get}
use Rattle.dr_base.specs.declared.side.Side.{Side}
use Rattle.dr_base.specs.declared.side.Side.TheVariants.{A, B}
use Rattle.dr_base.specs.declared.placement.Placement.{Placement}
use Rattle.dr_base.specs.declared.placement.Unmapped.{Unmapped}
use Rattle.dr_base.specs.Sides.{same_side}
use Rattle.std.proofs.lemmas.List.{length-map}
use Rattle.dr_inventory.specs.declared.estate.Machine.{Machine}
use Rattle.dr_inventory.specs.declared.estate.GroupRow.{GroupRow}
use Rattle.dr_inventory.specs.declared.estate.Estate.{Estate}
use Rattle.dr_mappings.specs.Placements.{place_of}
use Rattle.dr_plan.specs.declared.plan.PlanMachine.{PlanMachine}
use Rattle.dr_plan.specs.declared.plan.Plan.{Plan}
use Rattle.dr_plan.specs.Orders.{IsOrdered}
use Rattle.dr_declared.proofs.PlanFacts.{plan_pairs, plan_machines, plan_machine_group, IsHeldAmong}
use Rattle.std.proofs.lemmas.Option.{slice_get_within, get_or_from_slice_get}
use Rattle.dr_declared.specs.declared.contents.Declared.{Declared}
use Rattle.dr_declared.specs.Missing.{lacking, missing}
use Rattle.dr_declared.specs.Contents.{IsDeclared}
use Rattle.dr_declared.proofs.UniqueLaws.{text_sound}
use Rattle.dr_testing.specs.Placing.{IsPlaced}
use Rattle.dr_testing.specs.Tests.{IsTestable}
use Rattle.dr_report.specs.Texts.{machine_names}
use Rattle.dr_desk.specs.Decisions.{needs_unbuilt, has_command, protects_b, row_protects_b}

-- nothing first and nothing second
first_none : {X : Type 0} (a b : Option X) → option_or a b ≡ None → a ≡ None
first_none None b is = refl
first_none (Some x) b is = is

second_none : {X : Type 0} (a b : Option X) → option_or a b ≡ None → b ≡ None
second_none None b is = is
second_none (Some x) b is = cc is

-- a placement that lacks no map is there
placed_where : (r : Result Placement Unmapped) → lacking r ≡ None → IsOk r
placed_where (Ok place) is = refl
placed_where (Err u) is = cc is

-- a side that isn't B is A
is_a : (side : Side) → same_side side B ≡ false → side ≡ A
is_a A is = refl
is_a B is = cc is

-- neither is true
left_false : (a b : Bool) → (a || b) ≡ false → a ≡ false
left_false true b is = is
left_false false b is = refl

right_false : (a b : Bool) → (a || b) ≡ false → b ≡ false
right_false true b is = cc is
right_false false b is = is

-- a machine of a group that protects A has its place in a test
placed_at_a : (estate : Estate) (machine : ℕ) → missing estate machine A ≡ None → IsPlaced estate machine
placed_at_a estate machine none =
    placed_where (place_of estate machine A B true)
    (first_none (lacking (place_of estate machine A B true)) (lacking (place_of estate machine A A true))
    (second_none (lacking (place_of estate machine A B false)) (option_or (lacking (place_of estate machine A B true)) (lacking (place_of estate machine A A true))) none))

module _ (declared : Declared) (number : ℕ) (plan : Plan) (is : IsDeclared declared) (listed : slice_get declared.plans number ≡ Some plan) (built : needs_unbuilt declared.estate plan ≡ false) where
  no_group_protects_b : list_any (protects_b declared.estate) plan.groups ≡ false
  no_group_protects_b =
      right_false (list_any has_command plan.machines) (list_any (protects_b declared.estate) plan.groups)
      (right_false (is_some (slice_get plan.steps 0)) (list_any has_command plan.machines || list_any (protects_b declared.estate) plan.groups) built)

  -- each of its groups protects A
  protects_a : (group : ℕ) (row : GroupRow) → Contains plan.groups group → slice_get declared.estate.groups group ≡ Some row → row.protects ≡ A
  protects_a group row among found =
      let at : protects_b declared.estate (get_or plan.groups among.0 group) ≡ same_side row.protects B = ap (protects_b declared.estate) among.2 ∙ ap row_protects_b found in
      is_a row.protects (go (same_side row.protects B) at)
    where
      go : (b : Bool) → protects_b declared.estate (get_or plan.groups among.0 group) ≡ b → b ≡ false
      go false e = refl
      go true e = (let some : list_any (protects_b declared.estate) plan.groups ≡ true = list_any_at (protects_b declared.estate) plan.groups among.0 group among.1 e in let none = no_group_protects_b in cc (some, none))

  machine_placed : (machine : ℕ) → IsHeldAmong declared.estate declared.members plan.groups machine → IsPlaced declared.estate machine
  machine_placed machine held =
      let a : held.row.protects ≡ A = protects_a held.group held.row held.among held.held.found in
      placed_at_a declared.estate machine (subst (λ side. missing declared.estate machine side ≡ None) a (is.declares.placed held.group machine held.row held.held))

  pub testable : IsTestable declared.estate plan
  testable =
      let pairs = plan_pairs is.bytes declared number plan is.declares listed in
      record {
        sound = text_sound is.bytes declared.estate is.declares.text;
        ordered = ordered_at;
        pairs = record { ascending = pairs.0; below = λ j lt. pairs.1 j 0 lt };
        machines = plan_machines is.bytes declared number plan is.declares listed;
        placed = λ k d lt. machine_placed (get_or plan.machines k d).machine (plan_machine_group is.bytes declared number plan is.declares listed k d lt);
      }
    where
      ordered_at : IsOrdered plan
      ordered_at = subst IsOrdered (get_or_from_slice_get declared.plans number plan plan listed) (is.declares.ordered number plan (slice_get_within declared.plans number plan listed))

-- the plan of a name is one of the plans
pub named_at : (plans : List Plan) (name : List ℕ) (plan : Plan) → find (λ p. bytes_eq p.name name) plans ≡ Some plan → (k : ℕ) × (slice_get plans k ≡ Some plan)
named_at plans name plan found = (position_or_len (λ p. bytes_eq p.name name) plans, sym (find_at (λ p. bytes_eq p.name name) plans) ∙ found)

-- the machines of a plan have names in the estate
pub named_machines : (declared : Declared) (number : ℕ) (plan : Plan) → IsDeclared declared → slice_get declared.plans number ≡ Some plan → (k : ℕ) (d : PlanMachine) → k < length plan.machines → (get_or plan.machines k d).machine < length (machine_names (Some declared.estate))
named_machines declared number plan is at k d lt = omega (arith, length-map declared.estate.machines (λ (m : Machine). m.name), plan_machines is.bytes declared number plan is.declares at k d lt)
