-- The machines of a plan's waves are the plan's.
use Rattle.std.proofs.Common.{◌≡◌, ◌<◌, ℕ, List, [], ◌∷◌, ◌++◌, length, map, arith, sym, subst, Some, Bool}
use Rattle.std.specs.Prelude.{All, flat_map, filter, ◌==◌, ◌&&◌}
use Rattle.std.proofs.lemmas.List.Elements.{All-append, All-cons, All-map, All-filter}
use Rattle.dr_inventory.specs.declared.estate.Estate.{Estate}
use Rattle.std.specs.List.{range_with_len}
use Rattle.std.proofs.lemmas.List.{length-map}
use Rattle.std.proofs.lemmas.List.FromFn.{length-range_with_len, get_or-range_with_len}
use Rattle.dr_inventory.specs.declared.members.Members.{Members}
use Rattle.dr_plan.specs.Rows.{is_held, group_numbers}
use Rattle.dr_plan.specs.Plans.{IsPlanOf, plan_machine}
use Rattle.dr_plan.specs.declared.plan.Plan.{Plan}
use Rattle.dr_plan.specs.declared.plan.PlanMachine.{PlanMachine}
use Rattle.dr_plan.specs.declared.plan.Wave.{Wave}
use Rattle.dr_plan.specs.Waves.{machines_at, wave_of, wave_at, waves_at, depths_in, priorities, waves_of}
use Rattle.dr_report.specs.Texts.{machine_names}
use Rattle.dr_report.specs.Conditions.{IsNumberOf}
use Rattle.dr_report.specs.Reports.{IsWaveOf, HoldsMachinesOf}

none_all : {X : Type 0} (P : X → Type 0) → All P []
none_all P k d within = absurd (omega (arith, within))

-- what holds in each of the lists that a function gives, holds in all of them together
all_flat : {X Y : Type 0} (P : Y → Type 0) (f : X → List Y) → ((x : X) → All P (f x)) → (xs : List X) → All P (flat_map f xs)
all_flat P f each [] = none_all P
all_flat P f each (x ∷ xs) = All-append P (f x) (flat_map f xs) (each x) (all_flat P f each xs)

wave_holds : (estate : Estate) (priority depth : ℕ) (machines : List ℕ) → All (IsNumberOf (machine_names (Some estate))) machines → All (IsWaveOf estate) (wave_of priority depth machines)
wave_holds estate priority depth [] h = none_all (IsWaveOf estate)
wave_holds estate priority depth (k ∷ ks) h = All-cons (IsWaveOf estate) (record { priority = priority; depth = depth; machines = k ∷ ks }) [] h (none_all (IsWaveOf estate))

-- the waves of a plan that holds machines of an estate do so
pub waves_hold : (estate : Estate) (plan : Plan) → HoldsMachinesOf estate plan → All (IsWaveOf estate) (waves_of plan)
waves_hold estate plan h =
    let Is : ℕ → Type 0 = IsNumberOf (machine_names (Some estate)) in
    let number : PlanMachine → ℕ = λ m. m.machine in
    all_flat (IsWaveOf estate) (waves_at plan.machines) (λ priority. all_flat (IsWaveOf estate) (wave_at plan.machines priority) (λ depth. wave_holds estate priority depth (machines_at plan.machines priority depth) (All-map Is number (filter (λ m. (m.priority == priority) && (m.depth == depth)) plan.machines) (All-filter (λ m. (m.priority == priority) && (m.depth == depth)) (λ (m : PlanMachine). Is m.machine) plan.machines h))) (depths_in plan.machines)) priorities

-- the numbers of a range are below its end
all_below : (n : ℕ) → All (λ k. k < n) (range_with_len 0 n)
all_below n i d within =
    let before : i < n = omega (arith, within, length-range_with_len 0 n) in
    rw (get_or-range_with_len 0 n i d before) (omega arith)

-- the plan of a row of an estate holds machines of the estate
pub plan_holds : (estate : Estate) (members : Members) (number : ℕ) (plan : Plan) → IsPlanOf estate members number plan → HoldsMachinesOf estate plan
plan_holds estate members number plan is =
    let Holds : PlanMachine → Type 0 = λ m. IsNumberOf (machine_names (Some estate)) m.machine in
    let made : ℕ → PlanMachine = plan_machine estate is.row is.depths in
    let held : ℕ → Bool = is_held members.machines (group_numbers estate is.row) in
    let here : All (λ k. k < length (map (λ m. m.name) estate.machines)) (range_with_len 0 (length estate.machines)) = rw length-map (all_below (length estate.machines)) in
    subst (λ (p : Plan). HoldsMachinesOf estate p) (sym is.value) (All-map Holds made (filter held (range_with_len 0 (length estate.machines))) (All-filter held (λ k. Holds (made k)) (range_with_len 0 (length estate.machines)) here))
