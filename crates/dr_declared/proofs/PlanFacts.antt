-- What a declared plan names is the estate's, and its machines are held by its groups.
use Rattle.std.proofs.Common.{◌≡◌, ℕ, ◌+◌, ◌<◌, true, nat_eq, List, [], length, get_or, Some, slice_get, refl, sym, ap, subst, arith, eqb-true}
use Rattle.std.specs.List.{All, Contains, list_any, range_with_len}
use Rattle.std.specs.List.Sorted.{IsStrictlyIncreasing}
use Rattle.std.proofs.lemmas.List.Elements.{All-contains, All-filter, All-map, All-weaker, filter_passes}
use Rattle.std.proofs.lemmas.List.Folds.{Any-from_list_any}
use Rattle.std.proofs.lemmas.List.FromFn.{length-range_with_len, get_or-range_with_len}
use Rattle.std.proofs.lemmas.List.Kept.{IsStrictlyIncreasing-filter}
use Rattle.std.proofs.lemmas.Option.{slice_get-get_or}
use Rattle.dr_inventory.specs.declared.estate.GroupRow.{GroupRow}
use Rattle.dr_inventory.specs.declared.estate.Estate.{Estate}
use Rattle.dr_inventory.specs.declared.members.Members.{Members}
use Rattle.dr_groups.specs.Groups.{AreMembersOf}
use Rattle.dr_plan.specs.declared.plan.PlanMachine.{PlanMachine}
use Rattle.dr_plan.specs.declared.plan.Plan.{Plan}
use Rattle.dr_plan.specs.Rows.{group_numbers, is_held, all_held, planned_machines, planned_pairs}
use Rattle.dr_plan.specs.Plans.{IsPlanOf, plan_machine}
use Rattle.dr_plan.proofs.FaultLaws.{groups_right}
use Rattle.dr_plan.proofs.PlanLaws.{groups_below}
use Rattle.dr_declared.specs.declared.contents.Declared.{Declared}
use Rattle.dr_declared.specs.Missing.{IsHeldBy}
use Rattle.dr_declared.specs.Contents.{Declares}
use Rattle.dr_declared.proofs.UniqueLaws.{found_within}

range_up : (n : ℕ) → IsStrictlyIncreasing (range_with_len 0 n)
range_up n = λ k within.
    let below : k + 1 < n = omega (arith, within, length-range_with_len 0 n) in
    omega (arith, get_or-range_with_len 0 n k 0 (omega (arith, below)), get_or-range_with_len 0 n (k + 1) 0 below)

range_below : (n : ℕ) → All (λ k. k < n) (range_with_len 0 n)
range_below n = λ k d within.
    let below : k < n = omega (arith, within, length-range_with_len 0 n) in
    omega (arith, below, get_or-range_with_len 0 n k d below)

held_up : (lists : List (List ℕ)) (groups : List ℕ) (n : ℕ) → IsStrictlyIncreasing (all_held lists groups n)
held_up lists groups n = IsStrictlyIncreasing-filter (is_held lists groups) (range_with_len 0 n) (range_up n)

held_below : (lists : List (List ℕ)) (groups : List ℕ) (n : ℕ) → All (λ k. k < n) (all_held lists groups n)
held_below lists groups n = All-filter (is_held lists groups) (λ k. k < n) (range_with_len 0 n) (range_below n)

-- the pairs of a plan ascend, and are the estate's
pub plan_pairs : (bytes : List ℕ) (d : Declared) (k : ℕ) (p : Plan) → Declares bytes d → slice_get d.plans k ≡ Some p → IsStrictlyIncreasing p.pairs × All (λ x. x < length d.estate.devices) p.pairs
plan_pairs bytes d k p is at =
    let plan : IsPlanOf d.estate d.members k p = is.plans.each k p at in
    let groups : List ℕ = group_numbers d.estate plan.row in
    let pairs : p.pairs ≡ planned_pairs d.estate d.members plan.row = ap (λ (q : Plan). q.pairs) plan.value in
    let P : List ℕ → Type 0 = λ ps. IsStrictlyIncreasing ps × All (λ x. x < length d.estate.devices) ps in
    subst P (sym pairs) (held_up d.members.pairs groups (length d.estate.devices), held_below d.members.pairs groups (length d.estate.devices))

-- the machines of a plan are the estate's
pub plan_machines : (bytes : List ℕ) (d : Declared) (k : ℕ) (p : Plan) → Declares bytes d → slice_get d.plans k ≡ Some p → All (λ m. m.machine < length d.estate.machines) p.machines
plan_machines bytes d k p is at =
    let plan : IsPlanOf d.estate d.members k p = is.plans.each k p at in
    let P : Plan → Type 0 = λ q. All (λ (m : PlanMachine). m.machine < length d.estate.machines) q.machines in
    subst P (sym plan.value)
    (All-map (λ (m : PlanMachine). m.machine < length d.estate.machines) (plan_machine d.estate plan.row plan.depths) (planned_machines d.estate d.members plan.row)
    (held_below d.members.machines (group_numbers d.estate plan.row) (length d.estate.machines)))

-- the groups of a plan are the estate's
pub plan_groups : (bytes : List ℕ) (d : Declared) (k : ℕ) (p : Plan) → Declares bytes d → slice_get d.plans k ≡ Some p → All (λ g. g < length d.estate.groups) p.groups
plan_groups bytes d k p is at =
    let plan : IsPlanOf d.estate d.members k p = is.plans.each k p at in
    groups_below d.estate plan.row (length d.estate.groups) p.groups (groups_right d.estate d.members plan.row plan.row_valid.named) (ap (λ (q : Plan). q.groups) plan.value) refl

-- one of these groups, of which this is the row, holds the machine
pub record IsHeldAmong (estate : Estate) (members : Members) (groups : List ℕ) (machine : ℕ) : Type 0 where
  pub group : ℕ
  pub row : GroupRow
  pub among : Contains groups group
  pub held : IsHeldBy estate members group machine row

held_among : (e : Estate) (members : Members) (groups : List ℕ) (x : ℕ) → AreMembersOf e members → All (λ g. g < length e.groups) groups → is_held members.machines groups x ≡ true → IsHeldAmong e members groups x
held_among e members groups x are within h =
    let any = Any-from_list_any (λ (g : ℕ). list_any (λ (held : ℕ). nat_eq held x) (get_or members.machines g [])) groups h in
    let g : ℕ = any.1 in
    let among : Contains groups g = (any.0, any.2, any.3) in
    let below : g < length e.groups = All-contains (λ n. n < length e.groups) groups g within among in
    let row = found_within e.groups g below in
    let list : List ℕ = get_or members.machines g [] in
    let one = Any-from_list_any (λ (held : ℕ). nat_eq held x) list any.4 in
    let test : nat_eq one.1 x ≡ true = one.4 in
    let same : one.1 ≡ x = eqb-true one.1 x test in
    let In : ℕ → Type 0 = λ n. Contains list n in
    record {
      group = g;
      row = row.0;
      among = among;
      held = record {
        found = row.1;
        list = list;
        listed = slice_get-get_or members.machines g [] (omega (arith, below, are.machines.one_each));
        held = subst In same (one.0, one.2, one.3);
      };
    }

-- each machine of a plan is held by one of the plan's groups
pub plan_machine_group : (bytes : List ℕ) (d : Declared) (k : ℕ) (p : Plan) → Declares bytes d → slice_get d.plans k ≡ Some p → All (λ m. IsHeldAmong d.estate d.members p.groups m.machine) p.machines
plan_machine_group bytes d k p is at =
    let plan : IsPlanOf d.estate d.members k p = is.plans.each k p at in
    let groups : List ℕ = group_numbers d.estate plan.row in
    let within : All (λ g. g < length d.estate.groups) groups = groups_below d.estate plan.row (length d.estate.groups) groups (groups_right d.estate d.members plan.row plan.row_valid.named) refl refl in
    let P : Plan → Type 0 = λ q. All (λ (m : PlanMachine). IsHeldAmong d.estate d.members q.groups m.machine) q.machines in
    let held : All (IsHeldAmong d.estate d.members groups) (planned_machines d.estate d.members plan.row) =
    All-weaker (λ x. is_held d.members.machines groups x ≡ true) (IsHeldAmong d.estate d.members groups) (λ x h. held_among d.estate d.members groups x is.members within h)
    (planned_machines d.estate d.members plan.row) (filter_passes (is_held d.members.machines groups) (range_with_len 0 (length d.estate.machines))) in
    subst P (sym plan.value) (All-map (λ (m : PlanMachine). IsHeldAmong d.estate d.members groups m.machine) (plan_machine d.estate plan.row plan.depths) (planned_machines d.estate d.members plan.row) held)
