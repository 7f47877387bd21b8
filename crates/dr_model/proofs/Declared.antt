-- The plans that a journal's Estate declares are regular.
use Rattle.std.specs.Prelude.{◌≡◌, ℕ, ◌<◌, nat_eq, true, List, [], length, Contains, Some, slice_get, slice_index_or}
use Rattle.std.specs.List.{list_any, range_with_len}
use Rattle.std.proofs.Common.{refl, sym, ap, subst, arith}
use Rattle.std.proofs.lemmas.Bool.{eq-eqb, eqb-true}
use Rattle.std.proofs.lemmas.List.Elements.{All-contains, filter_passes}
use Rattle.std.proofs.lemmas.List.Folds.{Any-from_list_any, list_any_at}
use Rattle.std.proofs.lemmas.Option.{slice_get_within, slice_get-get_or}
use Rattle.dr_inventory.specs.Sound.{IsSoundEstate}
use Rattle.dr_inventory.proofs.SoundLaws.{sound}
use Rattle.dr_groups.specs.Groups.{IsPairOf, IsMachineOf, ListsByGroup}
use Rattle.dr_groups.proofs.RowLaws.{found_contained, device_below}
use Rattle.dr_groups.proofs.FaultLaws.{machine_once}
use Rattle.dr_plan.specs.Rows.{group_numbers, is_held, all_held, planned_machines, planned_pairs}
use Rattle.dr_plan.specs.Plans.{IsPlanOf, plan_machine}
use Rattle.dr_plan.specs.Orders.{IsOrdered}
use Rattle.dr_plan.proofs.OrderLaws.{mapped_to, in_range}
use Rattle.dr_declared.specs.declared.contents.Declared.{Declared}
use Rattle.dr_declared.proofs.PlanFacts.{IsHeldAmong, plan_pairs, plan_groups, plan_machine_group}
use Rattle.dr_meaning.specs.Types.{PlanMachine, Plan, Estate}
use Rattle.dr_meaning.specs.Runs.{Setting}
use Rattle.dr_meaning.specs.Journals.{DeclaresSetting}
use Rattle.dr_meaning.specs.Backing.{IsRegularPlan, HasRegularPlans}
use Rattle.dr_meaning.proofs.Elements.{contains-filter}

-- a number in the list of one of these groups is held by them
held_by_one : (lists : List (List ℕ)) (groups : List ℕ) (g k : ℕ) → Contains groups g → Contains (slice_index_or lists g []) k → is_held lists groups k ≡ true
held_by_one lists groups g k (i, below, is) (j, within, e) =
    let Holds : ℕ → Type 0 = λ h. list_any (λ (x : ℕ). nat_eq x k) (slice_index_or lists h []) ≡ true in
    let own : Holds g = list_any_at (λ (x : ℕ). nat_eq x k) (slice_index_or lists g []) j k within (eq-eqb _ k e) in
    list_any_at (λ (h : ℕ). list_any (λ (x : ℕ). nat_eq x k) (slice_index_or lists h [])) groups i g below (subst Holds (sym is) own)

-- and a number that they hold is in the list of one of them
one_that_holds : (lists : List (List ℕ)) (groups : List ℕ) (k : ℕ) → is_held lists groups k ≡ true → (g : ℕ) × Contains groups g × Contains (slice_index_or lists g []) k
one_that_holds lists groups k h =
    let any = Any-from_list_any (λ (g : ℕ). list_any (λ (held : ℕ). nat_eq held k) (slice_index_or lists g [])) groups h in
    let list : List ℕ = slice_index_or lists any.1 [] in
    let one = Any-from_list_any (λ (held : ℕ). nat_eq held k) list any.4 in
    let same : one.1 ≡ k = eqb-true one.1 k one.4 in
    let In : ℕ → Type 0 = λ n. Contains list n in
    (any.1, (any.0, any.2, any.3), subst In same (one.0, one.2, one.3))

-- what belongs to one of these groups is among all that they hold
held_among_all : (estate : Estate) (Belongs : ℕ → ℕ → Type 0) (lists : List (List ℕ)) → ListsByGroup estate Belongs lists → (groups : List ℕ) (count g k : ℕ) → g < length estate.groups → Contains groups g → Belongs g k → k < count → Contains (all_held lists groups count) k
held_among_all estate Belongs lists by_group groups count g k below listed belongs within =
    let at : slice_get lists g ≡ Some (slice_index_or lists g []) = slice_get-get_or lists g [] (omega (arith, below, by_group.one_each)) in
    let in_list : Contains (slice_index_or lists g []) k = ((by_group.each g (slice_index_or lists g []) at).exactly k).1 belongs in
    contains-filter (is_held lists groups) (range_with_len 0 count) k (in_range count k within) (held_by_one lists groups g k listed in_list)

module _ (bytes : List ℕ) (setting : Setting) (d : DeclaresSetting bytes setting) (number : ℕ) (plan : Plan) (at_plan : slice_get setting.plans number ≡ Some plan) where
  abbrev declared : Declared
  declared = record { estate = setting.estate; members = d.members; plans = setting.plans }

  is_plan : IsPlanOf setting.estate d.members number plan
  is_plan = d.declares.plans.each number plan at_plan

  abbrev numbers : List ℕ
  numbers = group_numbers setting.estate is_plan.row

  group_below : (g : ℕ) → Contains plan.groups g → g < length setting.estate.groups
  group_below g listed = All-contains (λ n. n < length setting.estate.groups) plan.groups g (plan_groups bytes declared number plan d.declares at_plan) listed

  its_number : (g : ℕ) → Contains plan.groups g → Contains numbers g
  its_number g listed = let P : List ℕ → Type 0 = λ gs. Contains gs g in subst P (ap (λ (p : Plan). p.groups) is_plan.value) listed

  machine_of_group : (m : PlanMachine) → Contains plan.machines m → (g : ℕ) × Contains plan.groups g × IsMachineOf setting.estate g m.machine
  machine_of_group m listed =
      let among : IsHeldAmong setting.estate d.members plan.groups m.machine = All-contains (λ (x : PlanMachine). IsHeldAmong setting.estate d.members plan.groups x.machine) plan.machines m (plan_machine_group bytes declared number plan d.declares at_plan) listed in
      (among.group, among.among, ((d.declares.members.machines.each among.group among.held.list among.held.listed).exactly m.machine).0 among.held.held)

  all_machines : (g m : ℕ) → Contains plan.groups g → IsMachineOf setting.estate g m → (entry : PlanMachine) × Contains plan.machines entry × (entry.machine ≡ m)
  all_machines g m listed of_group =
      let planned : Contains (planned_machines setting.estate d.members is_plan.row) m = held_among_all setting.estate (IsMachineOf setting.estate) d.members.machines d.declares.members.machines numbers (length setting.estate.machines) g m (group_below g listed) (its_number g listed) of_group (slice_get_within setting.estate.machines m of_group.row of_group.found) in
      let entry : PlanMachine = plan_machine setting.estate is_plan.row is_plan.depths m in
      let P : Plan → Type 0 = λ p. Contains p.machines entry in
      (entry, subst P (sym is_plan.value) (mapped_to (plan_machine setting.estate is_plan.row is_plan.depths) (planned_machines setting.estate d.members is_plan.row) m planned), refl)

  all_pairs : (g p : ℕ) → Contains plan.groups g → IsPairOf setting.estate g p → Contains plan.pairs p
  all_pairs g p listed of_group =
      let is_sound : IsSoundEstate setting.estate = sound d.declares.text.table setting.estate d.declares.text.value in
      let planned : Contains (planned_pairs setting.estate d.members is_plan.row) p = held_among_all setting.estate (IsPairOf setting.estate) d.members.pairs d.declares.members.pairs numbers (length setting.estate.devices) g p (group_below g listed) (its_number g listed) of_group (device_below setting.estate of_group.datastore p is_sound of_group.named) in
      let P : Plan → Type 0 = λ q. Contains q.pairs p in
      subst P (sym is_plan.value) planned

  pair_of_group : (p : ℕ) → Contains plan.pairs p → (g : ℕ) × Contains plan.groups g × IsPairOf setting.estate g p
  pair_of_group p listed =
      let P : Plan → Type 0 = λ q. Contains q.pairs p in
      let Held : ℕ → Type 0 = λ k. is_held d.members.pairs numbers k ≡ true in
      let held : Held p = All-contains Held (planned_pairs setting.estate d.members is_plan.row) p (filter_passes (is_held d.members.pairs numbers) (range_with_len 0 (length setting.estate.devices))) (subst P is_plan.value listed) in
      let (g, numbered, in_list) = one_that_holds d.members.pairs numbers p held in
      let G : List ℕ → Type 0 = λ gs. Contains gs g in
      let named : Contains plan.groups g = subst G (ap (λ (q : Plan). q.groups) (sym is_plan.value)) numbered in
      let at : slice_get d.members.pairs g ≡ Some (slice_index_or d.members.pairs g []) = slice_get-get_or d.members.pairs g [] (omega (arith, group_below g named, d.declares.members.pairs.one_each)) in
      (g, named, ((d.declares.members.pairs.each g (slice_index_or d.members.pairs g []) at).exactly p).0 in_list)

  regular : IsRegularPlan setting.estate plan
  regular = record {
    ordered = All-contains IsOrdered setting.plans plan d.declares.ordered (found_contained setting.plans number plan at_plan);
    machines = machine_of_group;
    all_machines = all_machines;
    pairs = pair_of_group;
    all_pairs = all_pairs;
    pairs_ascend = (plan_pairs bytes declared number plan d.declares at_plan).0;
  }

-- the plans of what an Estate declares
pub declared_regular : (bytes : List ℕ) (setting : Setting) → DeclaresSetting bytes setting → HasRegularPlans setting
declared_regular bytes setting d number plan at_plan = regular bytes setting d number plan at_plan

-- a machine is on a datastore, and no datastore is in two groups
pub one_group : (bytes : List ℕ) (setting : Setting) → DeclaresSetting bytes setting → (g h m : ℕ) → IsMachineOf setting.estate g m → IsMachineOf setting.estate h m → g ≡ h
one_group bytes setting d g h m in_g in_h = machine_once setting.estate m g h d.declares.passes in_g in_h
