-- Nothing stands twice in an estate that is read.
use Rattle.std.proofs.Common.{◌≡◌, ◌∙◌, ℕ, List, [], ◌∷◌, ◌++◌, map, flat_map, refl, sym, ap}
use Rattle.std.specs.List.{AllByRecursion}
use Rattle.std.proofs.lemmas.List.{map-append}
use Rattle.std.proofs.lemmas.List.Elements.{All-from_recursion}
use Rattle.dr_base.specs.declared.estate_fault.EstateFault.TheVariants.{Twice, DeviceTwice}
use Rattle.dr_inventory.specs.declared.document.DatastoreEntry.{DatastoreEntry}
use Rattle.dr_inventory.specs.declared.document.Document.{Document}
use Rattle.dr_inventory.specs.declared.estate.PlanMachineRow.{PlanMachineRow}
use Rattle.dr_inventory.specs.declared.estate.PlanRow.{PlanRow}
use Rattle.dr_inventory.specs.Names.{twice, twice_in, nothing_within, unknown}
use Rattle.dr_inventory.specs.Maps.{map_key, map_from}
use Rattle.dr_inventory.specs.Rules.{machine_name, machine_within, machine_datastores, datastore_name, datastore_devices, consistency_name, group_name, group_within, group_datastores, plan_name, plan_within, plan_machine_name, plan_machine_within, devices, twice_faults, unknown_faults, device_faults}
use Rattle.dr_inventory.specs.Numbers.{machine_of, datastore_of, group_of, datastore_number, device_number, estate_of}
use Rattle.dr_inventory.specs.Sound.{HasNoneTwice, HasNoneTwiceInPlan, HasNoneTwiceInMachine, NoneTwice}
use Rattle.dr_inventory.proofs.Apart.{distinct_keys, distinct_names, distinct_numbers, all_within_right, within_right, each_known, known_itself}
use Rattle.dr_inventory.proofs.Empty.{map_empty, front_empty, back_empty}
use Rattle.dr_inventory.proofs.SoundNumbers.{machines_known, groups_known}

images_named : {X Y : Type 0} (g : X → Y) (a : Y → List ℕ) (b : X → List ℕ) → ((x : X) → a (g x) ≡ b x) → (xs : List X) → map a (map g xs) ≡ map b xs
images_named g a b same [] = refl
images_named g a b same (x ∷ xs) = ap (λ n. n ∷ map a (map g xs)) (same x) ∙ ap (λ ns. b x ∷ ns) (images_named g a b same xs)

both : {X Y : Type 0} (g : X → Y) (P Q : X → Type 0) (R : Y → Type 0) → ((x : X) → P x → Q x → R (g x)) → (xs : List X) → AllByRecursion P xs → AllByRecursion Q xs → AllByRecursion R (map g xs)
both g P Q R each [] p q = tt
both g P Q R each (x ∷ xs) p q = (each x p.0 q.0, both g P Q R each xs p.1 q.1)

device_numbers : (g : List ℕ → ℕ) (ds : List DatastoreEntry) → flat_map (λ d. d.devices) (map (datastore_of g) ds) ≡ map g (flat_map datastore_devices ds)
device_numbers g [] = refl
device_numbers g (d ∷ ds) = ap (λ ns. map g d.devices ++ ns) (device_numbers g ds) ∙ sym (map-append g d.devices (flat_map datastore_devices ds))

machine_once : (m : PlanMachineRow) → plan_machine_within m ≡ [] → HasNoneTwiceInMachine m
machine_once m h =
    let rest = back_empty (twice_in m.after) _ h in
    record {
      after = distinct_names m.after (front_empty (twice_in m.after) _ h);
      before = distinct_names m.before (front_empty (twice_in m.before) _ rest);
      then_list = distinct_names m.then (back_empty (twice_in m.before) _ rest);
    }

plan_once : (p : PlanRow) → plan_within p ≡ [] → HasNoneTwiceInPlan p
plan_once p h = record {
  machines = distinct_keys plan_machine_name plan_machine_name plan_machine_within p.machine h;
  lists = all_within_right plan_machine_name plan_machine_name plan_machine_within HasNoneTwiceInMachine machine_once p.machine h;
}

pub none_twice : (doc : Document) → twice_faults doc ≡ [] → unknown_faults doc ≡ [] → device_faults doc ≡ [] → HasNoneTwice (estate_of doc)
none_twice doc t u d =
    let f = datastore_number doc in
    let g = device_number doc in
    let stores = doc.datastores in
    let one = twice machine_name machine_name machine_within [] doc.machines in
    let two = twice datastore_name datastore_name nothing_within [] stores in
    let three = twice consistency_name consistency_name nothing_within [] doc.consistency in
    let four = twice group_name group_name group_within [] doc.groups in
    let five = twice map_key map_from nothing_within [] doc.maps in
    let six = twice plan_name plan_name plan_within [] doc.plans in
    let t1 = back_empty (map (λ n. Twice n) one) _ t in
    let t2 = back_empty (map (λ n. Twice n) two) _ t1 in
    let t3 = back_empty (map (λ n. Twice n) three) _ t2 in
    let t4 = back_empty (map (λ n. Twice n) four) _ t3 in
    let machines = map_empty (λ n. Twice n) one (front_empty (map (λ n. Twice n) one) _ t) in
    let datastores = map_empty (λ n. Twice n) two (front_empty (map (λ n. Twice n) two) _ t1) in
    let groups = map_empty (λ n. Twice n) four (front_empty (map (λ n. Twice n) four) _ t3) in
    let maps = map_empty (λ n. Twice n) five (front_empty (map (λ n. Twice n) five) _ t4) in
    let plans = map_empty (λ n. Twice n) six (back_empty (map (λ n. Twice n) five) _ t4) in
    let once = distinct_names (devices doc) (map_empty (λ n. DeviceTwice n) (twice_in (devices doc)) (front_empty (map (λ n. DeviceTwice n) (twice_in (devices doc))) _ d)) in
    record {
      machines = rw (images_named (machine_of f) (λ m. m.name) machine_name (λ m. refl) doc.machines) (distinct_keys machine_name machine_name machine_within doc.machines machines);
      machine_datastores = All-from_recursion (λ m. NoneTwice m.datastores) (map (machine_of f) doc.machines)
          (both (machine_of f) (λ m. twice_in m.datastores ≡ []) (λ m. unknown datastore_name stores m.datastores ≡ []) (λ m. NoneTwice m.datastores)
          (λ m p q. distinct_numbers datastore_name stores m.datastores q (distinct_names m.datastores p)) doc.machines
          (within_right machine_name machine_name machine_within (λ m. twice_in m.datastores ≡ []) (λ m h. h) doc.machines machines)
          (each_known datastore_name stores machine_datastores doc.machines (machines_known doc u)));
      datastores = rw (images_named (datastore_of g) (λ d. d.name) datastore_name (λ d. refl) stores) (distinct_keys datastore_name datastore_name nothing_within stores datastores);
      devices = once;
      datastore_devices = rw (device_numbers g stores) (distinct_numbers (λ n. n) (devices doc) (devices doc) (known_itself (devices doc)) once);
      groups = rw (images_named (group_of f) (λ g. g.name) group_name (λ g. refl) doc.groups) (distinct_keys group_name group_name group_within doc.groups groups);
      group_datastores = All-from_recursion (λ m. NoneTwice m.datastores) (map (group_of f) doc.groups)
          (both (group_of f) (λ m. twice_in m.datastores ≡ []) (λ m. unknown datastore_name stores m.datastores ≡ []) (λ m. NoneTwice m.datastores)
          (λ m p q. distinct_numbers datastore_name stores m.datastores q (distinct_names m.datastores p)) doc.groups
          (within_right group_name group_name group_within (λ m. twice_in m.datastores ≡ []) (λ m h. h) doc.groups groups)
          (each_known datastore_name stores group_datastores doc.groups (groups_known doc u)));
      maps = distinct_keys map_key map_from nothing_within doc.maps maps;
      plans = distinct_keys plan_name plan_name plan_within doc.plans plans;
      in_plans = all_within_right plan_name plan_name plan_within HasNoneTwiceInPlan plan_once doc.plans plans;
    }
