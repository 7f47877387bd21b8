-- The lists of an estate that is read keep the limits.
use Rattle.std.proofs.Common.{◌≡◌, ◌≤◌, [], length, flat_map}
use Rattle.std.proofs.lemmas.List.{length-map}
use Rattle.dr_base.specs.declared.estate_fault.EstateFault.TheVariants as fault
use Rattle.dr_base.specs.declared.estate_fault.Limit.TheVariants.{Machines, Devices, Datastores, Consistency, Groups, Maps, Plans, MachineDatastores, DatastoreDevices, PlanSteps, PlanAfter, PlanBefore, PlanThen}
use Rattle.dr_inventory.specs.declared.estate.PlanMachineRow.{PlanMachineRow}
use Rattle.dr_inventory.specs.declared.estate.PlanRow.{PlanRow}
use Rattle.dr_inventory.specs.declared.document.Document.{Document}
use Rattle.dr_inventory.specs.Rules.{devices}
use Rattle.dr_inventory.specs.Limits.{limit, limits, machine_limits, datastore_limits, plan_limits, plan_machine_limits}
use Rattle.dr_inventory.specs.Numbers.{machine_of, datastore_of, group_of, datastore_number, device_number, estate_of}
use Rattle.dr_inventory.specs.Sound.{IsWithinLimits, IsPlanWithin, IsPlanMachineWithin}
use Rattle.dr_inventory.proofs.Empty.{front_empty, back_empty, at_most, all_right, all_images_right}

plan_machine_right : (m : PlanMachineRow) → plan_machine_limits m ≡ [] → IsPlanMachineWithin m
plan_machine_right m h =
    let rest = back_empty (limit PlanAfter 32 (length m.after)) _ h in
    record {
      after = at_most 32 (length m.after) (fault.Limit PlanAfter (length m.after)) (front_empty (limit PlanAfter 32 (length m.after)) _ h);
      before = at_most 2 (length m.before) (fault.Limit PlanBefore (length m.before)) (front_empty (limit PlanBefore 2 (length m.before)) _ rest);
      then_list = at_most 2 (length m.then) (fault.Limit PlanThen (length m.then)) (back_empty (limit PlanBefore 2 (length m.before)) _ rest);
    }

plan_right : (p : PlanRow) → plan_limits p ≡ [] → IsPlanWithin p
plan_right p h = record {
  steps = at_most 64 (length p.step) (fault.Limit PlanSteps (length p.step)) (front_empty (limit PlanSteps 64 (length p.step)) _ h);
  machines = all_right plan_machine_limits IsPlanMachineWithin plan_machine_right p.machine (back_empty (limit PlanSteps 64 (length p.step)) _ h);
}

pub within_limits : (doc : Document) → limits doc ≡ [] → IsWithinLimits (estate_of doc)
within_limits doc h =
    let f = datastore_number doc in
    let g = device_number doc in
    let h1 = back_empty (limit Machines 2000 (length doc.machines)) _ h in
    let h2 = back_empty (limit Devices 1024 (length (devices doc))) _ h1 in
    let h3 = back_empty (limit Datastores 1024 (length doc.datastores)) _ h2 in
    let h4 = back_empty (limit Consistency 1024 (length doc.consistency)) _ h3 in
    let h5 = back_empty (limit Groups 256 (length doc.groups)) _ h4 in
    let h6 = back_empty (limit Maps 4096 (length doc.maps)) _ h5 in
    let h7 = back_empty (limit Plans 64 (length doc.plans)) _ h6 in
    let h8 = back_empty (flat_map machine_limits doc.machines) _ h7 in
    record {
      machines = rw (length-map doc.machines (machine_of f)) (at_most 2000 (length doc.machines) (fault.Limit Machines (length doc.machines)) (front_empty (limit Machines 2000 (length doc.machines)) _ h));
      devices = at_most 1024 (length (devices doc)) (fault.Limit Devices (length (devices doc))) (front_empty (limit Devices 1024 (length (devices doc))) _ h1);
      datastores = rw (length-map doc.datastores (datastore_of g)) (at_most 1024 (length doc.datastores) (fault.Limit Datastores (length doc.datastores)) (front_empty (limit Datastores 1024 (length doc.datastores)) _ h2));
      groups = rw (length-map doc.groups (group_of f)) (at_most 256 (length doc.groups) (fault.Limit Groups (length doc.groups)) (front_empty (limit Groups 256 (length doc.groups)) _ h4));
      maps = at_most 4096 (length doc.maps) (fault.Limit Maps (length doc.maps)) (front_empty (limit Maps 4096 (length doc.maps)) _ h5);
      plans = at_most 64 (length doc.plans) (fault.Limit Plans (length doc.plans)) (front_empty (limit Plans 64 (length doc.plans)) _ h6);
      machine_datastores = all_images_right machine_limits (machine_of f) (λ m. length m.datastores ≤ 16)
          (λ m few. rw (length-map m.datastores f) (at_most 16 (length m.datastores) (fault.Limit MachineDatastores (length m.datastores)) few)) doc.machines (front_empty (flat_map machine_limits doc.machines) _ h7);
      datastore_devices = all_images_right datastore_limits (datastore_of g) (λ d. length d.devices ≤ 16)
          (λ d few. rw (length-map d.devices g) (at_most 16 (length d.devices) (fault.Limit DatastoreDevices (length d.devices)) few)) doc.datastores (front_empty (flat_map datastore_limits doc.datastores) _ h8);
      in_plans = all_right plan_limits IsPlanWithin plan_right doc.plans (back_empty (flat_map datastore_limits doc.datastores) _ h8);
    }
