-- Counts of a document that are above their limits.
use Rattle.std.specs.Prelude.{ℕ, List, [], ◌∷◌, ◌++◌, length, flat_map, nat_lt, if◌then◌else◌}
use Rattle.dr_base.specs.declared.estate_fault.EstateFault.{EstateFault}
use Rattle.dr_base.specs.declared.estate_fault.EstateFault.TheVariants as fault
use Rattle.dr_base.specs.declared.estate_fault.Limit.{Limit}
use Rattle.dr_base.specs.declared.estate_fault.Limit.TheVariants.{Machines, Devices, Datastores, Consistency, Groups, Maps, Plans, MachineDatastores, DatastoreDevices, PlanSteps, PlanAfter, PlanBefore, PlanThen}
use Rattle.dr_inventory.specs.declared.estate.PlanMachineRow.{PlanMachineRow}
use Rattle.dr_inventory.specs.declared.estate.PlanRow.{PlanRow}
use Rattle.dr_inventory.specs.declared.document.MachineEntry.{MachineEntry}
use Rattle.dr_inventory.specs.declared.document.DatastoreEntry.{DatastoreEntry}
use Rattle.dr_inventory.specs.declared.document.Document.{Document}
use Rattle.dr_inventory.specs.Rules.{devices}

-- a count that is above its limit
abbrev pub limit : Limit → ℕ → ℕ → List EstateFault
limit kind most count = if nat_lt most count then fault.Limit kind count ∷ [] else []

-- the datastores of a machine
abbrev pub machine_limits : MachineEntry → List EstateFault
machine_limits m = limit MachineDatastores 16 (length m.datastores)

-- the devices of a datastore
abbrev pub datastore_limits : DatastoreEntry → List EstateFault
datastore_limits d = limit DatastoreDevices 16 (length d.devices)

-- the dependencies and the commands of a machine in a plan
abbrev pub plan_machine_limits : PlanMachineRow → List EstateFault
plan_machine_limits m = limit PlanAfter 32 (length m.after) ++ (limit PlanBefore 2 (length m.before) ++ limit PlanThen 2 (length m.then))

-- the steps of a plan, then row by row what it says of machines
abbrev pub plan_limits : PlanRow → List EstateFault
plan_limits p = limit PlanSteps 64 (length p.step) ++ flat_map plan_machine_limits p.machine

-- the counts of the whole, then those of each row
abbrev pub limits : Document → List EstateFault
limits doc = limit Machines 2000 (length doc.machines)
    ++ (limit Devices 1024 (length (devices doc))
    ++ (limit Datastores 1024 (length doc.datastores)
    ++ (limit Consistency 1024 (length doc.consistency)
    ++ (limit Groups 256 (length doc.groups)
    ++ (limit Maps 4096 (length doc.maps)
    ++ (limit Plans 64 (length doc.plans)
    ++ (flat_map machine_limits doc.machines
    ++ (flat_map datastore_limits doc.datastores
    ++ flat_map plan_limits doc.plans))))))))
