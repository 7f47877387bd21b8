-- What the rows of a document may not be, beyond their form and their counts.
use Rattle.std.specs.Prelude.{ℕ, List, [], ◌++◌, map, flat_map}
use Rattle.dr_base.specs.declared.estate_fault.EstateFault.{EstateFault}
use Rattle.dr_base.specs.declared.estate_fault.EstateFault.TheVariants.{Twice, Unknown, DeviceTwice}
use Rattle.dr_inventory.specs.declared.estate.PlanMachineRow.{PlanMachineRow}
use Rattle.dr_inventory.specs.declared.estate.PlanRow.{PlanRow}
use Rattle.dr_inventory.specs.declared.document.MachineEntry.{MachineEntry}
use Rattle.dr_inventory.specs.declared.document.DatastoreEntry.{DatastoreEntry}
use Rattle.dr_inventory.specs.declared.document.ConsistencyEntry.{ConsistencyEntry}
use Rattle.dr_inventory.specs.declared.document.GroupEntry.{GroupEntry}
use Rattle.dr_inventory.specs.declared.document.Document.{Document}
use Rattle.dr_inventory.specs.Names.{twice, twice_in, nothing_within, unknown}
use Rattle.dr_inventory.specs.Maps.{map_key, map_from}

-- the name of a machine
abbrev pub machine_name : MachineEntry → List ℕ
machine_name m = m.name

-- the datastores that a machine names
abbrev pub machine_datastores : MachineEntry → List (List ℕ)
machine_datastores m = m.datastores

-- the datastores that a machine names twice
abbrev pub machine_within : MachineEntry → List (List ℕ)
machine_within m = twice_in m.datastores

-- the name of a datastore
abbrev pub datastore_name : DatastoreEntry → List ℕ
datastore_name d = d.name

-- the devices that a datastore names
abbrev pub datastore_devices : DatastoreEntry → List (List ℕ)
datastore_devices d = d.devices

-- the name of a consistency group
abbrev pub consistency_name : ConsistencyEntry → List ℕ
consistency_name c = c.name

-- the devices that a consistency group names
abbrev pub consistency_devices : ConsistencyEntry → List (List ℕ)
consistency_devices c = c.devices

-- the name of a protection group
abbrev pub group_name : GroupEntry → List ℕ
group_name g = g.name

-- the datastores that a protection group names
abbrev pub group_datastores : GroupEntry → List (List ℕ)
group_datastores g = g.datastores

-- the datastores that a protection group names twice
abbrev pub group_within : GroupEntry → List (List ℕ)
group_within g = twice_in g.datastores

-- the machine that a row of a plan speaks of
abbrev pub plan_machine_name : PlanMachineRow → List ℕ
plan_machine_name m = m.name

-- what stands twice in a list of such a row
abbrev pub plan_machine_within : PlanMachineRow → List (List ℕ)
plan_machine_within m = twice_in m.after ++ (twice_in m.before ++ twice_in m.then)

-- the name of a plan
abbrev pub plan_name : PlanRow → List ℕ
plan_name p = p.name

-- machines that a plan speaks of twice, and what stands twice in its lists
abbrev pub plan_within : PlanRow → List (List ℕ)
plan_within p = twice plan_machine_name plan_machine_name plan_machine_within [] p.machine

-- what stands twice: rows of one name, maps of one kind, side and start, and names within a row's lists
abbrev pub twice_faults : Document → List EstateFault
twice_faults doc = map Twice (twice machine_name machine_name machine_within [] doc.machines)
    ++ (map Twice (twice datastore_name datastore_name nothing_within [] doc.datastores)
    ++ (map Twice (twice consistency_name consistency_name nothing_within [] doc.consistency)
    ++ (map Twice (twice group_name group_name group_within [] doc.groups)
    ++ (map Twice (twice map_key map_from nothing_within [] doc.maps)
    ++ map Twice (twice plan_name plan_name plan_within [] doc.plans)))))

-- the devices, as the datastores name them
abbrev pub devices : Document → List (List ℕ)
devices doc = flat_map datastore_devices doc.datastores

-- the devices of consistency groups
abbrev pub grouped_devices : Document → List (List ℕ)
grouped_devices doc = flat_map consistency_devices doc.consistency

-- what isn't declared: datastores of machines, devices of consistency groups, datastores of protection groups
abbrev pub unknown_faults : Document → List EstateFault
unknown_faults doc = map Unknown (unknown datastore_name doc.datastores (flat_map machine_datastores doc.machines))
    ++ (map Unknown (unknown (λ n. n) (devices doc) (grouped_devices doc))
    ++ map Unknown (unknown datastore_name doc.datastores (flat_map group_datastores doc.groups)))

-- devices that datastores name twice, then those that consistency groups name twice
abbrev pub device_faults : Document → List EstateFault
device_faults doc = map DeviceTwice (twice_in (devices doc)) ++ map DeviceTwice (twice_in (grouped_devices doc))
