-- The rows of an estate, with numbers in place of the names of datastores and devices.
use Rattle.std.specs.Prelude.{ℕ, List, [], ◌∷◌, map, fold, min, Option, Some, None, unwrap_or, if◌then◌else◌}
use Rattle.dr_inventory.specs.declared.document.MachineEntry.{MachineEntry}
use Rattle.dr_inventory.specs.declared.document.DatastoreEntry.{DatastoreEntry}
use Rattle.dr_inventory.specs.declared.document.ConsistencyEntry.{ConsistencyEntry}
use Rattle.dr_inventory.specs.declared.document.GroupEntry.{GroupEntry}
use Rattle.dr_inventory.specs.declared.document.Document.{Document}
use Rattle.dr_inventory.specs.declared.estate.Machine.{Machine}
use Rattle.dr_inventory.specs.declared.estate.Datastore.{Datastore}
use Rattle.dr_inventory.specs.declared.estate.GroupRow.{GroupRow}
use Rattle.dr_inventory.specs.declared.estate.Estate.{Estate}
use Rattle.dr_inventory.specs.Names.{number, is_name_of}
use Rattle.dr_inventory.specs.Rules.{devices, datastore_name}

-- a machine, where the datastores that it names have these numbers
abbrev pub machine_of : (List ℕ → ℕ) → MachineEntry → Machine
machine_of number_of m = record { name = m.name; network = m.network; folder = m.folder; pool = m.pool; datastores = map number_of m.datastores }

-- the same for a datastore and its devices
abbrev pub datastore_of : (List ℕ → ℕ) → DatastoreEntry → Datastore
datastore_of number_of d = record { name = d.name; devices = map number_of d.devices }

-- the same for a protection group and its datastores
abbrev pub group_of : (List ℕ → ℕ) → GroupEntry → GroupRow
group_of number_of g = record { name = g.name; protects = g.protects; datastores = map number_of g.datastores }

-- the least of some numbers, 0 if there are none
abbrev pub least : List ℕ → ℕ
least [] = 0
least (n ∷ ns) = fold min n ns

-- the least device of the first consistency group that names this one
abbrev pub least_in : (List ℕ → ℕ) → List ConsistencyEntry → List ℕ → Option ℕ
least_in number_of [] n = None
least_in number_of (c ∷ cs) n = if is_name_of (λ d. d) n c.devices then Some (least (map number_of c.devices)) else least_in number_of cs n

-- a device's consistency entry: the least device of its group, or the device itself
abbrev pub consistency_of : (List ℕ → ℕ) → List ConsistencyEntry → List ℕ → ℕ
consistency_of number_of groups n = unwrap_or (least_in number_of groups n) (number_of n)

-- a datastore's number in a document
abbrev pub datastore_number : Document → List ℕ → ℕ
datastore_number doc n = number datastore_name doc.datastores n

-- a device's number in a document
abbrev pub device_number : Document → List ℕ → ℕ
device_number doc n = number (λ d. d) (devices doc) n

-- what a document says, with the numbers of its datastores and devices
abbrev pub estate_of : Document → Estate
estate_of doc = record {
  machines = map (machine_of (datastore_number doc)) doc.machines;
  datastores = map (datastore_of (device_number doc)) doc.datastores;
  devices = devices doc;
  consistency = map (consistency_of (device_number doc) doc.consistency) (devices doc);
  groups = map (group_of (datastore_number doc)) doc.groups;
  maps = doc.maps;
  plans = doc.plans;
}
