-- The tables of machines, storage and groups: their keys in order, and the rows that they stand for.
use Rattle.std.specs.Prelude.{ℕ, List, [], ◌∷◌, codes, bytes_eq, Option, Some, None, if◌then◌else◌}
use Rattle.toml.specs.Data.{Members}
use Rattle.dr_base.specs.declared.side.Side.{Side}
use Rattle.dr_base.specs.declared.side.Side.TheVariants.{A, B}
use Rattle.dr_inventory.specs.declared.document.MachineEntry.{MachineEntry}
use Rattle.dr_inventory.specs.declared.document.DatastoreEntry.{DatastoreEntry}
use Rattle.dr_inventory.specs.declared.document.ConsistencyEntry.{ConsistencyEntry}
use Rattle.dr_inventory.specs.declared.document.GroupEntry.{GroupEntry}
use Rattle.dr_inventory.specs.Part.{Part, found, ◌>>=◌}
use Rattle.dr_inventory.specs.Shapes.{Shape, a_name, a_path, a_word, no_name, list_of, required, only}

-- a machine
unfoldable pub machine : List ℕ → Members → Part MachineEntry
machine path t = do
  name ← required a_name path t (codes "name")
  network ← required a_name path t (codes "network")
  folder ← required a_path path t (codes "folder")
  pool ← required a_name path t (codes "pool")
  datastores ← required (list_of 1 a_name) path t (codes "datastores")
  nothing_else ← only (codes "name" ∷ codes "network" ∷ codes "folder" ∷ codes "pool" ∷ codes "datastores" ∷ []) path t
  found (record { name = name; network = network; folder = folder; pool = pool; datastores = datastores })

-- a datastore
unfoldable pub datastore : List ℕ → Members → Part DatastoreEntry
datastore path t = do
  name ← required a_name path t (codes "name")
  devices ← required (list_of 1 a_name) path t (codes "devices")
  nothing_else ← only (codes "name" ∷ codes "devices" ∷ []) path t
  found (record { name = name; devices = devices })

-- a consistency group
unfoldable pub consistency : List ℕ → Members → Part ConsistencyEntry
consistency path t = do
  name ← required a_name path t (codes "name")
  devices ← required (list_of 1 a_name) path t (codes "devices")
  nothing_else ← only (codes "name" ∷ codes "devices" ∷ []) path t
  found (record { name = name; devices = devices })

-- the side that a word names
abbrev pub side_of : List ℕ → Option Side
side_of s = if bytes_eq s (codes "A") then Some A else (if bytes_eq s (codes "B") then Some B else None)

-- the word of a side
abbrev pub a_side : Shape Side
a_side = a_word side_of A

-- a protection group
unfoldable pub group : List ℕ → Members → Part GroupEntry
group path t = do
  name ← required a_name path t (codes "name")
  protects ← required a_side path t (codes "protects")
  datastores ← required (list_of 1 a_name) path t (codes "datastores")
  nothing_else ← only (codes "name" ∷ codes "protects" ∷ codes "datastores" ∷ []) path t
  found (record { name = name; protects = protects; datastores = datastores })

-- what stands in for a row that is no table
abbrev pub no_machine : MachineEntry
no_machine = record { name = no_name; network = no_name; folder = no_name; pool = no_name; datastores = [] }

-- the same for a datastore
abbrev pub no_datastore : DatastoreEntry
no_datastore = record { name = no_name; devices = [] }

-- the same for a consistency group
abbrev pub no_consistency : ConsistencyEntry
no_consistency = record { name = no_name; devices = [] }

-- the same for a protection group
abbrev pub no_group : GroupEntry
no_group = record { name = no_name; protects = A; datastores = [] }
