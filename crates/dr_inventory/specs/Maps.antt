-- The tables of maps, and what makes a map a second one of its kind, side and start.
use Rattle.std.specs.Prelude.{ℕ, List, [], ◌∷◌, codes, bytes_eq, Option, Some, None, if◌then◌else◌}
use Rattle.toml.specs.Data.{Members}
use Rattle.dr_base.specs.declared.side.Side.{Side}
use Rattle.dr_base.specs.declared.side.Side.TheVariants.{A, B}
use Rattle.dr_base.specs.declared.placement.Kind.{Kind}
use Rattle.dr_base.specs.declared.placement.Kind.TheVariants.{Network, Folder, Pool, Test}
use Rattle.dr_inventory.specs.declared.estate.MapRow.{MapRow}
use Rattle.dr_inventory.specs.Part.{Part, found, ◌>>=◌}
use Rattle.dr_inventory.specs.Shapes.{Shape, a_name, a_path, a_word, no_name, required, only}
use Rattle.dr_inventory.specs.Tables.{a_side}

-- the kind that a word names
abbrev pub kind_of : List ℕ → Option Kind
kind_of s = if bytes_eq s (codes "network") then Some Network else (if bytes_eq s (codes "folder") then Some Folder else (if bytes_eq s (codes "pool") then Some Pool else (if bytes_eq s (codes "test") then Some Test else None)))

-- the word of a kind
abbrev pub a_kind : Shape Kind
a_kind = a_word kind_of Network

-- what a map of this kind leads from and to: folders are mapped to folders, all else name to name
abbrev pub a_place : Kind → Shape (List ℕ)
a_place Network = a_name
a_place Folder = a_path
a_place Pool = a_name
a_place Test = a_name

-- a map
unfoldable pub map_row : List ℕ → Members → Part MapRow
map_row path t = do
  kind ← required a_kind path t (codes "kind")
  side ← required a_side path t (codes "side")
  from ← required (a_place kind) path t (codes "from")
  to ← required (a_place kind) path t (codes "to")
  nothing_else ← only (codes "kind" ∷ codes "side" ∷ codes "from" ∷ codes "to" ∷ []) path t
  found (record { kind = kind; side = side; from = from; to = to })

-- what stands in for a map that is no table
abbrev pub no_map : MapRow
no_map = record { kind = Network; side = A; from = no_name; to = no_name }

-- a number for each kind and side
abbrev pub tag_of : Kind → Side → ℕ
tag_of Network A = 0
tag_of Network B = 1
tag_of Folder A = 2
tag_of Folder B = 3
tag_of Pool A = 4
tag_of Pool B = 5
tag_of Test A = 6
tag_of Test B = 7

-- kind, side and start of a map, which no two maps share
abbrev pub map_key : MapRow → List ℕ
map_key m = tag_of m.kind m.side ∷ m.from

-- what a map maps
abbrev pub map_from : MapRow → List ℕ
map_from m = m.from
