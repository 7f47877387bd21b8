-- The maps of a document lead from single names to single names, but for folders.
use Rattle.std.proofs.Common.{◌≡◌, ◌≢◌, ℕ, ◌+◌, Bool, true, false, cond, List, [], Option, Some, None, IsTrue, nat_lt, codes, refl}
use Rattle.std.specs.List.{AllByRecursion, All}
use Rattle.std.proofs.lemmas.List.Elements.{All-from_recursion}
use Rattle.toml.specs.Data.{Data, Items, no_items, item, Members, get_member, as_str, as_array, as_table}
use Rattle.dr_base.specs.Names.{is_name}
use Rattle.dr_base.specs.declared.estate_fault.EstateFault.TheVariants.{Key, BadName}
use Rattle.dr_base.specs.declared.placement.Kind.{Kind}
use Rattle.dr_base.specs.declared.placement.Kind.TheVariants.{Network, Folder, Pool, Test}
use Rattle.dr_inventory.specs.Part.{Part, found, wrong, ◌>>=◌}
use Rattle.dr_inventory.specs.Shapes.{Shape, a_name, no_name, spelled, or_else, below, entry, entries, count, as_list, list_of, as_row, a_row, required, optional}
use Rattle.dr_inventory.specs.Maps.{a_place, map_row, no_map}
use Rattle.dr_inventory.specs.Documents.{document}
use Rattle.dr_inventory.specs.Sound.{HasSingleNames}

chosen : (path s : List ℕ) (b : Bool) → is_name s ≡ b → IsTrue (is_name (cond b (found s) (wrong (BadName path) no_name)).value)
chosen path s true h = h
chosen path s false h = refl

spelled_name : (path : List ℕ) (o : Option (List ℕ)) → IsTrue (is_name (spelled is_name path o).value)
spelled_name path None = refl
spelled_name path (Some s) = chosen path s (is_name s) refl

held_name : (path : List ℕ) (o : Option Data) → IsTrue (is_name (or_else (wrong (Key path) no_name) (a_name.read path) o).value)
held_name path None = refl
held_name path (Some d) = spelled_name path (as_str d)

required_name : (path : List ℕ) (t : Members) (key : List ℕ) → IsTrue (is_name (required a_name path t key).value)
unfolding required
required_name path t key = held_name (below path key) (get_member key t)

single : (kind : Kind) (path : List ℕ) (t : Members) (key : List ℕ) → kind ≢ Folder → IsTrue (is_name (required (a_place kind) path t key).value)
single Network path t key h = required_name path t key
single Folder path t key h = absurd (h refl)
single Pool path t key h = required_name path t key
single Test path t key h = required_name path t key

row_single : (path : List ℕ) (t : Members) → HasSingleNames (map_row path t).value
unfolding map_row ◌>>=◌
row_single path t = record { from = λ h. single _ path t (codes "from") h; to = λ h. single _ path t (codes "to") h }

no_map_single : HasSingleNames no_map
no_map_single = record { from = λ h. refl; to = λ h. refl }

read_single : (path : List ℕ) (o : Option Members) → HasSingleNames (as_row map_row no_map path o).value
read_single path None = no_map_single
read_single path (Some t) = row_single path t

all_entries : {T : Type 0} (shape : Shape T) (P : T → Type 0) → ((path : List ℕ) (d : Data) → P (shape.read path d).value) → (path : List ℕ) (i : ℕ) (ds : Items) → AllByRecursion P (entries shape path i ds).value
unfolding entries ◌>>=◌
all_entries shape P each path i no_items = tt
all_entries shape P each path i (item d ds) = (each (entry path i) d, all_entries shape P each path (i + 1) ds)

long_enough : {T : Type 0} (P : T → Type 0) (b : Bool) (path : List ℕ) (p : Part (List T)) → AllByRecursion P p.value → AllByRecursion P (cond b (wrong (Key path) []) p).value
long_enough P true path p h = tt
long_enough P false path p h = h

all_listed : {T : Type 0} (shape : Shape T) (P : T → Type 0) → ((path : List ℕ) (d : Data) → P (shape.read path d).value) → (least : ℕ) (path : List ℕ) (o : Option Items) → AllByRecursion P (as_list shape least path o).value
all_listed shape P each least path None = tt
all_listed shape P each least path (Some ds) = long_enough P (nat_lt (count ds) least) path (entries shape path 0 ds) (all_entries shape P each path 0 ds)

all_held : {T : Type 0} (shape : Shape T) (P : T → Type 0) → ((path : List ℕ) (d : Data) → P (shape.read path d).value) → (path : List ℕ) (o : Option Data) → AllByRecursion P (or_else (found []) ((list_of 0 shape).read path) o).value
all_held shape P each path None = tt
all_held shape P each path (Some d) = all_listed shape P each 0 path (as_array d)

all_optional : {T : Type 0} (shape : Shape T) (P : T → Type 0) → ((path : List ℕ) (d : Data) → P (shape.read path d).value) → (path : List ℕ) (t : Members) (key : List ℕ) → AllByRecursion P (optional (list_of 0 shape) [] path t key).value
unfolding optional
all_optional shape P each path t key = all_held shape P each (below path key) (get_member key t)

maps_single : (t : Members) → AllByRecursion HasSingleNames (document t).value.maps
unfolding document ◌>>=◌
maps_single t = all_optional (a_row map_row no_map) HasSingleNames (λ path d. read_single path (as_table d)) [] t (codes "map")

pub all_single : (t : Members) → All HasSingleNames (document t).value.maps
all_single t = All-from_recursion HasSingleNames (document t).value.maps (maps_single t)
