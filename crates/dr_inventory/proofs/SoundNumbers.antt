-- The numbers of an estate that is read lie within its lists.
use Rattle.std.proofs.Common.{◌≡◌, ℕ, ◌<◌, List, [], ◌∷◌, length, map, flat_map, Option, Some, None, unwrap_or, IfSome, arith}
use Rattle.std.specs.List.{AllByRecursion, All}
use Rattle.std.proofs.lemmas.List.{length-map}
use Rattle.std.proofs.lemmas.List.Elements.{All-from_recursion, All-nil}
use Rattle.dr_base.specs.declared.estate_fault.EstateFault.TheVariants.{Unknown}
use Rattle.dr_inventory.specs.declared.document.ConsistencyEntry.{ConsistencyEntry}
use Rattle.dr_inventory.specs.declared.document.Document.{Document}
use Rattle.dr_inventory.specs.Names.{unknown, place, number}
use Rattle.dr_inventory.specs.Rules.{datastore_name, datastore_devices, machine_datastores, group_datastores, devices, unknown_faults}
use Rattle.dr_inventory.specs.Numbers.{machine_of, datastore_of, group_of, consistency_of, least_in, datastore_number, device_number, estate_of}
use Rattle.dr_inventory.specs.Sound.{HasNumbersWithin, AllBelow}
use Rattle.dr_inventory.proofs.Apart.{all_below, each_known, known_itself}
use Rattle.dr_inventory.proofs.Empty.{map_empty, front_empty, back_empty}
use Rattle.dr_inventory.proofs.LeastLaws.{least_in_small}
use Rattle.dr_inventory.proofs.PlaceLaws.{place_within}

known_images : {X Y Z : Type 0} (name : X → List ℕ) (rows : List X) (names : Y → List (List ℕ)) (g : Y → Z) (P : Z → Type 0) → ((y : Y) → unknown name rows (names y) ≡ [] → P (g y))
    → (ys : List Y) → AllByRecursion (λ y. unknown name rows (names y) ≡ []) ys → AllByRecursion P (map g ys)
known_images name rows names g P each [] h = tt
known_images name rows names g P each (y ∷ ys) h = (each y h.0, known_images name rows names g P each ys h.1)

-- rows of which all names are known have a fact that this gives each
pub all_known_images : {X Y Z : Type 0} (name : X → List ℕ) (rows : List X) (names : Y → List (List ℕ)) (g : Y → Z) (P : Z → Type 0) → ((y : Y) → unknown name rows (names y) ≡ [] → P (g y))
    → (ys : List Y) → unknown name rows (flat_map names ys) ≡ [] → All P (map g ys)
all_known_images name rows names g P each ys h = All-from_recursion P (map g ys) (known_images name rows names g P each ys (each_known name rows names ys h))

value_below : (o : Option ℕ) (k most : ℕ) → k < most → IfSome o (λ n. n < most) → unwrap_or o k < most
value_below None k most h i = h
value_below (Some n) k most h i = i

entries_below : (f : List ℕ → ℕ) (most : ℕ) → 0 < most → ((n : List ℕ) → f n < most) → (cs : List ConsistencyEntry) (ns : List (List ℕ)) → AllByRecursion (λ k. k < most) (map (consistency_of f cs) ns)
entries_below f most some small cs [] = tt
entries_below f most some small cs (n ∷ ns) = (value_below (least_in f cs n) (f n) most (small n) (least_in_small f most some small cs n), entries_below f most some small cs ns)

consistency_below : (cs : List ConsistencyEntry) (ds : List (List ℕ)) → All (λ k. k < length ds) (map (consistency_of (number (λ d. d) ds) cs) ds)
consistency_below cs [] = All-nil (λ k. k < 0)
consistency_below cs (d ∷ ds) =
    let some : 0 < length (d ∷ ds) = omega arith in
    All-from_recursion (λ k. k < length (d ∷ ds)) (map (consistency_of (number (λ d. d) (d ∷ ds)) cs) (d ∷ ds))
    (entries_below (number (λ d. d) (d ∷ ds)) (length (d ∷ ds)) some (λ n. value_below (place (λ d. d) (d ∷ ds) n) 0 (length (d ∷ ds)) some (place_within (λ d. d) (d ∷ ds) n)) cs (d ∷ ds))

pub machines_known : (doc : Document) → unknown_faults doc ≡ [] → unknown datastore_name doc.datastores (flat_map machine_datastores doc.machines) ≡ []
machines_known doc h = map_empty (λ n. Unknown n) (unknown datastore_name doc.datastores (flat_map machine_datastores doc.machines)) (front_empty _ _ h)

pub groups_known : (doc : Document) → unknown_faults doc ≡ [] → unknown datastore_name doc.datastores (flat_map group_datastores doc.groups) ≡ []
groups_known doc h = map_empty (λ n. Unknown n) (unknown datastore_name doc.datastores (flat_map group_datastores doc.groups)) (back_empty _ _ (back_empty _ _ h))

pub numbers_within : (doc : Document) → unknown_faults doc ≡ [] → HasNumbersWithin (estate_of doc)
numbers_within doc h =
    let f = datastore_number doc in
    let g = device_number doc in
    let same : length (map (datastore_of g) doc.datastores) ≡ length doc.datastores = length-map doc.datastores (datastore_of g) in
    record {
      machine_datastores = all_known_images datastore_name doc.datastores machine_datastores (machine_of f) (λ m. AllBelow (length (map (datastore_of g) doc.datastores)) m.datastores)
          (λ m known. rw same (all_below datastore_name doc.datastores m.datastores known)) doc.machines (machines_known doc h);
      datastore_devices = all_known_images (λ d. d) (devices doc) datastore_devices (datastore_of g) (λ d. AllBelow (length (devices doc)) d.devices)
          (λ d known. all_below (λ n. n) (devices doc) d.devices known) doc.datastores (known_itself (devices doc));
      consistency = consistency_below doc.consistency (devices doc);
      one_entry_each = length-map (devices doc) (consistency_of g doc.consistency);
      group_datastores = all_known_images datastore_name doc.datastores group_datastores (group_of f) (λ m. AllBelow (length (map (datastore_of g) doc.datastores)) m.datastores)
          (λ m known. rw same (all_below datastore_name doc.datastores m.datastores known)) doc.groups (groups_known doc h);
    }
