-- Rows of an estate and what they link.
use Rattle.std.proofs.Common.{◌≡◌, ◌↔◌, ◌∙◌, ℕ, ◌+◌, ◌<◌, List, length, get_or, set, get_or-set_same, get_or-set_other, take, drop, ◌++◌, Option, Some, slice_get, inl, inr, refl, sym, ap, subst, arith, unwrap_or}
use Rattle.std.proofs.Math.Seq.{take-append_seam}
use Rattle.std.specs.List.{Contains}
use Rattle.std.proofs.lemmas.Bool.{cases_lt, cases_eq}
use Rattle.std.proofs.lemmas.List.{get_or_default}
use Rattle.std.proofs.lemmas.List.Elements.{Contains-get_or, All-contains, All-get_or}
use Rattle.std.proofs.lemmas.Option.{slice_get_read, slice_get_within, get_or_from_slice_get}
use Rattle.dr_inventory.specs.declared.estate.Machine.{Machine}
use Rattle.dr_inventory.specs.declared.estate.Datastore.{Datastore}
use Rattle.dr_inventory.specs.declared.estate.Estate.{Estate}
use Rattle.dr_inventory.specs.Sound.{AllBelow, IsSoundEstate}
use Rattle.dr_groups.specs.Links.{HasDevice, IsLinked, SameClass}
use Rattle.dr_groups.specs.Trees.{HasEntry, IsLed}
use Rattle.dr_groups.proofs.ChainLaws.{same_class-link, same_class-within}

-- a row that was read from a list that is the same
pub row_found : {X : Type 0} (xs ys : List X) (i : ℕ) (x : X) → ys ≡ xs → i < length xs → x ≡ get_or ys i x → slice_get xs i ≡ Some x
row_found xs ys i x same within read = slice_get_read xs (length xs) i x refl within (read ∙ ap (λ zs. get_or zs i x) same)

pub contained_found : {X : Type 0} (xs : List X) (x : X) → Contains xs x → (k : ℕ) × (slice_get xs k ≡ Some x)
contained_found xs x h = (h.0, slice_get_read xs (length xs) h.0 x refl h.1 (sym h.2))

pub found_contained : {X : Type 0} (xs : List X) (k : ℕ) (x : X) → slice_get xs k ≡ Some x → Contains xs x
found_contained xs k x h = (k, slice_get_within xs k x h, get_or_from_slice_get xs k x x h)

-- the number at a place of a list that contains it
pub contained_at : (xs : List ℕ) (x : ℕ) → Contains xs x → (k : ℕ) × (k < length xs) × (get_or xs k 0 ≡ x)
contained_at xs x h = (h.0, h.1, get_or_default xs h.0 0 x h.1 ∙ h.2)

-- one place holds one row
pub found_same : {X : Type 0} (o : Option X) (x y : X) → o ≡ Some x → o ≡ Some y → x ≡ y
found_same o x y p q = ap (λ z. unwrap_or z x) (sym p ∙ q)

-- the devices of a datastore's row
pub devices_named : (e : Estate) (d : ℕ) (row : Datastore) (devices : List ℕ) → slice_get e.datastores d ≡ Some row → devices ≡ row.devices → (v : ℕ) → Contains devices v ↔ HasDevice e d v
devices_named e d row devices found same v =
    let P : List ℕ → Type 0 = λ xs. Contains xs v in (
      λ named. record { row = row; found = found; named = subst P same named },
      λ has. subst P (ap (λ (r : Datastore). r.devices) (found_same (slice_get e.datastores d) has.row row has.found found) ∙ sym same) has.named,
    )

-- the entry of a device that was read
pub entry_read : (e : Estate) (d : ℕ) (devices consistency : List ℕ) (k : ℕ) → ((v : ℕ) → Contains devices v ↔ HasDevice e d v) → consistency ≡ e.consistency
    → k < length devices → HasEntry e d (get_or consistency (get_or devices k 0) 0)
entry_read e d devices consistency k named entries within = record {
  device = get_or devices k 0;
  named = (named (get_or devices k 0)).0 (Contains-get_or devices k 0 within);
  is = ap (λ xs. get_or xs (get_or devices k 0) 0) (sym entries);
}

-- the place of a device that has an entry
pub entry_place : (e : Estate) (d : ℕ) (devices consistency : List ℕ) (entry : ℕ) → ((v : ℕ) → Contains devices v ↔ HasDevice e d v) → consistency ≡ e.consistency → HasEntry e d entry
    → (k : ℕ) × (k < length devices) × (get_or consistency (get_or devices k 0) 0 ≡ entry)
entry_place e d devices consistency entry named entries has =
    let at = contained_at devices has.device ((named has.device).1 has.named) in
    (at.0, at.1, ap (λ n. get_or consistency n 0) at.2 ∙ ap (λ xs. get_or xs has.device 0) entries ∙ has.is)

pub device_within : (e : Estate) (d v : ℕ) → HasDevice e d v → d < length e.datastores
device_within e d v h = slice_get_within e.datastores d h.row h.found

pub entry_linked : (e : Estate) (a b entry : ℕ) → HasEntry e a entry → HasEntry e b entry → IsLinked e a b
entry_linked e a b entry p q = inr (record { device = p.device; other = q.device; first = p.named; second = q.named; same = p.is ∙ sym q.is })

-- a machine's datastores are declared
pub machine_below : (e : Estate) (m : Machine) (d : ℕ) → IsSoundEstate e → Contains e.machines m → Contains m.datastores d → d < length e.datastores
machine_below e m d sound declared named =
    All-contains (λ k. k < length e.datastores) m.datastores d (All-contains (λ m. AllBelow (length e.datastores) m.datastores) e.machines m sound.numbers.machine_datastores declared) named

pub machine_linked : (e : Estate) (m : Machine) (a b : ℕ) → Contains e.machines m → Contains m.datastores a → Contains m.datastores b → SameClass e a b
machine_linked e m a b declared first second = same_class-link e a b (inl (record { machine = m; declared = declared; first = first; second = second }))

-- an element of a list that is read from one that is the same
pub contained_read : (xs ys : List ℕ) (k : ℕ) → xs ≡ ys → k < length xs → Contains ys (get_or xs k 0)
contained_read xs ys k same within = let P : List ℕ → Type 0 = λ zs. Contains zs (get_or xs k 0) in subst P same (Contains-get_or xs k 0 within)

-- a device's entry, and its leader, lie within the lists
pub device_below : (e : Estate) (d v : ℕ) → IsSoundEstate e → HasDevice e d v → v < length e.devices
device_below e d v sound h =
    All-contains (λ k. k < length e.devices) h.row.devices v (All-contains (λ d. AllBelow (length e.devices) d.devices) e.datastores h.row sound.numbers.datastore_devices (found_contained e.datastores d h.row h.found)) h.named

pub entry_below : (e : Estate) (d entry : ℕ) → IsSoundEstate e → HasEntry e d entry → entry < length e.devices
entry_below e d entry sound h =
    let P : ℕ → Type 0 = λ n. n < length e.devices in
    subst P h.is (All-get_or P e.consistency h.device 0 (omega (arith, device_below e d h.device sound h.named, sound.numbers.one_entry_each)) sound.numbers.consistency)

-- an entry that now has this datastore as its leader
pub led_here : (e : Estate) (leaders : List ℕ) (entry d : ℕ) → entry < length leaders → HasEntry e d entry → IsLed e (set leaders entry d) entry
led_here e leaders entry d within has = let P : ℕ → Type 0 = λ n. HasEntry e n entry in subst P (sym (get_or-set_same leaders entry d 0 within)) has

pub led_still : (e : Estate) (leaders : List ℕ) (entry d : ℕ) → entry < length leaders → HasEntry e d entry → (other : ℕ) → IsLed e leaders other → IsLed e (set leaders entry d) other
led_still e leaders entry d within has other led = elim (cases_eq other entry) [
  | inl same ↦ let P : ℕ → Type 0 = λ n. IsLed e (set leaders entry d) n in subst P (sym same) (led_here e leaders entry d within has)
  | inr apart ↦ let P : ℕ → Type 0 = λ n. HasEntry e n other in subst P (sym (get_or-set_other leaders entry other d 0 apart)) led
]

-- one entry more
pub led_more : (e : Estate) (old new : List ℕ) (f : ℕ → ℕ) (i : ℕ) → ((entry : ℕ) → IsLed e old entry → IsLed e new entry) → ((k : ℕ) → k < i → IsLed e old (f k)) → IsLed e new (f i)
    → (k : ℕ) → k < i + 1 → IsLed e new (f k)
led_more e old new f i kept before here k below = elim (cases_lt k i) [
  | inl lower ↦ kept (f k) (before k lower)
  | inr last ↦ let same : k ≡ i = omega arith in let P : ℕ → Type 0 = λ n. IsLed e new (f n) in subst P (sym same) here
]

-- the entries of one datastore more
pub all_led_more : (e : Estate) (old new : List ℕ) (i : ℕ) → ((entry : ℕ) → IsLed e old entry → IsLed e new entry) → ((d entry : ℕ) → d < i → HasEntry e d entry → IsLed e old entry)
    → ((entry : ℕ) → HasEntry e i entry → IsLed e new entry) → (d entry : ℕ) → d < i + 1 → HasEntry e d entry → IsLed e new entry
all_led_more e old new i kept before here d entry below has = elim (cases_lt d i) [
  | inl lower ↦ kept entry (before d entry lower has)
  | inr last ↦ let same : d ≡ i = omega arith in let P : ℕ → Type 0 = λ n. HasEntry e n entry in here entry (subst P same has)
]

-- a `Vec` that was lent as a slice has the slice's items
pub written_back : {X : Type 0} (n : ℕ) (xs ys : List X) → length xs ≡ n → xs ≡ take n (xs ++ drop (length xs) ys)
written_back n xs ys same = sym (ap (λ k. take k (xs ++ drop (length xs) ys)) (sym same) ∙ take-append_seam xs (drop (length xs) ys))

linked_within : (e : Estate) → IsSoundEstate e → (a b : ℕ) → IsLinked e a b → b < length e.datastores
linked_within e sound a b (inl m) = machine_below e m.machine b sound m.declared m.second
linked_within e sound a b (inr s) = device_within e b s.other s.second

-- a class lies within the list of datastores
pub class_within : (e : Estate) (a b : ℕ) → IsSoundEstate e → SameClass e a b → a < length e.datastores → b < length e.datastores
class_within e a b sound same within = same_class-within e (λ n. n < length e.datastores) (linked_within e sound) a b same within
