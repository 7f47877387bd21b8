-- Maps that keep the places of names.
use Rattle.std.specs.Prelude.{ℕ, List, ◌≡◌, ◌<◌, ◌^◌, IfSome, unwrap_or}
use Rattle.std.specs.Ordering.{nat_cmp}
use Rattle.std.specs.Cmp.Lexicographic.{slice_cmp}
use Rattle.std.specs.BTreeMap.{BTreeMap, get}
use Rattle.dr_inventory.specs.declared.document.Document.{Document}
use Rattle.dr_inventory.specs.declared.places.Places.{Places}
use Rattle.dr_inventory.specs.Names.{place}
use Rattle.dr_inventory.specs.Rules.{devices, datastore_name}

-- the places of a document's datastores and devices
pub record IsPlacesOf (doc : Document) (places : Places) : Type 0 where
  pub datastores : (q : List ℕ) → get (slice_cmp nat_cmp) places.datastores q ≡ place datastore_name doc.datastores q
  pub devices : (q : List ℕ) → get (slice_cmp nat_cmp) places.devices q ≡ place (λ n. n) (devices doc) q

-- each number that is kept fits 32 bits
abbrev pub AllFit : BTreeMap (List ℕ) ℕ → Type 0
AllFit numbers = (q : List ℕ) → IfSome (get (slice_cmp nat_cmp) numbers q) (λ k. k < 2 ^ 32)

-- the number that is kept for a name, 0 if none is
abbrev pub number_in : BTreeMap (List ℕ) ℕ → List ℕ → ℕ
number_in numbers n = unwrap_or (get (slice_cmp nat_cmp) numbers n) 0
