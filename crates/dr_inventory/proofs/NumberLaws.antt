-- The estate of a document, from the places that are kept.
use Rattle.std.proofs.Common.{◌≡◌, ◌∙◌, ℕ, List, map, unwrap_or, ap}
use Rattle.dr_inventory.specs.declared.document.Document.{Document}
use Rattle.dr_inventory.specs.declared.estate.Machine.{Machine}
use Rattle.dr_inventory.specs.declared.estate.Datastore.{Datastore}
use Rattle.dr_inventory.specs.declared.estate.GroupRow.{GroupRow}
use Rattle.dr_inventory.specs.declared.estate.Estate.{Estate}
use Rattle.dr_inventory.specs.declared.places.Places.{Places}
use Rattle.dr_inventory.specs.Places.{IsPlacesOf, number_in}
use Rattle.dr_inventory.specs.Rules.{devices}
use Rattle.dr_inventory.specs.Numbers.{machine_of, datastore_of, group_of, consistency_of, datastore_number, device_number, estate_of}

pub datastores_same : (doc : Document) (places : Places) → IsPlacesOf doc places → number_in places.datastores ≡ datastore_number doc
datastores_same doc places known = λ i n. unwrap_or (known.datastores n i) 0

pub devices_same : (doc : Document) (places : Places) → IsPlacesOf doc places → number_in places.devices ≡ device_number doc
devices_same doc places known = λ i n. unwrap_or (known.devices n i) 0

pub estate_is : (doc : Document) (places : Places) → IsPlacesOf doc places → (names : List (List ℕ)) → names ≡ devices doc
    → (machines : List Machine) → machines ≡ map (machine_of (number_in places.datastores)) doc.machines
    → (datastores : List Datastore) → datastores ≡ map (datastore_of (number_in places.devices)) doc.datastores
    → (consistency : List ℕ) → consistency ≡ map (consistency_of (number_in places.devices) doc.consistency) names
    → (groups : List GroupRow) → groups ≡ map (group_of (number_in places.datastores)) doc.groups
    → ◌≡◌ {A = Estate} (record { machines = machines; datastores = datastores; devices = names; consistency = consistency; groups = groups; maps = doc.maps; plans = doc.plans }) (estate_of doc)
estate_is doc places known names named machines m datastores d consistency c groups g =
    let f = datastores_same doc places known in
    let h = devices_same doc places known in
    let m' : machines ≡ map (machine_of (datastore_number doc)) doc.machines = m ∙ ap (λ k. map (machine_of k) doc.machines) f in
    let d' : datastores ≡ map (datastore_of (device_number doc)) doc.datastores = d ∙ ap (λ k. map (datastore_of k) doc.datastores) h in
    let c' : consistency ≡ map (consistency_of (device_number doc) doc.consistency) (devices doc) = c ∙ ap (λ k. map (consistency_of k doc.consistency) names) h ∙ ap (map (consistency_of (device_number doc) doc.consistency)) named in
    let g' : groups ≡ map (group_of (datastore_number doc)) doc.groups = g ∙ ap (λ k. map (group_of k) doc.groups) f in
    λ i. record { machines = m' i; datastores = d' i; devices = named i; consistency = c' i; groups = g' i; maps = doc.maps; plans = doc.plans }
