-- Where a machine runs at a side.
use Rattle.std.specs.Prelude.{ℕ, Bool, List, if◌then◌else◌, Option, Some, None, slice_get, option_and_then, Result, Ok, Err}
use Rattle.std.specs.Option.{option_map}
use Rattle.dr_base.specs.Sides.{same_side}
use Rattle.dr_base.specs.declared.side.Side.{Side}
use Rattle.dr_base.specs.declared.placement.Kind.TheVariants.{Network, Folder, Pool, Test}
use Rattle.dr_base.specs.declared.placement.Placement.{Placement}
use Rattle.dr_base.specs.declared.placement.Unmapped.{Unmapped}
use Rattle.dr_inventory.specs.declared.estate.Estate.{Estate}
use Rattle.dr_mappings.specs.Lookups.{mapped, mapped_folder}

-- what a machine has at a side: at home its own, elsewhere what that is mapped to
abbrev pub at_side : Side → Side → (List ℕ → Option (List ℕ)) → Option (List ℕ) → Option (List ℕ)
at_side home side mapping own = if same_side home side then own else option_and_then mapping own

-- the network of a machine at a side, outside bubbles
abbrev pub network_at : Estate → ℕ → Side → Side → Option (List ℕ)
network_at estate machine home side = at_side home side (mapped estate.maps Network side) (option_map (λ m. m.network) (slice_get estate.machines machine))

-- the folder of a machine at a side
abbrev pub folder_at : Estate → ℕ → Side → Side → Option (List ℕ)
folder_at estate machine home side = at_side home side (mapped_folder estate.maps side) (option_map (λ m. m.folder) (slice_get estate.machines machine))

-- the pool of a machine at a side
abbrev pub pool_at : Estate → ℕ → Side → Side → Option (List ℕ)
pool_at estate machine home side = at_side home side (mapped estate.maps Pool side) (option_map (λ m. m.pool) (slice_get estate.machines machine))

-- the network that is used in place of this one: in a bubble the one that tests use
abbrev pub network_in : Estate → Side → Bool → Option (List ℕ) → Option (List ℕ)
network_in estate side bubble network = if bubble then option_and_then (mapped estate.maps Test side) network else network

-- a placement of a network, a folder, a pool and the network that is used in place of the first, or the first of these four that is missing
abbrev pub placed : ℕ → Side → Option (List ℕ) → Option (List ℕ) → Option (List ℕ) → Option (List ℕ) → Result Placement Unmapped
placed machine side None folder pool used = Err (record { machine = machine; kind = Network; side = side })
placed machine side (Some network) None pool used = Err (record { machine = machine; kind = Folder; side = side })
placed machine side (Some network) (Some folder) None used = Err (record { machine = machine; kind = Pool; side = side })
placed machine side (Some network) (Some folder) (Some pool) None = Err (record { machine = machine; kind = Test; side = side })
placed machine side (Some network) (Some folder) (Some pool) (Some used) = Ok (record { network = used; folder = folder; pool = pool })

-- Where a machine runs at a side, in a bubble or not, or the first map that is missing. `home` is the side at which its own values count.
unfoldable pub place_of : Estate → ℕ → Side → Side → Bool → Result Placement Unmapped
place_of estate machine home side bubble =
    let network = network_at estate machine home side in
    placed machine side network (folder_at estate machine home side) (pool_at estate machine home side) (network_in estate side bubble network)
