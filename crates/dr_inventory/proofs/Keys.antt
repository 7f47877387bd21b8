-- The keys of a table that are not known.
use Rattle.std.proofs.Common.{◌≡◌, ℕ, Bool, true, false, List, [], ◌∷◌, map, Ok, Err, String, Global, string_bytes, refl, ap}
use Rattle.std.specs.Map.{keys_of as entry_keys}
use Rattle.toml.specs.Data.{Members}
use Rattle.toml.specs.View.{members_view}
use Rattle.toml.specs.declared.value.Value.{Value}
use Rattle.dr_base.specs.declared.estate_fault.EstateFault.TheVariants.{Key}
use Rattle.dr_inventory.specs.Part.{outcome}
use Rattle.dr_inventory.specs.Shapes.{keys_of, is_named, unnamed, only, below, shown}

pub keys_view : (es : List (String Global × Value)) → keys_of (members_view es) ≡ map string_bytes (entry_keys es)
keys_view [] = refl
keys_view (e ∷ es) = ap (λ ks. string_bytes e.0 ∷ ks) (keys_view es)

pub only_first : (strict : Bool) (names : List (List ℕ)) (path : List ℕ) (ms : Members) (k : List ℕ) (ks : List (List ℕ)) → unnamed names (keys_of ms) ≡ k ∷ ks → outcome strict (only names path ms) ≡ Err (Key (below path (shown k)))
unfolding outcome only
only_first strict names path ms k ks h = rw h refl

pub only_none : (strict : Bool) (names : List (List ℕ)) (path : List ℕ) (ms : Members) → unnamed names (keys_of ms) ≡ [] → outcome strict (only names path ms) ≡ Ok tt
unfolding outcome only
only_none strict names path ms h = rw h refl

-- the first key of some is one of the names, or is not
pub is_one : (names : List (List ℕ)) (k : List ℕ) (ks : List (List ℕ)) → is_named names k ≡ true → unnamed names (k ∷ ks) ≡ unnamed names ks
is_one names k ks h = rw h refl

pub is_none : (names : List (List ℕ)) (k : List ℕ) (ks : List (List ℕ)) → is_named names k ≡ false → unnamed names (k ∷ ks) ≡ k ∷ unnamed names ks
is_none names k ks h = rw h refl
