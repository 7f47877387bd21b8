-- Which map counts doesn't hang on the order of the maps.
use Rattle.std.proofs.Common.{◌≡◌, ◌∙◌, ℕ, ◌≤◌, true, false, nat_le, bytes_eq, List, [], ◌∷◌, length, take, filter, Option, Some, None, option_map, Ok, slice_get, refl, sym, ap, arith}
use Rattle.std.specs.List.{Contains, find}
use Rattle.std.proofs.lemmas.Bool.{and_parts, leb-true}
use Rattle.std.proofs.lemmas.List.Elements.{All-contains, All-weaker, All-contains_itself, filter_passes}
use Rattle.std.proofs.lemmas.List.Sums.{AllPass-from_list_all, list_all-from_AllPass}
use Rattle.std.proofs.lemmas.Slice.Eq.{bytes_eq-Decides}
use Rattle.dr_base.specs.Sides.{same_side}
use Rattle.dr_base.specs.declared.side.Side.{Side}
use Rattle.dr_base.specs.declared.side.Side.TheVariants.{A, B}
use Rattle.dr_base.specs.declared.placement.Kind.{Kind}
use Rattle.dr_base.specs.declared.placement.Kind.TheVariants.{Network, Folder, Pool, Test}
use Rattle.dr_inventory.specs.declared.estate.MapRow.{MapRow}
use Rattle.dr_inventory.specs.declared.estate.Machine.{Machine}
use Rattle.dr_inventory.specs.declared.estate.Estate.{Estate}
use Rattle.dr_inventory.specs.Maps.{tag_of, map_key}
use Rattle.dr_inventory.specs.Sound.{IsSoundEstate}
use Rattle.dr_mappings.specs.Lookups.{same_kind, is_for, leads_from, mapped, covers, is_at_or_above, nearest, mapped_folder}
use Rattle.dr_mappings.specs.Placements.{place_of}
use Rattle.dr_mappings.proofs.AboveLaws.{front_of}
use Rattle.dr_mappings.proofs.ListLaws.{contains_none, find_passes, filter_keeps, filter_within, one_of_a_key}
use Rattle.dr_mappings.proofs.NearestLaws.{none_longer, nearest_of_some}

kind_is : (a b : Kind) → same_kind a b ≡ true → a ≡ b
kind_is Network Network h = refl
kind_is Folder Folder h = refl
kind_is Pool Pool h = refl
kind_is Test Test h = refl
kind_is _ _ h = cc

side_is : (a b : Side) → same_side a b ≡ true → a ≡ b
side_is A A h = refl
side_is A B h = cc
side_is B A h = cc
side_is B B h = refl

-- kind and side of a map
tag_is : (kind : Kind) (side : Side) (m : MapRow) → is_for kind side m ≡ true → tag_of m.kind m.side ≡ tag_of kind side
tag_is kind side m h =
    let both = and_parts (same_kind m.kind kind) (same_side m.side side) h in
    ap (λ k. tag_of k m.side) (kind_is m.kind kind both.0) ∙ ap (tag_of kind) (side_is m.side side both.1)

name_key : (kind : Kind) (side : Side) (name : List ℕ) (m : MapRow) → leads_from kind side name m ≡ true → map_key m ≡ tag_of kind side ∷ name
name_key kind side name m h =
    let both = and_parts (is_for kind side m) (bytes_eq m.from name) h in
    ap (λ t. t ∷ m.from) (tag_is kind side m both.0) ∙ ap (λ xs. tag_of kind side ∷ xs) ((bytes_eq-Decides m.from name).0 both.1)

folder_key : (side : Side) (folder : List ℕ) (m : MapRow) → covers side folder m ≡ true → map_key m ≡ tag_of Folder side ∷ take (length m.from) folder
folder_key side folder m h =
    let both = and_parts (is_for Folder side m) (is_at_or_above m.from folder) h in
    ap (λ t. t ∷ m.from) (tag_is Folder side m both.0) ∙ ap (λ xs. tag_of Folder side ∷ xs) (front_of m.from folder both.1)

-- a map of this kind, side and name is the one that counts
pub one_counts : (e : Estate) (kind : Kind) (side : Side) (name : List ℕ) (m : MapRow) → IsSoundEstate e → Contains e.maps m → leads_from kind side name m ≡ true → mapped e.maps kind side name ≡ Some m.to
one_counts e kind side name m sound here leads =
    let test = leads_from kind side name in
    let r = find_passes test e.maps m here leads in
    let same : r.0 ≡ m = one_of_a_key map_key e.maps r.0 m sound.none_twice.maps r.2 here (name_key kind side name r.0 r.3 ∙ sym (name_key kind side name m leads)) in
    ap (option_map (λ (x : MapRow). x.to)) r.1 ∙ ap (λ (x : MapRow). Some x.to) same

some_to : (o : Option MapRow) (m : MapRow) → o ≡ Some m → ¬ (option_map (λ x. x.to) o ≡ None)
some_to None m e none = cc
some_to (Some x) m e none = cc

none_to : (o : Option MapRow) → option_map (λ x. x.to) o ≡ None → o ≡ None
none_to None h = refl
none_to (Some x) h = cc

pub none_leads : (e : Estate) (kind : Kind) (side : Side) (name : List ℕ) (m : MapRow) → mapped e.maps kind side name ≡ None → Contains e.maps m → ¬ (leads_from kind side name m ≡ true)
none_leads e kind side name m none here leads =
    let r = find_passes (leads_from kind side name) e.maps m here leads in
    some_to (find (leads_from kind side name) e.maps) r.0 r.1 none

-- a map that covers the folder, and none from a longer one, is the one that counts
pub nearest_counts : (e : Estate) (side : Side) (folder : List ℕ) (m : MapRow) → IsSoundEstate e → Contains e.maps m → covers side folder m ≡ true
    → ((other : MapRow) → Contains e.maps other → covers side folder other ≡ true → length other.from ≤ length m.from) → mapped_folder e.maps side folder ≡ Some m.to
nearest_counts e side folder m sound here covered longest =
    let test = covers side folder in
    let among = filter test e.maps in
    let within = filter_keeps test e.maps m here covered in
    let passes = λ (other : MapRow) (h : Contains among other). All-contains (λ x. test x ≡ true) among other (filter_passes test e.maps) h in
    let none = list_all-from_AllPass (λ other. nat_le (length other.from) (length m.from)) among
    (All-weaker (Contains among) (λ other. nat_le (length other.from) (length m.from) ≡ true) (λ other h. le_true (length other.from) (length m.from) (longest other (filter_within test e.maps other h) (passes other h))) among (All-contains_itself among)) in
    let r = find_passes (none_longer among) among m within none in
    let long : length r.0.from ≡ length m.from = omega (
      arith,
      longest r.0 (filter_within test e.maps r.0 r.2) (passes r.0 r.2),
      leb-true (length m.from) (length r.0.from) (All-contains (λ other. nat_le (length other.from) (length r.0.from) ≡ true) among m (AllPass-from_list_all (λ other. nat_le (length other.from) (length r.0.from)) among r.3) within),
    ) in
    let same : r.0 ≡ m = one_of_a_key map_key e.maps r.0 m sound.none_twice.maps (filter_within test e.maps r.0 r.2) here
    (folder_key side folder r.0 (passes r.0 r.2) ∙ ap (λ n. tag_of Folder side ∷ take n folder) long ∙ sym (folder_key side folder m covered)) in
    ap (option_map (λ (x : MapRow). x.to)) r.1 ∙ ap (λ (x : MapRow). Some x.to) same
  where
    le_true : (a b : ℕ) → a ≤ b → nat_le a b ≡ true
    le_true a b h = grind (arith, h)

some_nearest : (maps : List MapRow) (m : MapRow) → Contains maps m → ¬ (nearest maps ≡ None)
some_nearest [] m h none = contains_none m h
some_nearest (x ∷ maps) m h none = nearest_of_some x maps none

pub none_covers : (e : Estate) (side : Side) (folder : List ℕ) (m : MapRow) → mapped_folder e.maps side folder ≡ None → Contains e.maps m → ¬ (covers side folder m ≡ true)
none_covers e side folder m none here covered =
    let among = filter (covers side folder) e.maps in
    some_nearest among m (filter_keeps (covers side folder) e.maps m here covered) (none_to (nearest among) none)

-- at home nothing is mapped
pub home_own : (e : Estate) (machine : ℕ) (row : Machine) (home : Side) → slice_get e.machines machine ≡ Some row → place_of e machine home home false ≡ Ok (record { network = row.network; folder = row.folder; pool = row.pool })
unfolding place_of
home_own e machine row A found = rw found refl
home_own e machine row B found = rw found refl
