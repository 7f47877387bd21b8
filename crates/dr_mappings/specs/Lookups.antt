-- Which map counts.
use Rattle.std.specs.Prelude.{ℕ, Bool, true, false, ◌&&◌, nat_le, List, length, bytes_eq, filter, Option}
use Rattle.std.specs.List.{find, list_all, slice_split, starts_with}
use Rattle.std.specs.Option.{option_map}
use Rattle.dr_base.specs.Paths.{is_slash}
use Rattle.dr_base.specs.Sides.{same_side}
use Rattle.dr_base.specs.declared.side.Side.{Side}
use Rattle.dr_base.specs.declared.placement.Kind.{Kind}
use Rattle.dr_base.specs.declared.placement.Kind.TheVariants.{Network, Folder, Pool, Test}
use Rattle.dr_inventory.specs.declared.estate.MapRow.{MapRow}

-- whether two kinds are one
abbrev pub same_kind : Kind → Kind → Bool
same_kind Network Network = true
same_kind Folder Folder = true
same_kind Pool Pool = true
same_kind Test Test = true
same_kind _ _ = false

-- whether a map is of this kind and for this side
abbrev pub is_for : Kind → Side → MapRow → Bool
is_for kind side m = same_kind m.kind kind && same_side m.side side

-- whether a map of this kind and for this side leads from this name
abbrev pub leads_from : Kind → Side → List ℕ → MapRow → Bool
leads_from kind side name m = is_for kind side m && bytes_eq m.from name

-- what a name is mapped to: an estate has one map at most of its kind, side and name
abbrev pub mapped : List MapRow → Kind → Side → List ℕ → Option (List ℕ)
mapped maps kind side name = option_map (λ m. m.to) (find (leads_from kind side name) maps)

-- whether the first folder is the second or one above it: its names are the first names of the second
abbrev pub is_at_or_above : List ℕ → List ℕ → Bool
is_at_or_above above folder = starts_with bytes_eq (slice_split is_slash folder) (slice_split is_slash above)

-- whether a map for this side leads from this folder or from one above it
abbrev pub covers : Side → List ℕ → MapRow → Bool
covers side folder m = is_for Folder side m && is_at_or_above m.from folder

-- the first of these maps than which none leads from a longer folder
abbrev pub nearest : List MapRow → Option MapRow
nearest maps = find (λ m. list_all (λ other. nat_le (length other.from) (length m.from)) maps) maps

-- what a folder is mapped to: of all maps that cover it the nearest counts, and the whole folder becomes what that leads to
abbrev pub mapped_folder : List MapRow → Side → List ℕ → Option (List ℕ)
mapped_folder maps side folder = option_map (λ m. m.to) (nearest (filter (covers side folder) maps))
