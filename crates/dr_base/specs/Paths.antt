-- Paths of folders: 1 to 8 names joined by '/', at most 64 bytes in all.
use Rattle.std.specs.Prelude.{ℕ, Bool, ◌&&◌, ◌==◌, nat_le, List, length}
use Rattle.std.specs.List.{list_all, slice_split}
use Rattle.dr_base.specs.Names.{is_name}

-- '/'
abbrev pub is_slash : ℕ → Bool
is_slash b = b == 47

-- whether these bytes are a path
abbrev pub is_path : List ℕ → Bool
is_path bytes = nat_le (length bytes) 64 && nat_le (length (slice_split is_slash bytes)) 8 && list_all is_name (slice_split is_slash bytes)
