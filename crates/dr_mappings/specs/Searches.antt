-- What the search for the nearest map keeps.
use Rattle.std.specs.Prelude.{Bool, true, nat_lt, if◌then◌else◌, length, Option, Some, None}
use Rattle.dr_inventory.specs.declared.estate.MapRow.{MapRow}

-- whether a map leads from a longer folder than the nearest so far
abbrev pub is_nearer : Option MapRow → MapRow → Bool
is_nearer None m = true
is_nearer (Some nearest) m = nat_lt (length nearest.from) (length m.from)

-- the nearest after one map more
abbrev pub nearer : Option MapRow → MapRow → Option MapRow
nearer nearest m = if is_nearer nearest m then Some m else nearest
