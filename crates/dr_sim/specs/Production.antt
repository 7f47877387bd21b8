-- What production writes before a call.
use Rattle.std.specs.Prelude.{ℕ, Bool, not, ◌&&◌, ◌==◌, ◌+◌, ◌-◌, ◌^◌, min, if◌then◌else◌, List, [], ◌∷◌, nat_lt}
use Rattle.dr_base.specs.declared.side.Side.{Side}
use Rattle.dr_outside.specs.declared.pair.Pair.{Pair}
use Rattle.dr_outside.specs.BySide.{at, put}
use Rattle.dr_outside.specs.Pairs.{frame_of, is_target}
use Rattle.dr_sim.specs.declared.production.Write.{Write}

-- whether production writes at a side: it is writable, and doesn't follow the other side
abbrev pub takes_writes : Side → Pair → Bool
takes_writes side pair = at side pair.writable && not (is_target side (frame_of pair))

-- so many writes more at a side; their count stops at its last value
abbrev pub written : Side → ℕ → Pair → Pair
written side add pair =
    let c = at side pair.content in
    record pair { content = put side (record { line = c.line; base = c.base; writes = min (c.writes + add) (2 ^ 64 - 1) }) pair.content }

-- a pair after a write to it, which is dropped where its side takes none
abbrev pub after_write : Write → Pair → Pair
after_write write pair = if takes_writes write.side pair then written write.side write.add pair else pair

-- whether a write is one to pair i, of so many, before the call of this number
abbrev pub is_due : ℕ → ℕ → ℕ → Write → Bool
is_due count number i write = (write.before == number) && (write.pair == i) && nat_lt i count

-- pair i, of so many, after all writes to it before the call of this number
abbrev pub after_writes : ℕ → ℕ → List Write → ℕ → Pair → Pair
after_writes count number [] i pair = pair
after_writes count number (write ∷ rest) i pair = after_writes count number rest i (if is_due count number i write then after_write write pair else pair)
