-- The count of an object's calls, and its fuse.
use Rattle.std.specs.Prelude.{ℕ, Bool, false, ◌==◌, ◌-◌, ◌^◌, if◌then◌else◌, Option, Some, None}
use Rattle.std.specs.Option.{option_map}
use Rattle.dr_base.specs.Causes.{one_more}
use Rattle.dr_sim.specs.declared.meter.Meter.{Meter}

-- no call yet, and no fuse
abbrev pub unused : Meter
unused = record { calls = 0; fuse = None }

-- whether no call is left before the fuse is spent
abbrev pub is_spent : Option ℕ → Bool
is_spent None = false
is_spent (Some calls) = calls == 0

-- a fuse of so many calls; the greatest number is none
abbrev pub fuse_of : ℕ → Option ℕ
fuse_of calls = if calls == 2 ^ 64 - 1 then None else Some calls

-- the number of the next call
abbrev pub next_call : Meter → ℕ
next_call meter = one_more meter.calls

-- one call later
abbrev pub counted : Meter → Meter
counted meter = record { calls = next_call meter; fuse = option_map (λ calls. calls - 1) meter.fuse }
