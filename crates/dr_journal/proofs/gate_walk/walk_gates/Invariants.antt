use Rattle.std.proofs.Common.{◌≡◌, ◌-◌, ◌≤◌, max, vec_len}
use Rattle.dr_disk.specs.Disk.{NoOther}
use Rattle.dr_journal.proofs.OpeningWalk.{WalksTo}
use Rattle.dr_journal.proofs.gate_walk.walk_gates.Given as goal

abbrev pub invariant-loop-gate : goal.invariant-loop-gate
invariant-loop-gate g l =
    WalksTo (g.D.Disk.reads l.initial.disk) l.end l.at l.gate l.window.start (vec_len l.window.bytes) l.window.bytes.items
    × (g.D.Disk.reads l.disk ≡ g.D.Disk.reads l.initial.disk)
    × NoOther (g.D.Disk.images l.initial.disk) (g.D.Disk.images l.disk)
    × (g.D.Disk.limit l.disk ≡ g.D.Disk.limit l.initial.disk)
    × (g.D.Disk.faults l.initial.disk ≤ g.D.Disk.faults l.disk)
    × (vec_len l.window.bytes ≤ max (vec_len l.initial.window.bytes) 65536)

abbrev pub decreases-loop-gate : goal.decreases-loop-gate
decreases-loop-gate g l = l.end - l.at
