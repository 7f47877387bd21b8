use Rattle.std.proofs.Common.{◌≡◌, ◌-◌, ℕ, List, Some, map}
use Rattle.dr_journal.specs.Walk.{IsAt}
use Rattle.test_journal.proofs.reader.read_all.Given as goal

abbrev pub invariant-loop-bodies : goal.invariant-loop-bodies
invariant-loop-bodies g l = record {
  reads : g.D.Disk.reads l.disk ≡ g.D.Disk.reads l.initial.disk;
  so_far : (file : List ℕ) → g.D.Disk.reads l.disk ≡ Some file → (after : List (List ℕ)) × IsAt l.records file (map (λ v. v.items) l.bodies.items) after;
}

abbrev pub decreases-loop-bodies : goal.decreases-loop-bodies
decreases-loop-bodies g l = l.records.file_length - l.records.next_place
