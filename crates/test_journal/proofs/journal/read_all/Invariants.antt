use Rattle.std.proofs.Common.{◌≡◌, ◌-◌, ◌++◌, ℕ, List, Some, map}
use Rattle.dr_journal.specs.Reading.{journal_of}
use Rattle.dr_journal.specs.Reading.Reading.{Whole}
use Rattle.dr_journal.specs.Places.{place_after}
use Rattle.dr_journal.specs.State.{IsOpen}
use Rattle.test_journal.proofs.journal.read_all.Given as goal

abbrev pub invariant-loop-bodies : goal.invariant-loop-bodies
invariant-loop-bodies g l = record {
  is_open : IsOpen l.journal (g.D.Disk.reads l.disk) (g.D.Disk.images l.disk);
  reads : g.D.Disk.reads l.disk ≡ g.D.Disk.reads l.initial.disk;
  journal : l.journal ≡ l.initial.journal;
  so_far : (file : List ℕ) → g.D.Disk.reads l.disk ≡ Some file → (after : List (List ℕ)) × (journal_of file ≡ Whole (map (λ v. v.items) l.bodies.items ++ after)) × (l.at ≡ place_after (map (λ v. v.items) l.bodies.items));
}

abbrev pub decreases-loop-bodies : goal.decreases-loop-bodies
decreases-loop-bodies g l = l.initial.journal.file_length - l.at
