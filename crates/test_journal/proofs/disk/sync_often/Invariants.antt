use Rattle.std.proofs.Common.{◌≡◌, length}
use Rattle.test_journal.proofs.disk.sync_often.Given as goal

abbrev pub invariant-loop : goal.invariant-loop
invariant-loop l = record {
  length : length l.disk.bytes ≡ length l.initial.disk.bytes;
  limit : l.disk.limit ≡ l.initial.disk.limit;
}
