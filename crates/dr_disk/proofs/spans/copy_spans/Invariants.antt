use Rattle.std.proofs.Common.{◌≡◌, length, drop}
use Rattle.dr_disk.specs.Spans.{SameOutside}
use Rattle.dr_disk.proofs.spans.copy_spans.Given as goal

abbrev pub invariant-loop-span : goal.invariant-loop-span
invariant-loop-span l = record {
  lengths : length l.target ≡ length l.source;
  same : SameOutside (drop l.span-index l.spans) l.target l.source;
}
