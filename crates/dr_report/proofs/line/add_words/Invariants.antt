use Rattle.std.proofs.Common.{◌++◌, map, ◌≡◌, ◌≤◌, take, vec_capacity}
use Rattle.dr_report.specs.Lines.{spaced, spelled}
use Rattle.dr_report.proofs.line.add_words.Given as goal

abbrev pub invariant-loop-word : goal.invariant-loop-word
invariant-loop-word l = record {
  items : l.out.items ≡ l.initial.out.items ++ spaced (map spelled (take l.word-index l.words));
  capacity : vec_capacity l.initial.out ≤ vec_capacity l.out;
}
