use Rattle.std.proofs.Common.{◌≤◌, map, length, string_bytes}
use Rattle.dr_desk.specs.Words.{NamesBelow}
use Rattle.dr_desk.proofs.words.first_no_name.Given as goal

abbrev pub invariant-loop-place : goal.invariant-loop-place
invariant-loop-place l = record {
  names : NamesBelow (map string_bytes l.words) l.place;
  within : l.place ≤ length l.words;
}
