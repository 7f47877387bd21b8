use Rattle.std.proofs.Common.{◌≡◌, ◌+◌, ℕ, List, length}
use Rattle.std.specs.Io.KnownBytes.{Consumes}
use Rattle.dr_outside.specs.declared.machine.Kept.{Kept}
use Rattle.dr_outside.specs.Commands.{code_of}
use Rattle.dr_lab.specs.KeptText.{BeginsWith}
use Rattle.dr_lab.proofs.kept_lines.code_read.Given as goal

abbrev pub invariant-loop-search : goal.invariant-loop-search
invariant-loop-search g l = record {
  token : l.search.token ≡ l.token;
  end : l.search.left ≡ 0 → length l.search.rest.items ≡ 0;
  read : (read : List ℕ) × (commands : List Kept) × BeginsWith read commands l.search.rest.items × (l.search.code ≡ code_of commands l.token) × (length read + l.search.left ≡ l.len) × Consumes (g.R.Read.remaining l.initial.reader) (g.R.Read.remaining l.reader) read;
}

abbrev pub decreases-loop-search : goal.decreases-loop-search
decreases-loop-search g l = l.search.left
