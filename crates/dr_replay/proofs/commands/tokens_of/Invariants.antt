use Rattle.std.proofs.Common.{◌≡◌, ◌++◌, drop}
use Rattle.dr_meaning.specs.Lawful.{tokens_from}
use Rattle.dr_replay.proofs.commands.tokens_of.Given as goal

abbrev pub invariant-loop-i : goal.invariant-loop-i
invariant-loop-i l = l.tokens.items ++ tokens_from l.root l.i (drop l.i l.commands) ≡ tokens_from l.root 0 l.commands
