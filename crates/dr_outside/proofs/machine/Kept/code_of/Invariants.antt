use Rattle.std.proofs.Common.{◌≡◌, drop}
use Rattle.dr_outside.specs.Commands.{code_of}
use Rattle.dr_outside.proofs.machine.Kept.code_of.Given as goal

abbrev pub invariant-loop-one : goal.invariant-loop-one
invariant-loop-one l = code_of l.kept l.token ≡ code_of (drop l.one-index l.kept) l.token
