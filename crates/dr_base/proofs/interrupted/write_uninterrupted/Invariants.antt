-- A failed write gives nothing to the writer.
use Rattle.std.specs.Io.KnownBytes.{Keeps}
use Rattle.dr_base.proofs.interrupted.write_uninterrupted.Given as goal

abbrev pub invariant-loop : goal.invariant-loop
invariant-loop g l = Keeps (g.W.Write.contents l.initial.writer) (g.W.Write.contents l.writer)
