use Rattle.std.proofs.Common.{arith}
use Rattle.dr_journal.proofs.opening.trim.Goals as goal

pub returns-clause-bounds : goal.returns-clause-bounds
returns-clause-bounds g c = let inside = c.in_ok-gate.ensures.inside in (omega arith, omega arith)
