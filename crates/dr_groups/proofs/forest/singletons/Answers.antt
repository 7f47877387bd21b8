use Rattle.std.proofs.Common.{arith}
use Rattle.dr_groups.proofs.ForestLaws.{root-root}
use Rattle.dr_groups.proofs.forest.singletons.Goals as goal

pub returns-clause-apart : goal.returns-clause-apart
returns-clause-apart c = λ k below. root-root c.loop-i.parents.items k (c.loop-i.invariant.own k (omega arith))
