use Rattle.std.proofs.Common.{◌≡◌}
use Rattle.test_outside.proofs.agreement.disks.agree.Given as goal

abbrev pub invariant-loop : goal.invariant-loop
invariant-loop g l = l.memory.limit ≡ 64
