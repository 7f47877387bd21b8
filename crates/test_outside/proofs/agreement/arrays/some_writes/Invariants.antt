use Rattle.std.proofs.Common.{◌≡◌}
use Rattle.std.specs.Prelude.{vec_len}
use Rattle.test_outside.proofs.agreement.arrays.some_writes.Given as goal

abbrev pub invariant-loop : goal.invariant-loop
invariant-loop l = vec_len l.writes ≡ l.counter
