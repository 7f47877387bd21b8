use Rattle.std.proofs.Common.{◌≡◌, ℕ, drop, length}
use Rattle.dr_outside.specs.Pairs.{Drift}
use Rattle.dr_outside.specs.PairLists.{pair_at}
use Rattle.dr_sim.specs.Production.{after_writes}
use Rattle.dr_sim.proofs.production.write_before.Given as goal

abbrev pub invariant-loop-write : goal.invariant-loop-write
invariant-loop-write l = record {
  value : (i : ℕ) → after_writes (length l.initial.pairs) l.number (drop l.write-index l.writer) i (pair_at l.pairs i) ≡ after_writes (length l.initial.pairs) l.number l.writer i (pair_at l.initial.pairs i);
  drift : (i : ℕ) → Drift (pair_at l.initial.pairs i) (pair_at l.pairs i);
}
