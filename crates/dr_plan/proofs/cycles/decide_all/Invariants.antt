use Rattle.dr_plan.specs.Walks.{IsDecided, AreSeenFrom}
use Rattle.dr_plan.proofs.cycles.decide_all.Given as goal

abbrev pub invariant-loop-place : goal.invariant-loop-place
invariant-loop-place l = record {
  decided : IsDecided l.graph l.seen l.marks;
  seen : AreSeenFrom l.seen l.order l.place;
}
