use Rattle.std.proofs.Common.{ℕ, arith, length-take, length-take-le, length-drop}
use Rattle.dr_desk.proofs.StreamsLaws.{writes_more}
use Rattle.dr_desk.proofs.output.write_all.Goals as goal

pub loop-written-preserved : goal.loop-written-preserved
loop-written-preserved g c = record {
  within = omega (arith, c.in_ok-count.ensures.bound, length-take-le {A = ℕ}, length-drop {A = ℕ}, length-take {A = ℕ});
  later = omega (arith, c.in_ok-count.ensures.cause.later);
  taken = λ tells. writes_more _ _ _ _ _ _ (c.loop-written.invariant.taken tells) (c.in_ok-count.ensures.bytes tells);
}
