use Rattle.std.proofs.Common.{sym}
use Rattle.std.proofs.lemmas.List.{take_all}
use Rattle.dr_walk.proofs.RouteStages.{other_kind, of_kind}
use Rattle.dr_walk.proofs.route.starts_of.Goals.{then-eq+in_ok-put_wave, else-eq}
use Rattle.dr_walk.proofs.route.starts_of.Goals as goal

pub loop-i-preserved : goal.loop-i-preserved
loop-i-preserved c = λ machine. elim c.if-eq.branch [
  | then-eq+in_ok-put_wave w ↦ (
      let put = w.in_ok-put_wave.ensures machine in
      let own = rw w.as_slice.ensures at put in
      rw w.starts-is (of_kind c.args.stages.now c.loop-i.i c.index-stages-i.result c.loop-i-test.true c.index-stages-i.is machine _ (c.loop-i.invariant machine) (sym w.if-eq.ensures) _ own))
  | else-eq w ↦ rw w.starts-is (other_kind c.args.stages.now c.loop-i.i c.index-stages-i.result c.loop-i-test.true c.index-stages-i.is machine _ (c.loop-i.invariant machine) (sym w.if-eq.ensures))
]

pub returns : goal.returns
returns c = λ machine.
    let told = c.loop-i.invariant machine in
    let whole = take_all c.loop-i.i c.args.stages.now c.loop-i-test.false in
    rw whole at told
