use Rattle.std.proofs.Common.{ℕ, List, map, Vec, Global}
use Rattle.dr_plan.proofs.ChainLaws.{depends-read}
use Rattle.dr_plan.proofs.DependentLaws.{turned-none, turned-more, turned-all}
use Rattle.dr_plan.proofs.dependents.note_each.Goals as goal

pub loop-machine-init : goal.loop-machine-init
loop-machine-init c =
    let f : Vec ℕ Global → List ℕ = λ row. row.items in
    turned-none c.args.graph.now (map f c.args.rows.now) c.requires.none

pub loop-machine-preserved : goal.loop-machine-preserved
loop-machine-preserved c =
    let f : Vec ℕ Global → List ℕ = λ row. row.items in
    let g = c.args.graph.now in
    let i = c.loop-machine.machine in
    let ds = c.as_slice.result.now in
    turned-more g (map f c.loop-machine.rows) (map f c.note_all.new.rows) ds i
    (depends-read g i c.index-graph-machine.result ds c.loop-machine-test.true c.index-graph-machine.is c.as_slice.ensures) c.loop-machine.invariant c.in_ok-note_all.ensures

pub returns : goal.returns
returns c =
    let f : Vec ℕ Global → List ℕ = λ row. row.items in
    turned-all c.args.graph.now (map f c.loop-machine.rows) c.loop-machine.machine c.loop-machine-test.false c.loop-machine.invariant
