use Rattle.std.proofs.Common.{◌≡◌, ◌∙◌, ℕ, List, Vec, Global, length, ap, arith}
use Rattle.std.proofs.lemmas.List.{length-map}
use Rattle.std.proofs.lemmas.List.FromFn.{length-map-range_with_len}
use Rattle.std.proofs.Common.{take}
use Rattle.dr_plan.specs.Waves.{machines_at}
use Rattle.dr_plan.specs.Lists.{items_of}
use Rattle.dr_plan.proofs.WaveLaws.{no_machines, lists_more, lists_same, depth_below}
use Rattle.dr_plan.proofs.wave_lists.by_depth.Goals as goal
use Rattle.dr_plan.proofs.wave_lists.by_depth.Goals.{then-machine-priority+in_ok-add, else-machine-priority}

pub loop-machine-init : goal.loop-machine-init
loop-machine-init c = no_machines c.args.priority c.args.count (items_of c.in_ok-lists.lists.items) c.in_ok-lists.ensures

pub add-requires : goal.add-requires
add-requires c =
    let f : Vec ℕ Global → List ℕ = λ list. list.items in
    let lists = c.loop-machine.lists.items in
    let long : length (items_of lists) ≡ c.args.count =
    ap length c.loop-machine.invariant ∙ length-map-range_with_len (machines_at (take c.loop-machine.machine-index c.args.machines.now) c.args.priority) 0 c.args.count in
    omega (arith, long, length-map lists f, c.requires, depth_below c.args.machines.now c.loop-machine.machine-index c.machine-item.result c.loop-machine-test.true c.machine-item.is)

pub loop-machine-preserved : goal.loop-machine-preserved
loop-machine-preserved c =
    let xs = c.args.machines.now in
    let i = c.loop-machine.machine-index in
    let x = c.machine-item.result in
    let old = items_of c.loop-machine.lists.items in
    elim c.if-machine-priority.branch [
      | then-machine-priority+in_ok-add w ↦ lists_more xs i x c.args.priority c.args.count old (items_of c.if-machine-priority.lists.items) c.loop-machine-test.true c.machine-item.is w.if-machine-priority.true
          (omega (arith, c.requires, depth_below xs i x c.loop-machine-test.true c.machine-item.is)) c.loop-machine.invariant (ap (λ v. items_of v.items) w.lists-is ∙ w.in_ok-add.ensures)
      | else-machine-priority w ↦ ap (λ v. items_of v.items) w.lists-is
          ∙ lists_same xs i x c.args.priority c.args.count old c.loop-machine-test.true c.machine-item.is w.if-machine-priority.false c.loop-machine.invariant
    ]
