use Rattle.std.proofs.Common.{◌≡◌, ◌<◌, ◌+◌, ◌∙◌, true, length, get_or, set, sym, arith}
use Rattle.std.proofs.lemmas.List.{take_more}
use Rattle.dr_groups.proofs.MarkLaws.{true_is_not_false}
use Rattle.dr_plan.specs.Walks.{unmarked}
use Rattle.dr_plan.proofs.ChainLaws.{depends-read, row-below}
use Rattle.dr_plan.proofs.WalkLaws.{unmarked-set, walk-seen, walk-finished, went-finished, went-more}
use Rattle.dr_plan.proofs.depth_first.+walk.Goals as goal

pub visit-visit_all-requires : goal.visit-visit_all-requires
visit-visit_all-requires t c =
    let g = c.args.graph.now in
    let v = c.args.machine in
    let seen = c.args.seen.now in
    let within : v < length seen = omega (arith, c.requires.walk.one_each) in
    let less : unmarked (set seen v true) + 1 ≡ unmarked seen = unmarked-set seen v within c.if-seen-machine.false in (
      omega (arith, less),
      (
        c.requires.graph,
        (
          row-below g v c.index-graph-machine.result c.as_slice.result.now c.requires.graph c.requires.within c.index-graph-machine.is c.as_slice.ensures,
          walk-seen g seen c.args.finished.now.items v c.requires.walk within,
        ),
      ),
    )

pub visit-returns-clause-walk : goal.visit-returns-clause-walk
visit-returns-clause-walk t c =
    let g = c.args.graph.now in
    let v = c.args.machine in
    let seen = c.args.seen.now in
    let ds = c.as_slice.result.now in
    let within : v < length seen = omega (arith, c.requires.walk.one_each) in
    walk-finished g v ds seen c.args.finished.now.items c.visit_all.new.seen c.visit_all.new.finished.items c.push.new.self.items c.requires.walk
    (λ marked. true_is_not_false (sym marked ∙ c.if-seen-machine.false)) within
    (depends-read g v c.index-graph-machine.result ds c.requires.within c.index-graph-machine.is c.as_slice.ensures)
    c.in_ok-visit_all.ensures.walk c.in_ok-visit_all.ensures.went_on c.in_ok-push.ensures.items

pub visit-returns-clause-went_on : goal.visit-returns-clause-went_on
visit-returns-clause-went_on t c =
    let g = c.args.graph.now in
    let v = c.args.machine in
    let seen = c.args.seen.now in
    let ds = c.as_slice.result.now in
    let within : v < length seen = omega (arith, c.requires.walk.one_each) in
    let less : unmarked (set seen v true) + 1 ≡ unmarked seen = unmarked-set seen v within c.if-seen-machine.false in
    went-finished g v ds seen c.args.finished.now.items c.visit_all.new.seen c.visit_all.new.finished.items c.push.new.self.items
    (λ marked. true_is_not_false (sym marked ∙ c.if-seen-machine.false)) within
    (depends-read g v c.index-graph-machine.result ds c.requires.within c.index-graph-machine.is c.as_slice.ensures)
    c.in_ok-visit_all.ensures.went_on (omega (arith, less)) c.in_ok-push.ensures.items

pub visit_all-loop-machine-preserved : goal.visit_all-loop-machine-preserved
visit_all-loop-machine-preserved t c =
    let g = c.args.graph.now in
    let ms = c.args.machines.now in
    let i = c.loop-machine.machine-index in
    record {
      walk = c.in_ok-visit.ensures.walk;
      went_on = went-more g _ _ (get_or ms i 0) c.args.seen.now c.args.finished.now.items c.loop-machine.seen c.loop-machine.finished.items c.visit.new.seen c.visit.new.finished.items
          (take_more ms i 0 c.loop-machine-test.true) c.loop-machine.invariant.went_on c.in_ok-visit.ensures.went_on;
    }
