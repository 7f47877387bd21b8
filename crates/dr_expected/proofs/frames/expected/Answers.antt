use Rattle.std.proofs.Common.{arith, ap, sym, ◌∙◌, ◌≡◌}
use Rattle.dr_meaning.specs.Opening.{opening_frame}
use Rattle.dr_meaning.specs.Runs.{named_side}
use Rattle.dr_meaning.specs.Expected.{LeavesFrame}
use Rattle.dr_replay.specs.Values.{run_of}
use Rattle.dr_expected.specs.Frames.{frame_value}
use Rattle.dr_expected.specs.Expecting.{IsFrame}
use Rattle.dr_expected.proofs.ShownLaws.{after-next}
use Rattle.dr_expected.proofs.FrameLaws.{lists_opening}
use Rattle.dr_expected.proofs.frames.expected.Goals as goal

pub loop-run-init : goal.loop-run-init
loop-run-init c =
    let protected : c.group_state.result.protected ≡ named_side c.args.estate.now c.args.group = ap (λ s. s.protected) c.group_state.ensures in
    lists_opening c.opening.result (opening_frame (named_side c.args.estate.now c.args.group)) c.add.new.frames.items (c.opening.ensures ∙ ap (λ s. opening_frame s) protected) (rw c.new-list.ensures.items at c.in_ok-add.ensures)

pub loop-run-preserved : goal.loop-run-preserved
loop-run-preserved c =
    after-next IsFrame (λ x. x ≡ opening_frame (named_side c.args.estate.now c.args.group)) LeavesFrame c.args.group c.args.runs.now c.loop-run.run-index c.run-item.result c.loop-run.list.items c.in_ok-list.list.items
    (omega arith) c.run-item.is c.loop-run.invariant c.in_ok-list.ensures
