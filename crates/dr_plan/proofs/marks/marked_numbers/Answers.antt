use Rattle.std.proofs.Common.{◌∙◌, ℕ, false, get_or, ap}
use Rattle.dr_plan.proofs.LookupLaws.{number_kept, number_left}
use Rattle.dr_plan.proofs.marks.marked_numbers.Goals as goal
use Rattle.dr_plan.proofs.marks.marked_numbers.Goals.{then-marked+in_ok-push, else-marked}

pub loop-i-preserved : goal.loop-i-preserved
loop-i-preserved c =
    let test = λ (k : ℕ). get_or c.args.marks.now k false in
    elim c.if-marked.branch [
      | then-marked+in_ok-push w ↦ number_kept test c.loop-i.i c.loop-i.numbers.items c.if-marked.numbers.items c.loop-i.invariant w.if-marked.true (ap (λ v. v.items) w.numbers-is ∙ w.in_ok-push.ensures.items)
      | else-marked w ↦ number_left test c.loop-i.i c.loop-i.numbers.items c.if-marked.numbers.items c.loop-i.invariant w.if-marked.false (ap (λ v. v.items) w.numbers-is)
    ]
