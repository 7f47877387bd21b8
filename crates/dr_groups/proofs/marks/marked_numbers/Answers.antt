use Rattle.std.proofs.Common.{◌∙◌, ap, arith}
use Rattle.dr_groups.specs.Marks.{IsMarked}
use Rattle.dr_groups.proofs.MarkLaws.{lists_below-none, lists_below-push, lists_below-skip, lists_below-all, marked_within}
use Rattle.dr_groups.proofs.marks.marked_numbers.Goals as goal
use Rattle.dr_groups.proofs.marks.marked_numbers.Goals.{then-marked+in_ok-push, else-marked}

pub loop-i-init : goal.loop-i-init
loop-i-init c = lists_below-none (IsMarked c.args.marks.now) c.new-numbers.result.items c.new-numbers.ensures.items

pub loop-i-preserved : goal.loop-i-preserved
loop-i-preserved c =
    elim c.if-marked.branch [
      | then-marked+in_ok-push w ↦ lists_below-push (IsMarked c.args.marks.now) c.loop-i.i c.loop-i.numbers.items c.if-marked.numbers.items c.loop-i.invariant
          (ap (λ v. v.items) w.numbers-is ∙ w.in_ok-push.ensures.items) w.if-marked.true
      | else-marked w ↦ lists_below-skip (IsMarked c.args.marks.now) c.loop-i.i c.loop-i.numbers.items c.if-marked.numbers.items c.loop-i.invariant
          (ap (λ v. v.items) w.numbers-is) (λ has. (cc))
    ]

pub returns : goal.returns
returns c = lists_below-all (IsMarked c.args.marks.now) c.loop-i.i c.loop-i.numbers.items c.loop-i.invariant (λ k has. omega (arith, marked_within c.args.marks.now k has))
