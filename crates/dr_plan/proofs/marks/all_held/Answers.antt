use Rattle.std.proofs.Common.{◌≡◌}
use Rattle.std.proofs.lemmas.Result.{IfOk-weaker}
use Rattle.dr_plan.specs.Rows.{all_held}
use Rattle.dr_plan.proofs.LookupLaws.{marked_held}
use Rattle.dr_plan.proofs.marks.all_held.Goals as goal

pub returns : goal.returns
returns c =
    IfOk-weaker c.marked_numbers.result _ (λ v. v.items ≡ all_held c.args.lists.now c.args.groups.now c.args.count)
    (λ v is. marked_held c.args.lists.now c.args.groups.now c.args.count c.in_ok-marks.marks.items c.deref.result.now v.items c.in_ok-marks.ensures c.deref.ensures.value is) c.marked_numbers.ensures
