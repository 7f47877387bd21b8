use Rattle.std.proofs.Common.{rules, below_more}
use Rattle.std.proofs.lemmas.Result.{err_from_is_err_and}
use Rattle.dr_declared.proofs.ReadingLaws.{plans_more, all_ordered, plans_cause}
use Rattle.dr_declared.proofs.protection.all_plans.Goals as goal

pub loop-number-preserved : goal.loop-number-preserved
loop-number-preserved c =
    let estate = c.args.estate.now in
    let members = c.args.members.now in
    record {
      one_each = (search rules);
      each = plans_more estate members c.loop-number.number c.loop-number.plans.items c.push.new.self.items c.in_ok-plan.plan c.loop-number.invariant.one_each c.loop-number.invariant.each (search rules) c.in_ok-plan.ensures.plan;
      valid = below_more _ c.loop-number.number c.loop-number.invariant.valid c.in_ok-plan.ensures.valid;
      ordered = all_ordered c.loop-number.plans.items c.push.new.self.items c.in_ok-plan.plan c.loop-number.invariant.ordered (search rules) c.in_ok-plan.ensures.ordered;
    }

pub returns-in_err-plan : goal.returns-in_err-plan
returns-in_err-plan c =
    let p = err_from_is_err_and c.from_residual.result c.from_residual.ensures.1 in
    rw (p.1, p.2) (record {
      plans = tt;
      valid = tt;
      ordered = tt;
      fault = plans_cause c.args.estate.now c.args.members.now c.loop-number.number c.in_err-plan.field-0.0 c.requires.passes c.requires.members c.loop-number.invariant.valid c.in_err-plan.ensures.fault;
    })
