use Rattle.std.proofs.Common.{sym, subst}
use Rattle.dr_declared.specs.Faults.{IsFaultOfPlan, UnlessMemory}
use Rattle.dr_declared.proofs.ReadingLaws.{plan_cause, faulty_plan}
use Rattle.dr_declared.proofs.protection.plan_of.Goals as goal

pub returns-in-Err : goal.returns-in-Err
returns-in-Err c =
    let estate = c.args.estate.now in
    let members = c.args.members.now in
    record {
      plan = tt;
      valid = tt;
      ordered = tt;
      fault = subst (UnlessMemory (IsFaultOfPlan estate members c.args.number)) (sym c.plan_error.ensures)
          (plan_cause estate members c.args.number c.plan_name.result c.in-Err.fault (λ other. faulty_plan estate members c.args.number c.plan_name.result c.in-Err.fault c.plan_name.ensures (c.in-Err.ensures.fault other)));
    }
