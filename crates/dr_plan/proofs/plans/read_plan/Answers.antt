use Rattle.std.proofs.Common.{Err, ap, subst}
use Rattle.dr_base.specs.declared.plan_fault.PlanFault.{PlanFault}
use Rattle.dr_base.specs.declared.stop.Stop.{Stop}
use Rattle.dr_groups.proofs.RowLaws.{row_found}
use Rattle.dr_plan.specs.Faults.{IsFirstFault, IsValid}
use Rattle.dr_plan.specs.Lookups.{StopsBy}
use Rattle.dr_plan.specs.Plans.{IsPlanOf}
use Rattle.dr_plan.proofs.OrderLaws.{plan_ordered}
use Rattle.dr_plan.proofs.FaultLaws.{valid_has_none, one_fault}
use Rattle.dr_plan.proofs.plans.read_plan.Goals.{In-Ok, In-Err-Fault}
use Rattle.dr_plan.proofs.plans.read_plan.Goals as goal

-- the plan that was read is that of the row of this number
is_plan : (c : In-Ok) → IsPlanOf c.args.estate.now c.args.members.now c.args.row c.in-Ok.plan
is_plan c =
    let row = c.index-as_slice-row.result in
    let plan = c.in-Ok.ensures.plan in
    record {
      row = row;
      found = row_found c.args.estate.now.plans c.as_slice.result.now c.args.row row c.as_slice.ensures c.requires.declared c.index-as_slice-row.is;
      row_valid = plan.row_valid;
      depths = plan.depths;
      are_depths = plan.are_depths;
      value = plan.value;
    }

-- the fault that was found is the first one of the row of this number
is_told : (c : In-Err-Fault) → IsFirstFault c.args.estate.now c.args.members.now c.args.row c.in-Err-Fault.fault
is_told c =
    let e = c.args.estate.now in
    let members = c.args.members.now in
    let row = c.index-as_slice-row.result in
    let P : Stop PlanFault → Type 0 = λ s. StopsBy e members row s in
    record {
      row = row;
      found = row_found e.plans c.as_slice.result.now c.args.row row c.as_slice.ensures c.requires.declared c.index-as_slice-row.is;
      first_of_row = subst P c.in-Err-Fault.field-0-is c.in-Err-Fault.ensures.stops;
    }

pub returns-in-Ok-clause-tells : goal.returns-in-Ok-clause-tells
returns-in-Ok-clause-tells c = λ other first _.
    let is = is_plan (goal.at.returns-in-Ok-clause-tells c).In-Ok in
    let valid : IsValid c.args.estate.now c.args.members.now c.args.row = record { row = is.row; found = is.found; row_valid = is.row_valid } in
    absurd (valid_has_none c.args.estate.now c.args.members.now c.args.row other valid first)

pub returns-in-Ok-clause-ordered : goal.returns-in-Ok-clause-ordered
returns-in-Ok-clause-ordered c = plan_ordered c.args.estate.now c.args.members.now c.args.row c.in-Ok.plan (is_plan (goal.at.returns-in-Ok-clause-ordered c).In-Ok)

pub returns-in-Err-Fault-clause-fault : goal.returns-in-Err-Fault-clause-fault
returns-in-Err-Fault-clause-fault c = λ _. is_told (goal.at.returns-in-Err-Fault-clause-fault c).In-Err-Fault

pub returns-in-Err-Fault-clause-reads : goal.returns-in-Err-Fault-clause-reads
returns-in-Err-Fault-clause-reads c = λ valid _.
    absurd (valid_has_none c.args.estate.now c.args.members.now c.args.row c.in-Err-Fault.fault valid (is_told (goal.at.returns-in-Err-Fault-clause-reads c).In-Err-Fault))

pub returns-in-Err-Fault-clause-tells : goal.returns-in-Err-Fault-clause-tells
returns-in-Err-Fault-clause-tells c = λ other first _.
    ap (λ (f : PlanFault). Err f) (one_fault c.args.estate.now c.args.members.now c.args.row c.in-Err-Fault.fault other (is_told (goal.at.returns-in-Err-Fault-clause-tells c).In-Err-Fault) first)
