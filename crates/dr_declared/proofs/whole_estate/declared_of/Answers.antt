use Rattle.std.proofs.Common.{All, Err, sym, subst}
use Rattle.dr_plan.specs.Orders.{IsOrdered}
use Rattle.dr_declared.specs.declared.contents.DeclaredFault.{DeclaredFault}
use Rattle.dr_declared.specs.Contents.{ArePlansOf}
use Rattle.dr_declared.proofs.WholeLaws.{Reads, protection_told}
use Rattle.dr_declared.proofs.whole_estate.declared_of.Goals as goal

pub returns-in-Ok-read_plans : goal.returns-in-Ok-read_plans
returns-in-Ok-read_plans c = λ bytes text more. record {
  text = text;
  passes = c.in-Ok.ensures.passes;
  members = c.in-Ok.ensures.members;
  plans = subst (ArePlansOf c.args.estate c.in-Ok.members) (sym c.new.ensures) c.in-Ok-read_plans.ensures.plans;
  ordered = subst (All IsOrdered) (sym c.new.ensures) c.in-Ok-read_plans.ensures.ordered;
  placed = c.in-Ok-read_plans.ensures.placed;
}

pub returns-in-Err : goal.returns-in-Err
returns-in-Err c = λ bytes text.
    subst (λ (f : DeclaredFault). Reads bytes (Err f)) (sym c.protection_fault.ensures) (protection_told bytes c.args.estate c.in-Err.error c.in-Err.ensures.fault text)

pub returns-in-Err-read_plans : goal.returns-in-Err-read_plans
returns-in-Err-read_plans c = λ bytes text.
    subst (λ (f : DeclaredFault). Reads bytes (Err f)) (sym c.protection_fault-in-Err-read_plans.ensures) (protection_told bytes c.args.estate c.in-Err-read_plans.error c.in-Err-read_plans.ensures.fault text)
