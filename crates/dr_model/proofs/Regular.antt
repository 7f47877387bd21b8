-- What plans in force say of the machines of a run.
use Rattle.std.specs.Prelude.{◌≡◌, ℕ, true, Contains}
use Rattle.std.proofs.Common.{subst}
use Rattle.std.proofs.lemmas.List.Elements.{All-contains}
use Rattle.dr_plan.specs.Orders.{IsPriority}
use Rattle.dr_groups.specs.Groups.{IsMachineOf as IsOfGroup}
use Rattle.dr_meaning.specs.Types.{PlanMachine, Plan, Estate}
use Rattle.dr_base.specs.Lists.{has}
use Rattle.dr_meaning.specs.Runs.{Setting, Run, holds}
use Rattle.dr_meaning.specs.Backing.{IsRegularPlan, HasRegularPlans, IsEntry}
use Rattle.dr_meaning.proofs.Elements.{some_of-contains, contains-has}
use Rattle.dr_model.proofs.StageLaws.{IsMachineOf}
use Rattle.dr_model.proofs.FinishLaws.{IsPlanned}
use Rattle.dr_model.proofs.ChainLaws.{HasPlan}

-- an entry of a regular plan has its waves
pub entry_of : (estate : Estate) (plan : Plan) → IsRegularPlan estate plan → (m : PlanMachine) → Contains plan.machines m → IsMachineOf plan m
entry_of estate plan regular m listed =
    let priority : IsPriority m.priority = All-contains (λ x. IsPriority x.priority) plan.machines m regular.ordered.priorities listed in
    record { listed = some_of-contains plan.machines m listed; at_least = priority.least; at_most = priority.greatest }

-- an entry by its elements is one by recursion
pub as_entry : (plan : Plan) (m : PlanMachine) → IsEntry plan m → IsMachineOf plan m
as_entry plan m e = record { listed = some_of-contains plan.machines m e.listed; at_least = e.at_least; at_most = e.at_most }

-- a machine of a group that a run holds is one of its plan
pub planned_machine : (setting : Setting) → HasRegularPlans setting → (r : Run) → HasPlan setting r → (g m : ℕ) → holds g r ≡ true → IsOfGroup setting.estate g m → IsPlanned r m
planned_machine setting plans r own g m held of_group =
    let regular : IsRegularPlan setting.estate r.plan = plans r.start.plan r.plan own.plan in
    let (entry, listed, is) = regular.all_machines g m (contains-has r.plan.groups g (subst (λ gs. has gs g ≡ true) own.groups held)) of_group in
    (entry, entry_of setting.estate r.plan regular entry listed, is)
