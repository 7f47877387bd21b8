-- From the faults of each part to those of the whole.
use Rattle.std.proofs.Common.{◌≡◌, ◌≢◌, ◌+◌, ◌<◌, ◌∙◌, ℕ, List, [], ◌∷◌, ◌++◌, length, inl, inr, Some, slice_get, All, ap, sym, subst, arith}
use Rattle.std.proofs.lemmas.Bool.{cases_lt}
use Rattle.std.proofs.lemmas.Option.{slice_get-get_or, slice_get_within, get_or_from_slice_get}
use Rattle.std.proofs.lemmas.List.{get_or_append_left, length-append}
use Rattle.std.proofs.Math.Seq.{get_or-append_seam}
use Rattle.std.proofs.lemmas.List.Elements.{All-append}
use Rattle.std.proofs.Common.{get_or, zero, suc}
use Rattle.dr_base.specs.declared.plan_fault.PlanFault.{PlanFault}
use Rattle.dr_base.specs.declared.plan_fault.PlanFault.TheVariants as of_plan
use Rattle.dr_inventory.specs.declared.estate.PlanRow.{PlanRow}
use Rattle.dr_inventory.specs.declared.estate.Estate.{Estate}
use Rattle.dr_inventory.specs.declared.members.Members.{Members}
use Rattle.dr_plan.specs.declared.plan.Plan.{Plan}
use Rattle.dr_plan.specs.Faults.{IsFirstFault as IsFirstOfPlan}
use Rattle.dr_plan.specs.Plans.{IsPlanOf}
use Rattle.dr_plan.specs.Orders.{IsOrdered}
use Rattle.dr_groups.specs.Groups.{AreMembersOf, Passes}
use Rattle.dr_plan.specs.Faults.{IsValid}
use Rattle.dr_declared.specs.declared.contents.ProtectionFault.TheVariants.{Groups as OfGroups, Plan as OfPlan, Unmapped as OfMaps}
use Rattle.dr_declared.specs.Faults.{ReadError, IsFaultyPlan, IsFaultOfPlan, IsProtectionFaultOf, UnlessMemory, plan_error}
use Rattle.dr_base.specs.declared.stop.Stop.TheVariants.{Fault, Memory}

-- why a plan wasn't read
pub plan_cause : (estate : Estate) (members : Members) (number : ℕ) (name : List ℕ) (fault : PlanFault) → (fault ≢ of_plan.NoMemory → IsFaultyPlan estate members number name fault) → UnlessMemory (IsFaultOfPlan estate members number) (plan_error name fault)
plan_cause estate members number name (of_plan.UnknownGroup n) h = h (λ e. cc e)
plan_cause estate members number name (of_plan.GroupTwice n) h = h (λ e. cc e)
plan_cause estate members number name (of_plan.UnknownMachine n) h = h (λ e. cc e)
plan_cause estate members number name (of_plan.BadPriority m n) h = h (λ e. cc e)
plan_cause estate members number name (of_plan.OtherPriority m n) h = h (λ e. cc e)
plan_cause estate members number name (of_plan.Cycle ms) h = h (λ e. cc e)
plan_cause estate members number name (of_plan.BadPosition s n) h = h (λ e. cc e)
plan_cause estate members number name of_plan.NoMemory h = tt

-- the first of all that is wrong with a plan, with its name
pub faulty_plan : (estate : Estate) (members : Members) (number : ℕ) (name : List ℕ) (fault : PlanFault) → ((row : PlanRow) → slice_get estate.plans number ≡ Some row → name ≡ row.name) → IsFirstOfPlan estate members number fault → IsFaultyPlan estate members number name fault
faulty_plan estate members number name fault named is = record { row = is.row; found = is.found; named = named is.row is.found; is_first = is }

-- the fault of the first plan that isn't valid, where groups are right
pub plans_cause : (estate : Estate) (members : Members) (number : ℕ) (error : ReadError) → Passes estate → AreMembersOf estate members → ((earlier : ℕ) → earlier < number → IsValid estate members earlier)
    → UnlessMemory (IsFaultOfPlan estate members number) error → UnlessMemory (IsProtectionFaultOf estate) error
plans_cause estate members number (Fault (OfPlan name fault)) passes are before is =
    record { passes = passes; members = members; are_members = are; is_first = record { number = number; faulty = is; before = before } }
plans_cause estate members number (Fault (OfGroups fault)) passes are before is = absurd is
plans_cause estate members number (Fault (OfMaps unmapped)) passes are before is = absurd is
plans_cause estate members number Memory passes are before is = tt

-- plans, one more
pub plans_more : (estate : Estate) (members : Members) (count : ℕ) (before now : List Plan) (plan : Plan) → length before ≡ count → ((number : ℕ) (p : Plan) → slice_get before number ≡ Some p → IsPlanOf estate members number p)
    → now ≡ before ++ plan ∷ [] → IsPlanOf estate members count plan → (number : ℕ) (p : Plan) → slice_get now number ≡ Some p → IsPlanOf estate members number p
plans_more estate members count before now plan long each pushed here number p found =
    let all : length now ≡ length before + 1 = ap length pushed ∙ length-append before (plan ∷ []) in
    let within = slice_get_within now number p found in
    let read : get_or (before ++ plan ∷ []) number plan ≡ p = ap (λ ps. get_or ps number plan) (sym pushed) ∙ get_or_from_slice_get now number p plan found in
    elim (cases_lt number (length before)) [
      | inl lower ↦ each number p (slice_get-get_or before number plan lower ∙ ap (λ z. Some z) (sym (get_or_append_left before (plan ∷ []) plan number lower) ∙ read))
      | inr last ↦
          let at : number ≡ length before = omega (arith, all, within) in
          let is_plan : plan ≡ p = sym (ap (λ n. get_or (before ++ plan ∷ []) n plan) at ∙ get_or-append_seam before plan [] plan) ∙ read in
          subst (IsPlanOf estate members number) is_plan (subst (λ n. IsPlanOf estate members n plan) (sym (at ∙ long)) here)
    ]

-- ordered plans, one more
pub all_ordered : (before now : List Plan) (plan : Plan) → All IsOrdered before → now ≡ before ++ plan ∷ [] → IsOrdered plan → All IsOrdered now
all_ordered before now plan each pushed here = subst (All IsOrdered) (sym pushed) (All-append IsOrdered before (plan ∷ []) each one)
  where
    one : All IsOrdered (plan ∷ [])
    one zero d lt = here
    one (suc k) d lt = absurd (omega arith)
