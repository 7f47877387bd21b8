-- What the bytes of an estate declare.
use Rattle.std.specs.Prelude.{ℕ, ◌≡◌, List, length, Some, slice_get, All}
use Rattle.dr_inventory.specs.declared.estate.Estate.{Estate}
use Rattle.dr_inventory.specs.declared.members.Members.{Members}
use Rattle.dr_inventory.specs.Estates.{IsEstateText}
use Rattle.dr_groups.specs.Groups.{Passes, AreMembersOf}
use Rattle.dr_plan.specs.declared.plan.Plan.{Plan}
use Rattle.dr_plan.specs.Plans.{IsPlanOf}
use Rattle.dr_plan.specs.Orders.{IsOrdered}
use Rattle.dr_declared.specs.declared.contents.Declared.{Declared}
use Rattle.dr_declared.specs.Missing.{AreAllPlaced}

-- these are the estate's plans, in its order
pub record ArePlansOf (estate : Estate) (members : Members) (plans : List Plan) : Type 0 where
  pub one_each : length plans ≡ length estate.plans
  pub each : (number : ℕ) (plan : Plan) → slice_get plans number ≡ Some plan → IsPlanOf estate members number plan

-- the bytes are the text of this estate, its protection groups are right and hold this, these are its plans, and each machine of a protection group has its places
pub record Declares (bytes : List ℕ) (declared : Declared) : Type 0 where
  pub text : IsEstateText bytes declared.estate
  pub passes : Passes declared.estate
  pub members : AreMembersOf declared.estate declared.members
  pub plans : ArePlansOf declared.estate declared.members declared.plans
  pub ordered : All IsOrdered declared.plans
  pub placed : AreAllPlaced declared.estate declared.members

-- some bytes declare this
pub record IsDeclared (declared : Declared) : Type 0 where
  pub bytes : List ℕ
  pub declares : Declares bytes declared
