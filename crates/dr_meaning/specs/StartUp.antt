-- The order in which the machines of a plan start.
use Rattle.std.specs.Prelude.{ℕ, ◌≡◌, ◌<◌, Bool, true, false, Contains}
use Rattle.dr_base.specs.declared.side.Side.{Side}
use Rattle.dr_plan.specs.declared.plan.Plan.{Plan}
use Rattle.dr_plan.specs.declared.plan.PlanMachine.{PlanMachine}
use Rattle.dr_outside.specs.declared.machine.Placed.{Placed}
use Rattle.dr_outside.specs.declared.machine.Post.{Post}
use Rattle.dr_outside.specs.declared.machine.Post.TheVariants.{Placeholder, Off, On, Ready}
use Rattle.dr_outside.specs.BySide.{at}
use Rattle.dr_outside.specs.Machines.{PortState}

-- whether a machine was started
abbrev pub is_started : Post → Bool
is_started Placeholder = false
is_started (Off placed) = false
is_started (On placed) = true
is_started (Ready placed) = true

-- where a machine of the plan was started at this side, each of its dependencies is ready there as wanted, and so is each machine of the plan of an earlier priority
pub record PlanInOrder (side : Side) (wanted : ℕ → Placed) (plan : Plan) (machine : ℕ → PortState) : Type 0 where
  pub dependencies : (m : PlanMachine) (k : ℕ) → Contains plan.machines m → is_started (at side (machine m.machine).post) ≡ true → Contains m.after k → at side (machine k).post ≡ Ready (wanted k)
  pub priorities : (earlier later : PlanMachine) → Contains plan.machines earlier → Contains plan.machines later → earlier.priority < later.priority
      → is_started (at side (machine later.machine).post) ≡ true → at side (machine earlier.machine).post ≡ Ready (wanted earlier.machine)
