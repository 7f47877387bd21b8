-- Which calls are counted as faults.
use Rattle.std.specs.Prelude.{ℕ, ◌≡◌, ◌≢◌, Bool, true, false, ◌&&◌, List, Option, Some, None, Result, Ok, Err}
use Rattle.dr_base.specs.Causes.{one_more}
use Rattle.dr_base.specs.Sides.{other}
use Rattle.dr_base.specs.declared.side.Side.{Side}
use Rattle.dr_outside.specs.declared.sides.Sides.{Sides}
use Rattle.dr_outside.specs.declared.array.ArrayCall.{ArrayCall}
use Rattle.dr_outside.specs.declared.array.ArrayCall.TheVariants.{Sync, TestStart, TestStop, Prepare, Failover, Reverse}
use Rattle.dr_outside.specs.declared.array.ArrayFail.{ArrayFail}
use Rattle.dr_outside.specs.declared.array.ArrayFail.TheVariants as arrays
use Rattle.dr_outside.specs.declared.machine.Post.{Post}
use Rattle.dr_outside.specs.declared.machine.PortCall.{PortCall}
use Rattle.dr_outside.specs.declared.machine.PortFail.{PortFail}
use Rattle.dr_outside.specs.declared.machine.PortFail.TheVariants as ports
use Rattle.dr_outside.specs.declared.runner.RunnerFail.{RunnerFail}
use Rattle.dr_outside.specs.declared.runner.RunnerFail.TheVariants as runners
use Rattle.dr_outside.specs.declared.pair.Pair.{Pair}
use Rattle.dr_outside.specs.declared.pair.Half.{Half}
use Rattle.dr_base.specs.Lists.{has}
use Rattle.dr_outside.specs.BySide.{at, put}
use Rattle.dr_outside.specs.Counts.{one_more_at}
use Rattle.dr_outside.specs.Machines.{is_ready_for, post_after}
use Rattle.dr_outside.specs.Pairs.{is_fit, made, half, may_fail, target}

-- an array's counts after a call: one more at the side where it failed, and else the same
abbrev pub ArrayCounts : {T : Type 0} → Sides ℕ → Sides ℕ → Result T ArrayFail → Type 0
ArrayCounts old new (Ok x) = new ≡ old
ArrayCounts old new (Err (arrays.Failed side)) = new ≡ one_more_at side old
ArrayCounts old new (Err (arrays.Wrong k half)) = new ≡ old

-- a port's counts after a call at this side: one more where it failed, and else the same
abbrev pub PortCounts : {T : Type 0} → Side → Sides ℕ → Sides ℕ → Result T PortFail → Type 0
PortCounts side old new (Ok x) = new ≡ old
PortCounts side old new (Err ports.Failed) = new ≡ one_more_at side old
PortCounts side old new (Err (ports.Wrong post)) = new ≡ old
PortCounts side old new (Err (ports.Ran code)) = new ≡ old

-- the runner's count after a call
abbrev pub RunnerCounts : {T : Type 0} → ℕ → ℕ → Result T RunnerFail → Type 0
RunnerCounts old new (Ok x) = new ≡ old
RunnerCounts old new (Err runners.Failed) = new ≡ one_more old
RunnerCounts old new (Err (runners.Ran code)) = new ≡ old

-- the side of a call's fault, at a pair with this source: the source's where either would do
abbrev pub fault_side : ArrayCall → Side → Side
fault_side Sync source = source
fault_side (TestStart run) source = other source
fault_side TestStop source = other source
fault_side Prepare source = source
fault_side (Failover run) source = other source
fault_side Reverse source = source

-- whether this side is down and has a part in a call on a pair
abbrev pub is_lost_at : ArrayCall → Pair → Sides Bool → Side → Bool
is_lost_at call pair down side = at side down && may_fail call pair side

-- where a call on a pair is lost: at a side that is down and has a part in it, that of its faults before the other one
abbrev pub LosesAt : ArrayCall → Pair → Sides Bool → Option Side → Type 0
LosesAt call pair down None = (side : Side) → is_lost_at call pair down side ≡ false
LosesAt call pair down (Some side) = (is_lost_at call pair down side ≡ true) × (side ≢ fault_side call pair.source → is_lost_at call pair down (fault_side call pair.source) ≡ false)

-- a side that a list's call is lost at is down
abbrev pub IsDownAt : Sides Bool → Option Side → Type 0
IsDownAt down None = Unit {0}
IsDownAt down (Some side) = at side down ≡ true

-- an array's call that is lost at a side fails there, and counts
abbrev pub ArrayLost : {T : Type 0} → Option Side → Sides ℕ → Sides ℕ → Result T ArrayFail → Type 0
ArrayLost None old new result = Unit {0}
ArrayLost (Some side) old new result = (result ≡ Err (arrays.Failed side)) × (new ≡ one_more_at side old)

-- a port's call at a side that is down fails, and counts there
abbrev pub PortLost : {T : Type 0} → Bool → Side → Sides ℕ → Sides ℕ → Result T PortFail → Type 0
PortLost false side old new result = Unit {0}
PortLost true side old new result = (result ≡ Err ports.Failed) × (new ≡ one_more_at side old)

-- what a call makes of a machine's posts, or the post that isn't as it needs it
abbrev pub Turns : PortCall → Side → Sides Post → Result (Sides Post) Post → Type 0
Turns call side old (Ok new) = (is_ready_for call (at side old) ≡ true) × (new ≡ put side (post_after call (at side old)) old)
Turns call side old (Err found) = (is_ready_for call (at side old) ≡ false) × (found ≡ at side old)

-- what a call makes of a pair, or its target's half where it isn't as the call needs it
abbrev pub Makes : ArrayCall → Pair → Result Pair Half → Type 0
Makes call old (Ok new) = (is_fit call old ≡ true) × (new ≡ made call old)
Makes call old (Err shown) = (is_fit call old ≡ false) × (shown ≡ half (target old) old)

-- a pair that is named is one of the list
abbrev pub NamesOne : List ℕ → Result (Option (ℕ × Half)) Side → Type 0
NamesOne list (Ok None) = Unit {0}
NamesOne list (Ok (Some named)) = has list named.0 ≡ true
NamesOne list (Err side) = Unit {0}
