-- A machine in memory: how it opens, and which of its calls fail.
use Rattle.std.specs.Prelude.{ℕ, ◌≡◌, Bool, true, false, List, [], codes, None, Result, Ok, Err}
use Rattle.dr_base.specs.Causes.{one_more}
use Rattle.dr_base.specs.declared.side.Side.{Side}
use Rattle.dr_outside.specs.declared.sides.Sides.{Sides}
use Rattle.dr_outside.specs.declared.machine.Placed.{Placed}
use Rattle.dr_outside.specs.declared.machine.Kept.{Kept}
use Rattle.dr_outside.specs.declared.machine.Post.{Post}
use Rattle.dr_outside.specs.declared.machine.Post.TheVariants.{Placeholder, Ready}
use Rattle.dr_outside.specs.declared.machine.PortFail.{PortFail}
use Rattle.dr_outside.specs.declared.machine.PortFail.TheVariants.{Failed, Wrong, Ran}
use Rattle.dr_outside.specs.BySide.{at}
use Rattle.dr_outside.specs.Counts.{one_more_at}
use Rattle.dr_outside.specs.Commands.{code_of, HasTokensOnce}
use Rattle.dr_outside.specs.FirstCodes.{first_codes, first_once}
use Rattle.dr_base.specs.Lists.{has}
use Rattle.dr_outside.specs.Machines.{PortState}

-- its posts, the codes it keeps, the calls so far other than readings, the calls that are to fail, and its faults
pub record PlainPortState : Type 0 where
  pub post : Sides Post
  pub kept : List Kept
  pub calls : ℕ
  pub fails : List ℕ
  pub faults : Sides ℕ

-- where a machine runs at first
abbrev pub opening_placed : Placed
opening_placed = record { place = record { network = codes "A"; folder = codes "A"; pool = codes "A" }; bubble = false }

-- a machine at first: it is ready at A
abbrev pub opening_port : List ℕ → PlainPortState
opening_port fails =
    record {
      post = record { a = Ready opening_placed; b = Placeholder };
      kept = [];
      calls = 0;
      fails = fails;
      faults = record { a = 0; b = 0 };
    }

-- what it holds, as of any port: of several codes for one token the first
abbrev pub state_of : PlainPortState → PortState
state_of plain = record { post = plain.post; kept = first_codes plain.kept; faults = λ side. at side plain.faults }

-- it keeps one code for a token
pub each_once : (plain : PlainPortState) → HasTokensOnce (state_of plain).kept
each_once plain = first_once plain.kept

-- whether the next call is to fail
abbrev pub is_to_fail : PlainPortState → Bool
is_to_fail plain = has plain.fails (one_more plain.calls)

-- one more call was counted
pub record Counted (old new : PlainPortState) : Type 0 where
  pub calls : new.calls ≡ one_more old.calls
  pub fails : new.fails ≡ old.fails

-- a call failed: the machine is as it was, and one more fault of this side is counted
pub record FailsHere {T : Type 0} (side : Side) (old new : PlainPortState) (result : Result T PortFail) : Type 0 where
  pub answer : result ≡ Err Failed
  pub post : new.post ≡ old.post
  pub kept : new.kept ≡ old.kept
  pub faults : new.faults ≡ one_more_at side old.faults

-- an answer other than a failure
abbrev pub NeverFailed : {T : Type 0} → Result T PortFail → Type 0
NeverFailed (Ok x) = Unit {0}
NeverFailed (Err Failed) = ⊥
NeverFailed (Err (Wrong found)) = Unit {0}
NeverFailed (Err (Ran code)) = Unit {0}

-- how a call that changes a post ends, by whether it is to fail
abbrev pub CallEnds : Bool → Side → PlainPortState → PlainPortState → Result (Unit {0}) PortFail → Type 0
CallEnds true side old new result = FailsHere side old new result
CallEnds false side old new result = NeverFailed result × (new.faults ≡ old.faults)

-- how a command ends, by whether it is to fail: one that runs has the code 0, and where no memory is left to keep it, it fails
abbrev pub CommandEnds : Bool → Side → ℕ → PlainPortState → PlainPortState → Result ℕ PortFail → Type 0
CommandEnds true side token old new result = FailsHere side old new result
CommandEnds false side token old new (Ok code) = (code ≡ 0) × (new.faults ≡ old.faults)
CommandEnds false side token old new (Err Failed) = (code_of old.kept token ≡ None) × FailsHere {T = ℕ} side old new (Err Failed)
CommandEnds false side token old new (Err (Wrong found)) = ⊥
CommandEnds false side token old new (Err (Ran code)) = new.faults ≡ old.faults
