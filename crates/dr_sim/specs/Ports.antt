-- A simulated machine: which of its calls fail, what each answers and what it leaves.
use Rattle.std.specs.Prelude.{ℕ, ◌≡◌, Bool, true, false, ◌&&◌, ◌==◌, is_some, if◌then◌else◌, List, [], codes, Option, Some, None, Result, Ok, Err}
use Rattle.dr_base.specs.declared.side.Side.{Side}
use Rattle.dr_base.specs.declared.side.Side.TheVariants.{A, B}
use Rattle.dr_outside.specs.declared.sides.Sides.{Sides}
use Rattle.dr_outside.specs.declared.machine.Placed.{Placed}
use Rattle.dr_outside.specs.declared.machine.Post.{Post}
use Rattle.dr_outside.specs.declared.machine.Post.TheVariants.{Placeholder, On, Ready}
use Rattle.dr_outside.specs.declared.machine.PortCall.{PortCall}
use Rattle.dr_outside.specs.declared.machine.PortCall.TheVariants.{Register, Start, Stop, Unregister}
use Rattle.dr_outside.specs.declared.machine.PortFail.{PortFail}
use Rattle.dr_outside.specs.declared.machine.PortFail.TheVariants.{Failed, Wrong, Ran}
use Rattle.dr_outside.specs.declared.runner.RunnerFail.{RunnerFail}
use Rattle.dr_outside.specs.declared.runner.RunnerFail.TheVariants as runner
use Rattle.dr_outside.specs.BySide.{at, put}
use Rattle.dr_outside.specs.Counts.{one_more_at}
use Rattle.dr_outside.specs.Commands.{HasTokensOnce}
use Rattle.dr_outside.specs.FirstCodes.{first_codes, first_once}
use Rattle.dr_outside.specs.Machines.{PortState, is_ready_for, post_after, with_power}
use Rattle.dr_sim.specs.declared.faults.PortFault.{PortFault}
use Rattle.dr_sim.specs.declared.meter.Meter.{Meter}
use Rattle.dr_sim.specs.Commands.{Codes, no_codes, codes_after, answer_of, is_fault}
use Rattle.dr_sim.specs.Faults.{port_fault}
use Rattle.dr_sim.specs.Meters.{unused, is_spent, counted}

-- its posts, the codes it keeps, its calls and fuse, the faults that are listed, and its faults by side
pub record SimPortState : Type 0 where
  pub post : Sides Post
  pub codes : Codes
  pub meter : Meter
  pub faults : List PortFault
  pub counts : Sides ℕ

-- what it holds, as of any port: of several codes for one token the first
abbrev pub state_of : SimPortState → PortState
state_of port = record { post = port.post; kept = first_codes port.codes.kept; faults = λ side. at side port.counts }

-- the name of a site
abbrev pub name_of : Side → List ℕ
name_of A = codes "A"
name_of B = codes "B"

-- where a machine runs at first: what it is placed in has its site's name
abbrev pub opening_placed : Side → Placed
opening_placed home = record { place = record { network = name_of home; folder = name_of home; pool = name_of home }; bubble = false }

-- it keeps one code for a token
pub each_once : (port : SimPortState) → HasTokensOnce (state_of port).kept
each_once port = first_once port.codes.kept

-- a machine at first: it is ready at its home, and has a place at the other side
abbrev pub opening_port : Side → List PortFault → SimPortState
opening_port home faults =
    record {
      post = put home (Ready (opening_placed home)) (record { a = Placeholder; b = Placeholder });
      codes = no_codes;
      meter = unused;
      faults = faults;
      counts = record { a = 0; b = 0 };
    }

-- the fault of the next call, as what it leaves
abbrev pub next_fault : SimPortState → Option ℕ
next_fault port = port_fault port.meter port.faults

-- the counts after a call at a side, by whether it was a fault
abbrev pub counts_after : Bool → Side → Sides ℕ → Sides ℕ
counts_after fault side counts = if fault then one_more_at side counts else counts

-- whether a call is a start
abbrev pub is_start : PortCall → Bool
is_start (Register placed) = false
is_start Start = true
is_start Stop = false
is_start Unregister = false

-- what a fault makes of a post that is as its call needs it: 0 leaves it as before, 1 leaves a start on, and else the call is done
abbrev pub post_left : ℕ → PortCall → Post → Post
post_left leaves call post = if leaves == 0 then post else (if (leaves == 1) && is_start call then with_power On post else post_after call post)

-- what a call makes of a post that is as it needs it, by its fault
abbrev pub post_by : Option ℕ → PortCall → Post → Post
post_by None call post = post_after call post
post_by (Some leaves) call post = post_left leaves call post

-- what a call makes of a post: one that isn't as it needs it stays
abbrev pub post_then : Option ℕ → PortCall → Post → Post
post_then fault call post = if is_ready_for call post then post_by fault call post else post

-- what a call answers, by its fault
abbrev pub call_answer : Option ℕ → PortCall → Post → Result (Unit {0}) PortFail
call_answer (Some leaves) call post = Err Failed
call_answer None call post = if is_ready_for call post then Ok tt else Err (Wrong post)

-- a machine after a call that changes a post
abbrev pub after_call : PortCall → Side → SimPortState → SimPortState
after_call call side port =
    record port {
      post = put side (post_then (next_fault port) call (at side port.post)) port.post;
      meter = counted port.meter;
      counts = counts_after (is_some (next_fault port)) side port.counts;
    }

-- a machine after a reading at a side
abbrev pub after_reading : Side → SimPortState → SimPortState
after_reading side port = record port { meter = counted port.meter; counts = counts_after (is_some (next_fault port)) side port.counts }

-- what a reading answers, by its fault
abbrev pub reading : {T : Type 0} → Option ℕ → T → Result T PortFail
reading (Some leaves) seen = Err Failed
reading None seen = Ok seen

-- a command's answer, as of a port
abbrev pub port_answer : Result ℕ RunnerFail → Result ℕ PortFail
port_answer (Ok code) = Ok code
port_answer (Err runner.Failed) = Err Failed
port_answer (Err (runner.Ran code)) = Err (Ran code)

-- a machine after a command at a side
abbrev pub after_command : Side → ℕ → List ℕ → SimPortState → SimPortState
after_command side token name port =
    record port {
      codes = codes_after (next_fault port) (Some side) token name port.codes;
      meter = counted port.meter;
      counts = counts_after (is_fault (answer_of (next_fault port) token name port.codes)) side port.counts;
    }

-- no fault is listed, and the fuse isn't spent
pub record IsQuiet (port : SimPortState) : Type 0 where
  pub faults : port.faults ≡ []
  pub fuse : is_spent port.meter.fuse ≡ false
