-- A replicated pair: what production and replication do to it by themselves, and what each call makes of it.
use Rattle.std.specs.Prelude.{ℕ, ◌≡◌, ◌≤◌, ◌⊎◌, Bool, true, false, not, ◌&&◌, is_some, Option, Some, None, option_map}
use Rattle.dr_base.specs.declared.side.Side.{Side}
use Rattle.dr_base.specs.Sides.{other, same_side}
use Rattle.dr_outside.specs.declared.sides.Sides.{Sides}
use Rattle.dr_outside.specs.declared.pair.Content.{Content}
use Rattle.dr_outside.specs.declared.pair.Pair.{Pair}
use Rattle.dr_outside.specs.declared.pair.Half.{Half}
use Rattle.dr_outside.specs.declared.pair.Link.{Link}
use Rattle.dr_outside.specs.declared.pair.Link.TheVariants.{Live, Split}
use Rattle.dr_outside.specs.declared.array.ArrayCall.{ArrayCall}
use Rattle.dr_outside.specs.declared.array.ArrayCall.TheVariants.{Sync, TestStart, TestStop, Prepare, Failover, Reverse}
use Rattle.dr_outside.specs.BySide.{at, put}

-- a pair without its contents: of the snapshot, its run
pub record Frame : Type 0 where
  pub source : Side
  pub link : Link
  pub writable : Sides Bool
  pub snapshot : Option ℕ

-- the frame of a pair
abbrev pub frame_of : Pair → Frame
frame_of pair =
    record {
      source = pair.source;
      link = pair.link;
      writable = pair.writable;
      snapshot = option_map (λ s. s.run) pair.snapshot;
    }

-- whether a link is live
abbrev pub is_live : Link → Bool
is_live Live = true
is_live Split = false

-- the side that isn't the source
abbrev pub target : Pair → Side
target pair = other pair.source

-- whether a live pair replicates to this side
abbrev pub is_target : Side → Frame → Bool
is_target side frame = is_live frame.link && not (same_side side frame.source)

-- more writes on the same line
pub record Grows (old new : Content) : Type 0 where
  pub line : new.line ≡ old.line
  pub base : new.base ≡ old.base
  pub writes : old.writes ≤ new.writes

-- a content of the source's line, with at least the writes that the target had and at most those that the source has
pub record FollowsSource (old source new : Content) : Type 0 where
  pub line : new.line ≡ source.line
  pub at_least : old.writes ≤ new.writes
  pub at_most : new.writes ≤ source.writes

-- what may become of a pair by itself: production writes on a writable side, and a live target follows its source; nothing else of it changes, its snapshot neither
pub record Drift (old new : Pair) : Type 0 where
  pub frame : frame_of new ≡ frame_of old
  pub snapshot : new.snapshot ≡ old.snapshot
  pub written : (side : Side) → at side old.writable ≡ true → Grows (at side old.content) (at side new.content)
  pub replicated : (side : Side) → is_target side (frame_of old) ≡ true → (at side new.content ≡ at side old.content) ⊎ FollowsSource (at side old.content) (at old.source new.content) (at side new.content)
  pub read_only : (side : Side) → at side old.writable ≡ false → is_target side (frame_of old) ≡ false → at side new.content ≡ at side old.content

-- each pair must be so for the call
abbrev pub is_fit : ArrayCall → Pair → Bool
is_fit Sync p = is_live p.link
is_fit (TestStart run) p = is_live p.link && not (is_some p.snapshot)
is_fit TestStop p = is_some p.snapshot
is_fit Prepare p = at p.source p.writable
is_fit (Failover run) p = is_live p.link && not (at (target p) p.writable)
is_fit Reverse p = not (is_live p.link) && not (at p.source p.writable) && at (target p) p.writable

-- what the call makes of a pair that is so
abbrev pub made : ArrayCall → Pair → Pair
made Sync p = record p { content = put (target p) (at p.source p.content) p.content }
made (TestStart run) p = record p { snapshot = Some (record { run = run; content = at (target p) p.content }) }
made TestStop p = record p { snapshot = None }
made Prepare p = record p { writable = put p.source false p.writable }
made (Failover run) p =
    let w = (at (target p) p.content).writes in
    record p {
      link = Split;
      writable = put (target p) true p.writable;
      content = put (target p) (record { line = run; base = w; writes = w }) p.content;
    }
made Reverse p =
    let c = at (target p) p.content in
    record p {
      source = target p;
      link = Live;
      content = put p.source (record { line = c.line; base = c.base; writes = c.base }) p.content;
    }

-- whether a fault of the call may be this side's, at one pair
abbrev pub may_fail : ArrayCall → Pair → Side → Bool
may_fail Sync p side = true
may_fail (TestStart run) p side = same_side side (target p)
may_fail TestStop p side = same_side side (target p)
may_fail Prepare p side = same_side side p.source
may_fail (Failover run) p side = same_side side (target p)
may_fail Reverse p side = true

-- the call made the pair at some moment, and it drifted before and after
pub record Made (call : ArrayCall) (old new : Pair) : Type 0 where
  pub fit : is_fit call old ≡ true
  pub moment : Pair
  pub before : Drift old moment
  pub after : Drift (made call moment) new

-- what a call did to one pair, by whether it made it
abbrev pub PairStep : ArrayCall → Bool → Pair → Pair → Type 0
PairStep call true old new = Made call old new
PairStep call false old new = Drift old new

-- a pair as one side shows it
abbrev pub half : Side → Pair → Half
half side p = record { source = p.source; link = p.link; writable = at side p.writable; content = at side p.content; snapshot = p.snapshot }

-- a half was read at some moment, and the pair drifted before and after
pub record Read (side : Side) (old new : Pair) (it : Half) : Type 0 where
  pub moment : Pair
  pub before : Drift old moment
  pub after : Drift moment new
  pub seen : it ≡ half side moment
