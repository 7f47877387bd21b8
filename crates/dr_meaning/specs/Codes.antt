-- The codes by which an answer tells how an object stands.
use Rattle.std.specs.Prelude.{ℕ, ◌+◌, Bool, false, not, ◌&&◌, if◌then◌else◌, is_some, Option, Some, None, bytes_eq}
use Rattle.dr_base.specs.declared.side.Side.{Side}
use Rattle.dr_base.specs.declared.side.Side.TheVariants.{B}
use Rattle.dr_base.specs.Sides.{same_side}
use Rattle.dr_base.specs.declared.placement.Placement.{Placement}
use Rattle.dr_outside.specs.declared.pair.Half.{Half}
use Rattle.dr_outside.specs.declared.machine.Placed.{Placed}
use Rattle.dr_outside.specs.declared.machine.Post.{Post}
use Rattle.dr_outside.specs.declared.machine.Post.TheVariants.{Placeholder, Off, On, Ready}
use Rattle.dr_outside.specs.Pairs.{is_live}

-- a bit of a code, where the test passes
abbrev pub bit : ℕ → Bool → ℕ
bit value test = if test then value else 0

-- whether two placements are one
abbrev pub same_place : Placement → Placement → Bool
same_place a b = bytes_eq a.network b.network && bytes_eq a.folder b.folder && bytes_eq a.pool b.pool

-- whether a placement is the wanted one; where none is wanted, none is
abbrev pub is_wanted : Option Placement → Placement → Bool
is_wanted None place = false
is_wanted (Some wanted) place = same_place place wanted

-- what a registered machine's placement adds: 4 in a bubble, 8 where it isn't the wanted one
abbrev pub placed_code : Option Placement → Placed → ℕ
placed_code wanted placed = bit 4 placed.bubble + bit 8 (not (is_wanted wanted placed.place))

-- a post: 0 a placeholder, 1 off, 2 on, 3 ready, and what its placement adds
abbrev pub standing_code : Option Placement → Post → ℕ
standing_code wanted Placeholder = 0
standing_code wanted (Off placed) = 1 + placed_code wanted placed
standing_code wanted (On placed) = 2 + placed_code wanted placed
standing_code wanted (Ready placed) = 3 + placed_code wanted placed

-- a machine's post at a side: 16 more at side B
abbrev pub post_code : Side → Option Placement → Post → ℕ
post_code side wanted post = standing_code wanted post + bit 16 (same_side side B)

-- a pair as a side shows it: 1 source B, 2 split, 4 writable there, 8 that side is B, 16 with a snapshot, 32 where a content or the snapshot's run isn't as wanted
abbrev pub half_code : Side → Bool → Half → ℕ
half_code side as_wanted half =
    bit 1 (same_side half.source B) + bit 2 (not (is_live half.link)) + bit 4 half.writable + bit 8 (same_side side B) + bit 16 (is_some half.snapshot) + bit 32 (not as_wanted)

-- a code that a refused call told, and no question: 64 more
abbrev pub told_by_refusal : ℕ → ℕ
told_by_refusal code = code + 64
