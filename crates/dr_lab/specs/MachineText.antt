-- The text of a machine's file.
use Rattle.std.specs.Prelude.{ℕ, ⊤, IsTrue, List, ◌++◌, codes, Option, Some, None}
use Rattle.dr_base.specs.Names.{is_name}
use Rattle.dr_base.specs.Paths.{is_path}
use Rattle.dr_outside.specs.declared.sides.Sides.{Sides}
use Rattle.dr_outside.specs.declared.machine.Placed.{Placed}
use Rattle.dr_outside.specs.declared.machine.Post.{Post}
use Rattle.dr_outside.specs.declared.machine.Post.TheVariants as posts
use Rattle.dr_lab.specs.declared.machine_text.Power.{Power}
use Rattle.dr_lab.specs.declared.machine_text.Power.TheVariants as powers
use Rattle.dr_lab.specs.Fields.{field, either_word}

-- a name, as contracts see it
abbrev pub IsName : List ℕ → Type 0
IsName name = IsTrue (is_name name)

-- a path, as contracts see it
abbrev pub IsFolder : List ℕ → Type 0
IsFolder folder = IsTrue (is_path folder)

-- how far a machine is turned on, or that there is only a place for it
abbrev pub power_word : Option Power → List ℕ
power_word None = codes "placeholder"
power_word (Some powers.Off) = codes "off"
power_word (Some powers.On) = codes "on"
power_word (Some powers.Ready) = codes "ready"

-- where a machine runs, in four lines
unfoldable pub placed_text : Placed → List ℕ
placed_text placed = field (codes "  network ") 10 placed.place.network ++ (field (codes "  folder ") 10 placed.place.folder ++ (field (codes "  pool ") 10 placed.place.pool ++ field (codes "  bubble ") 10 (either_word (codes "yes") (codes "no") placed.bubble)))

-- which placements there are
abbrev pub IsPlaced : Placed → Type 0
IsPlaced placed = IsName placed.place.network × (IsFolder placed.place.folder × IsName placed.place.pool)

-- the post of a machine that is turned on so far, at this place
abbrev pub post_of : Option (Power × Placed) → Post
post_of None = posts.Placeholder
post_of (Some (powers.Off, placed)) = posts.Off placed
post_of (Some (powers.On, placed)) = posts.On placed
post_of (Some (powers.Ready, placed)) = posts.Ready placed

-- one side's post
unfoldable pub post_text : List ℕ → Post → List ℕ
post_text front posts.Placeholder = field front 10 (power_word None)
post_text front (posts.Off placed) = field front 10 (power_word (Some powers.Off)) ++ placed_text placed
post_text front (posts.On placed) = field front 10 (power_word (Some powers.On)) ++ placed_text placed
post_text front (posts.Ready placed) = field front 10 (power_word (Some powers.Ready)) ++ placed_text placed

-- which posts there are
abbrev pub IsPost : Post → Type 0
IsPost posts.Placeholder = ⊤
IsPost (posts.Off placed) = IsPlaced placed
IsPost (posts.On placed) = IsPlaced placed
IsPost (posts.Ready placed) = IsPlaced placed

-- a machine: its posts
unfoldable pub machine_text : Sides Post → List ℕ
machine_text sides = post_text (codes "A ") sides.a ++ post_text (codes "B ") sides.b

-- which machines there are
abbrev pub IsMachine : Sides Post → Type 0
IsMachine sides = IsPost sides.a × IsPost sides.b
