-- The text of a pair's file.
use Rattle.std.specs.Prelude.{ℕ, ◌≤◌, ⊤, Bool, List, ◌++◌, codes, decimal, Option, Some, None}
use Rattle.dr_base.specs.declared.side.Side.{Side}
use Rattle.dr_base.specs.declared.side.Side.TheVariants.{A, B}
use Rattle.dr_outside.specs.declared.pair.Content.{Content}
use Rattle.dr_outside.specs.declared.pair.Snapshot.{Snapshot}
use Rattle.dr_outside.specs.declared.pair.Link.{Link}
use Rattle.dr_outside.specs.declared.pair.Link.TheVariants.{Live, Split}
use Rattle.dr_outside.specs.declared.pair.Pair.{Pair}
use Rattle.dr_lab.specs.Fields.{field, either_word}

-- a number of 32 bits
abbrev pub IsSmall : ℕ → Type 0
IsSmall n = n ≤ 4294967295

-- a number of 64 bits
abbrev pub IsLarge : ℕ → Type 0
IsLarge n = n ≤ 18446744073709551615

-- a site
abbrev pub side_word : Side → List ℕ
side_word A = codes "A"
side_word B = codes "B"

-- a link
abbrev pub link_word : Link → List ℕ
link_word Live = codes "live"
link_word Split = codes "split"

-- a snapshot's run, or that there is none
abbrev pub run_word : Option ℕ → List ℕ
run_word None = codes "none"
run_word (Some run) = decimal run

-- a run of 32 bits, or none
abbrev pub IsRun : Option ℕ → Type 0
IsRun None = ⊤
IsRun (Some run) = IsSmall run

-- a line of a number
abbrev pub number_line : List ℕ → ℕ → List ℕ
number_line front n = field front 10 (decimal n)

-- a content, in three lines
unfoldable pub content_text : Content → List ℕ
content_text c = number_line (codes "  line ") c.line ++ (number_line (codes "  base ") c.base ++ number_line (codes "  writes ") c.writes)

-- which contents there are
abbrev pub IsContent : Content → Type 0
IsContent c = IsSmall c.line × (IsLarge c.base × IsLarge c.writes)

-- one side's volume: whether it is writable, and its content
unfoldable pub volume_text : List ℕ → Bool × Content → List ℕ
volume_text front volume = field front 10 (either_word (codes "writable") (codes "read-only") volume.0) ++ content_text volume.1

-- the two sides' volumes
unfoldable pub volumes_text : (Bool × Content) × (Bool × Content) → List ℕ
volumes_text volumes = volume_text (codes "A ") volumes.0 ++ volume_text (codes "B ") volumes.1

-- which volumes there are
abbrev pub AreVolumes : (Bool × Content) × (Bool × Content) → Type 0
AreVolumes volumes = IsContent volumes.0.1 × IsContent volumes.1.1

-- a snapshot, or that there is none
unfoldable pub snapshot_text : Option Snapshot → List ℕ
snapshot_text None = field (codes "snapshot ") 10 (run_word None)
snapshot_text (Some s) = field (codes "snapshot ") 10 (run_word (Some s.run)) ++ content_text s.content

-- which snapshots there are
abbrev pub IsSnapshot : Option Snapshot → Type 0
IsSnapshot None = ⊤
IsSnapshot (Some s) = IsSmall s.run × IsContent s.content

-- a pair: its source and link, its volumes, and its snapshot
unfoldable pub pair_text : Pair → List ℕ
pair_text p = field (codes "source ") 10 (side_word p.source) ++ (field (codes "link ") 10 (link_word p.link) ++ (volumes_text ((p.writable.a, p.content.a), (p.writable.b, p.content.b)) ++ snapshot_text p.snapshot))

-- which pairs there are
abbrev pub IsPair : Pair → Type 0
IsPair p = (IsContent p.content.a × IsContent p.content.b) × IsSnapshot p.snapshot
