-- What the journal's runs say of a pair's writes, and whether an object is as they leave it.
use Rattle.std.specs.Prelude.{◌≡◌, ℕ, ◌≤◌, ◌==◌, Bool, true, false, ◌&&◌, ◌||◌, not, List, Option, Some, None, IfSome, find}
use Rattle.dr_meaning.specs.Types.{Side, Sides, Op, Link, Content, Pair, Post, StageKind, Stage, StartPair, StartRow, Estate, Record}
use Rattle.dr_base.specs.Sides.{other}
use Rattle.dr_outside.specs.BySide.{at}
use Rattle.dr_outside.specs.Pairs.{frame_of}
use Rattle.dr_meaning.specs.Stages.{stages}
use Rattle.dr_meaning.specs.Visits.{Visit, is_visit_done, is_excused, all}
use Rattle.dr_meaning.specs.Runs.{Run, TakenOver, migration, number, op, new, stages_of, root, holds, last_of_group}
use Rattle.dr_meaning.specs.Meaning.{last_visit_in, is_of_kind}
use Rattle.dr_meaning.specs.Expected.{ExpectedFrame, ExpectedPost}

-- the pair's row in a Start
abbrev pub pair_row : ℕ → StartRow → Option StartPair
pair_row pair start = find (λ row. row.pair == pair) start.pairs

-- the Start of the migration that was taken over, else the run's own
abbrev pub start_or : StartRow → Option TakenOver → StartRow
start_or start None = start
start_or start (Some taken) = taken.start

-- the Start of the run's root
abbrev pub root_start : Run → StartRow
root_start run = start_or run.start (migration run)

-- whether an operation splits pairs: a migration or a failover
abbrev pub is_recovery : Op → Bool
is_recovery Op.Migrate = true
is_recovery Op.Failover = true
is_recovery _ = false

-- whether a visit is done, and for all pairs
abbrev pub is_visit_whole : Option Visit → Bool
is_visit_whole visit = is_visit_done visit && not (is_excused all visit)

-- whether a stage of this kind is done and not skipped, by a run's stages and log
abbrev pub is_whole_in : List Stage → List Record → StageKind → Bool
is_whole_in stages log kind = is_visit_whole (last_visit_in stages log (is_of_kind kind))

-- the same of a run
abbrev pub is_done_whole : Run → StageKind → Bool
is_done_whole run kind = is_whole_in (stages_of run) run.log kind

-- the writes of a live pair's side, or the base of a split one's
abbrev pub held_by : Link → Content → ℕ
held_by Link.Live content = content.writes
held_by Link.Split content = content.base

-- how many of the old side's writes the other side is sure to have: its writes while the pair is live, its base once it is split
abbrev pub held : Side → Pair → ℕ
held old pair = held_by pair.link (at (other old) pair.content)

-- a pair has at least the writes that a Start read of it: the new side's always, the old side's where it was read
pub record ReadsAtMost (old : Side) (pair : Pair) (row : StartPair) : Type 0 where
  pub new_side : row.new_writes ≤ (at (other old) pair.content).writes
  pub old_side : row.seen ≡ true → row.old_writes ≤ (at old pair.content).writes

-- so it is, where the Start names the pair
abbrev pub ReadsAtMostIn : ℕ → Pair → Side → StartRow → Type 0
ReadsAtMostIn number pair old start = IfSome (pair_row number start) (ReadsAtMost old pair)

-- a live pair has one line, and its target at most its source's writes
pub record IsReplicating (pair : Pair) : Type 0 where
  pub line : (at (other pair.source) pair.content).line ≡ (at pair.source pair.content).line
  pub behind : (at (other pair.source) pair.content).writes ≤ (at pair.source pair.content).writes

-- a split pair: the new side's line is the root of the run that split it, and its base is at most its writes, and at least the writes that the root's Start read there
pub record IsSplitBy (number : ℕ) (pair : Pair) (new : Side) (root : ℕ) (start : StartRow) : Type 0 where
  pub line : (at new pair.content).line ≡ root
  pub base : (at new pair.content).base ≤ (at new pair.content).writes
  pub at_least : IfSome (pair_row number start) (λ row. row.new_writes ≤ (at new pair.content).base)

-- so it is, where this run split the pair
abbrev pub IsSplitIn : ℕ → Pair → Run → Type 0
IsSplitIn number pair run = IsSplitBy number pair (new run) (root run) (root_start run)

-- a test has replicated a pair: the new side holds at least the writes that the test's Start read at the old side, and so does the test's snapshot, which is of the source's line
pub record IsReplicatedTest (test : ℕ) (old : Side) (pair : Pair) (row : StartPair) : Type 0 where
  pub replicated : row.old_writes ≤ held old pair
  pub snapshot : IfSome pair.snapshot (λ s. s.run ≡ test → (s.content.line ≡ (at pair.source pair.content).line) × (row.old_writes ≤ s.content.writes))

-- the old side is the source and frozen, and the new one holds all of its writes
pub record HoldsAll (old : Side) (pair : Pair) : Type 0 where
  pub source : pair.source ≡ old
  pub frozen : at old pair.writable ≡ false
  pub equal : held old pair ≡ (at old pair.content).writes

-- a test has replicated a pair, where its Start names it
abbrev pub IsTestReplicated : ℕ → Pair → Run → Type 0
IsTestReplicated number pair run = IfSome (pair_row number run.start) (IsReplicatedTest run.start.run run.old pair)

-- the new side has at least the writes that a run's Start read at the old side, where it read them
abbrev pub HoldsOldWrites : ℕ → Pair → Run → Type 0
HoldsOldWrites number pair run = IfSome (pair_row number run.start) (λ row. row.seen ≡ true → row.old_writes ≤ held run.old pair)

-- the old side has at least the writes that a run's Start read at the new side: a reprotect has replicated them back
abbrev pub HoldsNewWrites : ℕ → Pair → Run → Type 0
HoldsNewWrites number pair run = IfSome (pair_row number run.start) (λ row. row.new_writes ≤ (at run.old pair.content).writes)

-- whether Prepare and FinalSync are done and not skipped, by a run's stages and log
abbrev pub is_frozen_in : List Stage → List Record → Bool
is_frozen_in stages log = is_whole_in stages log StageKind.Prepare && is_whole_in stages log StageKind.FinalSync

-- the same of a run
abbrev pub is_frozen_and_replicated : Run → Bool
is_frozen_and_replicated run = is_frozen_in (stages_of run) run.log

-- the same of a run that was taken over
abbrev pub was_frozen_and_replicated : TakenOver → Bool
was_frozen_and_replicated taken = is_frozen_in (stages taken.plan taken.start.op taken.start.forced) taken.log

-- what the group's last run, open or finished, says of a pair's writes
pub record FitsWrites (k : ℕ) (pair : Pair) (run : Run) : Type 0 where
  pub since_start : ReadsAtMostIn k pair run.old run.start
  pub since_migration : IfSome (migration run) (λ taken. ReadsAtMostIn k pair run.old taken.start)
  pub tested : op run ≡ Op.Testing → is_done_whole run StageKind.Sync ≡ true → IsTestReplicated k pair run
  pub replicated : is_recovery (op run) ≡ true → (is_done_whole run StageKind.Sync || is_done_whole run StageKind.FinalSync) ≡ true → HoldsOldWrites k pair run
  pub kept_all : is_recovery (op run) ≡ true → is_frozen_and_replicated run ≡ true → HoldsAll run.old pair
  pub kept_all_before : IfSome (migration run) (λ taken. was_frozen_and_replicated taken ≡ true → HoldsAll run.old pair)
  pub reversed : op run ≡ Op.Reprotect → is_done_whole run StageKind.FinalSync ≡ true → HoldsNewWrites k pair run

-- whether a run holds the group, and is one that splits pairs
abbrev pub splits : ℕ → Run → Bool
splits group run = holds group run && is_recovery (op run)

-- a pair's writes are as the runs leave them
pub record FitsNumbers (runs : List Run) (group number : ℕ) (pair : Pair) : Type 0 where
  pub live : pair.link ≡ Link.Live → IsReplicating pair
  pub split : pair.link ≡ Link.Split → IfSome (find (splits group) runs) (IsSplitIn number pair)
  pub writes : IfSome (last_of_group group runs) (FitsWrites number pair)

-- a pair of a group is as the runs leave it: its frame and its writes
pub record FitsPair (estate : Estate) (runs : List Run) (group number : ℕ) (pair : Pair) : Type 0 where
  pub frame : ExpectedFrame estate group runs (frame_of pair)
  pub numbers : FitsNumbers runs group number pair

-- a machine of a group is as the runs leave it, at both sides
abbrev pub FitsMachine : Estate → List Run → (group machine : ℕ) → Sides Post → Type 0
FitsMachine estate runs group machine posts = (side : Side) → ExpectedPost estate group machine side runs (at side posts)
