-- What starting machines at the recovery side B leaves. `place` says where each machine runs.
use Rattle.std.specs.Prelude.{ℕ, ◌≡◌, ◌<◌, ◌≤◌, ◌⊎◌, Bool, true, false, nat_lt, List, length, Option, Some, None, unwrap_or, Result, Ok, Err}
use Rattle.dr_base.specs.declared.side.Side.{Side}
use Rattle.dr_base.specs.declared.side.Side.TheVariants.{B}
use Rattle.dr_base.specs.Causes.{Rose}
use Rattle.dr_base.specs.declared.placement.Placement.{Placement}
use Rattle.dr_plan.specs.declared.plan.Wave.{Wave}
use Rattle.dr_outside.specs.declared.machine.Placed.{Placed}
use Rattle.dr_outside.specs.declared.machine.Post.{Post}
use Rattle.dr_outside.specs.declared.machine.Post.TheVariants.{Placeholder, Off, On, Ready}
use Rattle.dr_base.specs.Lists.{has}
use Rattle.dr_outside.specs.Machines.{PortState}
use Rattle.dr_meaning.specs.Codes.{post_code, told_by_refusal}
use Rattle.dr_meaning.specs.Testing.{in_bubble}
use Rattle.dr_testing.specs.declared.start_up.RefusedMachine.{RefusedMachine}
use Rattle.dr_testing.specs.declared.start_up.StartFail.{StartFail}
use Rattle.dr_testing.specs.declared.start_up.StartFail.TheVariants.{Failed, Refused}
use Rattle.dr_testing.specs.declared.start_up.StartEnd.{StartEnd}
use Rattle.dr_testing.specs.declared.start_up.StartEnd.TheVariants.{Done, Failed as EndFailed, Refused as EndRefused}
use Rattle.dr_testing.specs.Placing.{wave_of}

-- nothing but the post at B changes
pub record ChangesAtB (old new : PortState) : Type 0 where
  pub protected : new.post.a ≡ old.post.a
  pub kept : new.kept ≡ old.kept

-- a post that is a placeholder, or stands as wanted
abbrev pub StandsAsWanted : Placed → Post → Type 0
StandsAsWanted wanted post = (post ≡ Placeholder) ⊎ ((post ≡ Off wanted) ⊎ ((post ≡ On wanted) ⊎ (post ≡ Ready wanted)))

-- A refused call's codes: of the post that it needed and of the one that it found. A registration needs a placeholder, and a start needs a machine that is off as wanted, or on.
abbrev pub IsRefusal : Placement → ℕ → ℕ → Type 0
IsRefusal place want found =
    ((want ≡ post_code B None Placeholder) × ((post : Post) × (found ≡ told_by_refusal (post_code B None post))))
    ⊎ ((want ≡ post_code B (Some place) (Off (in_bubble place))) × ((post : Post) × (found ≡ told_by_refusal (post_code B (Some place) post))))

-- the codes of a refused registration: of the placeholder that it needed, and of the post that stands at B
abbrev pub ToldRefusal : Post → ℕ → ℕ → Type 0
ToldRefusal post want found = (want ≡ post_code B None Placeholder) × (found ≡ told_by_refusal (post_code B None post))

-- a start that succeeds began at a placeholder, and one that was refused tells the codes of the post that stood at B before
abbrev pub StartTold : Post → Result (Unit {0}) StartFail → Type 0
StartTold post (Ok _) = post ≡ Placeholder
StartTold post (Err Failed) = Unit {0}
StartTold post (Err (Refused want found)) = ToldRefusal post want found

-- what starting a placeholder leaves at B, by the answer; it is never refused
abbrev pub StartStep : Placed → Post → Result (Unit {0}) StartFail → Type 0
StartStep wanted new (Ok _) = new ≡ Ready wanted
StartStep wanted new (Err Failed) = StandsAsWanted wanted new
StartStep wanted new (Err (Refused want found)) = ⊥

-- when a start fails or is refused
abbrev pub StartCause : Placement → PortState → PortState → Result (Unit {0}) StartFail → Type 0
StartCause place old new (Ok _) = Unit {0}
StartCause place old new (Err Failed) = Rose (old.faults B) (new.faults B)
StartCause place old new (Err (Refused want found)) = IsRefusal place want found

-- counts don't fall
abbrev pub NoneFalls : PortState → PortState → Type 0
NoneFalls old new = (side : Side) → old.faults side ≤ new.faults side

-- whether a number comes before the first failed one
abbrev pub is_before : Option ℕ → ℕ → Bool
is_before None i = true
is_before (Some failed) i = nat_lt i failed

-- whether a number comes before the first refused machine
abbrev pub is_unrefused : Option RefusedMachine → ℕ → Bool
is_unrefused None i = true
is_unrefused (Some refused) i = nat_lt i refused.machine

-- the first failed machine, after one more start
abbrev pub failed_after : Option ℕ → ℕ → Result (Unit {0}) StartFail → Option ℕ
failed_after earlier machine (Ok _) = earlier
failed_after earlier machine (Err Failed) = Some (unwrap_or earlier machine)
failed_after earlier machine (Err (Refused wanted found)) = earlier

-- the first refused machine, after one more start
abbrev pub refused_after : Option RefusedMachine → ℕ → Result (Unit {0}) StartFail → Option RefusedMachine
refused_after earlier machine (Ok _) = earlier
refused_after earlier machine (Err Failed) = earlier
refused_after earlier machine (Err (Refused wanted found)) = Some (unwrap_or earlier (record { machine = machine; wanted = wanted; found = found }))

-- a machine whose start was tried: it stands as wanted, and is ready, or its count rose
pub record Tried (wanted : Placed) (old new : PortState) : Type 0 where
  pub stands : StandsAsWanted wanted new.post.b
  pub outcome : (new.post.b ≡ Ready wanted) ⊎ Rose (old.faults B) (new.faults B)

-- each machine of a wave is a placeholder at B
abbrev pub EachPlaceholder : List ℕ → (ℕ → PortState) → Type 0
EachPlaceholder wave machine = (i : ℕ) → has wave i ≡ true → (machine i).post.b ≡ Placeholder

-- where none of a wave failed, each machine of it before the first refused one was a placeholder at B
abbrev pub WerePlaceholders : List ℕ → Option ℕ → Option RefusedMachine → (ℕ → PortState) → Type 0
WerePlaceholders wave failed refused machine = failed ≡ None → (i : ℕ) → has wave i ≡ true → is_unrefused refused i ≡ true → (machine i).post.b ≡ Placeholder

-- the machine that failed: one of the wave, whose count rose
pub record IsFailedMachine (wave : List ℕ) (old new : ℕ → PortState) (i : ℕ) : Type 0 where
  pub listed : has wave i ≡ true
  pub rose : Rose ((old i).faults B) ((new i).faults B)

-- a machine that was refused: one of the wave, with the codes of the refusal
pub record IsRefusedMachine (wave : List ℕ) (place : ℕ → Placement) (refused : RefusedMachine) : Type 0 where
  pub listed : has wave refused.machine ≡ true
  pub codes : IsRefusal (place refused.machine) refused.wanted refused.found

-- a refused machine is told with the codes of its own post at B before
abbrev pub IsToldMachine : (ℕ → PortState) → RefusedMachine → Type 0
IsToldMachine old refused = ToldRefusal (old refused.machine).post.b refused.wanted refused.found

-- one machine after a wave was tried, by whether it is of the wave and comes before the first that failed
abbrev pub WaveStep : Bool → Bool → Placed → PortState → PortState → Type 0
WaveStep false sound wanted old new = new ≡ old
WaveStep true false wanted old new = Tried wanted old new
WaveStep true true wanted old new = new.post.b ≡ Ready wanted

-- each machine of the waves is a placeholder at B
abbrev pub AllPlaceholders : List Wave → (ℕ → PortState) → Type 0
AllPlaceholders waves machine = (i : ℕ) → wave_of waves i < length waves → (machine i).post.b ≡ Placeholder

-- a machine of the waves whose start failed: its count rose, and no machine of a later wave was touched
pub record FailedAt (waves : List Wave) (old new : ℕ → PortState) (i : ℕ) : Type 0 where
  pub listed : wave_of waves i < length waves
  pub rose : Rose ((old i).faults B) ((new i).faults B)
  pub untouched : (j : ℕ) → wave_of waves i < wave_of waves j → new j ≡ old j

-- a machine of the waves that was refused, with the codes of the refusal: no machine of a later wave was touched
pub record RefusedAt (waves : List Wave) (place : ℕ → Placement) (old new : ℕ → PortState) (refused : RefusedMachine) : Type 0 where
  pub listed : wave_of waves refused.machine < length waves
  pub codes : IsRefusal (place refused.machine) refused.wanted refused.found
  pub untouched : (j : ℕ) → wave_of waves refused.machine < wave_of waves j → new j ≡ old j

-- when starting all waves ends so
abbrev pub AllCause : List Wave → (ℕ → Placement) → (ℕ → PortState) → (ℕ → PortState) → StartEnd → Type 0
AllCause waves place old new Done = Unit {0}
AllCause waves place old new (EndFailed i) = FailedAt waves old new i
AllCause waves place old new (EndRefused refused) = RefusedAt waves place old new refused

-- each machine of an earlier wave than this one's, and of the same wave with a lesser number, was a placeholder at B
pub record IsFirstRefused (waves : List Wave) (old : ℕ → PortState) (machine : ℕ) : Type 0 where
  pub earlier : (j : ℕ) → wave_of waves j < wave_of waves machine → (old j).post.b ≡ Placeholder
  pub least : (j : ℕ) → j < machine → wave_of waves j ≡ wave_of waves machine → (old j).post.b ≡ Placeholder

-- where all are ready, all were placeholders at B; where a machine was refused, it was the first that wasn't, and its codes are those of its own post at B before
abbrev pub AllTold : List Wave → (ℕ → PortState) → StartEnd → Type 0
AllTold waves old Done = AllPlaceholders waves old
AllTold waves old (EndFailed i) = Unit {0}
AllTold waves old (EndRefused refused) = IsToldMachine old refused × IsFirstRefused waves old refused.machine

-- where a start failed: each machine of an earlier wave is ready, each of the same was tried, and those of it with lesser numbers are ready
pub record TriedAt (waves : List Wave) (wanted : ℕ → Placed) (old new : ℕ → PortState) (i : ℕ) : Type 0 where
  pub earlier : (j : ℕ) → wave_of waves j < wave_of waves i → (new j).post.b ≡ Ready (wanted j)
  pub tried : (j : ℕ) → wave_of waves j ≡ wave_of waves i → Tried (wanted j) (old j) (new j)
  pub least : (j : ℕ) → j < i → wave_of waves j ≡ wave_of waves i → (new j).post.b ≡ Ready (wanted j)

-- what starting all waves, of placeholders, leaves; none is refused
abbrev pub AllStep : List Wave → (ℕ → Placed) → (ℕ → PortState) → (ℕ → PortState) → StartEnd → Type 0
AllStep waves wanted old new Done = (i : ℕ) → wave_of waves i < length waves → (new i).post.b ≡ Ready (wanted i)
AllStep waves wanted old new (EndFailed i) = TriedAt waves wanted old new i
AllStep waves wanted old new (EndRefused refused) = ⊥
