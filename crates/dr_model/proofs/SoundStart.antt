-- The outside stays sound when a lawful Start is appended.
use Rattle.std.specs.Prelude.{◌≡◌, ℕ, ◌<◌, ◌==◌, Bool, true, false, ◌&&◌, List, [], ◌∷◌, Option, Some, None, cond, filter, map, slice_get}
use Rattle.std.specs.Bool.{MatchBool}
use Rattle.std.proofs.Common.{refl, sym, ◌∙◌, inl, inr}
use Rattle.dr_meaning.specs.Types.{Side, Op, Placed, Post, Plan, StartRow, Record}
use Rattle.dr_meaning.specs.declared.stage.StageKind.{StageKind}
use Rattle.dr_outside.specs.Pairs.{Frame, frame_of}
use Rattle.dr_meaning.specs.Worlds.{World}
use Rattle.dr_outside.specs.BySide.{at}
use Rattle.dr_base.specs.Sides.{same_side}
use Rattle.dr_groups.specs.Groups.{IsPairOf}
use Rattle.dr_base.specs.Lists.{has}
use Rattle.dr_meaning.specs.Visits.{Visit, visits, all}
use Rattle.dr_meaning.specs.Runs.{Setting, Run, number, op, holds, is_finished, take_over, protected_side, begin_run, add_record, runs_of}
use Rattle.dr_meaning.specs.Outcomes.{made_frame, FrameOutcome}
use Rattle.dr_meaning.specs.Reach.{is_complete, FrameStep, ReachFrame, ReachPost, stage_of}
use Rattle.dr_meaning.specs.Meaning.{FrameMeaning, OldPostMeaning, NewPostMeaning}
use Rattle.dr_meaning.specs.Expected.{After, LeavesFrame, LeavesPost, wanted, ExpectedFrame, ExpectedPost}
use Rattle.dr_meaning.specs.Lawful.{MayCome, LawfulAfter}
use Rattle.dr_meaning.specs.Fits.{ReadsAtMostIn}
use Rattle.dr_meaning.specs.InOrder.{InOrder}
use Rattle.dr_meaning.specs.Sound.{IsKept, IsSoundBy}
use Rattle.dr_meaning.proofs.Lists.{Each, all_each}
use Rattle.dr_model.proofs.ExpectedLaws.{filter-map, after-change}
use Rattle.dr_model.proofs.EqualLaws.{through_map}
use Rattle.dr_model.proofs.PhaseLaws.{Opens}
use Rattle.dr_model.proofs.PostPhase.{OpensPost, LeavesIts}
use Rattle.dr_model.proofs.ChainLaws.{IsWellKept, fresh_run, holds-take_over}
use Rattle.dr_model.proofs.NumberStart.{numbers-start}
use Rattle.dr_model.proofs.SoundAppend.{well_of}

-- Being taken over changes nothing that a run leaves

module _ (q : Run) (n : ℕ) where
  abbrev over : Run
  over = record q { by = n }

  made_over : (kind : StageKind) (x : Frame) → made_frame over kind x ≡ made_frame q kind x
  made_over StageKind.TestStart x = refl
  made_over StageKind.TestStop x = refl
  made_over StageKind.Prepare x = refl
  made_over StageKind.Split x = refl
  made_over StageKind.Reverse x = refl
  made_over _ x = refl

  step_over : (v : Visit) (x y : Frame) → FrameStep q v x y → FrameStep over v x y
  step_over v x y step = go (is_complete all v) refl
    where
      out : FrameOutcome q (stage_of q v).kind x y → FrameOutcome over (stage_of q v).kind x y
      out (inl e) = inl (e ∙ sym (made_over (stage_of q v).kind x))
      out (inr e) = inr e

      go : (b : Bool) → is_complete all v ≡ b → FrameStep over v x y
      go true c = rw c (let made : y ≡ made_frame q (stage_of q v).kind x = rw c at step in made ∙ sym (made_over (stage_of q v).kind x))
      go false c = rw c (out (rw c at step))

  means_over : (o : Op) (forced : Bool) (x y : Frame) → FrameMeaning o forced q x y → FrameMeaning o forced over x y
  means_over Op.Testing forced x y h = h
  means_over Op.Cleanup forced x y h = h
  means_over Op.Migrate forced x y h = h
  means_over Op.Failover true x y h = h
  means_over Op.Failover false x y h = h
  means_over Op.Reprotect forced x y h = h

  leaves_over : (x y : Frame) → LeavesFrame q x y → LeavesFrame over x y
  leaves_over x y h = go (is_finished q) refl
    where
      go : (b : Bool) → is_finished q ≡ b → LeavesFrame over x y
      go true f = rw f (means_over (op q) q.start.forced x y (rw f at h))
      go false f = rw f (through_map (FrameStep q) (FrameStep over) (visits q.log) (all_each (λ v. (x y : Frame) → FrameStep q v x y → FrameStep over v x y) step_over (visits q.log)) x y (let reach : ReachFrame q x y = rw f at h in reach))

  old_over : (o : Op) (forced : Bool) (m : ℕ) (x y : Post) → OldPostMeaning o forced q m x y → OldPostMeaning o forced over m x y
  old_over Op.Testing forced m x y h = h
  old_over Op.Cleanup forced m x y h = h
  old_over Op.Migrate forced m x y h = h
  old_over Op.Failover true m x y h = h
  old_over Op.Failover false m x y h = h
  old_over Op.Reprotect forced m x y h = h

  new_over : (o : Op) (m : ℕ) (w : Placed) (x y : Post) → NewPostMeaning o q m w x y → NewPostMeaning o over m w x y
  new_over Op.Testing m w x y h = h
  new_over Op.Cleanup m w x y h = h
  new_over Op.Migrate m w x y h = h
  new_over Op.Failover m w x y h = h
  new_over Op.Reprotect m w x y h = h

  leaves_post_over : (g m : ℕ) (side : Side) (x y : Post) → LeavesPost q m side (wanted g q m) x y → LeavesPost over m side (wanted g q m) x y
  leaves_post_over g m side x y h = go (is_finished q) refl
    where
      sides : (b : Bool) → MatchBool b (OldPostMeaning (op q) q.start.forced q m x y) (NewPostMeaning (op q) q m (wanted g q m) x y) → MatchBool b (OldPostMeaning (op q) q.start.forced over m x y) (NewPostMeaning (op q) over m (wanted g q m) x y)
      sides true k = old_over (op q) q.start.forced m x y k
      sides false k = new_over (op q) m (wanted g q m) x y k

      go : (b : Bool) → is_finished q ≡ b → LeavesPost over m side (wanted g q m) x y
      go true f = rw f (sides (same_side side q.old) (rw f at h))
      go false f = rw f (let reach : ReachPost q m side (wanted g q m) x y = rw f at h in reach)

leaves_take_over : (row : StartRow) (q : Run) (x y : Frame) → LeavesFrame q x y → LeavesFrame (take_over row q) x y
leaves_take_over row q x y h = go ((number q == row.over) && (q.by == 0))
  where
    go : (b : Bool) → LeavesFrame (cond b (record q { by = row.run }) q) x y
    go true = leaves_over q row.run x y h
    go false = h

leaves_post_take_over : (row : StartRow) (q : Run) (g m : ℕ) (side : Side) (x y : Post) → LeavesPost q m side (wanted g q m) x y → LeavesPost (take_over row q) m side (wanted g (take_over row q) m) x y
leaves_post_take_over row q g m side x y h = go ((number q == row.over) && (q.by == 0))
  where
    go : (b : Bool) → LeavesPost (cond b (record q { by = row.run }) q) m side (wanted g (cond b (record q { by = row.run }) q) m) x y
    go true = leaves_post_over q row.run g m side x y h
    go false = h

-- A lawful Start leaves every frame and post expected.
module _ (setting : Setting) (runs : List Run) (row : StartRow) (plan : Plan) (g : ℕ) where
  pub frame-start : (y : Frame) → ExpectedFrame setting.estate g runs y → ExpectedFrame setting.estate g (fresh_run setting runs row plan ∷ map (take_over row) runs) y
  frame-start y expected = go (has row.groups g) refl
    where
      before : After (Opens setting.estate g) LeavesFrame (filter (holds g) (map (take_over row) runs)) y
      before = rw (filter-map (holds g) (take_over row) (holds-take_over g row) runs) (after-change (Opens setting.estate g) LeavesFrame (take_over row) (filter (holds g) runs) (all_each (λ q. (x y : Frame) → LeavesFrame q x y → LeavesFrame (take_over row q) x y) (leaves_take_over row) (filter (holds g) runs)) y expected)

      go : (b : Bool) → has row.groups g ≡ b → After (Opens setting.estate g) LeavesFrame (cond (has row.groups g) (fresh_run setting runs row plan ∷ filter (holds g) (map (take_over row) runs)) (filter (holds g) (map (take_over row) runs))) y
      go true held = rw held (y, before, refl)
      go false held = rw held before

  pub post-start : (m : ℕ) (side : Side) (y : Post) → ExpectedPost setting.estate g m side runs y → ExpectedPost setting.estate g m side (fresh_run setting runs row plan ∷ map (take_over row) runs) y
  post-start m side y expected = go (has row.groups g) refl
    where
      before : After (OpensPost setting.estate g m side) (LeavesIts setting.estate g m side) (filter (holds g) (map (take_over row) runs)) y
      before = rw (filter-map (holds g) (take_over row) (holds-take_over g row) runs) (after-change (OpensPost setting.estate g m side) (LeavesIts setting.estate g m side) (take_over row) (filter (holds g) runs) (all_each (λ q. (x y : Post) → LeavesIts setting.estate g m side q x y → LeavesIts setting.estate g m side (take_over row q) x y) (λ q x y h. leaves_post_take_over row q g m side x y h) (filter (holds g) runs)) y expected)

      go : (b : Bool) → has row.groups g ≡ b → After (OpensPost setting.estate g m side) (LeavesIts setting.estate g m side) (cond (has row.groups g) (fresh_run setting runs row plan ∷ filter (holds g) (map (take_over row) runs)) (filter (holds g) (map (take_over row) runs))) y
      go true held = rw held (y, before, refl)
      go false held = rw held before

-- Sound, where the Start reads no more than there is, and the machines are in order for its run
pub sound-start : (setting : Setting) (records : List Record) (w : World) → LawfulAfter setting [] records → (row : StartRow) → MayCome setting (runs_of setting records) (Record.Start row) → ((g p : ℕ) → IsPairOf setting.estate g p → p < w.pair_count → has row.groups g ≡ true → ReadsAtMostIn p (w.pair p) (protected_side setting row.groups (runs_of setting records)) row) → InOrder w (add_record setting (runs_of setting records) (Record.Start row)) → IsSoundBy setting (runs_of setting records) w → IsSoundBy setting (add_record setting (runs_of setting records) (Record.Start row)) w
sound-start setting records w lawful row may reads in_order s = record {
  pairs = λ g p of_group there. let h = s.pairs g p of_group there in record {
    frame = frame g (frame_of (w.pair p)) h.frame;
    numbers = numbers-start setting (runs_of setting records) well row may g p (w.pair p) h.frame (reads g p of_group there) h.numbers;
  };
  machines = λ g m of_group there side. post g m side (at side (w.post m)) (s.machines g m of_group there side);
  consistent = s.consistent;
  codes = codes (slice_get setting.plans row.plan);
  in_order = in_order;
}
  where
    well : IsWellKept setting (runs_of setting records)
    well = well_of setting records lawful

    frame : (g : ℕ) (y : Frame) → ExpectedFrame setting.estate g (runs_of setting records) y → ExpectedFrame setting.estate g (begin_run setting row (slice_get setting.plans row.plan) (runs_of setting records)) y
    frame g y h = go (slice_get setting.plans row.plan)
      where
        go : (o : Option Plan) → ExpectedFrame setting.estate g (begin_run setting row o (runs_of setting records)) y
        go None = h
        go (Some plan) = frame-start setting (runs_of setting records) row plan g y h

    post : (g m : ℕ) (side : Side) (y : Post) → ExpectedPost setting.estate g m side (runs_of setting records) y → ExpectedPost setting.estate g m side (begin_run setting row (slice_get setting.plans row.plan) (runs_of setting records)) y
    post g m side y h = go (slice_get setting.plans row.plan)
      where
        go : (o : Option Plan) → ExpectedPost setting.estate g m side (begin_run setting row o (runs_of setting records)) y
        go None = h
        go (Some plan) = post-start setting (runs_of setting records) row plan g m side y h

    Coded : List Run → Type 0
    Coded rs = Each (λ (run : Run). Each (IsKept w) run.log) rs

    over : (rs : List Run) → Coded rs → Coded (map (take_over row) rs)
    over [] h = tt
    over (r ∷ rs) h = (go ((number r == row.over) && (r.by == 0)), over rs h.1)
      where
        go : (b : Bool) → Each (IsKept w) (cond b (record r { by = row.run }) r).log
        go true = h.0
        go false = h.0

    codes : (o : Option Plan) → Coded (begin_run setting row o (runs_of setting records))
    codes None = s.codes
    codes (Some plan) = (tt, over (runs_of setting records) s.codes)
