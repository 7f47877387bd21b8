-- What fits still fits after a drift.
use Rattle.std.specs.Prelude.{◌≡◌, ℕ, ◌≤◌, ◌⊎◌, not, Bool, true, false, List, Option, Some, None, IfSome}
use Rattle.std.proofs.Common.{refl, sym, ap, ◌∙◌, inl, inr, arith}
use Rattle.dr_meaning.specs.Types.{Side, Link, Content, Pair, Estate, StartPair, StartRow}
use Rattle.dr_base.specs.Sides.{other, same_side}
use Rattle.dr_outside.specs.BySide.{at}
use Rattle.dr_outside.specs.Pairs.{frame_of, is_live, is_target, Grows, FollowsSource, Drift}
use Rattle.dr_meaning.specs.Runs.{migration, Run, number, new, root}
use Rattle.dr_meaning.specs.Fits.{held, ReadsAtMost, IsReplicating, IsSplitBy, IsReplicatedTest, HoldsAll, FitsWrites, FitsNumbers, FitsPair, pair_row, root_start}
use Rattle.dr_outside.proofs.Drifts.{grows_refl, source_grows, source_is_no_target}

same_link : (p q : Pair) → Drift p q → q.link ≡ p.link
same_link p q d = ap (λ f. f.link) d.frame

-- no side's writes fall
pub writes_rise : (p q : Pair) → Drift p q → (side : Side) → (at side p.content).writes ≤ (at side q.content).writes
writes_rise p q d side = go (at side p.writable) (is_target side (frame_of p)) refl refl
  where
    followed : (at side q.content ≡ at side p.content) ⊎ FollowsSource (at side p.content) (at p.source q.content) (at side q.content) → (at side p.content).writes ≤ (at side q.content).writes
    followed (inl e) = omega (arith, ap (λ c. c.writes) e)
    followed (inr f) = f.at_least

    go : (w t : Bool) → at side p.writable ≡ w → is_target side (frame_of p) ≡ t → (at side p.content).writes ≤ (at side q.content).writes
    go true t e f = (d.written side e).writes
    go false true e f = followed (d.replicated side f)
    go false false e f = omega (arith, ap (λ c. c.writes) (d.read_only side e f))

-- at a Split pair each side is written or stays
pub split_grows : (p q : Pair) → Drift p q → p.link ≡ Link.Split → (side : Side) → Grows (at side p.content) (at side q.content)
split_grows p q d split side = go (at side p.writable) refl
  where
    go : (w : Bool) → at side p.writable ≡ w → Grows (at side p.content) (at side q.content)
    go true e = d.written side e
    go false e = grows_refl _ _ (d.read_only side e (rw split refl))

pub held_rises : (p q : Pair) (old : Side) → Drift p q → held old p ≤ held old q
held_rises p q old d = go p.link refl
  where
    go : (l : Link) → p.link ≡ l → held old p ≤ held old q
    go Link.Live e = rw (same_link p q d, e) (writes_rise p q d (other old))
    go Link.Split e = rw (same_link p q d, e) (omega (arith, (split_grows p q d e (other old)).base))

reads_at_most : (p q : Pair) (old : Side) (row : StartPair) → Drift p q → ReadsAtMost old p row → ReadsAtMost old q row
reads_at_most p q old row d h = record {
  new_side = omega (arith, h.new_side, writes_rise p q d (other old));
  old_side = λ seen. omega (arith, h.old_side seen, writes_rise p q d old);
}

pub if_some : {X : Type 0} (P Q : X → Type 0) → ((x : X) → P x → Q x) → (o : Option X) → IfSome o P → IfSome o Q
if_some P Q f None h = h
if_some P Q f (Some x) h = f x h

-- at a Live pair the other side than the source is the target
pub target_of : (p : Pair) → p.link ≡ Link.Live → is_target (other p.source) (frame_of p) ≡ true
target_of p e = rw e (go p.source)
  where
    go : (s : Side) → not (same_side (other s) s) ≡ true
    go Side.A = refl
    go Side.B = refl

-- a target that follows or stays behind its source
stays_behind : (t0 t1 s0 s1 : Content) → Grows s0 s1 → (t1 ≡ t0) ⊎ FollowsSource t0 s1 t1 → t0.line ≡ s0.line → t0.writes ≤ s0.writes → (t1.line ≡ s1.line) × (t1.writes ≤ s1.writes)
stays_behind t0 t1 s0 s1 g (inl e) line le = (ap (λ c. c.line) e ∙ line ∙ sym g.line, omega (arith, g.writes, ap (λ c. c.writes) e))
stays_behind t0 t1 s0 s1 g (inr f) line le = (f.line, f.at_most)

module _ (p q : Pair) (d : Drift p q) where
  same_source : q.source ≡ p.source
  same_source = ap (λ f. f.source) d.frame

  behind : p.link ≡ Link.Live → (at (other p.source) p.content).line ≡ (at p.source p.content).line → (at (other p.source) p.content).writes ≤ (at p.source p.content).writes → ((at (other p.source) q.content).line ≡ (at p.source q.content).line) × ((at (other p.source) q.content).writes ≤ (at p.source q.content).writes)
  behind live line le = stays_behind _ _ _ _ (source_grows p q d) (d.replicated (other p.source) (target_of p live)) line le

  drift_replicating : p.link ≡ Link.Live → IsReplicating p → IsReplicating q
  drift_replicating live h = record {
    line = rw same_source (behind live h.line h.behind).0;
    behind = rw same_source (behind live h.line h.behind).1;
  }

  drift_split : (number : ℕ) (new : Side) (root : ℕ) (start : StartRow) → p.link ≡ Link.Split → IsSplitBy number p new root start → IsSplitBy number q new root start
  drift_split number new root start split h =
      let g = split_grows p q d split new in
      record {
        line = g.line ∙ h.line;
        base = omega (arith, h.base, g.base, g.writes);
        at_least = if_some (λ row. row.new_writes ≤ (at new p.content).base) (λ row. row.new_writes ≤ (at new q.content).base) (λ row le. omega (arith, le, g.base)) (pair_row number start) h.at_least;
      }

  -- an old side that is frozen and the source, or split, keeps its content
  frozen_source : (old : Side) → at old p.writable ≡ false → p.source ≡ old → at old q.content ≡ at old p.content
  frozen_source old frozen source = d.read_only old frozen (rw source (source_is_no_target old (is_live p.link)))

  -- a target stays behind its source
  writes_behind : p.link ≡ Link.Live → (at (other p.source) p.content).writes ≤ (at p.source p.content).writes → (at (other p.source) q.content).writes ≤ (at p.source q.content).writes
  writes_behind live le = go (d.replicated (other p.source) (target_of p live))
    where
      go : (at (other p.source) q.content ≡ at (other p.source) p.content) ⊎ FollowsSource (at (other p.source) p.content) (at p.source q.content) (at (other p.source) q.content) → (at (other p.source) q.content).writes ≤ (at p.source q.content).writes
      go (inl e) = omega (arith, ap (λ c. c.writes) e, le, writes_rise p q d p.source)
      go (inr f) = f.at_most

  -- a side that holds all of a frozen old side goes on to hold all of it
  holds_all : (old : Side) (l : Link) → p.link ≡ l → HoldsAll old p → held old q ≡ (at old q.content).writes
  holds_all old Link.Live e h =
      let same = frozen_source old h.frozen h.source in
      let equal : (at (other old) p.content).writes ≡ (at old p.content).writes = rw e at h.equal in
      let le : (at (other p.source) p.content).writes ≤ (at p.source p.content).writes = rw h.source (omega arith) in
      let after : (at (other old) q.content).writes ≤ (at old q.content).writes = rw h.source at (writes_behind e le) in
      rw (same_link p q d, e) (omega (arith, writes_rise p q d (other old), ap (λ c. c.writes) same))
  holds_all old Link.Split e h =
      let same = frozen_source old h.frozen h.source in
      let equal : (at (other old) p.content).base ≡ (at old p.content).writes = rw e at h.equal in
      rw (same_link p q d, e) ((split_grows p q d e (other old)).base ∙ equal ∙ sym (ap (λ c. c.writes) same))

  pub drift_holds : (old : Side) → HoldsAll old p → HoldsAll old q
  drift_holds old h = record {
    source = same_source ∙ h.source;
    frozen = ap (λ f. at old f.writable) d.frame ∙ h.frozen;
    equal = holds_all old p.link refl h;
  }

  pub drift_test : (test : ℕ) (old : Side) (row : StartPair) → IsReplicatedTest test old p row → IsReplicatedTest test old q row
  drift_test test old row t = record {
    replicated = omega (arith, t.replicated, held_rises p q old d);
    snapshot = rw d.snapshot (if_some _ _ (λ s h own. ((h own).0 ∙ sym line, (h own).1)) p.snapshot t.snapshot);
  }
    where
      line : (at q.source q.content).line ≡ (at p.source p.content).line
      line = rw same_source (source_grows p q d).line

  drift_writes : (k : ℕ) (run : Run) → FitsWrites k p run → FitsWrites k q run
  drift_writes k run h = record {
    since_start = if_some _ _ (λ row. reads_at_most p q run.old row d) (pair_row k run.start) h.since_start;
    since_migration = if_some _ _ (λ t. if_some _ _ (λ row. reads_at_most p q run.old row d) (pair_row k t.start)) (migration run) h.since_migration;
    tested = λ e done. if_some _ _ (λ row t. drift_test (number run) run.old row t) (pair_row k run.start) (h.tested e done);
    replicated = λ e done. if_some _ _ (λ row le seen. omega (arith, le seen, held_rises p q run.old d)) (pair_row k run.start) (h.replicated e done);
    kept_all = λ e done. drift_holds run.old (h.kept_all e done);
    kept_all_before = if_some _ _ (λ r k done. drift_holds run.old (k done)) (migration run) h.kept_all_before;
    reversed = λ e done. if_some _ _ (λ row le. omega (arith, le, writes_rise p q d run.old)) (pair_row k run.start) (h.reversed e done);
  }

  pub drift_numbers : (runs : List Run) (group k : ℕ) → FitsNumbers runs group k p → FitsNumbers runs group k q
  drift_numbers runs group k h = record {
    live = λ e. let live : p.link ≡ Link.Live = sym (same_link p q d) ∙ e in drift_replicating live (h.live live);
    split = λ e. let split : p.link ≡ Link.Split = sym (same_link p q d) ∙ e in if_some _ _ (λ run s. drift_split k (new run) (root run) (root_start run) split s) _ (h.split split);
    writes = if_some _ _ (λ run w. drift_writes k run w) _ h.writes;
  }

  pub drift_fits : (estate : Estate) (runs : List Run) (group k : ℕ) → FitsPair estate runs group k p → FitsPair estate runs group k q
  drift_fits estate runs group k h = record {
    frame = rw d.frame h.frame;
    numbers = drift_numbers runs group k h.numbers;
  }
