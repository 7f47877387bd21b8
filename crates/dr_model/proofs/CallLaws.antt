-- What the array's calls keep of a pair's numbers.
use Rattle.std.specs.Prelude.{◌≡◌, ℕ, ◌≤◌, ◌⊎◌, Bool, true, false, List, Option, Some, None, IfSome, IsSomeAnd, find}
use Rattle.std.proofs.Common.{refl, sym, ap, ◌∙◌, inl, inr, subst, arith}
use Rattle.dr_meaning.specs.Types.{Side, Sides, Op, Link, Content, Pair, StartPair, StartRow}
use Rattle.dr_meaning.specs.declared.stage.StageKind.{StageKind}
use Rattle.dr_base.specs.Sides.{other}
use Rattle.dr_outside.specs.BySide.{at, put}
use Rattle.dr_model.proofs.CallSteps.{MayWork, worked, AtCall}
use Rattle.dr_meaning.specs.Runs.{migration, Run, TakenOver, number, op, root, last_of_group}
use Rattle.dr_meaning.specs.Fits.{pair_row, held, held_by, ReadsAtMost, ReadsAtMostIn, root_start, start_or, is_recovery, is_done_whole, IsReplicating, IsReplicatedTest, HoldsAll, IsSplitBy, IsSplitIn, FitsWrites, FitsNumbers, splits}
use Rattle.dr_model.proofs.FitsDrift.{if_some, drift_numbers}

-- Sides

pub at_put : {T : Type 0} (s : Side) (x : T) (c : Sides T) → at s (put s x c) ≡ x
at_put Side.A x c = refl
at_put Side.B x c = refl

pub at_put_other : {T : Type 0} (s : Side) (x : T) (c : Sides T) → at s (put (other s) x c) ≡ at s c
at_put_other Side.A x c = refl
at_put_other Side.B x c = refl

pub at_other_put : {T : Type 0} (s : Side) (x : T) (c : Sides T) → at (other s) (put s x c) ≡ at (other s) c
at_other_put Side.A x c = refl
at_other_put Side.B x c = refl

pub other_other : (s : Side) → other (other s) ≡ s
other_other Side.A = refl
other_other Side.B = refl

frozen_stays : (s t : Side) (w : Sides Bool) → at s w ≡ false → at s (put t false w) ≡ false
frozen_stays Side.A Side.A w e = refl
frozen_stays Side.A Side.B w e = e
frozen_stays Side.B Side.A w e = e
frozen_stays Side.B Side.B w e = refl

-- What the group's last run says of a pair, under each call

module _ (run : Run) (k : ℕ) (m : Pair) where
  -- Sync, FinalSync
  module _ (live : m.link ≡ Link.Live) (h : IsReplicating m) where
    abbrev pub synced : Pair
    synced = record m { content = put (other m.source) (at m.source m.content) m.content }

    pub sync_source : at m.source synced.content ≡ at m.source m.content
    sync_source = at_put_other m.source (at m.source m.content) m.content

    pub sync_target : at (other m.source) synced.content ≡ at m.source m.content
    sync_target = at_put (other m.source) (at m.source m.content) m.content

    pub sync_rises : (side : Side) → (at side m.content).writes ≤ (at side synced.content).writes
    sync_rises side = go m.source side m.content h.behind
      where
        go : (s side : Side) (c : Sides Content) → (at (other s) c).writes ≤ (at s c).writes → (at side c).writes ≤ (at side (put (other s) (at s c) c)).writes
        go Side.A Side.A c le = omega arith
        go Side.A Side.B c le = le
        go Side.B Side.A c le = le
        go Side.B Side.B c le = omega arith

    sync_held : (old : Side) → held old m ≤ held old synced
    sync_held old = rw live (sync_rises (other old))

    sync_reads : (old : Side) (row : StartPair) → ReadsAtMost old m row → ReadsAtMost old synced row
    sync_reads old row r = record {
      new_side = omega (arith, r.new_side, sync_rises (other old));
      old_side = λ seen. omega (arith, r.old_side seen, sync_rises old);
    }

    -- the target has all that the source has
    pub sync_whole : (old : Side) → m.source ≡ old → held old synced ≡ (at old synced.content).writes
    sync_whole old e =
        subst (λ o. held o synced ≡ (at o synced.content).writes) e
        (rw live (ap (λ c. c.writes) (sync_target ∙ sym sync_source)))

    sync_holds : (old : Side) → HoldsAll old m → HoldsAll old synced
    sync_holds old a = record { source = a.source; frozen = a.frozen; equal = sync_whole old a.source }

    sync_test : (test : ℕ) (old : Side) (row : StartPair) → IsReplicatedTest test old m row → IsReplicatedTest test old synced row
    sync_test test old row t = record {
      replicated = omega (arith, t.replicated, sync_held old);
      snapshot = if_some _ _ (λ s p own. ((p own).0 ∙ sym (ap (λ c. c.line) sync_source), (p own).1)) m.snapshot t.snapshot;
    }

    pub sync_writes : FitsWrites k m run → FitsWrites k synced run
    sync_writes w = record {
      since_start = if_some _ _ (sync_reads run.old) (pair_row k run.start) w.since_start;
      since_migration = if_some _ _ (λ t. if_some _ _ (sync_reads run.old) (pair_row k t.start)) (migration run) w.since_migration;
      tested = λ e done. if_some _ _ (sync_test (number run) run.old) (pair_row k run.start) (w.tested e done);
      replicated = λ e done. if_some _ _ (λ row le seen. omega (arith, le seen, sync_held run.old)) (pair_row k run.start) (w.replicated e done);
      kept_all = λ e done. sync_holds run.old (w.kept_all e done);
      kept_all_before = if_some _ _ (λ t a done. sync_holds run.old (a done)) (migration run) w.kept_all_before;
      reversed = λ e done. if_some _ _ (λ row le. omega (arith, le, sync_rises run.old)) (pair_row k run.start) (w.reversed e done);
    }

    sync_replicating : IsReplicating synced
    sync_replicating = record {
      line = ap (λ c. c.line) (sync_target ∙ sym sync_source);
      behind = omega (arith, ap (λ c. c.writes) (sync_target ∙ sym sync_source));
    }

  -- Prepare: the contents stay
  prepare_holds : (old : Side) → HoldsAll old m → HoldsAll old (worked run StageKind.Prepare m)
  prepare_holds old a = record { source = a.source; frozen = frozen_stays old m.source m.writable a.frozen; equal = a.equal }

  pub prepare_writes : FitsWrites k m run → FitsWrites k (worked run StageKind.Prepare m) run
  prepare_writes w = record {
    since_start = if_some _ _ (λ row r. record { new_side = r.new_side; old_side = r.old_side }) (pair_row k run.start) w.since_start;
    since_migration = if_some _ _ (λ t. if_some _ _ (λ row r. record { new_side = r.new_side; old_side = r.old_side }) (pair_row k t.start)) (migration run) w.since_migration;
    tested = λ e done. if_some _ _ (λ row t. record { replicated = t.replicated; snapshot = t.snapshot }) (pair_row k run.start) (w.tested e done);
    replicated = w.replicated;
    kept_all = λ e done. prepare_holds run.old (w.kept_all e done);
    kept_all_before = if_some _ _ (λ t a done. prepare_holds run.old (a done)) (migration run) w.kept_all_before;
    reversed = w.reversed;
  }

  -- TestStop
  pub test_stop_writes : FitsWrites k m run → FitsWrites k (worked run StageKind.TestStop m) run
  test_stop_writes w = record {
    since_start = if_some _ _ (λ row r. record { new_side = r.new_side; old_side = r.old_side }) (pair_row k run.start) w.since_start;
    since_migration = if_some _ _ (λ t. if_some _ _ (λ row r. record { new_side = r.new_side; old_side = r.old_side }) (pair_row k t.start)) (migration run) w.since_migration;
    tested = λ e done. if_some _ _ (λ row t. record { replicated = t.replicated; snapshot = tt }) (pair_row k run.start) (w.tested e done);
    replicated = w.replicated;
    kept_all = λ e done. let a = w.kept_all e done in record { source = a.source; frozen = a.frozen; equal = a.equal };
    kept_all_before = if_some _ _ (λ t a done. record { source = (a done).source; frozen = (a done).frozen; equal = (a done).equal }) (migration run) w.kept_all_before;
    reversed = w.reversed;
  }

  -- TestStart: the snapshot is of the target, which has replicated
  pub test_start_writes : m.link ≡ Link.Live → m.source ≡ run.old → IsReplicating m → FitsWrites k m run → FitsWrites k (worked run StageKind.TestStart m) run
  test_start_writes live source h w = record {
    since_start = if_some _ _ (λ row r. record { new_side = r.new_side; old_side = r.old_side }) (pair_row k run.start) w.since_start;
    since_migration = if_some _ _ (λ t. if_some _ _ (λ row r. record { new_side = r.new_side; old_side = r.old_side }) (pair_row k t.start)) (migration run) w.since_migration;
    tested = λ e done. if_some _ _ (λ row t. record { replicated = t.replicated; snapshot = λ own. (h.line, at_target row t.replicated) }) (pair_row k run.start) (w.tested e done);
    replicated = w.replicated;
    kept_all = λ e done. let a = w.kept_all e done in record { source = a.source; frozen = a.frozen; equal = a.equal };
    kept_all_before = if_some _ _ (λ t a done. record { source = (a done).source; frozen = (a done).frozen; equal = (a done).equal }) (migration run) w.kept_all_before;
    reversed = w.reversed;
  }
    where
      at_target : (row : StartPair) → row.old_writes ≤ held run.old m → row.old_writes ≤ (at (other m.source) m.content).writes
      at_target row le =
          let same : held run.old m ≡ (at (other m.source) m.content).writes = ap (λ l. held_by l (at (other run.old) m.content)) live ∙ ap (λ s. (at (other s) m.content).writes) (sym source) in
          omega arith

  -- Split
  module _ (live : m.link ≡ Link.Live) (source : m.source ≡ run.old) (is : is_recovery (op run) ≡ true) where
    abbrev split_content : Content
    split_content = record {
      line = root run;
      base = (at (other m.source) m.content).writes;
      writes = (at (other m.source) m.content).writes;
    }

    abbrev split_off : Pair
    split_off = worked run StageKind.Split m

    split_new : at (other m.source) split_off.content ≡ split_content
    split_new = at_put (other m.source) split_content m.content

    split_old : at m.source split_off.content ≡ at m.source m.content
    split_old = at_put_other m.source split_content m.content

    split_reads : (row : StartPair) → ReadsAtMost run.old m row → ReadsAtMost run.old split_off row
    split_reads row r = subst (λ o. ReadsAtMost o split_off row) source (go (subst (λ o. ReadsAtMost o m row) (sym source) r))
      where
        go : ReadsAtMost m.source m row → ReadsAtMost m.source split_off row
        go r = record {
          new_side = omega (arith, r.new_side, ap (λ c. c.writes) split_new);
          old_side = λ seen. omega (arith, r.old_side seen, ap (λ c. c.writes) split_old);
        }

    split_held : held run.old split_off ≡ held run.old m
    split_held = subst (λ o. held o split_off ≡ held o m) source (ap (λ c. c.base) split_new ∙ sym (ap (λ l. held_by l (at (other m.source) m.content)) live))

    split_holds : HoldsAll run.old m → HoldsAll run.old split_off
    split_holds a = record {
      source = source;
      frozen = subst (λ o. at o split_off.writable ≡ false) source (at_put_other m.source true m.writable ∙ subst (λ o. at o m.writable ≡ false) (sym source) a.frozen);
      equal = split_held ∙ a.equal ∙ subst (λ o. (at o m.content).writes ≡ (at o split_off.content).writes) source (sym (ap (λ c. c.writes) split_old));
    }

    not_testing : op run ≡ Op.Testing → ⊥
    not_testing e = let wrong : false ≡ true = rw e at is in cc

    not_reprotect : op run ≡ Op.Reprotect → ⊥
    not_reprotect e = let wrong : false ≡ true = rw e at is in cc

    pub split_writes : FitsWrites k m run → FitsWrites k (worked run StageKind.Split m) run
    split_writes w = record {
      since_start = if_some _ _ split_reads (pair_row k run.start) w.since_start;
      since_migration = if_some _ _ (λ t. if_some _ _ split_reads (pair_row k t.start)) (migration run) w.since_migration;
      tested = λ e done. absurd (not_testing e);
      replicated = λ e done. if_some _ _ (λ row le seen. omega (arith, le seen, split_held)) (pair_row k run.start) (w.replicated e done);
      kept_all = λ e done. split_holds (w.kept_all e done);
      kept_all_before = if_some _ _ (λ t a done. split_holds (a done)) (migration run) w.kept_all_before;
      reversed = λ e done. absurd (not_reprotect e);
    }

    -- the pair is split by this run
    pub split_by : FitsWrites k m run → IsSplitIn k (worked run StageKind.Split m) run
    split_by w =
        subst (λ o. IsSplitBy k split_off (other o) (root run) (root_start run)) source
        record {
          line = ap (λ c. c.line) split_new;
          base = omega (arith, ap (λ c. c.base) split_new, ap (λ c. c.writes) split_new);
          at_least = go (migration run) w.since_migration;
        }
      where
        low : (start : StartRow) → ReadsAtMostIn k m run.old start → IfSome (pair_row k start) (λ row. row.new_writes ≤ (at (other m.source) split_off.content).base)
        low start r =
            if_some {X = StartPair} (ReadsAtMost run.old m) (λ row. row.new_writes ≤ (at (other m.source) split_off.content).base)
            (λ row x. omega (arith, (subst (λ o. ReadsAtMost o m row) (sym source) x).new_side, ap (λ c. c.base) split_new)) (pair_row k start) r

        go : (o : Option TakenOver) → IfSome o (λ t. ReadsAtMostIn k m run.old t.start) → IfSome (pair_row k (start_or run.start o)) (λ row. row.new_writes ≤ (at (other m.source) split_off.content).base)
        go None h = low run.start w.since_start
        go (Some t) h = low t.start h

  -- Reverse
  module _ (source : m.source ≡ run.old) (is : op run ≡ Op.Reprotect) (base : (at (other m.source) m.content).base ≤ (at (other m.source) m.content).writes) where
    abbrev reversed_content : Content
    reversed_content = record {
      line = (at (other m.source) m.content).line;
      base = (at (other m.source) m.content).base;
      writes = (at (other m.source) m.content).base;
    }

    abbrev turned : Pair
    turned = worked run StageKind.Reverse m

    turned_old : at m.source turned.content ≡ reversed_content
    turned_old = at_put m.source reversed_content m.content

    turned_new : at (other m.source) turned.content ≡ at (other m.source) m.content
    turned_new = at_other_put m.source reversed_content m.content

    pub turned_replicating : IsReplicating (worked run StageKind.Reverse m)
    turned_replicating = record_of (other_other m.source)
      where
        record_of : other (other m.source) ≡ m.source → IsReplicating turned
        record_of e = record {
          line = ap (λ s. (at s turned.content).line) e ∙ ap (λ c. c.line) turned_old ∙ sym (ap (λ c. c.line) turned_new);
          behind = omega (arith, ap (λ s. (at s turned.content).writes) e, ap (λ c. c.writes) turned_old, ap (λ c. c.writes) turned_new, base);
        }

    -- the old side was not read, and the new one stays
    turned_reads : (row : StartPair) → row.seen ≡ false → ReadsAtMost run.old m row → ReadsAtMost run.old turned row
    turned_reads row unseen r = record {
      new_side = subst (λ o. row.new_writes ≤ (at (other o) turned.content).writes) source (omega (arith, (subst (λ o. ReadsAtMost o m row) (sym source) r).new_side, ap (λ c. c.writes) turned_new));
      old_side = λ seen. absurd (let wrong : true ≡ false = sym seen ∙ unseen in cc);
    }

    none_before : (P : TakenOver → Type 0) → IfSome (migration run) P
    none_before P = rw is tt

    not_recovery : is_recovery (op run) ≡ true → ⊥
    not_recovery e = let wrong : false ≡ true = rw is at e in cc

    pub turned_writes : IfSome (pair_row k run.start) (λ row. row.seen ≡ false) → is_done_whole run StageKind.FinalSync ≡ false → FitsWrites k m run → FitsWrites k (worked run StageKind.Reverse m) run
    turned_writes unseen not_final w = record {
      since_start = both (pair_row k run.start) unseen w.since_start;
      since_migration = none_before _;
      tested = λ e done. absurd (let wrong : Op.Testing ≡ Op.Reprotect = sym e ∙ is in cc);
      replicated = λ e done. absurd (not_recovery e);
      kept_all = λ e done. absurd (not_recovery e);
      kept_all_before = none_before _;
      reversed = λ e done. absurd (let wrong : true ≡ false = sym done ∙ not_final in cc);
    }
      where
        both : (o : Option StartPair) → IfSome o (λ row. row.seen ≡ false) → IfSome o (ReadsAtMost run.old m) → IfSome o (ReadsAtMost run.old turned)
        both None u r = tt
        both (Some row) u r = turned_reads row u r

-- The group's numbers, where the pair is worked in the group's last run

-- what a call asks besides: the source is the old side, and the stage is one of the operation's
abbrev pub Fitting : StageKind → Run → List Run → ℕ → ℕ → Pair → Type 0
Fitting StageKind.Sync run runs g k m = Unit {0}
Fitting StageKind.FinalSync run runs g k m = Unit {0}
Fitting StageKind.TestStart run runs g k m = m.source ≡ run.old
Fitting StageKind.TestStop run runs g k m = Unit {0}
Fitting StageKind.Prepare run runs g k m = Unit {0}
Fitting StageKind.Split run runs g k m = (m.source ≡ run.old) × (is_recovery (op run) ≡ true) × (find (splits g) runs ≡ Some run)
Fitting StageKind.Reverse run runs g k m =
    (m.source ≡ run.old) × (op run ≡ Op.Reprotect) × IsSomeAnd (find (splits g) runs) (λ q. q.old ≡ run.old)
    × IfSome (pair_row k run.start) (λ row. row.seen ≡ false) × (is_done_whole run StageKind.FinalSync ≡ false)
Fitting _ run runs g k m = Unit {0}

pub if_some_and : {X : Type 0} (P Q R : X → Type 0) → ((x : X) → P x → Q x → R x) → (o : Option X) → IfSome o P → IfSome o Q → IfSome o R
if_some_and P Q R f None h k = tt
if_some_and P Q R f (Some x) h k = f x h k

-- A call that is done on a pair keeps its numbers.
pub numbers-call : (kind : StageKind) (run : Run) (runs : List Run) (g k : ℕ) (m : Pair) → last_of_group g runs ≡ Some run → MayWork kind m → Fitting kind run runs g k m → FitsNumbers runs g k m → FitsNumbers runs g k (worked run kind m)
numbers-call kind run runs g k m last may fitting h = go kind may fitting
  where
    w : FitsWrites k m run
    w = rw last at h.writes

    go : (kind : StageKind) → MayWork kind m → Fitting kind run runs g k m → FitsNumbers runs g k (worked run kind m)
    go StageKind.Sync may f = record { live = λ e. sync_replicating run k m may (h.live may); split = λ e. absurd (let wrong : Link.Live ≡ Link.Split = sym may ∙ e in cc); writes = rw last (sync_writes run k m may (h.live may) w) }
    go StageKind.FinalSync may f = record { live = λ e. sync_replicating run k m may (h.live may); split = λ e. absurd (let wrong : Link.Live ≡ Link.Split = sym may ∙ e in cc); writes = rw last (sync_writes run k m may (h.live may) w) }
    go StageKind.TestStart may f = record {
      live = λ e. let l = h.live e in record { line = l.line; behind = l.behind };
      split = λ e. if_some _ _ (λ q s. record { line = s.line; base = s.base; at_least = s.at_least }) (find (splits g) runs) (h.split e);
      writes = rw last (test_start_writes run k m may.0 f (h.live may.0) w);
    }
    go StageKind.TestStop may f = record {
      live = λ e. let l = h.live e in record { line = l.line; behind = l.behind };
      split = λ e. if_some _ _ (λ q s. record { line = s.line; base = s.base; at_least = s.at_least }) (find (splits g) runs) (h.split e);
      writes = rw last (test_stop_writes run k m w);
    }
    go StageKind.Prepare may f = record {
      live = λ e. let l = h.live e in record { line = l.line; behind = l.behind };
      split = λ e. if_some _ _ (λ q s. record { line = s.line; base = s.base; at_least = s.at_least }) (find (splits g) runs) (h.split e);
      writes = rw last (prepare_writes run k m w);
    }
    go StageKind.Split may f = record {
      live = λ e. absurd (let wrong : Link.Split ≡ Link.Live = e in cc);
      split = λ e. rw f.2 (split_by run k m may.0 f.0 f.1 w);
      writes = rw last (split_writes run k m may.0 f.0 f.1 w);
    }
    go StageKind.Reverse may f = record {
      live = λ e. turned_replicating run k m f.0 f.1 (base (find (splits g) runs) f.2 (h.split may.0));
      split = λ e. absurd (let wrong : Link.Live ≡ Link.Split = e in cc);
      writes = rw last (turned_writes run k m f.0 f.1 (base (find (splits g) runs) f.2 (h.split may.0)) f.3 f.4 w);
    }
      where
        base : (o : Option Run) → IsSomeAnd o (λ q. q.old ≡ run.old) → IfSome o (IsSplitIn k m) → (at (other m.source) m.content).base ≤ (at (other m.source) m.content).writes
        base None old s = elim old [ ]
        base (Some q) old s = subst (λ o. (at (other o) m.content).base ≤ (at (other o) m.content).writes) (old ∙ sym f.0) s.base
    go StageKind.Start may f = elim may [ ]
    go StageKind.Stop may f = elim may [ ]
    go StageKind.Clear may f = elim may [ ]
    go StageKind.Command may f = elim may [ ]
    go StageKind.Prompt may f = elim may [ ]

-- A call, Ok or Failed, with drifts before and after it.
pub numbers-called : (kind : StageKind) (run : Run) (runs : List Run) (g k : ℕ) (p q : Pair) → last_of_group g runs ≡ Some run → (call : AtCall run kind p q) → Fitting kind run runs g k call.before → FitsNumbers runs g k p → FitsNumbers runs g k q
numbers-called kind run runs g k p q last call fitting h = drift_numbers call.after q call.drifts_on runs g k (go call.does)
  where
    before : FitsNumbers runs g k call.before
    before = drift_numbers p call.before call.drifts runs g k h

    go : (call.after ≡ worked run kind call.before) ⊎ (call.after ≡ call.before) → FitsNumbers runs g k call.after
    go (inl done) = subst (FitsNumbers runs g k) (sym done) (numbers-call kind run runs g k call.before last call.may fitting before)
    go (inr same) = subst (FitsNumbers runs g k) (sym same) before
