-- What a call of the array makes of a pair: in a test or a cleanup a drift and a snapshot; and outside a reprotect no side has fewer writes.
use Rattle.std.specs.Prelude.{◌≡◌, ◌≢◌, ℕ, ◌≤◌, ◌⊎◌, Bool, true, false, ◌&&◌}
use Rattle.std.proofs.Common.{refl, sym, ap, ◌∙◌, inl, inr, subst, arith}
use Rattle.dr_base.specs.Sides.{other}
use Rattle.dr_base.specs.Lists.{has}
use Rattle.dr_outside.specs.BySide.{at, put}
use Rattle.dr_outside.specs.Pairs.{frame_of, is_target, Grows, FollowsSource, Drift}
use Rattle.dr_outside.proofs.Drifts.{grows_refl, Drift-refl}
use Rattle.dr_meaning.specs.Types.{Side, Sides, Op, Link, Content, Pair, Plan}
use Rattle.dr_meaning.specs.declared.stage.StageKind.{StageKind}
use Rattle.dr_meaning.specs.declared.stage.Stage.{Stage}
use Rattle.dr_meaning.specs.Testing.{DriftsButSnapshot}
use Rattle.dr_meaning.specs.Stages.{stages, wind_down}
use Rattle.dr_meaning.specs.Runs.{Run, op, root}
use Rattle.dr_meaning.specs.Reach.{works}
use Rattle.dr_meaning.specs.Fits.{IsReplicating}
use Rattle.dr_meaning.specs.Changes.{is_test}
use Rattle.dr_meaning.proofs.Lists.{Each, each-append, each-map}
use Rattle.dr_model.proofs.StageLaws.{IsCallout, IsWave, each-start_up, wind_down-kind}
use Rattle.dr_model.proofs.CallSteps.{MayWork, worked}
use Rattle.dr_model.proofs.CallFacts.{Within}
use Rattle.dr_model.proofs.CallLaws.{sync_source, sync_target, sync_rises}
use Rattle.dr_model.proofs.FitsDrift.{target_of}
use Rattle.dr_model.proofs.WholeTest.{other_side}
use Rattle.dr_model.proofs.GrowsOn.{but_of}
use Rattle.dr_model.proofs.Reprotected.{either_side}

-- The stages of a test and of a cleanup ---------------------------------------------------------------------------

-- the kinds of stages that a test or a cleanup has
abbrev pub TestKind : Op → StageKind → Type 0
TestKind o StageKind.Sync = o ≡ Op.Testing
TestKind o StageKind.FinalSync = ⊥
TestKind o StageKind.TestStart = Unit {0}
TestKind o StageKind.TestStop = Unit {0}
TestKind o StageKind.Prepare = ⊥
TestKind o StageKind.Split = ⊥
TestKind o StageKind.Reverse = ⊥
TestKind o StageKind.Stop = ⊥
TestKind o StageKind.Clear = o ≡ Op.Cleanup
TestKind o StageKind.Start = Unit {0}
TestKind o StageKind.Command = Unit {0}
TestKind o StageKind.Prompt = Unit {0}

abbrev pub IsTestStage : Op → Stage → Type 0
IsTestStage o s = TestKind o s.kind

pub test_stages_are : (plan : Plan) (o : Op) (forced : Bool) → is_test o ≡ true → Each (IsTestStage o) (stages plan o forced)
test_stages_are plan Op.Testing forced e = (refl, (tt, each-start_up (IsTestStage Op.Testing) plan callout (λ s e. rw e tt)))
  where
    callout : (s : Stage) → IsCallout s → IsTestStage Op.Testing s
    callout s (inl e, none) = rw e tt
    callout s (inr e, none) = rw e tt
test_stages_are plan Op.Cleanup forced e =
    each-append (IsTestStage Op.Cleanup) (wind_down StageKind.Clear plan) _ (each-map (IsWave StageKind.Clear) (IsTestStage Op.Cleanup) (λ s e. rw e refl) _ (wind_down-kind StageKind.Clear plan)) (tt, tt)
test_stages_are plan Op.Migrate forced e = absurd cc
test_stages_are plan Op.Failover forced e = absurd cc
test_stages_are plan Op.Reprotect forced e = absurd cc

-- none works a machine at the old side
abbrev pub LeavesOld : Run → Stage → Type 0
LeavesOld run s = (m : ℕ) → works run s m run.old ≡ false

and_false : (b c : Bool) → c ≡ false → b && c ≡ false
and_false true c e = e
and_false false c e = refl

pub test_leaves_old : (run : Run) → is_test (op run) ≡ true → Each (LeavesOld run) (stages run.plan (op run) run.start.forced)
test_leaves_old run e = go (op run) refl e
  where
    callout : (s : Stage) → IsCallout s → LeavesOld run s
    callout s c m = rw c.1 refl

    start : (s : Stage) → s.kind ≡ StageKind.Start → LeavesOld run s
    start s k m = and_false (has s.machines m) _ (rw k (other_side run.old))

    clear : op run ≡ Op.Cleanup → (s : Stage) → s.kind ≡ StageKind.Clear → LeavesOld run s
    clear is s k m = and_false (has s.machines m) _ (rw (k, is) (other_side run.old))

    go : (o : Op) → op run ≡ o → is_test o ≡ true → Each (LeavesOld run) (stages run.plan o run.start.forced)
    go Op.Testing is t = (λ m. refl, (λ m. refl, each-start_up (LeavesOld run) run.plan callout start))
    go Op.Cleanup is t = each-append (LeavesOld run) (wind_down StageKind.Clear run.plan) _ (each-map (IsWave StageKind.Clear) (LeavesOld run) (clear is) _ (wind_down-kind StageKind.Clear run.plan)) (λ m. refl, tt)
    go Op.Migrate is t = absurd cc
    go Op.Failover is t = absurd cc
    go Op.Reprotect is t = absurd cc

-- A pair -----------------------------------------------------------------------------------------------------------------

-- a replication of a pair whose target isn't writable is a drift
module _ (run : Run) (k : ℕ) (m : Pair) (live : m.link ≡ Link.Live) (h : IsReplicating m) (frozen : at (other m.source) m.writable ≡ false) where
  abbrev synced : Pair
  synced = worked run StageKind.Sync m

  source_stays : at m.source synced.content ≡ at m.source m.content
  source_stays = sync_source run k m live h

  target_is : at (other m.source) synced.content ≡ at m.source m.content
  target_is = sync_target run k m live h

  follows : FollowsSource (at (other m.source) m.content) (at m.source synced.content) (at (other m.source) synced.content)
  follows = record {
    line = ap (λ c. c.line) (target_is ∙ sym source_stays);
    at_least = omega (arith, h.behind, ap (λ c. c.writes) target_is);
    at_most = omega (arith, ap (λ c. c.writes) (target_is ∙ sym source_stays));
  }

  sync_drifts : Drift m (worked run StageKind.Sync m)
  sync_drifts = record {
    frame = refl;
    snapshot = refl;
    written = λ side. written side (either_side side m.source);
    replicated = λ side t. replicated side (either_side side m.source);
    read_only = λ side w. read_only side (either_side side m.source);
  }
    where
      written : (side : Side) → (side ≡ m.source) ⊎ (side ≡ other m.source) → at side m.writable ≡ true → Grows (at side m.content) (at side synced.content)
      written side (inl same) w = subst (λ s. Grows (at s m.content) (at s synced.content)) (sym same) (grows_refl _ _ source_stays)
      written side (inr same) w = absurd (let wrong : true ≡ false = sym w ∙ ap (λ s. at s m.writable) same ∙ frozen in cc)

      replicated : (side : Side) → (side ≡ m.source) ⊎ (side ≡ other m.source) → (at side synced.content ≡ at side m.content) ⊎ FollowsSource (at side m.content) (at m.source synced.content) (at side synced.content)
      replicated side (inl same) = inl (subst (λ s. at s synced.content ≡ at s m.content) (sym same) source_stays)
      replicated side (inr same) = inr (subst (λ s. FollowsSource (at s m.content) (at m.source synced.content) (at s synced.content)) (sym same) follows)

      read_only : (side : Side) → (side ≡ m.source) ⊎ (side ≡ other m.source) → is_target side (frame_of m) ≡ false → at side synced.content ≡ at side m.content
      read_only side (inl same) t = subst (λ s. at s synced.content ≡ at s m.content) (sym same) source_stays
      read_only side (inr same) t = absurd (let wrong : true ≡ false = sym (target_of m live) ∙ ap (λ s. is_target s (frame_of m)) (sym same) ∙ t in cc)

-- a call of a test or a cleanup
pub test_call : (run : Run) (k : ℕ) (kind : StageKind) (m : Pair) → TestKind (op run) kind → MayWork kind m → (m.link ≡ Link.Live → IsReplicating m) → (op run ≡ Op.Testing → at (other m.source) m.writable ≡ false) → DriftsButSnapshot m (worked run kind m)
test_call run k StageKind.Sync m is may live frozen = but_of m (worked run StageKind.Sync m) (sync_drifts run k m may (live may) (frozen is))
test_call run k StageKind.TestStart m is may live frozen = Drift-refl m
test_call run k StageKind.TestStop m is may live frozen = Drift-refl m
test_call run k StageKind.FinalSync m is may live frozen = elim is [ ]
test_call run k StageKind.Prepare m is may live frozen = elim is [ ]
test_call run k StageKind.Split m is may live frozen = elim is [ ]
test_call run k StageKind.Reverse m is may live frozen = elim is [ ]
test_call run k _ m is may live frozen = elim may [ ]

-- any call but a reprotect's
pub call_rises : (run : Run) (k : ℕ) (kind : StageKind) (m : Pair) → Within (op run) kind → op run ≢ Op.Reprotect → MayWork kind m → (m.link ≡ Link.Live → IsReplicating m) → (side : Side) → (at side m.content).writes ≤ (at side (worked run kind m).content).writes
call_rises run k StageKind.Sync m within ne may live side = sync_rises run k m may (live may) side
call_rises run k StageKind.FinalSync m within ne may live side = sync_rises run k m may (live may) side
call_rises run k StageKind.TestStart m within ne may live side = omega arith
call_rises run k StageKind.TestStop m within ne may live side = omega arith
call_rises run k StageKind.Prepare m within ne may live side = omega arith
call_rises run k StageKind.Split m within ne may live side = go m.source side m.content
  where
    go : (s side : Side) (c : Sides Content) → (at side c).writes ≤ (at side (put (other s) (record { line = root run; base = (at (other s) c).writes; writes = (at (other s) c).writes }) c)).writes
    go Side.A Side.A c = omega arith
    go Side.A Side.B c = omega arith
    go Side.B Side.A c = omega arith
    go Side.B Side.B c = omega arith
call_rises run k StageKind.Reverse m within ne may live side = absurd (ne within)
call_rises run k _ m within ne may live side = elim may [ ]
