-- What a pair shows once the work of a stage was done on it: this is what its Done asks for.
use Rattle.std.specs.Prelude.{◌≡◌, ◌≢◌, ℕ, ◌≤◌, ◌⊎◌, true, false, IfSome}
use Rattle.std.proofs.Common.{refl, sym, ap, ◌∙◌, inl, inr, subst, arith}
use Rattle.dr_meaning.specs.Types.{Side, Op, Link, Pair, StartPair}
use Rattle.dr_meaning.specs.declared.stage.StageKind.{StageKind}
use Rattle.dr_base.specs.Sides.{other}
use Rattle.dr_outside.specs.BySide.{at}
use Rattle.dr_outside.specs.Pairs.{Drift}
use Rattle.dr_meaning.specs.Runs.{Run, number, op}
use Rattle.dr_meaning.specs.InOrder.{is_start_up}
use Rattle.dr_meaning.specs.Fits.{pair_row, held, ReadsAtMost, is_recovery, is_done_whole, IsReplicating, HoldsAll, FitsWrites}
use Rattle.dr_model.proofs.NumberLaws.{ShowsDone}
use Rattle.dr_model.proofs.FitsDrift.{if_some, writes_rise, held_rises, drift_holds, drift_test}
use Rattle.dr_model.proofs.CallLaws.{synced, sync_source, sync_target, sync_whole, if_some_and}

-- what is shown is shown after a drift
pub drift_shows : (k : ℕ) (p q : Pair) (run : Run) (kind : StageKind) → Drift p q → ShowsDone k p run kind → ShowsDone k q run kind
drift_shows k p q run kind d s = record {
  tested = λ e is. if_some _ _ (λ row t. drift_test p q d (number run) run.old row t) (pair_row k run.start) (s.tested e is);
  replicated = λ e is. if_some _ _ (λ row le seen. omega (arith, le seen, held_rises p q run.old d)) (pair_row k run.start) (s.replicated e is);
  kept_all = λ e is. drift_holds p q d run.old (s.kept_all e is);
  reversed = λ e is. if_some _ _ (λ row le. omega (arith, le, writes_rise p q d run.old)) (pair_row k run.start) (s.reversed e is);
}

abbrev pub IsReplication : StageKind → Type 0
IsReplication kind = (kind ≡ StageKind.Sync) ⊎ (kind ≡ StageKind.FinalSync)

no_prepare : (kind : StageKind) → IsReplication kind → kind ≡ StageKind.Prepare → ⊥
no_prepare kind (inl e) is = let wrong : StageKind.Sync ≡ StageKind.Prepare = sym e ∙ is in cc
no_prepare kind (inr e) is = let wrong : StageKind.FinalSync ≡ StageKind.Prepare = sym e ∙ is in cc

pub starts_recovery : (o : Op) → is_recovery o ≡ true → is_start_up o ≡ true
starts_recovery Op.Migrate e = refl
starts_recovery Op.Failover e = refl
starts_recovery Op.Testing e = absurd cc
starts_recovery Op.Cleanup e = absurd cc
starts_recovery Op.Reprotect e = absurd cc

-- what is asked of the pair besides, when its replication is called
pub record IsCalledFor (k : ℕ) (run : Run) (m : Pair) : Type 0 where
  -- replication goes from the old side, in a reprotect from the new one
  pub forth : is_start_up (op run) ≡ true → m.source ≡ run.old
  pub back : op run ≡ Op.Reprotect → m.source ≡ other run.old
  -- a test has read each pair, and has no snapshot yet
  pub read : op run ≡ Op.Testing → IfSome (pair_row k run.start) (λ row. row.seen ≡ true)
  pub early : op run ≡ Op.Testing → IfSome m.snapshot (λ s. s.run ≢ number run)
  -- a done Prepare has frozen the old side
  pub frozen : is_recovery (op run) ≡ true → is_done_whole run StageKind.Prepare ≡ true → at run.old m.writable ≡ false

module _ (k : ℕ) (run : Run) (kind : StageKind) (m : Pair) (live : m.link ≡ Link.Live) (h : IsReplicating m) (w : FitsWrites k m run) (c : IsCalledFor k run m) where
  abbrev after : Pair
  after = synced run k m live h

  -- all that was read at the old side has come over
  replicated : m.source ≡ run.old → (row : StartPair) → row.seen ≡ true → ReadsAtMost run.old m row → row.old_writes ≤ held run.old after
  replicated source row seen r =
      let whole : held run.old after ≡ (at run.old after.content).writes = sync_whole run k m live h run.old source in
      let stays : (at run.old after.content).writes ≡ (at run.old m.content).writes = subst (λ o. (at o after.content).writes ≡ (at o m.content).writes) source (ap (λ x. x.writes) (sync_source run k m live h)) in
      omega (arith, r.old_side seen)

  pub shows-replicated : IsReplication kind → ShowsDone k after run kind
  shows-replicated is = record {
    tested = λ e sync. if_some_and _ _ _ (λ row r seen. record { replicated = replicated (c.forth (rw e refl)) row seen r; snapshot = if_some _ _ (λ s not_own own. absurd (not_own own)) m.snapshot (c.early e) }) (pair_row k run.start) w.since_start (c.read e);
    replicated = λ e it. if_some _ _ (λ row r seen. replicated (c.forth (starts_recovery (op run) e)) row seen r) (pair_row k run.start) w.since_start;
    kept_all = λ e it. kept e it;
    reversed = λ e final. if_some _ _ (back (c.back e)) (pair_row k run.start) w.since_start;
  }
    where
      kept : is_recovery (op run) ≡ true → ((kind ≡ StageKind.FinalSync) × (is_done_whole run StageKind.Prepare ≡ true)) ⊎ ((kind ≡ StageKind.Prepare) × (is_done_whole run StageKind.FinalSync ≡ true)) → HoldsAll run.old after
      kept e (inl (final, prepared)) = record { source = c.forth (starts_recovery (op run) e); frozen = c.frozen e prepared; equal = sync_whole run k m live h run.old (c.forth (starts_recovery (op run) e)) }
      kept e (inr (prepare, final)) = absurd (no_prepare kind is prepare)

      other_old : m.source ≡ other run.old → run.old ≡ other m.source
      other_old e = go run.old (ap other e)
        where
          go : (s : Side) → other m.source ≡ other (other s) → s ≡ other m.source
          go Side.A f = sym f
          go Side.B f = sym f

      back : m.source ≡ other run.old → (row : StartPair) → ReadsAtMost run.old m row → row.new_writes ≤ (at run.old after.content).writes
      back e row r =
          let target : (at run.old after.content).writes ≡ (at m.source m.content).writes = ap (λ s. (at s after.content).writes) (other_old e) ∙ ap (λ x. x.writes) (sync_target run k m live h) in
          let source : (at m.source m.content).writes ≡ (at (other run.old) m.content).writes = ap (λ s. (at s m.content).writes) e in
          omega (arith, r.new_side)

-- a Split pair that holds all, as a migration may have left it to a failover
pub shows-held : (k : ℕ) (run : Run) (kind : StageKind) (m : Pair) → is_recovery (op run) ≡ true → HoldsAll run.old m → FitsWrites k m run → ShowsDone k m run kind
shows-held k run kind m is a w = record {
  tested = λ e sync. absurd (let wrong : false ≡ true = rw e at is in cc);
  replicated = λ e it. if_some _ _ (λ row r seen. omega (arith, a.equal, r.old_side seen)) (pair_row k run.start) w.since_start;
  kept_all = λ e it. a;
  reversed = λ e final. absurd (let wrong : false ≡ true = rw e at is in cc);
}

-- any other stage
pub shows-other : (k : ℕ) (run : Run) (kind : StageKind) (m : Pair) → (IsReplication kind → ⊥) → (kind ≡ StageKind.Prepare → is_done_whole run StageKind.FinalSync ≡ false) → ShowsDone k m run kind
shows-other k run kind m quiet early = record {
  tested = λ e is. absurd (quiet (inl is));
  replicated = λ e is. absurd (quiet is);
  kept_all = λ e is. kept e is;
  reversed = λ e is. absurd (quiet (inr is));
}
  where
    kept : is_recovery (op run) ≡ true → ((kind ≡ StageKind.FinalSync) × (is_done_whole run StageKind.Prepare ≡ true)) ⊎ ((kind ≡ StageKind.Prepare) × (is_done_whole run StageKind.FinalSync ≡ true)) → HoldsAll run.old m
    kept e (inl (is, prepared)) = absurd (quiet (inr is))
    kept e (inr (is, final)) = absurd (let wrong : true ≡ false = sym final ∙ early is in cc)
