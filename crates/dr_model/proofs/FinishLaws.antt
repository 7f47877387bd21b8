-- A lawful Finish: what its run may have made of an object is what the run means.
use Rattle.std.specs.Prelude.{◌≡◌, ℕ, ◌==◌, Bool, true, false, List, Some, IsTrue, map}
use Rattle.std.specs.Bool.{MatchBool}
use Rattle.std.proofs.Common.{refl, sym, ap, ◌∙◌, subst}
use Rattle.std.proofs.lemmas.Bool.{eqb-true}
use Rattle.dr_meaning.specs.Types.{Side, Op, Placed, Post, PlanMachine, Record}
use Rattle.dr_outside.specs.Pairs.{Frame}
use Rattle.dr_base.specs.Sides.{other, same_side}
use Rattle.dr_meaning.specs.Stages.{stages}
use Rattle.dr_meaning.specs.Runs.{Setting, Run, number, op, new, holds, is_finished, is_open, last_of_group, run_at, with_record, take_in, add_record}
use Rattle.dr_meaning.specs.Reach.{ReachFrame, ReachPost}
use Rattle.dr_meaning.specs.Meaning.{FrameMeaning, MeansFrame, OldPostMeaning, NewPostMeaning, MeansPost}
use Rattle.dr_meaning.specs.Expected.{wanted, LeavesFrame, ExpectedFrame, ExpectedPost}
use Rattle.dr_meaning.specs.Lawful.{MayFinish, MayCome}
use Rattle.dr_meaning.proofs.Lists.{Each, each-find, each-map, find-passes}
use Rattle.dr_model.proofs.StageLaws.{IsMachineOf}
use Rattle.dr_model.proofs.ExpectedLaws.{after-take_in, after-take_in_elsewhere, frame_meaning-finish}
use Rattle.dr_model.proofs.TableLaws.{IsTable, table_falls, open_is_last_of}
use Rattle.dr_model.proofs.LogLaws.{IsGoneThrough, head_done, finish_walked, only_run, unfinished}
use Rattle.dr_model.proofs.WholeTest.{test_frame, test_old_post, test_new_post}
use Rattle.dr_model.proofs.WholeMigrate.{migrate_frame, recovery_old_post, recovery_new_post}
use Rattle.dr_model.proofs.WholeClear.{cleanup_frame, cleanup_old_post, cleanup_new_post, reprotect_frame, reprotect_old_post, reprotect_new_post}
use Rattle.dr_model.proofs.WholeSkips.{IsThrough, failover_frame, failover_old_post, failover_new_post}
use Rattle.dr_model.proofs.ExcuseLaws.{ExcusesRightly}
use Rattle.dr_model.proofs.ChainLaws.{open_run}
use Rattle.dr_model.proofs.PostPhase.{OpensPost, LeavesIts}
use Rattle.dr_model.proofs.PhaseLaws.{Opens}

module _ (r : Run) (machines : List ℕ) (gone : IsGoneThrough r) (rightly : ExcusesRightly r) (may : MayFinish r machines) where
  pub through : IsThrough r
  through = record { all_done = may.all_done; done = head_done _ may.none_begun gone.before; rightly = rightly }

  pub finish_frame : (x y : Frame) → ReachFrame r x y → MeansFrame r x y
  finish_frame x y reach = go (op r) refl
    where
      go : (o : Op) → op r ≡ o → MeansFrame r x y
      go Op.Testing e = test_frame r e (finish_walked r machines gone (λ f. let wrong : Op.Testing ≡ Op.Failover = sym e ∙ f in cc) may) x y reach
      go Op.Cleanup e = cleanup_frame r e (finish_walked r machines gone (λ f. let wrong : Op.Cleanup ≡ Op.Failover = sym e ∙ f in cc) may) x y reach
      go Op.Migrate e = migrate_frame r e (finish_walked r machines gone (λ f. let wrong : Op.Migrate ≡ Op.Failover = sym e ∙ f in cc) may) x y reach
      go Op.Failover e = failover_frame r e through x y reach
      go Op.Reprotect e = reprotect_frame r e (finish_walked r machines gone (λ f. let wrong : Op.Reprotect ≡ Op.Failover = sym e ∙ f in cc) may) x y reach

  module _ (m : PlanMachine) (of_plan : IsMachineOf r.plan m) (w : Placed) (x y : Post) where
    old_means : ReachPost r m.machine r.old w x y → OldPostMeaning (op r) r.start.forced r m.machine x y
    old_means reach = go (op r) refl
      where
        meant : (o : Op) → op r ≡ o → OldPostMeaning o r.start.forced r m.machine x y → OldPostMeaning (op r) r.start.forced r m.machine x y
        meant o e h = subst (λ (p : Op). OldPostMeaning p r.start.forced r m.machine x y) (sym e) h

        go : (o : Op) → op r ≡ o → OldPostMeaning (op r) r.start.forced r m.machine x y
        go Op.Testing e = meant Op.Testing e (test_old_post r m.machine w e (finish_walked r machines gone (λ f. let wrong : Op.Testing ≡ Op.Failover = sym e ∙ f in cc) may) x y reach)
        go Op.Cleanup e = meant Op.Cleanup e (cleanup_old_post r m.machine w e (finish_walked r machines gone (λ f. let wrong : Op.Cleanup ≡ Op.Failover = sym e ∙ f in cc) may) x y reach)
        go Op.Migrate e = meant Op.Migrate e (recovery_old_post r m w (ap (λ o. stages r.plan o r.start.forced) e) of_plan (finish_walked r machines gone (λ f. let wrong : Op.Migrate ≡ Op.Failover = sym e ∙ f in cc) may) x y reach)
        go Op.Failover e = meant Op.Failover e (failover_old_post r m w e of_plan through r.start.forced refl x y reach)
        go Op.Reprotect e = meant Op.Reprotect e (reprotect_old_post r m w of_plan e (finish_walked r machines gone (λ f. let wrong : Op.Reprotect ≡ Op.Failover = sym e ∙ f in cc) may) x y reach)

    new_means : ReachPost r m.machine (new r) w x y → NewPostMeaning (op r) r m.machine w x y
    new_means reach = go (op r) refl
      where
        meant : (o : Op) → op r ≡ o → NewPostMeaning o r m.machine w x y → NewPostMeaning (op r) r m.machine w x y
        meant o e h = subst (λ (p : Op). NewPostMeaning p r m.machine w x y) (sym e) h

        go : (o : Op) → op r ≡ o → NewPostMeaning (op r) r m.machine w x y
        go Op.Testing e = meant Op.Testing e (test_new_post r m w of_plan e (finish_walked r machines gone (λ f. let wrong : Op.Testing ≡ Op.Failover = sym e ∙ f in cc) may) x y reach)
        go Op.Cleanup e = meant Op.Cleanup e (cleanup_new_post r m w of_plan e (finish_walked r machines gone (λ f. let wrong : Op.Cleanup ≡ Op.Failover = sym e ∙ f in cc) may) x y reach)
        go Op.Migrate e = meant Op.Migrate e (recovery_new_post r m w (ap (λ o. stages r.plan o r.start.forced) e) of_plan (finish_walked r machines gone (λ f. let wrong : Op.Migrate ≡ Op.Failover = sym e ∙ f in cc) may) x y reach)
        go Op.Failover e = meant Op.Failover e (failover_new_post r m w e of_plan through x y reach)
        go Op.Reprotect e = meant Op.Reprotect e (reprotect_new_post r m.machine w e (finish_walked r machines gone (λ f. let wrong : Op.Reprotect ≡ Op.Failover = sym e ∙ f in cc) may) x y reach)

    pub is_old : (side old : Side) (b : Bool) → same_side side old ≡ b → MatchBool b (side ≡ old) (side ≡ other old)
    is_old Side.A Side.A b e = rw (← e) refl
    is_old Side.A Side.B b e = rw (← e) refl
    is_old Side.B Side.A b e = rw (← e) refl
    is_old Side.B Side.B b e = rw (← e) refl

    pub finish_post : (side : Side) → ReachPost r m.machine side w x y → MeansPost r m.machine side w x y
    finish_post side reach = go (same_side side r.old) (is_old side r.old (same_side side r.old) refl)
      where
        go : (b : Bool) → MatchBool b (side ≡ r.old) (side ≡ new r) → MatchBool b (OldPostMeaning (op r) r.start.forced r m.machine x y) (NewPostMeaning (op r) r m.machine w x y)
        go true s = old_means (subst (λ z. ReachPost r m.machine z w x y) s reach)
        go false s = new_means (subst (λ z. ReachPost r m.machine z w x y) s reach)

-- In the journal

-- a Finish changes no meaning
old_finish : (o : Op) (forced : Bool) (r : Run) (n moment : ℕ) (ms : List ℕ) (m : ℕ) (x y : Post) → OldPostMeaning o forced r m x y → OldPostMeaning o forced (with_record r (Record.Finish n moment ms)) m x y
old_finish Op.Testing forced r n moment ms m x y h = h
old_finish Op.Cleanup forced r n moment ms m x y h = h
old_finish Op.Migrate forced r n moment ms m x y h = h
old_finish Op.Failover true r n moment ms m x y h = h
old_finish Op.Failover false r n moment ms m x y h = h
old_finish Op.Reprotect forced r n moment ms m x y h = h

new_finish : (o : Op) (r : Run) (n moment : ℕ) (ms : List ℕ) (m : ℕ) (w : Placed) (x y : Post) → NewPostMeaning o r m w x y → NewPostMeaning o (with_record r (Record.Finish n moment ms)) m w x y
new_finish Op.Testing r n moment ms m w x y h = h
new_finish Op.Cleanup r n moment ms m w x y h = h
new_finish Op.Migrate r n moment ms m w x y h = h
new_finish Op.Failover r n moment ms m w x y h = h
new_finish Op.Reprotect r n moment ms m w x y h = h

means_finish : (r : Run) (n moment : ℕ) (ms : List ℕ) (m : ℕ) (side : Side) (w : Placed) (x y : Post) → MeansPost r m side w x y → MeansPost (with_record r (Record.Finish n moment ms)) m side w x y
means_finish r n moment ms m side w x y = go (same_side side r.old)
  where
    go : (b : Bool) → MatchBool b (OldPostMeaning (op r) r.start.forced r m x y) (NewPostMeaning (op r) r m w x y) → MatchBool b (OldPostMeaning (op r) r.start.forced (with_record r (Record.Finish n moment ms)) m x y) (NewPostMeaning (op r) (with_record r (Record.Finish n moment ms)) m w x y)
    go true h = old_finish (op r) r.start.forced r n moment ms m x y h
    go false h = new_finish (op r) r n moment ms m w x y h

-- the machine is one of the run's plan
abbrev pub IsPlanned : Run → ℕ → Type 0
IsPlanned r machine = (m : PlanMachine) × IsMachineOf r.plan m × (m.machine ≡ machine)

module _ (setting : Setting) (runs : List Run) (table : IsTable runs) (gone : Each IsGoneThrough runs) (rightly : Each ExcusesRightly runs) (n moment : ℕ) (ms : List ℕ) (may : MayCome setting runs (Record.Finish n moment ms)) (g : ℕ) where
  the_run : (r : Run) × (run_at n runs ≡ Some r) × (is_open r ≡ true)
  the_run = open_run (run_at n runs) _ may

  not_held : (r : Run) → run_at n runs ≡ Some r → holds g r ≡ false → Each (λ q. number q ≡ n → holds g q ≡ false) runs
  not_held r at_n held = each-map (λ q. number q ≡ n → q ≡ r) (λ q. number q ≡ n → holds g q ≡ false) (λ q same at_q. rw (same at_q) held) runs (only_run n runs r (table_falls runs table) at_n)

  may_finish : (r : Run) → run_at n runs ≡ Some r → MayFinish r ms
  may_finish r at_n = let both : IsTrue (is_open r) × MayFinish r ms = rw at_n at may in both.1

  -- A lawful Finish leaves every expected frame expected.
  pub lawful-finish_frame : (y : Frame) → ExpectedFrame setting.estate g runs y → ExpectedFrame setting.estate g (add_record setting runs (Record.Finish n moment ms)) y
  lawful-finish_frame y expected = let (r, at_n, going) = the_run in go r at_n going (holds g r) refl
    where
      go : (r : Run) → run_at n runs ≡ Some r → is_open r ≡ true → (b : Bool) → holds g r ≡ b → ExpectedFrame setting.estate g (map (take_in (Record.Finish n moment ms)) runs) y
      go r at_n going true held =
          let own : number r ≡ n = eqb-true (number r) n (find-passes (λ run. number run == n) runs r at_n) in
          let last : last_of_group g runs ≡ Some r = open_is_last_of (λ run. number run == n) g r runs table at_n going held in
          let unfin : is_finished r ≡ false = unfinished (is_finished r) (r.by == 0) going in
          let its_gone : IsGoneThrough r = each-find IsGoneThrough (λ q. number q == n) runs r gone at_n in
          let its_rightly : ExcusesRightly r = each-find ExcusesRightly (λ q. number q == n) runs r rightly at_n in
          after-take_in (Opens setting.estate g) LeavesFrame g runs r (Record.Finish n moment ms) y y (table_falls runs table) last own
          (λ x l. subst (λ k. FrameMeaning (op r) r.start.forced (with_record r (Record.Finish k moment ms)) x y) own (frame_meaning-finish (op r) r.start.forced r moment ms x y (finish_frame r ms its_gone its_rightly (may_finish r at_n) x y (rw unfin at l)))) expected
      go r at_n going false held = after-take_in_elsewhere (Opens setting.estate g) LeavesFrame g runs (Record.Finish n moment ms) y (not_held r at_n held) expected

  -- and every expected post of a machine of its plan
  pub lawful-finish_post : (m : ℕ) (side : Side) (y : Post) → ((r : Run) → run_at n runs ≡ Some r → holds g r ≡ true → IsPlanned r m) → ExpectedPost setting.estate g m side runs y → ExpectedPost setting.estate g m side (add_record setting runs (Record.Finish n moment ms)) y
  lawful-finish_post m side y planned expected = let (r, at_n, going) = the_run in go r at_n going (holds g r) refl
    where
      go : (r : Run) → run_at n runs ≡ Some r → is_open r ≡ true → (b : Bool) → holds g r ≡ b → ExpectedPost setting.estate g m side (map (take_in (Record.Finish n moment ms)) runs) y
      go r at_n going true held =
          let own : number r ≡ n = eqb-true (number r) n (find-passes (λ run. number run == n) runs r at_n) in
          let last : last_of_group g runs ≡ Some r = open_is_last_of (λ run. number run == n) g r runs table at_n going held in
          let unfin : is_finished r ≡ false = unfinished (is_finished r) (r.by == 0) going in
          let its_gone : IsGoneThrough r = each-find IsGoneThrough (λ q. number q == n) runs r gone at_n in
          let its_rightly : ExcusesRightly r = each-find ExcusesRightly (λ q. number q == n) runs r rightly at_n in
          let (pm, of_plan, same) = planned r at_n held in
          after-take_in (OpensPost setting.estate g m side) (LeavesIts setting.estate g m side) g runs r (Record.Finish n moment ms) y y (table_falls runs table) last own
          (λ x l. means_finish r n moment ms m side (wanted g r m) x y (meant r at_n its_gone its_rightly pm of_plan same x (rw unfin at l))) expected
        where
          meant : (r : Run) → run_at n runs ≡ Some r → IsGoneThrough r → ExcusesRightly r → (pm : PlanMachine) → IsMachineOf r.plan pm → pm.machine ≡ m → (x : Post) → ReachPost r m side (wanted g r m) x y → MeansPost r m side (wanted g r m) x y
          meant r at_n its_gone its_rightly pm of_plan same x reach =
              subst (λ k. MeansPost r k side (wanted g r m) x y) same
              (finish_post r ms its_gone its_rightly (may_finish r at_n) pm of_plan (wanted g r m) x y side (subst (λ k. ReachPost r k side (wanted g r m) x y) (sym same) reach))
      go r at_n going false held = after-take_in_elsewhere (OpensPost setting.estate g m side) (LeavesIts setting.estate g m side) g runs (Record.Finish n moment ms) y (not_held r at_n held) expected
