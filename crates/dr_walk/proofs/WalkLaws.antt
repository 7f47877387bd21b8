-- What a run says, by what is kept of it.
use Rattle.std.specs.Prelude.{◌≡◌, ◌≢◌, ℕ, ◌≤◌, ◌==◌, ◌||◌, not, Bool, true, false, IsTrue, ◌↔◌, List, [], ◌∷◌, Some, None, cond, length, is_some}
use Rattle.std.specs.List.{list_any, AllByRecursion}
use Rattle.std.specs.List.Sorted.{IsStrictlyIncreasing}
use Rattle.std.specs.HashMap as hash
use Rattle.std.proofs.Common.{refl, sym, ap, ◌∙◌, arith}
use Rattle.std.proofs.lemmas.Bool.{eq-eqb, ne_eqb}
use Rattle.std.proofs.lemmas.List.Kept.{IsStrictlyIncreasing-filter}
use Rattle.dr_base.specs.Lists.{has}
use Rattle.dr_meaning.specs.Types.{Op, Record}
use Rattle.dr_meaning.specs.declared.stage.StageKind.{StageKind}
use Rattle.dr_meaning.specs.Stages.{stage_at}
use Rattle.dr_meaning.specs.Visits.{is_skipped}
use Rattle.dr_meaning.specs.Runs.{Run, root, root_number}
use Rattle.dr_meaning.specs.Meaning.{is_wave_of, is_left}
use Rattle.dr_meaning.specs.Lawful.{is_answer, is_answered}
use Rattle.dr_meaning.specs.Reports.{answer_in, left_machines}
use Rattle.dr_meaning.proofs.Elements.{pick, each-contains, has-contains}
use Rattle.dr_model.proofs.MayFinishLaws.{left_named}
use Rattle.dr_progress.specs.Facts.{answer_at}
use Rattle.dr_walk.specs.declared.walk.Walk.{Walk}
use Rattle.dr_walk.specs.Routes.{same_machine}
use Rattle.dr_walk.specs.Walks.{machines_of, is_answered_over, IsWalkOf}
use Rattle.dr_walk.proofs.AscendLaws.{fewer, as_many}
use Rattle.dr_walk.proofs.LeftLaws.{left_at, not_left}

-- whether a log answers a step
pub answered_in : (step : ℕ) (log : List Record) → list_any (is_answer step) log ≡ is_some (answer_in step log)
answered_in step [] = refl
answered_in step (Record.Answer run s text ∷ log) = go (s == step) (answered_in step log)
  where
    go : (b : Bool) → list_any (is_answer step) log ≡ is_some (answer_in step log) → b || list_any (is_answer step) log ≡ is_some (cond b (Some text) (answer_in step log))
    go true rest = refl
    go false rest = rest
answered_in step (Record.Estate bytes ∷ log) = answered_in step log
answered_in step (Record.Start row ∷ log) = answered_in step log
answered_in step (Record.Attempt run moment ∷ log) = answered_in step log
answered_in step (Record.Begin run n ∷ log) = answered_in step log
answered_in step (Record.Done run n ∷ log) = answered_in step log
answered_in step (Record.Skip run n machine ∷ log) = answered_in step log
answered_in step (Record.Aside run machine by ∷ log) = answered_in step log
answered_in step (Record.Code run token machine code ∷ log) = answered_in step log
answered_in step (Record.Finish run moment machines ∷ log) = answered_in step log

module _ (walk : Walk) (run : Run) (w : IsWalkOf walk run) where
  pub answered_told : (step : ℕ) → is_answered run step ≡ is_some (answer_at walk.facts.now walk.run step) || is_answered_over walk.facts.now walk.op walk.over step
  answered_told step =
      let own : list_any (is_answer step) run.log ≡ is_some (answer_at walk.facts.now walk.run step) = answered_in step run.log ∙ ap (λ o. is_some o) (w.keeps.answers step) in
      rw (own, w.answered step) refl

  here : (step : ℕ) (b : Bool) → is_some (answer_at walk.facts.now walk.run step) ≡ b → is_answered run step ≡ b || is_answered_over walk.facts.now walk.op walk.over step
  here step b e = answered_told step ∙ ap (λ x. x || is_answered_over walk.facts.now walk.op walk.over step) e

  pub answered_here : (step : ℕ) → is_some (answer_at walk.facts.now walk.run step) ≡ true → is_answered run step ≡ true
  answered_here step e = here step true e

  pub answered_over : (step : ℕ) → is_some (answer_at walk.facts.now walk.run step) ≡ false → walk.op ≡ Op.Failover → walk.over ≢ 0 → is_answered run step ≡ is_some (answer_at walk.facts.now walk.over step)
  answered_over step e failover some = here step false e ∙ rw (failover, ne_eqb walk.over 0 some) refl

  pub unanswered_over : (step : ℕ) → is_some (answer_at walk.facts.now walk.run step) ≡ false → walk.op ≡ Op.Failover → walk.over ≡ 0 → not (walk.over == 0) ≡ is_answered run step
  unanswered_over step e failover none = rw (eq-eqb walk.over 0 none) (sym (here step false e ∙ rw (failover, eq-eqb walk.over 0 none) refl))

  else_over : (o : Op) (step : ℕ) → o ≢ Op.Failover → is_answered_over walk.facts.now o walk.over step ≡ false
  else_over Op.Failover step ne = absurd (ne refl)
  else_over Op.Testing step ne = refl
  else_over Op.Cleanup step ne = refl
  else_over Op.Migrate step ne = refl
  else_over Op.Reprotect step ne = refl

  pub unanswered_else : (step : ℕ) → is_some (answer_at walk.facts.now walk.run step) ≡ false → walk.op ≢ Op.Failover → is_answered run step ≡ false
  unanswered_else step e other = here step false e ∙ else_over walk.op step other

  pub root_told : root run ≡ root_number walk.op run.start
  root_told = rw w.op refl

  pub left_told : (machine stage : ℕ) → hash.get same_machine walk.route.now.starts machine ≡ Some stage → is_left run machine ≡ is_skipped run.log stage machine
  left_told machine stage at =
      let wave : is_wave_of StageKind.Start machine (stage_at walk.route.now.stages.items stage) ≡ true = (walk.route.now.starts_are machine).0 stage at in
      left_at run w.ordered machine stage (rw w.stages at wave)

  pub not_left_told : (machine : ℕ) → hash.get same_machine walk.route.now.starts machine ≡ None → is_left run machine ≡ false
  not_left_told machine at =
      let none : (n : ℕ) → is_wave_of StageKind.Start machine (stage_at walk.route.now.stages.items n) ≡ false = (walk.route.now.starts_are machine).1 at in
      not_left run machine (rw w.stages at none)

  -- ascending machines that are left, as many as there are, are all that are left
  pub left_named_by : (machines : List ℕ) → IsStrictlyIncreasing machines → ((length machines ≡ walk.progress.now.left) × AllByRecursion (λ m. IsTrue (is_left run m)) machines) ↔ ((m : ℕ) → has machines m ≡ is_left run m)
  left_named_by machines ascend = (there, back)
    where
      own : IsStrictlyIncreasing (left_machines run)
      own = IsStrictlyIncreasing-filter (is_left run) (machines_of run) w.ordered.ascending

      count : walk.progress.now.left ≡ length (left_machines run)
      count = w.keeps.counts.left ∙ w.counted.left

      among : AllByRecursion (λ m. IsTrue (is_left run m)) machines → (m : ℕ) → has machines m ≡ true → has (left_machines run) m ≡ true
      among each m e = left_named run m ∙ pick (λ x. IsTrue (is_left run x)) machines m each e

      there : ((length machines ≡ walk.progress.now.left) × AllByRecursion (λ m. IsTrue (is_left run m)) machines) → (m : ℕ) → has machines m ≡ is_left run m
      there h m = ap (λ xs. has xs m) (as_many machines (left_machines run) ascend own (among h.1) (h.0 ∙ count)) ∙ left_named run m

      back : ((m : ℕ) → has machines m ≡ is_left run m) → (length machines ≡ walk.progress.now.left) × AllByRecursion (λ m. IsTrue (is_left run m)) machines
      back h =
          let most : length machines ≤ length (left_machines run) = fewer machines (left_machines run) ascend own (λ m e. left_named run m ∙ sym (h m) ∙ e) in
          let least : length (left_machines run) ≤ length machines = fewer (left_machines run) machines own ascend (λ m e. h m ∙ sym (left_named run m) ∙ e) in
          (omega (arith, most, least, count), each-contains (λ m. IsTrue (is_left run m)) machines (λ m k. sym (h m) ∙ has-contains machines m k))
