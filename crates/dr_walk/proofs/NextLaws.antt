-- The next stage of a run, by what is kept of it.
use Rattle.std.specs.Prelude.{◌≡◌, ℕ, ◌+◌, ◌<◌, ◌≤◌, ◌==◌, Bool, true, false, ◌&&◌, not, Option, Some, None, IfSome, length, filter}
use Rattle.std.specs.List.{list_any}
use Rattle.std.proofs.Common.{refl, sym, ◌∙◌, inr, arith}
use Rattle.std.proofs.lemmas.Bool.{eq-eqb, ne_eqb}
use Rattle.dr_base.specs.Lists.{has}
use Rattle.dr_meaning.specs.declared.stage.StageKind.{StageKind}
use Rattle.dr_meaning.specs.Stages.{stage_at}
use Rattle.dr_meaning.specs.Visits.{visits, begun, last_visit, is_excused, is_done}
use Rattle.dr_meaning.specs.Runs.{Run, stages_of}
use Rattle.dr_meaning.specs.Meaning.{same_kind, is_wave_of, is_left}
use Rattle.dr_meaning.specs.Next.{is_attempt, begun_since_attempt, least_stage, is_worked_again, least_undone, next_stage}
use Rattle.dr_model.proofs.ChainLaws.{and_left, and_right}
use Rattle.dr_model.proofs.ExcuseLaws.{begun_head}
use Rattle.dr_model.proofs.LeastLaws.{first_passes, all_fail}
use Rattle.dr_model.proofs.MayFinishLaws.{left_planned}
use Rattle.dr_progress.specs.declared.progress.Progress.{Progress}
use Rattle.dr_progress.specs.Progress.{is_at, asides_in, asides_at, is_due, NoneWaits, MayBeginAt, NoneDue, IsLeastDue}
use Rattle.dr_progress.proofs.AttemptLaws.{visited_if_some}
use Rattle.dr_walk.specs.declared.walk.Walk.{Walk}
use Rattle.dr_walk.specs.Walks.{machines_of, is_set_aside, IsWalkOf}
use Rattle.dr_walk.proofs.ListLaws.{both_true, some_passes, passes_some, any_has, any_found}
use Rattle.dr_walk.proofs.LeftLaws.{left_at, wave_within}

module _ (walk : Walk) (run : Run) (w : IsWalkOf walk run) where
  abbrev p : Progress
  p = walk.progress.now

  -- where no stage is begun, none is at any place
  nowhere : begun run.log ≡ None → (i : ℕ) → is_at p.begun i ≡ false
  nowhere none i = let e : p.begun ≡ None = w.keeps.stages.begun ∙ none in rw e refl

  walked_done : begun run.log ≡ None → (i : ℕ) → 1 ≤ i → i ≤ p.walked → is_done run.log i ≡ true
  walked_done none i above below = w.keeps.stages.done i above below (nowhere none i)

  beyond_undone : begun run.log ≡ None → (i : ℕ) → p.walked < i → is_done run.log i ≡ false
  beyond_undone none i over = let never : last_visit i run.log ≡ None = w.keeps.stages.unvisited i (inr over, nowhere none i) in rw never refl

  -- where no stage is begun, the first that was never done is the least that isn't done
  pub unwalked_told : begun run.log ≡ None → p.walked < length (stages_of run) → least_undone run ≡ Some (p.walked + 1)
  unwalked_told none within =
      first_passes (λ n stage. not (is_done run.log n)) 1 (stages_of run) (p.walked + 1) (omega arith) (omega arith)
      (let e : is_done run.log (p.walked + 1) ≡ false = beyond_undone none (p.walked + 1) (omega arith) in rw e refl)
      (λ i above below. let e : is_done run.log i ≡ true = walked_done none i above (omega arith) in rw e refl)

  pub all_walked : begun run.log ≡ None → length (stages_of run) ≤ p.walked → least_undone run ≡ None
  all_walked none over =
      all_fail (λ n stage. not (is_done run.log n)) 1 (stages_of run)
      (λ i above below. let e : is_done run.log i ≡ true = walked_done none i above (omega arith) in rw e refl)

  -- the begun stage is the least that isn't done
  pub begun_undone : (stage : ℕ) → begun run.log ≡ Some stage → least_undone run ≡ Some stage
  begun_undone stage at =
      let (v, earlier, shape, is, undone) = begun_head (visits run.log) stage at in
      let own : v.stage == stage ≡ true = eq-eqb v.stage stage is in
      let open_one : is_done run.log stage ≡ false = rw (shape, own) undone in
      let within : (1 ≤ stage) × (stage ≤ length (stages_of run)) = rw at at w.within in
      let kept : p.begun ≡ Some stage = w.keeps.stages.begun ∙ at in
      let next : (1 ≤ stage) × (stage ≤ p.walked + 1) = rw kept at w.keeps.stages.next in
      first_passes (λ n s. not (is_done run.log n)) 1 (stages_of run) stage within.0 (let below = within.1 in omega (arith, below))
      (rw open_one refl)
      (λ i above below.
      let apart : is_at p.begun i ≡ false = rw kept (ne_eqb stage i (λ same. omega (arith, same, below))) in
      let e : is_done run.log i ≡ true = w.keeps.stages.done i above (let near = next.1 in omega (arith, near, below)) apart in
      rw e refl)

  pub next_begun : (stage : ℕ) → begun run.log ≡ Some stage → next_stage run ≡ Some stage
  next_begun stage at = rw at refl

  -- Stages that are worked once more

  -- a stage with machines set aside that is due is worked again
  due_worked : begun run.log ≡ None → (n : ℕ) → 0 < asides_in n run.log → is_due run.log n ≡ true → (1 ≤ n) × (n ≤ length (stages_of run)) × (is_worked_again run n (stage_at (stages_of run) n) ≡ true)
  due_worked none n some due =
      let (m, aside) = some_passes (is_set_aside run n) (machines_of run) (let e = w.counted.each n in omega (arith, e, some)) in
      let wave : is_wave_of StageKind.Start m (stage_at (stages_of run) n) ≡ true = and_left _ _ aside in
      let kind : same_kind (stage_at (stages_of run) n).kind StageKind.Start ≡ true = and_left _ _ wave in
      let listed : has (stage_at (stages_of run) n).machines m ≡ true = and_right (same_kind (stage_at (stages_of run) n).kind StageKind.Start) _ wave in
      let excused : is_excused m (last_visit n run.log) ≡ true = and_right (is_wave_of StageKind.Start m (stage_at (stages_of run) n)) _ aside in
      let left : is_left run m ≡ true = left_at run w.ordered m n wave ∙ excused in
      let any : list_any (is_left run) (stage_at (stages_of run) n).machines ≡ true = any_has (is_left run) _ m listed left in
      let kept : 0 < asides_at walk.facts.now walk.run n = let e = w.keeps.excuses.counted n in omega (arith, e, some) in
      let visited : (1 ≤ n) × (n ≤ p.walked) = visited_if_some walk.facts.now walk.run p run.log w.keeps.excuses n kept (nowhere none n) in
      let done : is_done run.log n ≡ true = walked_done none n visited.0 visited.1 in
      let within : (1 ≤ n) × (n ≤ length (stages_of run)) = wave_within run m n wave in
      let tried : list_any is_attempt run.log ≡ true = and_left _ _ due in
      let rest : not (begun_since_attempt run.log n) ≡ true = and_right (list_any is_attempt run.log) _ due in
      (within.0, within.1, rw (tried, kind, done, any, rest) refl)

  -- and the other way round
  worked_due : (n : ℕ) → is_worked_again run n (stage_at (stages_of run) n) ≡ true → (0 < asides_in n run.log) × (is_due run.log n ≡ true)
  worked_due n worked =
      let to_any = and_left _ _ worked in
      let to_done = and_left _ _ to_any in
      let to_kind = and_left _ _ to_done in
      let tried : list_any is_attempt run.log ≡ true = and_left _ _ to_kind in
      let kind : same_kind (stage_at (stages_of run) n).kind StageKind.Start ≡ true = and_right (list_any is_attempt run.log) _ to_kind in
      let any : list_any (is_left run) (stage_at (stages_of run) n).machines ≡ true = and_right (list_any is_attempt run.log && same_kind (stage_at (stages_of run) n).kind StageKind.Start && is_done run.log n) _ to_any in
      let rest : not (begun_since_attempt run.log n) ≡ true = and_right (list_any is_attempt run.log && same_kind (stage_at (stages_of run) n).kind StageKind.Start && is_done run.log n && list_any (is_left run) (stage_at (stages_of run) n).machines) _ worked in
      let (m, listed, left) = any_found (is_left run) (stage_at (stages_of run) n).machines any in
      let wave : is_wave_of StageKind.Start m (stage_at (stages_of run) n) ≡ true = both_true _ _ kind listed in
      let excused : is_excused m (last_visit n run.log) ≡ true = sym (left_at run w.ordered m n wave) ∙ left in
      let aside : is_set_aside run n m ≡ true = both_true _ _ wave excused in
      let counted : 0 < length (filter (is_set_aside run n) (machines_of run)) = passes_some (is_set_aside run n) (machines_of run) m (left_planned run m left) aside in
      (let e = w.counted.each n in omega (arith, e, counted), both_true _ _ tried rest)

  fails_unless : (n : ℕ) → (0 < asides_in n run.log → is_due run.log n ≡ false) → is_worked_again run n (stage_at (stages_of run) n) ≡ false
  fails_unless n none = go (is_worked_again run n (stage_at (stages_of run) n)) refl
    where
      go : (b : Bool) → is_worked_again run n (stage_at (stages_of run) n) ≡ b → is_worked_again run n (stage_at (stages_of run) n) ≡ false
      go false e = e
      go true e = let (some, due) = worked_due n e in absurd (let wrong : true ≡ false = sym due ∙ none some in cc)

  pub next_again : (stage : ℕ) → begun run.log ≡ None → IsLeastDue run.log stage → next_stage run ≡ Some stage
  next_again stage none least =
      let (above, below, worked) = due_worked none stage least.some least.due in
      let first : least_stage (is_worked_again run) 1 (stages_of run) ≡ Some stage =
      first_passes (is_worked_again run) 1 (stages_of run) stage above (omega (arith, below)) worked
      (λ i at_least less. fails_unless i (least.least i less)) in
      rw (none, first) refl

  pub next_undone : begun run.log ≡ None → NoneDue run.log → next_stage run ≡ least_undone run
  next_undone none quiet =
      let never : least_stage (is_worked_again run) 1 (stages_of run) ≡ None =
      all_fail (is_worked_again run) 1 (stages_of run) (λ i above below. fails_unless i (quiet i)) in
      rw (none, never) refl

  -- the first that was never begun may be begun, where none waits
  pub may_begin_first : begun run.log ≡ None → (o : Option ℕ) → IfSome o (λ stage. stage ≡ p.walked + 1) → (p.has_asides ≡ true → NoneWaits walk.facts.now walk.run p) → IfSome o (λ stage. MayBeginAt walk.facts.now walk.run p stage)
  may_begin_first none None first waits = tt
  may_begin_first none (Some stage) first waits = record {
    none_begun = w.keeps.stages.begun ∙ none;
    next = inr (quiet p.has_asides refl, first);
  }
    where
      quiet : (b : Bool) → p.has_asides ≡ b → NoneWaits walk.facts.now walk.run p
      quiet true e = waits e
      quiet false e = λ stage behind within. w.keeps.excuses.some e stage
