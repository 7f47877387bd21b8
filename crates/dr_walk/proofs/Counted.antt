-- In a lawful journal whose plans are in order each run's Asides are counted.
use Rattle.std.specs.Prelude.{◌≡◌, ℕ, ◌+◌, ◌-◌, ◌==◌, ◌⊎◌, Bool, true, false, ◌&&◌, ◌||◌, List, [], ◌∷◌, Some, Contains, All, cond, find, filter, length, slice_get}
use Rattle.std.proofs.Common.{refl, sym, ap, ◌∙◌, inl, inr, arith, subst}
use Rattle.std.proofs.lemmas.Bool.{eq-eqb, ne_eqb, cases_eq}
use Rattle.std.proofs.lemmas.Option.{slice_get_within, get_or_from_slice_get}
use Rattle.dr_plan.specs.Orders.{IsOrdered}
use Rattle.dr_meaning.specs.Types.{Plan, StartRow, Record}
use Rattle.dr_meaning.specs.declared.stage.StageKind.{StageKind}
use Rattle.dr_meaning.specs.declared.stage.Stage.{Stage}
use Rattle.dr_meaning.specs.Stages.{stage_at}
use Rattle.dr_meaning.specs.Visits.{Visit, visits, mark_done, excuse, open_stage, begun, last_visit, is_excused}
use Rattle.dr_meaning.specs.Runs.{Setting, Run, stages_of, run_at, run_named, with_record, runs_of}
use Rattle.dr_meaning.specs.Meaning.{is_wave_of, is_left}
use Rattle.dr_meaning.specs.Lawful.{MaySkipIn, MaySetAside, MayCome, LawfulAfter}
use Rattle.dr_meaning.specs.Reports.{left_machines}
use Rattle.dr_meaning.proofs.Lists.{Each, each-both, each-map}
use Rattle.dr_model.proofs.ChainLaws.{HasPlan, fresh_run}
use Rattle.dr_model.proofs.WaveEntries.{wave_parts}
use Rattle.dr_model.proofs.EachRun.{each-lawful}
use Rattle.dr_model.proofs.SoundAppend.{well_of}
use Rattle.dr_model.proofs.MayFinishLaws.{left_planned}
use Rattle.dr_progress.specs.Progress.{asides_in, left_in}
use Rattle.dr_progress.proofs.VisitLaws.{at_begun}
use Rattle.dr_walk.specs.Walks.{machines_of, is_set_aside, IsCounted}
use Rattle.dr_walk.proofs.LeftLaws.{left_at}
use Rattle.dr_walk.proofs.CountLaws.{count-same, count-none, count-one, count-parts}

-- What a visit that is found by its stage excuses -----------------------------------------------------------

-- behind a record that excuses a machine
excused-behind : (test : ℕ → Bool) (k m x : ℕ) (vs : List Visit) → open_stage vs ≡ Some k → is_excused x (find (λ v. test v.stage) (excuse m vs)) ≡ (test k && (m == x)) || is_excused x (find (λ v. test v.stage) vs)
excused-behind test k m x =
    at_begun (λ vs. is_excused x (find (λ v. test v.stage) (excuse m vs)) ≡ (test k && (m == x)) || is_excused x (find (λ v. test v.stage) vs)) k
    (λ v vs same undone. rw (← same) (go v vs (test v.stage)))
  where
    go : (v : Visit) (vs : List Visit) (b : Bool) → is_excused x (cond b (Some (record v { excused = m ∷ v.excused })) (find (λ u. test u.stage) vs)) ≡ (b && (m == x)) || is_excused x (cond b (Some v) (find (λ u. test u.stage) vs))
    go v vs true = refl
    go v vs false = refl

-- behind a Done
excused-done : (test : ℕ → Bool) (x : ℕ) (vs : List Visit) → is_excused x (find (λ v. test v.stage) (mark_done vs)) ≡ is_excused x (find (λ v. test v.stage) vs)
excused-done test x [] = refl
excused-done test x (v ∷ vs) = go (test v.stage)
  where
    go : (b : Bool) → is_excused x (cond b (Some (record v { done = true })) (find (λ u. test u.stage) vs)) ≡ is_excused x (cond b (Some v) (find (λ u. test u.stage) vs))
    go true = refl
    go false = refl

-- behind a Begin
excused-begin : (test : ℕ → Bool) (n x : ℕ) (vs : List Visit) → is_excused x (find (λ v. test v.stage) (record { stage = n; done = false; excused = [] } ∷ vs)) ≡ cond (test n) false (is_excused x (find (λ v. test v.stage) vs))
excused-begin test n x vs = go (test n)
  where
    go : (b : Bool) → is_excused x (cond b (Some (record { stage = n; done = false; excused = [] })) (find (λ v. test v.stage) vs)) ≡ cond b false (is_excused x (find (λ v. test v.stage) vs))
    go true = refl
    go false = refl

and_false : (b : Bool) → b && false ≡ false
and_false true = refl
and_false false = refl

-- One more record ----------------------------------------------------------------------------------------------

-- a stage in which something may be skipped starts no machines
skip_starts_none : (stage : Stage) (m x : ℕ) → MaySkipIn stage.kind stage.machines m → is_wave_of StageKind.Start x stage ≡ false
skip_starts_none stage m x may = go (is_wave_of StageKind.Start x stage) refl
  where
    go : (b : Bool) → is_wave_of StageKind.Start x stage ≡ b → is_wave_of StageKind.Start x stage ≡ false
    go true e = let (is, listed) = wave_parts StageKind.Start x stage e in let bad : MaySkipIn StageKind.Start stage.machines m = rw is at may in elim bad [ ]
    go false e = e

module _ (r : Run) where
  -- whether a stage starts a machine
  abbrev starts : ℕ → ℕ → Bool
  starts x j = is_wave_of StageKind.Start x (stage_at (stages_of r) j)

  -- where a record changes neither who is excused nor what is counted, Asides are counted behind it too
  unchanged : (item : Record) → ((j x : ℕ) → is_set_aside (with_record r item) j x ≡ is_set_aside r j x) → ((x : ℕ) → is_left (with_record r item) x ≡ is_left r x) → ((j : ℕ) → asides_in j (item ∷ r.log) ≡ asides_in j r.log) → left_in (item ∷ r.log) ≡ left_in r.log → IsCounted r → IsCounted (with_record r item)
  unchanged item same_aside same_left asides left h = record {
    each = λ j. asides j ∙ h.each j ∙ sym (count-same (is_set_aside (with_record r item) j) (is_set_aside r j) (same_aside j) (machines_of r));
    left = left ∙ h.left ∙ sym (count-same (is_left (with_record r item)) (is_left r) same_left (machines_of r));
  }

  counted-done : (run n : ℕ) → IsCounted r → IsCounted (with_record r (Record.Done run n))
  counted-done run n = unchanged (Record.Done run n)
      (λ j x. ap (λ b. starts x j && b) (excused-done (λ s. s == j) x (visits r.log)))
      (λ x. excused-done (starts x) x (visits r.log))
      (λ j. refl) refl

  counted-skip : (run n m : ℕ) → begun r.log ≡ Some n → MaySkipIn (stage_at (stages_of r) n).kind (stage_at (stages_of r) n).machines m → IsCounted r → IsCounted (with_record r (Record.Skip run n m))
  counted-skip run n m begun place = unchanged (Record.Skip run n m) same_aside same_left (λ j. refl) refl
    where
      none : (x : ℕ) → starts x n ≡ false
      none x = skip_starts_none (stage_at (stages_of r) n) m x place

      same_aside : (j x : ℕ) → is_set_aside (with_record r (Record.Skip run n m)) j x ≡ is_set_aside r j x
      same_aside j x = go (cases_eq n j)
        where
          go : (n ≡ j) ⊎ (n ≡ j → ⊥) → is_set_aside (with_record r (Record.Skip run n m)) j x ≡ is_set_aside r j x
          go (inl same) = let here : starts x j ≡ false = rw (← same) (none x) in rw here refl
          go (inr ne) = ap (λ b. starts x j && b) (excused-behind (λ s. s == j) n m x (visits r.log) begun ∙ rw (ne_eqb n j ne) refl)

      same_left : (x : ℕ) → is_left (with_record r (Record.Skip run n m)) x ≡ is_left r x
      same_left x = excused-behind (starts x) n m x (visits r.log) begun ∙ rw (none x) refl

  -- a Begin of a stage leaves those that its last visit set aside to another try
  counted-begin : (run n : ℕ) → ((x : ℕ) → starts x n ≡ true → is_left r x ≡ is_excused x (last_visit n r.log)) → IsCounted r → IsCounted (with_record r (Record.Begin run n))
  counted-begin run n left_at h = record { each = λ j. each j (n == j) refl; left = left }
    where
      each : (j : ℕ) (b : Bool) → n == j ≡ b → cond b 0 (asides_in j r.log) ≡ length (filter (is_set_aside (with_record r (Record.Begin run n)) j) (machines_of r))
      each j true e = sym (count-none (is_set_aside (with_record r (Record.Begin run n)) j) (λ x. rw e (and_false (starts x j))) (machines_of r))
      each j false e = h.each j ∙ sym (count-same (is_set_aside (with_record r (Record.Begin run n)) j) (is_set_aside r j) (λ x. rw e refl) (machines_of r))

      left : left_in r.log - asides_in n r.log ≡ length (filter (is_left (with_record r (Record.Begin run n))) (machines_of r))
      left =
          let same : length (filter (is_left (with_record r (Record.Begin run n))) (machines_of r)) ≡ length (filter (λ x. cond (starts x n) false (is_left r x)) (machines_of r)) =
          count-same (is_left (with_record r (Record.Begin run n))) (λ x. cond (starts x n) false (is_left r x)) (λ x. excused-begin (starts x) n x (visits r.log)) (machines_of r) in
          let parts : length (filter (λ x. cond (starts x n) false (is_left r x)) (machines_of r)) + length (filter (is_set_aside r n) (machines_of r)) ≡ length (left_machines r) =
          count-parts (λ x. starts x n) (is_left r) (λ x. is_excused x (last_visit n r.log)) left_at (machines_of r) in
          let others : length (left_machines r) - length (filter (is_set_aside r n) (machines_of r)) ≡ length (filter (λ x. cond (starts x n) false (is_left r x)) (machines_of r)) = omega (arith, parts) in
          rw (h.left, h.each n) (others ∙ sym same)

  -- an Aside sets one more machine aside
  counted-aside : (run m by n : ℕ) → IsOrdered r.plan → MaySetAside r m by n → IsCounted r → IsCounted (with_record r (Record.Aside run m by))
  counted-aside run m by n ordered may h = record { each = λ j. rw may.begun (each j (cases_eq n j)); left = left }
    where
      wave : starts m n ≡ true
      wave = rw (may.start, may.in_wave) refl

      set_aside : (j x : ℕ) → is_set_aside (with_record r (Record.Aside run m by)) j x ≡ starts x j && (((n == j) && (m == x)) || is_excused x (last_visit j r.log))
      set_aside j x = ap (λ b. starts x j && b) (excused-behind (λ s. s == j) n m x (visits r.log) may.begun)

      left_behind : (x : ℕ) → is_left (with_record r (Record.Aside run m by)) x ≡ (starts x n && (m == x)) || is_left r x
      left_behind x = excused-behind (starts x) n m x (visits r.log) may.begun

      left_now : is_left (with_record r (Record.Aside run m by)) m ≡ true
      left_now = left_behind m ∙ rw (wave, eq-eqb m m refl) refl

      among : Contains (machines_of r) m
      among = left_planned (with_record r (Record.Aside run m by)) m left_now

      each : (j : ℕ) → (n ≡ j) ⊎ (n ≡ j → ⊥) → cond (n == j) (asides_in j r.log + 1) (asides_in j r.log) ≡ length (filter (is_set_aside (with_record r (Record.Aside run m by)) j) (machines_of r))
      each j (inl same) = rw (← same) (rw (eq-eqb n n refl, h.each n) (sym (count-one (is_set_aside r n) (is_set_aside (with_record r (Record.Aside run m by)) n) m before after others (machines_of r) ordered.ascending among)))
        where
          before : is_set_aside r n m ≡ false
          before = rw (wave, may.once) refl

          after : is_set_aside (with_record r (Record.Aside run m by)) n m ≡ true
          after = set_aside n m ∙ rw (wave, eq-eqb n n refl, eq-eqb m m refl) refl

          others : (x : ℕ) → (x ≡ m → ⊥) → is_set_aside r n x ≡ is_set_aside (with_record r (Record.Aside run m by)) n x
          others x ne = sym (set_aside n x ∙ rw (ne_eqb m x (λ e. ne (sym e)), and_false (n == n)) refl)
      each j (inr ne) = rw (ne_eqb n j ne) (h.each j ∙ sym (count-same (is_set_aside (with_record r (Record.Aside run m by)) j) (is_set_aside r j) (λ x. set_aside j x ∙ rw (ne_eqb n j ne) refl) (machines_of r)))

      left : left_in r.log + 1 ≡ length (filter (is_left (with_record r (Record.Aside run m by))) (machines_of r))
      left = rw h.left (sym (count-one (is_left r) (is_left (with_record r (Record.Aside run m by))) m before left_now others (machines_of r) ordered.ascending among))
        where
          before : is_left r m ≡ false
          before = left_at r ordered m n wave ∙ may.once

          others : (x : ℕ) → (x ≡ m → ⊥) → is_left r x ≡ is_left (with_record r (Record.Aside run m by)) x
          others x ne = sym (left_behind x ∙ rw (ne_eqb m x (λ e. ne (sym e)), and_false (starts x n)) refl)

-- All records ---------------------------------------------------------------------------------------------------

-- a lawful record of a run whose plan is in order
counted-record : (setting : Setting) (runs : List Run) (r : Run) (item : Record) → MayCome setting runs item → run_at (run_named item) runs ≡ Some r → IsOrdered r.plan → IsCounted r → IsCounted (with_record r item)
counted-record setting runs r (Record.Estate bytes) may at_n ordered h = elim may [ ]
counted-record setting runs r (Record.Begin run n) may at_n ordered h = counted-begin r run n (λ x. left_at r ordered x n) h
counted-record setting runs r (Record.Done run n) may at_n ordered h = counted-done r run n h
counted-record setting runs r (Record.Skip run n m) may at_n ordered h = let skip = (rw at_n at may).1 in counted-skip r run n m skip.begun skip.place h
counted-record setting runs r (Record.Aside run m by) may at_n ordered h = let (n, aside) = (rw at_n at may).1 in counted-aside r run m by n ordered aside h
counted-record setting runs r (Record.Start row) may at_n ordered h = record { each = h.each; left = h.left }
counted-record setting runs r (Record.Attempt run moment) may at_n ordered h = record { each = h.each; left = h.left }
counted-record setting runs r (Record.Answer run step text) may at_n ordered h = record { each = h.each; left = h.left }
counted-record setting runs r (Record.Code run token m code) may at_n ordered h = record { each = h.each; left = h.left }
counted-record setting runs r (Record.Finish run moment ms) may at_n ordered h = record { each = h.each; left = h.left }

-- a run without records has no Asides
counted-fresh : (setting : Setting) (runs : List Run) (row : StartRow) (plan : Plan) → IsCounted (fresh_run setting runs row plan)
counted-fresh setting runs row plan = record {
  each = λ j. sym (count-none (is_set_aside run j) (λ x. and_false (starts run x j)) (machines_of run));
  left = sym (count-none (is_left run) (λ x. refl) (machines_of run));
}
  where
    run : Run
    run = fresh_run setting runs row plan

-- whatever the plans in force are: each run whose own plan is in order
pub counted-ordered : (setting : Setting) (records : List Record) → LawfulAfter setting [] records → Each (λ r. IsOrdered r.plan → IsCounted r) (runs_of setting records)
counted-ordered setting records lawful =
    each-lawful setting (λ r. IsOrdered r.plan → IsCounted r)
    (λ r n h ordered. let own = h ordered in record { each = own.each; left = own.left })
    (λ runs row plan may ordered. counted-fresh setting runs row plan)
    (λ runs r item may at_n h ordered. counted-record setting runs r item may at_n ordered (h ordered)) [] records lawful tt tt

-- a plan that is found among plans in order is in order
plan_ordered : (plans : List Plan) (number : ℕ) (plan : Plan) → All IsOrdered plans → slice_get plans number ≡ Some plan → IsOrdered plan
plan_ordered plans number plan all found = subst IsOrdered (get_or_from_slice_get plans number plan plan found) (all number plan (slice_get_within plans number plan found))

-- each run of a lawful journal
pub counted-lawful : (setting : Setting) (records : List Record) → LawfulAfter setting [] records → All IsOrdered setting.plans → Each IsCounted (runs_of setting records)
counted-lawful setting records lawful plans =
    each-map (λ r. HasPlan setting r × (IsOrdered r.plan → IsCounted r)) IsCounted (λ r h. h.1 (plan_ordered setting.plans r.start.plan r.plan plans h.0.plan)) (runs_of setting records)
    (each-both (HasPlan setting) (λ r. IsOrdered r.plan → IsCounted r) (runs_of setting records) (well_of setting records lawful).plans (counted-ordered setting records lawful))
