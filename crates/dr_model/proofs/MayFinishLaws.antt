-- In a lawful journal a run whose stages are all done may be finished.
use Rattle.std.specs.Prelude.{◌≡◌, ◌≢◌, ℕ, ◌+◌, ◌<◌, ◌≤◌, ◌==◌, ◌⊎◌, Bool, true, false, List, [], ◌∷◌, Option, Some, None, Contains, length, map, filter, find, fold}
use Rattle.std.proofs.Common.{refl, sym, ◌∙◌, inl, inr, subst}
use Rattle.std.proofs.lemmas.Bool.{eq-eqb}
use Rattle.std.proofs.lemmas.List.Elements.{All-contains, filter_passes}
use Rattle.std.proofs.lemmas.List.Kept.{IsStrictlyIncreasing-filter}
use Rattle.dr_meaning.specs.Reach.{stage_of}
use Rattle.dr_plan.specs.Orders.{IsAt}
use Rattle.dr_plan.proofs.OrderLaws.{mapped_to}
use Rattle.dr_meaning.specs.Types.{Op, PlanMachine, Estate, Record}
use Rattle.dr_meaning.specs.declared.stage.StageKind.{StageKind}
use Rattle.dr_meaning.specs.declared.stage.Stage.{Stage}
use Rattle.dr_base.specs.Lists.{has}
use Rattle.dr_meaning.specs.Visits.{Visit, visits, mark_done, excuse, begun, is_visit_done, is_done, is_excused}
use Rattle.dr_meaning.specs.Runs.{Setting, Run, number, op, stages_of, run_at, run_named, with_record, add_record, runs_of}
use Rattle.dr_meaning.specs.Meaning.{is_wave_of, is_left}
use Rattle.dr_meaning.specs.Next.{least_stage, is_worked_again, least_undone}
use Rattle.dr_meaning.specs.Reports.{left_machines}
use Rattle.dr_meaning.specs.Lawful.{MayFinish, MayCome, LawfulAfter}
use Rattle.dr_meaning.specs.Backing.{IsRegularPlan, HasRegularPlans}
use Rattle.dr_meaning.proofs.Lists.{Each, each-find, find-passes}
use Rattle.dr_meaning.proofs.Elements.{contains-has, has-contains, contains-filter}
use Rattle.dr_model.proofs.LeastLaws.{least_within}
use Rattle.dr_model.proofs.LogLaws.{IsGoneThrough}
use Rattle.dr_model.proofs.ChainLaws.{HasPlan}
use Rattle.dr_model.proofs.EachRun.{each-lawful}
use Rattle.dr_model.proofs.ExcuseLaws.{begun_head}
use Rattle.dr_model.proofs.SequenceLaws.{begins_at}
use Rattle.dr_model.proofs.SoundAppend.{well_of, gone_of}
use Rattle.dr_model.proofs.WaveEntries.{wave_parts, in_wave, starts_up}
use Rattle.dr_model.proofs.WalkEnds.{none_undone}
use Rattle.dr_model.proofs.MayRunLaws.{none_left}

-- Each visit is of a stage

abbrev pub IsStage : List Stage → ℕ → Type 0
IsStage stages j = (1 ≤ j) × (j < 1 + length stages)

abbrev pub OfStages : List Stage → List Visit → Type 0
OfStages stages vs = Each (λ v. IsStage stages v.stage) vs

pub record VisitsStages (r : Run) : Type 0 where
  pub each : OfStages (stages_of r) (visits r.log)

of_mark : (stages : List Stage) (vs : List Visit) → OfStages stages vs → OfStages stages (mark_done vs)
of_mark stages [] h = h
of_mark stages (v ∷ vs) h = h

of_excuse : (stages : List Stage) (m : ℕ) (vs : List Visit) → OfStages stages vs → OfStages stages (excuse m vs)
of_excuse stages m [] h = h
of_excuse stages m (v ∷ vs) h = h

visits-record : (setting : Setting) (runs : List Run) (r : Run) (item : Record) → MayCome setting runs item → run_at (run_named item) runs ≡ Some r → VisitsStages r → VisitsStages (with_record r item)
visits-record setting runs r (Record.Estate bytes) may at_n h = elim may [ ]
visits-record setting runs r (Record.Begin n j) may at_n h = record { each = (go (begins_at runs r j (rw at_n at may).1), h.each) }
  where
    go : (least_stage (is_worked_again r) 1 (stages_of r) ≡ Some j) ⊎ (least_undone r ≡ Some j) → IsStage (stages_of r) j
    go (inl again) = least_within _ 1 (stages_of r) j again
    go (inr undone) = least_within _ 1 (stages_of r) j undone
visits-record setting runs r (Record.Done n j) may at_n h = record { each = of_mark (stages_of r) (visits r.log) h.each }
visits-record setting runs r (Record.Skip n j m) may at_n h = record { each = of_excuse (stages_of r) m (visits r.log) h.each }
visits-record setting runs r (Record.Aside n m by) may at_n h = record { each = of_excuse (stages_of r) m (visits r.log) h.each }
visits-record setting runs r (Record.Start row) may at_n h = record { each = h.each }
visits-record setting runs r (Record.Attempt n moment) may at_n h = record { each = h.each }
visits-record setting runs r (Record.Answer n step text) may at_n h = record { each = h.each }
visits-record setting runs r (Record.Code n token m code) may at_n h = record { each = h.each }
visits-record setting runs r (Record.Finish n moment ms) may at_n h = record { each = h.each }

pub visits-lawful : (setting : Setting) (records : List Record) → LawfulAfter setting [] records → Each VisitsStages (fold (add_record setting) [] records)
visits-lawful setting records lawful =
    each-lawful setting VisitsStages (λ r n h. record { each = h.each }) (λ runs row plan may. record { each = tt }) (visits-record setting) [] records lawful tt tt

-- Where all stages are done none is begun

-- whether a stage is done goes by its last visit
last_done : (v : Visit) (earlier vs : List Visit) → vs ≡ v ∷ earlier → is_visit_done (find (λ u. u.stage == v.stage) vs) ≡ v.done
last_done v earlier vs shape = rw (shape, eq-eqb v.stage v.stage refl) refl

none_open : (r : Run) → VisitsStages r → least_undone r ≡ None → begun r.log ≡ None
none_open r within none = go (begun r.log) refl
  where
    go : (o : Option ℕ) → begun r.log ≡ o → begun r.log ≡ None
    go None e = e
    go (Some j) e =
        let (v, earlier, shape, is, undone) = begun_head (visits r.log) j e in
        let its : IsStage (stages_of r) v.stage = (subst (OfStages (stages_of r)) shape within.each).0 in
        let done : is_done r.log v.stage ≡ true = none_undone r none v.stage its.0 its.1 in
        let head : is_done r.log v.stage ≡ v.done = last_done v earlier (visits r.log) shape in
        absurd (let wrong : true ≡ false = sym done ∙ head ∙ undone in cc)

-- The machines that are left

filter_none : (p : ℕ → Bool) (xs : List ℕ) → ((x : ℕ) → p x ≡ false) → filter p xs ≡ []
filter_none p [] h = refl
filter_none p (x ∷ xs) h = rw (h x) (filter_none p xs h)

-- where what passes the test is of the list, it is what the filter keeps
has-filter : (p : ℕ → Bool) (xs : List ℕ) → ((x : ℕ) → p x ≡ true → Contains xs x) → (m : ℕ) → has (filter p xs) m ≡ p m
has-filter p xs among m = go (p m) refl
  where
    fails : (b : Bool) → has (filter p xs) m ≡ b → p m ≡ false → has (filter p xs) m ≡ false
    fails false e out = e
    fails true e out =
        let passes : p m ≡ true = All-contains (λ x. p x ≡ true) (filter p xs) m (filter_passes p xs) (contains-has (filter p xs) m e) in
        absurd (let wrong : true ≡ false = sym passes ∙ out in cc)

    go : (b : Bool) → p m ≡ b → has (filter p xs) m ≡ p m
    go true e = has-contains (filter p xs) m (contains-filter p xs m (among m e) e) ∙ sym e
    go false e = fails (has (filter p xs) m) refl e ∙ sym e

module _ (r : Run) where
  abbrev numbers : List ℕ
  numbers = map (λ (x : PlanMachine). x.machine) r.plan.machines

  -- a machine that is left is one of the plan
  pub left_planned : (m : ℕ) → is_left r m ≡ true → Contains numbers m
  left_planned m left = go (find (λ v. is_wave_of StageKind.Start m (stage_of r v)) (visits r.log)) refl left
    where
      go : (o : Option Visit) → find (λ v. is_wave_of StageKind.Start m (stage_of r v)) (visits r.log) ≡ o → is_excused m o ≡ true → Contains numbers m
      go None e h = absurd cc
      go (Some v) e h =
          let wave : is_wave_of StageKind.Start m (stage_of r v) ≡ true = find-passes (λ v. is_wave_of StageKind.Start m (stage_of r v)) (visits r.log) v e in
          let (kind, listed) = wave_parts StageKind.Start m (stage_of r v) wave in
          let at : IsAt r.plan (stage_of r v).priority (stage_of r v).depth m = in_wave r.plan (op r) r.start.forced (starts_up r.plan (op r) r.start.forced v.stage m kind listed) v.stage kind m listed in
          subst (Contains numbers) at.number (mapped_to (λ (x : PlanMachine). x.machine) r.plan.machines at.entry at.listed)

  -- the machines that are left are named
  pub left_named : (m : ℕ) → has (left_machines r) m ≡ is_left r m
  left_named = has-filter (is_left r) numbers left_planned

  module _ (gone : IsGoneThrough r) where
    none_but_failover : (o : Op) → op r ≡ o → (o ≡ Op.Failover → ⊥) → left_machines r ≡ []
    none_but_failover o e ne = filter_none (is_left r) numbers (none_left r (gone.none_excused (λ f. ne (sym e ∙ f))))

    only_failover : (o : Op) → op r ≡ o → left_machines r ≢ [] → op r ≡ Op.Failover
    only_failover Op.Failover e some = e
    only_failover Op.Testing e some = absurd (some (none_but_failover Op.Testing e (λ f. cc)))
    only_failover Op.Cleanup e some = absurd (some (none_but_failover Op.Cleanup e (λ f. cc)))
    only_failover Op.Migrate e some = absurd (some (none_but_failover Op.Migrate e (λ f. cc)))
    only_failover Op.Reprotect e some = absurd (some (none_but_failover Op.Reprotect e (λ f. cc)))

    may_be_finished : (estate : Estate) → IsRegularPlan estate r.plan → VisitsStages r → least_undone r ≡ None → MayFinish r (left_machines r)
    may_be_finished estate regular within none = record {
      none_begun = none_open r within none;
      all_done = none;
      ascending = IsStrictlyIncreasing-filter (is_left r) numbers regular.ordered.ascending;
      left = left_named;
      closed = only_failover (op r) refl;
    }

pub done_may_be_finished : (setting : Setting) (records : List Record) (n : ℕ) (r : Run) → LawfulAfter setting [] records → HasRegularPlans setting → run_at n (runs_of setting records) ≡ Some r → least_undone r ≡ None → (machines : List ℕ) × MayFinish r machines
done_may_be_finished setting records n r lawful plans at_n none =
    let own : HasPlan setting r = each-find (HasPlan setting) (λ run. number run == n) (runs_of setting records) r (well_of setting records lawful).plans at_n in
    let gone : IsGoneThrough r = each-find IsGoneThrough (λ run. number run == n) (runs_of setting records) r (gone_of setting records lawful) at_n in
    let within : VisitsStages r = each-find VisitsStages (λ run. number run == n) (runs_of setting records) r (visits-lawful setting records lawful) at_n in
    (left_machines r, may_be_finished r gone setting.estate (plans r.start.plan r.plan own.plan) within none)
