-- In a lawful journal: the posts of a group at rest, and of one under start-up; and a lawful Begin leaves every post expected.
use Rattle.std.specs.Prelude.{◌≡◌, ℕ, ◌==◌, Bool, true, false, not, ◌&&◌, List, [], ◌∷◌, Some, filter, map}
use Rattle.std.proofs.Common.{refl, sym, ◌∙◌, subst}
use Rattle.std.proofs.lemmas.Bool.{eqb-true}
use Rattle.dr_meaning.specs.Types.{Side, Op, Placed, Post, Record}
use Rattle.dr_meaning.specs.declared.stage.StageKind.{StageKind}
use Rattle.dr_meaning.specs.declared.stage.Stage.{Stage}
use Rattle.dr_base.specs.Sides.{same_side}
use Rattle.dr_base.specs.Lists.{has}
use Rattle.dr_meaning.specs.Stages.{stage_at}
use Rattle.dr_meaning.specs.Runs.{Setting, Run, number, op, new, stages_of, holds, is_finished, is_open, group_state, last_of_group, run_at, take_in, add_record, runs_of}
use Rattle.dr_meaning.specs.Outcomes.{IsAsWanted}
use Rattle.dr_meaning.specs.Reach.{works}
use Rattle.dr_meaning.specs.Expected.{wanted, ExpectedPost}
use Rattle.dr_meaning.specs.Lawful.{MayCome, LawfulAfter}
use Rattle.dr_meaning.specs.InOrder.{is_start_up}
use Rattle.dr_meaning.specs.Phases.{IsAtRest, PostAtRest, PostUnderWay}
use Rattle.dr_meaning.proofs.Lists.{Each, each-map, find-passes}
use Rattle.dr_model.proofs.StageLaws.{stage_from-each, each-clear_op}
use Rattle.dr_model.proofs.ReachLaws.{kind_at}
use Rattle.dr_model.proofs.ExpectedLaws.{each-filter, filter-find, after-take_in_elsewhere}
use Rattle.dr_model.proofs.TableLaws.{table_falls, open_is_last_of}
use Rattle.dr_model.proofs.LogLaws.{only_run, unfinished}
use Rattle.dr_model.proofs.WholeMigrate.{side_of_other}
use Rattle.dr_model.proofs.PostWalk.{post-begin}
use Rattle.dr_model.proofs.PostPhase.{same_side-other, LastLeft, LastAtRest, any_at_rest, OpensPost, LeavesIts, UnderPost, StandsPost, chain_posts}
use Rattle.dr_model.proofs.ChainLaws.{HasPlan, IsWellKept, kept-lawful, open_run, group_state-filter}

pub empty_kept : (setting : Setting) → IsWellKept setting []
empty_kept setting = record { table = tt; plans = tt; groups = λ g. record { chain = tt; free = tt } }

module _ (setting : Setting) (runs : List Run) (well : IsWellKept setting runs) (g : ℕ) where
  pub own_estate : Each (λ r. r.estate ≡ setting.estate) (filter (holds g) runs)
  own_estate = each-filter (λ r. r.estate ≡ setting.estate) (holds g) runs (each-map (HasPlan setting) (λ r. r.estate ≡ setting.estate) (λ r h. h.estate) runs well.plans)

  -- a group that no open run holds
  pub post-rest_last : (m : ℕ) (side : Side) (y : Post) → IsAtRest (filter (holds g) runs) → ExpectedPost setting.estate g m side runs y → LastAtRest m (filter (holds g) runs) side (group_state setting.estate g runs) y
  post-rest_last m side y rest expected =
      subst (λ state. LastAtRest m (filter (holds g) runs) side state y) (group_state-filter setting.estate g runs)
      ((chain_posts setting.estate g m side (filter (holds g) runs) (well.groups g).chain own_estate y expected).0 rest)

  pub post-rest : (m : ℕ) (side : Side) (y : Post) → IsAtRest (filter (holds g) runs) → ExpectedPost setting.estate g m side runs y → PostAtRest m (filter (holds g) runs) side (group_state setting.estate g runs) y
  post-rest m side y rest expected = any_at_rest m (filter (holds g) runs) side (group_state setting.estate g runs) y (post-rest_last m side y rest expected)

  -- a group that an open run holds
  pub post-under_way : (r : Run) (m : ℕ) (side : Side) (y : Post) → last_of_group g runs ≡ Some r → is_finished r ≡ false → ExpectedPost setting.estate g m side runs y → (left : Type 0) × PostUnderWay (op r) (wanted g r m) left (same_side side r.old) y
  post-under_way r m side y last going expected =
      let (earlier, e) = filter-find (holds g) runs r last in
      let chain = chain_posts setting.estate g m side (filter (holds g) runs) (well.groups g).chain own_estate y expected in
      let under : UnderPost setting.estate g m side (r ∷ earlier) y = rw e at chain.1 in
      (LastLeft m earlier, under going)

  -- after a finished start-up
  pub post-stands : (r : Run) (m : ℕ) (side : Side) (y : Post) → last_of_group g runs ≡ Some r → is_finished r ≡ true → is_start_up (op r) ≡ true → same_side side r.old ≡ false → ExpectedPost setting.estate g m side runs y → IsAsWanted (wanted g r m) y
  post-stands r m side y last fin up away expected =
      let (earlier, e) = filter-find (holds g) runs r last in
      let chain = chain_posts setting.estate g m side (filter (holds g) runs) (well.groups g).chain own_estate y expected in
      let stands : StandsPost setting.estate g m side (r ∷ earlier) y = rw e at chain.2 in
      stands fin up away

-- Only a start-up has stages that start a machine
starts_only : (r : Run) (stage m : ℕ) → kind_at r stage ≡ StageKind.Start → has (stage_at (stages_of r) stage).machines m ≡ true → is_start_up (op r) ≡ true
starts_only r stage m kind holds_it = go (is_start_up (op r)) refl
  where
    StartsNone : Stage → Type 0
    StartsNone s = s.kind ≡ StageKind.Start → has s.machines m ≡ true → ⊥

    go : (b : Bool) → is_start_up (op r) ≡ b → is_start_up (op r) ≡ true
    go true e = e
    go false e =
        absurd (stage_from-each StartsNone 1 (stages_of r) stage (λ k h. cc)
        (each-clear_op StartsNone r.plan (op r) r.start.forced e (λ s clear k h. let wrong : StageKind.Clear ≡ StageKind.Start = sym clear ∙ k in cc) (λ kind k h. cc))
        kind holds_it)

as_wanted : (o : Op) (w : Placed) (left : Type 0) (y : Post) → is_start_up o ≡ true → PostUnderWay o w left false y → IsAsWanted w y
as_wanted Op.Testing w left y e h = h
as_wanted Op.Migrate w left y e h = h
as_wanted Op.Failover w left y e h = h
as_wanted Op.Cleanup w left y e h = absurd cc
as_wanted Op.Reprotect w left y e h = absurd cc

and_parts : (a b : Bool) → a && b ≡ true → (a ≡ true) × (b ≡ true)
and_parts true b e = (refl, e)
and_parts false b e = absurd cc

pub not_true : (b : Bool) → not b ≡ true → b ≡ false
not_true true e = absurd cc
not_true false e = refl

module _ (setting : Setting) (runs : List Run) (well : IsWellKept setting runs) (g m : ℕ) (side : Side) (y : Post) where
  -- what a begun Start stage finds
  pub start_finds : (r : Run) (stage : ℕ) → last_of_group g runs ≡ Some r → is_finished r ≡ false → ExpectedPost setting.estate g m side runs y → works r (stage_at (stages_of r) stage) m side ≡ true → kind_at r stage ≡ StageKind.Start → IsAsWanted (wanted g r m) y
  start_finds r stage last going expected worked kind =
      let parts : (has (stage_at (stages_of r) stage).machines m ≡ true) × (same_side side (new r) ≡ true) = and_parts _ _ (rw kind at worked) in
      let away : same_side side r.old ≡ false = not_true _ (sym (same_side-other side r.old) ∙ parts.1) in
      let (left, under) = post-under_way setting runs well g r m side y last going expected in
      as_wanted (op r) (wanted g r m) left y (starts_only r stage m kind parts.0) (subst (λ b. PostUnderWay (op r) (wanted g r m) left b y) away under)

  -- A lawful Begin leaves every expected post expected.
  pub lawful-post_begin : (n stage : ℕ) → MayCome setting runs (Record.Begin n stage) → ExpectedPost setting.estate g m side runs y → ExpectedPost setting.estate g m side (add_record setting runs (Record.Begin n stage)) y
  lawful-post_begin n stage may expected = let (r, at_n, going) = open_run (run_at n runs) _ may in go r at_n going (holds g r) refl
    where
      go : (r : Run) → run_at n runs ≡ Some r → is_open r ≡ true → (b : Bool) → holds g r ≡ b → ExpectedPost setting.estate g m side (map (take_in (Record.Begin n stage)) runs) y
      go r at_n going true held =
          let own : number r ≡ n = eqb-true (number r) n (find-passes (λ run. number run == n) runs r at_n) in
          let last : last_of_group g runs ≡ Some r = open_is_last_of (λ run. number run == n) g r runs well.table at_n going held in
          let unfin : is_finished r ≡ false = unfinished (is_finished r) (r.by == 0) going in
          subst (λ k. ExpectedPost setting.estate g m side (map (take_in (Record.Begin k stage)) runs) y) own
          (post-begin setting.estate g m side runs r (table_falls runs well.table) last unfin stage y (start_finds r stage last unfin expected) expected)
      go r at_n going false held =
          after-take_in_elsewhere (OpensPost setting.estate g m side) (LeavesIts setting.estate g m side) g runs (Record.Begin n stage) y
          (each-map (λ q. number q ≡ n → q ≡ r) (λ q. number q ≡ n → holds g q ≡ false) (λ q same at_q. rw (same at_q) held) runs (only_run n runs r (table_falls runs well.table) at_n))
          expected

-- The same by the journal's records.

-- Under an open or a finished test, migration or failover each post at its new side is a Placeholder or stands as wanted.
pub stands_as_wanted : (setting : Setting) (records : List Record) (g m : ℕ) (r : Run) (y : Post) → LawfulAfter setting [] records → last_of_group g (runs_of setting records) ≡ Some r → is_start_up (op r) ≡ true → ExpectedPost setting.estate g m (new r) (runs_of setting records) y → IsAsWanted (wanted g r m) y
stands_as_wanted setting records g m r y lawful last up expected = go (is_finished r) refl
  where
    well : IsWellKept setting (runs_of setting records)
    well = kept-lawful setting [] records lawful (empty_kept setting)

    go : (b : Bool) → is_finished r ≡ b → IsAsWanted (wanted g r m) y
    go true fin = post-stands setting (runs_of setting records) well g r m (new r) y last fin up (side_of_other r.old) expected
    go false going =
        let (left, under) = post-under_way setting (runs_of setting records) well g r m (new r) y last going expected in
        as_wanted (op r) (wanted g r m) left y up (subst (λ b. PostUnderWay (op r) (wanted g r m) left b y) (side_of_other r.old) under)

pub posts_by_state : (setting : Setting) (records : List Record) (g m : ℕ) (side : Side) (y : Post) → LawfulAfter setting [] records → IsAtRest (filter (holds g) (runs_of setting records)) → ExpectedPost setting.estate g m side (runs_of setting records) y → PostAtRest m (filter (holds g) (runs_of setting records)) side (group_state setting.estate g (runs_of setting records)) y
posts_by_state setting records g m side y lawful rest expected = post-rest setting (runs_of setting records) (kept-lawful setting [] records lawful (empty_kept setting)) g m side y rest expected

pub posts_by_last : (setting : Setting) (records : List Record) (g m : ℕ) (side : Side) (y : Post) → LawfulAfter setting [] records → IsAtRest (filter (holds g) (runs_of setting records)) → ExpectedPost setting.estate g m side (runs_of setting records) y → LastAtRest m (filter (holds g) (runs_of setting records)) side (group_state setting.estate g (runs_of setting records)) y
posts_by_last setting records g m side y lawful rest expected = post-rest_last setting (runs_of setting records) (kept-lawful setting [] records lawful (empty_kept setting)) g m side y rest expected

pub begin_keeps_posts : (setting : Setting) (records : List Record) (n stage g m : ℕ) (side : Side) (y : Post) → LawfulAfter setting [] records → MayCome setting (runs_of setting records) (Record.Begin n stage) → ExpectedPost setting.estate g m side (runs_of setting records) y → ExpectedPost setting.estate g m side (add_record setting (runs_of setting records) (Record.Begin n stage)) y
begin_keeps_posts setting records n stage g m side y lawful may expected = lawful-post_begin setting (runs_of setting records) (kept-lawful setting [] records lawful (empty_kept setting)) g m side y n stage may expected
