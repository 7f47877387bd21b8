-- What may change, by hand: calls without a new record, tests, reprotects, commands.
use Rattle.std.specs.Prelude.{◌≡◌, ℕ, zero, suc, ◌≤◌, ◌==◌, ◌⊎◌, true, false, List, [], ◌∷◌, ◌++◌, Contains, slice_get, Option, Some, None}
use Rattle.std.specs.List.{AllByRecursion}
use Rattle.std.proofs.Common.{refl, sym, ap, subst, inl, inr, arith}
use Rattle.std.proofs.lemmas.Bool.{eqb-true, or_cases}
use Rattle.dr_groups.specs.Groups.{IsPairOf, IsMachineOf}
use Rattle.dr_outside.specs.BySide.{at}
use Rattle.dr_outside.specs.Pairs.{Grows, FollowsSource, Drift, frame_of, is_target}
use Rattle.dr_outside.proofs.Drifts.{Drift-refl}
use Rattle.dr_meaning.specs.Types.{Side, Op, Post, Sides, Link, Pair, Kept, StartRow, Record}
use Rattle.dr_meaning.specs.declared.stage.StageKind.{StageKind}
use Rattle.dr_meaning.specs.Testing.{DriftsButSnapshot}
use Rattle.dr_meaning.specs.Worlds.{World}
use Rattle.dr_meaning.specs.Stages.{stages, stage_at}
use Rattle.dr_meaning.specs.Visits.{all}
use Rattle.dr_meaning.specs.Runs.{Run, stages_of, new, runs_of, run_at, group_state}
use Rattle.dr_meaning.specs.Lawful.{machine_in_plan, token_of}
use Rattle.dr_meaning.specs.Changes.{is_touched, is_only_tested, RunsStep, StartsMachine, all_commands_of, HasBegun, IsMachineCommand, IsStepCommand, GrowsBy, is_reversing, least_at, ChangesWorld, KeepsWrites, ChangedBy}
use Rattle.dr_model.proofs.ExampleEstate.{estate, commands, plan_of, setting, row_of, started, walked, finished, pair_has, machine_has, first_pair, first_machine, live, split, frozen, placed, world_of, serving, stopped, quiet}

-- Calls without a new record, and calls of other groups ------------------------------------------------------------------

abbrev pub migration_runs : List Run
migration_runs = runs_of setting (started 1 Op.Migrate 0 95 ∷ [])

-- a Start touches the groups that it names, and no other
pub start_touches : is_touched 0 (started 1 Op.Migrate 0 95 ∷ []) migration_runs ≡ true
start_touches = refl

pub leaves_other : is_touched 1 (started 1 Op.Migrate 0 95 ∷ []) migration_runs ≡ false
leaves_other = refl

pub none_touches : is_touched 0 [] migration_runs ≡ false
none_touches = refl

abbrev pub all_split : World
all_split = world_of (λ p. split) (λ m. serving) (λ m. [])

pub no_split : Drift (live 100 95) split → ⊥
no_split drift = let wrong : Link.Split ≡ Link.Live = ap (λ f. f.link) drift.frame in cc

-- a pair of an open run's group that was split, where no record came
pub no_call_without_record : ChangesWorld setting migration_runs [] (quiet 100 95) all_split → ⊥
no_call_without_record c = no_split (c.idle_pairs 0 (λ g of_group. subst (λ x. is_touched x [] migration_runs ≡ false) (sym (pair_has g 0 of_group)) refl))

-- a pair of the other group that was split
pub no_call_of_other : ChangesWorld setting migration_runs (started 1 Op.Migrate 0 95 ∷ []) (quiet 100 95) all_split → ⊥
no_call_of_other c = no_split (c.idle_pairs 1 (λ g of_group. subst (λ x. is_touched x (started 1 Op.Migrate 0 95 ∷ []) migration_runs ≡ false) (sym (pair_has g 1 of_group)) refl))

-- a machine of the other group that was turned off
pub no_post_of_other : ChangesWorld setting migration_runs (started 1 Op.Migrate 0 95 ∷ []) (quiet 100 95) (world_of (λ p. live 100 95) (λ m. stopped) (λ m. [])) → ⊥
no_post_of_other c =
    let same = c.idle_posts 1 (λ g of_group. subst (λ x. is_touched x (started 1 Op.Migrate 0 95 ∷ []) migration_runs ≡ false) (sym (machine_has g 1 of_group)) refl) in
    let wrong : Post.Off placed ≡ Post.Ready placed = ap (λ s. s.a) same in
    cc

-- a pair that is gone
pub no_fewer_pairs : ChangesWorld setting migration_runs (started 1 Op.Migrate 0 95 ∷ []) (quiet 100 95) (record (quiet 100 95) { pair_count = 1 }) → ⊥
no_fewer_pairs c = let wrong : 1 ≡ 2 = c.pair_count in omega (arith, wrong)

pub no_fewer_machines : ChangesWorld setting migration_runs (started 1 Op.Migrate 0 95 ∷ []) (quiet 100 95) (record (quiet 100 95) { machine_count = 1 }) → ⊥
no_fewer_machines c = let wrong : 1 ≡ 2 = c.machine_count in omega (arith, wrong)

-- where no record is, nothing but drift
pub no_split_alone : ChangedBy [] [] (quiet 100 95) all_split → ⊥
no_split_alone c = no_split ((c.empty refl).pairs 0)

pub no_post_alone : ChangedBy [] [] (quiet 100 95) (world_of (λ p. live 100 95) (λ m. stopped) (λ m. [])) → ⊥
no_post_alone c = let wrong : Post.Off placed ≡ Post.Ready placed = ap (λ s. s.a) ((c.empty refl).posts 0) in cc

pub no_code_alone : (code : Kept) → ChangedBy [] [] (quiet 100 95) (record (quiet 100 95) { kept = λ m. code ∷ [] }) → ⊥
no_code_alone code c = let wrong : code ∷ [] ≡ [] = (c.empty refl).kept 0 in cc

pub no_runner_alone : (code : Kept) → ChangedBy [] [] (quiet 100 95) (record (quiet 100 95) { runner = code ∷ [] }) → ⊥
no_runner_alone code c = let wrong : code ∷ [] ≡ [] = (c.empty refl).runner in cc

-- Tests ----------------------------------------------------------------------------------------------------------------

abbrev pub test_runs : List Run
test_runs = runs_of setting (started 1 Op.Testing 0 95 ∷ [])

abbrev pub test_came : List Record
test_came = started 1 Op.Testing 0 95 ∷ []

-- a test that turned off a machine at the protected side
pub no_post_by_test : ChangesWorld setting test_runs test_came (quiet 100 95) (world_of (λ p. live 100 95) (λ m. stopped) (λ m. [])) → ⊥
no_post_by_test c = let wrong : Post.Off placed ≡ Post.Ready placed = c.tested_posts 0 0 first_machine refl in cc

-- a test that froze a pair
pub no_freeze_by_test : ChangesWorld setting test_runs test_came (quiet 100 95) (world_of (λ p. frozen) (λ m. serving) (λ m. [])) → ⊥
no_freeze_by_test c = let wrong : false ≡ true = ap (λ f. f.writable.a) (c.tested_pairs 0 0 first_pair (omega arith) refl).frame in cc

-- so is a cleanup, but no migration
pub cleanup_tests : is_only_tested 0 (started 1 Op.Cleanup 0 95 ∷ []) (runs_of setting (started 1 Op.Cleanup 0 95 ∷ [])) ≡ true
cleanup_tests = refl

pub migration_is_no_test : is_only_tested 0 (started 1 Op.Migrate 0 95 ∷ []) migration_runs ≡ false
migration_is_no_test = refl

-- writes that fell, at the one side and the other
pub no_lost_writes : KeepsWrites setting test_runs test_came (quiet 100 95) (quiet 99 95) → ⊥
no_lost_writes keeps = let least : 100 ≤ 99 = keeps 0 0 Side.A first_pair (omega arith) refl in omega arith

pub no_lost_replica : KeepsWrites setting test_runs test_came (quiet 100 95) (quiet 100 94) → ⊥
no_lost_replica keeps = let least : 95 ≤ 94 = keeps 0 0 Side.B first_pair (omega arith) refl in omega arith

-- Reprotects -------------------------------------------------------------------------------------------------------------

abbrev pub moved : List Record
moved = finished 1 Op.Migrate 95

abbrev pub turned : List Record
turned = moved ++ finished 2 Op.Reprotect 80

-- while it is open nothing is said, and before and behind it something is
pub open_reverses : is_reversing 0 (runs_of setting (moved ++ started 2 Op.Reprotect 0 80 ∷ [])) ≡ true
open_reverses = refl

pub other_is_quiet : is_reversing 1 (runs_of setting (moved ++ started 2 Op.Reprotect 0 80 ∷ [])) ≡ false
other_is_quiet = refl

pub quiet_before : is_reversing 0 (runs_of setting moved) ≡ false
quiet_before = refl

pub quiet_behind : is_reversing 0 (runs_of setting turned) ≡ false
quiet_behind = refl

-- between two Starts it may discard what is more than its Start read at its new side
pub least_behind : least_at 0 0 (runs_of setting (turned ++ started 3 Op.Testing 0 95 ∷ [])) (finished 2 Op.Reprotect 80 ++ started 3 Op.Testing 0 95 ∷ []) (quiet 100 95) Side.A ≡ 80
least_behind = refl

-- of two the last counts
pub least_of_last : least_at 0 0 (runs_of setting (turned ++ finished 3 Op.Migrate 95 ++ finished 4 Op.Reprotect 130)) (finished 2 Op.Reprotect 80 ++ finished 3 Op.Migrate 95 ++ finished 4 Op.Reprotect 130) (quiet 100 95) Side.A ≡ 130
least_of_last = refl

-- what is finished and isn't a reprotect discards nothing, nor does a reprotect of another group
pub least_of_migration : least_at 0 0 (runs_of setting moved) moved (quiet 100 95) Side.A ≡ 100
least_of_migration = refl

pub least_of_other : least_at 1 1 (runs_of setting turned) (finished 2 Op.Reprotect 80) (quiet 100 95) Side.B ≡ 95
least_of_other = refl

-- Commands -----------------------------------------------------------------------------------------------------------------

-- a migration with its step begun, resumed, its machine begun; and a failover that takes it over
abbrev pub under_way : List Record
under_way =
    started 1 Op.Migrate 0 95 ∷ walked 1 (1 ∷ 2 ∷ 3 ∷ 4 ∷ 5 ∷ [])
    ++ Record.Begin 1 6 ∷ Record.Attempt 1 1001 ∷ Record.Code 1 (token_of 1 1) all 0 ∷ Record.Done 1 6 ∷ Record.Begin 1 7 ∷ []

abbrev pub taken_over : List Record
taken_over = under_way ++ started 2 Op.Failover 1 95 ∷ []

pub step_and_machine : stages (plan_of 0) Op.Migrate false ≡ stages (plan_of 0) Op.Failover false
step_and_machine = refl

abbrev pub row_in : Record → StartRow
row_in (Record.Start row) = row
row_in _ = row_of 0 Op.Testing 0 0 0

abbrev pub run_or : Run → Option Run → Run
run_or other None = other
run_or other (Some run) = run

abbrev pub no_run : Run
no_run = record { start = row_of 0 Op.Testing 0 0 0; estate = estate; plan = plan_of 0; old = Side.A; log = []; took = None; by = 0 }

abbrev pub failover : Run
failover = run_or no_run (run_at 2 (runs_of setting taken_over))

abbrev pub step_code : Kept
step_code = record { token = token_of 1 1; code = 0; name = 120 ∷ []; side = None }

abbrev pub machine_code : Kept
machine_code = record { token = token_of 1 2; code = 0; name = 99 ∷ []; side = Some Side.B }

-- the failover itself has begun nothing
pub failover_log : failover.log ≡ []
failover_log = refl

-- the codes that the migration kept are of commands of the failover
pub step_of_failover : IsStepCommand (runs_of setting taken_over) step_code
step_of_failover = record {
  run = failover;
  listed = (0, omega arith, refl);
  number = 1;
  command = record { before = 3; place = 0; counted = refl; step = refl };
  token = refl;
  side = refl;
  begun = inr (6, refl, (refl, refl));
}

pub machine_of_failover : IsMachineCommand (runs_of setting taken_over) 0 machine_code
machine_of_failover = record {
  run = failover;
  listed = (0, omega arith, refl);
  index = 2;
  command = refl;
  token = refl;
  side = refl;
  begun = inr (7, refl, (refl, refl));
}

-- and of the migration
pub step_of_migration : IsStepCommand (runs_of setting under_way) step_code
step_of_migration = record {
  run = run_or no_run (run_at 1 (runs_of setting under_way));
  listed = (0, omega arith, refl);
  number = 1;
  command = record { before = 3; place = 0; counted = refl; step = refl };
  token = refl;
  side = refl;
  begun = inl (6, refl, (refl, refl));
}

-- a migration that has begun no stage but its first has no command
abbrev pub at_first : List Record
at_first = started 1 Op.Migrate 0 95 ∷ Record.Begin 1 1 ∷ []

abbrev pub at_first_run : Run
at_first_run = run_or no_run (run_at 1 (runs_of setting at_first))

pub the_run : (run : Run) → Contains (runs_of setting at_first) run → at_first_run ≡ run
the_run run (zero, below, e) = e
the_run run (suc k, below, e) = absurd (omega arith)

pub none_is_command : (n : ℕ) → HasBegun at_first_run (RunsStep n) → ⊥
none_is_command n (inl (k, begun, is)) = go (or_cases (1 == k) false begun)
  where
    go : ((1 == k) ≡ true) ⊎ (false ≡ true) → ⊥
    go (inl e) = let wrong : StageKind.Sync ≡ StageKind.Command = subst (λ n. (stage_at (stages_of at_first_run) n).kind ≡ StageKind.Command) (sym (eqb-true 1 k e)) is.0 in cc
    go (inr e) = cc
none_is_command n (inr taken) = taken

pub no_step_too_early : IsStepCommand (runs_of setting at_first) step_code → ⊥
no_step_too_early it = none_is_command it.number (subst (λ r. HasBegun r (RunsStep it.number)) (sym (the_run it.run it.listed)) it.begun)

-- nor has a machine a command at the old side
pub no_code_at_old : IsMachineCommand (runs_of setting at_first) 0 (record machine_code { side = Some Side.A }) → ⊥
no_code_at_old it = let wrong : Some Side.A ≡ Some Side.B = subst (λ r. Some Side.A ≡ Some (new r)) (sym (the_run it.run it.listed)) it.side in cc

-- nor a step's at a side
pub no_step_at_side : IsStepCommand (runs_of setting taken_over) (record step_code { side = Some Side.B }) → ⊥
no_step_at_side it = let wrong : Some Side.B ≡ None = it.side in cc

-- nor under another name
abbrev pub first_byte : Option (Option (List ℕ)) → ℕ
first_byte (Some (Some (x ∷ name))) = x
first_byte _ = 0

pub no_other_name : IsMachineCommand (runs_of setting at_first) 0 (record machine_code { name = 98 ∷ [] }) → ⊥
no_other_name it = go (it.index) (subst (λ r. slice_get (all_commands_of (machine_in_plan r.plan 0)) it.index ≡ Some (Some (98 ∷ []))) (sym (the_run it.run it.listed)) it.command)
  where
    go : (i : ℕ) → slice_get commands i ≡ Some (Some (98 ∷ [])) → ⊥
    go zero e = cc
    go (suc zero) e = cc
    go (suc (suc zero)) e = let wrong = ap first_byte e in omega (arith, wrong)
    go (suc (suc (suc zero))) e = cc
    go (suc (suc (suc (suc i)))) e = cc

-- nor of a stage that isn't its own
pub no_machine_too_early : (m : ℕ) → HasBegun at_first_run (StartsMachine m) → ⊥
no_machine_too_early m (inl (k, begun, is)) = go (or_cases (1 == k) false begun)
  where
    go : ((1 == k) ≡ true) ⊎ (false ≡ true) → ⊥
    go (inl e) = let wrong : StageKind.Sync ≡ StageKind.Start = subst (λ n. (stage_at (stages_of at_first_run) n).kind ≡ StageKind.Start) (sym (eqb-true 1 k e)) is.0 in cc
    go (inr e) = cc
no_machine_too_early m (inr taken) = taken

pub no_other_machine : StartsMachine 1 (stage_at (stages (plan_of 0) Op.Migrate false) 7) → ⊥
no_other_machine is = let wrong : false ≡ true = is.1 in cc

pub no_other_step : RunsStep 2 (stage_at (stages (plan_of 0) Op.Migrate false) 6) → ⊥
no_other_step is = let wrong : 1 ≡ 2 = is.1 in omega (arith, wrong)

-- so a machine and the runner keep none
pub no_code_too_early : ChangesWorld setting (runs_of setting at_first) at_first (quiet 100 95) (record (quiet 100 95) { kept = λ m. machine_code ∷ [] }) → ⊥
no_code_too_early c =
    let grows = c.kept 0 in
    let each = subst (AllByRecursion (IsMachineCommand (runs_of setting at_first) 0)) (sym grows.grows) grows.each in
    let it = each.0 in
    no_machine_too_early 0 (subst (λ r. HasBegun r (StartsMachine 0)) (sym (the_run it.run it.listed)) it.begun)

pub no_runner_too_early : ChangesWorld setting (runs_of setting at_first) at_first (quiet 100 95) (record (quiet 100 95) { runner = step_code ∷ [] }) → ⊥
no_runner_too_early c =
    let grows = c.runner in
    let each = subst (AllByRecursion (IsStepCommand (runs_of setting at_first))) (sym grows.grows) grows.each in
    no_step_too_early each.0

-- no code is kept for a token that was kept
pub no_code_twice : GrowsBy (IsMachineCommand (runs_of setting taken_over) 0) (machine_code ∷ []) (machine_code ∷ machine_code ∷ []) → ⊥
no_code_twice grows = none_has 0 (grows.once (refl, tt)).0
  where
    none_has : (code : ℕ) → Some code ≡ None → ⊥
    none_has code e = cc

-- What may change ------------------------------------------------------------------------------------------------------------

-- production and replication go on
pub drifts : Drift (live 100 95) (live 120 110)
drifts = record {
  frame = refl;
  snapshot = refl;
  written = written;
  replicated = replicated;
  read_only = read_only;
}
  where
    written : (side : Side) → at side (live 100 95).writable ≡ true → Grows (at side (live 100 95).content) (at side (live 120 110).content)
    written Side.A e = record { line = refl; base = refl; writes = omega arith }
    written Side.B e = cc

    replicated : (side : Side) → is_target side (frame_of (live 100 95)) ≡ true → (at side (live 120 110).content ≡ at side (live 100 95).content) ⊎ FollowsSource (at side (live 100 95).content) (at Side.A (live 120 110).content) (at side (live 120 110).content)
    replicated Side.A e = cc
    replicated Side.B e = inr (record { line = refl; at_least = omega arith; at_most = omega arith })

    read_only : (side : Side) → at side (live 100 95).writable ≡ false → is_target side (frame_of (live 100 95)) ≡ false → at side (live 120 110).content ≡ at side (live 100 95).content
    read_only Side.A e f = cc
    read_only Side.B e f = cc

-- a failover that took over splits the pair of its group, starts its machine, and the machine keeps the code of its command
pub after_split : ℕ → Pair
after_split zero = split
after_split (suc p) = live 100 95

pub after_start : ℕ → Sides Post
after_start zero = record { a = Post.Off placed; b = Post.On placed }
after_start (suc m) = serving

pub after_code : ℕ → List Kept
after_code zero = machine_code ∷ []
after_code (suc m) = []

abbrev pub came_over : List Record
came_over = started 2 Op.Failover 1 95 ∷ []

pub a_change : ChangesWorld setting (runs_of setting taken_over) came_over (quiet 100 95) (world_of after_split after_start after_code)
unfolding after_split after_start after_code
a_change = record {
  idle_pairs = idle_pair;
  idle_posts = idle_post;
  tested_pairs = λ g p of_group there only. tested_pair g p (pair_has g p of_group) only;
  tested_posts = λ g m of_group only. tested_post g m (machine_has g m of_group) only;
  pair_count = refl;
  machine_count = refl;
  kept = codes;
  runner = record { added = []; grows = refl; each = tt; once = λ o. o };
}
  where
    touched : is_touched 0 came_over (runs_of setting taken_over) ≡ false → ⊥
    touched none = let wrong : true ≡ false = none in cc

    no_test : (g : ℕ) → g ≡ 0 → is_only_tested g came_over (runs_of setting taken_over) ≡ true → ⊥
    no_test g is only = let wrong : false ≡ true = subst (λ x. is_only_tested x came_over (runs_of setting taken_over) ≡ true) is only in cc

    idle_pair : (p : ℕ) → ((g : ℕ) → IsPairOf estate g p → is_touched g came_over (runs_of setting taken_over) ≡ false) → Drift (live 100 95) (after_split p)
    idle_pair zero none = absurd (touched (none 0 first_pair))
    idle_pair (suc p) none = Drift-refl (live 100 95)

    idle_post : (m : ℕ) → ((g : ℕ) → IsMachineOf estate g m → is_touched g came_over (runs_of setting taken_over) ≡ false) → after_start m ≡ serving
    idle_post zero none = absurd (touched (none 0 first_machine))
    idle_post (suc m) none = refl

    tested_pair : (g p : ℕ) → g ≡ p → is_only_tested g came_over (runs_of setting taken_over) ≡ true → Drift (live 100 95) (record (after_split p) { snapshot = None })
    tested_pair g zero is only = absurd (no_test g is only)
    tested_pair g (suc p) is only = Drift-refl (live 100 95)

    tested_post : (g m : ℕ) → g ≡ m → is_only_tested g came_over (runs_of setting taken_over) ≡ true → at (group_state estate g (runs_of setting taken_over)).protected (after_start m) ≡ at (group_state estate g (runs_of setting taken_over)).protected serving
    tested_post g zero is only = absurd (no_test g is only)
    tested_post g (suc m) is only = refl

    codes : (m : ℕ) → GrowsBy (IsMachineCommand (runs_of setting taken_over) m) [] (after_code m)
    codes zero = record { added = machine_code ∷ []; grows = refl; each = (machine_of_failover, tt); once = λ o. (refl, tt) }
    codes (suc m) = record { added = []; grows = refl; each = tt; once = λ o. o }

-- a test makes a snapshot and starts its machine at the recovery side
pub after_snapshot : ℕ → Pair
after_snapshot zero = record (live 120 110) { snapshot = Some (record { run = 1; content = record { line = 0; base = 0; writes = 105 } }) }
after_snapshot (suc p) = live 100 95

pub after_test_start : ℕ → Sides Post
after_test_start zero = record { a = Post.Ready placed; b = Post.On (record placed { bubble = true }) }
after_test_start (suc m) = serving

pub a_test : ChangesWorld setting test_runs test_came (quiet 100 95) (world_of after_snapshot after_test_start (λ m. []))
unfolding after_snapshot after_test_start
a_test = record {
  idle_pairs = idle_pair;
  idle_posts = idle_post;
  tested_pairs = λ g p of_group there only. tested_pair p;
  tested_posts = λ g m of_group only. tested_post g m (machine_has g m of_group);
  pair_count = refl;
  machine_count = refl;
  kept = λ m. record { added = []; grows = refl; each = tt; once = λ o. o };
  runner = record { added = []; grows = refl; each = tt; once = λ o. o };
}
  where
    touched : is_touched 0 test_came test_runs ≡ false → ⊥
    touched none = let wrong : true ≡ false = none in cc

    idle_pair : (p : ℕ) → ((g : ℕ) → IsPairOf estate g p → is_touched g test_came test_runs ≡ false) → Drift (live 100 95) (after_snapshot p)
    idle_pair zero none = absurd (touched (none 0 first_pair))
    idle_pair (suc p) none = Drift-refl (live 100 95)

    idle_post : (m : ℕ) → ((g : ℕ) → IsMachineOf estate g m → is_touched g test_came test_runs ≡ false) → after_test_start m ≡ serving
    idle_post zero none = absurd (touched (none 0 first_machine))
    idle_post (suc m) none = refl

    tested_pair : (p : ℕ) → DriftsButSnapshot (live 100 95) (after_snapshot p)
    tested_pair zero = drifts
    tested_pair (suc p) = Drift-refl (live 100 95)

    tested_post : (g m : ℕ) → g ≡ m → at (group_state estate g test_runs).protected (after_test_start m) ≡ at (group_state estate g test_runs).protected serving
    tested_post g zero is = subst (λ x. at (group_state estate x test_runs).protected (after_test_start 0) ≡ at (group_state estate x test_runs).protected serving) (sym is) refl
    tested_post g (suc m) is = refl
