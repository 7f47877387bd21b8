-- Worked examples, by computation: one group of one pair and two machines, the second of which depends on the first. Records stand behind the Estate.
use Rattle.std.specs.List.{range_with_len}
use Rattle.std.specs.Prelude.{◌≡◌, ℕ, true, false, List, [], ◌∷◌, ◌++◌, Option, Some, None, length, map, option_map}
use Rattle.std.proofs.Common.{refl, inr, inl, arith}
use Rattle.dr_meaning.specs.Types.{Callout, PlanMachine, Side, Op, Phase, Estate, Plan, Post, Record}
use Rattle.dr_meaning.specs.declared.stage.StageKind.{StageKind}
use Rattle.dr_meaning.specs.Opening.{opening_frame}
use Rattle.dr_meaning.specs.Stages.{stages}
use Rattle.dr_meaning.specs.Lawful.{MayCome}
use Rattle.dr_meaning.specs.Visits.{all}
use Rattle.dr_meaning.specs.Runs.{Setting, Run, runs_of, group_state, run_at}
use Rattle.dr_meaning.specs.Meaning.{is_left}
use Rattle.dr_meaning.specs.Expected.{ExpectedFrame, ExpectedPost}
use Rattle.dr_meaning.specs.Next.{next_stage}
use Rattle.dr_meaning.specs.Need.{run_need}

abbrev estate : Estate
estate =
    record {
      machines = [];
      datastores = [];
      devices = [];
      consistency = [];
      groups = record { name = 103 ∷ []; protects = Side.A; datastores = [] } ∷ [];
      maps = [];
      plans = [];
    }

abbrev no_commands : List (Option (List ℕ))
no_commands = None ∷ None ∷ None ∷ None ∷ []

abbrev plan : Plan
plan =
    record {
      name = 112 ∷ [];
      groups = 0 ∷ [];
      pairs = 0 ∷ [];
      machines =
          record { machine = 0; priority = 3; depth = 0; after = []; commands = no_commands }
          ∷ record { machine = 1; priority = 3; depth = 1; after = 0 ∷ []; commands = no_commands } ∷ [];
      steps = [];
      wave_count = 2;
    }

abbrev setting : Setting
setting = record { estate = estate; plans = plan ∷ [] }

abbrev started : ℕ → Op → ℕ → Record
started run op over =
    Record.Start (record {
      run = run;
      op = op;
      forced = false;
      plan = 0;
      over = over;
      moment = 1000;
      id = 116 ∷ run ∷ [];
      groups = 0 ∷ [];
      pairs = record { pair = 0; seen = true; old_writes = 100; new_writes = 95 } ∷ [];
    })

-- Begin and Done of stages 1 to n
abbrev walked : ℕ → List ℕ → List Record
walked run [] = []
walked run (stage ∷ rest) = Record.Begin run stage ∷ Record.Done run stage ∷ walked run rest

abbrev finished : ℕ → Op → ℕ → List ℕ → List Record
finished run op over numbers = started run op over ∷ walked run numbers ++ Record.Finish run 1000 [] ∷ []

stage_kinds : map (λ s. s.kind) (stages plan Op.Migrate false) ≡ StageKind.Sync ∷ StageKind.Stop ∷ StageKind.Stop ∷ StageKind.Prepare ∷ StageKind.FinalSync ∷ StageKind.Split ∷ StageKind.Start ∷ StageKind.Start ∷ []
stage_kinds = refl

start_waves : map (λ s. s.machines) (stages plan Op.Testing false) ≡ [] ∷ [] ∷ (0 ∷ []) ∷ (1 ∷ []) ∷ []
start_waves = refl

-- a test, its cleanup, a migration and a reprotect, each done
abbrev tested : List Record
tested = finished 1 Op.Testing 0 (1 ∷ 2 ∷ 3 ∷ 4 ∷ [])

abbrev cleaned : List Record
cleaned = tested ++ finished 2 Op.Cleanup 0 (1 ∷ 2 ∷ 3 ∷ [])

abbrev migrated : List Record
migrated = cleaned ++ finished 3 Op.Migrate 0 (1 ∷ 2 ∷ 3 ∷ 4 ∷ 5 ∷ 6 ∷ 7 ∷ 8 ∷ [])

abbrev reversed : List Record
reversed = migrated ++ finished 4 Op.Reprotect 0 (1 ∷ 2 ∷ 3 ∷ 4 ∷ 5 ∷ [])

records_of_test : length tested ≡ 10
records_of_test = refl

records_of_year : length reversed ≡ 48
records_of_year = refl

after_test : group_state estate 0 (runs_of setting tested) ≡ record { protected = Side.A; phase = Phase.Tested; plan = 0 }
after_test = refl

after_cleanup : group_state estate 0 (runs_of setting cleaned) ≡ record { protected = Side.A; phase = Phase.Ready; plan = 0 }
after_cleanup = refl

after_migrate : group_state estate 0 (runs_of setting migrated) ≡ record { protected = Side.A; phase = Phase.Recovered; plan = 0 }
after_migrate = refl

after_reprotect : group_state estate 0 (runs_of setting reversed) ≡ record { protected = Side.B; phase = Phase.Ready; plan = 0 }
after_reprotect = refl

-- an open test whose second stage is begun
abbrev under_way : List Record
under_way = started 1 Op.Testing 0 ∷ walked 1 (1 ∷ []) ++ Record.Begin 1 2 ∷ []

next_is_begun : option_map next_stage (run_at 1 (runs_of setting under_way)) ≡ Some (Some 2)
next_is_begun = refl

next_is_least : option_map next_stage (run_at 1 (runs_of setting (under_way ++ Record.Done 1 2 ∷ []))) ≡ Some (Some 3)
next_is_least = refl

none_is_next : option_map next_stage (run_at 1 (runs_of setting tested)) ≡ Some None
none_is_next = refl

-- a failover with a machine set aside: after a new Attempt its stage is worked again, and then the next such stage
abbrev with_asides : List Record
with_asides =
    started 1 Op.Failover 0 ∷ walked 1 (1 ∷ 2 ∷ 3 ∷ 4 ∷ 5 ∷ 6 ∷ [])
    ++ Record.Begin 1 7 ∷ Record.Aside 1 0 0 ∷ Record.Done 1 7 ∷ Record.Begin 1 8 ∷ Record.Aside 1 1 0 ∷ Record.Done 1 8 ∷ []

incomplete : option_map next_stage (run_at 1 (runs_of setting with_asides)) ≡ Some None
incomplete = refl

worked_again : option_map next_stage (run_at 1 (runs_of setting (with_asides ++ Record.Attempt 1 1001 ∷ []))) ≡ Some (Some 7)
worked_again = refl

then_the_next : option_map next_stage (run_at 1 (runs_of setting (with_asides ++ Record.Attempt 1 1001 ∷ walked 1 (7 ∷ [])))) ≡ Some (Some 8)
then_the_next = refl

left_both : option_map (λ run. map (is_left run) (0 ∷ 1 ∷ [])) (run_at 1 (runs_of setting with_asides)) ≡ Some (true ∷ true ∷ [])
left_both = refl

left_one : option_map (λ run. map (is_left run) (0 ∷ 1 ∷ [])) (run_at 1 (runs_of setting (with_asides ++ Record.Attempt 1 1001 ∷ walked 1 (7 ∷ [])))) ≡ Some (false ∷ true ∷ [])
left_one = refl

-- a finished test leaves a snapshot of its run
frame_of_test : ExpectedFrame estate 0 (runs_of setting tested) (record (opening_frame Side.A) { snapshot = Some 1 })
frame_of_test = (opening_frame Side.A, refl, refl)

-- a failover that was closed with both machines left, and then a reprotect: phase ready, with no machine at the protected side
abbrev left_and_turned : List Record
left_and_turned = with_asides ++ Record.Finish 1 1002 (0 ∷ 1 ∷ []) ∷ finished 2 Op.Reprotect 0 (1 ∷ 2 ∷ 3 ∷ 4 ∷ 5 ∷ [])

ready_at_b : group_state estate 0 (runs_of setting left_and_turned) ≡ record { protected = Side.B; phase = Phase.Ready; plan = 0 }
ready_at_b = refl

none_in_service : ExpectedPost estate 0 0 Side.B (runs_of setting left_and_turned) Post.Placeholder
none_in_service = (Post.Placeholder, (Post.Placeholder, refl, inr (refl, inr (inl refl))), refl)

-- a run that is taken over
over_migration : option_map (λ run. run.by) (run_at 1 (runs_of setting (started 1 Op.Migrate 0 ∷ started 2 Op.Failover 1 ∷ []))) ≡ Some 2
over_migration = refl

need_of_test : run_need plan (length (stages plan Op.Testing false)) Op.Testing 2 true ≡ 192
need_of_test = refl

-- a plan of 32 machines in five priorities, with a command and a prompt

abbrev alone : ℕ → ℕ → PlanMachine
alone m priority = record { machine = m; priority = priority; depth = 0; after = []; commands = no_commands }

abbrev large_plan : Plan
large_plan =
    record {
      name = 112 ∷ [];
      groups = 0 ∷ 1 ∷ 2 ∷ [];
      pairs = range_with_len 0 13;
      machines =
          map (λ m. alone m 1) (range_with_len 0 2)
          ++ alone 2 2 ∷ record { machine = 3; priority = 2; depth = 1; after = 2 ∷ []; commands = no_commands }
          ∷ map (λ m. alone m 3) (range_with_len 4 12)
          ++ map (λ m. alone m 4) (range_with_len 16 16)
          ++ map (λ m. alone m 5) (range_with_len 32 8);
      steps = record { before = 1; what = Callout.Command (99 ∷ []) } ∷ record { before = 3; what = Callout.Prompt (63 ∷ []) } ∷ [];
      wave_count = 6;
    }

large_stages : map (λ o. length (stages large_plan o false)) (Op.Testing ∷ Op.Cleanup ∷ Op.Migrate ∷ Op.Reprotect ∷ []) ≡ 10 ∷ 7 ∷ 18 ∷ 9 ∷ []
large_stages = refl

-- Lawful neighbours ------------------------------------------------------------------------------------------

abbrev test_runs : List Run
test_runs = runs_of setting (started 1 Op.Testing 0 ∷ [])

-- a test's first Begin is that of its first stage, and of no other
first_begin : MayCome setting test_runs (Record.Begin 1 1)
first_begin = (refl, record { none_begun = refl; next = refl; answered = λ e. absurd cc })

no_second_begin : MayCome setting test_runs (Record.Begin 1 2) → ⊥
no_second_begin may = let next : Some 1 ≡ Some 2 = may.1.next in cc

-- a Done comes behind its Begin alone
no_early_done : MayCome setting test_runs (Record.Done 1 1) → ⊥
no_early_done may = let begun : None ≡ Some 1 = may.1.begun in cc

a_done : MayCome setting (runs_of setting (started 1 Op.Testing 0 ∷ Record.Begin 1 1 ∷ [])) (Record.Done 1 1)
a_done = (refl, record { begun = refl; codes = tt })

-- only a failover skips
no_skip : MayCome setting (runs_of setting (started 1 Op.Testing 0 ∷ Record.Begin 1 1 ∷ [])) (Record.Skip 1 1 all) → ⊥
no_skip may = let failover : Op.Testing ≡ Op.Failover = may.1.failover in cc

a_skip : MayCome setting (runs_of setting (started 1 Op.Failover 0 ∷ Record.Begin 1 1 ∷ [])) (Record.Skip 1 1 all)
a_skip = (refl, record { failover = refl; begun = refl; place = refl; once = refl })

-- a machine is set aside by the dependency that is left, and not by itself
abbrev first_aside : List Record
first_aside = started 1 Op.Failover 0 ∷ walked 1 (1 ∷ 2 ∷ 3 ∷ 4 ∷ 5 ∷ 6 ∷ []) ++ Record.Begin 1 7 ∷ Record.Aside 1 0 0 ∷ Record.Done 1 7 ∷ Record.Begin 1 8 ∷ []

an_aside : MayCome setting (runs_of setting first_aside) (Record.Aside 1 1 0)
an_aside = (refl, (8, record { failover = refl; begun = refl; start = refl; in_wave = refl; once = refl; cause = inl (refl, refl, (λ e. omega arith, tt)); ascending = tt }))

no_aside_by_itself : MayCome setting (runs_of setting first_aside) (Record.Aside 1 1 1) → ⊥
no_aside_by_itself may = elim (may.1.1.cause) [
  | inl listed ↦ (let wrong : false ≡ true = listed.0 in cc)
  | inr own ↦ (let wrong : true ≡ false = own.0.0 in cc)
]

-- a finished run, and one that was taken over, have no further records
no_attempt_finished : MayCome setting (runs_of setting tested) (Record.Attempt 1 2000) → ⊥
no_attempt_finished may = let wrong : false ≡ true = may.0 in cc

no_attempt_taken : MayCome setting (runs_of setting (started 1 Op.Migrate 0 ∷ started 2 Op.Failover 1 ∷ [])) (Record.Attempt 1 2000) → ⊥
no_attempt_taken may = let wrong : false ≡ true = may.0 in cc

-- a Finish comes when all stages are done
no_early_finish : MayCome setting test_runs (Record.Finish 1 1000 []) → ⊥
no_early_finish may = let wrong : Some 1 ≡ None = may.1.all_done in cc
