-- Which record may come after those before it.
use Rattle.std.specs.Prelude.{◌≡◌, ◌≢◌, ℕ, ◌+◌, ◌*◌, ◌^◌, ◌<◌, ◌≤◌, ◌==◌, ◌⊎◌, Bool, true, false, ◌&&◌, ◌||◌, not, IsTrue, List, [], ◌∷◌, Option, Some, None, IsSomeAnd, IfSome, length, map, find, slice_get}
use Rattle.std.specs.List.{list_any, AllByRecursion}
use Rattle.std.specs.List.Sorted.{IsStrictlyIncreasing}
use Rattle.dr_meaning.specs.Types.{Op, Phase, GroupState, PlanMachine, Plan, StageKind, Stage, StartPair, StartRow, Record}
use Rattle.dr_base.specs.Lists.{has}
use Rattle.dr_meaning.specs.Stages.{stage_at}
use Rattle.dr_meaning.specs.Visits.{begun, all, is_skipped, is_excused, last_visit}
use Rattle.dr_meaning.specs.Runs.{Setting, Run, TakenOver, migration, number, op, stages_of, holds, is_open, group_state, protected_side, run_at, add_record, root}
use Rattle.dr_meaning.specs.Meaning.{is_left}
use Rattle.dr_meaning.specs.Next.{next_stage, least_undone}

-- Answers, codes and dependencies ----------------------------------------------------------------------

-- whether a record answers this step
abbrev pub is_answer : ℕ → Record → Bool
is_answer step (Record.Answer run s text) = s == step
is_answer step _ = false

-- whether a run that was taken over has an Answer for the step
abbrev pub was_answered : ℕ → Option TakenOver → Bool
was_answered step None = false
was_answered step (Some taken) = list_any (is_answer step) taken.log

-- whether the run, or the migration that it took over, has an Answer for the step
abbrev pub is_answered : Run → ℕ → Bool
is_answered run step = list_any (is_answer step) run.log || was_answered step (migration run)

-- whether a record tells the code of this token and machine
abbrev pub is_code : ℕ → ℕ → Record → Bool
is_code token machine (Record.Code run t m code) = (t == token) && (m == machine)
is_code token machine _ = false

-- whether the run has this code
abbrev pub is_coded : Run → ℕ → ℕ → Bool
is_coded run token machine = list_any (is_code token machine) run.log

-- the token of a command, by its run's root and its index: a step's number in the plan, from 1, or the place among a machine's commands, from 0. What keeps a code, the runner or a machine, tells a step's token from a machine's
abbrev pub token_of : (root index : ℕ) → ℕ
token_of root index = root * 2 ^ 32 + index

-- the tokens of the commands that are there, the first of which has this index
abbrev pub tokens_from : (root index : ℕ) → List (Option (List ℕ)) → List ℕ
tokens_from root index [] = []
tokens_from root index (None ∷ commands) = tokens_from root (index + 1) commands
tokens_from root index (Some name ∷ commands) = token_of root index ∷ tokens_from root (index + 1) commands

-- the tokens of a machine's commands, of which those of index 0 and 1 run before power-on, and those of 2 and 3 after it
abbrev pub tokens_of_machine : ℕ → Option PlanMachine → List ℕ
tokens_of_machine root None = []
tokens_of_machine root (Some machine) = tokens_from root 0 machine.commands

-- what a plan says of a machine
abbrev pub machine_in_plan : Plan → ℕ → Option PlanMachine
machine_in_plan plan machine = find (λ m. m.machine == machine) plan.machines

-- the tokens of a machine in a run
abbrev pub tokens : Run → ℕ → List ℕ
tokens run machine = tokens_of_machine (root run) (machine_in_plan run.plan machine)

-- the machines that one depends on
abbrev pub dependencies_of : Option PlanMachine → List ℕ
dependencies_of None = []
dependencies_of (Some machine) = machine.after

-- the machines that one depends on in a run
abbrev pub dependencies : Run → ℕ → List ℕ
dependencies run machine = dependencies_of (machine_in_plan run.plan machine)

-- Start ------------------------------------------------------------------------------------------------

-- the state from which an operation of a plan starts
abbrev pub StartsFrom : Op → ℕ → GroupState → Type 0
StartsFrom Op.Testing plan state = state.phase ≡ Phase.Ready
StartsFrom Op.Migrate plan state = state.phase ≡ Phase.Ready
StartsFrom Op.Failover plan state = state.phase ≡ Phase.Ready
StartsFrom Op.Cleanup plan state = (state.phase ≡ Phase.Tested) × (state.plan ≡ plan)
StartsFrom Op.Reprotect plan state = (state.phase ≡ Phase.Recovered) × (state.plan ≡ plan)

-- whether an operation is a test
abbrev pub is_testing : Op → Bool
is_testing Op.Testing = true
is_testing Op.Cleanup = false
is_testing Op.Migrate = false
is_testing Op.Failover = false
is_testing Op.Reprotect = false

-- whether an operation is a planned migration
abbrev pub is_migration : Op → Bool
is_migration Op.Migrate = true
is_migration Op.Testing = false
is_migration Op.Cleanup = false
is_migration Op.Failover = false
is_migration Op.Reprotect = false

-- whether an operation takes over an open run of the other: a cleanup a test, a failover a migration
abbrev pub takes_over : Op → Op → Bool
takes_over Op.Cleanup other = is_testing other
takes_over Op.Failover other = is_migration other
takes_over Op.Testing other = false
takes_over Op.Migrate other = false
takes_over Op.Reprotect other = false

-- whether a Start takes this run over: it is open, of the same plan, and of the operation that it takes over
abbrev pub is_taken_over : StartRow → Run → Bool
is_taken_over row run = is_open run && takes_over row.op (op run) && (run.start.plan == row.plan)

-- a run's number, or 0 where there is none
abbrev pub number_or_0 : Option Run → ℕ
number_or_0 None = 0
number_or_0 (Some run) = number run

-- the run that a Start takes over, or 0
abbrev pub over_for : StartRow → List Run → ℕ
over_for row runs = number_or_0 (find (is_taken_over row) runs)

-- whether a Start is that of a cleanup that takes over a test: its groups may be in any phase
abbrev pub is_over_test : Op → ℕ → Bool
is_over_test Op.Cleanup over = not (over == 0)
is_over_test _ over = false

-- whether the old side is read for a pair: in a test and a migration always, in a failover that isn't forced perhaps, otherwise never
abbrev pub SeenFor : Op → Bool → Bool → Type 0
SeenFor Op.Testing forced seen = seen ≡ true
SeenFor Op.Migrate forced seen = seen ≡ true
SeenFor Op.Failover false seen = Unit {0}
SeenFor Op.Failover true seen = seen ≡ false
SeenFor Op.Cleanup forced seen = seen ≡ false
SeenFor Op.Reprotect forced seen = seen ≡ false

-- a pair of a Start is read as its operation wants, and has no old writes where the old side isn't read
pub record IsPairRow (row : StartRow) (pair : StartPair) : Type 0 where
  pub seen : SeenFor row.op row.forced pair.seen
  pub unseen : pair.seen ≡ false → pair.old_writes ≡ 0

-- no open run holds a group of these but the one that is taken over
abbrev pub AreFree : List Run → ℕ → List ℕ → Type 0
AreFree runs over groups = AllByRecursion (λ run. is_open run ≡ true → number run ≢ over → AllByRecursion (λ g. holds g run ≡ false) groups) runs

-- a Start of this plan may come: it has the next number and a new id, the plan's groups and pairs, takes over what it must, its groups are in the phase from which it starts, of one protected side, and in no other open run
pub record MayStart (setting : Setting) (runs : List Run) (row : StartRow) (plan : Plan) : Type 0 where
  pub numbered : row.run ≡ length runs + 1
  pub new_id : AllByRecursion (λ run. run.start.id ≢ row.id) runs
  pub forced : row.forced ≡ true → row.op ≡ Op.Failover
  pub groups : row.groups ≡ plan.groups
  pub pairs : map (λ p. p.pair) row.pairs ≡ plan.pairs
  pub reads : AllByRecursion (IsPairRow row) row.pairs
  pub over : row.over ≡ over_for row runs
  pub free : AreFree runs row.over row.groups
  pub phases : is_over_test row.op row.over ≡ false → AllByRecursion (λ g. StartsFrom row.op row.plan (group_state setting.estate g runs)) row.groups
  pub one_side : AllByRecursion (λ g. (group_state setting.estate g runs).protected ≡ protected_side setting row.groups runs) row.groups

-- Records of a run ---------------------------------------------------------------------------------------

-- a stage that is a prompt has its Answer
abbrev pub IsAnsweredStage : Run → Stage → Type 0
IsAnsweredStage run stage = stage.kind ≡ StageKind.Prompt → IsTrue (is_answered run stage.step)

-- a Begin of the stage may come: it is the next, none is begun without being done, and a prompt has its Answer
pub record MayBegin (run : Run) (stage : ℕ) : Type 0 where
  pub none_begun : begun run.log ≡ None
  pub next : next_stage run ≡ Some stage
  pub answered : IsAnsweredStage run (stage_at (stages_of run) stage)

-- the run has the codes of a stage's commands: of a Command stage its one, of a Start stage those of each machine that isn't left
abbrev pub HasCodes : Run → StageKind → Stage → Type 0
HasCodes run StageKind.Command stage = IsTrue (is_coded run (token_of (root run) stage.step) all)
HasCodes run StageKind.Start stage =
    AllByRecursion (λ m. is_left run m ≡ false → AllByRecursion (λ t. IsTrue (is_coded run t m)) (tokens run m)) stage.machines
HasCodes run StageKind.Sync stage = Unit {0}
HasCodes run StageKind.FinalSync stage = Unit {0}
HasCodes run StageKind.TestStart stage = Unit {0}
HasCodes run StageKind.TestStop stage = Unit {0}
HasCodes run StageKind.Prepare stage = Unit {0}
HasCodes run StageKind.Split stage = Unit {0}
HasCodes run StageKind.Reverse stage = Unit {0}
HasCodes run StageKind.Stop stage = Unit {0}
HasCodes run StageKind.Clear stage = Unit {0}
HasCodes run StageKind.Prompt stage = Unit {0}

-- a Done of the stage may come: it is begun, and its commands have their Codes
pub record MayDone (run : Run) (stage : ℕ) : Type 0 where
  pub begun : begun run.log ≡ Some stage
  pub codes : HasCodes run (stage_at (stages_of run) stage).kind (stage_at (stages_of run) stage)

-- what may be skipped in a stage: all pairs in Sync, Prepare and FinalSync, a machine of it in Stop
abbrev pub MaySkipIn : StageKind → List ℕ → ℕ → Type 0
MaySkipIn StageKind.Sync machines machine = machine ≡ all
MaySkipIn StageKind.Prepare machines machine = machine ≡ all
MaySkipIn StageKind.FinalSync machines machine = machine ≡ all
MaySkipIn StageKind.Stop machines machine = IsTrue (has machines machine)
MaySkipIn StageKind.TestStart machines machine = ⊥
MaySkipIn StageKind.TestStop machines machine = ⊥
MaySkipIn StageKind.Split machines machine = ⊥
MaySkipIn StageKind.Reverse machines machine = ⊥
MaySkipIn StageKind.Start machines machine = ⊥
MaySkipIn StageKind.Clear machines machine = ⊥
MaySkipIn StageKind.Command machines machine = ⊥
MaySkipIn StageKind.Prompt machines machine = ⊥

-- a Skip may come: in a failover, of the begun stage, once since its Begin
pub record MaySkip (run : Run) (stage machine : ℕ) : Type 0 where
  pub failover : op run ≡ Op.Failover
  pub begun : begun run.log ≡ Some stage
  pub place : MaySkipIn (stage_at (stages_of run) stage).kind (stage_at (stages_of run) stage).machines machine
  pub once : is_skipped run.log stage machine ≡ false

-- the machine that the last Aside names, since the later of the last Begin and the last Attempt
abbrev pub last_aside : List Record → Option ℕ
last_aside [] = None
last_aside (Record.Aside run machine by ∷ log) = Some machine
last_aside (Record.Begin run stage ∷ log) = None
last_aside (Record.Attempt run moment ∷ log) = None
last_aside (_ ∷ log) = last_aside log

-- a machine is set aside by its least dependency that is left, or by itself where none is
abbrev pub IsCause : Run → (machine by : ℕ) → Type 0
IsCause run machine by =
    (IsTrue (has (dependencies run machine) by) × IsTrue (is_left run by) × AllByRecursion (λ d. is_left run d ≡ true → by ≤ d) (dependencies run machine))
    ⊎ (AllByRecursion (λ d. is_left run d ≡ false) (dependencies run machine) × (by ≡ machine))

-- an Aside may come: in a failover, of a machine of the begun Start stage, once since its Begin, by its cause, and ascending since the later of that Begin and the last Attempt
pub record MaySetAside (run : Run) (machine by stage : ℕ) : Type 0 where
  pub failover : op run ≡ Op.Failover
  pub begun : begun run.log ≡ Some stage
  pub start : (stage_at (stages_of run) stage).kind ≡ StageKind.Start
  pub in_wave : IsTrue (has (stage_at (stages_of run) stage).machines machine)
  pub once : is_excused machine (last_visit stage run.log) ≡ false
  pub cause : IsCause run machine by
  pub ascending : IfSome (last_aside run.log) (λ m. m < machine)

-- an Answer may come: to the last run of its plan, whose next stage is this prompt without an Answer
pub record MayAnswer (runs : List Run) (run : Run) (step stage : ℕ) : Type 0 where
  pub last_of_plan : find (λ r. r.start.plan == run.start.plan) runs ≡ Some run
  pub next : next_stage run ≡ Some stage
  pub prompt : (stage_at (stages_of run) stage).kind ≡ StageKind.Prompt
  pub of_step : (stage_at (stages_of run) stage).step ≡ step
  pub unanswered : is_answered run step ≡ false

-- a token is that of a command of the stage: of its step, or of one of its machines
abbrev pub IsCommandOf : Run → Stage → StageKind → (token machine : ℕ) → Type 0
IsCommandOf run stage StageKind.Command token machine = (token ≡ token_of (root run) stage.step) × (machine ≡ all)
IsCommandOf run stage StageKind.Start token machine = IsTrue (has stage.machines machine) × IsTrue (has (tokens run machine) token)
IsCommandOf run stage StageKind.Sync token machine = ⊥
IsCommandOf run stage StageKind.FinalSync token machine = ⊥
IsCommandOf run stage StageKind.TestStart token machine = ⊥
IsCommandOf run stage StageKind.TestStop token machine = ⊥
IsCommandOf run stage StageKind.Prepare token machine = ⊥
IsCommandOf run stage StageKind.Split token machine = ⊥
IsCommandOf run stage StageKind.Reverse token machine = ⊥
IsCommandOf run stage StageKind.Stop token machine = ⊥
IsCommandOf run stage StageKind.Clear token machine = ⊥
IsCommandOf run stage StageKind.Prompt token machine = ⊥

-- a Code may come: of a command of the begun stage, once in the run
pub record MayCode (run : Run) (token machine stage : ℕ) : Type 0 where
  pub begun : begun run.log ≡ Some stage
  pub command : IsCommandOf run (stage_at (stages_of run) stage) (stage_at (stages_of run) stage).kind token machine
  pub once : is_coded run token machine ≡ false

-- a Finish may come: every stage is done, and it names the machines that are left, of which only a failover has some
pub record MayFinish (run : Run) (machines : List ℕ) : Type 0 where
  pub none_begun : begun run.log ≡ None
  pub all_done : least_undone run ≡ None
  pub ascending : IsStrictlyIncreasing machines
  pub left : (m : ℕ) → has machines m ≡ is_left run m
  pub closed : machines ≢ [] → op run ≡ Op.Failover

-- All records ----------------------------------------------------------------------------------------------

-- the run of this number is open, and P holds of it
abbrev pub OpenAnd : ℕ → List Run → (Run → Type 0) → Type 0
OpenAnd n runs P = IsSomeAnd (run_at n runs) (λ run. IsTrue (is_open run) × P run)

-- a record may come after those that make these runs
abbrev pub MayCome : Setting → List Run → Record → Type 0
MayCome setting runs (Record.Estate bytes) = ⊥
MayCome setting runs (Record.Start row) = IsSomeAnd (slice_get setting.plans row.plan) (MayStart setting runs row)
MayCome setting runs (Record.Attempt n moment) = OpenAnd n runs (λ run. Unit {0})
MayCome setting runs (Record.Begin n stage) = OpenAnd n runs (λ run. MayBegin run stage)
MayCome setting runs (Record.Done n stage) = OpenAnd n runs (λ run. MayDone run stage)
MayCome setting runs (Record.Skip n stage machine) = OpenAnd n runs (λ run. MaySkip run stage machine)
MayCome setting runs (Record.Aside n machine by) = OpenAnd n runs (λ run. (stage : ℕ) × MaySetAside run machine by stage)
MayCome setting runs (Record.Answer n step text) = OpenAnd n runs (λ run. (stage : ℕ) × MayAnswer runs run step stage)
MayCome setting runs (Record.Code n token machine code) = OpenAnd n runs (λ run. (stage : ℕ) × MayCode run token machine stage)
MayCome setting runs (Record.Finish n moment machines) = OpenAnd n runs (λ run. MayFinish run machines)

-- each of these records may come after those before it
abbrev pub LawfulAfter : Setting → List Run → List Record → Type 0
LawfulAfter setting runs [] = Unit {0}
LawfulAfter setting runs (item ∷ rest) = MayCome setting runs item × LawfulAfter setting (add_record setting runs item) rest
