-- What the answer of a call, with its cause, says of each promise of the call.
use Rattle.std.proofs.Common.{◌≡◌, ℕ, ◌⊎◌, inl, inr, true, false, List, length, refl, sym, ◌∙◌, ap, subst, arith, map}
use Rattle.std.proofs.lemmas.Bool.{cases_lt}
use Rattle.std.proofs.lemmas.List.{get_or_past, length-map}
use Rattle.std.specs.Prelude.{Option, Some, None, Result, Ok, Err}
use Rattle.dr_base.specs.Answers.{status_of}
use Rattle.dr_base.specs.declared.side.Side.TheVariants.{B}
use Rattle.dr_base.specs.declared.answer.Answer.{Answer}
use Rattle.dr_base.specs.declared.answer.Answer.TheVariants.{Done, BadWords, ArrayFault, PortFault, Foreign}
use Rattle.dr_base.specs.declared.answer.Thing.TheVariants.{Pair, Machine}
use Rattle.dr_base.specs.declared.command.Command.{Command}
use Rattle.dr_base.specs.declared.command.Command.TheVariants.{Preview, Groups}
use Rattle.dr_inventory.specs.declared.estate.Estate.{Estate}
use Rattle.dr_plan.specs.declared.plan.Plan.{Plan}
use Rattle.dr_declared.specs.declared.contents.Declared.{Declared}
use Rattle.dr_declared.specs.declared.contents.DeclaredFault.{DeclaredFault}
use Rattle.dr_declared.specs.Faults.{IsReading}
use Rattle.dr_declared.proofs.UniqueLaws.{one_reading}
use Rattle.dr_outside.specs.declared.machine.Post.TheVariants.{Placeholder}
use Rattle.dr_outside.specs.Arrays.{ArrayState}
use Rattle.dr_outside.specs.Machines.{PortState, machine_at, no_machine}
use Rattle.dr_outside.proofs.Drifts.{Drift-refl}
use Rattle.dr_meaning.specs.StartUp.{is_started}
use Rattle.dr_testing.specs.Tests.{Outside, outside, AreInOrder, AreTestedByGroup, AreTestedPairs, HasOpeningPairs, HasOpeningMachines, MachinesDone, PairsDone, RunCause}
use Rattle.dr_testing.proofs.StorageLaws.{beside}
use Rattle.dr_report.specs.Reports.{TellsGroups, preview_text_of}
use Rattle.dr_desk.specs.Calls.{Answers, Received, Sent, Said, IsTestOutcome, IsReadFailed, ShowsOnly, ReadingCause, DecisionCause, OrLacked, IsWritten, IsSilent, LacksMemory, Says, Shows, NoneRose, IsTested, KeepsProtected, KeepsOthers, ComesTo, AsksToTest, plain, refusal_due, decision_refusal, is_refusal}
use Rattle.dr_desk.specs.Streams.{looked_at}
use Rattle.dr_desk.specs.Decisions.{Decision, Refuse, ShowGroups, ShowPlan, Test, NotAsked, decision, preview_decision, plan_named}
use Rattle.dr_desk.specs.Words.{IsCommand, IsFirstBadWord, is_report}
use Rattle.dr_desk.proofs.WordsLaws.{no_bad_word, one_bad_word, one_command}

-- a machine where there is none stands as before any run
module _ {R P : Type 0} (array_state : R → ArrayState) (port_state : P → PortState) (array : R) (ports : List P) where
  rests : HasOpeningMachines (outside array_state port_state array ports) → (i : ℕ) → (machine_at port_state ports i).post.b ≡ Placeholder
  rests opening i = elim (cases_lt i (length ports)) [
    | inl lt ↦ (opening i lt).there
    | inr past ↦ ap (λ (m : PortState). m.post.b) (get_or_past (map port_state ports) i no_machine (omega (arith, past, length-map ports port_state)))
  ]

  -- before any run machines are in order
  pub in_order_at_rest : (estate : Estate) (plan : Plan) → HasOpeningMachines (outside array_state port_state array ports) → AreInOrder estate plan (machine_at port_state ports)
  in_order_at_rest estate plan opening = record {
    stand = λ i planned. inl (rests opening i);
    order = record {
      dependencies = λ m k listed started named. let stopped : is_started (machine_at port_state ports m.machine).post.b ≡ false = ap is_started (rests opening m.machine) in cc (started, stopped);
      priorities = λ earlier later first second below started. let stopped : is_started (machine_at port_state ports later.machine).post.b ≡ false = ap is_started (rests opening later.machine) in cc (started, stopped);
    };
  }

-- the said refusal is the one that is due
due_of_decision : (array_tells port_tells : Type 0) (estate : Estate) (v : Decision) (old new : Outside) (said due : Said) → decision_refusal estate v ≡ Some due → DecisionCause array_tells port_tells estate v old new said → said ≡ due
due_of_decision array_tells port_tells estate (Refuse refusal) old new said due is cause = cause.told ∙ ap (λ o. elim o [ None ↦ due | Some s ↦ s ]) is
due_of_decision array_tells port_tells estate ShowGroups old new said due is cause = cc is
due_of_decision array_tells port_tells estate (ShowPlan plan) old new said due is cause = cc is
due_of_decision array_tells port_tells estate (Test plan) old new said due is cause = cc is
due_of_decision array_tells port_tells estate NotAsked old new said due is cause = absurd cause

due_of_reading : (array_tells port_tells : Type 0) (command : Command) (reading : Result Declared DeclaredFault) (old new : Outside) (said due : Said) → refusal_due reading old command ≡ Some due → ReadingCause array_tells port_tells command reading old new said → said ≡ due
due_of_reading array_tells port_tells command (Ok declared) old new said due is cause = due_of_decision array_tells port_tells declared.estate (decision declared old command) old new said due is cause
due_of_reading array_tells port_tells command (Err fault) old new said due is cause = cause.told ∙ ap (λ o. elim o [ None ↦ due | Some s ↦ s ]) is

-- a site that wasn't touched keeps its protected side
pub kept_at_rest : (array_tells port_tells : Type 0) (old new : Outside) → new ≡ old → KeepsProtected array_tells port_tells old new
kept_at_rest array_tells port_tells old new same = rw same (record {
  pairs = λ t o i. beside _ _ (Drift-refl _);
  machines = λ t i. record { protected = refl; kept = refl };
})

pub others_at_rest : (array_tells port_tells : Type 0) (plan : Plan) (old new : Outside) → new ≡ old → KeepsOthers array_tells port_tells plan old new
others_at_rest array_tells port_tells plan old new same = rw same (record { pairs = λ t o i out. Drift-refl _; machines = λ t i out. refl })

-- what a verdict leaves, where it isn't a test
same_by_decision : (array_tells port_tells : Type 0) (estate : Estate) (v : Decision) (old new : Outside) (said : Said) → DecisionCause array_tells port_tells estate v old new said → (new ≡ old) ⊎ ((plan : Plan) × IsTestOutcome array_tells port_tells estate plan old new said)
same_by_decision array_tells port_tells estate (Refuse refusal) old new said cause = inl cause.same
same_by_decision array_tells port_tells estate ShowGroups old new said cause = inl cause.same
same_by_decision array_tells port_tells estate (ShowPlan plan) old new said cause = inl cause.same
same_by_decision array_tells port_tells estate (Test plan) old new said cause = inr (plan, cause)
same_by_decision array_tells port_tells estate NotAsked old new said cause = absurd cause

-- a preview touches nothing
same_by_preview : (array_tells port_tells : Type 0) (estate : Estate) (name : List ℕ) (found : Option Plan) (old new : Outside) (said : Said) → DecisionCause array_tells port_tells estate (preview_decision name found) old new said → new ≡ old
same_by_preview array_tells port_tells estate name None old new said cause = cause.same
same_by_preview array_tells port_tells estate name (Some plan) old new said cause = cause.same

-- nor does any report
same_by_report : (array_tells port_tells : Type 0) (command : Command) (reading : Result Declared DeclaredFault) (old new : Outside) (said : Said) → is_report command ≡ true → ReadingCause array_tells port_tells command reading old new said → new ≡ old
same_by_report array_tells port_tells command (Err fault) old new said is cause = cause.same
same_by_report array_tells port_tells Groups (Ok declared) old new said is cause = cause.same
same_by_report array_tells port_tells (Preview name) (Ok declared) old new said is cause = same_by_preview array_tells port_tells declared.estate name (plan_named declared.plans name) old new said cause
same_by_report array_tells port_tells command (Ok declared) old new said is cause = cc is

module _ (source_tells sink_tells array_tells port_tells : Type 0) (words : List (List ℕ)) (source : Received) (old new : Outside) (sink : Sent) (status : ℕ) (marks : List ℕ) (a : Answers source_tells sink_tells array_tells port_tells words source old new sink status marks) where
  -- the site was not touched, or a plan was tested
  untouched_or_tested : (new ≡ old) ⊎ ((estate : Estate) × (plan : Plan) × IsTestOutcome array_tells port_tells estate plan old new a.said)
  untouched_or_tested = elim a.is [
    | inl bad ↦ inl bad.says.same
    | inr is ↦ elim is.cause [
      | inl failed ↦ inl failed.says.same
      | inr rest ↦ elim rest [
        | inl lacked ↦ inl lacked.same
        | inr input ↦ by_reading is.command input.reading input.cause
      ]
    ]
  ]
    where
      by_reading : (command : Command) (reading : Result Declared DeclaredFault) → ReadingCause array_tells port_tells command reading old new a.said → (new ≡ old) ⊎ ((estate : Estate) × (plan : Plan) × IsTestOutcome array_tells port_tells estate plan old new a.said)
      by_reading command (Err fault) cause = inl cause.same
      by_reading command (Ok declared) cause = elim (same_by_decision array_tells port_tells declared.estate (decision declared old command) old new a.said cause) [ inl same ↦ inl same | inr tested ↦ inr (declared.estate, tested.0, tested.1) ]

  pub bad_words : (place : ℕ) → IsFirstBadWord words place → IsWritten sink_tells sink status (plain None (BadWords place)) ⊎ IsSilent sink_tells sink status
  bad_words place bad = elim a.is [
    | inl is ↦ inl (subst (IsWritten sink_tells sink status) (is.says.told ∙ ap (λ p. plain None (BadWords p)) (one_bad_word words is.place place is.bad bad)) a.gives)
    | inr is ↦ absurd (no_bad_word words is.command place is.is_command bad)
  ]

  pub protected_side : KeepsProtected array_tells port_tells old new
  protected_side = elim untouched_or_tested [
    | inl same ↦ kept_at_rest array_tells port_tells old new same
    | inr tested ↦ record { pairs = λ t o. (tested.2.pairs_kept t o).all; machines = λ t. (tested.2.machines_kept t).all }
  ]

  -- the statuses of a test that called the array
  not_refused : (estate : Estate) (plan : Plan) (answer : Answer) → RunCause array_tells port_tells estate plan old new answer → is_refusal (status_of answer) ≡ true → ⊥
  not_refused estate plan (Done run) cause is = cc is
  not_refused estate plan (ArrayFault side) cause is = cc is
  not_refused estate plan (PortFault machine) cause is = cc is
  not_refused estate plan (Foreign thing wanted found) cause is = cc is
  not_refused estate plan answer cause is = absurd cause

  pub untouched : is_refusal status ≡ true → new ≡ old
  untouched is = elim untouched_or_tested [
    | inl same ↦ same
    | inr tested ↦ elim a.gives [
      | inl told ↦ absurd (not_refused tested.0 tested.1 a.said.answer tested.2.cause (subst (λ n. is_refusal n ≡ true) told.status_is is))
      | inr cut ↦ (let ten : is_refusal 10 ≡ true = subst (λ n. is_refusal n ≡ true) cut.status_is is in cc ten)
    ]
  ]

  pub reports : (command : Command) → IsCommand words command → is_report command ≡ true → new ≡ old
  reports command is_command report = elim a.is [
    | inl bad ↦ bad.says.same
    | inr is ↦ elim is.cause [
      | inl failed ↦ failed.says.same
      | inr rest ↦ elim rest [
        | inl lacked ↦ lacked.same
        | inr input ↦ same_by_report array_tells port_tells is.command input.reading old new a.said (ap is_report (one_command words is.command command is.is_command is_command) ∙ report) input.cause
      ]
    ]
  ]

  -- what was said to this command about this input
  module _ (t : source_tells) (command : Command) (is_command : IsCommand words command) (reading : Result Declared DeclaredFault) (is_reading : IsReading (looked_at source.before) reading) where
    located : IsReadFailed source old new a.said ⊎ OrLacked old new a.said (ReadingCause array_tells port_tells command reading old new a.said)
    located = elim a.is [
      | inl bad ↦ absurd (no_bad_word words command bad.place is_command bad.bad)
      | inr is ↦ elim is.cause [
        | inl failed ↦ inl failed
        | inr rest ↦ elim rest [
          | inl lacked ↦ inr (inl lacked)
          | inr input ↦
              let same_command : is.command ≡ command = one_command words is.command command is.is_command is_command in
              let same_reading : input.reading ≡ reading = one_reading (looked_at source.before) input.reading reading (subst (λ i. IsReading i input.reading) (is.read t) input.is_reading) is_reading in
              inr (inr (subst (λ c. ReadingCause array_tells port_tells c reading old new a.said) same_command (subst (λ r. ReadingCause array_tells port_tells is.command r old new a.said) same_reading input.cause)))
        ]
      ]
    ]

    -- unless a read failed or memory was wanting, this was said
    pub refused : (due : Said) → refusal_due reading old command ≡ Some due → Says sink_tells source sink status due
    refused due is = elim located [
      | inl failed ↦ inr (inl (failed.rose, subst (IsWritten sink_tells sink status) failed.says.told a.gives))
      | inr rest ↦ elim rest [
        | inl lacked ↦ inr (inr (inl (subst (IsWritten sink_tells sink status) lacked.told a.gives)))
        | inr cause ↦ inl (subst (IsWritten sink_tells sink status) (due_of_reading array_tells port_tells command reading old new a.said due is cause) a.gives)
      ]
    ]

  -- what was said where the words and the input come to this
  module _ (t : source_tells) (estate : Estate) (wanted : Decision) (comes : ComesTo words (looked_at source.before) old estate wanted) where
    pub come : IsReadFailed source old new a.said ⊎ OrLacked old new a.said (DecisionCause array_tells port_tells estate wanted old new a.said)
    come = elim (located t comes.command comes.is_command (Ok comes.declared) comes.declares) [
      | inl failed ↦ inl failed
      | inr rest ↦ elim rest [
        | inl lacked ↦ inr (inl lacked)
        | inr cause ↦ inr (inr (subst (λ e. DecisionCause array_tells port_tells e wanted old new a.said) comes.estate_is (subst (λ v. DecisionCause array_tells port_tells comes.declared.estate v old new a.said) comes.decision_is cause)))
      ]
    ]

    showing : (Tells : List ℕ → Type 0) → (DecisionCause array_tells port_tells estate wanted old new a.said → ShowsOnly old new a.said Tells) → Shows sink_tells source sink status Tells
    showing Tells shows = elim come [
      | inl failed ↦ inr (inl (failed.rose, subst (IsWritten sink_tells sink status) failed.says.told a.gives))
      | inr rest ↦ elim rest [
        | inl lacked ↦ inr (inr (inl (subst (IsWritten sink_tells sink status) lacked.told a.gives)))
        | inr cause ↦ (let is = shows cause in inl (is.is_shown.0, is.is_shown.1, subst (IsWritten sink_tells sink status) is.is_shown.2 a.gives))
      ]
    ]

  pub groups_shown : source_tells → (estate : Estate) → ComesTo words (looked_at source.before) old estate ShowGroups → Shows sink_tells source sink status (TellsGroups estate)
  groups_shown t estate comes = showing t estate ShowGroups comes (TellsGroups estate) (λ cause. cause)

  pub plan_shown : source_tells → (estate : Estate) (plan : Plan) → ComesTo words (looked_at source.before) old estate (ShowPlan plan) → Shows sink_tells source sink status (λ report. report ≡ preview_text_of estate plan)
  plan_shown t estate plan comes = showing t estate (ShowPlan plan) comes (λ report. report ≡ preview_text_of estate plan) (λ cause. cause)

  -- a test was asked for
  module _ (t : source_tells) (estate : Estate) (plan : Plan) (asks : AsksToTest words (looked_at source.before) old estate plan) where
    -- nothing was called, or the plan was tested
    came : (new ≡ old) ⊎ IsTestOutcome array_tells port_tells estate plan old new a.said
    came = elim (come t estate (Test plan) asks) [
      | inl failed ↦ inl failed.says.same
      | inr rest ↦ elim rest [ inl lacked ↦ inl lacked.same | inr test ↦ inr test ]
    ]

    pub others : KeepsOthers array_tells port_tells plan old new
    others = elim came [
      | inl same ↦ others_at_rest array_tells port_tells plan old new same
      | inr test ↦ record { pairs = λ at o. (test.pairs_kept at o).others; machines = λ pt. (test.machines_kept pt).others }
    ]

    pub no_pairs : length plan.pairs ≡ 0 → new.array ≡ old.array
    no_pairs none = elim came [ inl same ↦ ap (λ (s : Outside). s.array) same | inr test ↦ test.no_pairs none ]

    pub in_order : AreInOrder estate plan old.machine → port_tells → HasOpeningMachines old → AreInOrder estate plan new.machine
    in_order rest pt opening = elim came [
      | inl same ↦ rw same rest
      | inr test ↦ test.order pt opening
    ]

    -- at these statuses the plan was tested
    tested_at : (n : ℕ) → status ≡ n → (n ≡ 9 → ⊥) → (n ≡ 10 → ⊥) → (n ≡ 11 → ⊥) → IsTestOutcome array_tells port_tells estate plan old new a.said × (status_of a.said.answer ≡ n)
    tested_at n is nine ten eleven = elim a.gives [
      | inr cut ↦ absurd (ten (sym is ∙ cut.status_is))
      | inl told ↦ elim (come t estate (Test plan) asks) [
        | inl failed ↦ absurd (nine (sym is ∙ told.status_is ∙ ap (λ (s : Said). status_of s.answer) failed.says.told))
        | inr rest ↦ elim rest [
          | inl lacked ↦ absurd (eleven (sym is ∙ told.status_is ∙ ap (λ (s : Said). status_of s.answer) lacked.told))
          | inr test ↦ (test, sym told.status_is ∙ is)
        ]
      ]
    ]

    done_by : (answer : Answer) → RunCause array_tells port_tells estate plan old new answer → (array_tells → HasOpeningPairs old → PairsDone plan old.array new.array answer) → (port_tells → HasOpeningMachines old → MachinesDone estate plan old.machine new.machine answer) → status_of answer ≡ 0 → IsTested array_tells port_tells estate plan old new
    done_by (Done run) cause pairs machines zero = record { pairs = pairs; machines = machines }
    done_by (ArrayFault side) cause pairs machines zero = cc zero
    done_by (PortFault machine) cause pairs machines zero = cc zero
    done_by (Foreign thing wanted found) cause pairs machines zero = cc zero
    done_by answer cause pairs machines zero = absurd cause

    pub done : status ≡ 0 → IsTested array_tells port_tells estate plan old new
    done zero =
        let tested = tested_at 0 zero (λ e. cc e) (λ e. cc e) (λ e. cc e) in
        done_by a.said.answer tested.0.cause tested.0.pairs_done tested.0.machines_done tested.1

    snapshots_by : (answer : Answer) → RunCause array_tells port_tells estate plan old new answer → PairsDone plan old.array new.array answer → status_of answer ≡ 6 → AreTestedPairs plan old.array.pair new.array.pair
    snapshots_by (PortFault machine) cause pairs six = pairs
    snapshots_by (Done run) cause pairs six = cc six
    snapshots_by (ArrayFault side) cause pairs six = cc six
    snapshots_by (Foreign thing wanted found) cause pairs six = cc six
    snapshots_by answer cause pairs six = absurd cause

    pub snapshots_first : array_tells → HasOpeningPairs old → status ≡ 6 → AreTestedPairs plan old.array.pair new.array.pair
    snapshots_first at opening six =
        let tested = tested_at 6 six (λ e. cc e) (λ e. cc e) (λ e. cc e) in
        snapshots_by a.said.answer tested.0.cause (tested.0.pairs_done at opening) tested.1

    groups_by : (answer : Answer) → RunCause array_tells port_tells estate plan old new answer → PairsDone plan old.array new.array answer → status_of answer ≡ 5 → AreTestedByGroup plan old.array.group old.array.pair new.array.pair
    groups_by (ArrayFault side) cause pairs five = pairs
    groups_by (Done run) cause pairs five = cc five
    groups_by (PortFault machine) cause pairs five = cc five
    groups_by (Foreign thing wanted found) cause pairs five = cc five
    groups_by answer cause pairs five = absurd cause

    pub whole_groups : array_tells → HasOpeningPairs old → status ≡ 5 → AreTestedByGroup plan old.array.group old.array.pair new.array.pair
    whole_groups at opening five =
        let tested = tested_at 5 five (λ e. cc e) (λ e. cc e) (λ e. cc e) in
        groups_by a.said.answer tested.0.cause (tested.0.pairs_done at opening) tested.1

    -- where no call failed, only a finished test answers
    module _ (at : array_tells) (pt : port_tells) (pairs : HasOpeningPairs old) (machines : HasOpeningMachines old) (none : NoneRose source old new sink) where
      done_only : (answer : Answer) → RunCause array_tells port_tells estate plan old new answer → answer ≡ Done 1
      done_only (Done run) cause = ap Done cause.0
      done_only (ArrayFault side) cause = absurd (none.array_faults side cause.0)
      done_only (PortFault m) cause = absurd (none.port_faults m B cause.failed.rose)
      done_only (Foreign (Pair k) wanted found) cause = absurd (cause.0.foreign at pairs)
      done_only (Foreign (Machine k) wanted found) cause = absurd (cause.foreign pt machines)
      done_only answer cause = absurd cause

      pub complete : IsWritten sink_tells sink status (plain None (Done 1)) ⊎ LacksMemory sink_tells sink status
      complete = elim (come t estate (Test plan) asks) [
        | inl failed ↦ absurd (none.source_faults failed.rose)
        | inr rest ↦ elim rest [
          | inl lacked ↦ inr (inl (subst (IsWritten sink_tells sink status) lacked.told a.gives))
          | inr test ↦ inl (subst (IsWritten sink_tells sink status) (test.told ∙ ap (plain (Some estate)) (done_only a.said.answer test.cause)) a.gives)
        ]
      ]
