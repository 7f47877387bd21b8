-- From what each part said to what a call said.
use Rattle.std.proofs.Common.{◌≡◌, ◌≢◌, ℕ, inl, inr, true, false, List, refl, sym, subst, length}
use Rattle.std.specs.Prelude.{Option, Some, None, Ok, Err}
use Rattle.dr_base.specs.declared.answer.Answer.{Answer}
use Rattle.dr_base.specs.declared.answer.Answer.TheVariants.{Refused}
use Rattle.dr_base.specs.declared.command.Command.{Command}
use Rattle.dr_base.specs.declared.refusal.Refusal.TheVariants.{UnknownPlan, NotBuilt}
use Rattle.dr_inventory.specs.declared.estate.Estate.{Estate}
use Rattle.dr_plan.specs.declared.plan.Plan.{Plan}
use Rattle.dr_declared.specs.declared.contents.Declared.{Declared}
use Rattle.dr_declared.specs.declared.contents.DeclaredFault.{DeclaredFault}
use Rattle.dr_declared.specs.declared.contents.DeclaredFault.TheVariants as faults
use Rattle.dr_declared.specs.Contents.{Declares}
use Rattle.dr_declared.specs.Faults.{IsFirstFaultOf}
use Rattle.dr_testing.specs.Tests.{Outside, CallsNothing, HasOpeningMachines, HasOpeningPairs, TestCause, PairsDone, MachinesDone, KeepsPairs, KeepsMachines, AreInOrder}
use Rattle.dr_report.specs.Reports.{TellsGroups}
use Rattle.dr_desk.specs.Calls.{Said, IsTestOutcome, IsShown, OrLacks, OrLacked, PreviewCause, DecisionCause, IsInputAnswer, plain}
use Rattle.dr_desk.specs.Faults.{fault_answer, fault_estate}
use Rattle.dr_desk.specs.Decisions.{needs_unbuilt, preview_decision, slots_decision, test_decision, decision, ShowGroups}
use Rattle.dr_desk.proofs.AnswerLaws.{slots_cause}

module _ (array_tells port_tells : Type 0) (estate : Estate) (old new : Outside) (said : Said) where
  -- a test of a plan that needs nothing unbuilt
  pub built_said : (plan : Plan) (answer : Answer) → said ≡ plain (Some estate) answer → TestCause array_tells port_tells estate plan old new answer → CallsNothing old new answer
      → (length plan.pairs ≡ 0 → new.array ≡ old.array)
      → (array_tells → HasOpeningPairs old → PairsDone plan old.array new.array answer)
      → (array_tells → HasOpeningPairs old → KeepsPairs plan old.array.pair new.array.pair)
      → (port_tells → HasOpeningMachines old → MachinesDone estate plan old.machine new.machine answer)
      → (port_tells → KeepsMachines plan old.machine new.machine)
      → (port_tells → HasOpeningMachines old → AreInOrder estate plan new.machine)
      → OrLacked old new said (DecisionCause array_tells port_tells estate (slots_decision estate plan old) old new said)
  built_said plan answer told cause nothing no_pairs pairs_done pairs_kept machines_done machines_kept order =
      slots_cause array_tells port_tells estate plan old new answer said told cause nothing (λ run. subst (IsTestOutcome array_tells port_tells estate plan old new) (sym told) (record {
        cause = run;
        told = refl;
        no_pairs = no_pairs;
        pairs_done = pairs_done;
        pairs_kept = pairs_kept;
        machines_done = machines_done;
        machines_kept = machines_kept;
        order = order;
      }))

  -- a test under a name, of the plan that has it
  module _ (name : List ℕ) (found : Option Plan) where
    pub unknown_said : new ≡ old → found ≡ None → said ≡ plain (Some estate) (Refused (UnknownPlan name)) → OrLacked old new said (DecisionCause array_tells port_tells estate (test_decision estate name old found) old new said)
    unknown_said same none told = inr (subst (λ o. DecisionCause array_tells port_tells estate (test_decision estate name old o) old new said) (sym none) (record { same = same; told = told }))

    pub unbuilt_said : (plan : Plan) → new ≡ old → found ≡ Some plan → needs_unbuilt estate plan ≡ true → said ≡ plain (Some estate) (Refused (NotBuilt name)) → OrLacked old new said (DecisionCause array_tells port_tells estate (test_decision estate name old found) old new said)
    unbuilt_said plan same some needs told = inr (subst (λ o. DecisionCause array_tells port_tells estate (test_decision estate name old o) old new said) (sym some) (rw needs (record { same = same; told = told })))

    pub found_said : (plan : Plan) → found ≡ Some plan → needs_unbuilt estate plan ≡ false → OrLacked old new said (DecisionCause array_tells port_tells estate (slots_decision estate plan old) old new said) → OrLacked old new said (DecisionCause array_tells port_tells estate (test_decision estate name old found) old new said)
    found_said plan some needs rest = subst (λ o. OrLacked old new said (DecisionCause array_tells port_tells estate (test_decision estate name old o) old new said)) (sym some) (rw needs rest)

  -- a report touches nothing
  pub preview_said : (name : List ℕ) (found : Option Plan) → new ≡ old → OrLacks said (PreviewCause estate name found said) → OrLacked old new said (DecisionCause array_tells port_tells estate (preview_decision name found) old new said)
  preview_said name None same (inl lacks) = inl (record { same = same; told = lacks })
  preview_said name None same (inr told) = inr (record { same = same; told = told })
  preview_said name (Some plan) same (inl lacks) = inl (record { same = same; told = lacks })
  preview_said name (Some plan) same (inr is) = inr (record { same = same; is_shown = is })

  pub groups_said : new ≡ old → OrLacks said (IsShown (TellsGroups estate) said) → OrLacked old new said (DecisionCause array_tells port_tells estate ShowGroups old new said)
  groups_said same (inl lacks) = inl (record { same = same; told = lacks })
  groups_said same (inr is) = inr (record { same = same; is_shown = is })

-- an input that declares something
module _ (array_tells port_tells : Type 0) (command : Command) (input : List ℕ) (old new : Outside) (said : Said) where
  pub declared_said : (declared : Declared) → Declares input declared → OrLacked old new said (DecisionCause array_tells port_tells declared.estate (decision declared old command) old new said)
      → OrLacked old new said (IsInputAnswer array_tells port_tells command input old new said)
  declared_said declared is (inl lacked) = inl lacked
  declared_said declared is (inr cause) = inr (record { reading = Ok declared; is_reading = is; cause = cause })

  -- an input with a fault
  pub fault_said : (fault : DeclaredFault) → new ≡ old → (fault ≢ faults.NoMemory → IsFirstFaultOf input fault) → OrLacks said (said ≡ plain (fault_estate fault) (fault_answer fault))
      → OrLacked old new said (IsInputAnswer array_tells port_tells command input old new said)
  fault_said fault same is (inl lacks) = inl (record { same = same; told = lacks })
  fault_said (faults.Estate fault) same is (inr told) = inr (record { reading = Err (faults.Estate fault); is_reading = is (λ e. cc e); cause = record { same = same; told = told } })
  fault_said (faults.Protection estate fault) same is (inr told) = inr (record { reading = Err (faults.Protection estate fault); is_reading = is (λ e. cc e); cause = record { same = same; told = told } })
  fault_said faults.NoMemory same is (inr told) = inl (record { same = same; told = told })
