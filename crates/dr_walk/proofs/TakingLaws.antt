-- Steps of the program that tells which record may come.
use Rattle.std.specs.Prelude.{◌≡◌, ℕ, ◌≤◌, ◌==◌, ◌⊎◌, Bool, true, false, IsTrue, ◌↔◌, List, Some}
use Rattle.std.specs.List.{AllByRecursion}
use Rattle.std.proofs.Common.{sym, ◌∙◌, subst, inl, inr, eq-eqb}
use Rattle.std.proofs.lemmas.Bool.{false≢true, eqb-true}
use Rattle.dr_base.specs.Lists.{has}
use Rattle.dr_plan.specs.declared.plan.PlanMachine.{PlanMachine}
use Rattle.dr_meaning.proofs.Lists.{find-passes}
use Rattle.dr_meaning.proofs.Elements.{pick}
use Rattle.dr_meaning.specs.declared.stage.StageKind.{StageKind}
use Rattle.dr_meaning.specs.declared.stage.Stage.{Stage}
use Rattle.dr_meaning.specs.Visits.{all}
use Rattle.dr_meaning.specs.Runs.{Run, root}
use Rattle.dr_meaning.specs.Meaning.{is_left}
use Rattle.dr_meaning.specs.Lawful.{is_coded, token_of, tokens_from, tokens_of_machine, machine_in_plan, HasCodes, IsCause}
use Rattle.dr_walk.specs.Taking.{HasMachineCodes}

-- the codes of a Command stage: its one
pub codes_of_command : (run : Run) (stage : Stage) (kind : StageKind) (token : ℕ) (b : Bool) → kind ≡ StageKind.Command → token ≡ token_of (root run) stage.step → b ≡ is_coded run token all → IsTrue b ↔ HasCodes run kind stage
codes_of_command run stage kind token b e f h =
    let g : b ≡ is_coded run (token_of (root run) stage.step) all = subst (λ t. b ≡ is_coded run t all) f h in
    subst (λ k. IsTrue b ↔ HasCodes run k stage) (sym e) (λ t. sym g ∙ t, λ t. g ∙ t)

-- the codes of a machine that isn't left
pub codes_of_machine : (run : Run) (machine : ℕ) (row : PlanMachine) (b : Bool) → machine_in_plan run.plan machine ≡ Some row → is_left run machine ≡ false → IsTrue b ↔ AllByRecursion (λ t. IsTrue (is_coded run t row.machine)) (tokens_from (root run) 0 row.commands) → IsTrue b ↔ HasMachineCodes run machine
codes_of_machine run machine row b at stays told =
    let same : row.machine ≡ machine = eqb-true row.machine machine (find-passes (λ m. m.machine == machine) run.plan.machines row at) in
    let own : IsTrue b ↔ AllByRecursion (λ t. IsTrue (is_coded run t machine)) (tokens_from (root run) 0 row.commands) = subst (λ k. IsTrue b ↔ AllByRecursion (λ t. IsTrue (is_coded run t k)) (tokens_from (root run) 0 row.commands)) same told in
    let whole : IsTrue b ↔ AllByRecursion (λ t. IsTrue (is_coded run t machine)) (tokens_of_machine (root run) (machine_in_plan run.plan machine)) = subst (λ o. IsTrue b ↔ AllByRecursion (λ t. IsTrue (is_coded run t machine)) (tokens_of_machine (root run) o)) (sym at) own in
    (λ t. λ left. whole.0 t, λ h. whole.1 (h stays))

-- where no dependency is left, a machine is set aside by itself alone
pub cause_alone : (run : Run) (after : List ℕ) (machine by : ℕ) → AllByRecursion (λ d. is_left run d ≡ false) after → IsTrue (by == machine) ↔ ((IsTrue (has after by) × IsTrue (is_left run by) × AllByRecursion (λ d. is_left run d ≡ true → by ≤ d) after) ⊎ (AllByRecursion (λ d. is_left run d ≡ false) after × (by ≡ machine)))
cause_alone run after machine by none = (λ e. inr (none, eqb-true _ _ e), back)
  where
    back : (IsTrue (has after by) × IsTrue (is_left run by) × AllByRecursion (λ d. is_left run d ≡ true → by ≤ d) after) ⊎ (AllByRecursion (λ d. is_left run d ≡ false) after × (by ≡ machine)) → IsTrue (by == machine)
    back (inl (among, left, least)) = absurd (false≢true (sym (pick (λ d. is_left run d ≡ false) after by none among) ∙ left))
    back (inr (others, is)) = eq-eqb _ _ is

-- what is told of the dependencies of a machine's row is told of the machine
pub cause_of_row : (run : Run) (machine by : ℕ) (row : PlanMachine) (after : List ℕ) (b : Bool) → machine_in_plan run.plan machine ≡ Some row → after ≡ row.after
    → IsTrue b ↔ ((IsTrue (has after by) × IsTrue (is_left run by) × AllByRecursion (λ d. is_left run d ≡ true → by ≤ d) after) ⊎ (AllByRecursion (λ d. is_left run d ≡ false) after × (by ≡ machine))) → IsTrue b ↔ IsCause run machine by
cause_of_row run machine by row after b at same told = let own = rw same at told in rw at own
