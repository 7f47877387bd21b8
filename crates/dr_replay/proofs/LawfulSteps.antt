-- Steps of the program that tells which record may come.
use Rattle.std.specs.Prelude.{◌≡◌, ℕ, ◌==◌, Bool, false, IsTrue, ◌↔◌}
use Rattle.std.specs.List.{AllByRecursion}
use Rattle.std.proofs.Common.{sym, ◌∙◌, subst, inl, inr, eq-eqb}
use Rattle.std.proofs.lemmas.Bool.{false≢true, eqb-true}
use Rattle.dr_meaning.proofs.Elements.{pick}
use Rattle.dr_meaning.specs.declared.stage.StageKind.{StageKind}
use Rattle.dr_meaning.specs.declared.stage.Stage.{Stage}
use Rattle.dr_meaning.specs.Visits.{all}
use Rattle.dr_meaning.specs.Runs.{Run, root}
use Rattle.dr_meaning.specs.Meaning.{is_left}
use Rattle.dr_meaning.specs.Lawful.{is_coded, token_of, dependencies, HasCodes, IsCause}

-- the codes of a Command stage: its one
pub codes_of_command : (run : Run) (stage : Stage) (kind : StageKind) (token : ℕ) (b : Bool) → kind ≡ StageKind.Command → token ≡ token_of (root run) stage.step → b ≡ is_coded run token all → IsTrue b ↔ HasCodes run kind stage
codes_of_command run stage kind token b e f h =
    let g : b ≡ is_coded run (token_of (root run) stage.step) all = subst (λ t. b ≡ is_coded run t all) f h in
    subst (λ k. IsTrue b ↔ HasCodes run k stage) (sym e) (λ t. sym g ∙ t, λ t. g ∙ t)

-- where no dependency is left, a machine is set aside by itself alone
pub cause_alone : (run : Run) (machine by : ℕ) → AllByRecursion (λ d. is_left run d ≡ false) (dependencies run machine) → IsTrue (by == machine) ↔ IsCause run machine by
cause_alone run machine by none = (λ e. inr (none, eqb-true _ _ e), back)
  where
    back : IsCause run machine by → IsTrue (by == machine)
    back (inl (among, left, least)) = absurd (false≢true (sym (pick (λ d. is_left run d ≡ false) (dependencies run machine) by none among) ∙ left))
    back (inr (others, is)) = eq-eqb _ _ is
