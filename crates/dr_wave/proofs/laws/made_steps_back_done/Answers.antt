use Rattle.std.specs.Prelude.{Some}
use Rattle.std.proofs.Common.{◌≡◌, ◌+◌, sym, subst, arith}
use Rattle.dr_outside.specs.Commands.{code_of}
use Rattle.dr_meaning.specs.Lawful.{token_of}
use Rattle.dr_wave.proofs.StepFacts.{stopped_stays, code_at, no_code_at}
use Rattle.dr_wave.proofs.laws.made_steps_back_done.Goals as goal

pub returns-clause-stop : goal.returns-clause-stop
returns-clause-stop g c = λ tells side wanted old now codes step. stopped_stays _ _ (step.told tells wanted)

pub returns-clause-clear : goal.returns-clause-clear
returns-clause-clear g c = λ tells side wanted old now codes step. sym (step.told tells wanted)

pub returns-clause-codes : goal.returns-clause-codes
returns-clause-codes g c = λ tells want old now codes step index name h.
    let made = (step.told tells).told in
    let (code, told, is) = code_at now.kept want.root 0 want.commands made.are_kept index name h in
    let e : 0 + index ≡ index = omega arith in
    (code, rw made.told told, subst (λ k. code_of now.kept (token_of want.root k) ≡ Some code) e is)

pub returns-clause-no_codes : goal.returns-clause-no_codes
returns-clause-no_codes g c = λ tells want old now codes step index h.
    let made = (step.told tells).told in
    rw made.told (no_code_at now.kept want.root 0 want.commands index h)
