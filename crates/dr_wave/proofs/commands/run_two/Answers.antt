use Rattle.dr_wave.proofs.StepLaws.{both_run, both_told, then_fails, fails_at_once}
use Rattle.dr_wave.proofs.commands.run_two.Goals as goal

pub returns-in-Ok-run_at-clause-ran : goal.returns-in-Ok-run_at-clause-ran
returns-in-Ok-run_at-clause-ran g c = λ tells. both_run _ _ _ _ _ _ _ _ (c.in-Ok.ensures.ran tells) (c.in-Ok-run_at.ensures.ran tells)

pub returns-in-Ok-run_at-clause-told : goal.returns-in-Ok-run_at-clause-told
returns-in-Ok-run_at-clause-told g c = λ tells. both_told c.args.side _ _ _ _ _ _ _ _ (c.in-Ok.ensures.told tells) (c.in-Ok-run_at.ensures.ran tells) (c.in-Ok-run_at.ensures.told tells)

pub returns-in-Err-run_at-clause-ran : goal.returns-in-Err-run_at-clause-ran
returns-in-Err-run_at-clause-ran g c = λ tells. then_fails _ _ _ _ _ _ _ _ (c.in-Ok.ensures.ran tells) (c.in-Err-run_at.ensures.ran tells)

pub returns-in-Err-clause-ran : goal.returns-in-Err-clause-ran
returns-in-Err-clause-ran g c = λ tells. fails_at_once _ _ _ _ _ _ _ (c.in-Err.ensures.ran tells)
