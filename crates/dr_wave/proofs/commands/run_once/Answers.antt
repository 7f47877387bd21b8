use Rattle.dr_wave.proofs.StepLaws.{ends_run, ends_told}
use Rattle.dr_wave.proofs.commands.run_once.Goals as goal

pub returns-in-Ok-None-clause-ran : goal.returns-in-Ok-None-clause-ran
returns-in-Ok-None-clause-ran g c = λ tells.
    ends_run c.args.side (record { token = c.args.token; name = c.args.name.now }) _ _ _ ((c.in-Ok-None.ensures.step tells).1) c.command.result c.command_end.result (c.command.ensures.step tells) c.command_end.ensures

pub returns-in-Ok-None-clause-told : goal.returns-in-Ok-None-clause-told
returns-in-Ok-None-clause-told g c = λ tells.
    ends_told c.args.side (record { token = c.args.token; name = c.args.name.now }) _ _ _ ((c.in-Ok-None.ensures.step tells).1) c.command.result c.command_end.result (c.command.ensures.step tells) c.command_end.ensures
