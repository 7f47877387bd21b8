use Rattle.std.proofs.Common.{rules, refl, Some}
use Rattle.dr_outside.specs.Commands.{RunsOnce}
use Rattle.dr_outside.proofs.TokenLaws.{first_same, runs_first}
use Rattle.dr_outside.proofs.plain_port.PlainPortPort.command.Goals as goal

pub returns-in-Some-clause-step : goal.returns-in-Some-clause-step
returns-in-Some-clause-step c = rw (first_same c.args.self.now.kept c.args.token) (search rules)

pub returns-clause-step : goal.returns-clause-step
returns-clause-step c =
    let once : RunsOnce (Some c.args.side) c.args.token c.args.name c.args.self.now.kept c.push.new.self.items 0 = record { first = search rules; kept = search rules } in
    record { post = search rules; once = runs_first (Some c.args.side) c.args.token c.args.name c.args.self.now.kept c.push.new.self.items 0 once }
