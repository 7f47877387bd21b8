use Rattle.std.proofs.Common.{rules}
use Rattle.dr_outside.proofs.TokenLaws.{first_same}
use Rattle.dr_outside.proofs.plain_port.PlainPortPort.ran.Goals as goal

pub returns-clause-step : goal.returns-clause-step
returns-clause-step c = rw (first_same c.args.self.now.kept c.args.token) (search rules)
