use Rattle.dr_model.proofs.SinceCalls.{since_commands}
use Rattle.dr_model.proofs.laws.changes.commands_go_on.Goals as goal

pub returns : goal.returns
returns g c = λ setting records runs stand old before after added all only grows runner s.
    since_commands (g.D.Disk.images c.args.entry.now) (g.D.Disk.images c.args.now.now) setting records runs stand old before after added all s only grows runner
