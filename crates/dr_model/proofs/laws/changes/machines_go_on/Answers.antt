use Rattle.dr_model.proofs.SinceCalls.{since_machines}
use Rattle.dr_model.proofs.laws.changes.machines_go_on.Goals as goal

pub returns : goal.returns
returns g c = λ setting records runs stand run stage old before after added all new at_n going its calls grows s.
    since_machines (g.D.Disk.images c.args.entry.now) (g.D.Disk.images c.args.now.now) setting records runs stand old before after added all s run stage new at_n going its calls grows
