use Rattle.dr_model.proofs.SinceCalls.{since_calls}
use Rattle.dr_model.proofs.laws.changes.calls_go_on.Goals as goal

pub returns : goal.returns
returns g c = λ setting records runs stand run stage call old before after added all new at_n going its makes calls s.
    since_calls (g.D.Disk.images c.args.entry.now) (g.D.Disk.images c.args.now.now) setting records runs stand old before after added all s run stage call new at_n going its makes calls
