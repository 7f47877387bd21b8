use Rattle.dr_replay.specs.Values.{in_force}
use Rattle.dr_replay.proofs.LawfulAt.{not_start}
use Rattle.dr_replay.proofs.replaying.may_come.Goals as goal

pub returns-in_default : goal.returns-in_default
returns-in_default c =
    c.may_follow.ensures (in_force c.args.estate.now c.args.plans.now) (not_start c.args.item.now c.in_default.not-Start)
