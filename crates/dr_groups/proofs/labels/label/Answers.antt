use Rattle.dr_groups.proofs.TreeLaws.{roots_are_labels}
use Rattle.dr_groups.proofs.labels.label.Goals as goal

pub returns : goal.returns
returns c =
    let ps = c.join_entries.new.parents in
    let done = c.join_entries.ensures in
    roots_are_labels c.args.estate.now c.args.leaders.now ps c.flatten.new.parents done.within
    (λ a b shared. done.kept.together a b (c.join_machines.ensures.joined a b shared)) done.joined c.flatten.auto.parents c.flatten.ensures
