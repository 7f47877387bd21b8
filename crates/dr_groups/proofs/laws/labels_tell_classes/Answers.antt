use Rattle.dr_groups.proofs.SplitLaws.{label-same, class-same}
use Rattle.dr_groups.proofs.laws.labels_tell_classes.Goals as goal

pub returns : goal.returns
returns c = λ e labels a b known within_a within_b. (class-same e labels a b known within_a within_b, label-same e labels a b known within_a within_b)
