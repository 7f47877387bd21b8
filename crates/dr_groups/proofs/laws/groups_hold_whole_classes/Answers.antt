use Rattle.dr_groups.proofs.laws.groups_hold_whole_classes.Goals as goal

pub returns : goal.returns
returns c = λ e group a b passes in_group same. (passes.closed group).whole a b in_group same
