use Rattle.std.proofs.Common.{length, ap, arith}
use Rattle.dr_groups.proofs.SharedLaws.{lacks_more, lacks_past, not_contained}
use Rattle.dr_groups.proofs.shared.group_with.Goals as goal

pub loop-group-preserved : goal.loop-group-preserved
loop-group-preserved c = lacks_more c.args.estate.now c.args.datastore c.args.from c.loop-group.group c.loop-group.invariant
    (λ has. not_contained c.datastores_of.result.now c.args.datastore c.contains.result c.contains.ensures.cases c.if-contains.false ((c.datastores_of.ensures.named c.args.datastore).1 has))

pub returns-clause-none : goal.returns-clause-none
returns-clause-none c = λ none k. lacks_past c.args.estate.now c.args.datastore c.args.from c.loop-group.group k (omega (arith, ap length c.as_slice-group-end.ensures)) c.loop-group.invariant
