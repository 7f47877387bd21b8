use Rattle.dr_disk.proofs.SpanLaws.{get_or-copied}
use Rattle.dr_disk.proofs.spans.copy_span.Goals as goal

pub returns-then-span-end : goal.returns-then-span-end
returns-then-span-end c = λ place. get_or-copied c.args.span c.min-end.result c.args.source.now c.args.target.now c.copy_from_slice.new.self place c.requires c.min-end.ensures c.if-span-end.true c.copy_from_slice.ensures.after
