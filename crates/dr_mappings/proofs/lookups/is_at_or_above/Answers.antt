use Rattle.std.proofs.Common.{arith}
use Rattle.dr_mappings.proofs.AboveLaws.{above_same, above_further, above_not}
use Rattle.dr_mappings.proofs.lookups.is_at_or_above.Goals as goal

pub returns-then-folder-above : goal.returns-then-folder-above
returns-then-folder-above c = above_same c.args.above.now c.args.folder.now c.starts_with.result c.starts_with.ensures.value c.if-starts_with.true c.if-folder-above.true

pub returns-else-folder-above : goal.returns-else-folder-above
returns-else-folder-above c = above_further c.args.above.now c.args.folder.now c.starts_with.result c.starts_with.ensures.value c.if-starts_with.true (omega (arith, c.starts_with.ensures.bound c.if-starts_with.true))

pub returns-else-starts_with : goal.returns-else-starts_with
returns-else-starts_with c = above_not c.args.above.now c.args.folder.now c.starts_with.result c.starts_with.ensures.value c.if-starts_with.false
