use Rattle.std.proofs.Common.{rules}
use Rattle.dr_base.proofs.Fronts.{rest_from, moved_front}
use Rattle.dr_base.proofs.mem_source.MemSourceSource.read.Goals as goal

pub returns-clause-bytes : goal.returns-clause-bytes
returns-clause-bytes c = moved_front c.self.inside.bytes.items _ c.self.inside.at _ _ _ _ (search rules) (rest_from _ _ _ c.deref-2.ensures.value) c.copy_front-count.ensures.front c.copy_front-count.ensures.count (search rules)
