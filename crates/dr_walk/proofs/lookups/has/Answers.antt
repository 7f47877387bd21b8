use Rattle.std.proofs.Common.{◌∙◌}
use Rattle.dr_walk.proofs.SearchLaws.{has_told}
use Rattle.dr_walk.proofs.lookups.has.Goals as goal

pub returns : goal.returns
returns c = λ up. c.is_ok.ensures.value ∙ has_told c.args.numbers.now c.args.n up c.binary_search.result c.binary_search.ensures.position c.binary_search.ensures.bound
