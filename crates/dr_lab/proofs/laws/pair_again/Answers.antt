use Rattle.std.proofs.Common.{◌∙◌}
use Rattle.dr_lab.specs.PairText.{IsPair, pair_text}
use Rattle.dr_lab.proofs.Whole.{means_again}
use Rattle.dr_lab.proofs.laws.pair_again.Goals as goal

pub returns : goal.returns
returns c = means_again IsPair pair_text c.as_slice.result.now c.read_pair.result c.read_pair.ensures c.args.pair c.write_pair.ensures.is (c.as_slice.ensures.value ∙ c.write_pair.ensures.text)
