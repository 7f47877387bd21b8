use Rattle.dr_records.proofs.Whole.{no_front as law}
use Rattle.dr_records.proofs.laws.no_prefix.Goals as goal

pub returns : goal.returns
returns c = law
