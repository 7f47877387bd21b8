use Rattle.dr_records.proofs.Whole.{one_fault as law}
use Rattle.dr_records.proofs.laws.one_fault.Goals as goal

pub returns : goal.returns
returns c = law
