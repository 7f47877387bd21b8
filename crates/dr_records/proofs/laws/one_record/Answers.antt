use Rattle.dr_records.proofs.Whole.{one_record as law}
use Rattle.dr_records.proofs.laws.one_record.Goals as goal

pub returns : goal.returns
returns c = law
