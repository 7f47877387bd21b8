use Rattle.std.proofs.Common.{length, ap, arith}
use Rattle.dr_records.proofs.Lists.{start_length}
use Rattle.dr_records.proofs.writing.size.Goals as goal

pub returns-in-Start : goal.returns-in-Start
returns-in-Start c =
    rw c.in-Start.is (omega (arith, start_length c.in-Start.row, ap length c.bytes.ensures.value, ap length c.as_slice-in-Start.ensures, ap length c.as_slice-in-Start-2.ensures))
