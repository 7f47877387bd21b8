use Rattle.std.proofs.Common.{length, take, arith}
use Rattle.std.proofs.lemmas.List.{length-take}
use Rattle.dr_records.proofs.NameReading.{longest_within, name_found, name_short, name_lost}
use Rattle.dr_records.proofs.record_fields.name_of.Goals as goal
use Rattle.dr_records.proofs.record_fields.name_of.Goals.{in_default-via-in-Some+else-size-bytes, in_default-via-in_default}

pub overflow_sub-result : goal.overflow_sub-result
overflow_sub-result c =
    let front = take c.min.result c.args.bytes.now in
    omega (arith, longest_within (length front) front, length-take c.min.result c.args.bytes.now, c.longest_name.ensures)

pub returns-in-Some : goal.returns-in-Some
returns-in-Some c = name_found c.args.size c.min.result c.args.bytes.now c.in-Some.name c.read.result c.min.ensures c.if-size-bytes.true c.read.ensures c.in-Some.is

pub returns-in_default : goal.returns-in_default
returns-in_default c =
    elim c.in_default.branch [
      | in_default-via-in-Some+else-size-bytes w ↦ name_short c.args.size c.min.result c.longest_name.result c.args.bytes.now c.min.ensures c.longest_name.ensures w.if-size-bytes.false
      | in_default-via-in_default w ↦ name_lost c.args.size c.min.result c.longest_name.result c.args.bytes.now c.read.result c.min.ensures c.longest_name.ensures c.read.ensures w.in_default.is
    ]
