use Rattle.std.proofs.Common.{rules, arith}
use Rattle.std.proofs.lemmas.List.{append-nil}
use Rattle.dr_records.proofs.Lists.{four_each}
use Rattle.dr_records.proofs.writing.put_numbers.Goals as goal

pub loop-number-init : goal.loop-number-init
loop-number-init c = record {
  items = rw append-nil (search rules);
  len = omega arith;
  room = omega (arith, four_each c.args.numbers.now);
  capacity = omega arith;
}
