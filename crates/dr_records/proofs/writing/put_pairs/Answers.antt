use Rattle.std.proofs.Common.{rules, arith}
use Rattle.std.proofs.lemmas.List.{append-nil}
use Rattle.dr_records.proofs.Lists.{pair_each}
use Rattle.dr_records.proofs.writing.put_pairs.Goals as goal

pub loop-pair-init : goal.loop-pair-init
loop-pair-init c = record {
  items = rw append-nil (search rules);
  len = omega arith;
  room = omega (arith, pair_each c.args.pairs.now);
  capacity = omega arith;
}
