use Rattle.std.proofs.Common.{length, ap, ◌≤◌, arith}
use Rattle.dr_groups.proofs.TreeLaws.{together-through, entries_more}
use Rattle.dr_groups.proofs.RowLaws.{device_within}
use Rattle.dr_groups.proofs.labels.join_entries.Goals as goal

pub loop-datastore-preserved : goal.loop-datastore-preserved
loop-datastore-preserved c =
    let done = c.join_leaders.ensures in
    record {
      within = done.within;
      kept = together-through c.args.parents.now c.loop-datastore.parents c.join_leaders.new.parents c.loop-datastore.invariant.kept done.kept;
      joined = entries_more c.args.estate.now c.args.leaders.now c.loop-datastore.parents c.join_leaders.new.parents c.loop-datastore.datastore done.kept c.loop-datastore.invariant.joined done.joined;
    }

pub returns-clause-joined : goal.returns-clause-joined
returns-clause-joined c = λ d entry has.
    let all : length c.args.estate.now.datastores ≤ c.loop-datastore.datastore = omega (arith, ap length c.as_slice-datastore-end.ensures) in
    c.loop-datastore.invariant.joined d entry (omega (arith, all, device_within c.args.estate.now d has.device has.named)) has
