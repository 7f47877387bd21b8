use Rattle.std.proofs.Common.{◌∙◌, get_or, ap, arith}
use Rattle.dr_groups.specs.Forests.{root}
use Rattle.dr_groups.proofs.ChainLaws.{same_class-link}
use Rattle.dr_groups.proofs.TreeLaws.{joined-within, joined-together, joined-both, together-through, together_more}
use Rattle.dr_groups.proofs.RowLaws.{entry_read, entry_place, entry_linked, device_within}
use Rattle.dr_groups.proofs.labels.join_leaders.Goals as goal

pub join-requires-clause-second : goal.join-requires-clause-second
join-requires-clause-second c =
    let e = c.args.estate.now in
    let ds = c.devices_of-devices.result.now in
    let cs = c.as_slice-consistency.result.now in
    let i = c.loop-device.device-index in
    let entry = get_or cs (get_or ds i 0) 0 in
    let this = entry_read e c.args.datastore ds cs i c.devices_of-devices.ensures.named c.as_slice-consistency.ensures c.loop-device-test.true in
    let led = c.requires.leaders.led c.args.datastore entry this in
    omega (arith, device_within e (get_or c.args.leaders.now entry 0) led.device led.named, c.loop-device.invariant.within.one_each)

pub loop-device-preserved : goal.loop-device-preserved
loop-device-preserved c =
    let e = c.args.estate.now in
    let ds = c.devices_of-devices.result.now in
    let cs = c.as_slice-consistency.result.now in
    let i = c.loop-device.device-index in
    let entry = get_or cs (get_or ds i 0) 0 in
    let this = entry_read e c.args.datastore ds cs i c.devices_of-devices.ensures.named c.as_slice-consistency.ensures c.loop-device-test.true in
    let led = c.requires.leaders.led c.args.datastore entry this in
    let old = c.loop-device.parents in
    let new = c.join.new.parents in
    let before = c.loop-device.invariant in
    let a = c.args.datastore in
    let b = get_or c.args.leaders.now entry 0 in
    let kept = joined-together old new a b c.join.ensures.joined in
    record {
      within = joined-within e old new a b before.within c.requires.declared (device_within e b led.device led.named)
          (same_class-link e a b (entry_linked e a b entry this led)) c.join.auto.parents c.join.ensures.forest c.join.ensures.joined;
      kept = together-through c.args.parents.now old new before.kept kept;
      joined = together_more old new (λ k. a) (λ k. get_or c.args.leaders.now (get_or cs (get_or ds k 0) 0) 0) i kept before.joined (joined-both old new a b c.join.ensures.joined);
    }

pub returns-clause-joined : goal.returns-clause-joined
returns-clause-joined c = λ entry has.
    let e = c.args.estate.now in
    let at = entry_place e c.args.datastore c.devices_of-devices.result.now c.as_slice-consistency.result.now entry c.devices_of-devices.ensures.named c.as_slice-consistency.ensures has in
    c.loop-device.invariant.joined at.0 (omega (arith, at.1)) ∙ ap (λ n. root c.loop-device.parents (get_or c.args.leaders.now n 0)) at.2
