use Rattle.std.proofs.Common.{◌<◌, ℕ, length, get_or, subst, arith}
use Rattle.dr_groups.specs.Trees.{IsLed}
use Rattle.dr_groups.proofs.RowLaws.{entry_read, entry_place, entry_below, led_here, led_still, led_more}
use Rattle.dr_groups.proofs.leaders.lead.Goals as goal

pub loop-device-preserved : goal.loop-device-preserved
loop-device-preserved c =
    let e = c.args.estate.now in
    let ds = c.devices_of-devices.result.now in
    let cs = c.as_slice-consistency.result.now in
    let i = c.loop-device.device-index in
    let entry = get_or cs (get_or ds i 0) 0 in
    let this = entry_read e c.args.datastore ds cs i c.devices_of-devices.ensures.named c.as_slice-consistency.ensures c.loop-device-test.true in
    let within : entry < length c.loop-device.leaders = omega (arith, entry_below e c.args.datastore entry c.requires.sound this) in
    let kept = led_still e c.loop-device.leaders entry c.args.datastore within this in
    record {
      kept = λ k led. kept k (c.loop-device.invariant.kept k led);
      led = led_more e c.loop-device.leaders _ (λ k. get_or cs (get_or ds k 0) 0) i kept c.loop-device.invariant.led (led_here e c.loop-device.leaders entry c.args.datastore within this);
    }

pub returns-clause-led : goal.returns-clause-led
returns-clause-led c = λ entry has.
    let e = c.args.estate.now in
    let at = entry_place e c.args.datastore c.devices_of-devices.result.now c.as_slice-consistency.result.now entry c.devices_of-devices.ensures.named c.as_slice-consistency.ensures has in
    let P : ℕ → Type 0 = λ n. IsLed e c.loop-device.leaders n in
    subst P at.2 (c.loop-device.invariant.led at.0 (omega (arith, at.1)))
