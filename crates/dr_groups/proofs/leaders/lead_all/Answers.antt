use Rattle.std.proofs.Common.{◌∙◌, ◌≤◌, length, ap, arith}
use Rattle.dr_groups.proofs.RowLaws.{device_within, all_led_more}
use Rattle.dr_groups.proofs.leaders.lead_all.Goals as goal

pub loop-datastore-preserved : goal.loop-datastore-preserved
loop-datastore-preserved c = all_led_more c.args.estate.now c.loop-datastore.leaders c.lead.new.leaders c.loop-datastore.datastore c.lead.ensures.kept c.loop-datastore.invariant c.lead.ensures.led

pub returns : goal.returns
returns c = record {
  one_each = c.loop-datastore.auto.leaders ∙ c.requires.one_each;
  led = λ d entry has.
      let all : length c.args.estate.now.datastores ≤ c.loop-datastore.datastore = omega (arith, ap length c.as_slice-datastore-end.ensures) in
      c.loop-datastore.invariant d entry (omega (arith, all, device_within c.args.estate.now d has.device has.named)) has;
}
