use Rattle.dr_wave.proofs.SlotLaws.{stepped, others, in_place}
use Rattle.dr_wave.proofs.wave.step_at.Goals as goal

pub returns-clause-steps : goal.returns-clause-steps
returns-clause-steps g c = stepped c.args.slots.now c.args.i c.index-slots-i.result c.step_slot.new.slot c.requires g.P.Port.tells g.P.Port.state c.args.want.now c.step_slot.ensures.step

pub returns-clause-others : goal.returns-clause-others
returns-clause-others g c = others c.args.slots.now c.args.i c.index-slots-i.result c.step_slot.new.slot c.requires

pub returns-clause-in_place : goal.returns-clause-in_place
returns-clause-in_place g c = in_place c.args.slots.now c.args.i c.index-slots-i.result c.step_slot.new.slot c.requires c.step_slot.ensures.machine c.step_slot.ensures.want
