use Rattle.std.proofs.Common.{◌∙◌}
use Rattle.dr_lab.specs.MachineText.{IsMachine, machine_text}
use Rattle.dr_lab.proofs.Whole.{means_again}
use Rattle.dr_lab.proofs.laws.machine_again.Goals as goal

pub returns : goal.returns
returns c = means_again IsMachine machine_text c.as_slice.result.now c.read_machine.result c.read_machine.ensures c.args.sides c.write_machine.ensures.is (c.as_slice.ensures.value ∙ c.write_machine.ensures.text)
