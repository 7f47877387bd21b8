use Rattle.std.proofs.Common.{◌∙◌, sym}
use Rattle.dr_declared.proofs.MissingLaws.{first_at, none_of}
use Rattle.dr_declared.proofs.missing.first_of_list.Goals as goal

pub returns-then-is_some : goal.returns-then-is_some
returns-then-is_some c = first_at c.args.estate.now c.args.home c.args.machines.now c.loop-machine.machine-index c.missing-unmapped.result c.requires.ascending c.loop-machine-test.true c.loop-machine.invariant c.missing-unmapped.ensures (sym c.is_some.ensures ∙ c.if-is_some.true)

pub returns : goal.returns
returns c = none_of c.args.estate.now c.args.home c.args.machines.now c.loop-machine.machine-index c.loop-machine-test.false c.loop-machine.invariant
