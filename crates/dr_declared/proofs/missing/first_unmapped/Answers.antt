use Rattle.std.proofs.Common.{◌+◌, length, ap, sym, subst, arith}
use Rattle.dr_declared.specs.Missing.{FirstBelow}
use Rattle.dr_declared.proofs.MissingLaws.{first_more, whole}
use Rattle.dr_declared.proofs.missing.first_unmapped.Goals as goal

pub loop-group-preserved : goal.loop-group-preserved
loop-group-preserved c = subst (FirstBelow c.args.estate.now c.args.members.now (c.loop-group.group + 1)) (sym c.lesser-first.ensures) (first_more c.args.estate.now c.args.members.now c.loop-group.group c.loop-group.first c.first_of_group.result c.loop-group.invariant c.first_of_group.ensures)

pub returns-clause-none : goal.returns-clause-none
returns-clause-none c = (whole c.args.estate.now c.args.members.now c.loop-group.group c.loop-group.first (omega (arith, ap length c.as_slice-group-end.ensures, c.loop-group-test.false, c.loop-group.auto.group-end)) c.loop-group.invariant).0

pub returns-clause-first : goal.returns-clause-first
returns-clause-first c = (whole c.args.estate.now c.args.members.now c.loop-group.group c.loop-group.first (omega (arith, ap length c.as_slice-group-end.ensures, c.loop-group-test.false, c.loop-group.auto.group-end)) c.loop-group.invariant).1
