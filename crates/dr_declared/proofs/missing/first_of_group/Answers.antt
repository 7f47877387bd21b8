use Rattle.std.proofs.Common.{sym, subst, arith}
use Rattle.dr_inventory.specs.declared.estate.GroupRow.{GroupRow}
use Rattle.dr_declared.specs.Missing.{IsFirstOfList}
use Rattle.dr_declared.proofs.MissingLaws.{list_read, row_read, members_within, of_group}
use Rattle.dr_declared.proofs.missing.first_of_group.Goals as goal

pub first_of_list-requires-clause-declared : goal.first_of_list-requires-clause-declared
first_of_list-requires-clause-declared c =
    let one_each = c.requires.members.machines.one_each in
    members_within c.args.estate.now c.args.members.now c.args.group c.as_slice-3.result.now c.requires.members
    (list_read c.args.members.now.machines c.as_slice-2.result.now c.args.group c.index-as_slice-group-2.result c.as_slice-3.result.now c.as_slice-2.ensures (omega (arith, one_each, c.requires.declared)) c.index-as_slice-group-2.is c.as_slice-3.ensures)

pub first_of_list-requires-clause-ascending : goal.first_of_list-requires-clause-ascending
first_of_list-requires-clause-ascending c =
    let one_each = c.requires.members.machines.one_each in
    (c.requires.members.machines.each c.args.group c.as_slice-3.result.now
    (list_read c.args.members.now.machines c.as_slice-2.result.now c.args.group c.index-as_slice-group-2.result c.as_slice-3.result.now c.as_slice-2.ensures (omega (arith, one_each, c.requires.declared)) c.index-as_slice-group-2.is c.as_slice-3.ensures)).ascending

pub returns : goal.returns
returns c =
    let one_each = c.requires.members.machines.one_each in
    of_group c.args.estate.now c.args.members.now c.args.group c.index-as_slice-group.result c.as_slice-3.result.now
    (row_read c.args.estate.now.groups c.as_slice.result.now c.args.group c.index-as_slice-group.result c.as_slice.ensures c.requires.declared c.index-as_slice-group.is)
    (list_read c.args.members.now.machines c.as_slice-2.result.now c.args.group c.index-as_slice-group-2.result c.as_slice-3.result.now c.as_slice-2.ensures (omega (arith, one_each, c.requires.declared)) c.index-as_slice-group-2.is c.as_slice-3.ensures)
    c.first_of_list.result
    (subst (λ (r : GroupRow). IsFirstOfList c.args.estate.now r.protects c.as_slice-3.result.now c.first_of_list.result) (sym c.index-as_slice-group.is) c.first_of_list.ensures)
