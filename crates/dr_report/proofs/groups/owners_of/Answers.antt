use Rattle.std.proofs.Common.{◌≡◌, ◌<◌, List, length, get_or, ap, sym, ◌∙◌, arith}
use Rattle.std.specs.Prelude.{◌==◌, if◌then◌else◌, Some, None, Option}
use Rattle.std.specs.List.{list_any}
use Rattle.std.specs.Option.{option_or}
use Rattle.dr_inventory.specs.declared.estate.GroupRow.{GroupRow}
use Rattle.dr_report.proofs.OwnerLaws.{first_group_more}
use Rattle.dr_report.proofs.groups.owners_of.Goals as goal

pub loop-group-preserved : goal.loop-group-preserved
loop-group-preserved c =
    let groups = c.args.estate.now.groups in
    let i = c.loop-group.group-index in
    let group = c.group-item.result in
    let same = c.as_slice-group-items.ensures in
    let before : i < length groups = omega (arith, c.loop-group-test.true, ap (λ (gs : List GroupRow). length gs) same) in
    let read = c.group-item.is ∙ ap (λ (gs : List GroupRow). get_or gs i group) same in
    record {
      one_each = c.note_group.ensures.length ∙ c.loop-group.invariant.one_each;
      first = λ k within. c.note_group.ensures.noted k (omega (arith, within, c.note_group.ensures.length, c.loop-group.invariant.one_each)) ∙ ap (λ o. option_or o (if list_any (λ own. own == k) group.datastores then Some group.name else None)) (c.loop-group.invariant.first k within) ∙ sym (first_group_more groups i k group before read);
    }
