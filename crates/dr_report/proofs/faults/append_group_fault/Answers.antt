use Rattle.dr_report.proofs.faults.append_group_fault.Goals as goal

pub returns-in-NotClosed-clause-text : goal.returns-in-NotClosed-clause-text
returns-in-NotClosed-clause-text c =
    rw (c.in-NotClosed.is, ← c.group_name.ensures.value, ← c.datastore_name.ensures.value, ← c.datastore_name-in-NotClosed.ensures.value) c.append_short.ensures.text

pub returns-in-InTwo-clause-text : goal.returns-in-InTwo-clause-text
returns-in-InTwo-clause-text c =
    rw (c.in-InTwo.is, ← c.datastore_name-in-InTwo.ensures.value, ← c.group_name-in-InTwo.ensures.value, ← c.group_name-in-InTwo-2.ensures.value) c.append_short-in-InTwo.ensures.text
