use Rattle.dr_report.proofs.answers.append_answer.Goals as goal

pub returns-in-PortFault-clause-text : goal.returns-in-PortFault-clause-text
returns-in-PortFault-clause-text c =
    rw (c.in-PortFault.is, ← c.machine_name-name.ensures.value) c.append_short-in-PortFault.ensures.text
