use Rattle.std.specs.Int.{w64}
use Rattle.std.specs.Int.RustNames.{FitsSigned}
use Rattle.std.proofs.Common.{rules, arith, sym}
use Rattle.std.proofs.lemmas.Int.{to_z-of_z}
use Rattle.dr_report.proofs.faults.append_plan_fault.Goals as goal

pub returns-in-BadPriority-clause-text : goal.returns-in-BadPriority-clause-text
returns-in-BadPriority-clause-text c =
    let fits : FitsSigned w64 c.in-BadPriority.number = search rules in
    rw (c.in-BadPriority.is, ← c.name_bytes.ensures.value, ← c.machine_name.ensures.value, ← to_z-of_z w64 c.in-BadPriority.number fits) c.append_short-in-BadPriority.ensures.text

pub returns-in-Cycle-clause-text : goal.returns-in-Cycle-clause-text
returns-in-Cycle-clause-text c =
    rw (c.in-Cycle.is, ← c.name_bytes.ensures.value, ← c.as_slice.ensures) c.append_machine_line.ensures

pub returns-in-BadPosition-clause-text : goal.returns-in-BadPosition-clause-text
returns-in-BadPosition-clause-text c =
    let fits : FitsSigned w64 c.in-BadPosition.number = search rules in
    rw (c.in-BadPosition.is, ← c.name_bytes.ensures.value) (rw (to_z-of_z w64 c.in-BadPosition.number fits) at c.append_short-in-BadPosition.ensures.text)
