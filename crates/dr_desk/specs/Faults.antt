-- The answer to an input that declares nothing, and the estate by whose names it is told.
use Rattle.std.specs.Prelude.{Option, Some, None}
use Rattle.dr_base.specs.declared.answer.Answer.{Answer}
use Rattle.dr_base.specs.declared.answer.Answer.TheVariants as answers
use Rattle.dr_inventory.specs.declared.estate.Estate.{Estate}
use Rattle.dr_declared.specs.declared.contents.ProtectionFault.{ProtectionFault}
use Rattle.dr_declared.specs.declared.contents.ProtectionFault.TheVariants.{Groups, Plan, Unmapped}
use Rattle.dr_declared.specs.declared.contents.DeclaredFault.{DeclaredFault}
use Rattle.dr_declared.specs.declared.contents.DeclaredFault.TheVariants as faults

-- the answer to an estate whose protection has a fault
abbrev pub protection_answer : ProtectionFault → Answer
protection_answer (Groups fault) = answers.Groups fault
protection_answer (Plan name fault) = answers.Plan name fault
protection_answer (Unmapped unmapped) = answers.Unmapped unmapped

-- the answer to an input with a fault
abbrev pub fault_answer : DeclaredFault → Answer
fault_answer (faults.Estate fault) = answers.Estate fault
fault_answer (faults.Protection estate fault) = protection_answer fault
fault_answer faults.NoMemory = answers.NoMemory

-- the estate by whose names a fault is told
abbrev pub fault_estate : DeclaredFault → Option Estate
fault_estate (faults.Estate fault) = None
fault_estate (faults.Protection estate fault) = Some estate
fault_estate faults.NoMemory = None
