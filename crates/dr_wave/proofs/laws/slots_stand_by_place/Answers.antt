use Rattle.std.proofs.Common.{◌∙◌, sym, ap, length}
use Rattle.std.proofs.lemmas.List.{length-map}
use Rattle.dr_outside.specs.Machines.{no_machine}
use Rattle.dr_wave.specs.declared.slot.Want.{Want}
use Rattle.dr_wave.specs.declared.slot.Found.{Found}
use Rattle.dr_wave.proofs.SlotLaws.{by_place}
use Rattle.dr_wave.proofs.laws.slots_stand_by_place.Goals as goal

pub returns-clause-state : goal.returns-clause-state
returns-clause-state g c = λ old now i alike. by_place (λ slot. g.P.Port.state slot.port) no_machine old now i alike

pub returns-clause-want : goal.returns-clause-want
returns-clause-want g c = λ old now i alike. by_place (λ slot. slot.want) Want.Nothing old now i alike

pub returns-clause-found : goal.returns-clause-found
returns-clause-found g c = λ old now i alike. by_place (λ slot. slot.found) Found.Nothing old now i alike

pub returns-clause-count : goal.returns-clause-count
returns-clause-count g c = λ old now stands. sym (length-map now (λ slot. slot.machine)) ∙ ap length stands.machines ∙ length-map old (λ slot. slot.machine)
