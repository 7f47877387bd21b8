-- Faulty protection groups are told apart by their lines.
use Rattle.std.proofs.Common.{◌≡◌, refl, Option}
use Rattle.std.specs.Prelude.{codes}
use Rattle.dr_base.specs.declared.answer.Answer.TheVariants.{Groups}
use Rattle.dr_base.specs.declared.group_fault.GroupFault.{GroupFault}
use Rattle.dr_base.specs.declared.group_fault.GroupFault.TheVariants.{NotClosed, InTwo, NoMemory}
use Rattle.dr_inventory.specs.declared.estate.Estate.{Estate}
use Rattle.dr_report.specs.Texts.{group_fault_text, group_names, datastore_names}
use Rattle.dr_report.specs.Conditions.{HoldsNumbersOf}
use Rattle.dr_report.specs.Values.{IsToldAnswer}
use Rattle.dr_report.proofs.FieldLaws.{Naming, three, numbered, join_three, other}

-- two faults of groups with one line are equal
pub same_group_fault : (estate : Option Estate) → Naming (group_names estate) → Naming (datastore_names estate) → (f g : GroupFault) → HoldsNumbersOf estate (Groups f) → HoldsNumbersOf estate (Groups g) → IsToldAnswer (Groups f) → IsToldAnswer (Groups g) → group_fault_text estate f ≡ group_fault_text estate g → f ≡ g
same_group_fault estate groups datastores (NotClosed a b c) (NotClosed x y z) h k p q e =
    let s = three (codes "2 G1 not closed") (numbered (group_names estate) groups a x h.0 k.0) (numbered (datastore_names estate) datastores b y h.1 k.1) (numbered (datastore_names estate) datastores c z h.2 k.2) e in
    join_three NotClosed s.0 s.1 s.2
same_group_fault estate groups datastores (NotClosed a b c) g h k p q e = absurd (other (codes "2 G1") (group_fault_text estate (NotClosed a b c)) (group_fault_text estate g) refl refl e)
same_group_fault estate groups datastores (InTwo a b c) (InTwo x y z) h k p q e =
    let s = three (codes "2 G2 in two") (numbered (datastore_names estate) datastores a x h.0 k.0) (numbered (group_names estate) groups b y h.1 k.1) (numbered (group_names estate) groups c z h.2 k.2) e in
    join_three InTwo s.0 s.1 s.2
same_group_fault estate groups datastores (InTwo a b c) g h k p q e = absurd (other (codes "2 G2") (group_fault_text estate (InTwo a b c)) (group_fault_text estate g) refl refl e)
same_group_fault estate groups datastores NoMemory g h k p q e = absurd p
