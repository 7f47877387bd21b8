-- Faulty estates are told apart by their lines.
use Rattle.std.proofs.Common.{◌≡◌, ap, refl}
use Rattle.std.specs.Prelude.{codes}
use Rattle.dr_base.specs.declared.estate_fault.EstateFault.{EstateFault}
use Rattle.dr_base.specs.declared.estate_fault.EstateFault.TheVariants.{NotToml, Key, BadName, Twice, Unknown, DeviceTwice, Limit, NoMemory}
use Rattle.dr_report.specs.Texts.{estate_fault_text}
use Rattle.dr_report.specs.Values.{IsEstateFault}
use Rattle.dr_report.proofs.FieldLaws.{one, two, name, place, path, wide, limit, join_two, other}

-- two faults of estates with one line are equal
pub same_estate_fault : (f g : EstateFault) → IsEstateFault f → IsEstateFault g → estate_fault_text f ≡ estate_fault_text g → f ≡ g
same_estate_fault NotToml NotToml p q e = refl
same_estate_fault NotToml g p q e = absurd (other (codes "2 E1") (estate_fault_text NotToml) (estate_fault_text g) refl refl e)
same_estate_fault (Key x) (Key y) p q e = ap Key (one (codes "2 E2 key") (place x y p q) e)
same_estate_fault (Key x) g p q e = absurd (other (codes "2 E2") (estate_fault_text (Key x)) (estate_fault_text g) refl refl e)
same_estate_fault (BadName x) (BadName y) p q e = ap BadName (one (codes "2 E3 bad name") (place x y p q) e)
same_estate_fault (BadName x) g p q e = absurd (other (codes "2 E3") (estate_fault_text (BadName x)) (estate_fault_text g) refl refl e)
same_estate_fault (Twice x) (Twice y) p q e = ap Twice (one (codes "2 E4 twice") (path x y p q) e)
same_estate_fault (Twice x) g p q e = absurd (other (codes "2 E4") (estate_fault_text (Twice x)) (estate_fault_text g) refl refl e)
same_estate_fault (Unknown x) (Unknown y) p q e = ap Unknown (one (codes "2 E5 unknown") (name x y p q) e)
same_estate_fault (Unknown x) g p q e = absurd (other (codes "2 E5") (estate_fault_text (Unknown x)) (estate_fault_text g) refl refl e)
same_estate_fault (DeviceTwice x) (DeviceTwice y) p q e = ap DeviceTwice (one (codes "2 E6 device twice") (name x y p q) e)
same_estate_fault (DeviceTwice x) g p q e = absurd (other (codes "2 E6") (estate_fault_text (DeviceTwice x)) (estate_fault_text g) refl refl e)
same_estate_fault (Limit k m) (Limit l n) p q e = let s = two (codes "2 E7 limit") (limit k l) (wide m n p q) e in join_two Limit s.0 s.1
same_estate_fault (Limit k m) g p q e = absurd (other (codes "2 E7") (estate_fault_text (Limit k m)) (estate_fault_text g) refl refl e)
same_estate_fault NoMemory g p q e = absurd p
