-- Every estate that is read is sound.
use Rattle.std.proofs.Common.{◌≡◌, ◌++◌, List, [], ◌∷◌, IfOk, Result, Ok, Err, refl, subst}
use Rattle.std.specs.List.{All}
use Rattle.toml.specs.Data.{Members}
use Rattle.dr_base.specs.declared.estate_fault.EstateFault.{EstateFault}
use Rattle.dr_inventory.specs.declared.document.Document.{Document}
use Rattle.dr_inventory.specs.declared.estate.Estate.{Estate}
use Rattle.dr_inventory.specs.Part.{ReadError, IsUnlessMemory, first_or}
use Rattle.dr_inventory.specs.Documents.{document}
use Rattle.dr_inventory.specs.Rules.{twice_faults, unknown_faults, device_faults}
use Rattle.dr_inventory.specs.Limits.{limits}
use Rattle.dr_inventory.specs.Numbers.{estate_of}
use Rattle.dr_inventory.specs.Estates.{faults, form_faults, row_faults, reading}
use Rattle.dr_inventory.specs.Sound.{IsSoundEstate, HasSingleNames}
use Rattle.dr_inventory.proofs.Empty.{front_empty, back_empty}
use Rattle.dr_inventory.proofs.MapLaws.{all_single}
use Rattle.dr_inventory.proofs.RowLaws.{value_is}
use Rattle.dr_inventory.proofs.SoundLimits.{within_limits}
use Rattle.dr_inventory.proofs.SoundNames.{none_twice}
use Rattle.dr_inventory.proofs.SoundNumbers.{numbers_within}

pub nothing : {T : Type 0} (fs : List EstateFault) (v x : T) → first_or fs v ≡ Ok x → fs ≡ []
nothing [] v x h = refl
nothing (f ∷ fs) v x h = cc

sound_rows : (doc : Document) → row_faults doc ≡ [] → All HasSingleNames doc.maps → IsSoundEstate (estate_of doc)
sound_rows doc h singles =
    let after = back_empty (twice_faults doc) (unknown_faults doc ++ (device_faults doc ++ limits doc)) h in
    let last = back_empty (unknown_faults doc) (device_faults doc ++ limits doc) after in
    let known = front_empty (unknown_faults doc) (device_faults doc ++ limits doc) after in
    record {
      numbers = numbers_within doc known;
      limits = within_limits doc (back_empty (device_faults doc) (limits doc) last);
      maps = singles;
      none_twice = none_twice doc (front_empty (twice_faults doc) (unknown_faults doc ++ (device_faults doc ++ limits doc)) h) known (front_empty (device_faults doc) (limits doc) last);
    }

pub sound : (t : Members) (e : Estate) → reading t ≡ Ok e → IsSoundEstate e
sound t e h =
    let none = nothing (faults t) (estate_of (document t).value) e h in
    subst (λ (e : Estate). IsSoundEstate e) (value_is (faults t) (estate_of (document t).value) e h)
    (sound_rows (document t).value (back_empty (form_faults t) (row_faults (document t).value) none) (all_single t))

pub sound_result : (t : Members) (r : Result Estate ReadError) → IsUnlessMemory r (reading t) → IfOk r IsSoundEstate
sound_result t (Ok e) h = sound t e h
sound_result t (Err e) h = tt
