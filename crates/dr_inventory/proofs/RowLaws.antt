-- The faults of rows, in their order.
use Rattle.std.proofs.Common.{◌≡◌, ◌∙◌, List, [], ◌∷◌, Ok, refl, sym, ap}
use Rattle.toml.specs.Data.{Members}
use Rattle.dr_base.specs.declared.estate_fault.EstateFault.{EstateFault}
use Rattle.dr_inventory.specs.declared.document.Document.{Document}
use Rattle.dr_base.specs.declared.stop.Stop.TheVariants as stop
use Rattle.dr_inventory.specs.Part.{ReadError, first_or, Stops}
use Rattle.dr_inventory.specs.Documents.{document}
use Rattle.dr_inventory.specs.Rules.{twice_faults, unknown_faults, device_faults}
use Rattle.dr_inventory.specs.Limits.{limits}
use Rattle.dr_inventory.specs.Numbers.{estate_of}
use Rattle.dr_inventory.specs.Estates.{row_faults, form_faults, reading}
use Rattle.dr_inventory.proofs.FaultLaws.{goes_by}

-- where the earlier rules hold, the counts decide
pub only_limits : {T : Type 0} (doc : Document) (y : T) → first_or (twice_faults doc) (tt {0}) ≡ Ok tt → first_or (unknown_faults doc) (tt {0}) ≡ Ok tt → first_or (device_faults doc) (tt {0}) ≡ Ok tt
    → first_or (row_faults doc) y ≡ first_or (limits doc) y
only_limits doc y t u d =
    goes_by (twice_faults doc) _ tt tt y t ∙ goes_by (unknown_faults doc) _ tt tt y u ∙ goes_by (device_faults doc) _ tt tt y d

-- faults that stop one call stop another
pub stops_too : {A B : Type 0} (e : ReadError) (fs : List EstateFault) (x : A) (y : B) → Stops e (first_or fs x) → Stops e (first_or fs y)
stops_too stop.Memory fs x y h = tt
stops_too (stop.Fault f) [] x y h = cc
stops_too (stop.Fault f) (g ∷ fs) x y h = let e : g ≡ f = cc in rw e refl

pub none_stop : {A B : Type 0} (fs : List EstateFault) (x z : A) (y : B) → first_or fs x ≡ Ok z → first_or fs y ≡ Ok y
none_stop [] x z y h = refl
none_stop (f ∷ fs) x z y h = cc

pub value_is : {A : Type 0} (fs : List EstateFault) (v x : A) → first_or fs v ≡ Ok x → v ≡ x
value_is [] v x h = cc
value_is (f ∷ fs) v x h = cc

-- where the form is right, the rows decide
pub only_rows : (t : Members) (doc : Document) → first_or (form_faults t) (document t).value ≡ Ok doc → first_or (row_faults doc) (estate_of doc) ≡ reading t
only_rows t doc h =
    ap (λ d. first_or (row_faults d) (estate_of d)) (sym (value_is (form_faults t) (document t).value doc h))
    ∙ sym (goes_by (form_faults t) (row_faults (document t).value) (document t).value doc (estate_of (document t).value) h)
