-- The first fault of parts one after the other.
use Rattle.std.proofs.Common.{◌≡◌, Bool, ◌||◌, List, [], ◌∷◌, ◌++◌, Result, Ok, Err, refl, ap, ◌∙◌}
use Rattle.std.proofs.lemmas.List.Elements.{filter-append}
use Rattle.dr_base.specs.declared.estate_fault.EstateFault.{EstateFault}
use Rattle.dr_base.specs.declared.stop.Stop.TheVariants as stop
use Rattle.dr_inventory.specs.Part.{ReadError, Part, found, ◌>>=◌, seen, is_of_shape, first_or, outcome, Stops}

-- what comes after a reading that gave a value
abbrev pub then : {A B : Type 0} → Result A EstateFault → (A → Result B EstateFault) → Result B EstateFault
then (Ok x) f = f x
then (Err e) f = Err e

first-append : {A B : Type 0} (fs gs : List EstateFault) (x : A) (y : B) → first_or (fs ++ gs) y ≡ then (first_or fs x) (λ _. first_or gs y)
first-append [] gs x y = refl
first-append (f ∷ fs) gs x y = refl

same_then : {A B : Type 0} (fs : List EstateFault) (x : A) (f : A → Result B EstateFault) → then (first_or fs x) (λ _. f x) ≡ then (first_or fs x) f
same_then [] x f = refl
same_then (e ∷ fs) x f = refl

-- the first fault of two parts is that of the first, or else that of the second
pub outcome_after : {A B : Type 0} (strict : Bool) (p : Part A) (f : A → Part B) → outcome strict (p >>= f) ≡ then (outcome strict p) (λ x. outcome strict (f x))
unfolding ◌>>=◌ outcome
outcome_after strict p f =
    ap (λ fs. first_or fs (f p.value).value) (filter-append (λ e. is_of_shape e || strict) p.faults (f p.value).faults)
    ∙ first-append (seen strict p.faults) (seen strict (f p.value).faults) p.value (f p.value).value
    ∙ same_then (seen strict p.faults) p.value (λ x. outcome strict (f x))

pub outcome_found : {A : Type 0} (strict : Bool) (x : A) → outcome strict (found x) ≡ Ok x
unfolding outcome
outcome_found strict x = refl

-- a reading that stopped is not gone on with
pub stops_then : {A B : Type 0} (e : ReadError) (r : Result A EstateFault) (f : A → Result B EstateFault) → Stops e r → Stops e (then r f)
stops_then stop.Memory r f h = tt
stops_then (stop.Fault e) r f h = rw h refl
