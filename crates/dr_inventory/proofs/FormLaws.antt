-- The faults of keys and types, and then those of names.
use Rattle.std.proofs.Common.{◌≡◌, Bool, true, false, not, ◌||◌, List, [], ◌∷◌, ◌++◌, filter, Ok, Err, refl, sym, ap, ◌∙◌}
use Rattle.dr_base.specs.declared.estate_fault.EstateFault.{EstateFault}
use Rattle.dr_inventory.specs.Part.{ReadError, Part, first_or, seen, is_of_shape, outcome, Stops}
use Rattle.dr_inventory.proofs.FaultLaws.{stops_before}

or_true : (b : Bool) → (b || true) ≡ true
or_true true = refl
or_true false = refl

or_false : (b : Bool) → (b || false) ≡ b
or_false true = refl
or_false false = refl

all_seen : (fs : List EstateFault) → seen true fs ≡ fs
all_seen [] = refl
all_seen (f ∷ fs) = rw (or_true (is_of_shape f)) (ap (λ gs. f ∷ gs) (all_seen fs))

shape_seen : (fs : List EstateFault) → seen false fs ≡ filter is_of_shape fs
shape_seen fs = λ i. filter (λ f. or_false (is_of_shape f) i) fs

-- the faults in order
abbrev pub in_order : List EstateFault → List EstateFault
in_order fs = filter is_of_shape fs ++ filter (λ f. not (is_of_shape f)) fs

ok : {A : Type 0} (fs : List EstateFault) (v x : A) → first_or fs v ≡ Ok x → first_or (in_order fs) v ≡ Ok x
ok [] v x h = h
ok (f ∷ fs) v x h = cc

pub form_ok : {A : Type 0} (p : Part A) (x : A) → outcome true p ≡ Ok x → first_or (in_order p.faults) p.value ≡ Ok x
unfolding outcome
form_ok p x h = ok p.faults p.value x (sym (ap (λ fs. first_or fs p.value) (all_seen p.faults)) ∙ h)

shape_first : {A : Type 0} (fs : List EstateFault) (v : A) (f : EstateFault) → is_of_shape f ≡ true → first_or fs v ≡ Err f → first_or (in_order fs) v ≡ Err f
shape_first [] v f s h = cc
shape_first (g ∷ fs) v f s h = let e : g ≡ f = cc in rw (e, s) refl

pub form_key : {A : Type 0} (p : Part A) (f : EstateFault) → is_of_shape f ≡ true → outcome true p ≡ Err f → first_or (in_order p.faults) p.value ≡ Err f
unfolding outcome
form_key p f s h = shape_first p.faults p.value f s (sym (ap (λ fs. first_or fs p.value) (all_seen p.faults)) ∙ h)

no_shape : {A : Type 0} (gs hs : List EstateFault) (v x : A) → first_or gs v ≡ Ok x → gs ++ hs ≡ hs
no_shape [] hs v x h = refl
no_shape (g ∷ gs) hs v x h = cc

other_first : {A : Type 0} (fs : List EstateFault) (v : A) (f : EstateFault) → is_of_shape f ≡ false → first_or fs v ≡ Err f → first_or (filter (λ f. not (is_of_shape f)) fs) v ≡ Err f
other_first [] v f s h = cc
other_first (g ∷ fs) v f s h = let e : g ≡ f = cc in rw (e, s) refl

pub form_name : {A : Type 0} (p : Part A) (f : EstateFault) (x : A) → is_of_shape f ≡ false → outcome true p ≡ Err f → outcome false p ≡ Ok x → first_or (in_order p.faults) p.value ≡ Err f
unfolding outcome
form_name p f x s h shapes =
    let none : first_or (filter is_of_shape p.faults) p.value ≡ Ok x = sym (ap (λ fs. first_or fs p.value) (shape_seen p.faults)) ∙ shapes in
    ap (λ fs. first_or fs p.value) (no_shape (filter is_of_shape p.faults) _ p.value x none)
    ∙ other_first p.faults p.value f s (sym (ap (λ fs. first_or fs p.value) (all_seen p.faults)) ∙ h)

pub form_stops : {A : Type 0} (p : Part A) (e : ReadError) → Stops e (outcome false p) → Stops e (first_or (in_order p.faults) p.value)
unfolding outcome
form_stops p e h = stops_before e (filter is_of_shape p.faults) _ p.value p.value (rw (shape_seen p.faults) at h)
