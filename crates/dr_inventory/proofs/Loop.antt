-- Reading the entries of a list one after the other, as a loop does.
use Rattle.std.proofs.Common.{◌≡◌, ℕ, ◌+◌, Bool, List, [], ◌∷◌, ◌++◌, Result, Ok, Err, refl, sym, ap, ◌∙◌, append_assoc}
use Rattle.std.proofs.lemmas.List.{append-nil}
use Rattle.toml.specs.Data.{Data, Items, no_items, item}
use Rattle.dr_base.specs.declared.estate_fault.EstateFault.{EstateFault}
use Rattle.dr_base.specs.declared.stop.Stop.TheVariants as stop
use Rattle.dr_inventory.specs.Part.{ReadError, outcome, Stops}
use Rattle.dr_inventory.specs.Shapes.{Shape, entry, entries}
use Rattle.dr_inventory.proofs.Outcome.{then, outcome_after, outcome_found}

-- what was read before, and what is still read
abbrev pub with_front : {T : Type 0} → List T → Result (List T) EstateFault → Result (List T) EstateFault
with_front front read = then read (λ xs. Ok (front ++ xs))

regroup : {T : Type 0} (front : List T) (x : T) (read : Result (List T) EstateFault) → with_front front (then read (λ xs. Ok (x ∷ xs))) ≡ with_front (front ++ x ∷ []) read
regroup front x (Ok xs) = ap Ok (simp append_assoc)
regroup front x (Err f) = refl

-- the first entry, and then the others
pub outcome-entries : {T : Type 0} (strict : Bool) (shape : Shape T) (path : List ℕ) (i : ℕ) (d : Data) (ds : Items)
    → outcome strict (entries shape path i (item d ds)) ≡ then (outcome strict (shape.read (entry path i) d)) (λ x. then (outcome strict (entries shape path (i + 1) ds)) (λ xs. Ok (x ∷ xs)))
unfolding entries
outcome-entries strict shape path i d ds = simp (outcome_after, outcome_found)

pub goes_on : {T : Type 0} (strict : Bool) (shape : Shape T) (path : List ℕ) (i : ℕ) (d : Data) (ds : Items) (front : List T) (x : T) (total : Result (List T) EstateFault)
    → outcome strict (shape.read (entry path i) d) ≡ Ok x → with_front front (outcome strict (entries shape path i (item d ds))) ≡ total
    → with_front (front ++ x ∷ []) (outcome strict (entries shape path (i + 1) ds)) ≡ total
goes_on strict shape path i d ds front x total h so_far =
    sym (regroup front x (outcome strict (entries shape path (i + 1) ds)))
    ∙ ap (with_front front) (sym (outcome-entries strict shape path i d ds ∙ rw h refl)) ∙ so_far

failed : {T : Type 0} (front : List T) (f : EstateFault) (g : T → Result (List T) EstateFault) (read : Result T EstateFault) → read ≡ Err f → with_front front (then read g) ≡ Err f
failed front f g read h = rw h refl

pub ends : {T : Type 0} (e : ReadError) (strict : Bool) (shape : Shape T) (path : List ℕ) (i : ℕ) (d : Data) (ds : Items) (front : List T) (total : Result (List T) EstateFault)
    → Stops e (outcome strict (shape.read (entry path i) d)) → with_front front (outcome strict (entries shape path i (item d ds))) ≡ total
    → Stops e total
ends stop.Memory strict shape path i d ds front total h so_far = tt
ends (stop.Fault f) strict shape path i d ds front total h so_far =
    sym so_far ∙ ap (with_front front) (outcome-entries strict shape path i d ds) ∙ failed front f _ (outcome strict (shape.read (entry path i) d)) h

pub is_done : {T : Type 0} (strict : Bool) (shape : Shape T) (path : List ℕ) (i : ℕ) (front : List T) (total : Result (List T) EstateFault)
    → with_front front (outcome strict (entries shape path i no_items)) ≡ total → total ≡ Ok front
unfolding entries outcome
is_done strict shape path i front total so_far = sym so_far ∙ ap Ok (append-nil front)
