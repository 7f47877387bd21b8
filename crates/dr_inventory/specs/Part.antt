-- A part of a document: all that is wrong with it, in the order of the walk, and its value, which is meant only where nothing is wrong.
use Rattle.std.specs.Prelude.{◌≡◌, Bool, true, false, ◌||◌, List, [], ◌∷◌, ◌++◌, Result, Ok, Err}
use Rattle.std.specs.List.{filter}
use Rattle.dr_base.specs.declared.estate_fault.EstateFault.{EstateFault}
use Rattle.dr_base.specs.declared.estate_fault.EstateFault.TheVariants.{Key}
use Rattle.dr_base.specs.declared.stop.Stop.{Stop}
use Rattle.dr_base.specs.declared.stop.Stop.TheVariants as stop

-- what is wrong with a part, in the order of the walk, and what it stands for
pub record Part (T : Type 0) : Type 0 where
  pub faults : List EstateFault
  pub value : T

-- a part with nothing wrong
abbrev pub found : {T : Type 0} → T → Part T
found x = record { faults = []; value = x }

-- a part with one fault, and a value that stands in for the one that is missing
abbrev pub wrong : {T : Type 0} → EstateFault → T → Part T
wrong f x = record { faults = f ∷ []; value = x }

-- two parts one after the other: the faults of the first, then those of the second
infixl 10 ◌>>=◌
unfoldable pub ◌>>=◌ : {A B : Type 0} → Part A → (A → Part B) → Part B
p >>= f = record { faults = p.faults ++ (f p.value).faults; value = (f p.value).value }

-- whether a fault is one of keys and types, which come before each fault of a name
abbrev pub is_of_shape : EstateFault → Bool
is_of_shape (Key path) = true
is_of_shape _ = false

-- the faults that a reading looks at: all of them if it is strict, else those of keys and types alone
abbrev pub seen : Bool → List EstateFault → List EstateFault
seen strict fs = filter (λ f. is_of_shape f || strict) fs

-- the first of these faults, or this value where there is none
abbrev pub first_or : {T : Type 0} → List EstateFault → T → Result T EstateFault
first_or [] x = Ok x
first_or (f ∷ fs) x = Err f

-- what a reading of a part comes to: the first fault that it looks at, or the value
unfoldable pub outcome : {T : Type 0} → Bool → Part T → Result T EstateFault
outcome strict p = first_or (seen strict p.faults) p.value

-- why a part wasn't read
abbrev pub ReadError : Type 0
ReadError = Stop EstateFault

-- a reading stopped for this reason: this is the fault, or memory ran out
abbrev pub Stops : {Y : Type 0} → ReadError → Result Y EstateFault → Type 0
Stops stop.Memory r = Unit {0}
Stops (stop.Fault f) r = r ≡ Err f

-- what a reading returned is the first fault or the value, unless memory ran out
abbrev pub Gives : {T : Type 0} → Bool → Result T ReadError → Part T → Type 0
Gives strict (Ok x) p = outcome strict p ≡ Ok x
Gives strict (Err e) p = Stops e (outcome strict p)

-- the reason is this fault, or want of memory
abbrev pub IsFault : EstateFault → ReadError → Type 0
IsFault f stop.Memory = Unit {0}
IsFault f (stop.Fault g) = g ≡ f

-- what a call returned is this, unless memory ran out
abbrev pub IsUnlessMemory : {T : Type 0} → Result T ReadError → Result T EstateFault → Type 0
IsUnlessMemory (Ok x) r = r ≡ Ok x
IsUnlessMemory (Err e) r = Stops e r
