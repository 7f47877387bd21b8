-- From texts at the front to whole texts.
use Rattle.std.proofs.Common.{ℕ, ◌≡◌, ◌∙◌, Bool, false, List, [], ◌∷◌, ◌++◌, length, sym, ap, append-nil, Option, Some, None}
use Rattle.std.specs.Prelude.{◌==◌}
use Rattle.dr_lab.specs.Fields.{Taken, NoneThere, Spells, SpellsNone, Means}

-- all bytes are the text that was taken
pub all_taken : {T : Type 0} {Is : T → Type 0} {text : T → List ℕ} {bytes rest : List ℕ} {x : T} → Taken Is text bytes x rest → rest ≡ [] → Spells Is text bytes x
all_taken {T} {Is} {text} {bytes} {rest} {x} t empty = record {
  is = t.is;
  whole = t.whole ∙ ap (λ (z : List ℕ). text x ++ z) empty ∙ append-nil (text x);
  only = λ y is e. (t.only y [] is (e ∙ sym (append-nil (text y)))).0;
}

-- bytes behind it are too many
pub more_left : {T : Type 0} {Is : T → Type 0} {text : T → List ℕ} {bytes rest : List ℕ} {x : T} → Taken Is text bytes x rest → (rest ≡ [] → ⊥) → SpellsNone Is text bytes
more_left {T} {Is} {text} t some = record { none = λ y is e. some (sym (t.only y [] is (e ∙ sym (append-nil (text y)))).1) }

-- and where none stands at the front none is there
pub none_taken : {T : Type 0} {Is : T → Type 0} {text : T → List ℕ} {bytes : List ℕ} → NoneThere Is text bytes → SpellsNone Is text bytes
none_taken {T} {Is} {text} t = record { none = λ y is e. t.none y [] is (e ∙ sym (append-nil (text y))) }

-- a list isn't empty by its test
pub is_some : (rest : List ℕ) (test : Bool) → test ≡ false → test ≡ (length rest == 0) → (rest ≡ [] → ⊥)
is_some [] test false_is is e = absurd (cc (false_is, is))
is_some (x ∷ rest) test false_is is e = absurd (cc e)

-- a text that is read gives its value again
pub means_again : {T : Type 0} (Is : T → Type 0) (text : T → List ℕ) (bytes : List ℕ) (result : Option T) → Means Is text bytes result → (x : T) → Is x → bytes ≡ text x → result ≡ Some x
means_again Is text bytes None m x is e = absurd (m.none x is e)
means_again Is text bytes (Some y) m x is e = ap (λ z. Some z) (sym (m.only x is e))

-- so does one at the front
pub taken_again : {T : Type 0} {Is : T → Type 0} {text : T → List ℕ} {bytes rest : List ℕ} {y : T} → Taken Is text bytes y rest → (x : T) → Is x → bytes ≡ text x → y ≡ x
taken_again {T} {Is} {text} t x is e = sym (t.only x [] is (e ∙ sym (append-nil (text x)))).0
