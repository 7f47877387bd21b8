-- Values in texts: one field after the other.
use Rattle.std.specs.Prelude.{ℕ, ◌≡◌, ◌≢◌, ◌==◌, Bool, not, if◌then◌else◌, List, [], ◌∷◌, ◌++◌, Option, Some, None}
use Rattle.std.specs.List.{list_all}

-- whether no byte is `end`
abbrev pub is_free : ℕ → List ℕ → Bool
is_free end word = list_all (λ b. not (b == end)) word

-- a word behind what names it, and its end
abbrev pub field : List ℕ → ℕ → List ℕ → List ℕ
field front end word = front ++ (word ++ end ∷ [])

-- one of two words
abbrev pub either_word : List ℕ → List ℕ → Bool → List ℕ
either_word one other b = if b then one else other

-- the text of x was taken off the front, and no other value's text stands there
pub record Taken {T : Type 0} (Is : T → Type 0) (text : T → List ℕ) (bytes : List ℕ) (x : T) (rest : List ℕ) : Type 0 where
  pub is : Is x
  pub whole : bytes ≡ text x ++ rest
  pub only : (y : T) (more : List ℕ) → Is y → bytes ≡ text y ++ more → (y ≡ x) × (more ≡ rest)

-- no value's text stands at the front
pub record NoneThere {T : Type 0} (Is : T → Type 0) (text : T → List ℕ) (bytes : List ℕ) : Type 0 where
  pub none : (y : T) (more : List ℕ) → Is y → bytes ≢ text y ++ more

-- what a reader takes off the front: the value whose text stands there, and the bytes behind it
abbrev pub Reads : {T : Type 0} → (T → Type 0) → (T → List ℕ) → List ℕ → Option (T × List ℕ) → Type 0
Reads Is text bytes None = NoneThere Is text bytes
Reads Is text bytes (Some p) = Taken Is text bytes p.0 p.1

-- bytes are the text of x, and of no other value
pub record Spells {T : Type 0} (Is : T → Type 0) (text : T → List ℕ) (bytes : List ℕ) (x : T) : Type 0 where
  pub is : Is x
  pub whole : bytes ≡ text x
  pub only : (y : T) → Is y → bytes ≡ text y → y ≡ x

-- bytes are no value's text
pub record SpellsNone {T : Type 0} (Is : T → Type 0) (text : T → List ℕ) (bytes : List ℕ) : Type 0 where
  pub none : (y : T) → Is y → bytes ≢ text y

-- what a reader makes of all bytes: the value whose text they are
abbrev pub Means : {T : Type 0} → (T → Type 0) → (T → List ℕ) → List ℕ → Option T → Type 0
Means Is text bytes None = SpellsNone Is text bytes
Means Is text bytes (Some x) = Spells Is text bytes x
