-- How readers of fields are joined.
use Rattle.std.proofs.Common.{ℕ, ◌≡◌, ◌∙◌, List, ◌++◌, sym, ap, append_assoc}
use Rattle.std.specs.Prelude.{⊤}
use Rattle.dr_lab.specs.Fields.{Taken, NoneThere}

-- any value
abbrev pub Any : {T : Type 0} → T → Type 0
Any x = ⊤

-- both values are such
abbrev pub Both : {A B : Type 0} → (A → Type 0) → (B → Type 0) → A × B → Type 0
Both IsA IsB p = IsA p.0 × IsB p.1

-- one text after the other
abbrev pub both_text : {A B : Type 0} → (A → List ℕ) → (B → List ℕ) → A × B → List ℕ
both_text ta tb p = ta p.0 ++ tb p.1

-- the second value stands behind the first
pub joined : {A B : Type 0} {IsA : A → Type 0} {IsB : B → Type 0} {ta : A → List ℕ} {tb : B → List ℕ} {bytes mid rest : List ℕ} {a : A} {b : B} → Taken IsA ta bytes a mid → Taken IsB tb mid b rest → Taken (Both IsA IsB) (both_text ta tb) bytes (a, b) rest
joined {A} {B} {IsA} {IsB} {ta} {tb} {bytes} {mid} {rest} {a} {b} first second = record {
  is = (first.is, second.is);
  whole = first.whole ∙ ap (λ (z : List ℕ). ta a ++ z) second.whole ∙ sym (append_assoc (ta a) (tb b) rest);
  only = λ y more is e.
      let one = first.only y.0 (tb y.1 ++ more) is.0 (e ∙ append_assoc (ta y.0) (tb y.1) more) in
      let two = second.only y.1 more is.1 (sym one.1) in
      ((λ i. (one.0 i, two.0 i)), two.1);
}

-- none where the first isn't there
pub first_none : {A B : Type 0} {IsA : A → Type 0} {ta : A → List ℕ} (IsB : B → Type 0) (tb : B → List ℕ) {bytes : List ℕ} → NoneThere IsA ta bytes → NoneThere (Both IsA IsB) (both_text ta tb) bytes
first_none {A} {B} {IsA} {ta} IsB tb first = record { none = λ y more is e. first.none y.0 (tb y.1 ++ more) is.0 (e ∙ append_assoc (ta y.0) (tb y.1) more) }

-- none where the second isn't there
pub second_none : {A B : Type 0} {IsA : A → Type 0} {IsB : B → Type 0} {ta : A → List ℕ} {tb : B → List ℕ} {bytes mid : List ℕ} {a : A} → Taken IsA ta bytes a mid → NoneThere IsB tb mid → NoneThere (Both IsA IsB) (both_text ta tb) bytes
second_none {A} {B} {IsA} {IsB} {ta} {tb} first second = record {
  none = λ y more is e.
      let one = first.only y.0 (tb y.1 ++ more) is.0 (e ∙ append_assoc (ta y.0) (tb y.1) more) in
      second.none y.1 more is.1 (sym one.1);
}

-- a value that is made of the one that was read
pub remade : {A C : Type 0} {IsA : A → Type 0} {ta : A → List ℕ} (IsC : C → Type 0) (tc : C → List ℕ) (make : A → C) (parts : C → A) → ((a : A) → IsA a → IsC (make a)) → ((c : C) → IsC c → IsA (parts c)) → ((c : C) → IsC c → make (parts c) ≡ c) → ((a : A) → IsA a → tc (make a) ≡ ta a) → {bytes rest : List ℕ} {a : A} → Taken IsA ta bytes a rest → Taken IsC tc bytes (make a) rest
remade {A} {C} {IsA} {ta} IsC tc make parts is of again same {bytes} {rest} {a} taken = record {
  is = is a taken.is;
  whole = taken.whole ∙ ap (λ (z : List ℕ). z ++ rest) (sym (same a taken.is));
  only = λ y more is_y e.
      let shown : tc y ≡ ta (parts y) = ap tc (sym (again y is_y)) ∙ same (parts y) (of y is_y) in
      let found = taken.only (parts y) more (of y is_y) (e ∙ ap (λ (z : List ℕ). z ++ more) shown) in
      (sym (again y is_y) ∙ ap make found.0, found.1);
}

-- and none where there is none
pub remade_none : {A C : Type 0} {IsA : A → Type 0} {ta : A → List ℕ} (IsC : C → Type 0) (tc : C → List ℕ) (parts : C → A) → ((c : C) → IsC c → IsA (parts c)) → ((c : C) → IsC c → tc c ≡ ta (parts c)) → {bytes : List ℕ} → NoneThere IsA ta bytes → NoneThere IsC tc bytes
remade_none {A} {C} {IsA} {ta} IsC tc parts of same taken = record {
  none = λ y more is e. taken.none (parts y) more (of y is) (e ∙ ap (λ (z : List ℕ). z ++ more) (same y is));
}
