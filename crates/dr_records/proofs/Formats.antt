-- How readers of texts are joined. A reader is exact for a relation of values and their texts where
-- it takes a text off the front, gives the value of each text again, and stops at the first place
-- where no text goes on.
use Rattle.std.proofs.Common.{◌≡◌, ℕ, suc, ◌<◌, List, [], ◌∷◌, ◌++◌, length, get_or, Result, Ok, Err, refl, sym, ap, subst, ◌∙◌, append_assoc, inl, inr, ◌⊎◌}
use Rattle.dr_records.specs.Reading.{◌>>=◌}

abbrev pub IsBytes : List ℕ → Type 0
IsBytes bytes = (i : ℕ) → get_or bytes i 0 < 256

pub IsBytes-behind : (a b : List ℕ) → IsBytes (a ++ b) → IsBytes b
IsBytes-behind [] b h = h
IsBytes-behind (x ∷ a) b h = IsBytes-behind a b (λ i. h (suc i))

-- the bytes split at the first place where no text goes on, with so many bytes left
pub record Stuck {A : Type 0} (Is : A → List ℕ → Type 0) (bytes : List ℕ) (left : ℕ) : Type 0 where
  pub front : List ℕ
  pub back : List ℕ
  pub whole : bytes ≡ front ++ back
  pub count : length back ≡ left
  pub begins : (x : A) × (text : List ℕ) × (rest : List ℕ) × Is x text × (text ≡ front ++ rest)
  pub stops : (b : ℕ) (more : List ℕ) → back ≡ b ∷ more → (x : A) (text rest : List ℕ) → Is x text → text ≡ front ++ b ∷ rest → ⊥

-- a reader is exact for the values and texts of this relation
pub record Reads {A : Type 0} (Is : A → List ℕ → Type 0) (read : List ℕ → Result (A × List ℕ) ℕ) : Type 0 where
  pub sample : (x : A) × (text : List ℕ) × Is x text
  pub takes : (bytes : List ℕ) (x : A) (rest : List ℕ) → IsBytes bytes → read bytes ≡ Ok (x, rest) → (text : List ℕ) × Is x text × (bytes ≡ text ++ rest)
  pub again : (x : A) (text rest : List ℕ) → Is x text → read (text ++ rest) ≡ Ok (x, rest)
  pub stuck : (bytes : List ℕ) (left : ℕ) → IsBytes bytes → read bytes ≡ Err left → Stuck Is bytes left

-- a first text, and behind it one that goes with its value
pub record Then {A C : Type 0} (IsA : A → List ℕ → Type 0) (IsC : A → C → List ℕ → Type 0) (c : C) (text : List ℕ) : Type 0 where
  pub first : A
  pub head : List ℕ
  pub tail : List ℕ
  pub is_first : IsA first head
  pub is_rest : IsC first c tail
  pub parts : text ≡ head ++ tail

-- a value that is made of the value of the text
pub record Made {A C : Type 0} (IsA : A → List ℕ → Type 0) (make : A → C) (c : C) (text : List ℕ) : Type 0 where
  pub from : A
  pub is_from : IsA from text
  pub made : c ≡ make from

abbrev pub ok : {A : Type 0} → A → Result A ℕ
ok x = Ok x

pub ok_is : {A : Type 0} (x y : A) → ok x ≡ ok y → x ≡ y
ok_is x y e = cc

-- the value of a step that did not fail
pub bind_ok : {A B : Type 0} (r : Result A ℕ) (f : A → Result B ℕ) (y : B) → (r >>= f) ≡ Ok y → (x : A) × (r ≡ Ok x) × (f x ≡ Ok y)
bind_ok (Ok x) f y e = (x, refl, e)
bind_ok (Err left) f y e = absurd cc

-- of two fronts of one list, one begins the other
longer : (a b c : List ℕ) (d : ℕ) (e : List ℕ) → a ++ b ≡ c ++ d ∷ e → ((r : List ℕ) × (a ≡ c ++ d ∷ r)) ⊎ ((r : List ℕ) × (c ≡ a ++ r))
longer [] b c d e h = inr (c, refl)
longer (x ∷ a) b [] d e h = inl (a, cc)
longer (x ∷ a) b (y ∷ c) d e h =
    let rest : a ++ b ≡ c ++ d ∷ e = cc in
    let same : x ≡ y = cc in
    elim (longer a b c d e rest) [
      | inl p ↦ inl (p.0, cc (p.1, same))
      | inr p ↦ inr (p.0, cc (p.1, same))
    ]

first_stuck : {A C : Type 0} (IsA : A → List ℕ → Type 0) (IsC : A → C → List ℕ → Type 0) (one : List ℕ → Result (A × List ℕ) ℕ) (next : A → List ℕ → Result (C × List ℕ) ℕ) → Reads IsA one → ((x : A) (text : List ℕ) → IsA x text → Reads (IsC x) (next x)) → (bytes : List ℕ) (left : ℕ) → IsBytes bytes → one bytes ≡ Err left → Stuck (Then IsA IsC) bytes left
first_stuck IsA IsC one next ra rc bytes left fits e =
    let s = ra.stuck bytes left fits e in
    let b = s.begins in
    let n = (rc b.0 b.1 b.3).sample in
    record {
      front = s.front;
      back = s.back;
      whole = s.whole;
      count = s.count;
      begins = (n.0, b.1 ++ n.1, b.2 ++ n.1, record { first = b.0; head = b.1; tail = n.1; is_first = b.3; is_rest = n.2; parts = refl }, ap (λ (z : List ℕ). z ++ n.1) b.4 ∙ append_assoc s.front b.2 n.1);
      stops = λ d more at c text rest th f.
          elim (longer th.head th.tail s.front d rest (sym th.parts ∙ f)) [
            | inl p ↦ s.stops d more at th.first th.head p.0 th.is_first p.1
            | inr p ↦
                let whole : bytes ≡ th.head ++ (p.0 ++ s.back) = s.whole ∙ ap (λ (z : List ℕ). z ++ s.back) p.1 ∙ append_assoc th.head p.0 s.back in
                let found = ap one whole ∙ ra.again th.first th.head (p.0 ++ s.back) th.is_first in
                absurd (cc (found, e))
          ];
    }

next_stuck : {A C : Type 0} (IsA : A → List ℕ → Type 0) (IsC : A → C → List ℕ → Type 0) (one : List ℕ → Result (A × List ℕ) ℕ) (next : A → List ℕ → Result (C × List ℕ) ℕ) → Reads IsA one → ((x : A) (text : List ℕ) → IsA x text → Reads (IsC x) (next x)) → (bytes : List ℕ) (left : ℕ) → IsBytes bytes → (x : A) (after : List ℕ) → one bytes ≡ Ok (x, after) → next x after ≡ Err left → Stuck (Then IsA IsC) bytes left
next_stuck {A} {C} IsA IsC one next ra rc bytes left fits x after e f =
    let t = ra.takes bytes x after fits e in
    let s = (rc x t.0 t.1).stuck after left (IsBytes-behind t.0 after (subst IsBytes t.2 fits)) f in
    let b = s.begins in
    record {
      front = t.0 ++ s.front;
      back = s.back;
      whole = t.2 ∙ ap (λ (z : List ℕ). t.0 ++ z) s.whole ∙ sym (append_assoc t.0 s.front s.back);
      count = s.count;
      begins = (b.0, t.0 ++ b.1, b.2, record { first = x; head = t.0; tail = b.1; is_first = t.1; is_rest = b.3; parts = refl }, ap (λ (z : List ℕ). t.0 ++ z) b.4 ∙ sym (append_assoc t.0 s.front b.2));
      stops = λ d more at c text rest th g.
          let same : th.head ++ th.tail ≡ t.0 ++ (s.front ++ d ∷ rest) = sym th.parts ∙ g ∙ append_assoc t.0 s.front (d ∷ rest) in
          let found : A × List ℕ = (th.first, th.tail) in
          let given : A × List ℕ = (x, s.front ++ d ∷ rest) in
          let pair : found ≡ given = ok_is found given (sym (ra.again th.first th.head th.tail th.is_first) ∙ ap one same ∙ ra.again x t.0 (s.front ++ d ∷ rest) t.1) in
          s.stops d more at c th.tail rest (subst (λ (y : A). IsC y c th.tail) (ap (λ (p : A × List ℕ). p.0) pair) th.is_rest) (ap (λ (p : A × List ℕ). p.1) pair);
    }

either_stuck : {A C : Type 0} (IsA : A → List ℕ → Type 0) (IsC : A → C → List ℕ → Type 0) (one : List ℕ → Result (A × List ℕ) ℕ) (next : A → List ℕ → Result (C × List ℕ) ℕ) → Reads IsA one → ((x : A) (text : List ℕ) → IsA x text → Reads (IsC x) (next x)) → (bytes : List ℕ) (left : ℕ) → IsBytes bytes → (r : Result (A × List ℕ) ℕ) → one bytes ≡ r → (r >>= λ p. next p.0 p.1) ≡ Err left → Stuck (Then IsA IsC) bytes left
either_stuck IsA IsC one next ra rc bytes left fits (Ok p) e f = next_stuck IsA IsC one next ra rc bytes left fits p.0 p.1 e f
either_stuck IsA IsC one next ra rc bytes left fits (Err n) e f = let same : n ≡ left = cc in first_stuck IsA IsC one next ra rc bytes left fits (e ∙ ap (λ (k : ℕ). Err k) same)

-- one reader after the other
pub then : {A C : Type 0} {IsA : A → List ℕ → Type 0} {IsC : A → C → List ℕ → Type 0} {one : List ℕ → Result (A × List ℕ) ℕ} {next : A → List ℕ → Result (C × List ℕ) ℕ} → Reads IsA one → ((x : A) (text : List ℕ) → IsA x text → Reads (IsC x) (next x)) → Reads (Then IsA IsC) (λ bytes. one bytes >>= λ p. next p.0 p.1)
then {A} {C} {IsA} {IsC} {one} {next} ra rc = record {
  sample = let a = ra.sample in let n = (rc a.0 a.1 a.2).sample in (n.0, a.1 ++ n.1, record { first = a.0; head = a.1; tail = n.1; is_first = a.2; is_rest = n.2; parts = refl });
  takes = λ bytes c rest fits e.
      let b = bind_ok (one bytes) (λ p. next p.0 p.1) (c, rest) e in
      let t = ra.takes bytes b.0.0 b.0.1 fits b.1 in
      let s = (rc b.0.0 t.0 t.1).takes b.0.1 c rest (IsBytes-behind t.0 b.0.1 (subst IsBytes t.2 fits)) b.2 in
      (t.0 ++ s.0, record { first = b.0.0; head = t.0; tail = s.0; is_first = t.1; is_rest = s.1; parts = refl }, t.2 ∙ ap (λ (z : List ℕ). t.0 ++ z) s.2 ∙ sym (append_assoc t.0 s.0 rest));
  again = λ c text rest th.
      let found : one (text ++ rest) ≡ Ok (th.first, th.tail ++ rest) = ap (λ (z : List ℕ). one (z ++ rest)) th.parts ∙ ap one (append_assoc th.head th.tail rest) ∙ ra.again th.first th.head (th.tail ++ rest) th.is_first in
      ap (λ r. r >>= λ p. next p.0 p.1) found ∙ (rc th.first th.head th.is_first).again c th.tail rest th.is_rest;
  stuck = λ bytes left fits e. either_stuck IsA IsC one next ra rc bytes left fits (one bytes) refl e;
}

-- a value that is made of the one that was read
abbrev pub remade : {A C : Type 0} → (A → C) → A × List ℕ → Result (C × List ℕ) ℕ
remade make p = Ok (make p.0, p.1)

made_stuck : {A C : Type 0} (IsA : A → List ℕ → Type 0) (make : A → C) (one : List ℕ → Result (A × List ℕ) ℕ) → Reads IsA one → (bytes : List ℕ) (left : ℕ) → IsBytes bytes → (r : Result (A × List ℕ) ℕ) → one bytes ≡ r → (r >>= λ p. remade make p) ≡ Err left → Stuck (Made IsA make) bytes left
made_stuck IsA make one ra bytes left fits (Ok p) e f = absurd cc
made_stuck IsA make one ra bytes left fits (Err n) e f =
    let same : n ≡ left = cc in
    let s = ra.stuck bytes left fits (e ∙ ap (λ (k : ℕ). Err k) same) in
    let b = s.begins in
    record {
      front = s.front;
      back = s.back;
      whole = s.whole;
      count = s.count;
      begins = (make b.0, b.1, b.2, record { from = b.0; is_from = b.3; made = refl }, b.4);
      stops = λ d more at c text rest m g. s.stops d more at m.from text rest m.is_from g;
    }

-- a reader whose value goes into another
pub makes : {A C : Type 0} {IsA : A → List ℕ → Type 0} (make : A → C) {one : List ℕ → Result (A × List ℕ) ℕ} → Reads IsA one → Reads (Made IsA make) (λ bytes. one bytes >>= λ p. remade make p)
makes {A} {C} {IsA} make {one} ra = record {
  sample = let a = ra.sample in (make a.0, a.1, record { from = a.0; is_from = a.2; made = refl });
  takes = λ bytes c rest fits e.
      let b = bind_ok (one bytes) (λ p. remade make p) (c, rest) e in
      let t = ra.takes bytes b.0.0 b.0.1 fits b.1 in
      let made : C × List ℕ = (make b.0.0, b.0.1) in
      let given : C × List ℕ = (c, rest) in
      let pair : made ≡ given = ok_is made given b.2 in
      (t.0, record { from = b.0.0; is_from = t.1; made = sym (ap (λ (p : C × List ℕ). p.0) pair) }, t.2 ∙ ap (λ (p : C × List ℕ). t.0 ++ p.1) pair);
  again = λ c text rest m. ap (λ r. r >>= λ p. remade make p) (ra.again m.from text rest m.is_from) ∙ ap (λ (x : C). remade (λ (y : C). y) (x, rest)) (sym m.made);
  stuck = λ bytes left fits e. made_stuck IsA make one ra bytes left fits (one bytes) refl e;
}

-- the same reader for a relation that says the same
pub alike : {A : Type 0} (Is Also : A → List ℕ → Type 0) (read : List ℕ → Result (A × List ℕ) ℕ) → ((x : A) (text : List ℕ) → Is x text → Also x text) → ((x : A) (text : List ℕ) → Also x text → Is x text) → Reads Is read → Reads Also read
alike Is Also read to of r = record {
  sample = let s = r.sample in (s.0, s.1, to s.0 s.1 s.2);
  takes = λ bytes x rest fits e. let t = r.takes bytes x rest fits e in (t.0, to x t.0 t.1, t.2);
  again = λ x text rest a. r.again x text rest (of x text a);
  stuck = λ bytes left fits e.
      let s = r.stuck bytes left fits e in
      let b = s.begins in
      record {
        front = s.front;
        back = s.back;
        whole = s.whole;
        count = s.count;
        begins = (b.0, b.1, b.2, to b.0 b.1 b.3, b.4);
        stops = λ d more at x text rest a g. s.stops d more at x text rest (of x text a) g;
      };
}
