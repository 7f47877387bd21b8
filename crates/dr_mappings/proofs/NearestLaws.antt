-- Of maps that are looked at one after the other, the nearest so far is in the end the nearest of all.
use Rattle.std.proofs.Common.{◌≡◌, ◌∙◌, ℕ, ◌≤◌, Bool, true, false, ◌&&◌, cond, nat_le, nat_lt, List, [], ◌∷◌, length, fold, Some, None, refl, sym, ap, inl, inr, arith}
use Rattle.std.specs.List.{find, list_all}
use Rattle.std.proofs.lemmas.Bool.{and_right, cases_lt, cases_Bool}
use Rattle.dr_inventory.specs.declared.estate.MapRow.{MapRow}
use Rattle.dr_mappings.specs.Lookups.{nearest}
use Rattle.dr_mappings.specs.Searches.{nearer}

-- whether none of these maps leads from a longer folder
abbrev pub none_longer : List MapRow → MapRow → Bool
none_longer maps m = list_all (λ other. nat_le (length other.from) (length m.from)) maps

-- two tests that agree find the same
find_same : (p q : MapRow → Bool) → ((m : MapRow) → p m ≡ q m) → (maps : List MapRow) → find p maps ≡ find q maps
find_same p q same [] = refl
find_same p q same (m ∷ maps) = rw (same m) (ap (λ o. cond (q m) (Some m) o) (find_same p q same maps))

-- a bound that another bound implies
bound_implied : (a b : ℕ) → a ≤ b → (n : ℕ) (rest : Bool) → (nat_le a n && (nat_le b n && rest)) ≡ (nat_le b n && rest)
bound_implied a b within n rest = elim (cases_lt n b) [
  | inl below ↦ grind arith
  | inr above ↦ grind arith
]

swap_bounds : (x y z : Bool) → (x && (y && z)) ≡ (y && (x && z))
swap_bounds true true z = refl
swap_bounds true false z = refl
swap_bounds false true z = refl
swap_bounds false false z = refl

-- where the first map isn't the nearest, one from no longer a folder isn't either
second_fails : (m x : MapRow) (maps : List MapRow) → length x.from ≤ length m.from → none_longer maps m ≡ false → (nat_le (length m.from) (length x.from) && (nat_le (length x.from) (length x.from) && none_longer maps x)) ≡ false
second_fails m x maps within fails = elim (cases_lt (length x.from) (length m.from)) [
  | inl below ↦ let none : nat_le (length m.from) (length x.from) ≡ false = grind arith in rw none refl
  | inr above ↦
      let long : length x.from ≡ length m.from = omega arith in
      let also : none_longer maps x ≡ false = ap (λ n. list_all (λ other. nat_le (length other.from) n) maps) long ∙ fails in
      rw also (and_right (nat_le (length m.from) (length x.from)) _ (and_right (nat_le (length x.from) (length x.from)) false refl))
]

-- a second map that leads from no longer a folder than the first changes nothing
second_shorter : (m x : MapRow) (maps : List MapRow) → length x.from ≤ length m.from → nearest (m ∷ maps) ≡ nearest (m ∷ x ∷ maps)
second_shorter m x maps within =
    let itself : nat_le (length m.from) (length m.from) ≡ true = grind arith in
    let shorter : nat_le (length x.from) (length m.from) ≡ true = grind (arith, within) in
    let same : (o : MapRow) → none_longer (m ∷ maps) o ≡ none_longer (m ∷ x ∷ maps) o
    = λ o. sym (swap_bounds (nat_le (length m.from) (length o.from)) (nat_le (length x.from) (length o.from)) (none_longer maps o) ∙ bound_implied (length x.from) (length m.from) within (length o.from) (none_longer maps o)) in
    elim (cases_Bool (none_longer maps m)) [
      | inl longest ↦ rw (itself, shorter, longest) refl
      | inr fails ↦
          let second = second_fails m x maps within fails in
          rw (itself, shorter, fails, second) (find_same (none_longer (m ∷ maps)) (none_longer (m ∷ x ∷ maps)) same maps)
    ]

-- the nearest of a map and those after it
fold_nearest : (m : MapRow) (maps : List MapRow) → fold nearer (Some m) maps ≡ nearest (m ∷ maps)
fold_nearest m [] = let itself : nat_le (length m.from) (length m.from) ≡ true = grind arith in rw itself refl
fold_nearest m (x ∷ maps) = elim (cases_Bool (nat_lt (length m.from) (length x.from))) [
  | inl longer ↦ skip_first m x maps longer (fold_nearest x maps)
  | inr not_longer ↦ skip_second m x maps not_longer (fold_nearest m maps)
]
  where
    -- the second map leads from a longer folder than the first
    skip_first : (m x : MapRow) (maps : List MapRow) → nat_lt (length m.from) (length x.from) ≡ true → fold nearer (Some x) maps ≡ nearest (x ∷ maps) → fold nearer (Some m) (x ∷ maps) ≡ nearest (m ∷ x ∷ maps)
    skip_first m x maps longer rest =
        let shorter : nat_le (length x.from) (length m.from) ≡ false = grind (arith, longer) in
        let both : nat_le (length m.from) (length m.from) && (nat_le (length x.from) (length m.from) && none_longer maps m) ≡ false = rw shorter (grind arith) in
        let within : length m.from ≤ length x.from = grind (arith, longer) in
        rw (longer, both) (rest ∙ find_same (none_longer (x ∷ maps)) (none_longer (m ∷ x ∷ maps)) (λ o. sym (bound_implied (length m.from) (length x.from) within (length o.from) (none_longer maps o))) (x ∷ maps))

    -- the second map leads from no longer folder than the first
    skip_second : (m x : MapRow) (maps : List MapRow) → nat_lt (length m.from) (length x.from) ≡ false → fold nearer (Some m) maps ≡ nearest (m ∷ maps) → fold nearer (Some m) (x ∷ maps) ≡ nearest (m ∷ x ∷ maps)
    skip_second m x maps not_longer rest =
        let within : length x.from ≤ length m.from = grind (arith, not_longer) in
        rw not_longer (rest ∙ second_shorter m x maps within)

pub fold_all : (maps : List MapRow) → fold nearer None maps ≡ nearest maps
fold_all [] = refl
fold_all (m ∷ maps) = fold_nearest m maps

-- of some maps one is the nearest
fold_some : (m : MapRow) (maps : List MapRow) → ¬ (fold nearer (Some m) maps ≡ None)
fold_some m [] none = cc
fold_some m (x ∷ maps) none = elim (cases_Bool (nat_lt (length m.from) (length x.from))) [
  | inl longer ↦ fold_some x maps (rw longer at none)
  | inr not_longer ↦ fold_some m maps (rw not_longer at none)
]

pub nearest_of_some : (m : MapRow) (maps : List MapRow) → ¬ (nearest (m ∷ maps) ≡ None)
nearest_of_some m maps none = fold_some m maps (fold_nearest m maps ∙ none)
