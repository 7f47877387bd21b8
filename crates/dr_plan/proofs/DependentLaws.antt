-- Rows of dependents, one dependency more at a time.
use Rattle.std.proofs.Common.{◌≡◌, ◌↔◌, ◌∙◌, ◌+◌, ◌<◌, ◌≤◌, ◌⊎◌, ℕ, List, [], ◌∷◌, ◌++◌, length, get_or, set, map, inl, inr, refl, sym, ap, subst, arith, length-set, get_or-set_same, get_or-set_other}
use Rattle.std.specs.List.{Contains, All}
use Rattle.std.proofs.lemmas.Bool.{cases_eq, cases_lt}
use Rattle.std.proofs.lemmas.List.{get_or_default, get_or-map, map-set}
use Rattle.std.proofs.lemmas.Option.{slice_get_within, get_or_from_slice_get}
use Rattle.std.proofs.lemmas.List.Elements.{All-contains, All-map, Contains-append_left, Contains-push, Contains-push_cases}
use Rattle.dr_groups.proofs.RowLaws.{row_found, found_contained}
use Rattle.dr_plan.specs.Cycles.{DependsOn}
use Rattle.dr_plan.proofs.ChainLaws.{contains-nothing}

-- dependencies by their rows
pub depends-from : (g : List (List ℕ)) (a b : ℕ) → a < length g → Contains (get_or g a []) b → DependsOn g a b
depends-from g a b within listed = record {
  row = get_or g a [];
  found = row_found g g a (get_or g a []) refl within (get_or_default g a [] (get_or g a []) within);
  named = listed;
}

pub depends-to : (g : List (List ℕ)) (a b : ℕ) → DependsOn g a b → Contains (get_or g a []) b
depends-to g a b d = let P : List ℕ → Type 0 = λ xs. Contains xs b in subst P (sym (get_or_from_slice_get g a d.row [] d.found)) d.named

-- one row with a number more, in rows that are seen as lists
pub rows-push : {X : Type 0} (f : X → List ℕ) (rows : List X) (d m : ℕ) (x y : X) → d < length rows → x ≡ get_or rows d x → f y ≡ f x ++ m ∷ []
    → map f (set rows d y) ≡ set (map f rows) d (get_or (map f rows) d [] ++ m ∷ [])
rows-push f rows d m x y within read pushed =
    map-set f rows d y ∙ ap (set (map f rows) d) (pushed ∙ ap (λ xs. xs ++ m ∷ []) (ap f read ∙ sym (get_or-map f rows d x [] within)))

-- a number more in one row
pub depends-push : (g new : List (List ℕ)) (d m : ℕ) → d < length g → new ≡ set g d (get_or g d [] ++ m ∷ []) → (a b : ℕ) → DependsOn new a b ↔ (DependsOn g a b ⊎ ((a ≡ d) × (b ≡ m)))
depends-push g new d m within same a b =
    let row : List ℕ = get_or g d [] ++ m ∷ [] in
    let long : length (set g d row) ≡ length g = length-set g d row in
    let P : List ℕ → Type 0 = λ xs. Contains xs b in
    let N : List (List ℕ) → Type 0 = λ xs. DependsOn xs a b in
    let D : ℕ → Type 0 = λ n. DependsOn g n b in
    let here : get_or (set g d row) d [] ≡ row = get_or-set_same g d row [] within in
    let At : ℕ → Type 0 = λ n. Contains (get_or (set g d row) n []) b in (
      λ dep.
          let old : DependsOn (set g d row) a b = subst N same dep in
          let listed = depends-to (set g d row) a b old in
          elim (cases_eq a d) [
            | inl is_d ↦ elim (Contains-push_cases (get_or g d []) m b (subst P here (subst At is_d listed))) [
              | inl before ↦ inl (subst D (sym is_d) (depends-from g d b within before))
              | inr is_m ↦ inr (is_d, sym is_m)
            ]
            | inr apart ↦ inl (depends-from g a b (omega (arith, slice_get_within (set g d row) a old.row old.found, long)) (subst P (get_or-set_other g d a row [] apart) listed))
          ],
      λ either. subst N (sym same) (elim either [
        | inl dep ↦
            let lower : a < length (set g d row) = omega (arith, slice_get_within g a dep.row dep.found, long) in
            depends-from (set g d row) a b lower (elim (cases_eq a d) [
              | inl is_d ↦ subst At (sym is_d) (subst P (sym here) (Contains-append_left (get_or g d []) (m ∷ []) b (depends-to g d b (subst D is_d dep))))
              | inr apart ↦ subst P (sym (get_or-set_other g d a row [] apart)) (depends-to g a b dep)
            ])
        | inr last ↦
            let lower : a < length (set g d row) = omega (arith, long, last.0, within) in
            let Q : ℕ → Type 0 = λ n. Contains row n in
            depends-from (set g d row) a b lower (subst At (sym last.0) (subst P (sym here) (subst Q (sym last.1) (Contains-push (get_or g d []) m))))
      ]),
    )

-- one dependency more of one machine
pub noted-more : (g0 g1 g2 : List (List ℕ)) (ds more : List ℕ) (d m : ℕ) → more ≡ ds ++ d ∷ [] → ((a b : ℕ) → DependsOn g1 a b ↔ (DependsOn g0 a b ⊎ (Contains ds a × (b ≡ m))))
    → ((a b : ℕ) → DependsOn g2 a b ↔ (DependsOn g1 a b ⊎ ((a ≡ d) × (b ≡ m)))) → (a b : ℕ) → DependsOn g2 a b ↔ (DependsOn g0 a b ⊎ (Contains more a × (b ≡ m)))
noted-more g0 g1 g2 ds more d m same p q a b =
    let P : List ℕ → Type 0 = λ xs. Contains xs a in
    let Q : ℕ → Type 0 = λ n. Contains (ds ++ d ∷ []) n in (
      λ dep. elim ((q a b).0 dep) [
        | inl before ↦ elim ((p a b).0 before) [
          | inl first ↦ inl first
          | inr listed ↦ inr (subst P (sym same) (Contains-append_left ds (d ∷ []) a listed.0), listed.1)
        ]
        | inr last ↦ inr (subst P (sym same) (subst Q (sym last.0) (Contains-push ds d)), last.1)
      ],
      λ either. (q a b).1 (elim either [
        | inl first ↦ inl ((p a b).1 (inl first))
        | inr listed ↦ elim (Contains-push_cases ds d a (subst P same listed.0)) [
          | inl before ↦ inl ((p a b).1 (inr (before, listed.1)))
          | inr last ↦ inr (sym last, listed.1)
        ]
      ]),
    )

pub noted-none : (g : List (List ℕ)) (ds : List ℕ) (m : ℕ) → ds ≡ [] → (a b : ℕ) → DependsOn g a b ↔ (DependsOn g a b ⊎ (Contains ds a × (b ≡ m)))
noted-none g ds m none a b =
    let P : List ℕ → Type 0 = λ xs. Contains xs a in (
      λ dep. inl dep,
      λ either. elim either [ inl dep ↦ dep | inr listed ↦ absurd (contains-nothing a (subst P none listed.0)) ],
    )

-- the dependencies of one machine more
pub turned-more : (g old new : List (List ℕ)) (ds : List ℕ) (i : ℕ) → ((d : ℕ) → Contains ds d ↔ DependsOn g i d) → ((a b : ℕ) → DependsOn old a b ↔ ((b < i) × DependsOn g b a))
    → ((a b : ℕ) → DependsOn new a b ↔ (DependsOn old a b ⊎ (Contains ds a × (b ≡ i)))) → (a b : ℕ) → DependsOn new a b ↔ ((b < i + 1) × DependsOn g b a)
turned-more g old new ds i named p q a b =
    let D : ℕ → Type 0 = λ n. DependsOn g n a in (
      λ dep. elim ((q a b).0 dep) [
        | inl before ↦ let both = (p a b).0 before in (omega (arith, both.0), both.1)
        | inr last ↦ (omega (arith, last.1), subst D (sym last.1) ((named a).0 last.0))
      ],
      λ both. (q a b).1 (elim (cases_lt b i) [
        | inl lower ↦ inl ((p a b).1 (lower, both.1))
        | inr last ↦ let same : b ≡ i = omega (arith, both.0) in inr ((named a).1 (subst D same both.1), same)
      ]),
    )

pub turned-none : (g rows : List (List ℕ)) → ((a b : ℕ) → ¬ DependsOn rows a b) → (a b : ℕ) → DependsOn rows a b ↔ ((b < 0) × DependsOn g b a)
turned-none g rows none a b = (λ dep. absurd (none a b dep), λ both. absurd (omega (arith, both.0)))

pub turned-all : (g rows : List (List ℕ)) (i : ℕ) → length g ≤ i → ((a b : ℕ) → DependsOn rows a b ↔ ((b < i) × DependsOn g b a)) → (a b : ℕ) → DependsOn rows a b ↔ DependsOn g b a
turned-all g rows i all p a b = (λ dep. ((p a b).0 dep).1, λ dep. (p a b).1 (omega (arith, slice_get_within g b dep.row dep.found), dep))

-- empty rows
depends-none : (rows : List (List ℕ)) → All (λ row. row ≡ []) rows → (a b : ℕ) → ¬ DependsOn rows a b
depends-none rows empty a b dep =
    let none : dep.row ≡ [] = All-contains (λ row. row ≡ []) rows dep.row empty (found_contained rows a dep.row dep.found) in
    let P : List ℕ → Type 0 = λ xs. Contains xs b in contains-nothing b (subst P none dep.named)

pub rows-none : {X : Type 0} (f : X → List ℕ) (rows : List X) → All (λ row. f row ≡ []) rows → (a b : ℕ) → ¬ DependsOn (map f rows) a b
rows-none f rows empty = depends-none (map f rows) (All-map (λ row. row ≡ []) f rows empty)
