-- Folders above a folder, by their bytes.
use Rattle.std.proofs.Common.{◌≡◌, ◌∙◌, ℕ, ◌+◌, ◌<◌, Bool, true, false, ◌&&◌, nat_eq, bytes_eq, List, [], ◌∷◌, ◌++◌, length, take, drop, get_or, refl, sym, ap, inl, inr, arith}
use Rattle.std.specs.List.{slice_split, onto_first, starts_with}
use Rattle.std.proofs.Math.Seq.{take-append_seam}
use Rattle.std.proofs.Math.ListN.{drop_of_length-le}
use Rattle.std.proofs.lemmas.Bool.{both_ways, cases_Bool}
use Rattle.std.proofs.lemmas.Bool.Decides.{Decides-eqb}
use Rattle.std.proofs.lemmas.List.{drop_more}
use Rattle.std.proofs.lemmas.Slice.Eq.{starts_is}
use Rattle.std.proofs.lemmas.List.Splits.{slice_split-cons_yes, slice_split-cons_no}
use Rattle.dr_base.specs.Paths.{is_slash}
use Rattle.dr_mappings.specs.Lookups.{is_at_or_above}

-- the folder begins with the other one, and ends there or goes on with a slash
abbrev pub goes_on : List ℕ → List ℕ → Bool
goes_on [] [] = true
goes_on [] (y ∷ ys) = is_slash y
goes_on (x ∷ xs) [] = false
goes_on (x ∷ xs) (y ∷ ys) = nat_eq x y && goes_on xs ys

-- the names of a path
abbrev names : List ℕ → List (List ℕ)
names path = slice_split is_slash path

-- the first names are the other ones
abbrev begins : List (List ℕ) → List (List ℕ) → Bool
begins first all = starts_with bytes_eq all first

-- there is a first name
names-cons : (path : List ℕ) → (f : List ℕ) × (fs : List (List ℕ)) × (names path ≡ f ∷ fs)
names-cons [] = ([], [], refl)
names-cons (x ∷ xs) = elim (cases_Bool (is_slash x)) [
  | inl slash ↦ ([], names xs, slice_split-cons_yes is_slash x xs slash)
  | inr other ↦ let rest = names-cons xs in (x ∷ rest.0, rest.1, slice_split-cons_no is_slash x xs other ∙ ap (onto_first x) rest.2)
]

begins-both : (a b c d : List (List ℕ)) → a ≡ c → b ≡ d → begins a b ≡ begins c d
begins-both a b c d e f = ap (λ x. begins x b) e ∙ ap (λ y. begins c y) f

and_assoc : (x y z : Bool) → ((x && y) && z) ≡ (x && (y && z))
and_assoc true y z = refl
and_assoc false y z = refl

slashes_same : (x y : ℕ) → is_slash x ≡ true → is_slash y ≡ true → nat_eq x y ≡ true
slashes_same x y p q = grind arith

slash_other : (x y : ℕ) → is_slash x ≡ true → is_slash y ≡ false → nat_eq x y ≡ false
slash_other x y p q = grind arith

other_slash : (x y : ℕ) → is_slash x ≡ false → is_slash y ≡ true → nat_eq x y ≡ false
other_slash x y p q = grind arith

-- the first names are the other ones exactly where the bytes go on so
names_go_on : (above folder : List ℕ) → is_at_or_above above folder ≡ goes_on above folder
names_go_on [] [] = refl
names_go_on [] (y ∷ ys) = elim (cases_Bool (is_slash y)) [
  | inl slash ↦ begins-both ([] ∷ []) (names (y ∷ ys)) ([] ∷ []) ([] ∷ names ys) refl (slice_split-cons_yes is_slash y ys slash) ∙ sym slash
  | inr other ↦
      let rest = names-cons ys in
      begins-both ([] ∷ []) (names (y ∷ ys)) ([] ∷ []) ((y ∷ rest.0) ∷ rest.1) refl (slice_split-cons_no is_slash y ys other ∙ ap (onto_first y) rest.2) ∙ sym other
]
names_go_on (x ∷ xs) [] = elim (cases_Bool (is_slash x)) [
  | inl slash ↦
      let rest = names-cons xs in
      begins-both (names (x ∷ xs)) ([] ∷ []) ([] ∷ rest.0 ∷ rest.1) ([] ∷ []) (slice_split-cons_yes is_slash x xs slash ∙ ap (λ ns. [] ∷ ns) rest.2) refl
  | inr other ↦
      let rest = names-cons xs in
      begins-both (names (x ∷ xs)) ([] ∷ []) ((x ∷ rest.0) ∷ rest.1) ([] ∷ []) (slice_split-cons_no is_slash x xs other ∙ ap (onto_first x) rest.2) refl
]
names_go_on (x ∷ xs) (y ∷ ys) = elim (cases_Bool (is_slash x)) [
  | inl slash_x ↦ elim (cases_Bool (is_slash y)) [
    | inl slash_y ↦
        begins-both (names (x ∷ xs)) (names (y ∷ ys)) ([] ∷ names xs) ([] ∷ names ys) (slice_split-cons_yes is_slash x xs slash_x) (slice_split-cons_yes is_slash y ys slash_y)
        ∙ names_go_on xs ys ∙ ap (λ b. b && goes_on xs ys) (sym (slashes_same x y slash_x slash_y))
    | inr other_y ↦
        let g = names-cons ys in
        begins-both (names (x ∷ xs)) (names (y ∷ ys)) ([] ∷ names xs) ((y ∷ g.0) ∷ g.1) (slice_split-cons_yes is_slash x xs slash_x) (slice_split-cons_no is_slash y ys other_y ∙ ap (onto_first y) g.2)
        ∙ ap (λ b. b && goes_on xs ys) (sym (slash_other x y slash_x other_y))
  ]
  | inr other_x ↦
      let f = names-cons xs in
      elim (cases_Bool (is_slash y)) [
        | inl slash_y ↦
            begins-both (names (x ∷ xs)) (names (y ∷ ys)) ((x ∷ f.0) ∷ f.1) ([] ∷ names ys) (slice_split-cons_no is_slash x xs other_x ∙ ap (onto_first x) f.2) (slice_split-cons_yes is_slash y ys slash_y)
            ∙ ap (λ b. b && goes_on xs ys) (sym (other_slash x y other_x slash_y))
        | inr other_y ↦
            let g = names-cons ys in
            begins-both (names (x ∷ xs)) (names (y ∷ ys)) ((x ∷ f.0) ∷ f.1) ((y ∷ g.0) ∷ g.1) (slice_split-cons_no is_slash x xs other_x ∙ ap (onto_first x) f.2) (slice_split-cons_no is_slash y ys other_y ∙ ap (onto_first y) g.2)
            ∙ and_assoc (nat_eq x y) (bytes_eq f.0 g.0) (begins f.1 g.1)
            ∙ ap (λ b. nat_eq x y && b) (sym (begins-both (names xs) (names ys) (f.0 ∷ f.1) (g.0 ∷ g.1) f.2 g.2) ∙ names_go_on xs ys)
      ]
]

-- the folder itself, or what follows it
goes_on-front : (above rest : List ℕ) → goes_on above (above ++ rest) ≡ goes_on [] rest
goes_on-front [] rest = refl
goes_on-front (x ∷ xs) rest = let same : nat_eq x x ≡ true = grind arith in rw same (goes_on-front xs rest)

goes_on-begins : (above folder : List ℕ) → goes_on above folder ≡ true → (rest : List ℕ) × (folder ≡ above ++ rest)
goes_on-begins [] folder h = (folder, refl)
goes_on-begins (x ∷ xs) [] h = (cc)
goes_on-begins (x ∷ xs) (y ∷ ys) h = elim (cases_Bool (nat_eq x y)) [
  | inl same ↦
      let rest = goes_on-begins xs ys (sym (ap (λ b. b && goes_on xs ys) same) ∙ h) in
      let is : y ≡ x = grind (arith, same) in
      (rest.0, ap (λ z. z ∷ ys) is ∙ ap (λ zs. x ∷ zs) rest.1)
  | inr other ↦ absurd (both_ways (nat_eq x y && goes_on xs ys) (ap (λ b. b && goes_on xs ys) other) h)
]

-- what a folder begins with, up to a length
pub front_of : (above folder : List ℕ) → is_at_or_above above folder ≡ true → above ≡ take (length above) folder
front_of above folder h =
    let rest = goes_on-begins above folder (sym (names_go_on above folder) ∙ h) in
    sym (ap (take (length above)) rest.1 ∙ take-append_seam above rest.0)

-- a folder that begins with the other one, and what follows
front : (above folder rest : List ℕ) (r : Bool) → r ≡ starts_with nat_eq folder above → r ≡ true → drop (length above) folder ≡ rest → is_at_or_above above folder ≡ goes_on [] rest
front above folder rest r e begins follows =
    let whole = (starts_is Decides-eqb folder above r e).0 begins in
    names_go_on above folder ∙ ap (goes_on above) (whole ∙ ap (λ xs. above ++ xs) follows) ∙ goes_on-front above rest

pub above_same : (above folder : List ℕ) (r : Bool) → r ≡ starts_with nat_eq folder above → r ≡ true → length folder ≡ length above → nat_eq (length folder) (length above) ≡ is_at_or_above above folder
above_same above folder r e begins long =
    let same : nat_eq (length folder) (length above) ≡ true = grind arith in
    same ∙ sym (front above folder [] r e begins (drop_of_length-le folder (omega arith)))

pub above_further : (above folder : List ℕ) (r : Bool) → r ≡ starts_with nat_eq folder above → r ≡ true → length above < length folder → nat_eq (get_or folder (length above) 0) 47 ≡ is_at_or_above above folder
above_further above folder r e begins longer =
    sym (front above folder (get_or folder (length above) 0 ∷ drop (length above + 1) folder) r e begins (drop_more folder (length above) 0 longer))

pub above_not : (above folder : List ℕ) (r : Bool) → r ≡ starts_with nat_eq folder above → r ≡ false → r ≡ is_at_or_above above folder
above_not above folder r e fails = elim (cases_Bool (goes_on above folder)) [
  | inl on ↦ let rest = goes_on-begins above folder on in absurd (both_ways r fails ((starts_is Decides-eqb folder above r e).1 rest.0 rest.1))
  | inr off ↦ fails ∙ sym (names_go_on above folder ∙ off)
]
