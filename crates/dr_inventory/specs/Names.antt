-- Names that stand twice, names that nothing has, and the numbers of names.
use Rattle.std.specs.Prelude.{ℕ, Bool, List, [], ◌∷◌, ◌++◌, bytes_eq, not, is_some, unwrap_or, option_map, suc, filter, Option, Some, None, if◌then◌else◌}
use Rattle.std.specs.List.{list_any}

-- the first of a list
abbrev pub first : {X : Type 0} → List X → Option X
first [] = None
first (x ∷ xs) = Some x

-- whether one of the rows has this name
abbrev pub is_name_of : {X : Type 0} → (X → List ℕ) → List ℕ → List X → Bool
is_name_of name n rows = list_any (λ y. bytes_eq n (name y)) rows

-- The name of each row whose key an earlier row has, and after it what is twice within the row. The rows before these come first.
unfoldable pub twice : {X : Type 0} → (X → List ℕ) → (X → List ℕ) → (X → List (List ℕ)) → List X → List X → List (List ℕ)
twice key name within before [] = []
twice key name within before (x ∷ xs) = (if is_name_of key (key x) before then name x ∷ [] else []) ++ (within x ++ twice key name within (before ++ x ∷ []) xs)

-- the rows have nothing in them that could be twice
abbrev pub nothing_within : {X : Type 0} → X → List (List ℕ)
nothing_within x = []

-- each name of a list that stands there before
abbrev pub twice_in : List (List ℕ) → List (List ℕ)
twice_in names = twice (λ n. n) (λ n. n) nothing_within [] names

-- the place of the first row of this name
abbrev pub place : {X : Type 0} → (X → List ℕ) → List X → List ℕ → Option ℕ
place name [] n = None
place name (y ∷ ys) n = if bytes_eq n (name y) then Some 0 else option_map suc (place name ys n)

-- the number of a name, which is its row's place; 0 if no row has it
abbrev pub number : {X : Type 0} → (X → List ℕ) → List X → List ℕ → ℕ
number name rows n = unwrap_or (place name rows n) 0

-- the names that no row has
abbrev pub unknown : {X : Type 0} → (X → List ℕ) → List X → List (List ℕ) → List (List ℕ)
unknown name rows names = filter (λ n. not (is_some (place name rows n))) names
