-- Lists of faults that are empty.
use Rattle.std.proofs.Common.{◌≡◌, ℕ, ◌≤◌, Bool, true, false, not, cond, nat_lt, List, [], ◌∷◌, ◌++◌, map, flat_map, refl, arith}
use Rattle.std.specs.List.{AllByRecursion, All}
use Rattle.std.proofs.lemmas.Bool.Decides.{nat_tests}
use Rattle.std.proofs.lemmas.List.Elements.{All-from_recursion}

pub front_empty : {X : Type 0} (xs ys : List X) → xs ++ ys ≡ [] → xs ≡ []
front_empty [] ys h = refl
front_empty (x ∷ xs) ys h = cc

pub back_empty : {X : Type 0} (xs ys : List X) → xs ++ ys ≡ [] → ys ≡ []
back_empty [] ys h = h
back_empty (x ∷ xs) ys h = cc

pub map_empty : {X Y : Type 0} (f : X → Y) (xs : List X) → map f xs ≡ [] → xs ≡ []
map_empty f [] h = refl
map_empty f (x ∷ xs) h = cc

-- nothing was put in front
pub not_chosen : {X : Type 0} (b : Bool) (x : X) (xs : List X) → cond b (x ∷ []) [] ++ xs ≡ [] → b ≡ false
not_chosen true x xs h = cc
not_chosen false x xs h = refl

pub rest_empty : {X : Type 0} (b : Bool) (x : X) (xs : List X) → cond b (x ∷ []) [] ++ xs ≡ [] → xs ≡ []
rest_empty true x xs h = cc
rest_empty false x xs h = h

-- nothing was kept
pub kept_none : {X : Type 0} (b : Bool) (x : X) (xs : List X) → cond (not b) (x ∷ xs) xs ≡ [] → b ≡ true
kept_none true x xs h = refl
kept_none false x xs h = cc

pub kept_rest : {X : Type 0} (b : Bool) (x : X) (xs : List X) → cond (not b) (x ∷ xs) xs ≡ [] → xs ≡ []
kept_rest true x xs h = h
kept_rest false x xs h = cc

-- a count that is not above its limit
below_limit : {X : Type 0} (b : Bool) (x : X) → cond b (x ∷ []) [] ≡ [] → b ≡ false
below_limit true x h = cc
below_limit false x h = refl

pub at_most : {X : Type 0} (most count : ℕ) (x : X) → cond (nat_lt most count) (x ∷ []) [] ≡ [] → count ≤ most
at_most most count x h = let e : nat_lt most count ≡ false = below_limit (nat_lt most count) x h in grind (arith, nat_tests)

-- where no row has any fault, each row is right
rows_right : {X Y : Type 0} (f : X → List Y) (P : X → Type 0) → ((x : X) → f x ≡ [] → P x) → (xs : List X) → flat_map f xs ≡ [] → AllByRecursion P xs
rows_right f P right [] h = tt
rows_right f P right (x ∷ xs) h = (right x (front_empty (f x) (flat_map f xs) h), rows_right f P right xs (back_empty (f x) (flat_map f xs) h))

pub all_right : {X Y : Type 0} (f : X → List Y) (P : X → Type 0) → ((x : X) → f x ≡ [] → P x) → (xs : List X) → flat_map f xs ≡ [] → All P xs
all_right f P right xs h = All-from_recursion P xs (rows_right f P right xs h)

-- a fact of each row's image
pub images : {X Y : Type 0} (g : X → Y) (P : Y → Type 0) (xs : List X) → AllByRecursion (λ x. P (g x)) xs → AllByRecursion P (map g xs)
images g P [] h = tt
images g P (x ∷ xs) h = (h.0, images g P xs h.1)

pub all_images_right : {X Y Z : Type 0} (f : X → List Y) (g : X → Z) (P : Z → Type 0) → ((x : X) → f x ≡ [] → P (g x)) → (xs : List X) → flat_map f xs ≡ [] → All P (map g xs)
all_images_right f g P right xs h = All-from_recursion P (map g xs) (images g P xs (rows_right f (λ x. P (g x)) right xs h))
