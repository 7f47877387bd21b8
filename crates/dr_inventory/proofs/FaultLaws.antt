-- The first of some faults.
use Rattle.std.proofs.Common.{◌≡◌, ℕ, ◌+◌, ◌<◌, ◌≤◌, List, [], ◌∷◌, ◌++◌, length, drop, get_or, map, flat_map, Some, None, Ok, Err, refl, sym, ap, ◌∙◌}
use Rattle.std.proofs.lemmas.List.{drop_more}
use Rattle.std.proofs.Math.ListN.{drop_of_length-le}
use Rattle.dr_base.specs.declared.estate_fault.EstateFault.{EstateFault}
use Rattle.dr_inventory.specs.Part.{ReadError, first_or, Stops}
use Rattle.dr_inventory.specs.Names.{first}
use Rattle.dr_inventory.proofs.Outcome.{then, stops_then}

-- the faults of two lists one after the other
pub first_append : {A B : Type 0} (fs gs : List EstateFault) (x : A) (y : B) → first_or (fs ++ gs) y ≡ then (first_or fs x) (λ _. first_or gs y)
first_append [] gs x y = refl
first_append (f ∷ fs) gs x y = refl

-- a list of faults that stopped a call stops it with more faults behind them
pub stops_before : {A B : Type 0} (e : ReadError) (fs gs : List EstateFault) (x : A) (y : B) → Stops e (first_or fs x) → Stops e (first_or (fs ++ gs) y)
stops_before e fs gs x y h = rw (first_append fs gs x y) (stops_then e (first_or fs x) (λ _. first_or gs y) h)

no_faults : {A : Type 0} (fs gs : List EstateFault) (x y : A) → first_or fs x ≡ Ok y → fs ++ gs ≡ gs
no_faults [] gs x y h = refl
no_faults (f ∷ fs) gs x y h = cc

pub goes_by : {A B : Type 0} (fs gs : List EstateFault) (x z : A) (y : B) → first_or fs x ≡ Ok z → first_or (fs ++ gs) y ≡ first_or gs y
goes_by fs gs x z y h = ap (λ hs. first_or hs y) (no_faults fs gs x z h)

pub rows_more : {X : Type 0} (f : X → List EstateFault) (xs : List X) (i : ℕ) (x : X) → i < length xs → x ≡ get_or xs i x → flat_map f (drop i xs) ≡ f x ++ flat_map f (drop (i + 1) xs)
rows_more f xs i x h e = ap (flat_map f) (drop_more xs i x h ∙ ap (λ y. y ∷ drop (i + 1) xs) (sym e))

pub rows_done : {X : Type 0} (f : X → List EstateFault) (xs : List X) (i : ℕ) → length xs ≤ i → flat_map f (drop i xs) ≡ []
rows_done f xs i h = ap (flat_map f) (drop_of_length-le xs h)

pub mapped_some : (f : List ℕ → EstateFault) (ns : List (List ℕ)) (n : List ℕ) → first ns ≡ Some n → first_or (map f ns) (tt {0}) ≡ Err (f n)
mapped_some f [] n h = cc
mapped_some f (m ∷ ns) n h = let e : m ≡ n = cc in rw e refl

pub mapped_none : (f : List ℕ → EstateFault) (ns : List (List ℕ)) → first ns ≡ None → first_or (map f ns) (tt {0}) ≡ Ok (tt {0})
mapped_none f [] h = refl
mapped_none f (m ∷ ns) h = cc
