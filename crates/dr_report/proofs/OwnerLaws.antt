-- The first group that names each datastore, and lists over ranges.
use Rattle.std.proofs.Common.{◌≡◌, ◌<◌, ◌+◌, ℕ, List, [], ◌∷◌, ◌++◌, length, map, take, get_or, ap, sym, ◌∙◌, refl, arith, append-nil, Bool, true, false, cond, Option, Some, None, length-append}
use Rattle.std.specs.Prelude.{find, flat_map, ◌==◌, ◌||◌, All}
use Rattle.std.specs.List.{range_with_len, list_any}
use Rattle.std.specs.Option.{option_or, option_map}
use Rattle.std.proofs.lemmas.List.{take_more, map-id}
use Rattle.std.proofs.lemmas.List.Concat.{flat_map-append}
use Rattle.std.proofs.lemmas.List.Folds.{find-append}
use Rattle.std.proofs.lemmas.List.FromFn.{map-range_with_len_more}
use Rattle.dr_inventory.specs.declared.estate.GroupRow.{GroupRow}
use Rattle.dr_report.specs.Reports.{first_group}

-- what stands there stays, and a name is noted where one of two tests passes
pub noted_either : {X : Type 0} (o : Option X) (x : X) (p q : Bool) → option_or (option_or o (cond p (Some x) None)) (cond q (Some x) None) ≡ option_or o (cond (p || q) (Some x) None)
noted_either (Some y) x p q = refl
noted_either None x true q = refl
noted_either None x false q = refl

or_mapped : {X Y : Type 0} (f : X → Y) (a b : Option X) → option_map f (option_or a b) ≡ option_or (option_map f a) (option_map f b)
or_mapped f None b = refl
or_mapped f (Some x) b = refl

-- the name of one group, where it passes
one_mapped : (group : GroupRow) (p : Bool) → option_map (λ (g : GroupRow). g.name) (cond p (Some group) None) ≡ cond p (Some group.name) None
one_mapped group true = refl
one_mapped group false = refl

-- one group more
pub first_group_more : (groups : List GroupRow) (i k : ℕ) (group : GroupRow) → i < length groups → group ≡ get_or groups i group → first_group (take (i + 1) groups) k ≡ option_or (first_group (take i groups) k) (cond (list_any (λ own. own == k) group.datastores) (Some group.name) None)
first_group_more groups i k group within read =
    let test : GroupRow → Bool = λ g. list_any (λ own. own == k) g.datastores in
    let name : GroupRow → List ℕ = λ g. g.name in
    let more : take (i + 1) groups ≡ take i groups ++ group ∷ [] = take_more groups i group within ∙ ap (λ (g : GroupRow). take i groups ++ g ∷ []) (sym read) in
    ap (λ (gs : List GroupRow). option_map name (find test gs)) more ∙ ap (option_map name) (find-append test (take i groups) (group ∷ [])) ∙ or_mapped name (find test (take i groups)) (cond (test group) (Some group) None) ∙ ap (option_or (first_group (take i groups) k)) (one_mapped group (test group))

-- one number more
pub range_more : (f : ℕ → List ℕ) (n : ℕ) → flat_map f (range_with_len 0 (n + 1)) ≡ flat_map f (range_with_len 0 n) ++ f n
range_more f n =
    let more : range_with_len 0 (n + 1) ≡ range_with_len 0 n ++ n ∷ [] = sym (map-id (range_with_len 0 (n + 1))) ∙ map-range_with_len_more (λ m. m) 0 n n (omega arith) ∙ ap (λ ns. ns ++ n ∷ []) (map-id (range_with_len 0 n)) in
    ap (flat_map f) more ∙ flat_map-append f (range_with_len 0 n) (n ∷ []) ∙ ap (λ text. flat_map f (range_with_len 0 n) ++ text) (append-nil (f n))
