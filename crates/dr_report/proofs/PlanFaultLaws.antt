-- Faulty plans are told apart by their lines.
use Rattle.std.proofs.Common.{◌≡◌, ◌<◌, ◌+◌, ℕ, List, [], ◌∷◌, length, map, get_or, drop, ap, ◌∙◌, refl, arith, Option, suc}
use Rattle.std.specs.Prelude.{codes, All}
use Rattle.std.proofs.lemmas.List.Elements.{All-get_or}
use Rattle.dr_base.specs.declared.answer.Answer.TheVariants.{Plan}
use Rattle.dr_base.specs.declared.plan_fault.PlanFault.{PlanFault}
use Rattle.dr_base.specs.declared.plan_fault.PlanFault.TheVariants.{UnknownGroup, GroupTwice, UnknownMachine, BadPriority, OtherPriority, Cycle, BadPosition, NoMemory}
use Rattle.dr_inventory.specs.declared.estate.Estate.{Estate}
use Rattle.dr_report.specs.Texts.{plan_fault_text, machine_names, name_at}
use Rattle.dr_report.specs.Conditions.{HoldsNumbersOf, IsNumberOf}
use Rattle.dr_report.specs.Values.{IsName, IsPlanFault}
use Rattle.dr_report.proofs.WordLaws.{ArePlain, differ, plain_name, words_same}
use Rattle.dr_report.proofs.FieldLaws.{Naming, two, three, name, number, signed, numbered, join_two, join_three, other}

all_behind : (P : ℕ → Type 0) (k : ℕ) (ks : List ℕ) → All P (k ∷ ks) → All P ks
all_behind P k ks all i d within = all (suc i) d (omega (arith, within))

names_plain : (names : List (List ℕ)) → Naming names → (ks : List ℕ) → All (IsNumberOf names) ks → ArePlain (map (name_at names) ks)
names_plain names naming [] all = tt
names_plain names naming (k ∷ ks) all = ((numbered names naming k k (all 0 0 (omega arith)) (all 0 0 (omega arith))).left_plain, names_plain names naming ks (all_behind (IsNumberOf names) k ks all))

-- two lists of numbers with the same names are equal
numbers_same : (names : List (List ℕ)) → Naming names → (ks ls : List ℕ) → All (IsNumberOf names) ks → All (IsNumberOf names) ls → map (name_at names) ks ≡ map (name_at names) ls → ks ≡ ls
numbers_same names naming [] [] p q e = refl
numbers_same names naming [] (l ∷ ls) p q e = absurd (cc)
numbers_same names naming (k ∷ ks) [] p q e = absurd (cc)
numbers_same names naming (k ∷ ks) (l ∷ ls) p q e =
    let same = (numbered names naming k l (p 0 0 (omega arith)) (q 0 0 (omega arith))).same (ap (λ ns. get_or ns 0 []) e) in
    let rest = numbers_same names naming ks ls (all_behind (IsNumberOf names) k ks p) (all_behind (IsNumberOf names) l ls q) (ap (drop 1) e) in
    join_two (λ c cs. c ∷ cs) same rest

cycles_same : (names : List (List ℕ)) → Naming names → (n m : List ℕ) (ks ls : List ℕ) → IsName n → IsName m → All (IsNumberOf names) ks → All (IsNumberOf names) ls → n ∷ map (name_at names) ks ≡ m ∷ map (name_at names) ls → (n ≡ m) × (ks ≡ ls)
cycles_same names naming n m ks ls a b p q e = (ap (λ ws. get_or ws 0 []) e, numbers_same names naming ks ls p q (ap (drop 1) e))

-- two faults of plans with one line are equal, and so are the plans' names
pub same_plan_fault : (estate : Option Estate) → Naming (machine_names estate) → (n m : List ℕ) (f g : PlanFault) → IsName n → IsName m → HoldsNumbersOf estate (Plan n f) → HoldsNumbersOf estate (Plan m g) → IsPlanFault f → IsPlanFault g → plan_fault_text estate n f ≡ plan_fault_text estate m g → (n ≡ m) × (f ≡ g)
same_plan_fault estate machines n m (UnknownGroup x) (UnknownGroup y) a b h k p q e = let s = two (codes "2 P1 unknown group") (name n m a b) (name x y p q) e in (s.0, ap UnknownGroup s.1)
same_plan_fault estate machines n m (UnknownGroup x) g a b h k p q e = absurd (other (codes "2 P1") (plan_fault_text estate n (UnknownGroup x)) (plan_fault_text estate m g) refl refl e)
same_plan_fault estate machines n m (GroupTwice x) (GroupTwice y) a b h k p q e = let s = two (codes "2 P2 group twice") (name n m a b) (name x y p q) e in (s.0, ap GroupTwice s.1)
same_plan_fault estate machines n m (GroupTwice x) g a b h k p q e = absurd (other (codes "2 P2") (plan_fault_text estate n (GroupTwice x)) (plan_fault_text estate m g) refl refl e)
same_plan_fault estate machines n m (UnknownMachine x) (UnknownMachine y) a b h k p q e = let s = two (codes "2 P3 unknown machine") (name n m a b) (name x y p q) e in (s.0, ap UnknownMachine s.1)
same_plan_fault estate machines n m (UnknownMachine x) g a b h k p q e = absurd (other (codes "2 P3") (plan_fault_text estate n (UnknownMachine x)) (plan_fault_text estate m g) refl refl e)
same_plan_fault estate machines n m (BadPriority x z) (BadPriority y w) a b h k p q e = let s = three (codes "2 P4 bad priority") (name n m a b) (numbered (machine_names estate) machines x y h k) (signed z w p q) e in (s.0, join_two BadPriority s.1 s.2)
same_plan_fault estate machines n m (BadPriority x z) g a b h k p q e = absurd (other (codes "2 P4") (plan_fault_text estate n (BadPriority x z)) (plan_fault_text estate m g) refl refl e)
same_plan_fault estate machines n m (OtherPriority x z) (OtherPriority y w) a b h k p q e = let s = three (codes "2 P5 other priority") (name n m a b) (numbered (machine_names estate) machines x y h.0 k.0) (numbered (machine_names estate) machines z w h.1 k.1) e in (s.0, join_two OtherPriority s.1 s.2)
same_plan_fault estate machines n m (OtherPriority x z) g a b h k p q e = absurd (other (codes "2 P5") (plan_fault_text estate n (OtherPriority x z)) (plan_fault_text estate m g) refl refl e)
same_plan_fault estate machines n m (Cycle ks) (Cycle ls) a b h k p q e =
    let names = machine_names estate in
    let words = words_same (codes "2 P6 cycle") (n ∷ map (name_at names) ks) (m ∷ map (name_at names) ls) (plain_name n a, names_plain names machines ks h) (plain_name m b, names_plain names machines ls k) e in
    let s = cycles_same names machines n m ks ls a b h k words in
    (s.0, ap Cycle s.1)
same_plan_fault estate machines n m (Cycle ks) g a b h k p q e = absurd (other (codes "2 P6") (plan_fault_text estate n (Cycle ks)) (plan_fault_text estate m g) refl refl e)
same_plan_fault estate machines n m (BadPosition x z) (BadPosition y w) a b h k p q e = let s = three (codes "2 P7 bad position") (name n m a b) (number x y p.0 q.0) (signed z w p.1 q.1) e in (s.0, join_two BadPosition s.1 s.2)
same_plan_fault estate machines n m (BadPosition x z) g a b h k p q e = absurd (other (codes "2 P7") (plan_fault_text estate n (BadPosition x z)) (plan_fault_text estate m g) refl refl e)
same_plan_fault estate machines n m NoMemory g a b h k p q e = absurd p
