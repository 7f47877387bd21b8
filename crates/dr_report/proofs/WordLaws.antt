-- Words without spaces can be told from the line that they make.
use Rattle.std.proofs.Common.{◌≡◌, ◌<◌, ◌≤◌, ◌+◌, ◌^◌, ◌%◌, ℕ, List, [], ◌∷◌, ◌++◌, length, map, get_or, drop, ap, sym, ◌∙◌, refl, arith, append_assoc, Bool, true, false, cond, suc, ℤ, eq-eqb}
use Rattle.std.specs.Prelude.{codes, decimal, nat_lt, ◌&&◌, ◌==◌, IsTrue, bytes_eq, FitsSigned}
use Rattle.std.specs.Int.{w64}
use Rattle.std.specs.List.{list_all, slice_split, onto_first}
use Rattle.std.specs.Fmt.{signed_decimal}
use Rattle.std.proofs.lemmas.Bool.{false≢true}
use Rattle.std.proofs.lemmas.List.{append_cancel_left}
use Rattle.std.proofs.lemmas.List.Folds.{list_all-append}
use Rattle.std.proofs.lemmas.Fmt.{decimal_by_steps}
use Rattle.std.proofs.lemmas.Bool.Decides.{nat_tests}
use Rattle.std.specs.Prelude.{pos, negsuc}
use Rattle.dr_base.specs.Names.{is_name, is_name_byte}
use Rattle.dr_base.specs.Paths.{is_path, is_slash}
use Rattle.dr_report.specs.Lines.{told, spaced}
use Rattle.dr_report.specs.Values.{IsName, IsPlace, is_visible}

-- a byte above the space
abbrev pub is_dark : ℕ → Bool
is_dark b = nat_lt 32 b

-- bytes without a space or a line feed
abbrev pub plain : List ℕ → Bool
plain bytes = list_all is_dark bytes

-- words without them
abbrev pub ArePlain : List (List ℕ) → Type 0
ArePlain [] = Unit {0}
ArePlain (word ∷ words) = (plain word ≡ true) × ArePlain words

-- both of two tests pass
pub both : (p q : Bool) → (p && q) ≡ true → (p ≡ true) × (q ≡ true)
both true q h = (refl, h)
both false q h = absurd (false≢true h)

-- what passes one test for all, passes a weaker one
pub all_weaker : (p q : ℕ → Bool) → ((b : ℕ) → p b ≡ true → q b ≡ true) → (bytes : List ℕ) → list_all p bytes ≡ true → list_all q bytes ≡ true
all_weaker p q weaker [] h = refl
all_weaker p q weaker (b ∷ bytes) h = let h' = both (p b) (list_all p bytes) h in rw (weaker b h'.0) (all_weaker p q weaker bytes h'.1)

dark_from : (b : ℕ) → 32 < b → is_dark b ≡ true
dark_from b above = grind (arith, nat_tests)

pub dark_name_byte : (b : ℕ) → is_name_byte b ≡ true → is_dark b ≡ true
dark_name_byte b h = dark_from b (grind (arith, nat_tests))

pub dark_visible : (b : ℕ) → is_visible b ≡ true → is_dark b ≡ true
dark_visible b h = dark_from b (grind (arith, nat_tests))

pub plain_name : (bytes : List ℕ) → IsName bytes → plain bytes ≡ true
plain_name bytes h = all_weaker is_name_byte is_dark dark_name_byte bytes (both _ (list_all is_name_byte bytes) h).1

pub plain_place : (bytes : List ℕ) → IsPlace bytes → plain bytes ≡ true
plain_place bytes h = all_weaker is_visible is_dark dark_visible bytes h

-- a byte that was put onto the first part
onto_parts : (b : ℕ) (parts : List (List ℕ)) → ArePlain (onto_first b parts) → (is_dark b ≡ true) × ArePlain parts
onto_parts b [] h = ((both (is_dark b) true h.0).0, tt)
onto_parts b (part ∷ parts) h = let h' = both (is_dark b) (plain part) h.0 in (h'.0, (h'.1, h.1))

-- a byte that is a slash, or was put onto the first part
part_byte : (b : ℕ) (parts : List (List ℕ)) (test : Bool) → is_slash b ≡ test → ArePlain (cond test ([] ∷ parts) (onto_first b parts)) → (is_dark b ≡ true) × ArePlain parts
part_byte b parts true is h = (dark_from b (grind (arith, nat_tests)), h.1)
part_byte b parts false is h = onto_parts b parts h

-- parts that were split are plain, so the whole is
pub plain_parts : (bytes : List ℕ) → ArePlain (slice_split is_slash bytes) → plain bytes ≡ true
plain_parts [] h = refl
plain_parts (b ∷ bytes) h = let h' = part_byte b (slice_split is_slash bytes) (is_slash b) refl h in rw h'.0 (plain_parts bytes h'.1)

names_plain : (names : List (List ℕ)) → list_all is_name names ≡ true → ArePlain names
names_plain [] h = tt
names_plain (name ∷ names) h = let h' = both (is_name name) (list_all is_name names) h in (plain_name name h'.0, names_plain names h'.1)

pub plain_path : (bytes : List ℕ) → IsTrue (is_path bytes) → plain bytes ≡ true
plain_path bytes h = plain_parts bytes (names_plain (slice_split is_slash bytes) (both _ (list_all is_name (slice_split is_slash bytes)) h).1)

pub plain_decimal : (n : ℕ) → n < 2 ^ 64 → plain (decimal n) ≡ true
plain_decimal n small = decimal_by_steps (λ n ds. plain ds ≡ true) (λ n below. rw (dark_from (48 + n) (omega arith)) refl) (λ n ds above front. rw (list_all-append is_dark ds ((48 + n % 10) ∷ []), front, dark_from (48 + n % 10) (omega arith)) refl) n small

pub plain_signed : (z : ℤ) → FitsSigned w64 z → plain (signed_decimal z) ≡ true
plain_signed (pos n) fits = plain_decimal n (omega (arith, fits.sfits))
plain_signed (negsuc n) fits = plain_decimal (suc n) (omega (arith, fits.sfits))

bytes_same : (bytes : List ℕ) → bytes_eq bytes bytes ≡ true
bytes_same [] = refl
bytes_same (b ∷ bytes) = rw (eq-eqb b b refl) (bytes_same bytes)

-- bytes that a test tells apart differ
pub differ : (xs ys : List ℕ) → bytes_eq xs ys ≡ false → xs ≡ ys → ⊥
differ xs ys apart e = false≢true (sym apart ∙ ap (bytes_eq xs) (sym e) ∙ bytes_same xs)

-- a text that begins with a space or a line feed
pub record Ends (text : List ℕ) : Type 0 where
  pub byte : ℕ
  pub rest : List ℕ
  pub light : is_dark byte ≡ false
  pub is : text ≡ byte ∷ rest

-- two words before such texts are equal, and so are the texts
pub cut : (w v x y : List ℕ) → plain w ≡ true → plain v ≡ true → Ends x → Ends y → w ++ x ≡ v ++ y → (w ≡ v) × (x ≡ y)
cut [] [] x y p q ends other e = (refl, e)
cut [] (b ∷ v) x y p q ends other e =
    let same : ends.byte ≡ b = ap (λ t. get_or t 0 0) (sym ends.is ∙ e) in
    absurd (false≢true (sym ends.light ∙ ap is_dark same ∙ (both (is_dark b) (plain v) q).0))
cut (a ∷ w) [] x y p q ends other e =
    let same : other.byte ≡ a = sym (ap (λ t. get_or t 0 0) (e ∙ other.is)) in
    absurd (false≢true (sym other.light ∙ ap is_dark same ∙ (both (is_dark a) (plain w) p).0))
cut (a ∷ w) (b ∷ v) x y p q ends other e =
    let same : a ≡ b = ap (λ t. get_or t 0 0) e in
    let rest = cut w v x y (both (is_dark a) (plain w) p).1 (both (is_dark b) (plain v) q).1 ends other (ap (drop 1) e) in
    (ap (λ c. c ∷ w) same ∙ ap (λ u. b ∷ u) rest.0, rest.1)

spaced_ends : (words : List (List ℕ)) → Ends (spaced words ++ codes "\n")
spaced_ends [] = record { byte = 10; rest = []; light = refl; is = refl }
spaced_ends (word ∷ words) = record { byte = 32; rest = (word ++ spaced words) ++ codes "\n"; light = refl; is = refl }

-- the words of two equal ends of lines are the same
spaced_same : (words others : List (List ℕ)) → ArePlain words → ArePlain others → spaced words ++ codes "\n" ≡ spaced others ++ codes "\n" → words ≡ others
spaced_same [] [] p q e = refl
spaced_same [] (other ∷ others) p q e = absurd (differ (spaced [] ++ codes "\n") (spaced (other ∷ others) ++ codes "\n") refl e)
spaced_same (word ∷ words) [] p q e = absurd (differ (spaced (word ∷ words) ++ codes "\n") (spaced [] ++ codes "\n") refl e)
spaced_same (word ∷ words) (other ∷ others) p q e =
    let behind = sym (append_assoc word (spaced words) (codes "\n")) ∙ ap (drop 1) e ∙ append_assoc other (spaced others) (codes "\n") in
    let parts = cut word other (spaced words ++ codes "\n") (spaced others ++ codes "\n") p.0 q.0 (spaced_ends words) (spaced_ends others) behind in
    ap (λ w. w ∷ words) parts.0 ∙ ap (λ ws. other ∷ ws) (spaced_same words others p.1 q.1 parts.1)

-- two equal lines that begin alike have the same words
pub words_same : (front : List ℕ) (words others : List (List ℕ)) → ArePlain words → ArePlain others → told front words ≡ told front others → words ≡ others
words_same front words others p q e = spaced_same words others p q (append_cancel_left front _ _ e)
