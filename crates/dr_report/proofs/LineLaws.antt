-- Texts that are put one behind the other.
use Rattle.std.proofs.Common.{◌≡◌, ◌<◌, ◌≤◌, ◌+◌, ◌*◌, lit<, lit≤, ℕ, List, [], ◌∷◌, ◌++◌, length, take, drop, map, get_or, ap, sym, ◌∙◌, refl, arith, append_assoc, length-append, vec_len, vec_capacity, suc}
use Rattle.std.proofs.lemmas.Bool.{false≢true}
use Rattle.std.specs.Prelude.{Result, Ok, Err, IsErr, codes}
use Rattle.std.proofs.lemmas.List.{append-nil, take_more, map-append, take-append-le, take-append-drop}
use Rattle.std.proofs.lemmas.List.Concat.{flat_map-append}
use Rattle.std.proofs.Math.Seq.{take-append_seam, split_at}
use Rattle.std.proofs.lemmas.Fmt.{length-decimal-le, length_signed_le}
use Rattle.std.specs.Global.{Vec}
use Rattle.dr_report.specs.declared.line.Word.{Word}
use Rattle.dr_report.specs.declared.line.Word.TheVariants.{Text, Number, Signed}
use Rattle.dr_report.specs.Lines.{told, spaced, spelled, IsShortWord, AreShort, Adds}

-- a shorter front than one that is kept is kept too
pub front_of : (old new before : List ℕ) → take (length (old ++ before)) new ≡ old ++ before → take (length old) new ≡ old
front_of old new before kept =
    let rest = drop (length (old ++ before)) new in
    let whole : new ≡ old ++ (before ++ rest) = sym (take-append-drop (length (old ++ before)) new) ∙ ap (λ front. front ++ rest) kept ∙ append_assoc old before rest in
    ap (take (length old)) whole ∙ take-append_seam old (before ++ rest)

-- a failed text behind one that was put, and before others
pub fails_after : {D E : Type 0} (old mid new : Vec ℕ) (before text rest : List ℕ) (error : D) (result : Result (Unit {0}) E) → IsErr result → mid.items ≡ old.items ++ before → vec_capacity old ≤ vec_capacity mid → Adds mid new text (Err error) → Adds old new (before ++ (text ++ rest)) result
fails_after old mid new before text rest error (Ok done) is same grown failed = absurd (false≢true is)
fails_after old mid new before text rest error (Err told) is same grown failed =
    let mid_length : vec_len mid ≡ length (old.items ++ before) = omega (arith, mid.ok.0, ap length same) in
    let old_length : vec_len old ≡ length old.items = omega (arith, old.ok.0) in
    record {
      ok = tt;
      err = rw old_length (front_of old.items new.items before (rw (mid_length, same) at failed.err));
      full = omega (arith, old_length, mid_length, length-append old.items before, length-append before (text ++ rest), length-append text rest, failed.full);
      capacity = omega (arith, failed.capacity);
    }

-- the word that is read past a list's end
abbrev pub no_word : Word
no_word = Text (record { ref_ptr = (0, 0); now = [] })

-- the texts of a list, around one of them
pub around : {X : Type 0} (text : X → List ℕ) (xs : List X) (i : ℕ) (d : X) → i < length xs → spaced (map text xs) ≡ spaced (map text (take i xs)) ++ ((codes " " ++ text (get_or xs i d)) ++ spaced (map text (drop (suc i) xs)))
around {X} text xs i d within =
    ap (λ (ys : List X). spaced (map text ys)) (split_at xs i d within) ∙ ap spaced (map-append text (take i xs) (get_or xs i d ∷ drop (suc i) xs)) ∙ flat_map-append (λ w. codes " " ++ w) (map text (take i xs)) (map text (get_or xs i d ∷ drop (suc i) xs))

-- one text more
pub one_more : {X : Type 0} (text : X → List ℕ) (xs : List X) (i : ℕ) (d : X) → i < length xs → spaced (map text (take (i + 1) xs)) ≡ spaced (map text (take i xs)) ++ (codes " " ++ text (get_or xs i d))
one_more {X} text xs i d within =
    ap (λ (ys : List X). spaced (map text ys)) (take_more xs i d within) ∙ ap spaced (map-append text (take i xs) (get_or xs i d ∷ [])) ∙ flat_map-append (λ w. codes " " ++ w) (map text (take i xs)) (map text (get_or xs i d ∷ [])) ∙ ap (λ rest. spaced (map text (take i xs)) ++ rest) (append-nil (codes " " ++ text (get_or xs i d)))

-- two lists of words, and what comes behind them
pub two_spaced : (words names : List (List ℕ)) (end : List ℕ) → spaced (words ++ names) ++ end ≡ spaced words ++ (spaced names ++ end)
two_spaced words names end = ap (λ text. text ++ end) (flat_map-append (λ w. codes " " ++ w) words names) ∙ append_assoc (spaced words) (spaced names) end

-- a short word is spelled with at most 64 bytes
pub spelled_short : (word : Word) → IsShortWord word → length (spelled word) ≤ 64
spelled_short (Text bytes) short = short
spelled_short (Number number) short = omega (arith, length-decimal-le 20 number (lit< tt) (omega (arith, short)) short)
spelled_short (Signed number) short = omega (arith, length_signed_le 20 number (omega (arith, short.sfits)) short.sfits)

-- so many short words with their spaces
pub spaced_short : (words : List Word) → AreShort words → length (spaced (map spelled words)) ≤ 65 * length words
spaced_short [] short = lit≤ tt
spaced_short (word ∷ words) short = omega (arith, length-append (spelled word) (spaced (map spelled words)), spelled_short word short.0, spaced_short words short.1)

-- a line of at most eight short words is short
pub told_short : (front : List ℕ) (words : List Word) → length front ≤ 64 → length words ≤ 8 → AreShort words → length (told front (map spelled words)) ≤ 1024
told_short front words begins few short = omega (arith, length-append front (spaced (map spelled words) ++ codes "\n"), length-append (spaced (map spelled words)) (codes "\n"), spaced_short words short)
