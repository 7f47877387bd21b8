-- The record behind the first ones of a file that ends with its closing gate.
use Rattle.std.proofs.Common.{◌≡◌, ◌≢◌, inl, inr, ℕ, zero, suc, ◌+◌, ◌<◌, ◌≤◌, ◌^◌, List, [], ◌∷◌, ◌++◌, length, take, drop, min, nat_lt, if◌then◌else◌, Option, Some, None, Ok, Err, refl, sym, ◌∙◌, ap, subst, arith, length-append, length-take, length-drop, append_assoc}
use Rattle.std.specs.List.{sum_by}
use Rattle.std.specs.Int.{to_be_bytes, from_be_bytes, w32}
use Rattle.std.proofs.lemmas.Bool.{cases_lt}
use Rattle.std.proofs.lemmas.Bool.Decides.{nat_tests}
use Rattle.std.proofs.lemmas.List.{take_at, drop_at, drop-drop, take-take}
use Rattle.std.proofs.lemmas.List.Sums.{sum_by-cons}
use Rattle.std.proofs.lemmas.Nat.{from_be_bytes-to_be_bytes_4}
use Rattle.dr_journal.specs.declared.fault.JournalFault.{JournalFault}
use Rattle.dr_journal.specs.declared.fault.JournalFault.TheVariants.{Damaged}
use Rattle.dr_journal.specs.declared.gates.Gate.{Gate}
use Rattle.dr_journal.specs.declared.gates.Gate.TheVariants.{Missing, Closed, Open, CutShort}
use Rattle.dr_journal.specs.Reading.{header, form_1, body_size, journal_of, record_bytes, all_record_bytes}
use Rattle.dr_journal.specs.Reading.Reading.{Whole}
use Rattle.dr_journal.specs.Gates.{gate_in, answer_at}
use Rattle.dr_journal.specs.Places.{place_after, StandsAt, AreAt, IsNext}
use Rattle.dr_journal.specs.Held.{IsTrimmed}
use Rattle.dr_journal.specs.Causes.{OpenFault}
use Rattle.dr_journal.proofs.FileParts.{length-header, length-be, length-all_record_bytes}
use Rattle.dr_journal.proofs.AppendedFile.{had}
use Rattle.dr_journal.proofs.GateWalk.{open_size}
use Rattle.dr_journal.proofs.Laws.{whole_same}

all_record_bytes-append : (xs ys : List (List ℕ)) → all_record_bytes (xs ++ ys) ≡ all_record_bytes xs ++ all_record_bytes ys
all_record_bytes-append [] ys = refl
all_record_bytes-append (x ∷ xs) ys = ap (λ (l : List ℕ). record_bytes x ++ l) (all_record_bytes-append xs ys) ∙ sym (append_assoc (record_bytes x) (all_record_bytes xs) (all_record_bytes ys))

room : (xs : List (List ℕ)) → length (all_record_bytes xs) ≡ sum_by (λ body. 5 + length body) xs
room [] = refl
room (x ∷ xs) = omega (arith, length-all_record_bytes x xs, room xs, sum_by-cons (λ body. 5 + length body) x xs)

closed_inside : (at remaining : ℕ) → 1 < remaining → answer_at at remaining Closed ≡ Err (Damaged at)
closed_inside at remaining more = grind (arith, nat_tests)

closed_last : (at remaining : ℕ) → remaining ≤ 1 → answer_at at remaining Closed ≡ Ok None
closed_last at remaining last = grind (arith, nat_tests)

closed_head : (gate k : ℕ) → gate ≢ 165 → 1 ≤ k → gate_in 1 (take k (gate ∷ [])) ≡ Closed
closed_head gate zero shut some = absurd (omega arith)
closed_head gate (suc k) shut some = grind (arith, nat_tests)

-- an open gate and a length field, whatever else is read behind them
open_head : (remaining k n : ℕ) (rest : List ℕ) → 5 ≤ k → n < 2 ^ 32 → 5 + n < remaining → gate_in remaining (take k (165 ∷ (to_be_bytes w32 n ++ rest))) ≡ Open n
unfolding body_size
open_head remaining zero n rest long fits room = absurd (omega arith)
open_head remaining (suc k) n rest long fits room =
    let field = to_be_bytes w32 n ++ rest in
    let size : body_size (take k field) ≡ n = ap (from_be_bytes w32) (take-take 4 k field (omega arith) ∙ take_at (to_be_bytes w32 n) rest 4 (length-be n)) ∙ from_be_bytes-to_be_bytes_4 n fits in
    ap (λ (m : ℕ). if nat_lt (5 + m) remaining then Open m else CutShort) size ∙ open_size n remaining room

module _ (file : List ℕ) (bodies : List (List ℕ)) (held : IsTrimmed form_1 bodies file) (at : ℕ) where
  behind : (before after : List (List ℕ)) → journal_of file ≡ Whole (before ++ after) → at ≡ place_after before → drop at file ≡ all_record_bytes after ++ held.gate ∷ []
  behind before after is is_at =
      let all : bodies ≡ before ++ after = whole_same bodies (before ++ after) (sym (had form_1 bodies file held) ∙ is) in
      let long : length (header form_1 ++ all_record_bytes before) ≡ at = omega (arith, length-append (header form_1) (all_record_bytes before), length-header form_1, room before) in
      ap (drop at) (held.whole ∙ ap (λ (l : List (List ℕ)). header form_1 ++ (all_record_bytes l ++ held.gate ∷ [])) all ∙ ap (λ (l : List ℕ). header form_1 ++ (l ++ held.gate ∷ [])) (all_record_bytes-append before after)
      ∙ ap (λ (l : List ℕ). header form_1 ++ l) (append_assoc (all_record_bytes before) (all_record_bytes after) (held.gate ∷ [])) ∙ sym (append_assoc (header form_1) (all_record_bytes before) (all_record_bytes after ++ held.gate ∷ [])))
      ∙ drop_at (header form_1 ++ all_record_bytes before) (all_record_bytes after ++ held.gate ∷ []) at long

  left : (before after : List (List ℕ)) → journal_of file ≡ Whole (before ++ after) → at ≡ place_after before → length (drop at file) ≡ length (all_record_bytes after) + 1
  left before after is is_at = omega (arith, ap length (behind before after is is_at), length-append (all_record_bytes after) (held.gate ∷ []))

  pub head_is : (before more : List (List ℕ)) (body : List ℕ) → journal_of file ≡ Whole (before ++ body ∷ more) → at ≡ place_after before → drop at file ≡ 165 ∷ (to_be_bytes w32 (length body) ++ (body ++ (all_record_bytes more ++ held.gate ∷ [])))
  head_is before more body is is_at =
      let be = to_be_bytes w32 (length body) in
      behind before (body ∷ more) is is_at ∙ append_assoc (record_bytes body) (all_record_bytes more) (held.gate ∷ []) ∙ ap (λ (l : List ℕ). 165 ∷ l) (append_assoc be body (all_record_bytes more ++ held.gate ∷ []))

  pub fits : (before more : List (List ℕ)) (body : List ℕ) → journal_of file ≡ Whole (before ++ body ∷ more) → at ≡ place_after before → at + (5 + length body) < length file
  fits before more body is is_at = omega (arith, left before (body ∷ more) is is_at, length-drop at file, length-all_record_bytes body more)

  pub body_is : (before more : List (List ℕ)) (body : List ℕ) → journal_of file ≡ Whole (before ++ body ∷ more) → at ≡ place_after before → take (length body) (drop (at + 5) file) ≡ body
  body_is before more body is is_at =
      let be = to_be_bytes w32 (length body) in
      let tail = all_record_bytes more ++ held.gate ∷ [] in
      ap (take (length body)) (sym (drop-drop 5 at file) ∙ ap (drop 5) (head_is before more body is is_at) ∙ drop_at be (body ++ tail) 4 (length-be (length body)))
      ∙ take_at body tail (length body) refl

  pub stands_inside : StandsAt file at → at < length file
  stands_inside (before, after, is, is_at) = omega (arith, left before after is is_at, length-drop at file)

  -- bytes from a gate on tell what stands there
  module _ (remaining : ℕ) (head : List ℕ) (are : AreAt file at head) (is_left : remaining + at ≡ length file) (enough : min 5 remaining ≤ length head) where
    pub closing : (before : List (List ℕ)) → journal_of file ≡ Whole (before ++ []) → at ≡ place_after before → answer_at at remaining (gate_in remaining head) ≡ Ok None
    closing before is is_at =
        let one : remaining ≡ 1 = omega (arith, left before [] is is_at, length-drop at file) in
        let head_is : head ≡ take (length head) (held.gate ∷ []) = are ∙ ap (take (length head)) (behind before [] is is_at) in
        ap (λ (l : List ℕ). answer_at at remaining (gate_in remaining l)) head_is ∙ ap (λ (n : ℕ). answer_at at n (gate_in n (take (length head) (held.gate ∷ [])))) one
        ∙ ap (answer_at at 1) (closed_head held.gate (length head) held.shut (omega arith))

    pub record_there : (before more : List (List ℕ)) (body : List ℕ) → journal_of file ≡ Whole (before ++ body ∷ more) → at ≡ place_after before → answer_at at remaining (gate_in remaining head) ≡ Ok (Some (length body))
    record_there before more body is is_at =
        let rest = body ++ (all_record_bytes more ++ held.gate ∷ []) in
        let room = fits before more body is is_at in
        let head_is : head ≡ take (length head) (165 ∷ (to_be_bytes w32 (length body) ++ rest)) = are ∙ ap (take (length head)) (head_is before more body is is_at) in
        ap (λ (l : List ℕ). answer_at at remaining (gate_in remaining l)) head_is
        ∙ ap (answer_at at remaining) (open_head remaining (length head) (length body) rest (omega arith) (omega (arith, held.short)) (omega arith))

    pub next_none : answer_at at remaining (gate_in remaining head) ≡ Ok None → IsNext file at None
    next_none told before [] is is_at = refl
    next_none told before (body ∷ more) is is_at = let both : Ok None ≡ Ok (Some (length body)) = sym told ∙ record_there before more body is is_at in cc

    pub size_is : (size : ℕ) → answer_at at remaining (gate_in remaining head) ≡ Ok (Some size) → (before more : List (List ℕ)) (body : List ℕ) → journal_of file ≡ Whole (before ++ body ∷ more) → at ≡ place_after before → length body ≡ size
    size_is size told before more body is is_at = let both : Ok (Some size) ≡ Ok (Some (length body)) = sym told ∙ record_there before more body is is_at in cc

    pub next_some : (size : ℕ) (bytes : List ℕ) → answer_at at remaining (gate_in remaining head) ≡ Ok (Some size) → bytes ≡ take size (drop (at + 5) file) → IsNext file at (Some bytes)
    next_some size bytes told read before [] is is_at = let both : Ok (Some size) ≡ Ok None = sym told ∙ closing before is is_at in cc
    next_some size bytes told read before (body ∷ more) is is_at =
        ap (λ (l : List ℕ). Some l) (read ∙ ap (λ (n : ℕ). take n (drop (at + 5) file)) (sym (size_is size told before more body is is_at)) ∙ body_is before more body is is_at)

    -- an opened journal is never damaged
    pub no_damage : (e : JournalFault) (before after : List (List ℕ)) → journal_of file ≡ Whole (before ++ after) → at ≡ place_after before → answer_at at remaining (gate_in remaining head) ≡ Err e → ⊥
    no_damage e before [] is is_at told = let both : Err e ≡ Ok None = sym told ∙ closing before is is_at in cc
    no_damage e before (body ∷ more) is is_at told = let both : Err e ≡ Ok (Some (length body)) = sym told ∙ record_there before more body is is_at in cc

pub are_taken : (file bytes : List ℕ) (at n : ℕ) → bytes ≡ take n (drop at file) → at + n ≤ length file → AreAt file at bytes
are_taken file bytes at n is inside =
    let long : n ≡ length bytes = omega (arith, ap length is, length-take n (drop at file), length-drop at file) in
    is ∙ ap (λ (k : ℕ). take k (drop at file)) long

-- an answer that is no length is damage at the place
only_damage : (at remaining : ℕ) (gate : Gate) (e : JournalFault) → answer_at at remaining gate ≡ Err e → e ≡ Damaged at
only_damage at remaining Missing e told = let both : Ok None ≡ Err e = told in cc
only_damage at remaining (Open size) e told = let both : Ok (Some size) ≡ Err e = told in cc
only_damage at remaining CutShort e told = let both : Err (Damaged at) ≡ Err e = told in cc
only_damage at remaining Closed e told = elim (cases_lt 1 remaining) [
  | inl more ↦ (let both : Err (Damaged at) ≡ Err e = sym (closed_inside at remaining more) ∙ told in cc)
  | inr last ↦ (let both : Ok None ≡ Err e = sym (closed_last at remaining last) ∙ told in cc)
]

pub damage_fault : (reads : Option (List ℕ)) (earlier now at remaining : ℕ) (gate : Gate) (e : JournalFault) → answer_at at remaining gate ≡ Err e → ((file : List ℕ) → reads ≡ Some file → ⊥) → OpenFault reads earlier now e
damage_fault reads earlier now at remaining gate e told never = subst (OpenFault reads earlier now) (sym (only_damage at remaining gate e told)) (λ file here. absurd (never file here))
