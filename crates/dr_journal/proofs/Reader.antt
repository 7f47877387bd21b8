-- What a reader's window shows, and where the reader stands after a step.
use Rattle.std.proofs.Common.{◌≡◌, ℕ, ◌+◌, ◌-◌, ◌≤◌, true, false, List, [], ◌∷◌, ◌++◌, length, take, drop, min, nat_lt, ◌==◌, if◌then◌else◌, Some, None, Ok, Err, refl, sym, ◌∙◌, ap, subst, arith, length-append, length-take, length-drop, append_assoc}
use Rattle.std.proofs.Math.Seq.{take-add}
use Rattle.std.proofs.lemmas.List.{append-nil, take-append-le, take-take, drop-take, drop-drop}
use Rattle.std.specs.Int.{from_be_bytes, w32}
use Rattle.dr_journal.specs.declared.gates.Gate.TheVariants.{Closed, Open, CutShort}
use Rattle.dr_journal.specs.declared.fault.JournalFault.{JournalFault}
use Rattle.dr_journal.specs.Reading.{form_1, journal_of, body_size}
use Rattle.dr_journal.specs.Reading.Reading.{Whole}
use Rattle.dr_journal.specs.Gates.{gate_in, answer_at}
use Rattle.dr_journal.specs.Places.{place_after, AreAt}
use Rattle.dr_journal.specs.Held.{IsTrimmed}
use Rattle.dr_journal.specs.Walk.{ReaderState, IsAt, Moves}
use Rattle.dr_journal.proofs.AppendedFile.{had}
use Rattle.dr_journal.proofs.Laws.{place_after-push}
use Rattle.dr_journal.proofs.NextRecord.{closing, record_there, size_is, body_is, no_damage}

-- Windows.

pub are_from : (file bytes : List ℕ) (start at : ℕ) → start ≤ at → at ≤ start + length bytes → AreAt file start bytes → AreAt file at (drop (at - start) bytes)
are_from file bytes start at first last are =
    let m = length (drop (at - start) bytes) in
    let all : length bytes ≡ (at - start) + m = omega (arith, length-drop (at - start) bytes) in
    let place : start + (at - start) ≡ at = omega arith in
    ap (drop (at - start)) (are ∙ ap (λ (n : ℕ). take n (drop start file)) all) ∙ drop-take (at - start) m (drop start file)
    ∙ ap (take m) (drop-drop (at - start) start file ∙ ap (λ (n : ℕ). drop n file) place)

pub are_more : (file bytes : List ℕ) (at had n : ℕ) → had ≡ length bytes → AreAt file at bytes → at + had + n ≤ length file → AreAt file at (bytes ++ take n (drop (at + had) file))
are_more file bytes at had n is_had are inside =
    let more = take n (drop (at + had) file) in
    let all : bytes ++ more ≡ take (had + n) (drop at file) =
    ap (λ (l : List ℕ). l ++ more) (are ∙ ap (λ (k : ℕ). take k (drop at file)) (sym is_had)) ∙ ap (λ (l : List ℕ). take had (drop at file) ++ take n l) (sym (drop-drop had at file)) ∙ sym (take-add had n (drop at file)) in
    let long : length (bytes ++ more) ≡ had + n = omega (arith, length-append bytes more, length-take n (drop (at + had) file), length-drop (at + had) file) in
    all ∙ ap (λ (k : ℕ). take k (drop at file)) (sym long)

-- a front of what a window shows from a place on
pub shown : (file bytes : List ℕ) (start at size : ℕ) → start ≤ at → at + size ≤ start + length bytes → AreAt file start bytes → take size (drop (at - start) bytes) ≡ take size (drop at file)
shown file bytes start at size first last are =
    let m = length (drop (at - start) bytes) in
    let room : size ≤ m = omega (arith, length-drop (at - start) bytes) in
    ap (take size) (are_from file bytes start at first (omega arith) are) ∙ take-take size m (drop at file) room

-- bytes behind the first five tell nothing of a gate
pub same_gate : (head more : List ℕ) (remaining : ℕ) → min 5 remaining ≤ length head → length (head ++ more) ≤ remaining → gate_in remaining (head ++ more) ≡ gate_in remaining head
unfolding body_size
same_gate [] [] remaining enough within = refl
same_gate [] (byte ∷ more) remaining enough within = absurd (omega arith)
same_gate (gate ∷ field) [] remaining enough within = ap (gate_in remaining) (append-nil (gate ∷ field))
same_gate (gate ∷ field) (byte ∷ more) remaining enough within =
    let long : 4 ≤ length field = omega (arith, length-append (gate ∷ field) (byte ∷ more)) in
    let size : body_size (field ++ byte ∷ more) ≡ body_size field = ap (from_be_bytes w32) (take-append-le 4 field (byte ∷ more) long) in
    ap (λ (n : ℕ). if gate == 165 then (if nat_lt (5 + n) remaining then Open n else CutShort) else Closed) size

-- Steps.

-- a reader that stays in front of the same record
pub stays : (old new : ReaderState) (file : List ℕ) → new.file_length ≡ old.file_length → new.next_place ≡ old.next_place → AreAt file new.window_place new.window → (before after : List (List ℕ)) → IsAt old file before after → IsAt new file before after
stays old new file same place shows before after is_at = record { trimmed = is_at.trimmed; ends = is_at.ends ∙ sym same; place = place ∙ is_at.place; shows = shows }

module _ (old new : ReaderState) (file head : List ℕ) (at remaining : ℕ) (before_step : old.next_place ≡ at) (same : new.file_length ≡ old.file_length) (is_left : remaining + at ≡ old.file_length) (are : AreAt file at head) (enough : min 5 remaining ≤ length head) where
  told_at : (before after : List (List ℕ)) (is_at : IsAt old file before after) → (journal_of file ≡ Whole (before ++ after)) × (at ≡ place_after before) × (remaining + at ≡ length file)
  told_at before after is_at = (had form_1 (before ++ after) file is_at.trimmed, sym before_step ∙ is_at.place, is_left ∙ sym is_at.ends)

  -- at the closing gate
  pub ends_there : AreAt file new.window_place new.window → answer_at at remaining (gate_in remaining head) ≡ Ok None → new.next_place ≡ at → (before after : List (List ℕ)) → IsAt old file before after → Moves file before after false new
  ends_there shows told place before [] is_at = (refl, stays old new file same (place ∙ sym before_step) shows before [] is_at)
  ends_there shows told place before (body ∷ after) is_at =
      let known = told_at before (body ∷ after) is_at in
      let both : Ok None ≡ Ok (Some (length body)) = sym told ∙ record_there file (before ++ body ∷ after) is_at.trimmed at remaining head are known.2 enough before after body known.0 known.1 in
      cc

  -- at a record
  pub goes_to : (size : ℕ) → AreAt file new.window_place new.window → answer_at at remaining (gate_in remaining head) ≡ Ok (Some size) → new.next_place ≡ at + (5 + size) → new.body ≡ take size (drop (at + 5) file) → (before after : List (List ℕ)) → IsAt old file before after → Moves file before after true new
  goes_to size shows told place read before [] is_at =
      let known = told_at before [] is_at in
      let both : Ok (Some size) ≡ Ok None = sym told ∙ closing file (before ++ []) is_at.trimmed at remaining head are known.2 enough before known.0 known.1 in
      cc
  goes_to size shows told place read before (body ∷ after) is_at =
      let all = before ++ body ∷ after in
      let known = told_at before (body ∷ after) is_at in
      let sized = size_is file all is_at.trimmed at remaining head are known.2 enough size told before after body known.0 known.1 in
      let regroup : (before ++ body ∷ []) ++ after ≡ all = append_assoc before (body ∷ []) after in (
        refl,
        read ∙ ap (λ (n : ℕ). take n (drop (at + 5) file)) (sym sized) ∙ body_is file all is_at.trimmed at before after body known.0 known.1,
        record {
          trimmed = subst (λ (l : List (List ℕ)). IsTrimmed form_1 l file) (sym regroup) is_at.trimmed;
          ends = is_at.ends ∙ sym same;
          place = omega (arith, place, sized, known.1, place_after-push before body);
          shows = shows;
        },
      )

  -- never
  pub damage_there : (e : JournalFault) → answer_at at remaining (gate_in remaining head) ≡ Err e → (before after : List (List ℕ)) → IsAt old file before after → ⊥
  damage_there e told before after is_at =
      let known = told_at before after is_at in
      no_damage file (before ++ after) is_at.trimmed at remaining head are known.2 enough e before after known.0 known.1 told

-- The body in the window.

pub body_shown : (file bytes : List ℕ) (start at size from to : ℕ) → start ≤ at → at + (5 + size) ≤ start + length bytes → from ≡ at - start + 5 → to ≡ from + size → AreAt file start bytes → take (to - from) (drop from bytes) ≡ take size (drop (at + 5) file)
body_shown file bytes start at size from to first last is_from is_to are =
    let count : to - from ≡ size = omega arith in
    let place : from ≡ at + 5 - start = omega arith in
    ap (λ (n : ℕ). take n (drop from bytes)) count ∙ ap (λ (n : ℕ). take size (drop n bytes)) place ∙ shown file bytes start (at + 5) size (omega arith) (omega arith) are

pub body_length : (bytes : List ℕ) (start at size from to : ℕ) → start ≤ at → at + (5 + size) ≤ start + length bytes → from ≡ at - start + 5 → to ≡ from + size → length (take (to - from) (drop from bytes)) ≡ size
body_length bytes start at size from to first last is_from is_to = omega (arith, length-take (to - from) (drop from bytes), length-drop from bytes)

pub body_told : (bytes : List ℕ) (start at size from to : ℕ) → start ≤ at → at + (5 + size) ≤ start + length bytes → from ≡ at - start + 5 → to ≡ from + size → take (to - from) (drop from bytes) ≡ take (length (take (to - from) (drop from bytes))) (drop 5 (drop (at - start) bytes))
body_told bytes start at size from to first last is_from is_to =
    let count : to - from ≡ length (take (to - from) (drop from bytes)) = omega (arith, body_length bytes start at size from to first last is_from is_to) in
    let rest : drop from bytes ≡ drop 5 (drop (at - start) bytes) = ap (λ (n : ℕ). drop n bytes) is_from ∙ sym (drop-drop 5 (at - start) bytes) in
    ap (λ (n : ℕ). take n (drop from bytes)) count ∙ ap (take (length (take (to - from) (drop from bytes)))) rest

-- what a gate's first bytes told, all bytes tell that the window then has
pub answer_kept : (at remaining size : ℕ) (head now more body : List ℕ) → now ≡ head ++ more → min 5 remaining ≤ length head → length now ≤ remaining → answer_at at remaining (gate_in remaining head) ≡ Ok (Some size) → length body ≡ size → answer_at at remaining (gate_in remaining now) ≡ Ok (Some (length body))
answer_kept at remaining size head now more body is enough within told sized =
    ap (λ (l : List ℕ). answer_at at remaining (gate_in remaining l)) is ∙ ap (answer_at at remaining) (same_gate head more remaining enough (omega (arith, ap length is))) ∙ told ∙ ap (λ (n : ℕ). Ok (Some n)) (sym sized)
