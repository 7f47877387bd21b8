-- The four calls of a disk that add a record, over what its images may be after each.
use Rattle.std.proofs.Common.{◌≡◌, ⊎_elim, ℕ, ◌+◌, ◌<◌, ◌^◌, List, [], ◌∷◌, ◌++◌, length, Option, Some, sym, ◌∙◌, ap, subst, arith}
use Rattle.std.specs.Option.{option_map}
use Rattle.std.proofs.lemmas.Option.{same_Some}
use Rattle.std.proofs.lemmas.List.{append-nil}
use Rattle.dr_disk.specs.Disk.{written, Torn, NoOther, Follows}
use Rattle.dr_journal.specs.Reading.{form_1, journal_of}
use Rattle.dr_journal.specs.Reading.Reading.{Whole}
use Rattle.dr_journal.specs.Kept.{Appends, AppendsSome}
use Rattle.dr_journal.specs.Held.{IsTrimmed}
use Rattle.dr_journal.specs.State.{JournalState, IsOpen}
use Rattle.dr_journal.proofs.AppendedFile.{field, staged, final, had, torn_behind, written_behind, written_gate, torn_gate, final_trimmed, has_final, length_final}

-- without the record
pub none_of : (body old new : List ℕ) (bodies : List (List ℕ)) → journal_of old ≡ Whole bodies → journal_of new ≡ Whole bodies → AppendsSome (body ∷ []) old new
none_of body old new bodies old_is new_is =
    record { count = 0; within = omega arith; appends = record { bodies = bodies; had = old_is; has = new_is ∙ ap Whole (sym (append-nil bodies)) } }

pub all_of : (body old new : List ℕ) → Appends (body ∷ []) old new → AppendsSome (body ∷ []) old new
all_of body old new appends = record { count = 1; within = omega arith; appends = appends }

module _ (journal : JournalState) (reads0 : Option (List ℕ)) (I0 : List ℕ → Type 0) (open_before : IsOpen journal reads0 I0) (body bytes : List ℕ) (is_field : bytes ≡ field body) (fits : journal.file_length + (5 + length body) < 2 ^ 32) (end at : ℕ) (is_end : end ≡ journal.file_length) (is_at : at + 1 ≡ end) (n : ℕ) where
  module _ (I1 : List ℕ → Type 0) (first : Follows (Torn end n) I0 I1) where
    pub written_once : (c : List ℕ) → I1 c → (x : List ℕ) × I0 x × AppendsSome (body ∷ []) x c
    written_once c here =
        let from = first c here in
        let reads = open_before.one from.0 from.1 in
        let known = open_before.trimmed from.0 reads in (
          from.0,
          from.1,
          none_of body from.0 c known.0 (had form_1 known.0 from.0 known.1) (torn_behind form_1 known.0 from.0 known.1 end n c (is_end ∙ sym (open_before.ends from.0 reads)) from.2),
        )

    module _ (reads1 : Option (List ℕ)) (write : reads1 ≡ option_map (written end bytes) reads0) (I2 : List ℕ → Type 0) (others : NoOther I1 I2) (one : (c : List ℕ) → I2 c → reads1 ≡ Some c) where
      reads_staged : (x : List ℕ) → I0 x → reads1 ≡ Some (staged body x)
      reads_staged x here =
          let reads = open_before.one x here in
          let known = open_before.trimmed x reads in
          write ∙ ap (option_map (written end bytes)) reads ∙ ap (λ (b : List ℕ). Some (written end b x)) is_field
          ∙ ap Some (written_behind form_1 known.0 x known.1 body end (is_end ∙ sym (open_before.ends x reads)))

      is_staged : (c : List ℕ) → I2 c → (x : List ℕ) × I0 x × (c ≡ staged body x)
      is_staged c here =
          let from = first c (others c here) in
          (from.0, from.1, same_Some c (staged body from.0) (sym (one c here) ∙ reads_staged from.0 from.1))

      module _ (I3 : List ℕ → Type 0) (second : Follows (Torn at 1) I2 I3) where
        pub written_twice : (c : List ℕ) → I3 c → (x : List ℕ) × I0 x × AppendsSome (body ∷ []) x c
        written_twice c here =
            let from = second c here in
            let was = is_staged from.0 from.1 in
            let reads = open_before.one was.0 was.1 in
            let known = open_before.trimmed was.0 reads in
            let long = open_before.ends was.0 reads in
            let before = had form_1 known.0 was.0 known.1 in (
              was.0,
              was.1,
              ⊎_elim (λ none. none_of body was.0 c known.0 before none) (λ one. all_of body was.0 c (record { bodies = known.0; had = before; has = one }))
                  (torn_gate form_1 known.0 was.0 known.1 body at (omega arith) c (omega arith) (subst (λ (f : List ℕ). Torn at 1 f c) was.2 from.2)),
            )

        module _ (reads2 reads3 : Option (List ℕ)) (same : reads2 ≡ reads1) (gate : reads3 ≡ option_map (written at (165 ∷ [])) reads2) (I4 : List ℕ → Type 0) (others_too : NoOther I3 I4) (one_too : (c : List ℕ) → I4 c → reads3 ≡ Some c) where
          pub is_final : (c : List ℕ) → I4 c → (x : List ℕ) × I0 x × (bodies : List (List ℕ)) × (rest : IsTrimmed form_1 bodies x) × (c ≡ final form_1 bodies x rest body)
          is_final c here =
              let from = second c (others_too c here) in
              let was = is_staged from.0 from.1 in
              let reads = open_before.one was.0 was.1 in
              let known = open_before.trimmed was.0 reads in
              let long = open_before.ends was.0 reads in
              let now : reads3 ≡ Some (final form_1 known.0 was.0 known.1 body) =
              gate ∙ ap (option_map (written at (165 ∷ []))) (same ∙ reads_staged was.0 was.1) ∙ ap Some (written_gate form_1 known.0 was.0 known.1 body at (omega arith)) in
              (was.0, was.1, known.0, known.1, same_Some c (final form_1 known.0 was.0 known.1 body) (sym (one_too c here) ∙ now))

          pub appended : (c : List ℕ) → I4 c → (x : List ℕ) × I0 x × Appends (body ∷ []) x c
          appended c here =
              let was = is_final c here in
              let long = open_before.ends was.0 (open_before.one was.0 was.1) in
              (was.0, was.1, record { bodies = was.2; had = had form_1 was.2 was.0 was.3; has = ap journal_of was.4 ∙ has_final form_1 was.2 was.0 was.3 body (omega arith) })

          pub open_after : (after : JournalState) (reads4 : Option (List ℕ)) → after.file_length ≡ journal.file_length + (5 + length body) → reads4 ≡ reads3 → ((c : List ℕ) → reads4 ≡ Some c → I4 c) → IsOpen after reads4 I4
          open_after after reads4 ends keeps finds = record {
            one = λ c here. keeps ∙ one_too c here;
            trimmed = λ c reads.
                let was = is_final c (finds c reads) in
                let long = open_before.ends was.0 (open_before.one was.0 was.1) in
                (was.2 ++ body ∷ [], subst (IsTrimmed form_1 (was.2 ++ body ∷ [])) (sym was.4) (final_trimmed form_1 was.2 was.0 was.3 body (omega arith)));
            ends = λ c reads.
                let was = is_final c (finds c reads) in
                let long = open_before.ends was.0 (open_before.one was.0 was.1) in
                omega (arith, ap length was.4, length_final form_1 was.2 was.0 was.3 body);
          }
