-- A record added to a file that ends with its closing gate, write by write.
use Rattle.std.proofs.Common.{◌≡◌, ◌≢◌, ◌⊎◌, inl, inr, ℕ, ◌+◌, ◌<◌, ◌^◌, List, [], ◌∷◌, ◌++◌, length, get_or, take, drop, refl, sym, ◌∙◌, ap, arith, length-append, append_assoc}
use Rattle.std.proofs.lemmas.Bool.{cases_eq}
use Rattle.std.proofs.lemmas.List.{take_at, take_all, drop_at, drop_all, append-nil, take-append-drop, drop_more}
use Rattle.std.specs.Int.{to_be_bytes, w32}
use Rattle.dr_disk.specs.Disk.{written, Torn}
use Rattle.dr_journal.specs.Reading.{header, journal_in, record_bytes, all_record_bytes}
use Rattle.dr_journal.specs.Reading.Reading.{Whole}
use Rattle.dr_journal.specs.Held.{IsTrimmed}
use Rattle.dr_journal.proofs.FileParts.{length-header, length-be, journal_in-shut, all_record_bytes-push}

-- what stands behind a gate
abbrev pub field : List ℕ → List ℕ
field body = to_be_bytes w32 (length body) ++ (body ++ 0 ∷ [])

pub length-field : (body : List ℕ) → length (field body) ≡ 5 + length body
length-field body = omega (arith, length-append (to_be_bytes w32 (length body)) (body ++ 0 ∷ []), length-append body (0 ∷ []), length-be (length body))

-- the file between the two writes
abbrev pub staged : List ℕ → List ℕ → List ℕ
staged body file = file ++ field body

module _ (form : ℕ) (bodies : List (List ℕ)) (file : List ℕ) (rest : IsTrimmed form bodies file) where
  front : List ℕ
  front = header form ++ all_record_bytes bodies

  whole : file ≡ front ++ rest.gate ∷ []
  unfolding front
  whole = rest.whole ∙ sym (append_assoc (header form) (all_record_bytes bodies) (rest.gate ∷ []))

  length-front : length file ≡ length front + 1
  length-front = omega (arith, ap length whole, length-append front (rest.gate ∷ []))

  short : length (all_record_bytes bodies) < 2 ^ 32
  unfolding front
  short = omega (arith, length-front, rest.short, length-append (header form) (all_record_bytes bodies))

  with_gate : (gate : ℕ) (bytes : List ℕ) → gate ≢ 165 → journal_in form (front ++ gate ∷ bytes) ≡ Whole bodies
  unfolding front
  with_gate gate bytes shut = ap (journal_in form) (append_assoc (header form) (all_record_bytes bodies) (gate ∷ bytes)) ∙ journal_in-shut form bodies gate bytes shut short

  pub had : journal_in form file ≡ Whole bodies
  had = ap (journal_in form) whole ∙ with_gate rest.gate [] rest.shut

  -- the closed gate stands in each image of the first write
  pub torn_behind : (end n : ℕ) (c : List ℕ) → end ≡ length file → Torn end n file c → journal_in form c ≡ Whole bodies
  torn_behind end n c is torn =
      let same : take end c ≡ front ++ rest.gate ∷ [] = torn.before ∙ take_all end file (omega arith) ∙ whole in
      let split : c ≡ front ++ rest.gate ∷ drop end c = sym (take-append-drop end c) ∙ ap (λ (l : List ℕ). l ++ drop end c) same ∙ append_assoc front (rest.gate ∷ []) (drop end c) in
      ap (journal_in form) split ∙ with_gate rest.gate (drop end c) rest.shut

  module _ (body : List ℕ) where
    pub written_behind : (end : ℕ) → end ≡ length file → written end (field body) file ≡ staged body file
    written_behind end is =
        ap (λ (l : List ℕ). l ++ field body ++ drop (end + length (field body)) file) (take_all end file (omega arith))
        ∙ ap (λ (l : List ℕ). file ++ field body ++ l) (drop_all (end + length (field body)) file (omega arith))
        ∙ append-nil (file ++ field body)

    staged_split : staged body file ≡ front ++ rest.gate ∷ field body
    staged_split = ap (λ (l : List ℕ). l ++ field body) whole ∙ append_assoc front (rest.gate ∷ []) (field body)

    -- the file after both
    pub final : List ℕ
    final = header form ++ (all_record_bytes (bodies ++ body ∷ []) ++ 0 ∷ [])

    final_is : front ++ 165 ∷ field body ≡ final
    unfolding front final
    final_is =
        let be = to_be_bytes w32 (length body) in
        let inner : 165 ∷ field body ≡ record_bytes body ++ 0 ∷ [] = ap (λ (l : List ℕ). 165 ∷ l) (sym (append_assoc be body (0 ∷ []))) in
        ap (λ (l : List ℕ). front ++ l) inner ∙ append_assoc (header form) (all_record_bytes bodies) (record_bytes body ++ 0 ∷ [])
        ∙ ap (λ (l : List ℕ). header form ++ l) (sym (append_assoc (all_record_bytes bodies) (record_bytes body) (0 ∷ [])) ∙ ap (λ (l : List ℕ). l ++ 0 ∷ []) (sym (all_record_bytes-push bodies body)))

    length-final : length final ≡ length file + (5 + length body)
    length-final = omega (arith, ap length final_is, length-append front (165 ∷ field body), length-field body, length-front)

    pub final_trimmed : length file + (5 + length body) < 2 ^ 32 → IsTrimmed form (bodies ++ body ∷ []) final
    unfolding final
    final_trimmed fits = record { gate = 0; whole = refl; shut = λ e. cc; short = omega (arith, length-final) }

    pub has_final : length file + (5 + length body) < 2 ^ 32 → journal_in form final ≡ Whole (bodies ++ body ∷ [])
    unfolding final
    has_final fits =
        let all = bodies ++ body ∷ [] in
        journal_in-shut form all 0 [] (λ e. cc) (omega (arith, length-final, length-append (header form) (all_record_bytes all ++ 0 ∷ []), length-append (all_record_bytes all) (0 ∷ []), length-header form))

    pub length_final : length final ≡ length file + (5 + length body)
    length_final = length-final

    module _ (at : ℕ) (is_at : at + 1 ≡ length file) where
      take_staged : take at (staged body file) ≡ front
      take_staged = ap (λ (l : List ℕ). take at l) staged_split ∙ take_at front (rest.gate ∷ field body) at (omega (arith, length-front))

      drop_staged : drop (at + 1) (staged body file) ≡ field body
      drop_staged = drop_at file (field body) (at + 1) (omega arith)

      pub written_gate : written at (165 ∷ []) (staged body file) ≡ final
      written_gate =
          ap (λ (l : List ℕ). l ++ (165 ∷ []) ++ drop (at + 1) (staged body file)) take_staged
          ∙ ap (λ (l : List ℕ). front ++ (165 ∷ []) ++ l) drop_staged
          ∙ append_assoc front (165 ∷ []) (field body)
          ∙ final_is

      -- the record stands whole in each image of the second write
      pub torn_gate : (c : List ℕ) → length file + (5 + length body) < 2 ^ 32 → Torn at 1 (staged body file) c → (journal_in form c ≡ Whole bodies) ⊎ (journal_in form c ≡ Whole (bodies ++ body ∷ []))
      torn_gate c fits torn =
          let gate = get_or c at 0 in
          let long : length (staged body file) ≡ length file + length (field body) = length-append file (field body) in
          let inside : at < length c = omega (arith, torn.no_shorter, length-field body) in
          let back : drop at c ≡ gate ∷ field body = drop_more c at 0 inside ∙ ap (λ (l : List ℕ). gate ∷ l) (torn.after ∙ drop_staged) in
          let split : c ≡ front ++ gate ∷ field body =
          sym (take-append-drop at c) ∙ ap (λ (l : List ℕ). l ++ drop at c) (torn.before ∙ take_staged) ∙ ap (λ (l : List ℕ). front ++ l) back in
          elim (cases_eq gate 165) [
            | inl opened ↦ inr (ap (journal_in form) (split ∙ ap (λ (g : ℕ). front ++ g ∷ field body) opened ∙ final_is) ∙ has_final fits)
            | inr shut ↦ inl (ap (journal_in form) split ∙ with_gate gate (field body) shut)
          ]
