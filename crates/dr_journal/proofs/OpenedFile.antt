-- What a restart may find while a journal is opened.
use Rattle.std.proofs.Common.{◌≡◌, ℕ, zero, suc, ◌+◌, ◌-◌, ◌<◌, ◌≤◌, List, [], ◌∷◌, ◌++◌, length, take, drop, Option, Some, None, refl, sym, ◌∙◌, ap, arith, length-append, length-take, append_assoc}
use Rattle.std.specs.Option.{option_map}
use Rattle.std.proofs.lemmas.Option.{same_Some, none-some}
use Rattle.std.proofs.lemmas.List.{append-nil, take_all, drop_all}
use Rattle.dr_disk.specs.Disk.{written, Torn, Cut, NoOther, Follows, OnlyOne}
use Rattle.dr_journal.specs.Reading.{header, form_1, journal_in, journal_of, all_record_bytes}
use Rattle.dr_journal.specs.Reading.Reading.{Whole}
use Rattle.dr_journal.specs.Kept.{SameRecords}
use Rattle.dr_journal.specs.Held.{ClosesAt, IsTrimmed}
use Rattle.dr_journal.specs.State.{JournalState, IsOpen}
use Rattle.dr_journal.proofs.FileParts.{length-header, journal_in-short, journal_in-shut}

pub mapped : (f : List ℕ → List ℕ) (o : Option (List ℕ)) (c : List ℕ) → option_map f o ≡ Some c → (x : List ℕ) × (o ≡ Some x) × (c ≡ f x)
mapped f None c is = absurd (none-some c is)
mapped f (Some x) c is = (x, refl, sym (same_Some (f x) c is))

take_past : (xs ys : List ℕ) (m n : ℕ) → m ≡ length xs + n → take m (xs ++ ys) ≡ xs ++ take n ys
take_past [] ys m n is = ap (λ (k : ℕ). take k ys) (omega arith)
take_past (x ∷ xs) ys zero n is = absurd (omega arith)
take_past (x ∷ xs) ys (suc m) n is = ap (λ (l : List ℕ). x ∷ l) (take_past xs ys m n (omega arith))

both_short : (old new : List ℕ) → length old < 18 → length new < 18 → SameRecords old new
both_short old new old_short new_short = journal_in-short form_1 new new_short ∙ sym (journal_in-short form_1 old old_short)

pub written_short : (I0 I1 I2 : List ℕ → Type 0) → ((c : List ℕ) → I0 c → length c < 18) → NoOther I0 I1 → (n : ℕ) → n ≤ 17 → Follows (Torn 0 n) I1 I2 → (c : List ℕ) → I2 c → (x : List ℕ) × I0 x × SameRecords x c
written_short I0 I1 I2 short others n le write c here =
    let from = write c here in
    let was = others from.0 from.1 in
    let long = short from.0 was in
    (from.0, was, both_short from.0 c long (omega (arith, from.2.no_longer)))

pub empty_trimmed : (bytes c : List ℕ) → bytes ≡ header form_1 ++ 0 ∷ [] → c ≡ bytes → IsTrimmed form_1 [] c
empty_trimmed bytes c is here = record { gate = 0; whole = here ∙ is; shut = λ e. cc; short = omega (arith, ap length (here ∙ is), length-append (header form_1) (0 ∷ []), length-header form_1) }

-- a file that was written over from end to end
pub renewed : (reads0 reads1 reads2 : Option (List ℕ)) (bytes : List ℕ) → ((x : List ℕ) → reads0 ≡ Some x → length x ≤ length bytes) → reads1 ≡ option_map (written 0 bytes) reads0 → reads2 ≡ reads1 → (c : List ℕ) → reads2 ≡ Some c → c ≡ bytes
renewed reads0 reads1 reads2 bytes short write same c reads =
    let from = mapped (written 0 bytes) reads0 c (sym write ∙ sym same ∙ reads) in
    let none : drop (0 + length bytes) from.0 ≡ [] = drop_all (0 + length bytes) from.0 (omega (arith, short from.0 from.1)) in
    from.2 ∙ ap (λ (l : List ℕ). bytes ++ l) none ∙ append-nil bytes

module _ (file : List ℕ) (gate : ℕ) (bodies : List (List ℕ)) (ends : ClosesAt form_1 bodies gate file) (small : gate < 67108864) where
  split : (n : ℕ) → gate + 1 + n ≡ length (header form_1 ++ (all_record_bytes bodies ++ ends.gate ∷ [])) + n
  split n = omega (arith, ends.is_at, length-append (header form_1) (all_record_bytes bodies ++ ends.gate ∷ []), length-append (all_record_bytes bodies) (ends.gate ∷ []), length-header form_1)

  regroup : (bytes : List ℕ) → (header form_1 ++ (all_record_bytes bodies ++ ends.gate ∷ [])) ++ bytes ≡ header form_1 ++ (all_record_bytes bodies ++ ends.gate ∷ bytes)
  regroup bytes = append_assoc (header form_1) (all_record_bytes bodies ++ ends.gate ∷ []) bytes ∙ ap (λ (l : List ℕ). header form_1 ++ l) (append_assoc (all_record_bytes bodies) (ends.gate ∷ []) bytes)

  pub ends_whole : journal_of file ≡ Whole bodies
  ends_whole = ap (journal_in form_1) ends.whole ∙ journal_in-shut form_1 bodies ends.gate ends.rest ends.shut (omega (arith, ends.is_at))

  front_of : (m n : ℕ) → m ≡ gate + 1 + n → take m file ≡ header form_1 ++ (all_record_bytes bodies ++ ends.gate ∷ take n ends.rest)
  front_of m n is =
      ap (take m) (ends.whole ∙ sym (regroup ends.rest))
      ∙ take_past (header form_1 ++ (all_record_bytes bodies ++ ends.gate ∷ [])) ends.rest m n (is ∙ split n)
      ∙ regroup (take n ends.rest)

  inside : gate < length file
  inside = omega (arith, ap length ends.whole, length-append (header form_1) (all_record_bytes bodies ++ ends.gate ∷ ends.rest), length-append (all_record_bytes bodies) (ends.gate ∷ ends.rest), length-header form_1, ends.is_at)

  pub cut_same : (c : List ℕ) → Cut (gate + 1) file c → SameRecords file c
  cut_same c cut =
      let long : gate + 1 ≤ length c = omega (arith, cut.no_shorter, inside) in
      let n = length c - (gate + 1) in
      ap (journal_in form_1) (sym cut.front ∙ front_of (length c) n (omega arith)) ∙ journal_in-shut form_1 bodies ends.gate (take n ends.rest) ends.shut (omega (arith, ends.is_at)) ∙ sym ends_whole

  pub cut_trimmed : (c : List ℕ) → c ≡ take (gate + 1) file → IsTrimmed form_1 bodies c
  cut_trimmed c is = record { gate = ends.gate; whole = is ∙ front_of (gate + 1) 0 (omega arith); shut = ends.shut; short = omega (arith, ap length is, length-take (gate + 1) file) }

  pub cut_ends : (c : List ℕ) → c ≡ take (gate + 1) file → length c ≡ gate + 1
  cut_ends c is = omega (arith, ap length is, length-take (gate + 1) file, inside)

module _ (reads0 : Option (List ℕ)) (I0 I1 : List ℕ → Type 0) (gate : ℕ) (small : gate < 67108864) (one : (c : List ℕ) → I0 c → reads0 ≡ Some c) (ends : (f : List ℕ) → reads0 ≡ Some f → (bodies : List (List ℕ)) × ClosesAt form_1 bodies gate f) (cut : Follows (Cut (gate + 1)) I0 I1) where
  pub trimmed_same : (c : List ℕ) → I1 c → (x : List ℕ) × I0 x × SameRecords x c
  trimmed_same c here =
      let from = cut c here in
      let known = ends from.0 (one from.0 from.1) in
      (from.0, from.1, cut_same from.0 gate known.0 known.1 small c from.2)

  pub trimmed : (after : JournalState) (reads1 reads2 : Option (List ℕ)) (I2 : List ℕ → Type 0) → after.file_length ≡ gate + 1 → reads1 ≡ option_map (take (gate + 1)) reads0 → reads2 ≡ reads1 → ((c : List ℕ) → I2 c → reads1 ≡ Some c) → IsOpen after reads2 I2
  trimmed after reads1 reads2 I2 is was same only = record {
    one = λ c here. same ∙ only c here;
    trimmed = λ c reads.
        let from = mapped (take (gate + 1)) reads0 c (sym was ∙ sym same ∙ reads) in
        let known = ends from.0 from.1 in
        (known.0, cut_trimmed from.0 gate known.0 known.1 small c from.2);
    ends = λ c reads.
        let from = mapped (take (gate + 1)) reads0 c (sym was ∙ sym same ∙ reads) in
        let known = ends from.0 from.1 in
        cut_ends from.0 gate known.0 known.1 small c from.2 ∙ sym is;
  }

-- a file that ends with its closing gate
pub trimmed_already : (reads0 : Option (List ℕ)) (I0 : List ℕ → Type 0) (gate : ℕ) → gate < 67108864 → OnlyOne I0 reads0 → ((f : List ℕ) → reads0 ≡ Some f → (bodies : List (List ℕ)) × ClosesAt form_1 bodies gate f) → (after : JournalState) (reads1 : Option (List ℕ)) (I : List ℕ → Type 0) → after.file_length ≡ gate + 1 → reads1 ≡ reads0 → NoOther I0 I → ((f : List ℕ) → reads0 ≡ Some f → gate + 1 ≡ length f) → IsOpen after reads1 I
trimmed_already reads0 I0 gate small one ends after reads1 I is same others whole = record {
  one = λ c here. same ∙ one c (others c here);
  trimmed = λ c reads.
      let before = sym same ∙ reads in
      let known = ends c before in
      (known.0, cut_trimmed c gate known.0 known.1 small c (sym (take_all (gate + 1) c (omega (arith, whole c before)))));
  ends = λ c reads. sym (whole c (sym same ∙ reads)) ∙ sym is;
}
