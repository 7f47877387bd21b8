-- The walk over the gates of a file, step by step.
use Rattle.std.proofs.Common.{◌≡◌, ◌≢◌, ◌==◌, Bool, false, inl, inr, ℕ, suc, ◌+◌, ◌<◌, ◌≤◌, ◌^◌, List, [], ◌∷◌, ◌++◌, length, get_or, take, drop, true, nat_eq, nat_lt, if◌then◌else◌, refl, sym, ◌∙◌, ap, arith, length-append, length-take, length-drop, append_assoc}
use Rattle.std.proofs.Math.Seq.{take-add}
use Rattle.std.specs.Cmp.Lexicographic.{same_text}
use Rattle.std.proofs.lemmas.List.{append-nil, take-append-drop, drop_more, get_or-drop, get_or-take, get_or_past}
use Rattle.std.proofs.lemmas.Bool.{cases_lt, eqb-true, eq-eqb}
use Rattle.std.proofs.lemmas.Bool.Decides.{nat_tests}
use Rattle.std.proofs.lemmas.Nat.{be_bytes_4}
use Rattle.std.specs.Int.{to_be_bytes, w32}
use Rattle.std.specs.List.{starts_with}
use Rattle.dr_journal.specs.Reading.{header, body_size, journal_in, record_bytes, all_record_bytes}
use Rattle.dr_journal.specs.Reading.Reading.{DamagedAt}
use Rattle.dr_journal.specs.Gates.{gate_in}
use Rattle.dr_journal.specs.declared.gates.Gate.{Gate}
use Rattle.dr_journal.specs.declared.gates.Gate.TheVariants.{Missing, Closed, Open, CutShort}
use Rattle.dr_journal.specs.Held.{HasFront, ClosesAt}
use Rattle.dr_journal.proofs.FileParts.{length-header, journal_in-open, all_record_bytes-push}

pub begun : (form : ℕ) (file : List ℕ) → 18 ≤ length file → starts_with nat_eq file (header form) ≡ true → HasFront form [] 16 file
begun form file long begins = record {
  front = ap (λ (n : ℕ). take n file) (sym (length-header form)) ∙ sym (same_text (header form) (take (length (header form)) file) (sym begins)) ∙ sym (append-nil (header form));
  inside = omega arith;
}

module _ (form : ℕ) (bodies : List (List ℕ)) (at : ℕ) (file : List ℕ) (front : HasFront form bodies at file) where
  pub place_is : at ≡ 16 + length (all_record_bytes bodies)
  place_is = omega (arith, length-take at file, ap length front.front, length-append (header form) (all_record_bytes bodies), length-header form, front.inside)

  pub split : (gate : ℕ) → get_or file at 0 ≡ gate → file ≡ header form ++ (all_record_bytes bodies ++ gate ∷ drop (at + 1) file)
  split gate is =
      sym (take-append-drop at file)
      ∙ ap (λ (l : List ℕ). l ++ drop at file) front.front
      ∙ ap (λ (l : List ℕ). (header form ++ all_record_bytes bodies) ++ l) (drop_more file at 0 front.inside ∙ ap (λ (g : ℕ). g ∷ drop (at + 1) file) is)
      ∙ append_assoc (header form) (all_record_bytes bodies) (gate ∷ drop (at + 1) file)

  pub cut_short : length file < 2 ^ 32 → 18 ≤ length file → get_or file at 0 ≡ 165 → length (drop (at + 1) file) ≤ 4 + body_size (drop (at + 1) file) → journal_in form file ≡ DamagedAt at
  cut_short short long is cut =
      ap (journal_in form) (split 165 is)
      ∙ journal_in-open form bodies (drop (at + 1) file) cut (omega (arith, place_is, length-drop (at + 1) file, front.inside)) (omega (arith, place_is, front.inside))
      ∙ ap DamagedAt (sym place_is)

  pub ends : get_or file at 0 ≢ 165 → ClosesAt form bodies at file
  ends shut = record { gate = get_or file at 0; rest = drop (at + 1) file; whole = split (get_or file at 0) refl; shut = shut; is_at = place_is }

pub open_size : (n remaining : ℕ) → 5 + n < remaining → (if nat_lt (5 + n) remaining then Open n else CutShort) ≡ Open n
open_size n remaining room = grind (arith, nat_tests)

cut_size : (n remaining : ℕ) → remaining ≤ 5 + n → (if nat_lt (5 + n) remaining then Open n else CutShort) ≡ CutShort
cut_size n remaining cut = grind (arith, nat_tests)

pub goes_on : (form : ℕ) (bodies : List (List ℕ)) (at n : ℕ) (file : List ℕ) → HasFront form bodies at file → ((i : ℕ) → get_or (take 4 (drop (at + 1) file)) i 0 < 256) → get_or file at 0 ≡ 165 → n ≡ body_size (drop (at + 1) file)
    → 4 + n < length (drop (at + 1) file) → HasFront form (bodies ++ take n (drop 4 (drop (at + 1) file)) ∷ []) (at + (5 + n)) file
unfolding body_size
goes_on form bodies at n file front fits is n_is whole =
    let rest = drop (at + 1) file in
    let body = take n (drop 4 rest) in
    let body_len : length body ≡ n = omega (arith, length-take n (drop 4 rest), length-drop 4 rest) in
    let four : length (take 4 rest) ≡ 4 = omega (arith, length-take 4 rest) in
    let field : to_be_bytes w32 (length body) ≡ take 4 rest = ap (to_be_bytes w32) body_len ∙ be_bytes_4 (take 4 rest) n four fits n_is in
    let whole_len : 5 + n ≡ suc (4 + n) = omega arith in
    let here : drop at file ≡ 165 ∷ rest = drop_more file at 0 front.inside ∙ ap (λ (g : ℕ). g ∷ rest) is in
    let next : take (5 + n) (drop at file) ≡ record_bytes body =
    ap (take (5 + n)) here ∙ ap (λ (k : ℕ). take k (165 ∷ rest)) whole_len ∙ ap (λ (l : List ℕ). 165 ∷ l) (take-add 4 n rest ∙ ap (λ (l : List ℕ). l ++ body) (sym field)) in
    record {
      front = take-add at (5 + n) file ∙ ap (λ (l : List ℕ). take at file ++ l) next ∙ ap (λ (l : List ℕ). l ++ record_bytes body) front.front
          ∙ append_assoc (header form) (all_record_bytes bodies) (record_bytes body) ∙ ap (λ (l : List ℕ). header form ++ l) (sym (all_record_bytes-push bodies body));
      inside = omega (arith, length-drop (at + 1) file);
    }

-- what stands behind an open gate
pub open_gate : (remaining n : ℕ) (rest : List ℕ) → gate_in remaining (165 ∷ rest) ≡ Open n → (n ≡ body_size rest) × (5 + n < remaining)
open_gate remaining n rest told = elim (cases_lt (5 + body_size rest) remaining) [
  | inl room ↦ (let is : Open n ≡ Open (body_size rest) = sym told ∙ open_size (body_size rest) remaining room in let same : n ≡ body_size rest = cc in (same, omega arith))
  | inr cut ↦ (let is : Open n ≡ CutShort = sym told ∙ cut_size (body_size rest) remaining cut in absurd (let no : ⊥ = cc in no))
]

pub other_gate : (remaining : ℕ) (rest : List ℕ) (gate : Gate) → gate_in remaining (165 ∷ rest) ≡ gate → ((n : ℕ) → gate ≢ Open n) → remaining ≤ 5 + body_size rest
other_gate remaining rest gate told other = elim (cases_lt (5 + body_size rest) remaining) [
  | inl room ↦ absurd (other (body_size rest) (sym told ∙ open_size (body_size rest) remaining room))
  | inr cut ↦ cut
]

-- What stands at a gate's place ------------------------------------------------------------------------

open_byte : (b : Bool) (x : Gate) (n : ℕ) → (if b then x else Closed) ≡ Open n → b ≡ true
open_byte true x n told = refl
open_byte false x n told = absurd (let wrong : Closed ≡ Open n = told in cc)

cut_byte : (b : Bool) (x : Gate) → (if b then x else Closed) ≡ CutShort → b ≡ true
cut_byte true x told = refl
cut_byte false x told = absurd (let wrong : Closed ≡ CutShort = told in cc)

closed_byte : (b c : Bool) (n : ℕ) → (if b then (if c then Open n else CutShort) else Closed) ≡ Closed → b ≡ false
closed_byte true true n told = absurd (let wrong : Open n ≡ Closed = told in cc)
closed_byte true false n told = absurd (let wrong : CutShort ≡ Closed = told in cc)
closed_byte false c n told = refl

never_missing : (b c : Bool) (n : ℕ) → (if b then (if c then Open n else CutShort) else Closed) ≡ Missing → ⊥
never_missing true true n told = let wrong : Open n ≡ Missing = told in cc
never_missing true false n told = let wrong : CutShort ≡ Missing = told in cc
never_missing false c n told = let wrong : Closed ≡ Missing = told in cc

module _ (remaining byte : ℕ) (rest : List ℕ) where
  pub is_open : (n : ℕ) → gate_in remaining (byte ∷ rest) ≡ Open n → (byte ≡ 165) × (n ≡ body_size rest) × (5 + n < remaining)
  is_open n told =
      let is : byte ≡ 165 = eqb-true byte 165 (open_byte (byte == 165) (if nat_lt (5 + body_size rest) remaining then Open (body_size rest) else CutShort) n told) in
      let all = open_gate remaining n rest (ap (λ b. gate_in remaining (b ∷ rest)) (sym is) ∙ told) in
      (is, all.0, all.1)

  pub is_cut : gate_in remaining (byte ∷ rest) ≡ CutShort → (byte ≡ 165) × (remaining ≤ 5 + body_size rest)
  is_cut told =
      let is : byte ≡ 165 = eqb-true byte 165 (cut_byte (byte == 165) (if nat_lt (5 + body_size rest) remaining then Open (body_size rest) else CutShort) told) in
      (is, other_gate remaining rest CutShort (ap (λ b. gate_in remaining (b ∷ rest)) (sym is) ∙ told) (λ n same. cc))

  pub is_closed : gate_in remaining (byte ∷ rest) ≡ Closed → byte ≢ 165
  is_closed told same = let no : false ≡ true = sym (closed_byte (byte == 165) (nat_lt (5 + body_size rest) remaining) (body_size rest) told) ∙ eq-eqb byte 165 same in cc

  pub not_missing : gate_in remaining (byte ∷ rest) ≡ Missing → ⊥
  not_missing told = never_missing (byte == 165) (nat_lt (5 + body_size rest) remaining) (body_size rest) told

-- a record whose gate is open ends in front of the file's end
pub open_inside : (remaining n : ℕ) (bytes : List ℕ) → gate_in remaining bytes ≡ Open n → 5 + n < remaining
open_inside remaining n [] told = absurd (let wrong : Missing ≡ Open n = told in cc)
open_inside remaining n (byte ∷ rest) told = (is_open remaining byte rest n told).2
