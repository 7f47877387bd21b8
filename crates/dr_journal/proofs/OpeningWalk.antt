-- The walk over the gates of a file through a window.
use Rattle.std.proofs.Common.{◌≡◌, ◌⊎◌, inl, inr, ℕ, ◌+◌, ◌-◌, ◌<◌, ◌≤◌, List, [], ◌∷◌, ◌++◌, length, get_or, take, drop, min, nat_eq, Option, Some, sym, ◌∙◌, ap, subst, arith, length-take, length-drop}
use Rattle.std.proofs.lemmas.List.{take-append-drop, drop_more, get_or-drop, get_or-take, get_or_past}
use Rattle.std.proofs.lemmas.Bool.{cases_lt}
use Rattle.std.specs.List.{starts_with}
use Rattle.std.specs.Cmp.Lexicographic.{pointwise}
use Rattle.dr_journal.specs.Reading.{header, form_1, journal_of}
use Rattle.dr_journal.specs.Reading.Reading.{DamagedAt}
use Rattle.dr_journal.specs.Gates.{gate_in}
use Rattle.dr_journal.specs.Places.{AreAt}
use Rattle.dr_journal.specs.declared.gates.Gate.{Gate}
use Rattle.dr_journal.specs.declared.gates.Gate.TheVariants.{Missing, Closed, Open, CutShort}
use Rattle.dr_journal.specs.Held.{HasFront, ClosesAt}
use Rattle.dr_journal.proofs.GateWalk.{ends, cut_short, goes_on, is_open, is_cut, is_closed, not_missing}
use Rattle.dr_journal.proofs.Reader.{same_gate, shown}
use Rattle.dr_journal.proofs.FileParts.{length-header}

-- what a window shows of the file's bytes from a place on tells the gate there
pub whole_gate : (file head : List ℕ) (at remaining : ℕ) → AreAt file at head → min 5 remaining ≤ length head → length (drop at file) ≤ remaining → gate_in remaining head ≡ gate_in remaining (drop at file)
whole_gate file head at remaining are enough within =
    let split : drop at file ≡ head ++ drop (length head) (drop at file) = sym (take-append-drop (length head) (drop at file)) ∙ ap (λ (l : List ℕ). l ++ drop (length head) (drop at file)) (sym are) in
    sym (ap (gate_in remaining) split ∙ same_gate head (drop (length head) (drop at file)) remaining enough (omega (arith, within, ap length split)))

-- and the bytes of the length field behind it fit
pub field_fits : (file head : List ℕ) (at remaining : ℕ) → AreAt file at head → ((i : ℕ) → get_or head i 0 < 256) → min 5 remaining ≤ length head → length file ≤ at + remaining → (i : ℕ) → get_or (take 4 (drop (at + 1) file)) i 0 < 256
field_fits file head at remaining are fits enough long i = by_field (cases_lt i 4)
  where
    by_head : (i < 4) → (1 + i < length head) ⊎ (length head ≤ 1 + i) → get_or file (at + 1 + i) 0 < 256
    by_head below (inl shown) =
        let place : at + (1 + i) ≡ at + 1 + i = omega arith in
        let same : get_or head (1 + i) 0 ≡ get_or file (at + 1 + i) 0 =
        ap (λ (l : List ℕ). get_or l (1 + i) 0) are ∙ get_or-take (length head) (drop at file) (1 + i) 0 shown ∙ get_or-drop at file (1 + i) 0 ∙ ap (λ (n : ℕ). get_or file n 0) place in
        subst (λ n. n < 256) same (fits (1 + i))
    by_head below (inr past) = subst (λ n. n < 256) (sym (get_or_past file (at + 1 + i) 0 (omega (arith, below, past, enough, long)))) (omega arith)

    by_field : (i < 4) ⊎ (4 ≤ i) → get_or (take 4 (drop (at + 1) file)) i 0 < 256
    by_field (inl below) = subst (λ n. n < 256) (sym (get_or-take 4 (drop (at + 1) file) i 0 below ∙ get_or-drop (at + 1) file i 0)) (by_head below (cases_lt (1 + i) (length head)))
    by_field (inr past) = subst (λ n. n < 256) (sym (get_or_past (take 4 (drop (at + 1) file)) i 0 (omega (arith, past, length-take 4 (drop (at + 1) file))))) (omega arith)

-- the walk has come to a gate: what is known of it, of what the window shows, and of what stands in front of it
pub record WalksTo (reads : Option (List ℕ)) (end at : ℕ) (gate : Gate) (start held : ℕ) (bytes : List ℕ) : Type 0 where
  pub least : 16 ≤ at
  pub inside : at < end
  pub room : (size : ℕ) → gate ≡ Open size → 5 + size < end - at
  pub first : start ≤ at
  pub within : start + held ≤ end
  pub shows : (file : List ℕ) → reads ≡ Some file → AreAt file start bytes
  pub front : (file : List ℕ) → reads ≡ Some file → (bodies : List (List ℕ)) × HasFront form_1 bodies at file
  pub told : (file : List ℕ) → reads ≡ Some file → gate ≡ gate_in (end - at) (drop at file)
  pub fits : (file : List ℕ) → reads ≡ Some file → (i : ℕ) → get_or (take 4 (drop (at + 1) file)) i 0 < 256

module _ (file : List ℕ) (end at : ℕ) (gate : Gate) (bodies : List (List ℕ)) (front : HasFront form_1 bodies at file) (long : length file ≡ end) (told : gate ≡ gate_in (end - at) (drop at file)) where
  here : drop at file ≡ get_or file at 0 ∷ drop (at + 1) file
  here = drop_more file at 0 front.inside

  told_here : gate_in (end - at) (get_or file at 0 ∷ drop (at + 1) file) ≡ gate
  told_here = ap (gate_in (end - at)) (sym here) ∙ sym told

  rest_is : length (drop (at + 1) file) ≡ end - (at + 1)
  rest_is = omega (arith, length-drop (at + 1) file, long)

  -- behind an open gate the front goes on
  pub front_on : (size : ℕ) → gate ≡ Open size → ((i : ℕ) → get_or (take 4 (drop (at + 1) file)) i 0 < 256) → (bodies : List (List ℕ)) × HasFront form_1 bodies (at + (5 + size)) file
  front_on size is fits =
      let all = is_open (end - at) (get_or file at 0) (drop (at + 1) file) size (told_here ∙ is) in
      (bodies ++ take size (drop 4 (drop (at + 1) file)) ∷ [], goes_on form_1 bodies at size file front fits all.0 all.1 (omega (arith, all.2, rest_is, front.inside, long)))

  pub closes_there : gate ≡ Closed → ClosesAt form_1 bodies at file
  closes_there is = ends form_1 bodies at file front (is_closed (end - at) (get_or file at 0) (drop (at + 1) file) (told_here ∙ is))

  pub damaged_there : gate ≡ CutShort → end ≤ 67108864 → 18 ≤ end → journal_of file ≡ DamagedAt at
  damaged_there is small least =
      let all = is_cut (end - at) (get_or file at 0) (drop (at + 1) file) (told_here ∙ is) in
      cut_short form_1 bodies at file front (omega (arith, long, small)) (omega (arith, long, least)) all.0 (omega (arith, all.1, rest_is))

  pub missing_there : gate ≡ Missing → journal_of file ≡ DamagedAt at
  missing_there is = absurd (not_missing (end - at) (get_or file at 0) (drop (at + 1) file) (told_here ∙ is))

  -- at any other gate the file is damaged
  pub damaged_at : ((size : ℕ) → gate ≡ Open size → ⊥) → ((size : ℕ) × (gate ≡ Open size)) ⊎ ((gate ≡ CutShort) ⊎ (gate ≡ Missing)) → end ≤ 67108864 → 18 ≤ end → journal_of file ≡ DamagedAt at
  damaged_at not_open (inl (size, is)) small least = absurd (not_open size is)
  damaged_at not_open (inr (inl is)) small least = damaged_there is small least
  damaged_at not_open (inr (inr is)) small least = missing_there is

-- a window that shows a file's first bytes tells whether it begins with the header
pub begins_alike : (form : ℕ) (file bytes : List ℕ) (start : ℕ) → start ≤ 0 → 16 ≤ start + length bytes → AreAt file start bytes → starts_with nat_eq (drop (0 - start) bytes) (header form) ≡ starts_with nat_eq file (header form)
begins_alike form file bytes start first long are = ap (pointwise nat_eq (header form)) (sized (drop (0 - start) bytes) ∙ shown file bytes start 0 16 first long are ∙ sym (sized file))
  where
    sized : (l : List ℕ) → take (length (header form)) l ≡ take 16 l
    sized l = ap (λ n. take n l) (length-header form)
