-- All of the bytes as a record, or the first place where they can't be one.
use Rattle.std.proofs.Common.{◌≡◌, ℕ, zero, suc, ◌+◌, ◌-◌, ◌^◌, ◌<◌, ◌≤◌, Bool, true, false, cond, eqb, List, [], ◌∷◌, ◌++◌, length, get_or, take, drop, All, Result, Ok, Err, refl, sym, ap, subst, ◌∙◌, append_assoc, arith, inl, inr, length-append}
use Rattle.std.proofs.lemmas.Bool.{eqb-true, eqb-false, cases_order}
use Rattle.std.proofs.lemmas.List.{append-nil, nil_from_length, take_at, take-append-drop, take-take, length_push}
use Rattle.std.proofs.lemmas.List.Elements.{All-from_get_or}
use Rattle.dr_base.specs.declared.stop.Stop.{Stop}
use Rattle.dr_base.specs.declared.stop.Stop.TheVariants as stops
use Rattle.dr_records.specs.declared.records.Record.{Record}
use Rattle.dr_records.specs.declared.records.Record.TheVariants as kinds
use Rattle.dr_records.specs.Spelling.{HasShortLists, spelling, IsRecord, IsOther, BeginsRecord, IsFirstFault}
use Rattle.dr_records.specs.declared.record_fault.RecordFault.{RecordFault}
use Rattle.dr_records.specs.declared.record_fault.RecordFault.TheVariants as faults
use Rattle.dr_records.specs.Reading.{◌>>=◌, StopsAs, fields_at, other_at, whole_other, record_of}
use Rattle.dr_records.proofs.Formats.{IsBytes, Stuck, Reads, Then, then, alike, bind_ok, ok, ok_is}
use Rattle.dr_records.proofs.Fields.{ByteIn, IsBetween, byte_reads, test_ok, test_err}
use Rattle.dr_records.proofs.Names.{parts_of}
use Rattle.dr_records.proofs.Lists.{four_each, start_length}
use Rattle.dr_records.proofs.RecordKinds.{IsKind, start_kind, attempt_kind, begin_kind, done_kind, skip_kind, aside_kind, answer_kind, code_kind, finish_kind}

fields_kind : (k : ℕ) → IsBetween 2 10 k → Reads (IsKind k) (fields_at k)
fields_kind zero h = absurd (omega (arith, h.0))
fields_kind (suc zero) h = absurd (omega (arith, h.0))
fields_kind (suc (suc zero)) h = start_kind
fields_kind (suc (suc (suc zero))) h = attempt_kind
fields_kind (suc (suc (suc (suc zero)))) h = begin_kind
fields_kind (suc (suc (suc (suc (suc zero))))) h = done_kind
fields_kind (suc (suc (suc (suc (suc (suc zero)))))) h = skip_kind
fields_kind (suc (suc (suc (suc (suc (suc (suc zero))))))) h = aside_kind
fields_kind (suc (suc (suc (suc (suc (suc (suc (suc zero)))))))) h = answer_kind
fields_kind (suc (suc (suc (suc (suc (suc (suc (suc (suc zero))))))))) h = code_kind
fields_kind (suc (suc (suc (suc (suc (suc (suc (suc (suc (suc zero)))))))))) h = finish_kind
fields_kind (suc (suc (suc (suc (suc (suc (suc (suc (suc (suc (suc k))))))))))) h = absurd (omega (arith, h.1))

-- a record other than an Estate, and its text
pub record IsWhole (c : Record) (text : List ℕ) : Type 0 where
  pub good : IsRecord c
  pub other : IsOther c
  pub is : text ≡ spelling c

-- the kind of a record, and what stands behind it
pub kind_of : (c : Record) → IsOther c → (k : ℕ) × (text : List ℕ) × IsBetween 2 10 k × (spelling c ≡ k ∷ text)
kind_of (kinds.Estate bytes) h = absurd (h bytes refl)
kind_of (kinds.Start row) h = (2, _, (omega arith, omega arith), refl)
kind_of (kinds.Attempt run moment) h = (3, _, (omega arith, omega arith), refl)
kind_of (kinds.Begin run stage) h = (4, _, (omega arith, omega arith), refl)
kind_of (kinds.Done run stage) h = (5, _, (omega arith, omega arith), refl)
kind_of (kinds.Skip run stage machine) h = (6, _, (omega arith, omega arith), refl)
kind_of (kinds.Aside run machine by_machine) h = (7, _, (omega arith, omega arith), refl)
kind_of (kinds.Answer run step text) h = (8, _, (omega arith, omega arith), refl)
kind_of (kinds.Code run token machine code) h = (9, _, (omega arith, omega arith), refl)
kind_of (kinds.Finish run moment machines) h = (10, _, (omega arith, omega arith), refl)

other_to : (c : Record) (text : List ℕ) → Then (ByteIn 2 10) IsKind c text → IsWhole c text
other_to c text t = record {
  good = t.is_rest.good;
  other = λ bytes e.
      let estate : 1 ∷ bytes ≡ t.first ∷ t.tail = sym (ap spelling e) ∙ t.is_rest.is in
      let same : 1 ≡ t.first = ap (λ (z : List ℕ). get_or z 0 0) estate in
      omega (arith, t.is_first.good.0);
  is = t.parts ∙ ap (λ (z : List ℕ). z ++ t.tail) t.is_first.is ∙ sym t.is_rest.is;
}

other_from : (c : Record) (text : List ℕ) → IsWhole c text → Then (ByteIn 2 10) IsKind c text
other_from c text w =
    let k = kind_of c w.other in
    record {
      first = k.0;
      head = k.0 ∷ [];
      tail = k.1;
      is_first = record { good = k.2; is = refl };
      is_rest = record { good = w.good; is = k.3 };
      parts = w.is ∙ k.3;
    }

pub other_reads : Reads IsWhole other_at
unfolding other_at
other_reads = alike (Then (ByteIn 2 10) IsKind) IsWhole other_at other_to other_from
    (then (byte_reads 2 10 (omega arith)) (λ k text s. fields_kind k s.good))

-- ---- all of the bytes

pub whole_ok : (bytes : List ℕ) (c : Record) → IsBytes bytes → whole_other bytes ≡ Ok c → IsWhole c bytes
unfolding whole_other
whole_ok bytes c fits e =
    let b = bind_ok (other_at bytes) (λ item. cond (eqb (length item.1) 0) (ok item.0) (Err (length item.1))) c e in
    let g = test_ok (eqb (length b.0.1) 0) (length b.0.1) b.0.0 c b.2 in
    let none : b.0.1 ≡ [] = nil_from_length b.0.1 (eqb-true _ _ g.0) in
    let t = other_reads.takes bytes b.0.0 b.0.1 fits b.1 in
    let all : bytes ≡ t.0 = t.2 ∙ ap (λ (z : List ℕ). t.0 ++ z) none ∙ append-nil t.0 in
    subst (λ (r : Record). IsWhole r bytes) g.1 (subst (IsWhole b.0.0) (sym all) t.1)

pub whole_again : (bytes : List ℕ) (c : Record) → IsWhole c bytes → whole_other bytes ≡ Ok c
unfolding whole_other
whole_again bytes c w =
    let found : other_at bytes ≡ Ok (c, []) = ap other_at (sym (append-nil bytes)) ∙ other_reads.again c bytes [] w in
    ap (λ r. r >>= λ item. cond (eqb (length item.1) 0) (ok item.0) (Err (length item.1))) found

abbrev nothing : List ℕ
nothing = []

trailing : (bytes : List ℕ) (c : Record) (after : List ℕ) (left : ℕ) → IsBytes bytes → other_at bytes ≡ Ok (c, after) → length after ≡ left → Stuck IsWhole bytes left
trailing bytes c after left fits e count =
    let t = other_reads.takes bytes c after fits e in
    record {
      front = t.0;
      back = after;
      whole = t.2;
      count = count;
      begins = (c, t.0, [], t.1, sym (append-nil t.0));
      stops = λ d more at x text rest w f.
          let read : ok (x, nothing) ≡ ok (c, d ∷ rest) = sym (other_reads.again x text [] w) ∙ ap other_at (append-nil text ∙ f) ∙ other_reads.again c t.0 (d ∷ rest) t.1 in
          absurd (cc (ap (λ (p : Record × List ℕ). p.1) (ok_is (x, nothing) (c, d ∷ rest) read)));
    }

either_stuck : (bytes : List ℕ) (left : ℕ) → IsBytes bytes → (r : Result (Record × List ℕ) ℕ) → other_at bytes ≡ r → (r >>= λ item. cond (eqb (length item.1) 0) (ok item.0) (Err (length item.1))) ≡ Err left → Stuck IsWhole bytes left
either_stuck bytes left fits (Ok p) e f =
    let g = test_err (eqb (length p.1) 0) (length p.1) left p.0 f in
    trailing bytes p.0 p.1 left fits e g.1
either_stuck bytes left fits (Err n) e f = let same : n ≡ left = cc in other_reads.stuck bytes left fits (e ∙ ap (λ (k : ℕ). Err k) same)

pub whole_stuck : (bytes : List ℕ) (left : ℕ) → IsBytes bytes → whole_other bytes ≡ Err left → Stuck IsWhole bytes left
unfolding whole_other
whole_stuck bytes left fits e = either_stuck bytes left fits (other_at bytes) refl e

-- ---- the two laws

all_bytes : (rest : List ℕ) (k : ℕ) → IsBytes (k ∷ rest) → All (λ b. b < 2 ^ 8) rest
all_bytes rest k fits = All-from_get_or (λ b. b < 2 ^ 8) rest 0 (λ i lt. omega (arith, fits (suc i)))

abbrev IsFound : List ℕ → Record → Type 0
IsFound bytes c = IsRecord c × (bytes ≡ spelling c)

found_at : (k : ℕ) (rest : List ℕ) (c : Record) → IsBytes (k ∷ rest) → (b : Bool) → eqb k 1 ≡ b → cond b (ok (kinds.Estate rest)) (whole_other (k ∷ rest)) ≡ ok c → IsFound (k ∷ rest) c
found_at k rest c fits true t e =
    let same : kinds.Estate rest ≡ c = ok_is (kinds.Estate rest) c e in
    subst (IsFound (k ∷ rest)) same (all_bytes rest k fits, ap (λ (n : ℕ). n ∷ rest) (eqb-true k 1 t))
found_at k rest c fits false t e = let w = whole_ok (k ∷ rest) c fits e in (w.good, w.is)

-- what is read is spelled so
pub is_found : (bytes : List ℕ) (c : Record) → IsBytes bytes → record_of bytes ≡ Ok c → IsFound bytes c
is_found [] c fits e = absurd cc
is_found (k ∷ rest) c fits e = found_at k rest c fits (eqb k 1) refl e

-- what is spelled so is read
pub is_read : (c : Record) → IsRecord c → record_of (spelling c) ≡ Ok c
is_read (kinds.Estate bytes) good = refl
is_read c good = whole_again (spelling c) c (record { good = good; other = λ bytes e. absurd cc; is = refl })

-- a record's lists are short enough to be written
pub short_lists : (c : Record) → IsRecord c → HasShortLists c
short_lists (kinds.Start row) good = (omega (arith, good.groups.0), omega (arith, good.pairs.0))
short_lists (kinds.Finish run moment machines) good = omega (arith, good.2.0)
short_lists c good = tt

-- ---- the first fault

-- how long a record other than an Estate is at most
most_length : (c : Record) → IsRecord c → IsOther c → length (spelling c) < 2 ^ 32
most_length (kinds.Estate bytes) good other = absurd (other bytes refl)
most_length (kinds.Start row) good other = omega (arith, start_length row, (parts_of row.id good.id).few, good.groups.0, good.pairs.0)
most_length (kinds.Attempt run moment) good other = omega arith
most_length (kinds.Begin run stage) good other = omega arith
most_length (kinds.Done run stage) good other = omega arith
most_length (kinds.Skip run stage machine) good other = omega arith
most_length (kinds.Aside run machine by_machine) good other = omega arith
most_length (kinds.Answer run step text) good other = omega (arith, (parts_of text good.2).few)
most_length (kinds.Code run token machine code) good other = omega arith
most_length (kinds.Finish run moment machines) good other = omega (arith, four_each machines, good.2.0)

-- two lists with a longer front in common have one head
same_head : (front : List ℕ) (d a b : ℕ) (x y r s : List ℕ) → a ∷ x ≡ front ++ d ∷ r → b ∷ y ≡ front ++ d ∷ s → a ≡ b
same_head [] d a b x y r s e f = cc
same_head (h ∷ front) d a b x y r s e f = cc

stops_at : (k : ℕ) (tail front : List ℕ) (d : ℕ) (more : List ℕ) → eqb k 1 ≡ false → k ∷ tail ≡ front ++ d ∷ more → ((x : Record) (text rest : List ℕ) → IsWhole x text → text ≡ front ++ d ∷ rest → ⊥) → (item : Record) (rest : List ℕ) → IsRecord item → spelling item ≡ front ++ d ∷ rest → ⊥
stops_at k tail front d more other whole stops (kinds.Estate bytes) rest good e =
    eqb-false k 1 other (same_head front d k 1 tail bytes more rest whole e)
stops_at k tail front d more other whole stops item rest good e =
    stops item (spelling item) rest (record { good = good; other = λ bytes f. absurd cc; is = refl }) e

ended_at : (k : ℕ) (tail : List ℕ) (left : ℕ) → eqb k 1 ≡ false → whole_other (k ∷ tail) ≡ Err left → (item : Record) → IsRecord item → k ∷ tail ≡ spelling item → ⊥
ended_at k tail left other e (kinds.Estate bytes) good f = eqb-false k 1 other (ap (λ (z : List ℕ). get_or z 0 0) f)
ended_at k tail left other e item good f =
    let read = whole_again (k ∷ tail) item (record { good = good; other = λ bytes g. absurd cc; is = f }) in
    absurd (cc (read, e))

-- where back isn't empty, no record begins with front and its first byte
stops_next : (k : ℕ) (tail : List ℕ) (left : ℕ) → eqb k 1 ≡ false → (s : Stuck IsWhole (k ∷ tail) left) → (back : List ℕ) → s.back ≡ back → length s.front < length (k ∷ tail) → BeginsRecord (take (length s.front + 1) (k ∷ tail)) → ⊥
stops_next k tail left other s [] at lt b =
    let whole : k ∷ tail ≡ s.front = s.whole ∙ ap (λ (z : List ℕ). s.front ++ z) at ∙ append-nil s.front in
    omega (arith, ap length whole)
stops_next k tail left other s (d ∷ more) at lt b =
    let whole : k ∷ tail ≡ s.front ++ d ∷ more = s.whole ∙ ap (λ (z : List ℕ). s.front ++ z) at in
    let seam : k ∷ tail ≡ (s.front ++ d ∷ []) ++ more = whole ∙ sym (append_assoc s.front (d ∷ []) more) in
    let taken : take (length s.front + 1) (k ∷ tail) ≡ s.front ++ d ∷ [] = ap (take (length s.front + 1)) seam ∙ take_at (s.front ++ d ∷ []) more (length s.front + 1) (length_push s.front d) in
    stops_at k tail s.front d more other whole (λ x text rest w f. s.stops d more at x text rest w f) b.0 b.1 b.2 (b.3 ∙ ap (λ (z : List ℕ). z ++ b.1) taken ∙ append_assoc s.front (d ∷ []) b.1)

-- how the fault of the code stands in the bytes
pub record IsFault (bytes : List ℕ) (left : ℕ) : Type 0 where
  pub within : left ≤ length bytes
  pub first : IsFirstFault bytes (length bytes - left)
  pub small : length bytes - left < 2 ^ 32

fault_of : (k : ℕ) (tail : List ℕ) (left : ℕ) → eqb k 1 ≡ false → whole_other (k ∷ tail) ≡ Err left → Stuck IsWhole (k ∷ tail) left → IsFault (k ∷ tail) left
fault_of k tail left other e s =
    let size : length (k ∷ tail) ≡ length s.front + length s.back = ap length s.whole ∙ length-append s.front s.back in
    let count : length s.back ≡ left = s.count in
    let n : length (k ∷ tail) - left ≡ length s.front = omega arith in
    let taken : take (length s.front) (k ∷ tail) ≡ s.front = ap (take (length s.front)) s.whole ∙ take_at s.front s.back (length s.front) refl in
    let b = s.begins in
    let longest = most_length b.0 b.3.good b.3.other in
    let long : length (spelling b.0) ≡ length s.front + length b.2 = ap length (sym b.3.is ∙ b.4) ∙ length-append s.front b.2 in
    record {
      within = omega arith;
      first = subst (IsFirstFault (k ∷ tail)) (sym n) (record {
        within = omega arith;
        begins = (b.0, b.2, b.3.good, sym b.3.is ∙ b.4 ∙ ap (λ (z : List ℕ). z ++ b.2) (sym taken));
        stops = stops_next k tail left other s s.back refl;
        ended = ended_at k tail left other e;
      });
      small = omega arith;
    }

fault_at : (k : ℕ) (tail : List ℕ) (left : ℕ) → IsBytes (k ∷ tail) → (b : Bool) → eqb k 1 ≡ b → cond b (ok (kinds.Estate tail)) (whole_other (k ∷ tail)) ≡ Err left → IsFault (k ∷ tail) left
fault_at k tail left fits true t e = absurd cc
fault_at k tail left fits false t e = fault_of k tail left t e (whole_stuck (k ∷ tail) left fits e)

no_empty : (item : Record) → [] ≡ spelling item → ⊥
no_empty (kinds.Estate bytes) e = absurd cc
no_empty item e = absurd cc

-- a fault is the first one
pub is_fault : (bytes : List ℕ) (left : ℕ) → IsBytes bytes → record_of bytes ≡ Err left → IsFault bytes left
is_fault [] left fits e =
    let s = other_reads.sample in
    let none : 0 ≡ left = cc in
    let at_start : 0 ≡ length nothing - left = omega arith in
    record {
      within = omega arith;
      first = subst (IsFirstFault []) at_start (record {
        within = omega arith;
        begins = (s.0, spelling s.0, s.2.good, refl);
        stops = λ lt b. omega (arith, lt);
        ended = λ item good f. no_empty item f;
      });
      small = omega arith;
    }
is_fault (k ∷ tail) left fits e = fault_at k tail left fits (eqb k 1) refl e

-- ---- there is one first fault

shorter : (n m : ℕ) (bytes : List ℕ) → n ≤ m → BeginsRecord (take m bytes) → BeginsRecord (take n bytes)
shorter n m bytes le b =
    let parts : take m bytes ≡ take n bytes ++ drop n (take m bytes) = sym (take-append-drop n (take m bytes)) ∙ ap (λ (z : List ℕ). z ++ drop n (take m bytes)) (take-take n m bytes le) in
    (b.0, drop n (take m bytes) ++ b.1, b.2, b.3 ∙ ap (λ (z : List ℕ). z ++ b.1) parts ∙ append_assoc (take n bytes) (drop n (take m bytes)) b.1)

pub one_fault : (bytes : List ℕ) (m n : ℕ) → IsFirstFault bytes m → IsFirstFault bytes n → m ≡ n
one_fault bytes m n f g =
    elim (cases_order m n) [
      | inl same ↦ same
      | inr (inl lt) ↦ absurd (f.stops (omega (arith, g.within)) (shorter (m + 1) n bytes (omega arith) g.begins))
      | inr (inr lt) ↦ absurd (g.stops (omega (arith, f.within)) (shorter (n + 1) m bytes (omega arith) f.begins))
    ]

-- ---- laws of spellings

pub one_record : (a b : Record) → IsRecord a → IsRecord b → spelling a ≡ spelling b → a ≡ b
one_record a b f g e = ok_is a b (sym (is_read a f) ∙ ap record_of e ∙ is_read b g)

pub no_front : (a b : Record) (rest : List ℕ) → IsRecord a → IsOther a → IsRecord b → spelling b ≡ spelling a ++ rest → (a ≡ b) × (rest ≡ [])
no_front a (kinds.Estate bytes) rest f other g e =
    let k = kind_of a other in
    let estate : 1 ∷ bytes ≡ k.0 ∷ (k.1 ++ rest) = e ∙ ap (λ (z : List ℕ). z ++ rest) k.3 in
    let same : 1 ≡ k.0 = ap (λ (z : List ℕ). get_or z 0 0) estate in
    absurd (omega (arith, k.2.0))
no_front a b rest f other g e =
    let ours = other_reads.again a (spelling a) rest (record { good = f; other = other; is = refl }) in
    let theirs = other_reads.again b (spelling b) [] (record { good = g; other = λ bytes h. absurd cc; is = refl }) in
    let first : Record × List ℕ = (a, rest) in
    let second : Record × List ℕ = (b, []) in
    let pair : first ≡ second = ok_is first second (sym ours ∙ ap other_at (sym e) ∙ ap other_at (sym (append-nil (spelling b))) ∙ theirs) in
    (ap (λ (p : Record × List ℕ). p.0) pair, ap (λ (p : Record × List ℕ). p.1) pair)

-- where a reader of all of the bytes stopped
pub stopped : (bytes : List ℕ) (stop : Stop ℕ) (left : ℕ) → IsBytes bytes → stop ≡ stops.Fault left → StopsAs stop (record_of bytes) → IsFault bytes left
stopped bytes stop left fits e h = is_fault bytes left fits (subst (λ (s : Stop ℕ). StopsAs s (record_of bytes)) e h)

abbrev pub answer : ℕ → Result Record RecordFault
answer n = Err (faults.Malformed n)

pub told : (bytes : List ℕ) (left n : ℕ) → IsFault bytes left → answer (length bytes - left) ≡ answer n → IsFirstFault bytes n
told bytes left n f e = let same : length bytes - left ≡ n = cc in subst (IsFirstFault bytes) same f.first
