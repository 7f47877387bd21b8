-- What a file stands for, by what it is made of.
use Rattle.std.proofs.Common.{Bool, ◌&&◌, ◌≡◌, ◌≢◌, ℕ, zero, suc, ◌+◌, ◌<◌, ◌≤◌, ◌^◌, List, [], ◌∷◌, ◌++◌, length, take, drop, true, false, nat_eq, refl, sym, ◌∙◌, ap, arith, length-append, append_assoc}
use Rattle.std.proofs.lemmas.List.{take_at, drop_at, append-nil}
use Rattle.std.proofs.lemmas.Bool.{eq-eqb}
use Rattle.std.proofs.lemmas.Bool.Decides.{nat_tests}
use Rattle.std.proofs.lemmas.Nat.{from_be_bytes-to_be_bytes_4}
use Rattle.std.specs.Int.{to_be_bytes, from_be_bytes, w32}
use Rattle.std.specs.List.{starts_with}
use Rattle.dr_journal.specs.Reading.{Reading, header, with_first, body_size, records_from, journal_in, record_bytes, all_record_bytes}
use Rattle.dr_journal.specs.Reading.Reading.{Whole, DamagedAt}

-- more records in front
pub before : List (List ℕ) → Reading → Reading
before [] reading = reading
before (body ∷ bodies) reading = with_first body (before bodies reading)

pub before-whole : (xs : List (List ℕ)) → before xs (Whole []) ≡ Whole xs
unfolding before
before-whole [] = refl
before-whole (x ∷ xs) = ap (with_first x) (before-whole xs)

pub before-damaged : (xs : List (List ℕ)) (p : ℕ) → before xs (DamagedAt p) ≡ DamagedAt p
unfolding before
before-damaged [] p = refl
before-damaged (x ∷ xs) p = ap (with_first x) (before-damaged xs p)

pub length-be : (n : ℕ) → length (to_be_bytes w32 n) ≡ 4
length-be n = refl

walk_past : (k place : ℕ) (xs ys : List ℕ) → length xs ≡ k → records_from k place (xs ++ ys) ≡ records_from 0 (place + k) ys
unfolding records_from
walk_past zero place [] ys is = ap (λ p. records_from 0 p ys) (omega arith)
walk_past zero place (x ∷ xs) ys is = absurd (omega arith)
walk_past (suc k) place [] ys is = absurd (omega arith)
walk_past (suc k) place (x ∷ xs) ys is =
    walk_past k (place + 1) xs ys (omega arith) ∙ ap (λ p. records_from 0 p ys) (omega arith)

walk_shut : (place gate : ℕ) (bytes : List ℕ) → gate ≢ 165 → records_from 0 place (gate ∷ bytes) ≡ Whole []
unfolding records_from
walk_shut place gate bytes shut = grind (arith, nat_tests)

pub walk_damaged : (place : ℕ) (bytes : List ℕ) → length bytes ≤ 4 + body_size bytes → records_from 0 place (165 ∷ bytes) ≡ DamagedAt place
unfolding records_from
walk_damaged place bytes short = grind (arith, nat_tests)

walk_open : (place : ℕ) (bytes : List ℕ) → 4 + body_size bytes < length bytes → records_from 0 place (165 ∷ bytes) ≡ with_first (take (body_size bytes) (drop 4 bytes)) (records_from (4 + body_size bytes) (place + 1) bytes)
unfolding records_from
walk_open place bytes fits = grind (arith, nat_tests)

body_size-front : (n : ℕ) (bytes : List ℕ) → n < 2 ^ 32 → body_size (to_be_bytes w32 n ++ bytes) ≡ n
unfolding body_size
body_size-front n bytes fits = ap (from_be_bytes w32) (take_at (to_be_bytes w32 n) bytes 4 (length-be n)) ∙ from_be_bytes-to_be_bytes_4 n fits

pub length-record_bytes : (body : List ℕ) → length (record_bytes body) ≡ 5 + length body
length-record_bytes body = omega (arith, length-append (to_be_bytes w32 (length body)) body, length-be (length body))

-- one record, and something behind it
walk_record : (place : ℕ) (body bytes : List ℕ) → length body < 2 ^ 32 → 0 < length bytes → records_from 0 place (record_bytes body ++ bytes) ≡ with_first body (records_from 0 (place + length (record_bytes body)) bytes)
walk_record place body bytes fits more =
    let n = length body in
    let len = to_be_bytes w32 n in
    let rest = len ++ (body ++ bytes) in
    let regroup : record_bytes body ++ bytes ≡ 165 ∷ rest = ap (λ (l : List ℕ). 165 ∷ l) (append_assoc len body bytes) in
    let size_is : body_size rest ≡ n = body_size-front n (body ++ bytes) fits in
    let long : length rest ≡ 4 + n + length bytes = omega (arith, length-append len (body ++ bytes), length-append body bytes, length-be n) in
    let fits : 4 + body_size rest < length rest = omega arith in
    let body_is : take (body_size rest) (drop 4 rest) ≡ body =
    ap (λ (k : ℕ). take k (drop 4 rest)) size_is ∙ ap (λ (l : List ℕ). take n l) (drop_at len (body ++ bytes) 4 (length-be n)) ∙ take_at body bytes n refl in
    let again : rest ≡ (len ++ body) ++ bytes = sym (append_assoc len body bytes) in
    let front : length (len ++ body) ≡ 4 + body_size rest = omega (arith, length-append len body, length-be n) in
    let next : records_from (4 + body_size rest) (place + 1) rest ≡ records_from 0 (place + length (record_bytes body)) bytes =
    ap (λ (l : List ℕ). records_from (4 + body_size rest) (place + 1) l) again ∙ walk_past (4 + body_size rest) (place + 1) (len ++ body) bytes front
    ∙ ap (λ (p : ℕ). records_from 0 p bytes) (omega (arith, length-record_bytes body)) in
    ap (λ (l : List ℕ). records_from 0 place l) regroup ∙ walk_open place rest fits ∙ ap (λ (b : List ℕ). with_first b (records_from (4 + body_size rest) (place + 1) rest)) body_is ∙ ap (with_first body) next

pub length-all_record_bytes : (body : List ℕ) (bodies : List (List ℕ)) → length (all_record_bytes (body ∷ bodies)) ≡ 5 + length body + length (all_record_bytes bodies)
length-all_record_bytes body bodies = omega (arith, length-append (record_bytes body) (all_record_bytes bodies), length-record_bytes body)

-- records, and something behind them
pub records_from-all_record_bytes : (place : ℕ) (bodies : List (List ℕ)) (bytes : List ℕ) → length (all_record_bytes bodies) < 2 ^ 32 → 0 < length bytes
    → records_from 0 place (all_record_bytes bodies ++ bytes) ≡ before bodies (records_from 0 (place + length (all_record_bytes bodies)) bytes)
unfolding before
records_from-all_record_bytes place [] bytes short more = ap (λ (p : ℕ). records_from 0 p bytes) (omega arith)
records_from-all_record_bytes place (body ∷ bodies) bytes short more =
    let long = length-all_record_bytes body bodies in
    ap (λ (l : List ℕ). records_from 0 place l) (append_assoc (record_bytes body) (all_record_bytes bodies) bytes)
    ∙ walk_record place body (all_record_bytes bodies ++ bytes) (omega arith) (omega (arith, length-append (all_record_bytes bodies) bytes))
    ∙ ap (with_first body) (records_from-all_record_bytes (place + length (record_bytes body)) bodies bytes (omega arith) more)
    ∙ ap (λ (p : ℕ). with_first body (before bodies (records_from 0 p bytes))) (omega (arith, length-record_bytes body, long))

pub all_record_bytes-push : (bodies : List (List ℕ)) (body : List ℕ) → all_record_bytes (bodies ++ body ∷ []) ≡ all_record_bytes bodies ++ record_bytes body
all_record_bytes-push [] body = append-nil (record_bytes body)
all_record_bytes-push (x ∷ bodies) body = ap (λ (l : List ℕ). record_bytes x ++ l) (all_record_bytes-push bodies body) ∙ sym (append_assoc (record_bytes x) (all_record_bytes bodies) (record_bytes body))

module _ (form : ℕ) where
  pub length-header : length (header form) ≡ 16
  unfolding header
  length-header = refl

  starts_with-header : (bytes : List ℕ) → starts_with nat_eq (header form ++ bytes) (header form) ≡ true
  unfolding header
  starts_with-header bytes = ap (λ (b : Bool). b && true) (eq-eqb form form refl)

  pub journal_in-short : (file : List ℕ) → length file < 18 → journal_in form file ≡ Whole []
  unfolding journal_in
  journal_in-short file short = grind (arith, nat_tests)

  pub journal_in-begun : (file : List ℕ) → 18 ≤ length file → starts_with nat_eq file (header form) ≡ true → journal_in form file ≡ records_from 0 16 (drop 16 file)
  unfolding journal_in
  journal_in-begun file long begins = grind (arith, nat_tests)

  pub journal_in_other : (file : List ℕ) → 18 ≤ length file → starts_with nat_eq file (header form) ≡ false → journal_in form file ≡ DamagedAt 0
  unfolding journal_in
  journal_in_other file long other = grind (arith, nat_tests)

  -- a file with the header form and more
  pub journal_in-records_from : (bytes : List ℕ) → 2 ≤ length bytes → journal_in form (header form ++ bytes) ≡ records_from 0 16 bytes
  journal_in-records_from bytes long =
      journal_in-begun (header form ++ bytes) (omega (arith, length-append (header form) bytes, length-header)) (starts_with-header bytes)
      ∙ ap (records_from 0 16) (drop_at (header form) bytes 16 length-header)

  -- records up to a closed gate
  pub journal_in-shut : (bodies : List (List ℕ)) (gate : ℕ) (bytes : List ℕ) → gate ≢ 165 → length (all_record_bytes bodies) < 2 ^ 32 → journal_in form (header form ++ (all_record_bytes bodies ++ gate ∷ bytes)) ≡ Whole bodies
  journal_in-shut [] gate [] shut short = journal_in-short (header form ++ gate ∷ []) (omega (arith, length-append (header form) (gate ∷ []), length-header))
  journal_in-shut [] gate (byte ∷ bytes) shut short = journal_in-records_from (gate ∷ byte ∷ bytes) (omega arith) ∙ walk_shut 16 gate (byte ∷ bytes) shut
  journal_in-shut (body ∷ bodies) gate bytes shut short =
      let all = body ∷ bodies in
      let long = length-all_record_bytes body bodies in
      journal_in-records_from (all_record_bytes all ++ gate ∷ bytes) (omega (arith, long, length-append (all_record_bytes all) (gate ∷ bytes)))
      ∙ records_from-all_record_bytes 16 all (gate ∷ bytes) short (omega arith)
      ∙ ap (before all) (walk_shut (16 + length (all_record_bytes all)) gate bytes shut)
      ∙ before-whole all

  -- records up to an open gate whose record is cut short
  pub journal_in-open : (bodies : List (List ℕ)) (bytes : List ℕ) → length bytes ≤ 4 + body_size bytes → 18 ≤ 17 + length (all_record_bytes bodies) + length bytes → length (all_record_bytes bodies) < 2 ^ 32
      → journal_in form (header form ++ (all_record_bytes bodies ++ 165 ∷ bytes)) ≡ DamagedAt (16 + length (all_record_bytes bodies))
  journal_in-open bodies bytes cut long short =
      journal_in-records_from (all_record_bytes bodies ++ 165 ∷ bytes) (omega (arith, length-append (all_record_bytes bodies) (165 ∷ bytes)))
      ∙ records_from-all_record_bytes 16 bodies (165 ∷ bytes) short (omega arith)
      ∙ ap (before bodies) (walk_damaged (16 + length (all_record_bytes bodies)) bytes cut)
      ∙ before-damaged bodies (16 + length (all_record_bytes bodies))
