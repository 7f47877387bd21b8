-- The readers of single fields are exact.
use Rattle.std.proofs.Common.{◌≡◌, ℕ, zero, suc, ◌-◌, ◌^◌, ◌<◌, ◌≤◌, Bool, true, false, cond, ltb, leb, eqb, ◌&&◌, List, [], ◌∷◌, ◌++◌, length, take, drop, replicate, Result, Ok, Err, refl, sym, ap, ◌∙◌, arith, inl, inr}
use Rattle.std.specs.Int.{Width, w16, w32, w64, byte_len, from_be_bytes, to_be_bytes}
use Rattle.std.proofs.lemmas.Bool.{cases_lt, ltb-true, ltb-false, le-ltb, leb-true, le-leb, and_parts, and_from, both_ways}
use Rattle.std.proofs.lemmas.List.{append-nil, take_at, drop_at, take-append-drop, length-append, length-take, length-replicate, get_or-take, get_or_past, get_or_append_left, get_or-append_right, get_or-replicate}
use Rattle.std.proofs.lemmas.Nat.{be_bytes_2, be_bytes_4, be_bytes_8, from_be_bytes-to_be_bytes_2, from_be_bytes-to_be_bytes_4, from_be_bytes-to_be_bytes_8}
use Rattle.dr_base.specs.declared.command.Op.{Op}
use Rattle.dr_base.specs.declared.command.Op.TheVariants.{Testing, Cleanup, Migrate, Failover, Reprotect}
use Rattle.dr_records.specs.Spelling.{op_byte, flag_byte}
use Rattle.dr_records.specs.Reading.{number_at, byte_at, op_of, op_at, flag_at}
use Rattle.dr_records.proofs.Formats.{IsBytes, Stuck, Reads, Made, makes, alike}

-- a value that is good, and the one text of it
pub record Spelled {A : Type 0} (Good : A → Type 0) (spell : A → List ℕ) (x : A) (text : List ℕ) : Type 0 where
  pub good : Good x
  pub is : text ≡ spell x

abbrev ok : {A : Type 0} → A → Result A ℕ
ok x = Ok x

guard_ok : {A : Type 0} (b : Bool) (left : ℕ) (x y : A) → cond b (Err left) (ok x) ≡ ok y → (b ≡ false) × (x ≡ y)
guard_ok true left x y e = absurd cc
guard_ok false left x y e = (refl, cc)

guard_err : {A : Type 0} (b : Bool) (n left : ℕ) (x : A) → cond b (Err n) (ok x) ≡ Err left → (b ≡ true) × (n ≡ left)
guard_err true n left x e = (refl, cc)
guard_err false n left x e = absurd cc

pub test_ok : {A : Type 0} (b : Bool) (left : ℕ) (x y : A) → cond b (ok x) (Err left) ≡ ok y → (b ≡ true) × (x ≡ y)
test_ok true left x y e = (refl, cc)
test_ok false left x y e = absurd cc

pub test_err : {A : Type 0} (b : Bool) (n left : ℕ) (x : A) → cond b (ok x) (Err n) ≡ Err left → (b ≡ false) × (n ≡ left)
test_err true n left x e = absurd cc
test_err false n left x e = (refl, cc)

pub test_true : {A : Type 0} (b : Bool) (x y : Result A ℕ) → b ≡ true → cond b x y ≡ x
test_true b x y e = ap (λ (t : Bool). cond t x y) e

-- ---- numbers

IsBytes-take : (n : ℕ) (bytes : List ℕ) → IsBytes bytes → IsBytes (take n bytes)
IsBytes-take n bytes h i =
    elim (cases_lt i n) [
      | inl lt ↦ rw (get_or-take n bytes i 0 lt) (h i)
      | inr le ↦ rw (get_or_past (take n bytes) i 0 (omega (arith, length-take n bytes))) (omega arith)
    ]

-- filled up with zeros
IsBytes-filled : (n : ℕ) (bytes : List ℕ) → IsBytes bytes → IsBytes (bytes ++ replicate n 0)
IsBytes-filled n bytes h i =
    elim (cases_lt i (length bytes)) [
      | inl lt ↦ rw (get_or_append_left bytes (replicate n 0) 0 i lt) (h i)
      | inr le ↦ rw (get_or-append_right bytes (replicate n 0) (length bytes) i 0 refl le) (
          elim (cases_lt (i - length bytes) n) [
            | inl lt ↦ rw (get_or-replicate {A = ℕ} n (i - length bytes) 0 0 lt) (omega arith)
            | inr past ↦ rw (get_or_past {X = ℕ} (replicate n 0) (i - length bytes) 0 (omega (arith, length-replicate {A = ℕ} n 0))) (omega arith)
          ])
    ]

-- the numbers of a width, below its limit, go to bytes and back
pub record IsWide (w : Width) (limit : ℕ) : Type 0 where
  pub some : 0 < limit
  pub len : (n : ℕ) → length (to_be_bytes w n) ≡ byte_len w
  pub back : (bytes : List ℕ) → length bytes ≡ byte_len w → IsBytes bytes → to_be_bytes w (from_be_bytes w bytes) ≡ bytes
  pub again : (n : ℕ) → n < limit → from_be_bytes w (to_be_bytes w n) ≡ n
  pub below : (bytes : List ℕ) → IsBytes bytes → from_be_bytes w bytes < limit

pub wide16 : IsWide w16 (2 ^ 16)
wide16 = record {
  some = omega arith;
  len = λ n. refl;
  back = λ bytes len fits. be_bytes_2 bytes _ len fits refl;
  again = λ n lt. from_be_bytes-to_be_bytes_2 n lt;
  below = λ bytes fits. omega (arith, fits 0, fits 1);
}

pub wide32 : IsWide w32 (2 ^ 32)
wide32 = record {
  some = omega arith;
  len = λ n. refl;
  back = λ bytes len fits. be_bytes_4 bytes _ len fits refl;
  again = λ n lt. from_be_bytes-to_be_bytes_4 n lt;
  below = λ bytes fits. omega (arith, fits 0, fits 1, fits 2, fits 3);
}

pub wide64 : IsWide w64 (2 ^ 64)
wide64 = record {
  some = omega arith;
  len = λ n. refl;
  back = λ bytes len fits. be_bytes_8 bytes _ len fits refl;
  again = λ n lt. from_be_bytes-to_be_bytes_8 n lt;
  below = λ bytes fits. omega (arith, fits 0, fits 1, fits 2, fits 3, fits 4, fits 5, fits 6, fits 7);
}

abbrev pub Number : Width → ℕ → ℕ → List ℕ → Type 0
Number w limit = Spelled (λ n. n < limit) (to_be_bytes w)

number_takes : (w : Width) (limit : ℕ) → IsWide w limit → (bytes : List ℕ) (n : ℕ) (rest : List ℕ) → IsBytes bytes → number_at w bytes ≡ Ok (n, rest) → (text : List ℕ) × Number w limit n text × (bytes ≡ text ++ rest)
number_takes w limit wide bytes n rest fits e =
    let g = guard_ok (ltb (length bytes) (byte_len w)) 0 (from_be_bytes w (take (byte_len w) bytes), drop (byte_len w) bytes) (n, rest) e in
    let long : byte_len w ≤ length bytes = ltb-false _ _ g.0 in
    let n-is : from_be_bytes w (take (byte_len w) bytes) ≡ n = ap (λ (p : ℕ × List ℕ). p.0) g.1 in
    let rest-is : drop (byte_len w) bytes ≡ rest = ap (λ (p : ℕ × List ℕ). p.1) g.1 in
    let front : take (byte_len w) bytes ≡ to_be_bytes w n = sym (rw (← n-is) (wide.back (take (byte_len w) bytes) (omega (arith, length-take (byte_len w) bytes)) (IsBytes-take (byte_len w) bytes fits))) in
    (take (byte_len w) bytes, record { good = rw (← n-is) (wide.below (take (byte_len w) bytes) (IsBytes-take (byte_len w) bytes fits)); is = front }, rw (← rest-is) (sym (take-append-drop (byte_len w) bytes)))

number_again : (w : Width) (limit : ℕ) → IsWide w limit → (n : ℕ) (rest : List ℕ) → n < limit → number_at w (to_be_bytes w n ++ rest) ≡ Ok (n, rest)
number_again w limit wide n rest lt =
    let len = wide.len n in
    let long : ltb (length (to_be_bytes w n ++ rest)) (byte_len w) ≡ false = le-ltb _ _ (omega (arith, length-append (to_be_bytes w n) rest)) in
    rw (long, take_at (to_be_bytes w n) rest (byte_len w) len, drop_at (to_be_bytes w n) rest (byte_len w) len, wide.again n lt) refl

number_stuck : (w : Width) (limit : ℕ) → IsWide w limit → (bytes : List ℕ) (left : ℕ) → IsBytes bytes → number_at w bytes ≡ Err left → Stuck (Number w limit) bytes left
number_stuck w limit wide bytes left fits e =
    let g = guard_err (ltb (length bytes) (byte_len w)) 0 left (from_be_bytes w (take (byte_len w) bytes), drop (byte_len w) bytes) e in
    let short : length bytes < byte_len w = ltb-true _ _ g.0 in
    let zeros : List ℕ = replicate (byte_len w - length bytes) 0 in
    let full = IsBytes-filled (byte_len w - length bytes) bytes fits in
    let size : length (bytes ++ zeros) ≡ byte_len w = omega (arith, length-append bytes zeros, length-replicate {A = ℕ} (byte_len w - length bytes) 0) in
    record {
      front = bytes;
      back = [];
      whole = sym (append-nil bytes);
      count = g.1;
      begins = (from_be_bytes w (bytes ++ zeros), bytes ++ zeros, zeros, record { good = wide.below (bytes ++ zeros) full; is = sym (wide.back (bytes ++ zeros) size full) }, refl);
      stops = λ d more at. absurd cc;
    }

pub number_reads : (w : Width) (limit : ℕ) → IsWide w limit → Reads (Number w limit) (number_at w)
number_reads w limit wide = record {
  sample = (0, to_be_bytes w 0, record { good = wide.some; is = refl });
  takes = number_takes w limit wide;
  again = λ n text rest s. ap (λ (z : List ℕ). number_at w (z ++ rest)) s.is ∙ number_again w limit wide n rest s.good;
  stuck = number_stuck w limit wide;
}

-- ---- bytes

abbrev pub IsBetween : ℕ → ℕ → ℕ → Type 0
IsBetween least greatest b = (least ≤ b) × (b ≤ greatest)

abbrev pub one_byte : ℕ → List ℕ
one_byte b = b ∷ []

abbrev pub ByteIn : ℕ → ℕ → ℕ → List ℕ → Type 0
ByteIn least greatest = Spelled (IsBetween least greatest) one_byte

tested : (least greatest b : ℕ) → IsBetween least greatest b → (leb least b && leb b greatest) ≡ true
tested least greatest b h = and_from _ _ (le-leb _ _ h.0) (le-leb _ _ h.1)

byte_takes : (least greatest : ℕ) (bytes : List ℕ) (b : ℕ) (rest : List ℕ) → byte_at least greatest bytes ≡ Ok (b, rest) → (text : List ℕ) × ByteIn least greatest b text × (bytes ≡ text ++ rest)
byte_takes least greatest [] b rest e = absurd cc
byte_takes least greatest (x ∷ bytes) b rest e =
    let g = test_ok (leb least x && leb x greatest) (suc (length bytes)) (x, bytes) (b, rest) e in
    let p = and_parts _ _ g.0 in
    let same : x ≡ b = ap (λ (p : ℕ × List ℕ). p.0) g.1 in
    (b ∷ [], record { good = (rw (← same) (leb-true _ _ p.0), rw (← same) (leb-true _ _ p.1)); is = refl }, ap (λ (p : ℕ × List ℕ). p.0 ∷ p.1) g.1)

byte_again : (least greatest b : ℕ) (rest : List ℕ) → IsBetween least greatest b → byte_at least greatest (b ∷ rest) ≡ Ok (b, rest)
byte_again least greatest b rest h = test_true _ _ _ (tested least greatest b h)

byte_stuck : (least greatest : ℕ) → least ≤ greatest → (bytes : List ℕ) (left : ℕ) → byte_at least greatest bytes ≡ Err left → Stuck (ByteIn least greatest) bytes left
byte_stuck least greatest some [] left e = record {
  front = [];
  back = [];
  whole = refl;
  count = cc;
  begins = (least, least ∷ [], least ∷ [], record { good = (omega arith, some); is = refl }, refl);
  stops = λ d more at. absurd cc;
}
byte_stuck least greatest some (x ∷ bytes) left e =
    let g = test_err (leb least x && leb x greatest) (suc (length bytes)) left (x, bytes) e in
    record {
      front = [];
      back = x ∷ bytes;
      whole = refl;
      count = g.1;
      begins = (least, least ∷ [], least ∷ [], record { good = (omega arith, some); is = refl }, refl);
      stops = λ d more at b text rest s f.
          let read : d ∷ rest ≡ b ∷ [] = sym f ∙ s.is in
          let same : x ≡ b = cc in
          both_ways _ g.0 (rw same (tested least greatest b s.good));
    }

pub byte_reads : (least greatest : ℕ) → least ≤ greatest → Reads (ByteIn least greatest) (byte_at least greatest)
byte_reads least greatest some = record {
  sample = (least, least ∷ [], record { good = (omega arith, some); is = refl });
  takes = λ bytes b rest fits e. byte_takes least greatest bytes b rest e;
  again = λ b text rest s. ap (λ (z : List ℕ). byte_at least greatest (z ++ rest)) s.is ∙ byte_again least greatest b rest s.good;
  stuck = λ bytes left fits e. byte_stuck least greatest some bytes left e;
}

-- ---- yes or no, and operations

abbrev pub Anything : {A : Type 0} → A → Type 0
Anything x = Unit {0}

abbrev pub flag_text : Bool → List ℕ
flag_text flag = flag_byte flag ∷ []

flag_again : (b : ℕ) → b ≤ 1 → flag_byte (eqb b 1) ≡ b
flag_again zero h = refl
flag_again (suc zero) h = refl
flag_again (suc (suc b)) h = absurd (omega arith)

flag_fits : (flag : Bool) → IsBetween 0 1 (flag_byte flag)
flag_fits false = (omega arith, omega arith)
flag_fits true = (omega arith, omega arith)

flag_is : (flag : Bool) → flag ≡ eqb (flag_byte flag) 1
flag_is false = refl
flag_is true = refl

pub flag_reads : Reads (Spelled Anything flag_text) flag_at
unfolding flag_at
flag_reads = alike (Made (ByteIn 0 1) (λ b. eqb b 1)) (Spelled Anything flag_text) flag_at
    (λ flag text m. record { good = tt; is = m.is_from.is ∙ ap one_byte (sym (flag_again m.from m.is_from.good.1)) ∙ ap flag_text (sym m.made) })
    (λ flag text s. record { from = flag_byte flag; is_from = record { good = flag_fits flag; is = s.is }; made = flag_is flag })
    (makes (λ b. eqb b 1) (byte_reads 0 1 (omega arith)))

abbrev pub op_text : Op → List ℕ
op_text op = op_byte op ∷ []

op_again : (b : ℕ) → IsBetween 1 5 b → op_byte (op_of b) ≡ b
op_again zero h = absurd (omega (arith, h.0))
op_again (suc zero) h = refl
op_again (suc (suc zero)) h = refl
op_again (suc (suc (suc zero))) h = refl
op_again (suc (suc (suc (suc zero)))) h = refl
op_again (suc (suc (suc (suc (suc zero))))) h = refl
op_again (suc (suc (suc (suc (suc (suc b)))))) h = absurd (omega (arith, h.1))

op_fits : (op : Op) → IsBetween 1 5 (op_byte op)
op_fits Testing = (omega arith, omega arith)
op_fits Cleanup = (omega arith, omega arith)
op_fits Migrate = (omega arith, omega arith)
op_fits Failover = (omega arith, omega arith)
op_fits Reprotect = (omega arith, omega arith)

op_is : (op : Op) → op ≡ op_of (op_byte op)
op_is Testing = refl
op_is Cleanup = refl
op_is Migrate = refl
op_is Failover = refl
op_is Reprotect = refl

pub op_reads : Reads (Spelled Anything op_text) op_at
unfolding op_at
op_reads = alike (Made (ByteIn 1 5) op_of) (Spelled Anything op_text) op_at
    (λ op text m. record { good = tt; is = m.is_from.is ∙ ap one_byte (sym (op_again m.from m.is_from.good)) ∙ ap op_text (sym m.made) })
    (λ op text s. record { from = op_byte op; is_from = record { good = op_fits op; is = s.is }; made = op_is op })
    (makes op_of (byte_reads 1 5 (omega arith)))
