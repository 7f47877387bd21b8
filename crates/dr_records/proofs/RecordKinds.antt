-- The readers of the kinds of records are exact.
use Rattle.std.proofs.Common.{◌≡◌, ℕ, ◌<◌, ◌^◌, Bool, List, ◌∷◌, ◌++◌, Result, refl, sym, ap, subst, ◌∙◌, arith}
use Rattle.std.specs.Int.{w32, w64}
use Rattle.dr_base.specs.declared.command.Op.{Op}
use Rattle.dr_records.specs.declared.records.Record.{Record}
use Rattle.dr_records.specs.declared.records.Record.TheVariants as kinds
use Rattle.dr_records.specs.declared.records.StartRow.{StartRow}
use Rattle.dr_records.specs.declared.records.StartPair.{StartPair}
use Rattle.dr_records.specs.Spelling.{four_bytes, eight_bytes, name_text, pair_text, list_text, spelling, IsNumber, IsPair, IsList, IsRecord}
use Rattle.dr_records.specs.Reading.{◌>>=◌, number_at, list_at, pair_at, start_at, attempt_at, begin_at, done_at, skip_at, aside_at, answer_at, code_at, finish_at}
use Rattle.dr_records.proofs.Formats.{Reads, Then, Made, then, remade, makes, alike}
use Rattle.dr_records.proofs.Fields.{Spelled, Number, ByteIn, one_byte, byte_reads, Anything, flag_text, flag_reads, op_text, op_reads}
use Rattle.dr_records.proofs.Names.{IsName, name_reads}
use Rattle.dr_records.proofs.Entries.{number32, number64, list_reads, pair_reads}

-- a record of this kind, and what stands behind its kind
pub record IsKind (kind : ℕ) (c : Record) (text : List ℕ) : Type 0 where
  pub good : IsRecord c
  pub is : spelling c ≡ kind ∷ text

behind : (a b : ℕ) (x y : List ℕ) → a ∷ x ≡ b ∷ y → y ≡ x
behind a b x y e = cc

-- a number of eight bytes
abbrev IsLong : ℕ → Type 0
IsLong n = n < 2 ^ 64

numbers_reads : Reads (Spelled (IsList IsNumber) (list_text four_bytes)) (list_at (number_at w32))
numbers_reads = list_reads IsNumber four_bytes (number_at w32) number32

-- ---- Start

pairs_reads : Reads (Spelled (IsList IsPair) (list_text pair_text)) (list_at pair_at)
pairs_reads = list_reads IsPair pair_text pair_at pair_reads

abbrev row_of : ℕ → Op → Bool → ℕ → ℕ → ℕ → List ℕ → List ℕ → List StartPair → StartRow
row_of run op forced plan over moment id groups pairs = record { run = run; op = op; forced = forced; plan = plan; over = over; moment = moment; id = id; groups = groups; pairs = pairs }

abbrev StartParts : Record → List ℕ → Type 0
StartParts = Then (Number w32 (2 ^ 32)) (λ run. Then (Spelled Anything op_text) (λ op. Then (Spelled Anything flag_text) (λ forced. Then (Number w32 (2 ^ 32)) (λ plan. Then (Number w32 (2 ^ 32)) (λ over. Then (Number w64 (2 ^ 64)) (λ moment. Then (Spelled IsName name_text) (λ id. Then (Spelled (IsList IsNumber) (list_text four_bytes)) (λ groups. Made (Spelled (IsList IsPair) (list_text pair_text)) (λ pairs. kinds.Start (row_of run op forced plan over moment id groups pairs))))))))))

start_to : (c : Record) (text : List ℕ) → StartParts c text → IsKind 2 c text
start_to c text t =
    let u = t.is_rest in
    let v = u.is_rest in
    let w = v.is_rest in
    let x = w.is_rest in
    let y = x.is_rest in
    let z = y.is_rest in
    let p = z.is_rest in
    let q = p.is_rest in
    subst (λ (r : Record). IsKind 2 r text) (sym q.made) (record {
      good = record { run = t.is_first.good; plan = w.is_first.good; over = x.is_first.good; moment = y.is_first.good; id = z.is_first.good; groups = p.is_first.good; pairs = q.is_from.good };
      is = rw (t.parts, t.is_first.is, u.parts, u.is_first.is, v.parts, v.is_first.is, w.parts, w.is_first.is, x.parts, x.is_first.is, y.parts, y.is_first.is, z.parts, z.is_first.is, p.parts, p.is_first.is, q.is_from.is) refl;
    })

start_from : (c : Record) (text : List ℕ) → IsKind 2 c text → StartParts c text
start_from (kinds.Start row) text k = record {
  first = row.run;
  head = four_bytes row.run;
  tail = op_text row.op ++ (flag_text row.forced ++ (four_bytes row.plan ++ (four_bytes row.over ++ (eight_bytes row.moment ++ (name_text row.id ++ (list_text four_bytes row.groups ++ (list_text pair_text row.pairs)))))));
  is_first = record { good = k.good.run; is = refl };
  is_rest = record {
    first = row.op;
    head = op_text row.op;
    tail = flag_text row.forced ++ (four_bytes row.plan ++ (four_bytes row.over ++ (eight_bytes row.moment ++ (name_text row.id ++ (list_text four_bytes row.groups ++ (list_text pair_text row.pairs))))));
    is_first = record { good = tt; is = refl };
    is_rest = record {
      first = row.forced;
      head = flag_text row.forced;
      tail = four_bytes row.plan ++ (four_bytes row.over ++ (eight_bytes row.moment ++ (name_text row.id ++ (list_text four_bytes row.groups ++ (list_text pair_text row.pairs)))));
      is_first = record { good = tt; is = refl };
      is_rest = record {
        first = row.plan;
        head = four_bytes row.plan;
        tail = four_bytes row.over ++ (eight_bytes row.moment ++ (name_text row.id ++ (list_text four_bytes row.groups ++ (list_text pair_text row.pairs))));
        is_first = record { good = k.good.plan; is = refl };
        is_rest = record {
          first = row.over;
          head = four_bytes row.over;
          tail = eight_bytes row.moment ++ (name_text row.id ++ (list_text four_bytes row.groups ++ (list_text pair_text row.pairs)));
          is_first = record { good = k.good.over; is = refl };
          is_rest = record {
            first = row.moment;
            head = eight_bytes row.moment;
            tail = name_text row.id ++ (list_text four_bytes row.groups ++ (list_text pair_text row.pairs));
            is_first = record { good = k.good.moment; is = refl };
            is_rest = record {
              first = row.id;
              head = name_text row.id;
              tail = list_text four_bytes row.groups ++ (list_text pair_text row.pairs);
              is_first = record { good = k.good.id; is = refl };
              is_rest = record {
                first = row.groups;
                head = list_text four_bytes row.groups;
                tail = list_text pair_text row.pairs;
                is_first = record { good = k.good.groups; is = refl };
                is_rest = record { from = row.pairs; is_from = record { good = k.good.pairs; is = refl }; made = refl };
                parts = refl;
              };
              parts = refl;
            };
            parts = refl;
          };
          parts = refl;
        };
        parts = refl;
      };
      parts = refl;
    };
    parts = refl;
  };
  parts = behind _ _ _ _ k.is;
}
start_from c text k = absurd (cc (k.is))

pub start_kind : Reads (IsKind 2) start_at
unfolding start_at
start_kind = alike StartParts (IsKind 2) start_at start_to start_from
    (then number32 (λ run _ _. then op_reads (λ op _ _. then flag_reads (λ forced _ _. then number32 (λ plan _ _. then number32 (λ over _ _. then number64 (λ moment _ _. then name_reads (λ id _ _. then numbers_reads (λ groups _ _. makes (λ pairs. kinds.Start (row_of run op forced plan over moment id groups pairs)) pairs_reads)))))))))

-- ---- kinds of two fields, and of three

-- a record of two fields that are good
record OfTwo {A B : Type 0} (GoodA : A → Type 0) (GoodB : B → Type 0) (make : A → B → Record) (c : Record) : Type 0 where
  x : A
  y : B
  good_x : GoodA x
  good_y : GoodB y
  made : c ≡ make x y

-- a record of three fields that are good
record OfThree {A B C : Type 0} (GoodA : A → Type 0) (GoodB : B → Type 0) (GoodC : C → Type 0) (make : A → B → C → Record) (c : Record) : Type 0 where
  x : A
  y : B
  z : C
  good_x : GoodA x
  good_y : GoodB y
  good_z : GoodC z
  made : c ≡ make x y z

-- what stands behind the kind of a record that is made so
text_of : (kind : ℕ) (c made : Record) (text own : List ℕ) → IsKind kind c text → c ≡ made → spelling made ≡ kind ∷ own → text ≡ own
text_of kind c made text own k same is = behind kind kind own text (sym is ∙ ap spelling (sym same) ∙ k.is)

-- a kind of two fields is read as its fields are
two_fields : {A B : Type 0} {GoodA : A → Type 0} {GoodB : B → Type 0} {a : A → List ℕ} {b : B → List ℕ} {one : List ℕ → Result (A × List ℕ) ℕ} {other : List ℕ → Result (B × List ℕ) ℕ} (kind : ℕ) (make : A → B → Record)
    → Reads (Spelled GoodA a) one → Reads (Spelled GoodB b) other
    → ((x : A) (y : B) → GoodA x → GoodB y → IsKind kind (make x y) (a x ++ b y))
    → ((c : Record) (text : List ℕ) → IsKind kind c text → OfTwo GoodA GoodB make c)
    → Reads (IsKind kind) (λ bytes. one bytes >>= λ p. (other p.1 >>= λ q. remade (make p.0) q))
two_fields {A} {B} {GoodA} {GoodB} {a} {b} {one} {other} kind make reads_a reads_b is of =
    let Parts : Record → List ℕ → Type 0 = Then (Spelled GoodA a) (λ x. Made (Spelled GoodB b) (make x)) in
    let to : (c : Record) (text : List ℕ) → Parts c text → IsKind kind c text = λ c text t.
    let u = t.is_rest in
    subst (λ (r : Record). IsKind kind r text) (sym u.made) (rw (t.parts, t.is_first.is, u.is_from.is) (is t.first u.from t.is_first.good u.is_from.good)) in
    let from : (c : Record) (text : List ℕ) → IsKind kind c text → Parts c text = λ c text k.
    let f = of c text k in
    record {
      first = f.x;
      head = a f.x;
      tail = b f.y;
      is_first = record { good = f.good_x; is = refl };
      is_rest = record { from = f.y; is_from = record { good = f.good_y; is = refl }; made = f.made };
      parts = text_of kind c (make f.x f.y) text (a f.x ++ b f.y) k f.made (is f.x f.y f.good_x f.good_y).is;
    } in
    alike Parts (IsKind kind) (λ bytes. one bytes >>= λ p. (other p.1 >>= λ q. remade (make p.0) q)) to from
    (then reads_a (λ x t s. makes (make x) reads_b))

-- a kind of three fields is read as its fields are
three_fields : {A B C : Type 0} {GoodA : A → Type 0} {GoodB : B → Type 0} {GoodC : C → Type 0} {a : A → List ℕ} {b : B → List ℕ} {d : C → List ℕ} {one : List ℕ → Result (A × List ℕ) ℕ} {other : List ℕ → Result (B × List ℕ) ℕ} {last : List ℕ → Result (C × List ℕ) ℕ} (kind : ℕ) (make : A → B → C → Record)
    → Reads (Spelled GoodA a) one → Reads (Spelled GoodB b) other → Reads (Spelled GoodC d) last
    → ((x : A) (y : B) (z : C) → GoodA x → GoodB y → GoodC z → IsKind kind (make x y z) (a x ++ (b y ++ d z)))
    → ((c : Record) (text : List ℕ) → IsKind kind c text → OfThree GoodA GoodB GoodC make c)
    → Reads (IsKind kind) (λ bytes. one bytes >>= λ p. (other p.1 >>= λ q. (last q.1 >>= λ r. remade (make p.0 q.0) r)))
three_fields {A} {B} {C} {GoodA} {GoodB} {GoodC} {a} {b} {d} {one} {other} {last} kind make reads_a reads_b reads_c is of =
    let Parts : Record → List ℕ → Type 0 = Then (Spelled GoodA a) (λ x. Then (Spelled GoodB b) (λ y. Made (Spelled GoodC d) (make x y))) in
    let to : (c : Record) (text : List ℕ) → Parts c text → IsKind kind c text = λ c text t.
    let u = t.is_rest in
    let v = u.is_rest in
    subst (λ (r : Record). IsKind kind r text) (sym v.made) (rw (t.parts, t.is_first.is, u.parts, u.is_first.is, v.is_from.is) (is t.first u.first v.from t.is_first.good u.is_first.good v.is_from.good)) in
    let from : (c : Record) (text : List ℕ) → IsKind kind c text → Parts c text = λ c text k.
    let f = of c text k in
    record {
      first = f.x;
      head = a f.x;
      tail = b f.y ++ d f.z;
      is_first = record { good = f.good_x; is = refl };
      is_rest = record {
        first = f.y;
        head = b f.y;
        tail = d f.z;
        is_first = record { good = f.good_y; is = refl };
        is_rest = record { from = f.z; is_from = record { good = f.good_z; is = refl }; made = f.made };
        parts = refl;
      };
      parts = text_of kind c (make f.x f.y f.z) text (a f.x ++ (b f.y ++ d f.z)) k f.made (is f.x f.y f.z f.good_x f.good_y f.good_z).is;
    } in
    alike Parts (IsKind kind) (λ bytes. one bytes >>= λ p. (other p.1 >>= λ q. (last q.1 >>= λ r. remade (make p.0 q.0) r))) to from
    (then reads_a (λ x t s. then reads_b (λ y t s. makes (make x y) reads_c)))

attempt_of : (c : Record) (text : List ℕ) → IsKind 3 c text → OfTwo IsNumber IsLong (λ run moment. kinds.Attempt run moment) c
attempt_of (kinds.Attempt run moment) text k = record { x = run; y = moment; good_x = k.good.0; good_y = k.good.1; made = refl }
attempt_of c text k = absurd (cc (k.is))

pub attempt_kind : Reads (IsKind 3) attempt_at
unfolding attempt_at
attempt_kind = two_fields 3 (λ run moment. kinds.Attempt run moment) number32 number64 (λ run moment p q. record { good = (p, q); is = refl }) attempt_of

begin_of : (c : Record) (text : List ℕ) → IsKind 4 c text → OfTwo IsNumber IsNumber (λ run stage. kinds.Begin run stage) c
begin_of (kinds.Begin run stage) text k = record { x = run; y = stage; good_x = k.good.0; good_y = k.good.1; made = refl }
begin_of c text k = absurd (cc (k.is))

pub begin_kind : Reads (IsKind 4) begin_at
unfolding begin_at
begin_kind = two_fields 4 (λ run stage. kinds.Begin run stage) number32 number32 (λ run stage p q. record { good = (p, q); is = refl }) begin_of

done_of : (c : Record) (text : List ℕ) → IsKind 5 c text → OfTwo IsNumber IsNumber (λ run stage. kinds.Done run stage) c
done_of (kinds.Done run stage) text k = record { x = run; y = stage; good_x = k.good.0; good_y = k.good.1; made = refl }
done_of c text k = absurd (cc (k.is))

pub done_kind : Reads (IsKind 5) done_at
unfolding done_at
done_kind = two_fields 5 (λ run stage. kinds.Done run stage) number32 number32 (λ run stage p q. record { good = (p, q); is = refl }) done_of

skip_of : (c : Record) (text : List ℕ) → IsKind 6 c text → OfThree IsNumber IsNumber IsNumber (λ run stage machine. kinds.Skip run stage machine) c
skip_of (kinds.Skip run stage machine) text k = record { x = run; y = stage; z = machine; good_x = k.good.0; good_y = k.good.1; good_z = k.good.2; made = refl }
skip_of c text k = absurd (cc (k.is))

pub skip_kind : Reads (IsKind 6) skip_at
unfolding skip_at
skip_kind = three_fields 6 (λ run stage machine. kinds.Skip run stage machine) number32 number32 number32 (λ run stage machine p q r. record { good = (p, q, r); is = refl }) skip_of

aside_of : (c : Record) (text : List ℕ) → IsKind 7 c text → OfThree IsNumber IsNumber IsNumber (λ run machine by_machine. kinds.Aside run machine by_machine) c
aside_of (kinds.Aside run machine by_machine) text k = record { x = run; y = machine; z = by_machine; good_x = k.good.0; good_y = k.good.1; good_z = k.good.2; made = refl }
aside_of c text k = absurd (cc (k.is))

pub aside_kind : Reads (IsKind 7) aside_at
unfolding aside_at
aside_kind = three_fields 7 (λ run machine by_machine. kinds.Aside run machine by_machine) number32 number32 number32 (λ run machine by_machine p q r. record { good = (p, q, r); is = refl }) aside_of

answer_of : (c : Record) (text : List ℕ) → IsKind 8 c text → OfThree IsNumber IsNumber IsName (λ run step name. kinds.Answer run step name) c
answer_of (kinds.Answer run step name) text k = record { x = run; y = step; z = name; good_x = k.good.0; good_y = k.good.1; good_z = k.good.2; made = refl }
answer_of c text k = absurd (cc (k.is))

pub answer_kind : Reads (IsKind 8) answer_at
unfolding answer_at
answer_kind = three_fields 8 (λ run step name. kinds.Answer run step name) number32 number32 name_reads (λ run step name p q r. record { good = (p, q, r); is = refl }) answer_of

finish_of : (c : Record) (text : List ℕ) → IsKind 10 c text → OfThree IsNumber IsLong (IsList IsNumber) (λ run moment machines. kinds.Finish run moment machines) c
finish_of (kinds.Finish run moment machines) text k = record { x = run; y = moment; z = machines; good_x = k.good.0; good_y = k.good.1; good_z = k.good.2; made = refl }
finish_of c text k = absurd (cc (k.is))

pub finish_kind : Reads (IsKind 10) finish_at
unfolding finish_at
finish_kind = three_fields 10 (λ run moment machines. kinds.Finish run moment machines) number32 number64 numbers_reads (λ run moment machines p q r. record { good = (p, q, r); is = refl }) finish_of

-- ---- Code

abbrev CodeParts : Record → List ℕ → Type 0
CodeParts = Then (Number w32 (2 ^ 32)) (λ run. Then (Number w64 (2 ^ 64)) (λ token. Then (Number w32 (2 ^ 32)) (λ machine. Made (ByteIn 0 255) (λ code. kinds.Code run token machine code))))

code_to : (c : Record) (text : List ℕ) → CodeParts c text → IsKind 9 c text
code_to c text t =
    let u = t.is_rest in
    let v = u.is_rest in
    let w = v.is_rest in
    subst (λ (r : Record). IsKind 9 r text) (sym w.made) (record { good = (t.is_first.good, u.is_first.good, v.is_first.good, omega (arith, w.is_from.good.1)); is = rw (t.parts, t.is_first.is, u.parts, u.is_first.is, v.parts, v.is_first.is, w.is_from.is) refl })

code_from : (c : Record) (text : List ℕ) → IsKind 9 c text → CodeParts c text
code_from (kinds.Code run token machine code) text k = record {
  first = run;
  head = four_bytes run;
  tail = eight_bytes token ++ (four_bytes machine ++ (one_byte code));
  is_first = record { good = k.good.0; is = refl };
  is_rest = record {
    first = token;
    head = eight_bytes token;
    tail = four_bytes machine ++ (one_byte code);
    is_first = record { good = k.good.1; is = refl };
    is_rest = record {
      first = machine;
      head = four_bytes machine;
      tail = one_byte code;
      is_first = record { good = k.good.2; is = refl };
      is_rest = record { from = code; is_from = record { good = (omega arith, omega (arith, k.good.3)); is = refl }; made = refl };
      parts = refl;
    };
    parts = refl;
  };
  parts = behind _ _ _ _ k.is;
}
code_from c text k = absurd (cc (k.is))

pub code_kind : Reads (IsKind 9) code_at
unfolding code_at
code_kind = alike CodeParts (IsKind 9) code_at code_to code_from
    (then number32 (λ run _ _. then number64 (λ token _ _. then number32 (λ machine _ _. makes (λ code. kinds.Code run token machine code) (byte_reads 0 255 (omega arith))))))
