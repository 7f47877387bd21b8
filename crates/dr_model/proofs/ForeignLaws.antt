-- What is wanted of an object that was found as it isn't expected, and that its code differs.
use Rattle.std.specs.Prelude.{◌≡◌, ◌↔◌, ℕ, zero, suc, ◌+◌, ◌*◌, ◌<◌, ◌≤◌, ◌==◌, ◌⊎◌, Bool, true, false, not, ◌&&◌, List, [], ◌∷◌, Contains, Option, None, Some, IfSome, is_some, bytes_eq}
use Rattle.std.proofs.Common.{refl, sym, ap, ◌∙◌, inl, inr, subst, arith}
use Rattle.std.proofs.lemmas.Bool.{cases_lt, eqb-true, eq-eqb}
use Rattle.std.proofs.lemmas.Slice.Eq.{bytes_eq-Decides}
use Rattle.dr_base.specs.Sides.{same_side}
use Rattle.dr_groups.specs.Groups.{IsPairOf}
use Rattle.dr_outside.specs.declared.pair.Half.{Half}
use Rattle.dr_outside.specs.Pairs.{Read, is_live}
use Rattle.dr_meaning.specs.Types.{Side, Placement, Link, Content, Snapshot, Pair, Placed, Post}
use Rattle.dr_meaning.specs.Worlds.{World}
use Rattle.dr_meaning.specs.Runs.{Setting, Run}
use Rattle.dr_meaning.specs.Sound.{IsSoundBy}
use Rattle.dr_meaning.specs.Codes.{bit, same_place, is_wanted, placed_code, post_code, half_code}
use Rattle.dr_meaning.specs.Foreign.{told_code, PostsExpected, IsExpectedPost, place_in, expected_post_code, IsWantedPost, IsForeignPost, HalvesExpected, IsExpectedHalf, expected_half_code, HasContentOf, IsWantedHalf, IsForeignHalf}
use Rattle.dr_model.proofs.FitsDrift.{drift_fits}

-- The least of some ----------------------------------------------------------------------------------------------

module _ {X : Type 0} (Is : X → Type 0) (code : X → ℕ) where
  least_by : (n : ℕ) (x y : X) → code x < suc n → (code y < n → ⊥) → (code y < code x) ⊎ (code x ≤ code y) → code x ≤ code y
  least_by n x y lt none (inl less) = absurd (none (omega (arith, lt, less)))
  least_by n x y lt none (inr le) = le

  -- none is of less code, if none is least
  none_below : ((w : X) → Is w → ((y : X) → Is y → code w ≤ code y) → ⊥) → (n : ℕ) (x : X) → Is x → code x < n → ⊥
  none_below none zero x is lt = omega (arith, lt)
  none_below none (suc n) x is lt = none x is (λ y its. least_by n x y lt (λ less. none_below none n y its less) (cases_lt (code y) (code x)))

  -- that none is least, and of the least near if one is, is absurd
  pub some_nearest : (Near : X → Type 0) (x : X) → Is x → ((w : X) → Is w → ((y : X) → Is y → code w ≤ code y) → ((y : X) → Is y → code y ≡ code w → Near y → Near w) → ⊥) → ⊥
  some_nearest Near x is none = none_below by_near (suc (code x)) x is (omega arith)
    where
      by_near : (w : X) → Is w → ((y : X) → Is y → code w ≤ code y) → ⊥
      by_near w its least = none w its least (λ y other same near. absurd (none y other (λ z that. let le = least z that in omega (arith, le, same)) (λ z that equal close. near)))

-- one of a list
pub record Chosen {X : Type 0} (code : X → ℕ) (Near : X → Type 0) (list : List X) : Type 0 where
  pub it : X
  pub listed : Contains list it
  pub least : (y : X) → Contains list y → code it ≤ code y
  pub nearest : (y : X) → Contains list y → code y ≡ code it → Near y → Near it

module _ {X : Type 0} (code : X → ℕ) (Near : X → Type 0) (decide : (x : X) → Near x ⊎ (Near x → ⊥)) where
  take_first : (x : X) (list : List X) → ((y : X) → Contains list y → code x ≤ code y) → ((y : X) → Contains list y → code y ≡ code x → Near y → Near x) → Chosen code Near (x ∷ list)
  take_first x list least nearest = record {
    it = x;
    listed = (0, omega arith, refl);
    least = at_least;
    nearest = near;
  }
    where
      at_least : (y : X) → Contains (x ∷ list) y → code x ≤ code y
      at_least y (zero, below, e) = let same = ap code e in omega (arith, same)
      at_least y (suc k, below, e) = least y (k, omega (arith, below), e)

      near : (y : X) → Contains (x ∷ list) y → code y ≡ code x → Near y → Near x
      near y (zero, below, e) same close = subst Near (sym e) close
      near y (suc k, below, e) same close = nearest y (k, omega (arith, below), e) same close

  take_later : (x : X) (list : List X) (c : Chosen code Near list) → code c.it ≤ code x → (code x ≡ code c.it → Near x → Near c.it) → Chosen code Near (x ∷ list)
  take_later x list c le nearest = record {
    it = c.it;
    listed = let (k, below, e) = c.listed in (suc k, omega (arith, below), e);
    least = at_least;
    nearest = near;
  }
    where
      at_least : (y : X) → Contains (x ∷ list) y → code c.it ≤ code y
      at_least y (zero, below, e) = let same = ap code e in omega (arith, same, le)
      at_least y (suc k, below, e) = c.least y (k, omega (arith, below), e)

      near : (y : X) → Contains (x ∷ list) y → code y ≡ code c.it → Near y → Near c.it
      near y (zero, below, e) same close = nearest (ap code e ∙ same) (subst Near (sym e) close)
      near y (suc k, below, e) same close = c.nearest y (k, omega (arith, below), e) same close

  pub choose : (x : X) (list : List X) → Chosen code Near (x ∷ list)
  choose x [] = take_first x [] (λ y c. absurd (let (k, below, e) = c in omega (arith, below))) (λ y c same close. absurd (let (k, below, e) = c in omega (arith, below)))
  choose x (z ∷ list) = go (choose z list)
    where
      go : Chosen code Near (z ∷ list) → Chosen code Near (x ∷ z ∷ list)
      go c = by_code (cases_lt (code x) (code c.it))
        where
          by_near : code c.it ≤ code x → code x ≤ code c.it → Near x ⊎ (Near x → ⊥) → Chosen code Near (x ∷ z ∷ list)
          by_near le ge (inl near) = take_first x (z ∷ list) (λ y l. let least = c.least y l in omega (arith, least, le)) (λ y l same close. near)
          by_near le ge (inr far) = take_later x (z ∷ list) c le (λ same close. absurd (far close))

          by_equal : code c.it ≤ code x → (code c.it < code x) ⊎ (code x ≤ code c.it) → Chosen code Near (x ∷ z ∷ list)
          by_equal le (inl lt) = take_later x (z ∷ list) c le (λ same close. absurd (omega (arith, same, lt)))
          by_equal le (inr ge) = by_near le ge (decide x)

          by_code : (code x < code c.it) ⊎ (code c.it ≤ code x) → Chosen code Near (x ∷ z ∷ list)
          by_code (inl lt) = take_first x (z ∷ list) (λ y l. let least = c.least y l in omega (arith, least, lt)) (λ y l same close. absurd (let least = c.least y l in omega (arith, least, lt, same)))
          by_code (inr le) = by_equal le (cases_lt (code c.it) (code x))

-- Deciding ---------------------------------------------------------------------------------------------------------

decide_by : (b : Bool) (P : Type 0) → (b ≡ true → P) → (P → b ≡ true) → P ⊎ (P → ⊥)
decide_by true P to from = inl (to refl)
decide_by false P to from = inr (λ p. let wrong : false ≡ true = from p in cc)

decide_both : (P Q : Type 0) → P ⊎ (P → ⊥) → Q ⊎ (Q → ⊥) → (P × Q) ⊎ (P × Q → ⊥)
decide_both P Q (inl p) (inl q) = inl (p, q)
decide_both P Q (inr never) q = inr (λ both. never both.0)
decide_both P Q (inl p) (inr never) = inr (λ both. never both.1)

decide_on : (P Q : Type 0) → (P → Q) → (Q → P) → P ⊎ (P → ⊥) → Q ⊎ (Q → ⊥)
decide_on P Q to from (inl p) = inl (to p)
decide_on P Q to from (inr never) = inr (λ q. never (from q))

decide_bytes : (a b : List ℕ) → (a ≡ b) ⊎ (a ≡ b → ⊥)
decide_bytes a b = decide_by _ (a ≡ b) (bytes_eq-Decides a b).0 (bytes_eq-Decides a b).1

decide_number : (a b : ℕ) → (a ≡ b) ⊎ (a ≡ b → ⊥)
decide_number a b = decide_by (a == b) (a ≡ b) (eqb-true a b) (eq-eqb a b)

decide_placement : (a b : Placement) → (a ≡ b) ⊎ (a ≡ b → ⊥)
decide_placement a b =
    decide_on ((a.network ≡ b.network) × ((a.folder ≡ b.folder) × (a.pool ≡ b.pool))) (a ≡ b)
    (λ (p, (q, r)) i. record { network = p i; folder = q i; pool = r i }) (λ e. (ap (λ x. x.network) e, (ap (λ x. x.folder) e, ap (λ x. x.pool) e)))
    (decide_both _ _ (decide_bytes a.network b.network) (decide_both _ _ (decide_bytes a.folder b.folder) (decide_bytes a.pool b.pool)))

some_same : {X : Type 0} (a b : X) → Some a ≡ Some b → a ≡ b
some_same a b e = cc

decide_place : (a b : Option Placement) → (a ≡ b) ⊎ (a ≡ b → ⊥)
decide_place None None = inl refl
decide_place None (Some b) = inr (λ e. cc)
decide_place (Some a) None = inr (λ e. cc)
decide_place (Some a) (Some b) = decide_on (a ≡ b) (Some a ≡ Some b) (λ e i. Some (e i)) (some_same a b) (decide_placement a b)

decide_content : (a b : Content) → (a ≡ b) ⊎ (a ≡ b → ⊥)
decide_content a b =
    decide_on ((a.line ≡ b.line) × ((a.base ≡ b.base) × (a.writes ≡ b.writes))) (a ≡ b)
    (λ (p, (q, r)) i. record { line = p i; base = q i; writes = r i }) (λ e. (ap (λ x. x.line) e, (ap (λ x. x.base) e, ap (λ x. x.writes) e)))
    (decide_both _ _ (decide_number a.line b.line) (decide_both _ _ (decide_number a.base b.base) (decide_number a.writes b.writes)))

decide_one_snapshot : (a b : Snapshot) → (a ≡ b) ⊎ (a ≡ b → ⊥)
decide_one_snapshot a b =
    decide_on ((a.run ≡ b.run) × (a.content ≡ b.content)) (a ≡ b)
    (λ (p, q) i. record { run = p i; content = q i }) (λ e. (ap (λ x. x.run) e, ap (λ x. x.content) e))
    (decide_both _ _ (decide_number a.run b.run) (decide_content a.content b.content))

decide_snapshot : (found wanted : Option Snapshot) → IfSome found (λ s. wanted ≡ Some s) ⊎ (IfSome found (λ s. wanted ≡ Some s) → ⊥)
decide_snapshot None wanted = inl tt
decide_snapshot (Some s) None = inr (λ e. cc)
decide_snapshot (Some s) (Some w) = decide_on (w ≡ s) (Some w ≡ Some s) (λ e i. Some (e i)) (some_same w s) (decide_one_snapshot w s)

decide_content_of : (it found : Half) → HasContentOf it found ⊎ (HasContentOf it found → ⊥)
decide_content_of it found =
    decide_on ((found.content ≡ it.content) × IfSome found.snapshot (λ s. it.snapshot ≡ Some s)) (HasContentOf it found)
    (λ (p, q). record { content = p; snapshot = q }) (λ h. (h.content, h.snapshot))
    (decide_both _ _ (decide_content found.content it.content) (decide_snapshot found.snapshot it.snapshot))

-- Something is wanted ------------------------------------------------------------------------------------------------

pub some_post : (expected : PostsExpected) (side : Side) (found some : Post) → IsExpectedPost expected side some → ((wanted : Post) → IsWantedPost expected side found wanted → ⊥) → ⊥
some_post expected side found some is none =
    some_nearest (IsExpectedPost expected side) (expected_post_code side) (λ post. place_in post ≡ place_in found) some is
    (λ w its least nearest. none w (record { is_expected = its; least = least; nearest = nearest }))

pub some_half : (expected : HalvesExpected) (side : Side) (found some : Half) → IsExpectedHalf expected side some → ((wanted : Half) → IsWantedHalf expected side found wanted → ⊥) → ⊥
some_half expected side found some is none =
    some_nearest (IsExpectedHalf expected side) (expected_half_code side) (λ it. HasContentOf it found) some is
    (λ w its least nearest. none w (record { is_expected = its; least = least; nearest = nearest }))

pub listed_post : (expected : PostsExpected) (side : Side) (found first : Post) (rest : List Post) → ((post : Post) → IsExpectedPost expected side post ↔ Contains (first ∷ rest) post) → (wanted : Post) × IsWantedPost expected side found wanted
listed_post expected side found first rest are = (
  c.it,
  record {
    is_expected = (are c.it).1 c.listed;
    least = λ post is. c.least post ((are post).0 is);
    nearest = λ post is. c.nearest post ((are post).0 is);
  },
)
  where
    c : Chosen (expected_post_code side) (λ post. place_in post ≡ place_in found) (first ∷ rest)
    c = choose (expected_post_code side) (λ post. place_in post ≡ place_in found) (λ post. decide_place (place_in post) (place_in found)) first rest

pub listed_half : (expected : HalvesExpected) (side : Side) (found first : Half) (rest : List Half) → ((it : Half) → IsExpectedHalf expected side it ↔ Contains (first ∷ rest) it) → (wanted : Half) × IsWantedHalf expected side found wanted
listed_half expected side found first rest are = (
  c.it,
  record {
    is_expected = (are c.it).1 c.listed;
    least = λ it is. c.least it ((are it).0 is);
    nearest = λ it is. c.nearest it ((are it).0 is);
  },
)
  where
    c : Chosen (expected_half_code side) (λ it. HasContentOf it found) (first ∷ rest)
    c = choose (expected_half_code side) (λ it. HasContentOf it found) (λ it. decide_content_of it found) first rest

-- Bits -----------------------------------------------------------------------------------------------------------------

-- 1 where the test passes
abbrev one : Bool → ℕ
one true = 1
one false = 0

one_small : (b : Bool) → one b ≤ 1
one_small true = omega arith
one_small false = omega arith

one_same : (a b : Bool) → one a ≡ one b → a ≡ b
one_same true true e = refl
one_same false false e = refl
one_same true false e = absurd (omega (arith, e))
one_same false true e = absurd (omega (arith, e))

bit_is : (value : ℕ) (b : Bool) → bit value b ≡ value * one b
bit_is value true = omega arith
bit_is value false = omega arith

not_false : (b : Bool) → not b ≡ false → b ≡ true
not_false true e = refl
not_false false e = absurd cc

both_true : (a b : Bool) → (a ≡ true → b ≡ true) → (b ≡ true → a ≡ true) → a ≡ b
both_true true b to from = sym (to refl)
both_true false true to from = from refl
both_true false false to from = refl

-- Codes of posts ---------------------------------------------------------------------------------------------------------

three_true : (a b c : Bool) → a && b && c ≡ true → (a ≡ true) × (b ≡ true) × (c ≡ true)
three_true true true true e = (refl, refl, refl)
three_true true true false e = absurd cc
three_true true false c e = absurd cc
three_true false b c e = absurd cc

same_place_is : (a b : Placement) → same_place a b ≡ true → a ≡ b
same_place_is a b e =
    let three = three_true (bytes_eq a.network b.network) (bytes_eq a.folder b.folder) (bytes_eq a.pool b.pool) e in
    λ i. record { network = (bytes_eq-Decides a.network b.network).0 three.0 i; folder = (bytes_eq-Decides a.folder b.folder).0 three.1 i; pool = (bytes_eq-Decides a.pool b.pool).0 three.2 i }

pub is_same_place : (a b : Placement) → a ≡ b → same_place a b ≡ true
is_same_place a b e = three _ _ _ ((bytes_eq-Decides a.network b.network).1 (ap (λ x. x.network) e)) ((bytes_eq-Decides a.folder b.folder).1 (ap (λ x. x.folder) e)) ((bytes_eq-Decides a.pool b.pool).1 (ap (λ x. x.pool) e))
  where
    three : (a b c : Bool) → a ≡ true → b ≡ true → c ≡ true → a && b && c ≡ true
    three true true true p q r = refl
    three true true false p q r = r
    three true false c p q r = q
    three false b c p q r = p

wanted_is : (o : Option Placement) (place : Placement) → is_wanted o place ≡ true → o ≡ Some place
wanted_is None place e = absurd cc
wanted_is (Some wanted) place e = λ i. Some (sym (same_place_is place wanted e) i)

is_wanted_at : (o : Option Placement) (place : Placement) → o ≡ Some place → is_wanted o place ≡ true
is_wanted_at None place e = absurd cc
is_wanted_at (Some wanted) place e = is_same_place place wanted (sym (some_same wanted place e))

-- where the wanted code is the found one's, both are one
placed_same : (k j : ℕ) (w x : Placed) → k ≤ 3 → j ≤ 3 → k + placed_code (Some w.place) w ≡ j + placed_code (Some w.place) x → (k ≡ j) × (w ≡ x)
placed_same k j w x k_small j_small e = (omega (arith, e, k_small, j_small, w4, x4, x8, own8, w1, x1, x2), λ i. record { place = sym (same_place_is x.place w.place place) i; bubble = bubble i })
  where
    own : is_wanted (Some w.place) w.place ≡ true
    own = is_same_place w.place w.place refl

    own8 : bit 8 (not (is_wanted (Some w.place) w.place)) ≡ 0
    own8 = ap (λ b. bit 8 (not b)) own

    w4 : bit 4 w.bubble ≡ 4 * one w.bubble
    w4 = bit_is 4 w.bubble

    x4 : bit 4 x.bubble ≡ 4 * one x.bubble
    x4 = bit_is 4 x.bubble

    x8 : bit 8 (not (is_wanted (Some w.place) x.place)) ≡ 8 * one (not (is_wanted (Some w.place) x.place))
    x8 = bit_is 8 (not (is_wanted (Some w.place) x.place))

    w1 : one w.bubble ≤ 1
    w1 = one_small w.bubble

    x1 : one x.bubble ≤ 1
    x1 = one_small x.bubble

    x2 : one (not (is_wanted (Some w.place) x.place)) ≤ 1
    x2 = one_small (not (is_wanted (Some w.place) x.place))

    bubble : w.bubble ≡ x.bubble
    bubble = one_same w.bubble x.bubble (omega (arith, e, k_small, j_small, w4, x4, x8, own8, w1, x1, x2))

    place : same_place x.place w.place ≡ true
    place = not_false (same_place x.place w.place) (one_same (not (same_place x.place w.place)) false (omega (arith, e, k_small, j_small, w4, x4, x8, own8, w1, x1, x2)))

placeholder_apart : (k : ℕ) (w : Option Placement) (x : Placed) → 1 ≤ k → 0 ≡ k + placed_code w x → ⊥
placeholder_apart k w x le e = omega (arith, le, e)

same_standing : (side : Side) (w x : Post) → expected_post_code side w ≡ post_code side (place_in w) x → w ≡ x
same_standing side Post.Placeholder Post.Placeholder e = refl
same_standing side Post.Placeholder (Post.Off x) e = absurd (omega (arith, e))
same_standing side Post.Placeholder (Post.On x) e = absurd (omega (arith, e))
same_standing side Post.Placeholder (Post.Ready x) e = absurd (omega (arith, e))
same_standing side (Post.Off w) Post.Placeholder e = absurd (omega (arith, e))
same_standing side (Post.Off w) (Post.Off x) e = ap Post.Off (placed_same 1 1 w x (omega arith) (omega arith) (omega (arith, e))).1
same_standing side (Post.Off w) (Post.On x) e = absurd (let same = (placed_same 1 2 w x (omega arith) (omega arith) (omega (arith, e))).0 in omega (arith, same))
same_standing side (Post.Off w) (Post.Ready x) e = absurd (let same = (placed_same 1 3 w x (omega arith) (omega arith) (omega (arith, e))).0 in omega (arith, same))
same_standing side (Post.On w) Post.Placeholder e = absurd (omega (arith, e))
same_standing side (Post.On w) (Post.Off x) e = absurd (let same = (placed_same 2 1 w x (omega arith) (omega arith) (omega (arith, e))).0 in omega (arith, same))
same_standing side (Post.On w) (Post.On x) e = ap Post.On (placed_same 2 2 w x (omega arith) (omega arith) (omega (arith, e))).1
same_standing side (Post.On w) (Post.Ready x) e = absurd (let same = (placed_same 2 3 w x (omega arith) (omega arith) (omega (arith, e))).0 in omega (arith, same))
same_standing side (Post.Ready w) Post.Placeholder e = absurd (omega (arith, e))
same_standing side (Post.Ready w) (Post.Off x) e = absurd (let same = (placed_same 3 1 w x (omega arith) (omega arith) (omega (arith, e))).0 in omega (arith, same))
same_standing side (Post.Ready w) (Post.On x) e = absurd (let same = (placed_same 3 2 w x (omega arith) (omega arith) (omega (arith, e))).0 in omega (arith, same))
same_standing side (Post.Ready w) (Post.Ready x) e = ap Post.Ready (placed_same 3 3 w x (omega arith) (omega arith) (omega (arith, e))).1

placed_small : (o : Option Placement) (x : Placed) → placed_code o x ≤ 12
placed_small o x =
    let four = bit_is 4 x.bubble in
    let eight = bit_is 8 (not (is_wanted o x.place)) in
    let a = one_small x.bubble in
    let b = one_small (not (is_wanted o x.place)) in
    omega (arith, four, eight, a, b)

post_small : (side : Side) (o : Option Placement) (post : Post) → post_code side o post ≤ 31
post_small side o post = go post
  where
    sixteen : bit 16 (same_side side Side.B) ≤ 16
    sixteen = let is = bit_is 16 (same_side side Side.B) in let small = one_small (same_side side Side.B) in omega (arith, is, small)

    go : (post : Post) → post_code side o post ≤ 31
    go Post.Placeholder = omega (arith, sixteen)
    go (Post.Off x) = let small = placed_small o x in omega (arith, sixteen, small)
    go (Post.On x) = let small = placed_small o x in omega (arith, sixteen, small)
    go (Post.Ready x) = let small = placed_small o x in omega (arith, sixteen, small)

pub post_differs : (expected : PostsExpected) (side : Side) (refused : Bool) (found : Post) (a b : ℕ) → IsForeignPost expected side refused found a b → a ≡ b → ⊥
post_differs expected side true found a b f e =
    let small = post_small side (place_in f.wanted) f.wanted in
    let wanted = f.wanted_is in
    let told = f.found_is in
    omega (arith, e, small, wanted, told)
post_differs expected side false found a b f e =
    f.unexpected refl (subst (IsExpectedPost expected side) (same_standing side f.wanted found (sym f.wanted_is ∙ e ∙ f.found_is)) f.is_wanted.is_expected)

-- the found code, by either of two that are wanted
found_same : (side : Side) (found : Post) (o p : Option Placement) → (o ≡ place_in found → p ≡ place_in found) → (p ≡ place_in found → o ≡ place_in found) → post_code side o found ≡ post_code side p found
found_same side found o p to from = go found to from
  where
    placed : (x : Placed) → (o ≡ Some x.place → p ≡ Some x.place) → (p ≡ Some x.place → o ≡ Some x.place) → placed_code o x ≡ placed_code p x
    placed x to from = ap (λ b. bit 4 x.bubble + bit 8 (not b)) (both_true (is_wanted o x.place) (is_wanted p x.place) (λ e. is_wanted_at p x.place (to (wanted_is o x.place e))) (λ e. is_wanted_at o x.place (from (wanted_is p x.place e))))

    go : (found : Post) → (o ≡ place_in found → p ≡ place_in found) → (p ≡ place_in found → o ≡ place_in found) → post_code side o found ≡ post_code side p found
    go Post.Placeholder to from = refl
    go (Post.Off x) to from = ap (λ n. 1 + n + bit 16 (same_side side Side.B)) (placed x to from)
    go (Post.On x) to from = ap (λ n. 2 + n + bit 16 (same_side side Side.B)) (placed x to from)
    go (Post.Ready x) to from = ap (λ n. 3 + n + bit 16 (same_side side Side.B)) (placed x to from)

pub one_post : (expected : PostsExpected) (side : Side) (refused : Bool) (found : Post) (a b c d : ℕ) → IsForeignPost expected side refused found a b → IsForeignPost expected side refused found c d → (a ≡ c) × (b ≡ d)
one_post expected side refused found a b c d f g = (f.wanted_is ∙ codes ∙ sym g.wanted_is, f.found_is ∙ ap (told_code refused) found_one ∙ sym g.found_is)
  where
    codes : expected_post_code side f.wanted ≡ expected_post_code side g.wanted
    codes =
        let le = f.is_wanted.least g.wanted g.is_wanted.is_expected in
        let ge = g.is_wanted.least f.wanted f.is_wanted.is_expected in
        omega (arith, le, ge)

    found_one : post_code side (place_in f.wanted) found ≡ post_code side (place_in g.wanted) found
    found_one = found_same side found (place_in f.wanted) (place_in g.wanted) (g.is_wanted.nearest f.wanted f.is_wanted.is_expected codes) (f.is_wanted.nearest g.wanted g.is_wanted.is_expected (sym codes))

-- Codes of halves --------------------------------------------------------------------------------------------------------

side_same : (a b : Side) → same_side a Side.B ≡ same_side b Side.B → a ≡ b
side_same Side.A Side.A e = refl
side_same Side.B Side.B e = refl
side_same Side.A Side.B e = absurd cc
side_same Side.B Side.A e = absurd cc

link_same : (a b : Link) → not (is_live a) ≡ not (is_live b) → a ≡ b
link_same Link.Live Link.Live e = refl
link_same Link.Split Link.Split e = refl
link_same Link.Live Link.Split e = absurd cc
link_same Link.Split Link.Live e = absurd cc

snapshot_same : (w x : Option Snapshot) → is_some w ≡ is_some x → IfSome x (λ s. w ≡ Some s) → w ≡ x
snapshot_same w (Some s) e same = same
snapshot_same None None e same = refl
snapshot_same (Some w) None e same = absurd cc

-- a half's code as a number of bits
module _ (side : Side) (as_wanted : Bool) (it : Half) where
  half_bits : half_code side as_wanted it ≡ one (same_side it.source Side.B) + 2 * one (not (is_live it.link)) + 4 * one it.writable + 8 * one (same_side side Side.B) + 16 * one (is_some it.snapshot) + 32 * one (not as_wanted)
  half_bits =
      let a = bit_is 1 (same_side it.source Side.B) in
      let b = bit_is 2 (not (is_live it.link)) in
      let c = bit_is 4 it.writable in
      let d = bit_is 8 (same_side side Side.B) in
      let e = bit_is 16 (is_some it.snapshot) in
      let f = bit_is 32 (not as_wanted) in
      omega (arith, a, b, c, d, e, f)

half_small : (side : Side) (it : Half) → expected_half_code side it ≤ 31
half_small side it =
    let bits = half_bits side true it in
    let a = one_small (same_side it.source Side.B) in
    let b = one_small (not (is_live it.link)) in
    let c = one_small it.writable in
    let d = one_small (same_side side Side.B) in
    let e = one_small (is_some it.snapshot) in
    omega (arith, bits, a, b, c, d, e)

-- bits that make one number are the same
same_bits : (a b c d a' b' c' d' m k : ℕ) → a ≤ 1 → b ≤ 1 → c ≤ 1 → d ≤ 1 → a' ≤ 1 → b' ≤ 1 → c' ≤ 1 → d' ≤ 1 → m ≤ 1 → a + 2 * b + 4 * c + 8 * k + 16 * d ≡ a' + 2 * b' + 4 * c' + 8 * k + 16 * d' + 32 * m → (a ≡ a') × (b ≡ b') × (c ≡ c') × (d ≡ d') × (m ≡ 0)
same_bits a b c d a' b' c' d' m k la lb lc ld la' lb' lc' ld' lm e =
    (omega (arith, la, lb, lc, ld, la', lb', lc', ld', lm, e), omega (arith, la, lb, lc, ld, la', lb', lc', ld', lm, e), omega (arith, la, lb, lc, ld, la', lb', lc', ld', lm, e), omega (arith, la, lb, lc, ld, la', lb', lc', ld', lm, e), omega (arith, la, lb, lc, ld, la', lb', lc', ld', lm, e))

same_half : (side : Side) (w x : Half) (as_wanted : Bool) → (as_wanted ≡ true → HasContentOf w x) → expected_half_code side w ≡ half_code side as_wanted x → w ≡ x
same_half side w x as_wanted content e = λ i. record {
  source = side_same w.source x.source (one_same (same_side w.source Side.B) (same_side x.source Side.B) bits.0) i;
  link = link_same w.link x.link (one_same (not (is_live w.link)) (not (is_live x.link)) bits.1) i;
  writable = one_same w.writable x.writable bits.2 i;
  content = sym its.content i;
  snapshot = snapshot_same w.snapshot x.snapshot (one_same (is_some w.snapshot) (is_some x.snapshot) bits.3) its.snapshot i;
}
  where
    bits : (one (same_side w.source Side.B) ≡ one (same_side x.source Side.B)) × (one (not (is_live w.link)) ≡ one (not (is_live x.link))) × (one w.writable ≡ one x.writable) × (one (is_some w.snapshot) ≡ one (is_some x.snapshot)) × (one (not as_wanted) ≡ 0)
    bits = same_bits (one (same_side w.source Side.B)) (one (not (is_live w.link))) (one w.writable) (one (is_some w.snapshot)) (one (same_side x.source Side.B)) (one (not (is_live x.link))) (one x.writable) (one (is_some x.snapshot)) (one (not as_wanted)) (one (same_side side Side.B))
        (one_small (same_side w.source Side.B)) (one_small (not (is_live w.link))) (one_small w.writable) (one_small (is_some w.snapshot)) (one_small (same_side x.source Side.B)) (one_small (not (is_live x.link))) (one_small x.writable) (one_small (is_some x.snapshot)) (one_small (not as_wanted))
        (let of_w = half_bits side true w in let of_x = half_bits side as_wanted x in omega (arith, e, of_w, of_x))

    its : HasContentOf w x
    its = content (not_false as_wanted (one_same (not as_wanted) false bits.4))

pub half_differs : (expected : HalvesExpected) (side : Side) (refused : Bool) (found : Half) (a b : ℕ) → IsForeignHalf expected side refused found a b → a ≡ b → ⊥
half_differs expected side true found a b f e =
    let small = half_small side f.wanted in
    let wanted = f.wanted_is in
    let told = f.found_is in
    omega (arith, e, small, wanted, told)
half_differs expected side false found a b f e =
    f.unexpected refl (subst (IsExpectedHalf expected side) (same_half side f.wanted found f.as_wanted f.tells_content.0 (sym f.wanted_is ∙ e ∙ f.found_is)) f.is_wanted.is_expected)

pub one_half : (expected : HalvesExpected) (side : Side) (refused : Bool) (found : Half) (a b c d : ℕ) → IsForeignHalf expected side refused found a b → IsForeignHalf expected side refused found c d → (a ≡ c) × (b ≡ d)
one_half expected side refused found a b c d f g = (f.wanted_is ∙ codes ∙ sym g.wanted_is, f.found_is ∙ ap (λ tells. told_code refused (half_code side tells found)) as_one ∙ sym g.found_is)
  where
    codes : expected_half_code side f.wanted ≡ expected_half_code side g.wanted
    codes =
        let le = f.is_wanted.least g.wanted g.is_wanted.is_expected in
        let ge = g.is_wanted.least f.wanted f.is_wanted.is_expected in
        omega (arith, le, ge)

    as_one : f.as_wanted ≡ g.as_wanted
    as_one = both_true f.as_wanted g.as_wanted
        (λ e. g.tells_content.1 (g.is_wanted.nearest f.wanted f.is_wanted.is_expected codes (f.tells_content.0 e)))
        (λ e. f.tells_content.1 (f.is_wanted.nearest g.wanted g.is_wanted.is_expected (sym codes) (g.tells_content.0 e)))

-- Questions --------------------------------------------------------------------------------------------------------------

pub half_expected : (setting : Setting) (runs : List Run) (world : World) → IsSoundBy setting runs world → (g p : ℕ) (side : Side) (now : Pair) (it : Half) → IsPairOf setting.estate g p → p < world.pair_count → Read side (world.pair p) now it → IsExpectedHalf (HalvesExpected.ByRuns setting.estate g p runs) side it
half_expected setting runs world sound g p side now it of_group there r = (r.moment, drift_fits (world.pair p) r.moment r.before setting.estate runs g p (sound.pairs g p of_group there), r.seen)
