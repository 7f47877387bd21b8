-- A file is damaged at one place, or it is a whole lawful journal; and what a restart on one image of a disk keeps.
use Rattle.std.specs.Prelude.{◌≡◌, ℕ, ◌+◌, ◌<◌, ◌⊎◌, List, [], ◌∷◌, ◌++◌, length, Some}
use Rattle.std.proofs.Common.{refl, sym, ap, ◌∙◌, subst, inl, inr, arith}
use Rattle.std.proofs.lemmas.List.{append_assoc, append-nil}
use Rattle.std.proofs.lemmas.List.Sums.{sum_by-append, sum_by-cons}
use Rattle.dr_disk.specs.Disk.{NoOther, Follows, OnlyOne}
use Rattle.dr_journal.specs.Reading.{Reading, journal_of}
use Rattle.dr_journal.specs.Reading.Reading.{Whole, DamagedAt}
use Rattle.dr_journal.specs.Kept.{SameRecords}
use Rattle.dr_journal.specs.Places.{place_after, StandsAt}
use Rattle.dr_journal.proofs.Laws.{whole_same, whole_not_damaged}
use Rattle.dr_meaning.specs.Types.{Record}
use Rattle.dr_meaning.specs.Worlds.{World}
use Rattle.dr_meaning.specs.Runs.{Setting, Run, runs_of, add_record}
use Rattle.dr_meaning.specs.Lawful.{LawfulAfter}
use Rattle.dr_meaning.specs.Journals.{AreSpelled, HasRecords, Stands, AllTell, AreLawful, MayFollow, IsUnlawfulAt, IsDamagedAt}
use Rattle.dr_meaning.specs.Sound.{IsSound, AreSound}
use Rattle.dr_meaning.specs.Images.{Keeps}
use Rattle.dr_model.proofs.FileLaws.{one_list, spelled_append}

-- Fronts of lawful records

-- the bodies at the front spell the records at the front
spelled_front : (front rest : List (List ℕ)) (records : List Record) → AreSpelled (front ++ rest) records → (before : List Record) × (behind : List Record) × (records ≡ before ++ behind) × AreSpelled front before × AreSpelled rest behind
spelled_front [] rest records h = ([], records, refl, tt, h)
spelled_front (body ∷ front) rest [] h = elim h [ ]
spelled_front (body ∷ front) rest (item ∷ records) h =
    let (before, behind, are, first, second) = spelled_front front rest records h.1 in
    (item ∷ before, behind, ap (λ l. item ∷ l) are, (h.0, first), second)

lawful_front : (setting : Setting) (runs : List Run) (xs ys : List Record) → LawfulAfter setting runs (xs ++ ys) → LawfulAfter setting runs xs
lawful_front setting runs [] ys h = tt
lawful_front setting runs (x ∷ xs) ys h = (h.0, lawful_front setting (add_record setting runs x) xs ys h.1)

stand_front : (setting : Setting) (x : Record) (xs ys : List Record) (runs : List Run) → Stands setting (x ∷ (xs ++ ys)) runs → Stands setting (x ∷ xs) (runs_of setting xs)
stand_front setting x xs ys runs s =
    let are : x ∷ (xs ++ ys) ≡ Record.Estate s.bytes ∷ s.rest = s.are in
    let first : x ≡ Record.Estate s.bytes = cc in
    let rest : xs ++ ys ≡ s.rest = cc in
    record {
      bytes = s.bytes;
      rest = xs;
      are = ap (λ item. item ∷ xs) first;
      declares = s.declares;
      lawful = lawful_front setting [] xs ys (subst (λ l. LawfulAfter setting [] l) (sym rest) s.lawful);
      runs_are = refl;
    }

-- the first ones of lawful records are lawful
lawful_before : (xs ys : List Record) → AreLawful (xs ++ ys) → AreLawful xs
lawful_before [] ys h = inl refl
lawful_before (x ∷ xs) ys (inl none) = let wrong : x ∷ (xs ++ ys) ≡ [] = none in cc
lawful_before (x ∷ xs) ys (inr (setting, runs, stand)) = inr (setting, runs_of setting xs, stand_front setting x xs ys runs stand)

-- of bodies that spell lawful records, each may follow those before it
follows_front : (front : List (List ℕ)) (next : List ℕ) (rest : List (List ℕ)) (records : List Record) → AreSpelled (front ++ next ∷ rest) records → AreLawful records
    → (before : List Record) × AreSpelled front before × AreLawful before × MayFollow before next
follows_front front next rest records spelled lawful =
    let (before, behind, are, first, second) = spelled_front front (next ∷ rest) records spelled in
    go before behind are first second
  where
    go : (before behind : List Record) → records ≡ before ++ behind → AreSpelled front before → AreSpelled (next ∷ rest) behind → (before : List Record) × AreSpelled front before × AreLawful before × MayFollow before next
    go before [] are first second = elim second [ ]
    go before (item ∷ behind) are first second =
        let split : records ≡ (before ++ item ∷ []) ++ behind = are ∙ sym (append_assoc before (item ∷ []) behind) in
        let one : AreLawful (before ++ item ∷ []) = lawful_before (before ++ item ∷ []) behind (subst (λ l. AreLawful l) split lawful) in
        (before, first, lawful_before before (item ∷ []) one, record { item = item; spelled = second.0; lawful = one })

-- where one list is cut twice, the cuts are one, or one is in the other's front
two_cuts : (a b : List (List ℕ)) (x y : List ℕ) (s t : List (List ℕ)) → a ++ x ∷ s ≡ b ++ y ∷ t → (a ≡ b) ⊎ (((more : List (List ℕ)) × (b ≡ a ++ x ∷ more)) ⊎ ((more : List (List ℕ)) × (a ≡ b ++ y ∷ more)))
two_cuts [] [] x y s t e = inl refl
two_cuts [] (d ∷ b) x y s t e =
    let same : x ∷ s ≡ d ∷ (b ++ y ∷ t) = e in
    let first : d ≡ x = cc in
    inr (inl (b, ap (λ z. z ∷ b) first))
two_cuts (c ∷ a) [] x y s t e =
    let same : c ∷ (a ++ x ∷ s) ≡ y ∷ t = e in
    let first : c ≡ y = cc in
    inr (inr (a, ap (λ z. z ∷ a) first))
two_cuts (c ∷ a) (d ∷ b) x y s t e =
    let same : c ∷ (a ++ x ∷ s) ≡ d ∷ (b ++ y ∷ t) = e in
    let first : c ≡ d = cc in
    let rest : a ++ x ∷ s ≡ b ++ y ∷ t = cc in
    go first (two_cuts a b x y s t rest)
  where
    go : c ≡ d → (a ≡ b) ⊎ (((more : List (List ℕ)) × (b ≡ a ++ x ∷ more)) ⊎ ((more : List (List ℕ)) × (a ≡ b ++ y ∷ more)))
        → (c ∷ a ≡ d ∷ b) ⊎ (((more : List (List ℕ)) × (d ∷ b ≡ (c ∷ a) ++ x ∷ more)) ⊎ ((more : List (List ℕ)) × (c ∷ a ≡ (d ∷ b) ++ y ∷ more)))
    go first (inl is) = inl (λ i. first i ∷ is i)
    go first (inr (inl (more, is))) = inr (inl (more, λ i. sym first i ∷ is i))
    go first (inr (inr (more, is))) = inr (inr (more, λ i. first i ∷ is i))

-- behind one front stands one body
one_next : (front : List (List ℕ)) (x y : List ℕ) (s t : List (List ℕ)) → front ++ x ∷ s ≡ front ++ y ∷ t → x ≡ y
one_next [] x y s t e = let same : x ∷ s ≡ y ∷ t = e in cc
one_next (body ∷ front) x y s t e =
    let same : body ∷ (front ++ x ∷ s) ≡ body ∷ (front ++ y ∷ t) = e in
    let rest : front ++ x ∷ s ≡ front ++ y ∷ t = cc in
    one_next front x y s t rest

-- A file is damaged at one place, or it is whole and lawful

-- no lawful records begin with those up to an unlawful one
not_followed : (place : ℕ) (file : List ℕ) (u : IsUnlawfulAt place file) (rest : List (List ℕ)) (records : List Record) → AreSpelled (u.before ++ u.body ∷ rest) records → AreLawful records → ⊥
not_followed place file u rest records spelled lawful =
    let (before, first, law, follow) = follows_front u.before u.body rest records spelled lawful in
    u.unlawful (subst (λ l. MayFollow l u.body) (one_list u.before before u.records first u.spelled) follow)

pub lawful_not_damaged : (records : List Record) (place : ℕ) (file : List ℕ) → HasRecords records file → AreLawful records → IsDamagedAt place file → ⊥
lawful_not_damaged records place file h lawful (inl damaged) = whole_not_damaged file h.bodies place h.whole damaged
lawful_not_damaged records place file h lawful (inr u) =
    let same : h.bodies ≡ u.before ++ u.body ∷ u.behind = whole_same h.bodies (u.before ++ u.body ∷ u.behind) (sym h.whole ∙ u.whole) in
    not_followed place file u u.behind records (subst (λ l. AreSpelled l records) same h.spelled) lawful

-- two unlawful records of a file are one
one_unlawful : (p q : ℕ) (file : List ℕ) → IsUnlawfulAt p file → IsUnlawfulAt q file → p ≡ q
one_unlawful p q file u v = go (two_cuts u.before v.before u.body v.body u.behind v.behind (whole_same (u.before ++ u.body ∷ u.behind) (v.before ++ v.body ∷ v.behind) (sym u.whole ∙ v.whole)))
  where
    go : (u.before ≡ v.before) ⊎ (((more : List (List ℕ)) × (v.before ≡ u.before ++ u.body ∷ more)) ⊎ ((more : List (List ℕ)) × (u.before ≡ v.before ++ v.body ∷ more))) → p ≡ q
    go (inl same) = u.is_at ∙ ap place_after same ∙ sym v.is_at
    go (inr (inl (more, same))) = absurd (not_followed p file u more v.records (subst (λ l. AreSpelled l v.records) same v.spelled) v.lawful)
    go (inr (inr (more, same))) = absurd (not_followed q file v more u.records (subst (λ l. AreSpelled l u.records) same u.spelled) u.lawful)

pub one_place : (p q : ℕ) (file : List ℕ) → IsDamagedAt p file → IsDamagedAt q file → p ≡ q
one_place p q file (inl a) (inl b) = let same : DamagedAt p ≡ DamagedAt q = sym a ∙ b in cc
one_place p q file (inl a) (inr v) = absurd (whole_not_damaged file (v.before ++ v.body ∷ v.behind) p v.whole a)
one_place p q file (inr u) (inl b) = absurd (whole_not_damaged file (u.before ++ u.body ∷ u.behind) q u.whole b)
one_place p q file (inr u) (inr v) = one_unlawful p q file u v

-- behind lawful records there is no file that is neither
neither_behind : (file : List ℕ) → ((records : List Record) → HasRecords records file → AreLawful records → ⊥) → ((place : ℕ) → IsDamagedAt place file → ⊥)
    → (behind before : List (List ℕ)) (records : List Record) → journal_of file ≡ Whole (before ++ behind) → AreSpelled before records → AreLawful records → ⊥
neither_behind file unlawful undamaged [] before records whole spelled lawful = unlawful records (record { bodies = before; whole = whole ∙ ap Whole (append-nil before); spelled = spelled }) lawful
neither_behind file unlawful undamaged (body ∷ behind) before records whole spelled lawful =
    let next : journal_of file ≡ Whole ((before ++ body ∷ []) ++ behind) = whole ∙ ap Whole (sym (append_assoc before (body ∷ []) behind)) in
    undamaged (place_after before) (inr (record {
      before = before;
      body = body;
      behind = behind;
      whole = whole;
      records = records;
      spelled = spelled;
      lawful = lawful;
      unlawful = λ f. neither_behind file unlawful undamaged behind (before ++ body ∷ []) (records ++ f.item ∷ []) next (spelled_append before records body f.item spelled f.spelled) f.lawful;
      is_at = refl;
    }))

pub no_third : (file : List ℕ) → ((records : List Record) → HasRecords records file → AreLawful records → ⊥) → ((place : ℕ) → IsDamagedAt place file → ⊥) → ⊥
no_third file unlawful undamaged = go (journal_of file) refl
  where
    go : (reading : Reading) → journal_of file ≡ reading → ⊥
    go (Whole bodies) whole = neither_behind file unlawful undamaged bodies [] [] whole tt (inl refl)
    go (DamagedAt place) damaged = undamaged place (inl damaged)

-- The gates up to an unlawful record

-- a gate stands there
pub unlawful_stands : (place : ℕ) (file : List ℕ) → IsUnlawfulAt place file → StandsAt file place
unlawful_stands place file u = (u.before, u.body ∷ u.behind, u.whole, u.is_at)

-- behind a record more the gate stands further on
further : (front : List (List ℕ)) (next : List ℕ) (more : List (List ℕ)) → place_after front < place_after (front ++ next ∷ more)
further front next more = omega (arith, sum_by-append (λ b. 5 + length b) front (next ∷ more), sum_by-cons (λ b. 5 + length b) next more)

-- the body behind each gate before it may follow
pub lawful_gates : (place : ℕ) (file : List ℕ) (front : List (List ℕ)) (next : List ℕ) (rest : List (List ℕ)) → IsUnlawfulAt place file → journal_of file ≡ Whole (front ++ next ∷ rest) → place_after front < place
    → (records : List Record) × AreSpelled front records × AreLawful records × MayFollow records next
lawful_gates place file front next rest u whole less = go (two_cuts front u.before next u.body rest u.behind (whole_same (front ++ next ∷ rest) (u.before ++ u.body ∷ u.behind) (sym whole ∙ u.whole)))
  where
    go : (front ≡ u.before) ⊎ (((more : List (List ℕ)) × (u.before ≡ front ++ next ∷ more)) ⊎ ((more : List (List ℕ)) × (front ≡ u.before ++ u.body ∷ more)))
        → (records : List Record) × AreSpelled front records × AreLawful records × MayFollow records next
    go (inl same) = absurd (omega (arith, less, u.is_at, ap place_after same))
    go (inr (inl (more, same))) = follows_front front next more u.records (subst (λ l. AreSpelled l u.records) same u.spelled) u.lawful
    go (inr (inr (more, same))) = absurd (omega (arith, less, u.is_at, ap place_after same, further u.before u.body more))

-- the body behind this one may not, though the records before it are lawful
pub unlawful_gate : (place : ℕ) (file : List ℕ) (front : List (List ℕ)) (next : List ℕ) (rest : List (List ℕ)) → IsUnlawfulAt place file → journal_of file ≡ Whole (front ++ next ∷ rest) → place_after front ≡ place
    → (records : List Record) × AreSpelled front records × AreLawful records × (MayFollow records next → ⊥)
unlawful_gate place file front next rest u whole here = go (two_cuts front u.before next u.body rest u.behind both)
  where
    both : front ++ next ∷ rest ≡ u.before ++ u.body ∷ u.behind
    both = whole_same (front ++ next ∷ rest) (u.before ++ u.body ∷ u.behind) (sym whole ∙ u.whole)

    go : (front ≡ u.before) ⊎ (((more : List (List ℕ)) × (u.before ≡ front ++ next ∷ more)) ⊎ ((more : List (List ℕ)) × (front ≡ u.before ++ u.body ∷ more)))
        → (records : List Record) × AreSpelled front records × AreLawful records × (MayFollow records next → ⊥)
    go (inl same) =
        let body : next ≡ u.body = one_next front next u.body rest u.behind (both ∙ ap (λ l. l ++ u.body ∷ u.behind) (sym same)) in
        (u.records, subst (λ l. AreSpelled l u.records) (sym same) u.spelled, u.lawful, λ f. u.unlawful (subst (λ b. MayFollow u.records b) body f))
    go (inr (inl (more, same))) = absurd (omega (arith, here, u.is_at, ap place_after same, further front next more))
    go (inr (inr (more, same))) = absurd (omega (arith, here, u.is_at, ap place_after same, further u.before u.body more))

-- Soundness, an opening and a restart

pub sound_not_damaged : (world : World) (place : ℕ) (file : List ℕ) → IsSound world file → IsDamagedAt place file → ⊥
sound_not_damaged world place file (inl empty) damaged = lawful_not_damaged [] place file empty (inl refl) damaged
sound_not_damaged world place file (inr s) damaged = lawful_not_damaged s.tells.records place file s.tells.has (inr (s.setting, s.runs, s.tells.stand)) damaged

pub same_damage : (place : ℕ) (old new : List ℕ) → SameRecords old new → IsDamagedAt place old → IsDamagedAt place new
same_damage place old new same (inl damaged) = inl (same ∙ damaged)
same_damage place old new same (inr u) = inr (record {
  before = u.before;
  body = u.body;
  behind = u.behind;
  whole = same ∙ u.whole;
  records = u.records;
  spelled = u.spelled;
  lawful = u.lawful;
  unlawful = u.unlawful;
  is_at = u.is_at;
})

pub opened_damage : (place : ℕ) (file : List ℕ) (A B : List ℕ → Type 0) → Follows SameRecords A B → B file → IsDamagedAt place file → (old : List ℕ) × A old × IsDamagedAt place old
opened_damage place file A B follows here damaged =
    let (old, was, same) = follows file here in
    (old, was, same_damage place file old (sym same) damaged)

-- where a restart finds one image, each image behind it is that one
pub found : (file : List ℕ) (A B : List ℕ → Type 0) → A file → OnlyOne B (Some file) → NoOther A B
found file A B here one c there =
    let is : Some file ≡ Some c = one c there in
    let same : file ≡ c = cc in
    subst A same here

pub restart_sound : (file : List ℕ) (A B : List ℕ → Type 0) → A file → OnlyOne B (Some file) → (world : World) → AreSound A world → AreSound B world
restart_sound file A B here one world sound c there = sound c (found file A B here one c there)

pub restart_tells : (file : List ℕ) (A B : List ℕ → Type 0) → A file → OnlyOne B (Some file) → (setting : Setting) (runs : List Run) → AllTell setting runs A → AllTell setting runs B
restart_tells file A B here one setting runs told c there = told c (found file A B here one c there)

pub restart_keeps : (file : List ℕ) (A B : List ℕ → Type 0) → A file → OnlyOne B (Some file) → Keeps A B
restart_keeps file A B here one records begin c there = begin c (found file A B here one c there)
