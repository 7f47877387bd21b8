-- An append goes on from the entry of a line, done or failed.
use Rattle.std.specs.Prelude.{◌≡◌, ℕ, zero, suc, ◌<◌, ◌≤◌, ◌⊎◌, IsTrue, List, [], ◌∷◌, ◌++◌, Contains, IfSome}
use Rattle.std.proofs.Common.{sym, ap, ◌∙◌, inl, inr, subst, arith}
use Rattle.std.proofs.lemmas.List.{append-nil, append_assoc}
use Rattle.std.proofs.lemmas.List.Elements.{Contains-append_left, Contains-append_right, Contains-append_cases}
use Rattle.dr_base.specs.Lists.{has}
use Rattle.dr_base.specs.Sides.{other}
use Rattle.dr_disk.specs.Disk.{Follows}
use Rattle.dr_groups.specs.Groups.{IsPairOf}
use Rattle.dr_journal.specs.Kept.{SameRecords, Appends, AppendsSome}
use Rattle.dr_outside.specs.BySide.{at}
use Rattle.dr_meaning.specs.Types.{Side, StartPair, StartRow, Record}
use Rattle.dr_meaning.specs.Worlds.{World}
use Rattle.dr_meaning.specs.Runs.{Setting, Run, protected_side, add_record}
use Rattle.dr_meaning.specs.Lawful.{MayCome}
use Rattle.dr_meaning.specs.Fits.{pair_row}
use Rattle.dr_meaning.specs.Journals.{DeclaresSetting, IsSpelled, HasRecords, Stands, AllTell}
use Rattle.dr_meaning.specs.Sound.{IsSoundBy, AreSound}
use Rattle.dr_meaning.specs.Images.{BeginWith, SomeHas}
use Rattle.dr_meaning.specs.Changes.{least_at, ReadsAtLeast, ChangedBy}
use Rattle.dr_meaning.specs.Since.{GivesWrites, IsTrueStart, HasTrueStarts, Comes, Since}
use Rattle.dr_model.proofs.FileLaws.{one_records, one_stand, sound_by_told, same_has, append_has, append_stands, declare_stands, append_sound, declare_sound, some_or_same}
use Rattle.dr_model.proofs.FitsDrift.{if_some}
use Rattle.dr_model.proofs.ChangedOn.{changed_on}
use Rattle.dr_model.proofs.Reprotected.{changed_stay}
use Rattle.dr_model.proofs.QuietStart.{quiet_start}
use Rattle.dr_model.proofs.SinceLaws.{Came, came, comes_kept}

-- all of one is some of it
pub whole_some : (body old new : List ℕ) → Appends (body ∷ []) old new → AppendsSome (body ∷ []) old new
whole_some body old new appends = record { count = 1; within = omega arith; appends = appends }

-- a record of a list with one more is in the list, or it is that one
one_more : (records : List Record) (item it : Record) → Contains (records ++ item ∷ []) it → Contains records it ⊎ (item ≡ it)
one_more records item it c = go (Contains-append_cases records (item ∷ []) it c)
  where
    go : Contains records it ⊎ Contains (item ∷ []) it → Contains records it ⊎ (item ≡ it)
    go (inl listed) = inl listed
    go (inr (zero, below, e)) = inr e
    go (inr (suc k, below, e)) = absurd (omega (arith, below))

-- a true Start stays so with more records behind it
pub true_later : (images : List ℕ → Type 0) (old : World) (records more : List Record) (row : StartRow) → IsTrueStart images old records row → IsTrueStart images old (records ++ more) row
true_later images old records more row t = record {
  file = t.file;
  was = t.was;
  had = t.had;
  has_had = t.has_had;
  since = t.since;
  later = t.later ++ more;
  are = ap (λ l. l ++ more) t.are ∙ append_assoc (t.had ++ t.since) (Record.Start row ∷ t.later) more;
  truly = t.truly;
}

module _ (old_images before after : List ℕ → Type 0) (old world : World) (added records : List Record) (item : Record) (body : List ℕ) (all : (file : List ℕ) → before file → HasRecords records file) (spelled : IsSpelled body item)
    (sound_item : (file : List ℕ) → before file → (setting : Setting) (runs : List Run) → Stands setting (records ++ item ∷ []) runs → IsSoundBy setting runs world)
    (true_item : (row : StartRow) → item ≡ Record.Start row → (file : List ℕ) → before file → IsTrueStart old_images old (records ++ item ∷ []) row)
    (s : Since old_images old added before world) (sound_after : AreSound after world) where
  came_before : (b : List ℕ) → before b → Came old_images old world added records
  came_before b was = came old_images before old world added records b (all b was) (s.sound b was) (s.comes b was)

  came_after : (b : List ℕ) → before b → Came old_images old world (item ∷ added) (records ++ item ∷ [])
  came_after b was =
      let c = came_before b was in
      let whole : records ++ item ∷ [] ≡ (c.had ++ c.more) ++ item ∷ [] = ap (λ l. l ++ item ∷ []) c.are in
      let stay : ChangedBy ((c.had ++ c.more) ++ item ∷ []) (item ∷ []) world world = changed_stay (c.had ++ c.more) item world (λ setting runs stand. sound_item b was setting runs (subst (λ l. Stands setting l runs) (sym whole) stand)) in
      record {
        entry = c.entry;
        was = c.was;
        had = c.had;
        has_had = c.has_had;
        more = c.more ++ item ∷ [];
        are = whole ∙ append_assoc c.had c.more (item ∷ []);
        changed = subst (λ l. ChangedBy l (c.more ++ item ∷ []) old world) (append_assoc c.had c.more (item ∷ [])) (changed_on c.had c.more (item ∷ []) old world world c.changed stay);
        among = λ it listed. among c it listed;
      }
    where
      among : (c : Came old_images old world added records) (it : Record) → Contains (item ∷ added) it → Contains (c.more ++ item ∷ []) it
      among c it (zero, below, e) = Contains-append_right c.more (item ∷ []) it (0, omega arith, e)
      among c it (suc k, below, e) = Contains-append_left c.more (item ∷ []) it (c.among it (k, omega (arith, below), e))

  starts_before : (b : List ℕ) → before b → HasTrueStarts old_images old records
  starts_before b was = s.starts b records was (all b was)

  starts_after : (b : List ℕ) → before b → HasTrueStarts old_images old (records ++ item ∷ [])
  starts_after b was row listed = go (one_more records item (Record.Start row) listed)
    where
      on : SomeHas old_images (Record.Start row) ⊎ IsTrueStart old_images old records row → SomeHas old_images (Record.Start row) ⊎ IsTrueStart old_images old (records ++ item ∷ []) row
      on (inl some) = inl some
      on (inr t) = inr (true_later old_images old records (item ∷ []) row t)

      go : Contains records (Record.Start row) ⊎ (item ≡ Record.Start row) → SomeHas old_images (Record.Start row) ⊎ IsTrueStart old_images old (records ++ item ∷ []) row
      go (inl there) = on (starts_before b was row there)
      go (inr is) = inr (true_item row is b was)

  -- done
  pub since_done : Follows (Appends (body ∷ [])) before after → Since old_images old (item ∷ added) after world
  since_done follows = record {
    sound = sound_after;
    comes = λ file here. let (b, was, appends) = follows file here in inr (comes_kept old_images after old world (item ∷ added) (records ++ item ∷ []) file (has_item file b was appends) kept (came_after b was));
    starts = λ file list here has. let (b, was, appends) = follows file here in
        subst (HasTrueStarts old_images old) (one_records file (records ++ item ∷ []) list (has_item file b was appends) has) (starts_after b was);
  }
    where
      has_item : (file b : List ℕ) → before b → Appends (body ∷ []) b file → HasRecords (records ++ item ∷ []) file
      has_item file b was appends = append_has records body item b file appends spelled (all b was)

      kept : BeginWith after (records ++ item ∷ [])
      kept file here = let (b, was, appends) = follows file here in ([], subst (λ l. HasRecords l file) (sym (append-nil (records ++ item ∷ []))) (has_item file b was appends))

  -- at any exit
  pub since_any : Follows (AppendsSome (body ∷ [])) before after → Since old_images old added after world
  since_any follows = record {
    sound = sound_after;
    comes = λ file here. let (b, was, some) = follows file here in inr (comes file b was (some_or_same body b file some));
    starts = λ file list here has. let (b, was, some) = follows file here in starts file list has b was (some_or_same body b file some);
  }
    where
      begins : (file b : List ℕ) → before b → SameRecords b file ⊎ Appends (body ∷ []) b file → (more : List Record) × HasRecords (records ++ more) file
      begins file b was (inl same) = ([], subst (λ l. HasRecords l file) (sym (append-nil records)) (same_has records b file same (all b was)))
      begins file b was (inr appends) = (item ∷ [], append_has records body item b file appends spelled (all b was))

      kept : BeginWith after records
      kept file here = let (b, was, some) = follows file here in begins file b was (some_or_same body b file some)

      comes : (file b : List ℕ) → before b → SameRecords b file ⊎ Appends (body ∷ []) b file → Comes old_images after old world added file
      comes file b was (inl same) = comes_kept old_images after old world added records file (same_has records b file same (all b was)) kept (came_before b was)
      comes file b was (inr appends) =
          let c = came_before b was in
          record {
            entry = c.entry;
            was = c.was;
            had = c.had;
            has_had = c.has_had;
            more = c.more;
            last = item ∷ [];
            one_at_most = omega arith;
            has_all = subst (λ l. HasRecords (l ++ item ∷ []) file) c.are (append_has records body item b file appends spelled (all b was));
            kept = subst (BeginWith after) c.are kept;
            changed = c.changed;
            among = c.among;
          }

      starts : (file : List ℕ) (list : List Record) → HasRecords list file → (b : List ℕ) → before b → SameRecords b file ⊎ Appends (body ∷ []) b file → HasTrueStarts old_images old list
      starts file list has b was (inl same) = subst (HasTrueStarts old_images old) (one_records file records list (same_has records b file same (all b was)) has) (starts_before b was)
      starts file list has b was (inr appends) = subst (HasTrueStarts old_images old) (one_records file (records ++ item ∷ []) list (append_has records body item b file appends spelled (all b was)) has) (starts_after b was)

-- A record that may come ---------------------------------------------------------------------------------------------

-- what a Start gives of a pair, in one setting
abbrev TrulyIn : List Record → StartRow → World → Setting → List Run → Type 0
TrulyIn since row old setting runs =
    (g p : ℕ) → IsPairOf setting.estate g p → p < old.pair_count → IsTrue (has row.groups g) →
    IfSome (pair_row p row) (ReadsAtLeast (least_at g p runs since old) (protected_side setting row.groups runs))

pub at_least_less : (least more : Side → ℕ) (old_side : Side) (row : StartPair) → ((side : Side) → least side ≤ more side) → ReadsAtLeast more old_side row → ReadsAtLeast least old_side row
at_least_less least more old_side row le r = record {
  new_side = let a = le (other old_side) in omega (arith, a, r.new_side);
  old_side_too = λ seen. let a = le old_side in let b = r.old_side_too seen in omega arith;
}

module _ (old_images before after : List ℕ → Type 0) (setting : Setting) (records : List Record) (runs : List Run) (stand : Stands setting records runs) (item : Record) (body : List ℕ) (old world : World) (added : List Record) (all : (file : List ℕ) → before file → HasRecords records file) (may : MayCome setting runs item) (spelled : IsSpelled body item)
    (keeps : IsSoundBy setting runs world → IsSoundBy setting (add_record setting runs item) world)
    (read : (row : StartRow) → item ≡ Record.Start row → (earlier : World) × Since old_images old added before earlier × GivesWrites setting runs row earlier)
    (s : Since old_images old added before world) where
  told : AllTell setting runs before
  told file here = record { records = records; has = all file here; stand = stand }

  sound_with : (b : List ℕ) → before b → (st : Setting) (rs : List Run) → Stands st (records ++ item ∷ []) rs → IsSoundBy st rs world
  sound_with b was st rs q =
      let (settings, lists) = one_stand setting st (records ++ item ∷ []) (add_record setting runs item) rs (append_stands setting records runs item stand may) q in
      let its : IsSoundBy setting (add_record setting runs item) world = keeps (sound_by_told setting runs world b (told b was) (s.sound b was)) in
      subst (λ l. IsSoundBy st l world) lists (subst (λ x. IsSoundBy x (add_record setting runs item) world) settings its)

  true_item : (row : StartRow) → item ≡ Record.Start row → (file : List ℕ) → before file → IsTrueStart old_images old (records ++ item ∷ []) row
  true_item row is b was = go (read row is)
    where
      go : (earlier : World) × Since old_images old added before earlier × GivesWrites setting runs row earlier → IsTrueStart old_images old (records ++ item ∷ []) row
      go (earlier, since, gives) = by_came (came old_images before old earlier added records b (all b was) (since.sound b was) (since.comes b was))
        where
          by_came : Came old_images old earlier added records → IsTrueStart old_images old (records ++ item ∷ []) row
          by_came c = record {
            file = c.entry;
            was = c.was;
            had = c.had;
            has_had = c.has_had;
            since = c.more;
            later = [];
            are = (λ i. c.are i ++ is i ∷ []);
            truly = λ st rs q.
                let (settings, lists) = one_stand setting st (c.had ++ c.more) runs rs its q in
                subst (λ l. TrulyIn c.more row old st l) lists (subst (λ x. TrulyIn c.more row old x runs) settings here);
          }
            where
              its : Stands setting (c.had ++ c.more) runs
              its = subst (λ l. Stands setting l runs) c.are stand

              here : TrulyIn c.more row old setting runs
              here g p of_group there held =
                  let quiet = quiet_start setting records runs stand row (subst (MayCome setting runs) is may) g held in
                  let count : earlier.pair_count ≡ old.pair_count = (c.changed.by_runs setting runs its).pair_count in
                  if_some (ReadsAtLeast (λ side. (at side (earlier.pair p).content).writes) (protected_side setting row.groups runs)) (ReadsAtLeast (least_at g p runs c.more old) (protected_side setting row.groups runs))
                  (λ x r. at_least_less (least_at g p runs c.more old) (λ side. (at side (earlier.pair p).content).writes) (protected_side setting row.groups runs) x (λ side. c.changed.writes setting runs its g p side of_group there quiet) r)
                  (pair_row p row) (gives g p of_group (subst (λ n. p < n) (sym count) there) held)

  sound_after : Follows (AppendsSome (body ∷ [])) before after → AreSound after world
  sound_after follows = append_sound setting runs item body world before after told may spelled follows (λ file here. keeps) s.sound

  some_of : Follows (Appends (body ∷ [])) before after → Follows (AppendsSome (body ∷ [])) before after
  some_of follows file here = let (b, was, appends) = follows file here in (b, was, whole_some body b file appends)

  pub append_done : Follows (Appends (body ∷ [])) before after → Since old_images old (item ∷ added) after world
  append_done follows = since_done old_images before after old world added records item body all spelled sound_with true_item s (sound_after (some_of follows)) follows

  pub append_any : Follows (AppendsSome (body ∷ [])) before after → Since old_images old added after world
  append_any follows = since_any old_images before after old world added records item body all spelled sound_with true_item s (sound_after follows) follows

-- The first record, an Estate ------------------------------------------------------------------------------------------

module _ (old_images before after : List ℕ → Type 0) (setting : Setting) (bytes body : List ℕ) (old world : World) (added : List Record) (all : (file : List ℕ) → before file → HasRecords [] file) (declares : DeclaresSetting bytes setting) (spelled : IsSpelled body (Record.Estate bytes)) (sound : IsSoundBy setting [] world) (s : Since old_images old added before world) where
  sound_estate : (file : List ℕ) → before file → (st : Setting) (rs : List Run) → Stands st ([] ++ Record.Estate bytes ∷ []) rs → IsSoundBy st rs world
  sound_estate file here st rs q =
      let (settings, lists) = one_stand setting st (Record.Estate bytes ∷ []) [] rs (declare_stands setting bytes declares) q in
      subst (λ l. IsSoundBy st l world) lists (subst (λ x. IsSoundBy x [] world) settings sound)

  no_start : (row : StartRow) → Record.Estate bytes ≡ Record.Start row → (file : List ℕ) → before file → IsTrueStart old_images old ([] ++ Record.Estate bytes ∷ []) row
  no_start row is file here = absurd cc

  estate_some : Follows (Appends (body ∷ [])) before after → Follows (AppendsSome (body ∷ [])) before after
  estate_some follows file here = let (b, was, appends) = follows file here in (b, was, whole_some body b file appends)

  pub estate_done : Follows (Appends (body ∷ [])) before after → Since old_images old (Record.Estate bytes ∷ added) after world
  estate_done follows = since_done old_images before after old world added [] (Record.Estate bytes) body all spelled sound_estate no_start s (declare_sound setting bytes body world before after all declares spelled (estate_some follows) sound) follows

  pub estate_any : Follows (AppendsSome (body ∷ [])) before after → Since old_images old added after world
  estate_any follows = since_any old_images before after old world added [] (Record.Estate bytes) body all spelled sound_estate no_start s (declare_sound setting bytes body world before after all declares spelled follows sound) follows
