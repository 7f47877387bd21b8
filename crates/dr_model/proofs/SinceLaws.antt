-- From the entry of a line to here: drift, openings and appends go on from there.
use Rattle.std.specs.Prelude.{◌≡◌, ℕ, ◌≤◌, ◌⊎◌, List, [], ◌∷◌, ◌++◌, length, Contains}
use Rattle.std.proofs.Common.{refl, sym, ap, ◌∙◌, inl, inr, subst, arith}
use Rattle.std.proofs.lemmas.List.{append-nil, append_assoc}
use Rattle.std.proofs.lemmas.List.Elements.{Contains-append_left}
use Rattle.dr_disk.specs.Disk.{Follows}
use Rattle.dr_journal.specs.Kept.{SameRecords}
use Rattle.dr_outside.specs.Pairs.{Drift}
use Rattle.dr_meaning.specs.Types.{Pair, Record}
use Rattle.dr_meaning.specs.Worlds.{World}
use Rattle.dr_meaning.specs.Runs.{Setting, Run}
use Rattle.dr_meaning.specs.Journals.{HasRecords, Stands}
use Rattle.dr_meaning.specs.Sound.{IsSoundBy, IsSound, AreSound}
use Rattle.dr_meaning.specs.Images.{BeginWith}
use Rattle.dr_meaning.specs.Changes.{OnlyDrifts, ChangedBy}
use Rattle.dr_meaning.specs.Since.{Rests, Comes, Since}
use Rattle.dr_model.proofs.FileLaws.{one_records, sound_by_told, same_has, opened_sound}
use Rattle.dr_model.proofs.SoundDrift.{file_sound_drift}
use Rattle.dr_model.proofs.ChangedOn.{only_refl, only_trans, changed_on, changed_drift, changed_none}
use Rattle.dr_model.proofs.Reprotected.{changed_stay}

-- What an image came to ------------------------------------------------------------------------------------------

-- these records stand behind those of an image at entry, and by the last of them the outside changed
pub record Came (old_images : List ℕ → Type 0) (old new : World) (added records : List Record) : Type 0 where
  pub entry : List ℕ
  pub was : old_images entry
  pub had : List Record
  pub has_had : HasRecords had entry
  pub more : List Record
  pub are : records ≡ had ++ more
  pub changed : ChangedBy (had ++ more) more old new
  pub among : (item : Record) → Contains added item → Contains more item

pub none_listed : (added more : List Record) (item : Record) → added ≡ [] → Contains added item → Contains more item
none_listed added more item none c = absurd (let (k, below, e) = subst (λ l. Contains l item) none c in omega arith)

-- a sound file with these records tells the runs that stand in them
pub sound_of : (setting : Setting) (records : List Record) (runs : List Run) (world : World) (file : List ℕ) → HasRecords records file → IsSound world file → Stands setting records runs → IsSoundBy setting runs world
sound_of setting records runs world file has sound s = sound_by_told setting runs world file (record { records = records; has = has; stand = s }) sound

at_most_one : (last : List Record) → length last ≤ 1 → (last ≡ []) ⊎ ((item : Record) × (last ≡ item ∷ []))
at_most_one [] le = inl refl
at_most_one (item ∷ []) le = inr (item, refl)
at_most_one (item ∷ next ∷ rest) le = absurd (omega arith)

module _ (old_images new_images : List ℕ → Type 0) (old new : World) (added records : List Record) (file : List ℕ) (has : HasRecords records file) (sound : IsSound new file) where
  came_resting : Rests old_images old new added file → Came old_images old new added records
  came_resting r = record {
    entry = r.entry;
    was = r.was;
    had = r.had;
    has_had = r.has_had;
    more = [];
    are = one_records file records r.had has r.has_same ∙ sym (append-nil r.had);
    changed = changed_none r.had old new r.only;
    among = λ item. none_listed added [] item r.none;
  }

  came_of : Comes old_images new_images old new added file → Came old_images old new added records
  came_of c = go (at_most_one c.last c.one_at_most)
    where
      same : records ≡ (c.had ++ c.more) ++ c.last
      same = one_records file records ((c.had ++ c.more) ++ c.last) has c.has_all

      go : (c.last ≡ []) ⊎ ((item : Record) × (c.last ≡ item ∷ [])) → Came old_images old new added records
      go (inl none) = record {
        entry = c.entry;
        was = c.was;
        had = c.had;
        has_had = c.has_had;
        more = c.more;
        are = same ∙ ap (λ l. (c.had ++ c.more) ++ l) none ∙ append-nil (c.had ++ c.more);
        changed = c.changed;
        among = c.among;
      }
      go (inr (item, one)) =
          let whole : records ≡ (c.had ++ c.more) ++ item ∷ [] = same ∙ ap (λ l. (c.had ++ c.more) ++ l) one in
          let stay : ChangedBy ((c.had ++ c.more) ++ item ∷ []) (item ∷ []) new new = changed_stay (c.had ++ c.more) item new (λ setting runs s. sound_of setting records runs new file has sound (subst (λ l. Stands setting l runs) (sym whole) s)) in
          record {
            entry = c.entry;
            was = c.was;
            had = c.had;
            has_had = c.has_had;
            more = c.more ++ item ∷ [];
            are = whole ∙ append_assoc c.had c.more (item ∷ []);
            changed = subst (λ l. ChangedBy l (c.more ++ item ∷ []) old new) (append_assoc c.had c.more (item ∷ [])) (changed_on c.had c.more (item ∷ []) old new new c.changed stay);
            among = λ it listed. Contains-append_left c.more (item ∷ []) it (c.among it listed);
          }

  pub came : Rests old_images old new added file ⊎ Comes old_images new_images old new added file → Came old_images old new added records
  came (inl r) = came_resting r
  came (inr c) = came_of c

-- where its records are kept, it comes
pub comes_kept : (old_images new_images : List ℕ → Type 0) (old new : World) (added records : List Record) (file : List ℕ) → HasRecords records file → BeginWith new_images records → Came old_images old new added records → Comes old_images new_images old new added file
comes_kept old_images new_images old new added records file has kept c = record {
  entry = c.entry;
  was = c.was;
  had = c.had;
  has_had = c.has_had;
  more = c.more;
  last = [];
  one_at_most = omega arith;
  has_all = subst (λ l. HasRecords l file) (c.are ∙ sym (append-nil (c.had ++ c.more))) has;
  kept = subst (BeginWith new_images) c.are kept;
  changed = c.changed;
  among = c.among;
}

-- At entry -----------------------------------------------------------------------------------------------------------

records_of : (world : World) (file : List ℕ) → IsSound world file → (records : List Record) × HasRecords records file
records_of world file (inl empty) = ([], empty)
records_of world file (inr s) = (s.tells.records, s.tells.has)

pub since_entry : (images : List ℕ → Type 0) (world : World) → AreSound images world → Since images world [] images world
since_entry images world sound = record {
  sound = sound;
  comes = λ file here. let (records, has) = records_of world file (sound file here) in inl (record { entry = file; was = here; had = records; has_had = has; has_same = has; only = only_refl world; none = refl });
  starts = λ file records here has row listed. inl (record { file = file; there = here; records = records; has = has; listed = listed });
}

-- Drift ----------------------------------------------------------------------------------------------------------------

pub since_drift : (old_images images : List ℕ → Type 0) (old world : World) (added : List Record) (pairs : ℕ → Pair) → ((k : ℕ) → Drift (world.pair k) (pairs k)) → Since old_images old added images world → Since old_images old added images (record world { pair = pairs })
since_drift old_images images old world added pairs drifts s = record {
  sound = λ file here. file_sound_drift world pairs drifts file (s.sound file here);
  comes = λ file here. go file (s.comes file here);
  starts = s.starts;
}
  where
    only : OnlyDrifts world (record world { pair = pairs })
    only = record { pair_count = refl; machine_count = refl; pairs = drifts; posts = λ m. refl; kept = λ m. refl; runner = refl }

    go : (file : List ℕ) → Rests old_images old world added file ⊎ Comes old_images images old world added file → Rests old_images old (record world { pair = pairs }) added file ⊎ Comes old_images images old (record world { pair = pairs }) added file
    go file (inl r) = inl (record { entry = r.entry; was = r.was; had = r.had; has_had = r.has_had; has_same = r.has_same; only = only_trans old world (record world { pair = pairs }) r.only only; none = r.none })
    go file (inr c) =
        inr
        (record {
          entry = c.entry;
          was = c.was;
          had = c.had;
          has_had = c.has_had;
          more = c.more;
          last = c.last;
          one_at_most = c.one_at_most;
          has_all = c.has_all;
          kept = c.kept;
          changed = changed_drift (c.had ++ c.more) c.more old world (record world { pair = pairs }) c.changed only;
          among = c.among;
        })

-- An opening -------------------------------------------------------------------------------------------------------------

pub kept_opened : (before after : List ℕ → Type 0) (records : List Record) → Follows SameRecords before after → BeginWith before records → BeginWith after records
kept_opened before after records follows kept file here =
    let (b, was, same) = follows file here in
    let (more, has) = kept b was in
    (more, same_has (records ++ more) b file same has)

pub since_opened : (old_images before after : List ℕ → Type 0) (old world : World) (added : List Record) → Follows SameRecords before after → Since old_images old added before world → Since old_images old added after world
since_opened old_images before after old world added follows s = record {
  sound = opened_sound world before after follows s.sound;
  comes = λ file here. let (b, was, same) = follows file here in go file b same (s.comes b was);
  starts = λ file records here has. let (b, was, same) = follows file here in s.starts b records was (same_has records file b (sym same) has);
}
  where
    go : (file b : List ℕ) → SameRecords b file → Rests old_images old world added b ⊎ Comes old_images before old world added b → Rests old_images old world added file ⊎ Comes old_images after old world added file
    go file b same (inl r) = inl (record { entry = r.entry; was = r.was; had = r.had; has_had = r.has_had; has_same = same_has r.had b file same r.has_same; only = r.only; none = r.none })
    go file b same (inr c) =
        inr
        (record {
          entry = c.entry;
          was = c.was;
          had = c.had;
          has_had = c.has_had;
          more = c.more;
          last = c.last;
          one_at_most = c.one_at_most;
          has_all = same_has ((c.had ++ c.more) ++ c.last) b file same c.has_all;
          kept = kept_opened before after (c.had ++ c.more) follows c.kept;
          changed = c.changed;
          among = c.among;
        })
