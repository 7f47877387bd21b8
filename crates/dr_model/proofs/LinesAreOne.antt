-- Two lines in a row are one.
use Rattle.std.specs.Prelude.{◌≡◌, ℕ, zero, suc, ◌<◌, ◌≤◌, ◌⊎◌, true, IsTrue, List, [], ◌∷◌, ◌++◌, Contains, None, IfSome, fold, length}
use Rattle.std.specs.Option.{option_or}
use Rattle.std.proofs.Common.{refl, sym, ap, ◌∙◌, inl, inr, subst, arith}
use Rattle.std.proofs.lemmas.List.{append-nil, append_assoc}
use Rattle.std.proofs.lemmas.List.Elements.{Contains-append_right}
use Rattle.std.proofs.lemmas.Bool.{cases_lt, eq-eqb}
use Rattle.dr_base.specs.Lists.{has}
use Rattle.dr_groups.specs.Groups.{IsPairOf}
use Rattle.dr_outside.specs.BySide.{at}
use Rattle.dr_meaning.specs.Types.{StartRow, Record}
use Rattle.dr_meaning.specs.Worlds.{World}
use Rattle.dr_meaning.specs.Runs.{Setting, Run, protected_side, add_record}
use Rattle.dr_meaning.specs.Lawful.{MayCome}
use Rattle.dr_meaning.specs.Fits.{pair_row}
use Rattle.dr_meaning.specs.Journals.{HasRecords, Stands}
use Rattle.dr_meaning.specs.Sound.{IsSound}
use Rattle.dr_meaning.specs.Images.{BeginWith, SomeHas}
use Rattle.dr_meaning.specs.Changes.{last_reverse, least_of, least_at, ReadsAtLeast, ChangedBy}
use Rattle.dr_meaning.specs.Since.{ReadTruly, IsTrueStart, Rests, Comes, Since}
use Rattle.dr_model.proofs.FileLaws.{one_records, one_stand}
use Rattle.dr_model.proofs.FitsDrift.{if_some}
use Rattle.dr_model.proofs.MoreRecords.{side_after}
use Rattle.dr_model.proofs.Reversed.{IsKnown, last_append, last_through}
use Rattle.dr_model.proofs.Standing.{table_of, known_of, Before, before_of}
use Rattle.dr_model.proofs.ChangedOn.{each_right, only_trans, changed_on, changed_drift, changes_first, least_first}
use Rattle.dr_model.proofs.QuietStart.{quiet_start}
use Rattle.dr_model.proofs.StartOnce.{grow_all, begins_run, leaves_all}
use Rattle.dr_model.proofs.SinceLaws.{Came, came, none_listed}
use Rattle.dr_model.proofs.SinceAppend.{at_least_less}
use Rattle.dr_model.proofs.SinceKept.{parted, since_keeps}

-- A Start among the records of a sound file ------------------------------------------------------------------------

-- where an element stands
at_place : (records : List Record) (it : Record) → Contains records it → (before : List Record) × (behind : List Record) × (records ≡ before ++ it ∷ behind)
at_place [] it (k, below, e) = absurd (omega arith)
at_place (x ∷ records) it (zero, below, e) = ([], records, ap (λ y. y ∷ records) e)
at_place (x ∷ records) it (suc k, below, e) = let (before, behind, is) = at_place records it (k, omega arith, e) in (x ∷ before, behind, ap (λ l. x ∷ l) is)

-- a Start that may come after these records
pub record MayStand (before : List Record) (row : StartRow) : Type 0 where
  setting : Setting
  runs : List Run
  stand : Stands setting before runs
  may : MayCome setting runs (Record.Start row)

-- so may one of a sound file, after those before it
pub stood : (world : World) (file : List ℕ) (records : List Record) → HasRecords records file → IsSound world file → (before behind : List Record) (row : StartRow) → records ≡ before ++ Record.Start row ∷ behind → MayStand before row
stood world file records has sound before behind row are = go sound
  where
    not_empty : (before : List Record) → [] ≡ before ++ Record.Start row ∷ behind → ⊥
    not_empty [] e = cc
    not_empty (x ∷ before) e = cc

    by_before : (st : Setting) (rs : List Run) → Stands st (before ++ Record.Start row ∷ behind) rs → (before ≡ []) ⊎ Before st before (Record.Start row ∷ behind) rs → MayStand before row
    by_before st rs s (inl none) = absurd (let wrong : Record.Start row ∷ behind ≡ Record.Estate s.bytes ∷ s.rest = ap (λ l. l ++ Record.Start row ∷ behind) (sym none) ∙ s.are in cc)
    by_before st rs s (inr it) = record { setting = st; runs = it.before; stand = it.stand; may = it.lawful.0 }

    go : IsSound world file → MayStand before row
    go (inl empty) = absurd (not_empty before (one_records file [] records empty has ∙ are))
    go (inr s) =
        let stands : Stands s.setting (before ++ Record.Start row ∷ behind) s.runs = subst (λ l. Stands s.setting l s.runs) (one_records file s.tells.records records s.tells.has has ∙ are) s.tells.stand in
        by_before s.setting s.runs stands (before_of s.setting before (Record.Start row ∷ behind) s.runs stands)

pub may_after : (before : List Record) (row : StartRow) → MayStand before row → (setting : Setting) (runs : List Run) → Stands setting before runs → MayCome setting runs (Record.Start row)
may_after before row m setting runs stand =
    let (settings, lists) = one_stand m.setting setting before m.runs runs m.stand stand in
    subst (λ l. MayCome setting l (Record.Start row)) lists (subst (λ x. MayCome x m.runs (Record.Start row)) settings m.may)

some_before : (before : List Record) (row : StartRow) → MayStand before row → before ≡ [] → ⊥
some_before before row m none = let wrong : Record.Estate m.stand.bytes ∷ m.stand.rest ≡ [] = sym m.stand.are ∙ none in cc

-- a Start that came can't come again
never_twice : (setting : Setting) (before behind : List Record) (row : StartRow) (runs : List Run) → Stands setting (before ++ Record.Start row ∷ behind) runs → MayCome setting runs (Record.Start row) → ⊥
never_twice setting before behind row runs s may = go (before_of setting before (Record.Start row ∷ behind) runs s)
  where
    go : (before ≡ []) ⊎ Before setting before (Record.Start row ∷ behind) runs → ⊥
    go (inl none) = let wrong : Record.Start row ∷ behind ≡ Record.Estate s.bytes ∷ s.rest = ap (λ l. l ++ Record.Start row ∷ behind) (sym none) ∙ s.are in cc
    go (inr it) =
        let first = begins_run setting it.before row it.lawful.0 in
        let second = (begins_run setting runs row may).0 in
        let grown = grow_all setting (add_record setting it.before (Record.Start row)) behind in
        let are = ap (λ (l : List Run). length l) it.are in
        omega (arith, first.0, first.1, second, grown, are)

-- what a Start read truly after some records, where it may also come after more of them
module _ (had since more : List Record) (row : StartRow) (old : World) (truly : ReadTruly (had ++ since) since row old) (not_empty : had ++ since ≡ [] → ⊥)
    (may : (setting : Setting) (runs : List Run) → Stands setting (had ++ since) runs → MayCome setting runs (Record.Start row))
    (may_later : (setting : Setting) (runs : List Run) → Stands setting ((had ++ since) ++ more) runs → MayCome setting runs (Record.Start row)) where
  module _ (setting : Setting) (runs : List Run) (s : Stands setting ((had ++ since) ++ more) runs) (it : Before setting (had ++ since) more runs) where
    same_length : length (fold (add_record setting) it.before more) ≡ length it.before
    same_length =
        let first = (begins_run setting it.before row (may setting it.before it.stand)).0 in
        let second = (begins_run setting runs row (may_later setting runs s)).0 in
        let are = ap (λ (l : List Run). length l) it.are in
        omega (arith, first, second, are)

    module _ (g : ℕ) (held : has row.groups g ≡ true) where
      left : (last_reverse g (fold (add_record setting) it.before more) more ≡ None) × (side_after setting.estate g (fold (add_record setting) it.before more) ≡ side_after setting.estate g it.before)
      left = leaves_all setting it.before more g (table_of setting (had ++ since) it.before it.stand) it.lawful same_length (quiet_start setting (had ++ since) it.before it.stand row (may setting it.before it.stand) g held)

      same_last : last_reverse g runs (since ++ more) ≡ last_reverse g it.before since
      same_last =
          ap (λ l. last_reverse g l (since ++ more)) it.are ∙ last_append g (fold (add_record setting) it.before more) since more
          ∙ ap (λ o. option_or o (last_reverse g (fold (add_record setting) it.before more) since)) left.0
          ∙ last_through setting it.before more since g it.lawful (each_right (IsKnown it.before) had since (known_of setting (had ++ since) it.before it.stand))

      same_side_after : side_after setting.estate g runs ≡ side_after setting.estate g it.before
      same_side_after = ap (side_after setting.estate g) it.are ∙ left.1

    same_protected : (groups : List ℕ) → ((g : ℕ) → has groups g ≡ true → has row.groups g ≡ true) → protected_side setting groups runs ≡ protected_side setting groups it.before
    same_protected [] within = refl
    same_protected (g ∷ groups) within = same_side_after g (within g (rw (eq-eqb g g refl) refl))

    later_at : (g p : ℕ) → IsPairOf setting.estate g p → p < old.pair_count → has row.groups g ≡ true → IfSome (pair_row p row) (ReadsAtLeast (least_at g p runs (since ++ more) old) (protected_side setting row.groups runs))
    later_at g p of_group there held =
        let first = truly setting it.before it.stand g p of_group there held in
        let sides : protected_side setting row.groups runs ≡ protected_side setting row.groups it.before = same_protected row.groups (λ h e. e) in
        let moved : IfSome (pair_row p row) (ReadsAtLeast (least_at g p it.before since old) (protected_side setting row.groups runs)) = subst (λ s. IfSome (pair_row p row) (ReadsAtLeast (least_at g p it.before since old) s)) (sym sides) first in
        subst (λ o. IfSome (pair_row p row) (ReadsAtLeast (λ side. least_of p (at side (old.pair p).content).writes o) (protected_side setting row.groups runs))) (sym (same_last g held)) moved

  pub truly_later : ReadTruly ((had ++ since) ++ more) (since ++ more) row old
  truly_later setting runs s = go (before_of setting (had ++ since) more runs s)
    where
      go : (had ++ since ≡ []) ⊎ Before setting (had ++ since) more runs → (g p : ℕ) → IsPairOf setting.estate g p → p < old.pair_count → IsTrue (has row.groups g) → IfSome (pair_row p row) (ReadsAtLeast (least_at g p runs (since ++ more) old) (protected_side setting row.groups runs))
      go (inl none) = absurd (not_empty none)
      go (inr it) = later_at setting runs s it

module _ (A B C : List ℕ → Type 0) (old middle new : World) (first second : List Record) (s : Since A old first B middle) (t : Since B middle second C new) where
  came_first : (file : List ℕ) → B file → (records : List Record) → HasRecords records file → Came A old middle first records
  came_first file here records has = came A B old middle first records file has (s.sound file here) (s.comes file here)

  -- What an image came to ------------------------------------------------------------------------------------------

  comes_both : (file : List ℕ) → Rests B middle new second file ⊎ Comes B C middle new second file → Rests A old new second file ⊎ Comes A C old new second file
  comes_both file (inl r) = go (s.comes r.entry r.was)
    where
      go : Rests A old middle first r.entry ⊎ Comes A B old middle first r.entry → Rests A old new second file ⊎ Comes A C old new second file
      go (inl q) = inl (record {
        entry = q.entry;
        was = q.was;
        had = q.had;
        has_had = q.has_had;
        has_same = subst (λ l. HasRecords l file) (one_records r.entry r.had q.had r.has_had q.has_same) r.has_same;
        only = only_trans old middle new q.only r.only;
        none = r.none;
      })
      go (inr c) =
          inr
          (record {
            entry = c.entry;
            was = c.was;
            had = c.had;
            has_had = c.has_had;
            more = c.more;
            last = c.last;
            one_at_most = c.one_at_most;
            has_all = subst (λ l. HasRecords l file) (one_records r.entry r.had ((c.had ++ c.more) ++ c.last) r.has_had c.has_all) r.has_same;
            kept = since_keeps B C middle new second t (c.had ++ c.more) c.kept;
            changed = changed_drift (c.had ++ c.more) c.more old middle new c.changed r.only;
            among = λ item. none_listed second c.more item r.none;
          })
  comes_both file (inr d) =
      let c = came_first d.entry d.was d.had d.has_had in
      let whole : d.had ++ d.more ≡ (c.had ++ c.more) ++ d.more = ap (λ l. l ++ d.more) c.are in
      let parts : (c.had ++ c.more) ++ d.more ≡ c.had ++ (c.more ++ d.more) = append_assoc c.had c.more d.more in
      inr
      (record {
        entry = c.entry;
        was = c.was;
        had = c.had;
        has_had = c.has_had;
        more = c.more ++ d.more;
        last = d.last;
        one_at_most = d.one_at_most;
        has_all = subst (λ l. HasRecords (l ++ d.last) file) (whole ∙ parts) d.has_all;
        kept = subst (BeginWith C) (whole ∙ parts) d.kept;
        changed = subst (λ l. ChangedBy l (c.more ++ d.more) old new) parts (changed_on c.had c.more d.more old middle new c.changed (subst (λ l. ChangedBy l d.more middle new) whole d.changed));
        among = λ item listed. Contains-append_right c.more d.more item (d.among item listed);
      })

  -- Starts -----------------------------------------------------------------------------------------------------------

  module _ (file : List ℕ) (records : List Record) (here : C file) (has_records : HasRecords records file) (row : StartRow) where
    -- a Start that came in the second line
    of_second : IsTrueStart B middle records row → IsTrueStart A old records row
    of_second u = by_came (came_first u.file u.was u.had u.has_had)
      where
        by_came : Came A old middle first u.had → IsTrueStart A old records row
        by_came c = record {
          file = c.entry;
          was = c.was;
          had = c.had;
          has_had = c.has_had;
          since = c.more ++ u.since;
          later = u.later;
          are = u.are ∙ ap (λ l. l ++ Record.Start row ∷ u.later) (whole ∙ parts);
          truly = λ setting runs q. at_runs setting runs (subst (λ l. Stands setting l runs) (sym parts) q);
        }
          where
            whole : u.had ++ u.since ≡ (c.had ++ c.more) ++ u.since
            whole = ap (λ l. l ++ u.since) c.are

            parts : (c.had ++ c.more) ++ u.since ≡ c.had ++ (c.more ++ u.since)
            parts = append_assoc c.had c.more u.since

            at_runs : (setting : Setting) (runs : List Run) → Stands setting ((c.had ++ c.more) ++ u.since) runs → (g p : ℕ) → IsPairOf setting.estate g p → p < old.pair_count → IsTrue (has row.groups g) → IfSome (pair_row p row) (ReadsAtLeast (least_at g p runs (c.more ++ u.since) old) (protected_side setting row.groups runs))
            at_runs setting runs q g p of_group there held =
                let stand : Stands setting (u.had ++ u.since) runs = subst (λ l. Stands setting l runs) (sym whole) q in
                let may : MayCome setting runs (Record.Start row) = may_after (u.had ++ u.since) row (stood new file records has_records (t.sound file here) (u.had ++ u.since) u.later row u.are) setting runs stand in
                let quiet = quiet_start setting (u.had ++ u.since) runs stand row may g held in
                let count : middle.pair_count ≡ old.pair_count = count_of setting runs q in
                if_some (ReadsAtLeast (least_at g p runs u.since middle) (protected_side setting row.groups runs)) (ReadsAtLeast (least_at g p runs (c.more ++ u.since) old) (protected_side setting row.groups runs))
                (λ x r. at_least_less (least_at g p runs (c.more ++ u.since) old) (least_at g p runs u.since middle) (protected_side setting row.groups runs) x
                (λ side. least_first c.had c.more u.since old middle c.changed setting runs q g p side of_group there quiet) r)
                (pair_row p row) (u.truly setting runs stand g p of_group (subst (λ n. p < n) (sym count) there) held)
              where
                count_of : (setting : Setting) (runs : List Run) → Stands setting ((c.had ++ c.more) ++ u.since) runs → middle.pair_count ≡ old.pair_count
                count_of setting runs q = (changes_first c.had c.more u.since old middle c.changed setting runs q).pair_count

    -- a Start that some image between the lines has
    of_first : Contains records (Record.Start row) → SomeHas B (Record.Start row) → SomeHas A (Record.Start row) ⊎ IsTrueStart A old records row
    of_first listed u = go (s.starts u.file u.records u.there u.has row u.listed) (s.comes u.file u.there)
      where
        go : SomeHas A (Record.Start row) ⊎ IsTrueStart A old u.records row → Rests A old middle first u.file ⊎ Comes A B old middle first u.file → SomeHas A (Record.Start row) ⊎ IsTrueStart A old records row
        go (inl some) q = inl some
        go (inr v) (inl r) =
            inl (record { file = r.entry; there = r.was; records = r.had; has = r.has_had; listed = subst (λ l. Contains l (Record.Start row)) (one_records u.file u.records r.had u.has r.has_same) u.listed })
        go (inr v) (inr c) = inr (by_length (cases_lt (length (v.had ++ v.since)) (length (c.had ++ c.more))))
          where
            -- those records that were kept between the lines, and what the image has behind them
            begins : (rest : List Record) × (records ≡ (c.had ++ c.more) ++ rest)
            begins = let (rest, has) = since_keeps B C middle new second t (c.had ++ c.more) c.kept file here in (rest, one_records file records ((c.had ++ c.more) ++ rest) has_records has)

            two : (v.had ++ v.since) ++ Record.Start row ∷ v.later ≡ (c.had ++ c.more) ++ c.last
            two = sym v.are ∙ one_records u.file u.records ((c.had ++ c.more) ++ c.last) u.has c.has_all

            true_at : (before later : List Record) → records ≡ before ++ Record.Start row ∷ later → v.had ++ v.since ≡ before → IsTrueStart A old records row
            true_at before later are same = record { file = v.file; was = v.was; had = v.had; has_had = v.has_had; since = v.since; later = later; are = are ∙ ap (λ l. l ++ Record.Start row ∷ later) (sym same); truly = v.truly }

            -- it was kept
            inside : (m : List Record) → c.had ++ c.more ≡ (v.had ++ v.since) ++ m → Record.Start row ∷ v.later ≡ m ++ c.last → length (v.had ++ v.since) < length (c.had ++ c.more) → IsTrueStart A old records row
            inside [] is rest lt = absurd (let same = ap (λ (l : List Record). length l) (is ∙ append-nil (v.had ++ v.since)) in omega arith)
            inside (x ∷ m) is rest lt =
                let front : Record.Start row ∷ v.later ≡ x ∷ (m ++ c.last) = rest in
                let head : Record.Start row ≡ x = cc in
                let (behind, all) = begins in
                true_at (v.had ++ v.since) (m ++ behind)
                (all ∙ ap (λ l. l ++ behind) is ∙ append_assoc (v.had ++ v.since) (x ∷ m) behind ∙ ap (λ y. (v.had ++ v.since) ++ y ∷ (m ++ behind)) (sym head)) refl

            -- it stood last, and wasn't kept everywhere
            at_end : (m : List Record) → v.had ++ v.since ≡ (c.had ++ c.more) ++ m → c.last ≡ m ++ Record.Start row ∷ v.later → IsTrueStart A old records row
            at_end (x ∷ []) is rest = absurd (let same = ap (λ (l : List Record). length l) rest in let le = c.one_at_most in omega (arith, same, le))
            at_end (x ∷ y ∷ m) is rest = absurd (let same = ap (λ (l : List Record). length l) rest in let le = c.one_at_most in omega (arith, same, le))
            at_end [] is rest = by_place (at_place records (Record.Start row) listed)
              where
                kept_is : v.had ++ v.since ≡ c.had ++ c.more
                kept_is = is ∙ append-nil (c.had ++ c.more)

                stands : MayStand (v.had ++ v.since) row
                stands = stood middle u.file u.records u.has (s.sound u.file u.there) (v.had ++ v.since) v.later row v.are

                by_place : (before : List Record) × (behind : List Record) × (records ≡ before ++ Record.Start row ∷ behind) → IsTrueStart A old records row
                by_place (before, behind, are) = where_is (cases_lt (length before) (length (c.had ++ c.more)))
                  where
                    same : before ++ Record.Start row ∷ behind ≡ (c.had ++ c.more) ++ begins.0
                    same = sym are ∙ begins.1

                    -- it can't stand among what was kept, since it may come after that
                    twice : (m : List Record) → c.had ++ c.more ≡ before ++ m → Record.Start row ∷ behind ≡ m ++ begins.0 → length before < length (c.had ++ c.more) → ⊥
                    twice [] is rest lt = let equal = ap (λ (l : List Record). length l) (is ∙ append-nil before) in omega arith
                    twice (x ∷ m) is rest lt =
                        let front : Record.Start row ∷ behind ≡ x ∷ (m ++ begins.0) = rest in
                        let head : Record.Start row ≡ x = cc in
                        let whole : v.had ++ v.since ≡ before ++ Record.Start row ∷ m = kept_is ∙ is ∙ ap (λ y. before ++ y ∷ m) (sym head) in
                        never_twice stands.setting before m row stands.runs (subst (λ l. Stands stands.setting l stands.runs) whole stands.stand) stands.may

                    after_kept : (m : List Record) → before ≡ (c.had ++ c.more) ++ m → IsTrueStart A old records row
                    after_kept m is = record {
                      file = v.file;
                      was = v.was;
                      had = v.had;
                      has_had = v.has_had;
                      since = v.since ++ m;
                      later = behind;
                      are = are ∙ ap (λ l. l ++ Record.Start row ∷ behind) (whole ∙ append_assoc v.had v.since m);
                      truly = subst (λ l. ReadTruly l (v.since ++ m) row old) (append_assoc v.had v.since m)
                          (truly_later v.had v.since m row old v.truly (some_before (v.had ++ v.since) row stands) (may_after (v.had ++ v.since) row stands)
                          (λ setting runs q. may_after before row (stood new file records has_records (t.sound file here) before behind row are) setting runs (subst (λ l. Stands setting l runs) (sym whole) q)));
                    }
                      where
                        whole : before ≡ (v.had ++ v.since) ++ m
                        whole = is ∙ ap (λ l. l ++ m) (sym kept_is)

                    where_is : (length before < length (c.had ++ c.more)) ⊎ (length (c.had ++ c.more) ≤ length before) → IsTrueStart A old records row
                    where_is (inl lt) = let (m, is, rest) = parted before (Record.Start row ∷ behind) (c.had ++ c.more) begins.0 same (omega (arith, lt)) in absurd (twice m is rest lt)
                    where_is (inr le) = let (m, is, rest) = parted (c.had ++ c.more) begins.0 before (Record.Start row ∷ behind) (sym same) le in after_kept m is

            by_length : (length (v.had ++ v.since) < length (c.had ++ c.more)) ⊎ (length (c.had ++ c.more) ≤ length (v.had ++ v.since)) → IsTrueStart A old records row
            by_length (inl lt) = let (m, is, rest) = parted (v.had ++ v.since) (Record.Start row ∷ v.later) (c.had ++ c.more) c.last two (omega (arith, lt)) in inside m is rest lt
            by_length (inr le) = let (m, is, rest) = parted (c.had ++ c.more) c.last (v.had ++ v.since) (Record.Start row ∷ v.later) (sym two) le in at_end m is rest

  pub since_both : Since A old second C new
  since_both = record {
    sound = t.sound;
    comes = λ file here. comes_both file (t.comes file here);
    starts = λ file records here has row listed. go file records here has row listed (t.starts file records here has row listed);
  }
    where
      go : (file : List ℕ) (records : List Record) → C file → HasRecords records file → (row : StartRow) → Contains records (Record.Start row) → SomeHas B (Record.Start row) ⊎ IsTrueStart B middle records row → SomeHas A (Record.Start row) ⊎ IsTrueStart A old records row
      go file records here has row listed (inl some) = of_first file records here has row listed some
      go file records here has row listed (inr u) = inr (of_second file records here has row u)
