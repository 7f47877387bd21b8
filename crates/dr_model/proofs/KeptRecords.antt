-- What the longest list of records that are kept tells, where the images at entry differ by one record at most.
use Rattle.std.specs.Prelude.{◌≡◌, ℕ, ◌≤◌, ◌⊎◌, List, [], ◌∷◌, ◌++◌, length, Contains}
use Rattle.std.proofs.Common.{sym, ap, ◌∙◌, inl, inr, subst, arith}
use Rattle.std.proofs.lemmas.List.{append-nil, append_assoc, append_cancel_left, length-append}
use Rattle.std.proofs.lemmas.List.Elements.{Contains-append_right}
use Rattle.dr_base.specs.Lists.{has}
use Rattle.dr_meaning.specs.Types.{StartRow, Record}
use Rattle.dr_meaning.specs.Worlds.{World}
use Rattle.dr_meaning.specs.Runs.{protected_side}
use Rattle.dr_meaning.specs.Lawful.{MayCome}
use Rattle.dr_meaning.specs.Fits.{pair_row}
use Rattle.dr_meaning.specs.Journals.{HasRecords, Stands}
use Rattle.dr_meaning.specs.Sound.{IsSound, AreSound}
use Rattle.dr_meaning.specs.Images.{BeginWith, AreKept, HaveOneMoreAtMost, SomeHas}
use Rattle.dr_meaning.specs.Changes.{least_at, ReadsAtLeast, ChangedBy}
use Rattle.dr_meaning.specs.Since.{ReadTruly, IsTrueStart, Rests, Comes, Since}
use Rattle.dr_model.proofs.FileLaws.{one_records}
use Rattle.dr_model.proofs.FitsDrift.{if_some}
use Rattle.dr_model.proofs.ChangedOn.{only_refl, least_first, changed_on, changed_drift, changed_none}
use Rattle.dr_model.proofs.Reprotected.{changed_stay}
use Rattle.dr_model.proofs.QuietStart.{quiet_start}
use Rattle.dr_model.proofs.SinceLaws.{sound_of}
use Rattle.dr_model.proofs.SinceAppend.{at_least_less}
use Rattle.dr_model.proofs.SinceKept.{parted, since_keeps}
use Rattle.dr_model.proofs.LinesAreOne.{stood, may_after}

-- where at most one record stands behind those of a sound file, nothing changed by the first of it
stay_in_front : (records front rest : List Record) (world : World) (file : List ℕ) → length (front ++ rest) ≤ 1 → HasRecords (records ++ (front ++ rest)) file → IsSound world file → ChangedBy (records ++ front) front world world
stay_in_front records [] rest world file short has sound = changed_none records world world (only_refl world)
stay_in_front records (item ∷ []) [] world file short has sound = changed_stay records item world (λ setting runs stand. sound_of setting (records ++ item ∷ []) runs world file has sound stand)
stay_in_front records (item ∷ []) (x ∷ rest) world file short has sound = absurd (omega arith)
stay_in_front records (item ∷ next ∷ front) rest world file short has sound = absurd (omega arith)

module _ (A C : List ℕ → Type 0) (old new : World) (added was : List Record) (sound : AreSound A old) (one : HaveOneMoreAtMost A was) (s : Since A old added C new) where
  begin_was : BeginWith A was
  begin_was file here = let (last, short, has) = one file here in (last, has)

  -- what an image at entry has behind these records
  behind : (entry : List ℕ) → A entry → (had : List Record) → HasRecords had entry → (w : List Record) × (had ≡ was ++ w) × (length w ≤ 1)
  behind entry there had has = let (last, short, all) = one entry there in (last, one_records entry had (was ++ last) has all, short)

  -- at entry nothing had changed by what stood behind these records
  at_entry : (entry : List ℕ) → A entry → (had w : List Record) → HasRecords had entry → had ≡ was ++ w → length w ≤ 1 → ChangedBy (was ++ w) w old old
  at_entry entry there had w has is short =
      stay_in_front was w [] old entry (subst (λ l. length l ≤ 1) (sym (append-nil w)) short)
      (subst (λ l. HasRecords l entry) (is ∙ ap (λ l. was ++ l) (sym (append-nil w))) has) (sound entry there)

  -- by the records that are kept besides these the outside changed as they say
  pub kept_changed : (more : List Record) (file : List ℕ) → C file → AreKept C (was ++ more) → ChangedBy (was ++ more) more old new
  kept_changed more file here longest = go (s.comes file here)
    where
      rest : List Record
      rest = (longest.begin file here).0

      begins : HasRecords ((was ++ more) ++ rest) file
      begins = (longest.begin file here).1

      resting : (r : Rests A old new added file) (w : List Record) → r.had ≡ was ++ w → length w ≤ 1 → ChangedBy (was ++ more) more old new
      resting r w is short =
          let same : was ++ w ≡ was ++ (more ++ rest) = sym is ∙ one_records file r.had ((was ++ more) ++ rest) r.has_same begins ∙ append_assoc was more rest in
          let parts : w ≡ more ++ rest = append_cancel_left was w (more ++ rest) same in
          changed_drift (was ++ more) more old old new
          (stay_in_front was more rest old r.entry (subst (λ l. length l ≤ 1) parts short) (subst (λ l. HasRecords l r.entry) (is ∙ ap (λ l. was ++ l) parts) r.has_had) (sound r.entry r.was)) r.only

      coming : (c : Comes A C old new added file) (w : List Record) → c.had ≡ was ++ w → length w ≤ 1 → ChangedBy (was ++ more) more old new
      coming c w is short =
          let same : (c.had ++ c.more) ++ c.last ≡ (was ++ more) ++ rest = one_records file ((c.had ++ c.more) ++ c.last) ((was ++ more) ++ rest) c.has_all begins in
          let (m, whole, last) = parted (c.had ++ c.more) c.last (was ++ more) rest same (longest.longest (c.had ++ c.more) c.kept) in
          let stays : ChangedBy ((c.had ++ c.more) ++ m) m new new = stay_in_front (c.had ++ c.more) m rest new file (subst (λ l. length l ≤ 1) last c.one_at_most) (subst (λ l. HasRecords ((c.had ++ c.more) ++ l) file) last c.has_all) (s.sound file here) in
          let all : ChangedBy ((c.had ++ c.more) ++ m) (c.more ++ m) old new = changed_on c.had c.more m old new new c.changed stays in
          let from_had : (c.had ++ c.more) ++ m ≡ (was ++ w) ++ (c.more ++ m) = append_assoc c.had c.more m ∙ ap (λ l. l ++ (c.more ++ m)) is in
          let both : ChangedBy ((was ++ w) ++ (c.more ++ m)) (w ++ (c.more ++ m)) old new = changed_on was w (c.more ++ m) old old new (at_entry c.entry c.was c.had w c.has_had is short) (subst (λ l. ChangedBy l (c.more ++ m) old new) from_had all) in
          let parts : was ++ more ≡ was ++ (w ++ (c.more ++ m)) = whole ∙ from_had ∙ append_assoc was w (c.more ++ m) in
          let more_is : more ≡ w ++ (c.more ++ m) = append_cancel_left was more (w ++ (c.more ++ m)) parts in
          subst (λ l. ChangedBy (was ++ l) l old new) (sym more_is) (subst (λ l. ChangedBy l (w ++ (c.more ++ m)) old new) (append_assoc was w (c.more ++ m)) both)

      go : Rests A old new added file ⊎ Comes A C old new added file → ChangedBy (was ++ more) more old new
      go (inl r) = let (w, is, short) = behind r.entry r.was r.had r.has_had in resting r w is short
      go (inr c) = let (w, is, short) = behind c.entry c.was c.had c.has_had in coming c w is short

  -- and the images at the end differ by one record at most
  pub kept_one_more : (records : List Record) → AreKept C records → HaveOneMoreAtMost C records
  kept_one_more records longest file here = let (rest, has) = longest.begin file here in (rest, go rest has (s.comes file here), has)
    where
      go : (rest : List Record) → HasRecords (records ++ rest) file → Rests A old new added file ⊎ Comes A C old new added file → length rest ≤ 1
      go rest has (inl r) =
          let (w, is, short) = behind r.entry r.was r.had r.has_had in
          let same = ap (λ (l : List Record). length l) (one_records file (records ++ rest) r.had has r.has_same ∙ is) in
          let sum = length-append records rest in
          let sum_had = length-append was w in
          let least = longest.longest was (since_keeps A C old new added s was begin_was) in
          omega (arith, same, sum, sum_had, least, short)
      go rest has (inr c) =
          let same = ap (λ (l : List Record). length l) (one_records file (records ++ rest) ((c.had ++ c.more) ++ c.last) has c.has_all) in
          let sum = length-append records rest in
          let sum_all = length-append (c.had ++ c.more) c.last in
          let least = longest.longest (c.had ++ c.more) c.kept in
          let last = c.one_at_most in
          omega (arith, same, sum, sum_all, least, last)

  -- a Start that came besides these records, and that no image at entry has, gives no fewer writes than there were at entry, or than the Start of a reprotect read that was finished since
  pub kept_starts : (more : List Record) (file : List ℕ) → C file → HasRecords (was ++ more) file → (row : StartRow) → Contains more (Record.Start row) → (SomeHas A (Record.Start row) → ⊥) →
      (front : List Record) × (later : List Record) × (more ≡ front ++ Record.Start row ∷ later) × ReadTruly (was ++ front) front row old
  kept_starts more file here has row listed none = go (s.starts file (was ++ more) here has row (Contains-append_right was more (Record.Start row) listed))
    where
      true_one : (t : IsTrueStart A old (was ++ more) row) (w : List Record) → t.had ≡ was ++ w → length w ≤ 1 → (front : List Record) × (later : List Record) × (more ≡ front ++ Record.Start row ∷ later) × ReadTruly (was ++ front) front row old
      true_one t w is short = (w ++ t.since, t.later, more_is, truly)
        where
          whole : t.had ++ t.since ≡ was ++ (w ++ t.since)
          whole = ap (λ l. l ++ t.since) is ∙ append_assoc was w t.since

          more_is : more ≡ (w ++ t.since) ++ Record.Start row ∷ t.later
          more_is = append_cancel_left was more ((w ++ t.since) ++ Record.Start row ∷ t.later) (t.are ∙ ap (λ l. l ++ Record.Start row ∷ t.later) whole ∙ append_assoc was (w ++ t.since) (Record.Start row ∷ t.later))

          truly : ReadTruly (was ++ (w ++ t.since)) (w ++ t.since) row old
          truly setting runs q g p of_group there held =
              let stand : Stands setting (t.had ++ t.since) runs = subst (λ l. Stands setting l runs) (sym whole) q in
              let may : MayCome setting runs (Record.Start row) = may_after (t.had ++ t.since) row (stood new file (was ++ more) has (s.sound file here) (t.had ++ t.since) t.later row t.are) setting runs stand in
              let quiet = quiet_start setting (t.had ++ t.since) runs stand row may g held in
              let parts : Stands setting ((was ++ w) ++ t.since) runs = subst (λ l. Stands setting l runs) (sym (append_assoc was w t.since)) q in
              if_some (ReadsAtLeast (least_at g p runs t.since old) (protected_side setting row.groups runs)) (ReadsAtLeast (least_at g p runs (w ++ t.since) old) (protected_side setting row.groups runs))
              (λ x r. at_least_less (least_at g p runs (w ++ t.since) old) (least_at g p runs t.since old) (protected_side setting row.groups runs) x
              (λ side. least_first was w t.since old old (at_entry t.file t.was t.had w t.has_had is short) setting runs parts g p side of_group there quiet) r)
              (pair_row p row) (t.truly setting runs stand g p of_group there held)

      go : SomeHas A (Record.Start row) ⊎ IsTrueStart A old (was ++ more) row → (front : List Record) × (later : List Record) × (more ≡ front ++ Record.Start row ∷ later) × ReadTruly (was ++ front) front row old
      go (inl some) = absurd (none some)
      go (inr t) = let (w, is, short) = behind t.file t.was t.had t.has_had in true_one t w is short
