-- What was kept at the entry of a line is kept, and by the longest list that is kept the outside changed.
use Rattle.std.specs.Prelude.{◌≡◌, ℕ, ◌≤◌, ◌⊎◌, List, [], ◌∷◌, ◌++◌, length}
use Rattle.std.proofs.Common.{refl, sym, ap, ◌∙◌, inl, inr, subst, arith}
use Rattle.std.proofs.lemmas.List.{append_assoc, append_cancel_left}
use Rattle.dr_meaning.specs.Types.{Record}
use Rattle.dr_meaning.specs.Worlds.{World}
use Rattle.dr_meaning.specs.Runs.{Setting, Run}
use Rattle.dr_meaning.specs.Journals.{HasRecords, Stands}
use Rattle.dr_meaning.specs.Images.{BeginWith, Keeps, AreKept}
use Rattle.dr_meaning.specs.Changes.{ChangesWorld, OnlyDrifts}
use Rattle.dr_meaning.specs.Since.{Rests, Comes, Since}
use Rattle.dr_model.proofs.FileLaws.{one_records}
use Rattle.dr_model.proofs.MoreRecords.{among_right, changes_among}
use Rattle.dr_model.proofs.ChangedOn.{only_changes, changes_first}

-- Two ways to part a list -----------------------------------------------------------------------------------------

-- where the first front is no longer, the second is it and some more
pub parted : (xs a ys b : List Record) → xs ++ a ≡ ys ++ b → length xs ≤ length ys → (m : List Record) × (ys ≡ xs ++ m) × (a ≡ m ++ b)
parted [] a ys b e le = (ys, refl, e)
parted (x ∷ xs) a [] b e le = absurd (omega arith)
parted (x ∷ xs) a (y ∷ ys) b e le =
    let same : x ∷ (xs ++ a) ≡ y ∷ (ys ++ b) = e in
    let first : x ≡ y = cc in
    let rest : xs ++ a ≡ ys ++ b = cc in
    let (m, p, q) = parted xs a ys b rest (omega arith) in
    (m, λ i. sym first i ∷ p i, q)

module _ (old_images new_images : List ℕ → Type 0) (old new : World) (added : List Record) (s : Since old_images old added new_images new) where
  -- the records of an image at entry begin with what is kept there
  had_begins : (records : List Record) → BeginWith old_images records → (entry : List ℕ) → old_images entry → (had : List Record) → HasRecords had entry → (w : List Record) × (had ≡ records ++ w)
  had_begins records kept entry was had has = let (w, begins) = kept entry was in (w, one_records entry had (records ++ w) has begins)

  pub since_keeps : Keeps old_images new_images
  since_keeps records kept file here = go (s.comes file here)
    where
      go : Rests old_images old new added file ⊎ Comes old_images new_images old new added file → (more : List Record) × HasRecords (records ++ more) file
      go (inl r) = let (w, is) = had_begins records kept r.entry r.was r.had r.has_had in (w, subst (λ l. HasRecords l file) is r.has_same)
      go (inr c) =
          let (w, is) = had_begins records kept c.entry c.was c.had c.has_had in
          let all : (c.had ++ c.more) ++ c.last ≡ records ++ ((w ++ c.more) ++ c.last) = ap (λ l. (l ++ c.more) ++ c.last) is ∙ ap (λ l. l ++ c.last) (append_assoc records w c.more) ∙ append_assoc records (w ++ c.more) c.last in
          ((w ++ c.more) ++ c.last, subst (λ l. HasRecords l file) all c.has_all)

  pub since_changes : (setting : Setting) (was more : List Record) (runs : List Run) (file : List ℕ) → new_images file → BeginWith old_images was → AreKept new_images (was ++ more) → Stands setting (was ++ more) runs → ChangesWorld setting runs more old new
  since_changes setting was more runs file here kept longest stand = go (s.comes file here)
    where
      go : Rests old_images old new added file ⊎ Comes old_images new_images old new added file → ChangesWorld setting runs more old new
      go (inl r) = only_changes setting runs more old new r.only
      go (inr c) =
          let (w, is) = had_begins was kept c.entry c.was c.had c.has_had in
          let (rest, begins) = longest.begin file here in
          let same : (c.had ++ c.more) ++ c.last ≡ (was ++ more) ++ rest = one_records file ((c.had ++ c.more) ++ c.last) ((was ++ more) ++ rest) c.has_all begins in
          let (m, whole, last) = parted (c.had ++ c.more) c.last (was ++ more) rest same (longest.longest (c.had ++ c.more) c.kept) in
          let parts : was ++ more ≡ was ++ (w ++ (c.more ++ m)) = whole ∙ ap (λ l. (l ++ c.more) ++ m) is ∙ append_assoc (was ++ w) c.more m ∙ append_assoc was w (c.more ++ m) in
          let behind : more ≡ w ++ (c.more ++ m) = append_cancel_left was more (w ++ (c.more ++ m)) parts in
          let first : ChangesWorld setting runs (c.more ++ m) old new = changes_first c.had c.more m old new c.changed setting runs (subst (λ l. Stands setting l runs) whole stand) in
          subst (λ l. ChangesWorld setting runs l old new) (sym behind) (changes_among setting runs (c.more ++ m) (w ++ (c.more ++ m)) old new (among_right w (c.more ++ m)) first)

  -- where no record is kept, all is as it was but for drift
  pub since_empty : (file : List ℕ) → new_images file → AreKept new_images [] → OnlyDrifts old new
  since_empty file here longest = go (s.comes file here)
    where
      none : (l : List Record) → length l ≤ 0 → l ≡ []
      none [] le = refl
      none (x ∷ l) le = absurd (omega arith)

      go : Rests old_images old new added file ⊎ Comes old_images new_images old new added file → OnlyDrifts old new
      go (inl r) = r.only
      go (inr c) = c.changed.empty (none (c.had ++ c.more) (longest.longest (c.had ++ c.more) c.kept))
