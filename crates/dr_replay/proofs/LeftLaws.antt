-- The machines that are left are among those that visits excuse.
use Rattle.std.specs.Prelude.{◌≡◌, ℕ, Bool, true, false, IsTrue, ◌↔◌, List, Option, Some, None, map, reverse, find}
use Rattle.std.proofs.Common.{refl, sym, ◌∙◌, subst}
use Rattle.std.proofs.lemmas.Bool.{false≢true}
use Rattle.dr_meaning.specs.declared.stage.StageKind.{StageKind}
use Rattle.dr_base.specs.Lists.{has}
use Rattle.dr_meaning.specs.Stages.{stage_at}
use Rattle.dr_meaning.specs.Visits.{Visit, visits, is_excused}
use Rattle.dr_meaning.specs.Runs.{Run, stages_of}
use Rattle.dr_meaning.specs.Meaning.{is_left, is_wave_of}
use Rattle.dr_meaning.proofs.Lists.{Each, all_each, each-map, each-of-map, each-reverse, each-find}
use Rattle.dr_meaning.proofs.Elements.{each-contains, has-contains, pick}
use Rattle.dr_replay.specs.declared.visiting.Visit.{Visit as VisitValue}
use Rattle.dr_replay.specs.Values.{visit_of, visits_told}
use Rattle.dr_replay.specs.Following.{NamesIfLeft}

-- what holds of each machine that a visit excuses, if it is left, holds of each machine
pub named_by_visits : (run : Run) (machines : List ℕ) (list : List VisitValue) → visits_told list ≡ visits run.log → Each (λ v. Each (NamesIfLeft run machines) v.excused.items) list ↔ ((m : ℕ) → NamesIfLeft run machines m)
named_by_visits run machines list are =
    (there, λ h. all_each (λ v. Each (NamesIfLeft run machines) v.excused.items) (λ v. all_each (NamesIfLeft run machines) h v.excused.items) list)
  where
    there : Each (λ v. Each (NamesIfLeft run machines) v.excused.items) list → (m : ℕ) → NamesIfLeft run machines m
    there h m left = go (find test (visits run.log)) refl left
      where
        test : Visit → Bool
        test v = is_wave_of StageKind.Start m (stage_at (stages_of run) v.stage)

        told : Each (λ v. Each (NamesIfLeft run machines) v.excused) (visits run.log)
        told =
            subst (λ vs. Each (λ v. Each (NamesIfLeft run machines) v.excused) vs) are
            (each-reverse (λ v. Each (NamesIfLeft run machines) v.excused) (map visit_of list)
            (each-of-map (λ v. Each (NamesIfLeft run machines) v.excused) visit_of list
            (each-map (λ v. Each (NamesIfLeft run machines) v.excused.items) (λ v. Each (NamesIfLeft run machines) (reverse v.excused.items))
            (λ v k. each-reverse (NamesIfLeft run machines) v.excused.items k) list h)))

        go : (o : Option Visit) → find (λ v. is_wave_of StageKind.Start m (stage_at (stages_of run) v.stage)) (visits run.log) ≡ o → is_excused m o ≡ true → IsTrue (has machines m)
        go None e k = absurd (false≢true k)
        go (Some v) e k = pick (NamesIfLeft run machines) v.excused m (each-find (λ v. Each (NamesIfLeft run machines) v.excused) (λ v. is_wave_of StageKind.Start m (stage_at (stages_of run) v.stage)) (visits run.log) v told e) k left

-- a list names the machines that are left, where those that it names are left, and it has those that are left
pub names_left_told : (run : Run) (machines : List ℕ) → (Each (λ m. IsTrue (is_left run m)) machines × ((m : ℕ) → NamesIfLeft run machines m)) ↔ ((m : ℕ) → has machines m ≡ is_left run m)
names_left_told run machines = (there, back)
  where
    there : (Each (λ m. IsTrue (is_left run m)) machines × ((m : ℕ) → NamesIfLeft run machines m)) → (m : ℕ) → has machines m ≡ is_left run m
    there h m = go (has machines m) (is_left run m) (λ e. pick (λ x. IsTrue (is_left run x)) machines m h.0 e) (h.1 m)
      where
        go : (a b : Bool) → (a ≡ true → b ≡ true) → (b ≡ true → a ≡ true) → a ≡ b
        go true b f g = sym (f refl)
        go false true f g = g refl
        go false false f g = refl

    back : ((m : ℕ) → has machines m ≡ is_left run m) → Each (λ m. IsTrue (is_left run m)) machines × ((m : ℕ) → NamesIfLeft run machines m)
    back h =
        (each-contains (λ m. IsTrue (is_left run m)) machines (λ m k. sym (h m) ∙ has-contains machines m k), λ m left. h m ∙ left)
