-- What follows from a step.
use Rattle.std.specs.Prelude.{is_some, not, cond, Option, Some, None, IsTrue, slice_get}
use Rattle.std.specs.List.{AllByRecursion}
use Rattle.std.proofs.Common.{◌≡◌, ℕ, suc, zero, ◌+◌, ◌∙◌, inl, inr, Bool, true, false, List, [], ◌∷◌, refl, sym, ap, subst, arith}
use Rattle.std.proofs.lemmas.List.{append-nil}
use Rattle.dr_base.specs.declared.side.Side.{Side}
use Rattle.dr_outside.specs.declared.machine.Kept.{Kept}
use Rattle.dr_outside.specs.declared.machine.Placed.{Placed}
use Rattle.dr_outside.specs.declared.machine.Post.{Post}
use Rattle.dr_outside.specs.declared.machine.Post.TheVariants.{Placeholder, Off, On, Ready}
use Rattle.dr_outside.specs.Commands.{code_of}
use Rattle.dr_outside.specs.Machines.{PortState}
use Rattle.dr_meaning.specs.declared.stage.StageKind.{StageKind}
use Rattle.dr_meaning.specs.Runs.{Run}
use Rattle.dr_meaning.specs.Lawful.{token_of}
use Rattle.dr_meaning.specs.Outcomes.{stopped, PostOutcome, IsAsWanted}
use Rattle.dr_meaning.specs.InOrder.{has_code}
use Rattle.dr_meaning.specs.Calls.{KeepsCodes}
use Rattle.dr_meaning.specs.Changes.{IsMachineCommand, GrowsBy}
use Rattle.dr_wave.specs.declared.slot.StartWant.{StartWant}
use Rattle.dr_wave.specs.declared.slot.Want.{Want}
use Rattle.dr_wave.specs.declared.slot.Found.{Found}
use Rattle.dr_wave.specs.Commands.{commands_from, unkept, kept_of, codes_from, AreKept}
use Rattle.dr_wave.specs.Steps.{Step, StartLeaves, PostStep}
use Rattle.dr_wave.specs.Wants.{IsStartOf, IsWantOf}
use Rattle.dr_wave.proofs.KeptLaws.{keeps_codes}

-- Posts ----------------------------------------------------------------------------------------------------

pub stopped_stays : (x y : Post) → y ≡ stopped x → stopped y ≡ y
stopped_stays Placeholder y e = rw e refl
stopped_stays (Off p) y e = rw e refl
stopped_stays (On p) y e = rw e refl
stopped_stays (Ready p) y e = rw e refl

-- what a start leaves of a machine that stood as wanted stands as wanted
pub outcome_stands : (w : Placed) (x y : Post) → IsAsWanted w x → PostOutcome StageKind.Start w x y → IsAsWanted w y
outcome_stands w Placeholder y stood (inl e) = rw e refl
outcome_stands w Placeholder y stood (inr (inl e)) = rw e tt
outcome_stands w Placeholder y stood (inr (inr (inl e))) = rw e refl
outcome_stands w Placeholder y stood (inr (inr (inr e))) = rw e refl
outcome_stands w (Off p) y stood (inl e) = rw e refl
outcome_stands w (Off p) y stood (inr (inl e)) = rw e refl
outcome_stands w (Off p) y stood (inr (inr e)) = rw e refl
outcome_stands w (On p) y stood (inl e) = rw e refl
outcome_stands w (On p) y stood (inr (inl e)) = rw e refl
outcome_stands w (On p) y stood (inr (inr e)) = rw e refl
outcome_stands w (Ready p) y stood (inl e) = rw e refl
outcome_stands w (Ready p) y stood (inr h) = absurd h

pub step_stands : (w : Placed) (x y : Post) → IsAsWanted w x → PostStep StageKind.Start w x y → IsAsWanted w y
step_stands w x y stood (inl same) = rw same stood
step_stands w x y stood (inr outcome) = outcome_stands w x y stood outcome

-- Kept codes -----------------------------------------------------------------------------------------------

all_stay : (old now : PortState) → now.kept ≡ old.kept → KeepsCodes old.kept now.kept
all_stay old now same token code h = rw same h

pub step_keeps : (tells : Type 0) → tells → (want : Want) (old now : PortState) (found : Found) → Step tells want old now found → KeepsCodes old.kept now.kept
step_keeps tells t Want.Nothing old now found s = all_stay old now (s.leaves t).kept
step_keeps tells t Want.Look old now found s = all_stay old now (s.leaves t).kept
step_keeps tells t (Want.Start want) old now found s = keeps_codes want.side _ old.kept now.kept (s.leaves t).ran
step_keeps tells t (Want.Stop side) old now found s = all_stay old now (s.leaves t).kept
step_keeps tells t (Want.Clear side) old now found s = all_stay old now (s.leaves t).kept

none_grows : (runs : List Run) (machine : ℕ) (old now : PortState) → now.kept ≡ old.kept → GrowsBy (IsMachineCommand runs machine) old.kept now.kept
none_grows runs machine old now same = record { added = []; grows = same ∙ sym (append-nil old.kept); each = tt; once = λ once. rw same once }

-- what is kept of commands from an index on is of commands of the machine
each_from : (runs : List Run) (machine : ℕ) (want : StartWant) → IsStartOf runs machine want → (old : List Kept) (i : ℕ) (names : List (Option (List ℕ))) (codes : List ℕ) →
    ((j : ℕ) (name : List ℕ) → slice_get names j ≡ Some (Some name) → slice_get want.commands (i + j) ≡ Some (Some name)) →
    AllByRecursion (IsMachineCommand runs machine) (kept_of want.side (unkept old (commands_from want.root i names)) codes)
each_from runs machine want of old i [] codes placed = tt
each_from runs machine want of old i (None ∷ names) codes placed =
    each_from runs machine want of old (i + 1) names codes (λ j name h. let e : i + suc j ≡ (i + 1) + j = omega arith in subst (λ k. slice_get want.commands k ≡ Some (Some name)) e (placed (suc j) name h))
each_from runs machine want of old i (Some first ∷ names) codes placed =
    go (λ more. each_from runs machine want of old (i + 1) names more (λ j name h. let e : i + suc j ≡ (i + 1) + j = omega arith in subst (λ k. slice_get want.commands k ≡ Some (Some name)) e (placed (suc j) name h)))
    (has_code old (token_of want.root i)) codes
  where
    here : (code : ℕ) → IsMachineCommand runs machine (record { token = token_of want.root i; code = code; name = first; side = Some want.side })
    here code = record {
      run = of.run;
      listed = of.listed;
      index = i;
      command = let e : i + 0 ≡ i = omega arith in rw (← of.commands) (subst (λ k. slice_get want.commands k ≡ Some (Some first)) e (placed 0 first refl));
      token = ap (λ r. token_of r i) of.rooted;
      side = ap (λ (s : Side). Some s) of.side;
      begun = of.begun;
    }

    go : ((more : List ℕ) → AllByRecursion (IsMachineCommand runs machine) (kept_of want.side (unkept old (commands_from want.root (i + 1) names)) more)) → (b : Bool) (codes : List ℕ) →
        AllByRecursion (IsMachineCommand runs machine) (kept_of want.side (cond (not b) (record { token = token_of want.root i; name = first } ∷ unkept old (commands_from want.root (i + 1) names)) (unkept old (commands_from want.root (i + 1) names))) codes)
    go later true codes = later codes
    go later false [] = tt
    go later false (code ∷ codes) = (here code, later codes)

pub step_grows : (tells : Type 0) → tells → (want : Want) (old now : PortState) (found : Found) → Step tells want old now found → (runs : List Run) (machine : ℕ) → IsWantOf runs machine want → GrowsBy (IsMachineCommand runs machine) old.kept now.kept
step_grows tells t Want.Nothing old now found s runs machine of = none_grows runs machine old now (s.leaves t).kept
step_grows tells t Want.Look old now found s runs machine of = none_grows runs machine old now (s.leaves t).kept
step_grows tells t (Want.Start want) old now found s runs machine of =
    let left : StartLeaves want old now = s.leaves t in
    record {
      added = kept_of want.side (unkept old.kept (commands_from want.root 0 want.commands)) left.ran.codes;
      grows = left.ran.grew;
      each = each_from runs machine want of old.kept 0 want.commands left.ran.codes (λ j name h. let e : 0 + j ≡ j = omega arith in rw e h);
      once = left.once;
    }
step_grows tells t (Want.Stop side) old now found s runs machine of = none_grows runs machine old now (s.leaves t).kept
step_grows tells t (Want.Clear side) old now found s runs machine of = none_grows runs machine old now (s.leaves t).kept

-- Codes that are told --------------------------------------------------------------------------------------

is_code : (o : Option ℕ) → IsTrue (is_some o) → (code : ℕ) × (o ≡ Some code)
is_code None h = absurd (cc h)
is_code (Some code) h = (code, refl)

pub code_at : (kept : List Kept) (r i : ℕ) (names : List (Option (List ℕ))) → AreKept kept r i names → (index : ℕ) (name : List ℕ) → slice_get names index ≡ Some (Some name) →
    (code : ℕ) × (slice_get (codes_from kept r i names) index ≡ Some (Some code)) × (code_of kept (token_of r (i + index)) ≡ Some code)
code_at kept r i [] are index name h = absurd (cc h)
code_at kept r i (None ∷ names) are zero name h = absurd (cc h)
code_at kept r i (None ∷ names) are (suc index) name h =
    let (code, told, is) = code_at kept r (i + 1) names are index name h in
    let e : (i + 1) + index ≡ i + suc index = omega arith in
    (code, told, subst (λ k. code_of kept (token_of r k) ≡ Some code) e is)
code_at kept r i (Some first ∷ names) are zero name h =
    let (code, is) = is_code (code_of kept (token_of r i)) are.0 in
    let e : i + 0 ≡ i = omega arith in
    (code, ap (λ (o : Option ℕ). Some o) is, subst (λ k. code_of kept (token_of r k) ≡ Some code) (sym e) is)
code_at kept r i (Some first ∷ names) are (suc index) name h =
    let (code, told, is) = code_at kept r (i + 1) names are.1 index name h in
    let e : (i + 1) + index ≡ i + suc index = omega arith in
    (code, told, subst (λ k. code_of kept (token_of r k) ≡ Some code) e is)

pub no_code_at : (kept : List Kept) (r i : ℕ) (names : List (Option (List ℕ))) (index : ℕ) → slice_get names index ≡ Some None → slice_get (codes_from kept r i names) index ≡ Some None
no_code_at kept r i [] index h = absurd (cc h)
no_code_at kept r i (None ∷ names) zero h = refl
no_code_at kept r i (None ∷ names) (suc index) h = no_code_at kept r (i + 1) names index h
no_code_at kept r i (Some first ∷ names) zero h = absurd (cc h)
no_code_at kept r i (Some first ∷ names) (suc index) h = no_code_at kept r (i + 1) names index h
