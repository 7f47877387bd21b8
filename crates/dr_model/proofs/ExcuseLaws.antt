-- In a lawful journal no visit of a Split is excused.
use Rattle.std.specs.Prelude.{◌≡◌, ℕ, Bool, true, false, List, [], ◌∷◌, Some, None, fold}
use Rattle.std.proofs.Common.{refl, sym, ap, ◌∙◌}
use Rattle.dr_meaning.specs.Types.{Record}
use Rattle.dr_meaning.specs.declared.stage.StageKind.{StageKind}
use Rattle.dr_meaning.specs.declared.stage.Stage.{Stage}
use Rattle.dr_meaning.specs.Stages.{stage_at}
use Rattle.dr_meaning.specs.Visits.{Visit, visits, mark_done, excuse, open_stage}
use Rattle.dr_meaning.specs.Runs.{Setting, Run, stages_of, run_at, run_named, with_record, add_record}
use Rattle.dr_meaning.specs.Lawful.{MaySkipIn, MayCome, LawfulAfter}
use Rattle.dr_meaning.proofs.Lists.{Each}
use Rattle.dr_model.proofs.EachRun.{each-lawful}

-- a stage that is begun stands at the head of the visits
pub begun_head : (vs : List Visit) (stage : ℕ) → open_stage vs ≡ Some stage → (v : Visit) × (earlier : List Visit) × (vs ≡ v ∷ earlier) × (v.stage ≡ stage) × (v.done ≡ false)
begun_head [] stage e = absurd cc
begun_head (v ∷ earlier) stage e = go v.done refl
  where
    go : (b : Bool) → v.done ≡ b → (u : Visit) × (rest : List Visit) × (v ∷ earlier ≡ u ∷ rest) × (u.stage ≡ stage) × (u.done ≡ false)
    go true d = absurd (let wrong : None ≡ Some stage = rw d at e in cc)
    go false d = let same : Some v.stage ≡ Some stage = rw d at e in let is : v.stage ≡ stage = cc in (v, earlier, refl, is, d)

-- a Split excuses nothing
abbrev pub SplitsAll : List Stage → List Visit → Type 0
SplitsAll stages vs = Each (λ v. (stage_at stages v.stage).kind ≡ StageKind.Split → v.excused ≡ []) vs

pub record ExcusesRightly (r : Run) : Type 0 where
  pub none : SplitsAll (stages_of r) (visits r.log)

splits_mark : (stages : List Stage) (vs : List Visit) → SplitsAll stages vs → SplitsAll stages (mark_done vs)
splits_mark stages [] h = h
splits_mark stages (v ∷ vs) h = h

abbrev first : List Visit → ℕ
first [] = 0
first (x ∷ xs) = x.stage

splits_excuse : (stages : List Stage) (m stage : ℕ) (vs : List Visit) → open_stage vs ≡ Some stage → ((stage_at stages stage).kind ≡ StageKind.Split → ⊥) → SplitsAll stages vs → SplitsAll stages (excuse m vs)
splits_excuse stages m stage [] e ne h = h
splits_excuse stages m stage (v ∷ vs) e ne h =
    let (u, rest, same, is, d) = begun_head (v ∷ vs) stage e in
    let at_v : v.stage ≡ stage = ap first same ∙ is in
    (λ split. absurd (ne (sym (ap (λ n. (stage_at stages n).kind) at_v) ∙ split)), h.1)

skip_no_split : (kind : StageKind) (ms : List ℕ) (m : ℕ) → MaySkipIn kind ms m → kind ≡ StageKind.Split → ⊥
skip_no_split kind ms m may e = let bad : MaySkipIn StageKind.Split ms m = rw e at may in bad

excuse-record : (setting : Setting) (runs : List Run) (r : Run) (item : Record) → MayCome setting runs item → run_at (run_named item) runs ≡ Some r → ExcusesRightly r → ExcusesRightly (with_record r item)
excuse-record setting runs r (Record.Estate bytes) may at_n h = elim may [ ]
excuse-record setting runs r (Record.Begin n j) may at_n h = record { none = (λ e. refl, h.none) }
excuse-record setting runs r (Record.Done n j) may at_n h = record { none = splits_mark (stages_of r) (visits r.log) h.none }
excuse-record setting runs r (Record.Skip n j m) may at_n h =
    let skip = (rw at_n at may).1 in
    record { none = splits_excuse (stages_of r) m j (visits r.log) skip.begun (skip_no_split _ _ m skip.place) h.none }
excuse-record setting runs r (Record.Aside n m by) may at_n h =
    let (stage, aside) = (rw at_n at may).1 in
    record { none = splits_excuse (stages_of r) m stage (visits r.log) aside.begun (λ e. let wrong : StageKind.Start ≡ StageKind.Split = sym aside.start ∙ e in cc) h.none }
excuse-record setting runs r (Record.Start row) may at_n h = record { none = h.none }
excuse-record setting runs r (Record.Attempt n moment) may at_n h = record { none = h.none }
excuse-record setting runs r (Record.Answer n step text) may at_n h = record { none = h.none }
excuse-record setting runs r (Record.Code n token m code) may at_n h = record { none = h.none }
excuse-record setting runs r (Record.Finish n moment ms) may at_n h = record { none = h.none }

pub excuses-lawful : (setting : Setting) (records : List Record) → LawfulAfter setting [] records → Each ExcusesRightly (fold (add_record setting) [] records)
excuses-lawful setting records lawful =
    each-lawful setting ExcusesRightly (λ r n h. record { none = h.none }) (λ runs row plan may. record { none = tt }) (excuse-record setting) [] records lawful tt tt
