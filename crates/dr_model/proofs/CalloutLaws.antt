-- A done Command stage has its Code in the run, and a begun prompt has its Answer.
use Rattle.std.specs.Prelude.{◌≡◌, ℕ, ◌==◌, Bool, true, false, ◌||◌, List, [], ◌∷◌, Option, Some, is_some, fold}
use Rattle.std.specs.List.{list_any}
use Rattle.std.proofs.Common.{refl, sym, ap, ◌∙◌}
use Rattle.std.proofs.lemmas.Bool.{eqb-true}
use Rattle.dr_outside.specs.Commands.{code_of}
use Rattle.dr_meaning.specs.Types.{Record}
use Rattle.dr_meaning.specs.declared.stage.StageKind.{StageKind}
use Rattle.dr_meaning.specs.declared.stage.Stage.{Stage}
use Rattle.dr_meaning.specs.Worlds.{World}
use Rattle.dr_meaning.specs.Stages.{stage_at}
use Rattle.dr_meaning.specs.Visits.{Visit, visits, mark_done, excuse, open_stage, all}
use Rattle.dr_meaning.specs.Runs.{Setting, Run, TakenOver, root, migration, stages_of, run_at, run_named, with_record, add_record}
use Rattle.dr_meaning.specs.Lawful.{is_code, is_coded, is_answer, was_answered, token_of, HasCodes, MayCome, LawfulAfter}
use Rattle.dr_meaning.specs.InOrder.{has_code}
use Rattle.dr_meaning.specs.Sound.{IsKept}
use Rattle.dr_meaning.proofs.Lists.{Each, each-map}
use Rattle.dr_model.proofs.ChainLaws.{and_left, and_right}
use Rattle.dr_model.proofs.ExcuseLaws.{begun_head}
use Rattle.dr_model.proofs.EachRun.{each-lawful}
use Rattle.dr_model.proofs.OrderLaws.{or_right, or_either}

-- the code of a visit's step, where the visit is done
abbrev pub IsCodedAt : ℕ → List Stage → List Record → Visit → Type 0
IsCodedAt root stages log v = v.done ≡ true → (stage_at stages v.stage).kind ≡ StageKind.Command → list_any (is_code (token_of root (stage_at stages v.stage).step) all) log ≡ true

-- the answer of a visit's step
abbrev pub IsAnsweredAt : Option TakenOver → List Stage → List Record → Visit → Type 0
IsAnsweredAt took stages log v = (stage_at stages v.stage).kind ≡ StageKind.Prompt → list_any (is_answer (stage_at stages v.stage).step) log || was_answered (stage_at stages v.stage).step took ≡ true

pub record TakesSteps (r : Run) : Type 0 where
  pub coded : Each (IsCodedAt (root r) (stages_of r) r.log) (visits r.log)
  pub answered : Each (IsAnsweredAt (migration r) (stages_of r) r.log) (visits r.log)

module _ (root : ℕ) (took : Option TakenOver) (stages : List Stage) (log : List Record) (item : Record) where
  coded_more : (vs : List Visit) → Each (IsCodedAt root stages log) vs → Each (IsCodedAt root stages (item ∷ log)) vs
  coded_more vs h = each-map (IsCodedAt root stages log) (IsCodedAt root stages (item ∷ log)) (λ v c d k. or_right (is_code (token_of root (stage_at stages v.stage).step) all item) _ (c d k)) vs h

  answered_more : (vs : List Visit) → Each (IsAnsweredAt took stages log) vs → Each (IsAnsweredAt took stages (item ∷ log)) vs
  answered_more vs h = each-map (IsAnsweredAt took stages log) (IsAnsweredAt took stages (item ∷ log)) (λ v a k. or_either _ _ (is_answer (stage_at stages v.stage).step item || list_any (is_answer (stage_at stages v.stage).step) log) _ (λ x. or_right (is_answer (stage_at stages v.stage).step item) _ x) (λ x. x) (a k)) vs h

coded_mark : (root : ℕ) (stages : List Stage) (log : List Record) (vs : List Visit) (stage : ℕ) → open_stage vs ≡ Some stage → ((stage_at stages stage).kind ≡ StageKind.Command → list_any (is_code (token_of root (stage_at stages stage).step) all) log ≡ true) → Each (IsCodedAt root stages log) vs → Each (IsCodedAt root stages log) (mark_done vs)
coded_mark root stages log [] stage e own h = h
coded_mark root stages log (v ∷ vs) stage e own h =
    let (u, rest, same, is, d) = begun_head (v ∷ vs) stage e in
    let at_v : stage ≡ v.stage = sym is ∙ ap first (sym same) in
    ((λ done. rw at_v at own), h.1)
  where
    first : List Visit → ℕ
    first [] = 0
    first (x ∷ xs) = x.stage

coded_excuse : (root m : ℕ) (stages : List Stage) (log : List Record) (vs : List Visit) → Each (IsCodedAt root stages log) vs → Each (IsCodedAt root stages log) (excuse m vs)
coded_excuse root m stages log [] h = h
coded_excuse root m stages log (v ∷ vs) h = h

answered_mark : (took : Option TakenOver) (stages : List Stage) (log : List Record) (vs : List Visit) → Each (IsAnsweredAt took stages log) vs → Each (IsAnsweredAt took stages log) (mark_done vs)
answered_mark took stages log [] h = h
answered_mark took stages log (v ∷ vs) h = h

answered_excuse : (took : Option TakenOver) (m : ℕ) (stages : List Stage) (log : List Record) (vs : List Visit) → Each (IsAnsweredAt took stages log) vs → Each (IsAnsweredAt took stages log) (excuse m vs)
answered_excuse took m stages log [] h = h
answered_excuse took m stages log (v ∷ vs) h = h

command_code : (r : Run) (stage : Stage) (kind : StageKind) → HasCodes r kind stage → kind ≡ StageKind.Command → is_coded r (token_of (root r) stage.step) all ≡ true
command_code r stage kind codes e = let h : HasCodes r StageKind.Command stage = rw e at codes in h

-- a record that changes no visit
plain : (r : Run) (item : Record) → visits (item ∷ r.log) ≡ visits r.log → TakesSteps r → TakesSteps (with_record r item)
plain r item same h = record {
  coded = rw same (coded_more (root r) (migration r) (stages_of r) r.log item (visits r.log) h.coded);
  answered = rw same (answered_more (root r) (migration r) (stages_of r) r.log item (visits r.log) h.answered);
}

steps-record : (setting : Setting) (runs : List Run) (r : Run) (item : Record) → MayCome setting runs item → run_at (run_named item) runs ≡ Some r → TakesSteps r → TakesSteps (with_record r item)
steps-record setting runs r (Record.Estate bytes) may at_n h = elim may [ ]
steps-record setting runs r (Record.Begin n j) may at_n h =
    let begin = (rw at_n at may).1 in
    record {
      coded = (λ d. absurd cc, coded_more (root r) (migration r) (stages_of r) r.log (Record.Begin n j) (visits r.log) h.coded);
      answered = (begin.answered, answered_more (root r) (migration r) (stages_of r) r.log (Record.Begin n j) (visits r.log) h.answered);
    }
steps-record setting runs r (Record.Done n j) may at_n h =
    let done = (rw at_n at may).1 in
    record {
      coded = coded_mark (root r) (stages_of r) (Record.Done n j ∷ r.log) (visits r.log) j done.begun (command_code r (stage_at (stages_of r) j) _ done.codes) (coded_more (root r) (migration r) (stages_of r) r.log (Record.Done n j) (visits r.log) h.coded);
      answered = answered_mark (migration r) (stages_of r) (Record.Done n j ∷ r.log) (visits r.log) (answered_more (root r) (migration r) (stages_of r) r.log (Record.Done n j) (visits r.log) h.answered);
    }
steps-record setting runs r (Record.Skip n j m) may at_n h = record {
  coded = coded_excuse (root r) m (stages_of r) (Record.Skip n j m ∷ r.log) (visits r.log) (coded_more (root r) (migration r) (stages_of r) r.log (Record.Skip n j m) (visits r.log) h.coded);
  answered = answered_excuse (migration r) m (stages_of r) (Record.Skip n j m ∷ r.log) (visits r.log) (answered_more (root r) (migration r) (stages_of r) r.log (Record.Skip n j m) (visits r.log) h.answered);
}
steps-record setting runs r (Record.Aside n m by) may at_n h = record {
  coded = coded_excuse (root r) m (stages_of r) (Record.Aside n m by ∷ r.log) (visits r.log) (coded_more (root r) (migration r) (stages_of r) r.log (Record.Aside n m by) (visits r.log) h.coded);
  answered = answered_excuse (migration r) m (stages_of r) (Record.Aside n m by ∷ r.log) (visits r.log) (answered_more (root r) (migration r) (stages_of r) r.log (Record.Aside n m by) (visits r.log) h.answered);
}
steps-record setting runs r (Record.Start row) may at_n h = plain r (Record.Start row) refl h
steps-record setting runs r (Record.Attempt n moment) may at_n h = plain r (Record.Attempt n moment) refl h
steps-record setting runs r (Record.Answer n step text) may at_n h = plain r (Record.Answer n step text) refl h
steps-record setting runs r (Record.Code n token m code) may at_n h = plain r (Record.Code n token m code) refl h
steps-record setting runs r (Record.Finish n moment ms) may at_n h = plain r (Record.Finish n moment ms) refl h

pub steps-lawful : (setting : Setting) (records : List Record) → LawfulAfter setting [] records → Each TakesSteps (fold (add_record setting) [] records)
steps-lawful setting records lawful =
    each-lawful setting TakesSteps (λ r n h. record { coded = h.coded; answered = h.answered }) (λ runs row plan may. record { coded = tt; answered = tt }) (steps-record setting) [] records lawful tt tt

-- The runner keeps each code that was recorded

one_kept : (w : World) (t : ℕ) (item : Record) → IsKept w item → is_code t all item ≡ true → has_code w.runner t ≡ true
one_kept w t (Record.Code run token m code) kept e =
    let is_token : token ≡ t = eqb-true token t (and_left _ (m == all) e) in
    let of_runner : m == all ≡ true = and_right (token == t) _ e in
    let held : code_of w.runner token ≡ Some code = rw of_runner at kept in
    ap (λ n. is_some (code_of w.runner n)) (sym is_token) ∙ ap is_some held
one_kept w t _ kept e = absurd cc

pub coded_kept : (w : World) (t : ℕ) (log : List Record) → Each (IsKept w) log → list_any (is_code t all) log ≡ true → has_code w.runner t ≡ true
coded_kept w t [] kept e = absurd cc
coded_kept w t (item ∷ log) kept e = go (is_code t all item) refl (coded_kept w t log kept.1)
  where
    go : (b : Bool) → is_code t all item ≡ b → (list_any (is_code t all) log ≡ true → has_code w.runner t ≡ true) → has_code w.runner t ≡ true
    go true own rest = one_kept w t item kept.0 own
    go false other rest = rest (rw other at e)
