-- Stages come in order: a stage that starts no machines comes after lower ones alone.
use Rattle.std.specs.Prelude.{◌≡◌, ◌≢◌, ℕ, ◌<◌, ◌≤◌, ◌==◌, ◌⊎◌, Bool, true, false, not, ◌&&◌, List, [], ◌∷◌, Option, Some, None, cond, find, fold}
use Rattle.std.specs.List.{list_any}
use Rattle.std.specs.Option.{option_or}
use Rattle.std.proofs.Common.{refl, sym, ◌∙◌, inl, inr, arith}
use Rattle.std.proofs.lemmas.Bool.{eq-eqb, cases_eq, cases_lt, not-false, not-true}
use Rattle.dr_meaning.specs.Types.{Record}
use Rattle.dr_meaning.specs.declared.stage.StageKind.{StageKind}
use Rattle.dr_meaning.specs.declared.stage.Stage.{Stage}
use Rattle.dr_meaning.specs.Stages.{stage_at}
use Rattle.dr_meaning.specs.Visits.{Visit, visits, mark_done, excuse, begun, is_done, is_visit_done}
use Rattle.dr_meaning.specs.Runs.{Setting, Run, stages_of, run_at, run_named, with_record, add_record}
use Rattle.dr_meaning.specs.Meaning.{same_kind}
use Rattle.dr_meaning.specs.Next.{is_attempt, least_stage, is_worked_again, least_undone}
use Rattle.dr_meaning.specs.Lawful.{MayBegin, MayCome, LawfulAfter}
use Rattle.dr_meaning.proofs.Lists.{Each, Some_of, each-map}
use Rattle.dr_model.proofs.LeastLaws.{least_passes, least_fails}
use Rattle.dr_model.proofs.ThroughLaws.{visited}
use Rattle.dr_model.proofs.ReachLaws.{begun_visit}
use Rattle.dr_model.proofs.LogLaws.{IsGoneThrough, head_done, gone-record}
use Rattle.dr_model.proofs.ChainLaws.{and_left, and_right}
use Rattle.dr_model.proofs.NumberLaws.{kind-same}
use Rattle.dr_model.proofs.EachRun.{each-lawful}

-- The order of visits

abbrev pub Visits_at : ℕ → List Visit → Type 0
Visits_at i vs = Some_of (λ u. u.stage ≡ i) vs

-- below a visited stage all are visited
abbrev pub IsFilled : List Visit → List Visit → Type 0
IsFilled all_visits vs = Each (λ v. (i : ℕ) → 1 ≤ i → i < v.stage → Visits_at i all_visits) vs

-- a visit of a stage that starts no machines has only lower ones before it
abbrev pub IsAhead : List Stage → List Visit → Type 0
IsAhead stages [] = Unit {0}
IsAhead stages (v ∷ earlier) = ((stage_at stages v.stage).kind ≢ StageKind.Start → Each (λ u. u.stage < v.stage) earlier) × IsAhead stages earlier

pub record IsInSequence (r : Run) : Type 0 where
  pub gone : IsGoneThrough r
  pub filled : IsFilled (visits r.log) (visits r.log)
  pub ahead : IsAhead (stages_of r) (visits r.log)

-- where all visits are done, a visited stage is done
pub done_if_visited : (j : ℕ) (vs : List Visit) → Each (λ u. u.done ≡ true) vs → Visits_at j vs → is_visit_done (find (λ v. v.stage == j) vs) ≡ true
done_if_visited j [] d some = elim some [ ]
done_if_visited j (v ∷ vs) d some = go (v.stage == j) refl some (done_if_visited j vs d.1)
  where
    go : (b : Bool) → (v.stage == j) ≡ b → Visits_at j (v ∷ vs) → (Visits_at j vs → is_visit_done (find (λ u. u.stage == j) vs) ≡ true) → is_visit_done (cond (v.stage == j) (Some v) (find (λ u. u.stage == j) vs)) ≡ true
    go true e s rest = rw e d.0
    go false e (inl own) rest = absurd (let yes : v.stage == j ≡ true = eq-eqb v.stage j own in let wrong : true ≡ false = sym yes ∙ e in cc)
    go false e (inr later) rest = rw e (rest later)

-- the visit of a stage, among filled ones
filled_at : (j i : ℕ) (whole vs : List Visit) → IsFilled whole vs → Visits_at j vs → 1 ≤ i → i < j → Visits_at i whole
filled_at j i whole [] f some above below = elim some [ ]
filled_at j i whole (v ∷ vs) f (inl e) above below = f.0 i above (omega (arith, e))
filled_at j i whole (v ∷ vs) f (inr later) above below = filled_at j i whole vs f.1 later above below

filled_more : (new : Visit) (whole vs : List Visit) → IsFilled whole vs → IsFilled (new ∷ whole) vs
filled_more new whole vs f = each-map (λ v. (i : ℕ) → 1 ≤ i → i < v.stage → Visits_at i whole) (λ v. (i : ℕ) → 1 ≤ i → i < v.stage → Visits_at i (new ∷ whole)) (λ v h i above below. inr (h i above below)) vs f

-- no visit at j or above, where j isn't visited
all_below : (j : ℕ) (whole vs : List Visit) → 1 ≤ j → (Visits_at j whole → ⊥) → IsFilled whole vs → ((k : ℕ) → Visits_at k vs → Visits_at k whole) → Each (λ u. u.stage < j) vs
all_below j whole [] above none f among = tt
all_below j whole (v ∷ vs) above none f among = (go (cases_lt v.stage j), all_below j whole vs above none f.1 (λ k s. among k (inr s)))
  where
    at_least : (v.stage ≡ j) ⊎ (v.stage ≡ j → ⊥) → j ≤ v.stage → v.stage < j
    at_least (inl same) le = absurd (none (among j (inl same)))
    at_least (inr ne) le = absurd (none (f.0 j above (omega arith)))

    go : (v.stage < j) ⊎ (j ≤ v.stage) → v.stage < j
    go (inl lt) = lt
    go (inr le) = at_least (cases_eq v.stage j) le

either_or : (a b : Option ℕ) (j : ℕ) → option_or a b ≡ Some j → (a ≡ Some j) ⊎ (b ≡ Some j)
either_or None b j e = inr e
either_or (Some x) b j e = inl e

-- the stage that a lawful Begin names
pub begins_at : (runs : List Run) (r : Run) (j : ℕ) → MayBegin r j → (least_stage (is_worked_again r) 1 (stages_of r) ≡ Some j) ⊎ (least_undone r ≡ Some j)
begins_at runs r j may = go (begun r.log) may.none_begun
  where
    go : (o : Option ℕ) → begun r.log ≡ None → (least_stage (is_worked_again r) 1 (stages_of r) ≡ Some j) ⊎ (least_undone r ≡ Some j)
    go o none = either_or (least_stage (is_worked_again r) 1 (stages_of r)) (least_undone r) j (rw none at may.next)

sequence-begin : (runs : List Run) (r : Run) (n j : ℕ) → MayBegin r j → IsInSequence r → IsGoneThrough (with_record r (Record.Begin n j)) → IsInSequence (with_record r (Record.Begin n j))
sequence-begin runs r n j may s gone = go (begins_at runs r j may)
  where
    vs : List Visit
    vs = visits r.log

    all_done : Each (λ u. u.done ≡ true) (visits r.log)
    all_done = head_done (visits r.log) may.none_begun s.gone.before

    go : (least_stage (is_worked_again r) 1 (stages_of r) ≡ Some j) ⊎ (least_undone r ≡ Some j) → IsInSequence (with_record r (Record.Begin n j))
    go (inl again) =
        let (above, passes) = least_passes (is_worked_again r) 1 (stages_of r) j again in
        let done_before : list_any is_attempt r.log && same_kind (stage_at (stages_of r) j).kind StageKind.Start && is_done r.log j ≡ true = and_left _ _ (and_left _ _ passes) in
        let done : is_done r.log j ≡ true = and_right (list_any is_attempt r.log && same_kind (stage_at (stages_of r) j).kind StageKind.Start) _ done_before in
        let kind : same_kind (stage_at (stages_of r) j).kind StageKind.Start ≡ true = and_right (list_any is_attempt r.log) _ (and_left _ _ done_before) in
        record {
          gone = gone;
          filled = (λ i a b. inr (filled_at j i (visits r.log) (visits r.log) s.filled (visited j (visits r.log) done) a b), filled_more (begun_visit j []) (visits r.log) (visits r.log) s.filled);
          ahead = (λ not_start. absurd (not_start (kind-same _ StageKind.Start kind)), s.ahead);
        }
    go (inr least) =
        let (above, undone) = least_passes (λ k stage. not (is_done r.log k)) 1 (stages_of r) j least in
        let none : Visits_at j (visits r.log) → ⊥ = λ some. let done : is_done r.log j ≡ true = done_if_visited j (visits r.log) all_done some in let wrong : true ≡ false = sym done ∙ not-true _ undone in cc in
        record {
          gone = gone;
          filled = (λ i a b. inr (visited i (visits r.log) (not-false _ (least_fails (λ k stage. not (is_done r.log k)) 1 (stages_of r) j least i a b))), filled_more (begun_visit j []) (visits r.log) (visits r.log) s.filled);
          ahead = (λ not_start. all_below j (visits r.log) (visits r.log) above none s.filled (λ k x. x), s.ahead);
        }

filled_mark : (vs : List Visit) → IsFilled vs vs → IsFilled (mark_done vs) (mark_done vs)
filled_mark [] h = h
filled_mark (v ∷ vs) h = h

ahead_mark : (stages : List Stage) (vs : List Visit) → IsAhead stages vs → IsAhead stages (mark_done vs)
ahead_mark stages [] h = h
ahead_mark stages (v ∷ vs) h = h

filled_excuse : (m : ℕ) (vs : List Visit) → IsFilled vs vs → IsFilled (excuse m vs) (excuse m vs)
filled_excuse m [] h = h
filled_excuse m (v ∷ vs) h = h

ahead_excuse : (stages : List Stage) (m : ℕ) (vs : List Visit) → IsAhead stages vs → IsAhead stages (excuse m vs)
ahead_excuse stages m [] h = h
ahead_excuse stages m (v ∷ vs) h = h

sequence-record : (setting : Setting) (runs : List Run) (r : Run) (item : Record) → MayCome setting runs item → run_at (run_named item) runs ≡ Some r → IsInSequence r → IsInSequence (with_record r item)
sequence-record setting runs r item may at_n s = go item may at_n (gone-record setting runs r item may at_n s.gone)
  where
    go : (item : Record) → MayCome setting runs item → run_at (run_named item) runs ≡ Some r → IsGoneThrough (with_record r item) → IsInSequence (with_record r item)
    go (Record.Estate bytes) may at_n gone = elim may [ ]
    go (Record.Begin n j) may at_n gone = sequence-begin runs r n j (rw at_n at may).1 s gone
    go (Record.Done n j) may at_n gone = record { gone = gone; filled = filled_mark (visits r.log) s.filled; ahead = ahead_mark (stages_of r) (visits r.log) s.ahead }
    go (Record.Skip n j m) may at_n gone = record { gone = gone; filled = filled_excuse m (visits r.log) s.filled; ahead = ahead_excuse (stages_of r) m (visits r.log) s.ahead }
    go (Record.Aside n m by) may at_n gone = record { gone = gone; filled = filled_excuse m (visits r.log) s.filled; ahead = ahead_excuse (stages_of r) m (visits r.log) s.ahead }
    go (Record.Start row) may at_n gone = record { gone = gone; filled = s.filled; ahead = s.ahead }
    go (Record.Attempt n moment) may at_n gone = record { gone = gone; filled = s.filled; ahead = s.ahead }
    go (Record.Answer n step text) may at_n gone = record { gone = gone; filled = s.filled; ahead = s.ahead }
    go (Record.Code n token m code) may at_n gone = record { gone = gone; filled = s.filled; ahead = s.ahead }
    go (Record.Finish n moment ms) may at_n gone = record { gone = gone; filled = s.filled; ahead = s.ahead }

-- Each run of a lawful journal goes through its stages in order.
pub sequence-lawful : (setting : Setting) (records : List Record) → LawfulAfter setting [] records → Each IsInSequence (fold (add_record setting) [] records)
sequence-lawful setting records lawful =
    each-lawful setting IsInSequence
    (λ r n s. record { gone = record { before = s.gone.before; none_excused = s.gone.none_excused }; filled = s.filled; ahead = s.ahead })
    (λ runs row plan may. record { gone = record { before = tt; none_excused = λ ne. tt }; filled = tt; ahead = tt })
    (sequence-record setting) [] records lawful tt tt
