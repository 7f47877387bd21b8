-- A run that is finished, or may be, has gone through its stages.
use Rattle.std.specs.Prelude.{◌≡◌, ℕ, ◌+◌, ◌<◌, ◌≤◌, ◌==◌, true, false, not, List, [], Some, None, IsTrue, length}
use Rattle.std.proofs.Common.{refl, sym, ◌∙◌, arith}
use Rattle.std.proofs.lemmas.Bool.{not-false}
use Rattle.dr_meaning.specs.Types.{Record}
use Rattle.dr_meaning.specs.Visits.{is_done}
use Rattle.dr_meaning.specs.Runs.{Setting, Run, stages_of, is_open, is_finished, run_at, run_named, with_record, runs_of}
use Rattle.dr_meaning.specs.Next.{least_undone, HasWalked}
use Rattle.dr_meaning.specs.Lawful.{MayFinish, MayCome, LawfulAfter}
use Rattle.dr_meaning.proofs.Lists.{each-find}
use Rattle.dr_model.proofs.LeastLaws.{none_passes}
use Rattle.dr_model.proofs.LogLaws.{IsGoneThrough, head_done, gone-record, gone-lawful, unfinished}
use Rattle.dr_model.proofs.JournalLaws.{GoesOn, still_going}
use Rattle.dr_model.proofs.EachRun.{each-lawful}

-- where no stage is undone, each is done
pub none_undone : (r : Run) → least_undone r ≡ None → (k : ℕ) → 1 ≤ k → k < 1 + length (stages_of r) → is_done r.log k ≡ true
none_undone r none k above within = not-false _ (none_passes (λ k stage. not (is_done r.log k)) 1 (stages_of r) none k above within)

-- a run that may be finished
pub finish_ends : (r : Run) (machines : List ℕ) → IsGoneThrough r → MayFinish r machines → HasWalked r
finish_ends r machines gone may = record {
  each = λ k above below. none_undone r may.all_done k above (omega (arith, below));
  all_done = head_done _ may.none_begun gone.before;
  none_begun = may.none_begun;
  none_excused = gone.none_excused;
}

pub may_finish_ends : (setting : Setting) (records : List Record) (n : ℕ) (r : Run) (machines : List ℕ) → LawfulAfter setting [] records → run_at n (runs_of setting records) ≡ Some r → MayFinish r machines → HasWalked r
may_finish_ends setting records n r machines lawful at_n = finish_ends r machines (each-find IsGoneThrough (λ q. q.start.run == n) (runs_of setting records) r (gone-lawful setting [] records lawful tt tt) at_n)

-- a finished run

record Ends (r : Run) : Type 0 where
  gone : IsGoneThrough r
  ends : is_finished r ≡ true → HasWalked r

logged : (r : Run) (n moment : ℕ) (machines : List ℕ) → HasWalked r → HasWalked (with_record r (Record.Finish n moment machines))
logged r n moment machines w = record { each = w.each; all_done = w.all_done; none_begun = w.none_begun; none_excused = w.none_excused }

ends-record : (setting : Setting) (runs : List Run) (r : Run) (item : Record) → MayCome setting runs item → run_at (run_named item) runs ≡ Some r → Ends r → Ends (with_record r item)
ends-record setting runs r item may at_n h = record { gone = gone-record setting runs r item may at_n h.gone; ends = go item may at_n }
  where
    goes : (item : Record) → GoesOn item → IsTrue (is_open r) → is_finished (with_record r item) ≡ true → HasWalked (with_record r item)
    goes item on going fin = absurd (let wrong : true ≡ false = sym fin ∙ still_going r item on (unfinished (is_finished r) (r.by == 0) going) in cc)

    go : (item : Record) → MayCome setting runs item → run_at (run_named item) runs ≡ Some r → is_finished (with_record r item) ≡ true → HasWalked (with_record r item)
    go (Record.Estate bytes) may at_n = elim may [ ]
    go (Record.Finish n moment ms) may at_n = λ fin. logged r n moment ms (finish_ends r ms h.gone (rw at_n at may).1)
    go (Record.Start row) may at_n = λ fin. let w = h.ends fin in record { each = w.each; all_done = w.all_done; none_begun = w.none_begun; none_excused = w.none_excused }
    go (Record.Attempt n moment) may at_n = goes (Record.Attempt n moment) refl (rw at_n at may).0
    go (Record.Begin n j) may at_n = goes (Record.Begin n j) refl (rw at_n at may).0
    go (Record.Done n j) may at_n = goes (Record.Done n j) refl (rw at_n at may).0
    go (Record.Skip n j m) may at_n = goes (Record.Skip n j m) refl (rw at_n at may).0
    go (Record.Aside n m by) may at_n = goes (Record.Aside n m by) refl (rw at_n at may).0
    go (Record.Answer n step text) may at_n = goes (Record.Answer n step text) refl (rw at_n at may).0
    go (Record.Code n token m code) may at_n = goes (Record.Code n token m code) refl (rw at_n at may).0

pub finished_ends : (setting : Setting) (records : List Record) (n : ℕ) (r : Run) → LawfulAfter setting [] records → run_at n (runs_of setting records) ≡ Some r → is_finished r ≡ true → HasWalked r
finished_ends setting records n r lawful at_n =
    (each-find Ends (λ q. q.start.run == n) (runs_of setting records) r
    (each-lawful setting Ends
    (λ r n h. record { gone = record { before = h.gone.before; none_excused = h.gone.none_excused }; ends = λ fin. let w = h.ends fin in record { each = w.each; all_done = w.all_done; none_begun = w.none_begun; none_excused = w.none_excused } })
    (λ runs row plan may. record { gone = record { before = tt; none_excused = λ ne. tt }; ends = λ fin. absurd cc })
    (ends-record setting) [] records lawful tt tt) at_n).ends
