-- Journal and outside stay sound when a lawful record is appended, where the outside is as the record says.
use Rattle.std.specs.Prelude.{◌≡◌, ℕ, true, false, List, [], ◌∷◌, ◌<◌, ◌==◌, Bool, Some, cond, map}
use Rattle.std.proofs.Common.{refl, ◌∙◌}
use Rattle.dr_meaning.specs.Types.{Record}
use Rattle.dr_meaning.specs.Worlds.{World}
use Rattle.dr_outside.specs.BySide.{at}
use Rattle.dr_outside.specs.Pairs.{frame_of}
use Rattle.dr_groups.specs.Groups.{IsPairOf, IsMachineOf}
use Rattle.dr_meaning.specs.Visits.{Visit, visits}
use Rattle.dr_meaning.specs.Runs.{Setting, Run, number, holds, is_open, last_of_group, run_at, run_named, take_in, add_record, runs_of}
use Rattle.dr_meaning.specs.Expected.{wanted}
use Rattle.dr_meaning.specs.Lawful.{MayCome, LawfulAfter}
use Rattle.dr_meaning.specs.Fits.{FitsPair, FitsMachine}
use Rattle.dr_meaning.specs.Sound.{IsKept, IsSoundBy}
use Rattle.dr_meaning.specs.Backing.{BacksPair, BacksPost, BacksDone}
use Rattle.dr_meaning.proofs.Lists.{Each}
use Rattle.dr_model.proofs.TableLaws.{table_falls}
use Rattle.dr_model.proofs.LogLaws.{IsGoneThrough, gone-lawful}
use Rattle.dr_model.proofs.ExcuseLaws.{ExcusesRightly, excuses-lawful}
use Rattle.dr_model.proofs.FinishLaws.{IsPlanned, lawful-finish_frame, lawful-finish_post}
use Rattle.dr_model.proofs.ReachLaws.{begun_visit, reach_frame-done, post_done}
use Rattle.dr_model.proofs.ChainLaws.{IsWellKept, kept-lawful, open_run}
use Rattle.dr_model.proofs.PostLaws.{empty_kept}
use Rattle.dr_model.proofs.NumberLaws.{IsQuiet, no_more-quiet, numbers-fewer, numbers-done}
use Rattle.dr_model.proofs.OrderLaws.{in_order-record}
use Rattle.dr_model.proofs.JournalLaws.{IsPlain, may_open, plain_frame, plain_post, frame-record, post-record}

-- what a lawful list of records keeps of its runs
pub well_of : (setting : Setting) (records : List Record) → LawfulAfter setting [] records → IsWellKept setting (runs_of setting records)
well_of setting records h = kept-lawful setting [] records h (empty_kept setting)

pub gone_of : (setting : Setting) (records : List Record) → LawfulAfter setting [] records → Each IsGoneThrough (runs_of setting records)
gone_of setting records h = gone-lawful setting [] records h tt tt

pub rightly_of : (setting : Setting) (records : List Record) → LawfulAfter setting [] records → Each ExcusesRightly (runs_of setting records)
rightly_of setting records h = excuses-lawful setting records h

module _ (setting : Setting) (records : List Record) (w : World) (lawful : LawfulAfter setting [] records) where
  abbrev pub runs : List Run
  runs = runs_of setting records

  -- one more kept record keeps all codes
  codes-more : (item : Record) → IsKept w item → (rs : List Run) → Each (λ (run : Run). Each (IsKept w) run.log) rs → Each (λ (run : Run). Each (IsKept w) run.log) (map (take_in item) rs)
  codes-more item kept [] h = tt
  codes-more item kept (r ∷ rs) h = (go (number r == run_named item), codes-more item kept rs h.1)
    where
      go : (b : Bool) → Each (IsKept w) (cond b (record r { log = item ∷ r.log }) r).log
      go true = (kept, h.0)
      go false = h.0

  -- a record of a run, where each pair and each machine still fits
  pub sound-record : (item : Record) → IsKept w item → ((g p : ℕ) → IsPairOf setting.estate g p → p < w.pair_count → FitsPair setting.estate runs g p (w.pair p) → FitsPair setting.estate (map (take_in item) runs) g p (w.pair p)) → ((g m : ℕ) → IsMachineOf setting.estate g m → m < w.machine_count → FitsMachine setting.estate runs g m (w.post m) → FitsMachine setting.estate (map (take_in item) runs) g m (w.post m)) → IsSoundBy setting runs w → IsSoundBy setting (map (take_in item) runs) w
  sound-record item kept pairs machines s = record {
    pairs = λ g p of_group there. pairs g p of_group there (s.pairs g p of_group there);
    machines = λ g m of_group there. machines g m of_group there (s.machines g m of_group there);
    consistent = s.consistent;
    codes = codes-more item kept runs s.codes;
    in_order = in_order-record w item runs (well_of setting records lawful).table s.in_order;
  }

  pub plain_adds : (item : Record) → IsPlain item → add_record setting runs item ≡ map (take_in item) runs
  plain_adds (Record.Attempt n moment) p = refl
  plain_adds (Record.Begin n stage) p = refl
  plain_adds (Record.Skip n stage m) p = refl
  plain_adds (Record.Aside n m by) p = refl
  plain_adds (Record.Answer n step text) p = refl
  plain_adds (Record.Code n token m code) p = refl
  plain_adds (Record.Estate bytes) p = elim p [ ]
  plain_adds (Record.Start row) p = elim p [ ]
  plain_adds (Record.Done n stage) p = elim p [ ]
  plain_adds (Record.Finish n moment ms) p = elim p [ ]

  plain_quiet : (item : Record) → IsPlain item → IsQuiet item
  plain_quiet (Record.Attempt n moment) p = tt
  plain_quiet (Record.Begin n stage) p = tt
  plain_quiet (Record.Skip n stage m) p = tt
  plain_quiet (Record.Aside n m by) p = tt
  plain_quiet (Record.Answer n step text) p = tt
  plain_quiet (Record.Code n token m code) p = tt
  plain_quiet (Record.Estate bytes) p = elim p [ ]
  plain_quiet (Record.Start row) p = elim p [ ]
  plain_quiet (Record.Done n stage) p = elim p [ ]
  plain_quiet (Record.Finish n moment ms) p = elim p [ ]

  -- Attempt, Begin, Skip, Aside, Answer, and a Code that is kept
  pub sound-plain : (item : Record) → IsPlain item → MayCome setting runs item → IsKept w item → IsSoundBy setting runs w → IsSoundBy setting (map (take_in item) runs) w
  sound-plain item plain may kept =
      let well = well_of setting records lawful in
      let (r, at_n, going) = may_open setting runs item plain may in
      sound-record item kept
      (λ g p of_group there h. record {
        frame = plain_frame setting runs well item plain may g (frame_of (w.pair p)) h.frame;
        numbers = numbers-fewer runs r item g p (w.pair p) (table_falls runs well.table) at_n (no_more-quiet r item (plain_quiet item plain)) h.numbers;
      })
      (λ g m of_group there h side. plain_post setting runs well item plain may g m side (at side (w.post m)) (h side))

  -- Done
  module _ (r : Run) (stage : ℕ) (at_n : run_at (number r) runs ≡ Some r) (going : is_open r ≡ true) (v : Visit) (earlier : List Visit) (shape : visits r.log ≡ v ∷ earlier) (undone : v.done ≡ false) where
    its_shape : visits r.log ≡ begun_visit v.stage v.excused ∷ earlier
    its_shape = shape ∙ (λ i. record { stage = v.stage; done = undone i; excused = v.excused } ∷ earlier)

    its_well : IsWellKept setting runs
    its_well = well_of setting records lawful

    done_pair : (g k : ℕ) → (last_of_group g runs ≡ Some r → BacksPair w r v k) → FitsPair setting.estate runs g k (w.pair k) → FitsPair setting.estate (map (take_in (Record.Done (number r) stage)) runs) g k (w.pair k)
    done_pair g k pays h = record {
      frame =
          frame-record setting runs its_well (Record.Done (number r) stage) refl r at_n going g (frame_of (w.pair k))
          (λ last x reach. reach_frame-done r (number r) v.stage v.excused earlier x (frame_of (w.pair k)) its_shape reach (pays last).made) h.frame;
      numbers = numbers-done runs r stage v earlier g k (w.pair k) (table_falls runs its_well.table) at_n shape (λ last. (pays last).shows) h.numbers;
    }

    done_machine : (g m : ℕ) → (last_of_group g runs ≡ Some r → BacksPost w r v g m) → FitsMachine setting.estate runs g m (w.post m) → FitsMachine setting.estate (map (take_in (Record.Done (number r) stage)) runs) g m (w.post m)
    done_machine g m pays h side =
        post-record setting runs its_well (Record.Done (number r) stage) refl r at_n going g m side (at side (w.post m))
        (λ last x reach. rw its_shape (post_done r m side (wanted g r m) v.stage v.excused earlier x (at side (w.post m)) (rw its_shape at reach) (pays last side))) (h side)

    pub sound-done : BacksDone setting runs w r v → IsSoundBy setting runs w → IsSoundBy setting (map (take_in (Record.Done (number r) stage)) runs) w
    sound-done pays =
        sound-record (Record.Done (number r) stage) tt
        (λ g k of_group there h. done_pair g k (pays.pairs g k of_group there) h)
        (λ g m of_group there h. done_machine g m (pays.machines g m of_group there) h)

  -- Finish, where the machines of the run's groups are those of its plan
  pub sound-finish : (n moment : ℕ) (ms : List ℕ) → MayCome setting runs (Record.Finish n moment ms) → ((g m : ℕ) → IsMachineOf setting.estate g m → (r : Run) → run_at n runs ≡ Some r → holds g r ≡ true → IsPlanned r m) → IsSoundBy setting runs w → IsSoundBy setting (map (take_in (Record.Finish n moment ms)) runs) w
  sound-finish n moment ms may planned =
      let table = (well_of setting records lawful).table in
      let gone = gone_of setting records lawful in
      let rightly = rightly_of setting records lawful in
      let (r, at_n, going) = open_run (run_at n runs) _ may in
      sound-record (Record.Finish n moment ms) tt
      (λ g k of_group there h. record {
        frame = lawful-finish_frame setting runs table gone rightly n moment ms may g (frame_of (w.pair k)) h.frame;
        numbers = numbers-fewer runs r (Record.Finish n moment ms) g k (w.pair k) (table_falls runs table) at_n (no_more-quiet r (Record.Finish n moment ms) tt) h.numbers;
      })
      (λ g m of_group there h side. lawful-finish_post setting runs table gone rightly n moment ms may g m side (at side (w.post m)) (planned g m of_group) (h side))
