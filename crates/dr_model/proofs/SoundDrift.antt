-- A sound journal and outside stay so when pairs drift.
use Rattle.std.specs.Prelude.{ℕ, List, option_map}
use Rattle.std.proofs.Common.{sym, ap, ◌∙◌, inl, inr}
use Rattle.dr_meaning.specs.Types.{Op, Pair, PlanMachine, Record}
use Rattle.dr_meaning.specs.Worlds.{World}
use Rattle.dr_outside.specs.Pairs.{Drift}
use Rattle.dr_meaning.specs.Runs.{Setting, Run, number, op}
use Rattle.dr_meaning.specs.InOrder.{IsServing, MayRun, InOrder}
use Rattle.dr_meaning.specs.Sound.{IsKept, IsSoundBy, IsSound}
use Rattle.dr_meaning.proofs.Lists.{Each, each-map}
use Rattle.dr_model.proofs.FitsDrift.{drift_fits}

abbrev pub with_pairs : World → (ℕ → Pair) → World
with_pairs world pairs = record world { pair = pairs }

module _ (world : World) (pairs : ℕ → Pair) (drifts : (k : ℕ) → Drift (world.pair k) (pairs k)) where
  serving_drift : (o : Op) (run k : ℕ) → IsServing o run (world.pair k) → IsServing o run (pairs k)
  serving_drift Op.Testing run k h = ap (option_map (λ s. s.run)) (drifts k).snapshot ∙ h
  serving_drift _ run k h = ap (λ f. f.link) (drifts k).frame ∙ h

  may_run_drift : (run : Run) (m : PlanMachine) → MayRun world run m → MayRun (with_pairs world pairs) run m
  may_run_drift run m h = record {
    dependencies = h.dependencies;
    priorities = h.priorities;
    commands = h.commands;
    steps = h.steps;
    serving = λ p on. serving_drift (op run) (number run) p (h.serving p on);
  }

  kept : (item : Record) → IsKept world item → IsKept (with_pairs world pairs) item
  kept (Record.Code run token machine code) h = h
  kept _ h = tt

  pub in_order_drift : (runs : List Run) → InOrder world runs → InOrder (with_pairs world pairs) runs
  in_order_drift runs h g run last all_last up = each-map _ _ (λ m f running. may_run_drift run m (f running)) run.plan.machines (h g run last all_last up)

  -- what these runs leave is left after a drift
  pub sound_drift : (setting : Setting) (runs : List Run) → IsSoundBy setting runs world → IsSoundBy setting runs (with_pairs world pairs)
  sound_drift setting runs h = record {
    pairs = λ g p of_group there. drift_fits (world.pair p) (pairs p) (drifts p) setting.estate runs g p (h.pairs g p of_group there);
    machines = h.machines;
    consistent = λ g p q p_of q_of p_there q_there same. (drifts p).frame ∙ h.consistent g p q p_of q_of p_there q_there same ∙ sym (drifts q).frame;
    codes = each-map (λ (run : Run). Each (IsKept world) run.log) (λ (run : Run). Each (IsKept (with_pairs world pairs)) run.log) (λ run c. each-map (IsKept world) (IsKept (with_pairs world pairs)) kept run.log c) runs h.codes;
    in_order = in_order_drift runs h.in_order;
  }

  -- a file that is sound with the outside stays so
  pub file_sound_drift : (file : List ℕ) → IsSound world file → IsSound (with_pairs world pairs) file
  file_sound_drift file (inl empty) = inl empty
  file_sound_drift file (inr s) = inr (record { setting = s.setting; runs = s.runs; tells = s.tells; sound = sound_drift s.setting s.runs s.sound })
