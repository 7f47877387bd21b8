-- A journal and the outside agree.
use Rattle.std.specs.Prelude.{◌≡◌, ℕ, ◌<◌, ◌==◌, ◌⊎◌, List, [], Some, if◌then◌else◌}
use Rattle.std.specs.List.{AllByRecursion}
use Rattle.dr_groups.specs.Groups.{IsPairOf, IsMachineOf}
use Rattle.dr_groups.specs.Consistency.{SameConsistency}
use Rattle.dr_outside.specs.Pairs.{frame_of}
use Rattle.dr_outside.specs.Commands.{code_of}
use Rattle.dr_meaning.specs.Types.{Kept, Record}
use Rattle.dr_meaning.specs.Worlds.{World}
use Rattle.dr_meaning.specs.Visits.{all}
use Rattle.dr_meaning.specs.Runs.{Setting, Run}
use Rattle.dr_meaning.specs.Fits.{FitsPair, FitsMachine}
use Rattle.dr_meaning.specs.InOrder.{InOrder}
use Rattle.dr_meaning.specs.Journals.{HasRecords, Tells}

-- the codes that a machine keeps, or the runner for all
abbrev pub kept_by : World → ℕ → List Kept
kept_by world machine = if machine == all then world.runner else world.kept machine

-- the code that a record tells is kept where its command ran
abbrev pub IsKept : World → Record → Type 0
IsKept world (Record.Code run token machine code) = code_of (kept_by world machine) token ≡ Some code
IsKept world (Record.Estate bytes) = Unit {0}
IsKept world (Record.Start row) = Unit {0}
IsKept world (Record.Attempt run moment) = Unit {0}
IsKept world (Record.Begin run k) = Unit {0}
IsKept world (Record.Done run k) = Unit {0}
IsKept world (Record.Skip run k machine) = Unit {0}
IsKept world (Record.Aside run machine by) = Unit {0}
IsKept world (Record.Answer run step text) = Unit {0}
IsKept world (Record.Finish run moment machines) = Unit {0}

-- the outside is as these runs leave it
pub record IsSoundBy (setting : Setting) (runs : List Run) (world : World) : Type 0 where
  -- each pair and each machine of a protection group that the outside has fits
  pub pairs : (g p : ℕ) → IsPairOf setting.estate g p → p < world.pair_count → FitsPair setting.estate runs g p (world.pair p)
  pub machines : (g m : ℕ) → IsMachineOf setting.estate g m → m < world.machine_count → FitsMachine setting.estate runs g m (world.post m)
  -- in a protection group, pairs of one consistency group have equal frames
  pub consistent : (g p q : ℕ) → IsPairOf setting.estate g p → IsPairOf setting.estate g q → p < world.pair_count → q < world.pair_count →
      SameConsistency setting.estate p q → frame_of (world.pair p) ≡ frame_of (world.pair q)
  -- each code that was recorded is kept
  pub codes : AllByRecursion (λ run. AllByRecursion (IsKept world) run.log) runs
  -- machines were started in order
  pub in_order : InOrder world runs

-- a file and the outside agree, where the file has records
pub record IsSoundJournal (world : World) (file : List ℕ) : Type 0 where
  pub setting : Setting
  pub runs : List Run
  pub tells : Tells setting runs file
  pub sound : IsSoundBy setting runs world

-- a file is sound with the outside: of an empty journal nothing is said
abbrev pub IsSound : World → List ℕ → Type 0
IsSound world file = HasRecords [] file ⊎ IsSoundJournal world file

-- each image of a disk is sound with the outside
abbrev pub AreSound : (List ℕ → Type 0) → World → Type 0
AreSound images world = (file : List ℕ) → images file → IsSound world file
