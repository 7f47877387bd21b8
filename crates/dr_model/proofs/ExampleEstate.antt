-- A small estate, its groups, worlds and runs, for the examples of change and damage.
use Rattle.std.specs.Prelude.{◌≡◌, ℕ, zero, suc, true, false, List, [], ◌∷◌, Contains, Option, Some, None}
use Rattle.std.proofs.Common.{refl, sym, ap, ◌∙◌, subst, arith}
use Rattle.dr_inventory.specs.declared.estate.Machine.{Machine}
use Rattle.dr_inventory.specs.declared.estate.Datastore.{Datastore}
use Rattle.dr_groups.specs.Links.{HasDevice}
use Rattle.dr_groups.specs.Groups.{IsInGroup, IsPairOf, IsMachineOf}
use Rattle.dr_meaning.specs.Types.{Callout, Side, Op, Estate, GroupRow, Plan, Placed, Post, Sides, Link, Pair, Kept, StartRow, Record}
use Rattle.dr_meaning.specs.Worlds.{World}
use Rattle.dr_meaning.specs.Runs.{Setting}

-- The estate and its plans -------------------------------------------------------------------------------------

abbrev pub machine_on : ℕ → Machine
machine_on datastore = record { name = 109 ∷ datastore ∷ []; network = 110 ∷ []; folder = []; pool = 112 ∷ []; datastores = datastore ∷ [] }

abbrev pub datastore_of : ℕ → Datastore
datastore_of device = record { name = 100 ∷ device ∷ []; devices = device ∷ [] }

abbrev pub group_of : ℕ → GroupRow
group_of datastore = record { name = 103 ∷ datastore ∷ []; protects = Side.A; datastores = datastore ∷ [] }

abbrev pub estate : Estate
estate =
    record {
      machines = machine_on 0 ∷ machine_on 1 ∷ [];
      datastores = datastore_of 0 ∷ datastore_of 1 ∷ [];
      devices = (118 ∷ []) ∷ (119 ∷ []) ∷ [];
      consistency = 0 ∷ 1 ∷ [];
      groups = group_of 0 ∷ group_of 1 ∷ [];
      maps = [];
      plans = [];
    }

-- one command of a machine, behind its power-on
abbrev pub commands : List (Option (List ℕ))
commands = None ∷ None ∷ Some (99 ∷ []) ∷ None ∷ []

-- a plan of one machine, and of one step before it
abbrev pub plan_of : ℕ → Plan
plan_of group =
    record {
      name = 112 ∷ group ∷ [];
      groups = group ∷ [];
      pairs = group ∷ [];
      machines = record { machine = group; priority = 3; depth = 0; after = []; commands = commands } ∷ [];
      steps = record { before = 3; what = Callout.Command (120 ∷ []) } ∷ [];
      wave_count = 1;
    }

abbrev pub setting : Setting
setting = record { estate = estate; plans = plan_of 0 ∷ plan_of 1 ∷ [] }

-- a Start of the first group's plan
abbrev pub row_of : (run : ℕ) → Op → (over old_writes new_writes : ℕ) → StartRow
row_of run op over old_writes new_writes =
    record {
      run = run;
      op = op;
      forced = false;
      plan = 0;
      over = over;
      moment = 1000;
      id = 116 ∷ run ∷ [];
      groups = 0 ∷ [];
      pairs = record { pair = 0; seen = true; old_writes = old_writes; new_writes = new_writes } ∷ [];
    }

abbrev pub started : (run : ℕ) → Op → (over new_writes : ℕ) → Record
started run op over new_writes = Record.Start (row_of run op over 100 new_writes)

abbrev pub walked : ℕ → List ℕ → List Record
walked run [] = []
walked run (stage ∷ rest) = Record.Begin run stage ∷ Record.Done run stage ∷ walked run rest

-- a run from its Start to its Finish
abbrev pub finished : (run : ℕ) → Op → (new_writes : ℕ) → List Record
finished run op new_writes = started run op 0 new_writes ∷ Record.Finish run 1001 [] ∷ []

-- Which group has what ---------------------------------------------------------------------------------------------

pub is_one : (d x : ℕ) → Contains (d ∷ []) x → d ≡ x
is_one d x (zero, below, e) = e
is_one d x (suc k, below, e) = absurd (omega arith)

abbrev pub stores_of_group : Option GroupRow → List ℕ
stores_of_group None = []
stores_of_group (Some row) = row.datastores

abbrev pub devices_of : Option Datastore → List ℕ
devices_of None = []
devices_of (Some row) = row.devices

abbrev pub stores_of_machine : Option Machine → List ℕ
stores_of_machine None = []
stores_of_machine (Some row) = row.datastores

pub group_has : (g d : ℕ) → IsInGroup estate g d → g ≡ d
group_has zero d it = is_one 0 d (subst (λ l. Contains l d) (sym (ap stores_of_group it.found)) it.named)
group_has (suc zero) d it = is_one 1 d (subst (λ l. Contains l d) (sym (ap stores_of_group it.found)) it.named)
group_has (suc (suc g)) d it = absurd (let none : None ≡ Some it.row = it.found in cc)

pub device_has : (d p : ℕ) → HasDevice estate d p → d ≡ p
device_has zero p it = is_one 0 p (subst (λ l. Contains l p) (sym (ap devices_of it.found)) it.named)
device_has (suc zero) p it = is_one 1 p (subst (λ l. Contains l p) (sym (ap devices_of it.found)) it.named)
device_has (suc (suc d)) p it = absurd (let none : None ≡ Some it.row = it.found in cc)

pub pair_has : (g p : ℕ) → IsPairOf estate g p → g ≡ p
pair_has g p it = group_has g it.datastore it.in_group ∙ device_has it.datastore p it.named

pub machine_has : (g m : ℕ) → IsMachineOf estate g m → g ≡ m
machine_has g zero it = group_has g 0 (it.within 0 (subst (λ l. Contains l 0) (ap stores_of_machine it.found) (0, omega arith, refl)))
machine_has g (suc zero) it = group_has g 1 (it.within 1 (subst (λ l. Contains l 1) (ap stores_of_machine it.found) (0, omega arith, refl)))
machine_has g (suc (suc m)) it = absurd (let none : None ≡ Some it.row = it.found in cc)

pub in_first : IsInGroup estate 0 0
in_first = record { row = group_of 0; found = refl; named = (0, omega arith, refl) }

pub first_pair : IsPairOf estate 0 0
first_pair = record { datastore = 0; in_group = in_first; named = record { row = datastore_of 0; found = refl; named = (0, omega arith, refl) } }

pub first_machine : IsMachineOf estate 0 0
first_machine = record { row = machine_on 0; found = refl; on_some = omega arith; within = λ d listed. subst (λ x. IsInGroup estate 0 x) (is_one 0 d listed) in_first }

-- Worlds ---------------------------------------------------------------------------------------------------------------

abbrev pub live : (writes behind : ℕ) → Pair
live writes behind =
    record {
      source = Side.A;
      link = Link.Live;
      writable = record { a = true; b = false };
      content = record { a = record { line = 0; base = 0; writes = writes }; b = record { line = 0; base = 0; writes = behind } };
      snapshot = None;
    }

abbrev pub split : Pair
split = record (live 100 95) { link = Link.Split }

abbrev pub frozen : Pair
frozen = record (live 100 95) { writable = record { a = false; b = false } }

abbrev pub placed : Placed
placed = record { place = record { network = 110 ∷ []; folder = []; pool = 112 ∷ [] }; bubble = false }

abbrev pub world_of : (ℕ → Pair) → (ℕ → Sides Post) → (ℕ → List Kept) → World
world_of pair post kept = record { pair_count = 2; machine_count = 2; pair = pair; post = post; kept = kept; runner = [] }

abbrev pub serving : Sides Post
serving = record { a = Post.Ready placed; b = Post.Placeholder }

abbrev pub stopped : Sides Post
stopped = record { a = Post.Off placed; b = Post.Placeholder }

abbrev pub quiet : (writes behind : ℕ) → World
quiet writes behind = world_of (λ p. live writes behind) (λ m. serving) (λ m. [])
