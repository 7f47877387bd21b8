-- The texts of reports.
use Rattle.std.specs.Prelude.{ℕ, ◌+◌, ◌≡◌, ◌<◌, ◌==◌, if◌then◌else◌, List, [], ◌∷◌, ◌++◌, length, map, filter, find, flat_map, slice_index, slice_index_or, codes, decimal, Option, Some, None, unwrap_or, All}
use Rattle.std.specs.List.{range_with_len, enumerate_from, list_any}
use Rattle.std.specs.Option.{option_map}
use Rattle.dr_base.specs.declared.placement.Callout.{Callout}
use Rattle.dr_base.specs.declared.placement.Callout.TheVariants.{Command, Prompt}
use Rattle.dr_inventory.specs.declared.estate.GroupRow.{GroupRow}
use Rattle.dr_inventory.specs.declared.estate.Estate.{Estate}
use Rattle.dr_groups.specs.Links.{AreLabels}
use Rattle.dr_plan.specs.declared.plan.Step.{Step}
use Rattle.dr_plan.specs.declared.plan.Wave.{Wave}
use Rattle.dr_plan.specs.declared.plan.Plan.{Plan}
use Rattle.dr_plan.specs.Waves.{priorities, waves_of}
use Rattle.dr_report.specs.Lines.{told}
use Rattle.dr_report.specs.Texts.{name_at, machine_names, datastore_names}
use Rattle.dr_report.specs.Conditions.{IsNumberOf}

-- the name of the first of these protection groups that names this datastore
abbrev pub first_group : List GroupRow → ℕ → Option (List ℕ)
first_group groups datastore = option_map (λ group. group.name) (find (λ group. list_any (λ own. own == datastore) group.datastores) groups)

-- for each datastore the name of the first protection group that names it
pub record AreOwners (estate : Estate) (owners : List (Option (List ℕ))) : Type 0 where
  pub one_each : length owners ≡ length estate.datastores
  pub first : (k : ℕ) → k < length estate.datastores → slice_index_or owners k None ≡ first_group estate.groups k

-- the line of a datastore: the least datastore of its datastore group is its label
abbrev pub datastore_text : Estate → List ℕ → ℕ → List ℕ
datastore_text estate labels datastore = told (codes "datastore") (name_at (datastore_names (Some estate)) datastore ∷ codes "group" ∷ name_at (datastore_names (Some estate)) (slice_index labels datastore) ∷ codes "in" ∷ unwrap_or (first_group estate.groups datastore) (codes "-") ∷ [])

-- a line for each datastore, where these are the labels
abbrev pub groups_text_of : Estate → List ℕ → List ℕ
groups_text_of estate labels = flat_map (datastore_text estate labels) (range_with_len 0 (length estate.datastores))

-- the text tells each datastore with its label
pub record TellsGroups (estate : Estate) (text : List ℕ) : Type 0 where
  pub labels : List ℕ
  pub are_labels : AreLabels estate labels
  pub exact : text ≡ groups_text_of estate labels

-- the line of a step that has this number
abbrev pub step_text : ℕ → ℕ → Callout → List ℕ
step_text before number (Command name) = told (codes "priority") (decimal before ∷ codes "command" ∷ decimal number ∷ name ∷ [])
step_text before number (Prompt text) = told (codes "priority") (decimal before ∷ codes "prompt" ∷ decimal number ∷ text ∷ [])

-- the lines of the steps before this priority, where the first step has this number
abbrev pub steps_text : ℕ → ℕ → List Step → List ℕ
steps_text priority number [] = []
steps_text priority number (step ∷ steps) = (if step.before == priority then step_text priority number step.what else []) ++ steps_text priority (number + 1) steps

-- the line of a wave
abbrev pub wave_text : Estate → Wave → List ℕ
wave_text estate wave = told (codes "priority") (decimal wave.priority ∷ codes "depth" ∷ decimal wave.depth ∷ map (name_at (machine_names (Some estate))) wave.machines)

-- the lines of the waves of this priority, in their order
abbrev pub waves_text : Estate → ℕ → List Wave → List ℕ
waves_text estate priority waves = flat_map (wave_text estate) (filter (λ wave. wave.priority == priority) waves)

-- the order of start-up: for each priority the steps before it, then its waves
abbrev pub stages_text : Estate → List Step → List Wave → List ℕ
stages_text estate steps waves = flat_map (λ priority. steps_text priority 1 steps ++ waves_text estate priority waves) priorities

-- the order of start-up of a plan
abbrev pub preview_text_of : Estate → Plan → List ℕ
preview_text_of estate plan = stages_text estate plan.steps (waves_of plan)

-- the wave's machines are the estate's
abbrev pub IsWaveOf : Estate → Wave → Type 0
IsWaveOf estate wave = All (IsNumberOf (machine_names (Some estate))) wave.machines

-- the plan's machines are the estate's
abbrev pub HoldsMachinesOf : Estate → Plan → Type 0
HoldsMachinesOf estate plan = All (λ m. IsNumberOf (machine_names (Some estate)) m.machine) plan.machines
