-- The tables of plans, of what they say of machines, and of their steps.
use Rattle.std.specs.Prelude.{ℕ, pos, List, [], ◌∷◌, codes, Option, Some, None}
use Rattle.toml.specs.Data.{Data, Members, get_member}
use Rattle.dr_base.specs.declared.estate_fault.EstateFault.TheVariants.{Key}
use Rattle.dr_base.specs.declared.placement.Callout.{Callout}
use Rattle.dr_base.specs.declared.placement.Callout.TheVariants.{Command, Prompt}
use Rattle.dr_inventory.specs.declared.estate.StepRow.{StepRow}
use Rattle.dr_inventory.specs.declared.estate.PlanMachineRow.{PlanMachineRow}
use Rattle.dr_inventory.specs.declared.estate.PlanRow.{PlanRow}
use Rattle.dr_inventory.specs.Part.{Part, found, wrong, ◌>>=◌}
use Rattle.dr_inventory.specs.Shapes.{a_name, a_text, a_number, no_name, below, a_row, list_of, required, optional, only}

-- what a plan says of a machine
unfoldable pub plan_machine : List ℕ → Members → Part PlanMachineRow
plan_machine path t = do
  name ← required a_name path t (codes "name")
  priority ← optional a_number (pos 3) path t (codes "priority")
  after ← optional (list_of 0 a_name) [] path t (codes "after")
  before ← optional (list_of 0 a_name) [] path t (codes "before")
  then_list ← optional (list_of 0 a_name) [] path t (codes "then")
  nothing_else ← only (codes "name" ∷ codes "priority" ∷ codes "after" ∷ codes "before" ∷ codes "then" ∷ []) path t
  found (record { name = name; priority = priority; after = after; before = before; then = then_list })

-- a command of this name
abbrev pub command_at : Part (List ℕ) → Part Callout
command_at p = do
  name ← p
  found (Command name)

-- a prompt of this text
abbrev pub prompt_at : Part (List ℕ) → Part Callout
prompt_at p = do
  text ← p
  found (Prompt text)

-- what a step calls, by what it has at the two keys
abbrev pub one_of : List ℕ → Option Data → Option Data → Part Callout
one_of path None None = wrong (Key (below path (codes "command"))) (Command no_name)
one_of path (Some c) None = command_at (a_name.read (below path (codes "command")) c)
one_of path None (Some p) = prompt_at (a_text.read (below path (codes "prompt")) p)
one_of path (Some c) (Some p) = wrong (Key (below path (codes "command"))) (Command no_name)

-- exactly one of a command and a prompt; none or both is a wrong key at the command
unfoldable pub callout : List ℕ → Members → Part Callout
callout path t = one_of path (get_member (codes "command") t) (get_member (codes "prompt") t)

-- a step of a plan
unfoldable pub step : List ℕ → Members → Part StepRow
step path t = do
  before ← required a_number path t (codes "before")
  what ← callout path t
  nothing_else ← only (codes "before" ∷ codes "command" ∷ codes "prompt" ∷ []) path t
  found (record { before = before; what = what })

-- what stands in for a row that is no table
abbrev pub no_plan_machine : PlanMachineRow
no_plan_machine = record { name = no_name; priority = pos 3; after = []; before = []; then = [] }

-- the same for a step
abbrev pub no_step : StepRow
no_step = record { before = pos 0; what = Command no_name }

-- a plan
unfoldable pub plan : List ℕ → Members → Part PlanRow
plan path t = do
  name ← required a_name path t (codes "name")
  groups ← required (list_of 1 a_name) path t (codes "groups")
  machine ← optional (list_of 0 (a_row plan_machine no_plan_machine)) [] path t (codes "machine")
  step ← optional (list_of 0 (a_row step no_step)) [] path t (codes "step")
  nothing_else ← only (codes "name" ∷ codes "groups" ∷ codes "machine" ∷ codes "step" ∷ []) path t
  found (record { name = name; groups = groups; machine = machine; step = step })

-- the same for a plan
abbrev pub no_plan : PlanRow
no_plan = record { name = no_name; groups = []; machine = []; step = [] }
