-- The whole document: the keys of its top, in order.
use Rattle.std.specs.Prelude.{[], ◌∷◌, codes}
use Rattle.toml.specs.Data.{Members}
use Rattle.dr_inventory.specs.declared.document.Document.{Document}
use Rattle.dr_inventory.specs.Part.{Part, found, ◌>>=◌}
use Rattle.dr_inventory.specs.Shapes.{a_form, a_row, list_of, required, optional, only}
use Rattle.dr_inventory.specs.Tables.{machine, no_machine, datastore, no_datastore, consistency, no_consistency, group, no_group}
use Rattle.dr_inventory.specs.Maps.{map_row, no_map}
use Rattle.dr_inventory.specs.Plans.{plan, no_plan}

-- the document of a table
unfoldable pub document : Members → Part Document
document t = do
  form ← required a_form [] t (codes "form")
  machines ← optional (list_of 0 (a_row machine no_machine)) [] [] t (codes "machine")
  datastores ← optional (list_of 0 (a_row datastore no_datastore)) [] [] t (codes "datastore")
  consistency ← optional (list_of 0 (a_row consistency no_consistency)) [] [] t (codes "consistency")
  groups ← optional (list_of 0 (a_row group no_group)) [] [] t (codes "group")
  maps ← optional (list_of 0 (a_row map_row no_map)) [] [] t (codes "map")
  plans ← optional (list_of 0 (a_row plan no_plan)) [] [] t (codes "plan")
  nothing_else ← only (codes "form" ∷ codes "machine" ∷ codes "datastore" ∷ codes "consistency" ∷ codes "group" ∷ codes "map" ∷ codes "plan" ∷ []) [] t
  found (record { machines = machines; datastores = datastores; consistency = consistency; groups = groups; maps = maps; plans = plans })
