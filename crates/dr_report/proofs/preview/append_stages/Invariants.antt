use Rattle.std.proofs.Common.{◌≡◌, ◌-◌, ◌++◌}
use Rattle.std.specs.List.{flat_map, range_with_len}
use Rattle.dr_report.specs.Reports.{stages_text, steps_text, waves_text}
use Rattle.dr_report.proofs.preview.append_stages.Given as goal

abbrev pub invariant-loop-priority : goal.invariant-loop-priority
invariant-loop-priority l = l.out.items ++ flat_map (λ priority. steps_text priority 1 l.steps ++ waves_text l.estate priority l.waves) (range_with_len l.priority (6 - l.priority)) ≡ l.initial.out.items ++ stages_text l.estate l.steps l.waves
