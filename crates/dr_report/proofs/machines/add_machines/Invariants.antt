use Rattle.std.proofs.Common.{◌≡◌, ◌≤◌, ◌++◌, map, take, vec_capacity}
use Rattle.std.specs.Option.{option_copied}
use Rattle.dr_report.specs.Lines.{spaced}
use Rattle.dr_report.specs.Texts.{machine_names, name_at}
use Rattle.dr_report.proofs.machines.add_machines.Given as goal

abbrev pub invariant-loop-machine : goal.invariant-loop-machine
invariant-loop-machine l = record {
  items : l.out.items ≡ l.initial.out.items ++ spaced (map (name_at (machine_names (option_copied l.estate))) (take l.machine-index l.machines));
  capacity : vec_capacity l.initial.out ≤ vec_capacity l.out;
}
