use Rattle.std.proofs.Common.{◌≡◌, ◌++◌, drop}
use Rattle.dr_report.specs.Reports.{waves_text}
use Rattle.dr_report.proofs.preview.append_waves.Given as goal

abbrev pub invariant-loop-wave : goal.invariant-loop-wave
invariant-loop-wave l = l.out.items ++ waves_text l.estate l.priority (drop l.wave-index l.waves) ≡ l.initial.out.items ++ waves_text l.estate l.priority l.waves
