use Rattle.std.proofs.Common.{◌≡◌, ◌++◌, ◌-◌, length, map, reverse, drop}
use Rattle.dr_meaning.specs.Stages.{wave_stage}
use Rattle.dr_meaning.proofs.stage_list.push_wind_down.Given as goal

abbrev pub invariant-loop-i : goal.invariant-loop-i
invariant-loop-i l = l.list.items ≡ l.initial.list.items ++ reverse (map (wave_stage l.kind) (drop (length l.waves - l.i) l.waves))
