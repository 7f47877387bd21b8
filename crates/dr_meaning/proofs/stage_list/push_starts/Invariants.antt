use Rattle.std.proofs.Common.{◌≡◌, ◌++◌, map, take}
use Rattle.dr_meaning.specs.Types.{StageKind}
use Rattle.dr_meaning.specs.Stages.{wave_stage}
use Rattle.dr_meaning.specs.Waves.{of_priority}
use Rattle.dr_meaning.proofs.stage_list.push_starts.Given as goal

abbrev pub invariant-loop-wave : goal.invariant-loop-wave
invariant-loop-wave l = l.list.items ≡ l.initial.list.items ++ map (wave_stage StageKind.Start) (of_priority l.priority (take l.wave-index l.waves))
