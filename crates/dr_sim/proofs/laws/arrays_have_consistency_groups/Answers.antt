use Rattle.dr_sim.proofs.Entries.{opening_has_groups, goes_with_groups}
use Rattle.dr_sim.proofs.laws.arrays_have_consistency_groups.Goals as goal

pub returns : goal.returns
returns c = record { opening = opening_has_groups; calls = goes_with_groups }
