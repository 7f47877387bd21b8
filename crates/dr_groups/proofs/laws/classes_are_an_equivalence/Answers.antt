use Rattle.dr_groups.proofs.ChainLaws.{same_class-self, same_class-back, same_class-through}
use Rattle.dr_groups.proofs.laws.classes_are_an_equivalence.Goals as goal

pub returns : goal.returns
returns c = record { reflexive = same_class-self; symmetric = same_class-back; transitive = same_class-through }
