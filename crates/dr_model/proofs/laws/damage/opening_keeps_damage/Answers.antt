use Rattle.std.proofs.Common.{sym}
use Rattle.dr_model.proofs.DamageLaws.{same_damage, opened_damage}
use Rattle.dr_model.proofs.laws.damage.opening_keeps_damage.Goals as goal

pub returns-clause-file : goal.returns-clause-file
returns-clause-file g c = λ place old new same. (same_damage place old new same, same_damage place new old (sym same))

pub returns-clause-images : goal.returns-clause-images
returns-clause-images g c = λ place file. opened_damage place file (g.D.Disk.images c.args.before.now) (g.D.Disk.images c.args.after.now)
