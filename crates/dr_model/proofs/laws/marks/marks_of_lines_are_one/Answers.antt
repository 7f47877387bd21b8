use Rattle.dr_model.proofs.MarkLaws.{nothing_kept, marks_both, marks_last}
use Rattle.dr_model.proofs.laws.marks.marks_of_lines_are_one.Goals as goal

pub returns-clause-row : goal.returns-clause-row
returns-clause-row g c = λ old middle new added more old_count middle_count new_count before lines next rest s t count_first count_second m n.
    marks_both (g.D.Disk.images c.args.entry.now) (g.D.Disk.images c.args.between.now) (g.D.Disk.images c.args.exit.now) old middle new added more s t old_count middle_count new_count count_first count_second before lines next rest m n

pub returns-clause-last : goal.returns-clause-last
returns-clause-last g c = marks_last (g.D.Disk.images c.args.entry.now) (g.D.Disk.images c.args.exit.now)

pub returns-clause-first : goal.returns-clause-first
returns-clause-first g c = nothing_kept (g.D.Disk.images c.args.entry.now)
