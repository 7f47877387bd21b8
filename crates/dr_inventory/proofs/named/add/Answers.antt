use Rattle.std.proofs.Common.{◌∙◌, ap, is_eq, ◌||◌}
use Rattle.std.specs.Ordering.{nat_cmp}
use Rattle.std.specs.Cmp.Lexicographic.{slice_cmp, nat_list_eq_equiv}
use Rattle.std.specs.BTreeSet.{contains}
use Rattle.std.proofs.lemmas.Map.Text.{is_eq-slice_cmp}
use Rattle.dr_inventory.proofs.TwiceLaws.{or_cond}
use Rattle.dr_inventory.proofs.named.add.Goals as goal

pub returns-clause-added : goal.returns-clause-added
returns-clause-added c = λ q. c.in_ok-insert.ensures.updates.0 q ∙ or_cond (is_eq (slice_cmp nat_cmp c.args.name q)) (contains (slice_cmp nat_cmp) c.args.names.now q)
    ∙ ap (λ b. b || contains (slice_cmp nat_cmp) c.args.names.now q) (is_eq-slice_cmp c.args.name q ∙ nat_list_eq_equiv.symm c.args.name q)
