use Rattle.std.proofs.Common.{◌∙◌, ℕ, List, subst}
use Rattle.dr_groups.specs.Trees.{AreLeaders}
use Rattle.dr_groups.proofs.RowLaws.{written_back}
use Rattle.dr_groups.proofs.leaders.leaders_of.Goals as goal

pub returns : goal.returns
returns c =
    let P : List ℕ → Type 0 = λ xs. AreLeaders c.args.estate.now xs in
    subst P (written_back _ c.lead_all.new.leaders c.in_ok-leaders.leaders.items (c.lead_all.auto.leaders ∙ c.deref_mut.ensures.len)) c.lead_all.ensures
