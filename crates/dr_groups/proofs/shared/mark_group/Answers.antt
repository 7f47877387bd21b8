use Rattle.std.proofs.Common.{◌∙◌, inl, inr}
use Rattle.dr_groups.proofs.SharedLaws.{seen_more, shared_more}
use Rattle.dr_groups.proofs.shared.mark_group.Goals as goal

pub returns : goal.returns
returns c =
    let e = c.args.estate.now in
    let i = c.args.group in
    let named = c.datastores_of-datastores.ensures.named in
    let before = c.requires.before in
    record {
      one_seen = c.mark_all.auto.marks ∙ before.one_seen;
      one_shared = c.mark_again.auto.marks ∙ before.one_shared;
      in_one = seen_more e i c.args.seen.now c.mark_all.new.marks before.in_one (λ d has. c.mark_all.ensures.marked d ((named d).1 has)) c.mark_all.ensures.kept
          (λ d marked. elim (c.mark_all.ensures.no_others d marked) [ inl was ↦ inl was | inr listed ↦ inr ((named d).0 listed) ]);
      in_two = shared_more e i c.args.seen.now c.args.shared.now c.mark_again.new.marks before.in_one before.in_two (λ d has seen. c.mark_again.ensures.marked d ((named d).1 has) seen) c.mark_again.ensures.kept
          (λ d marked. elim (c.mark_again.ensures.no_others d marked) [ inl was ↦ inl was | inr both ↦ inr ((named d).0 both.0, both.1) ]);
    }
