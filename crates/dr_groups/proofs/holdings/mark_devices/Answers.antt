use Rattle.std.proofs.Common.{get_or, inl, inr, arith}
use Rattle.std.proofs.lemmas.List.Elements.{Contains-get_or}
use Rattle.dr_groups.proofs.HoldingLaws.{devices_more, among_at}
use Rattle.dr_groups.proofs.holdings.mark_devices.Goals as goal

pub loop-datastore-preserved : goal.loop-datastore-preserved
loop-datastore-preserved c =
    let e = c.args.estate.now in
    let ds = c.args.datastores.now in
    let i = c.loop-datastore.datastore-index in
    record {
      marked = devices_more e ds i c.loop-datastore.marks c.mark_all.new.marks c.mark_all.ensures.kept c.loop-datastore.invariant.marked
          (λ v has. c.mark_all.ensures.marked v ((c.devices_of.ensures.named v).1 has));
      no_others = λ v marked. elim (c.mark_all.ensures.no_others v marked) [
        | inl before ↦ c.loop-datastore.invariant.no_others v before
        | inr named ↦ inr (record { datastore = get_or ds i 0; listed = Contains-get_or ds i 0 c.loop-datastore-test.true; named = (c.devices_of.ensures.named v).0 named })
      ];
    }

pub returns-clause-marked : goal.returns-clause-marked
returns-clause-marked c = λ v among.
    let at = among_at c.args.estate.now c.args.datastores.now v among in
    c.loop-datastore.invariant.marked at.0 (omega (arith, at.1)) v at.2
