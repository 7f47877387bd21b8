use Rattle.std.proofs.Common.{◌≡◌, ◌<◌, ◌∙◌, ℕ, length, get_or, sym, ap, subst, arith, List}
use Rattle.std.specs.List.{Contains}
use Rattle.std.proofs.lemmas.Option.{get_or_from_slice_get}
use Rattle.dr_inventory.specs.declared.estate.Machine.{Machine}
use Rattle.dr_groups.specs.Forests.{root}
use Rattle.dr_groups.proofs.TreeLaws.{joined-within, joined-together, joined-both, together-through, together_more}
use Rattle.dr_groups.proofs.RowLaws.{row_found, found_contained, machine_below, machine_linked, contained_read, contained_at}
use Rattle.dr_groups.proofs.labels.join_machine.Goals as goal

pub loop-datastore-preserved : goal.loop-datastore-preserved
loop-datastore-preserved c =
    let e = c.args.estate.now in
    let row = c.index-as_slice-machine.result in
    let same = c.as_slice-datastores.ensures ∙ ap (λ (r : Machine). r.datastores) (sym c.index-as_slice-machine.is) in
    let declared = found_contained e.machines c.args.machine row (row_found e.machines c.as_slice.result.now c.args.machine row c.as_slice.ensures c.requires.declared c.index-as_slice-machine.is) in
    let ds = c.as_slice-datastores.result.now in
    let i = c.loop-datastore.datastore-index in
    let some : 0 < length ds = omega arith in
    let first = contained_read ds row.datastores 0 same some in
    let this = contained_read ds row.datastores i same c.loop-datastore-test.true in
    let old = c.loop-datastore.parents in
    let new = c.join.new.parents in
    let before = c.loop-datastore.invariant in
    let a = get_or ds 0 0 in
    let b = get_or ds i 0 in
    let kept = joined-together old new a b c.join.ensures.joined in
    record {
      within = joined-within e old new a b before.within (machine_below e row a c.requires.sound declared first) (machine_below e row b c.requires.sound declared this)
          (machine_linked e row a b declared first this) c.join.auto.parents c.join.ensures.forest c.join.ensures.joined;
      kept = together-through c.args.parents.now old new before.kept kept;
      joined = together_more old new (λ k. get_or ds k 0) (λ k. get_or ds 0 0) i kept before.joined (sym (joined-both old new a b c.join.ensures.joined));
    }

pub returns-clause-joined : goal.returns-clause-joined
returns-clause-joined c = λ row found a b first second.
    let e = c.args.estate.now in
    let ds = c.as_slice-datastores.result.now in
    let ps = c.loop-datastore.parents in
    let rows : get_or c.as_slice.result.now c.args.machine c.index-as_slice-machine.result ≡ row = ap (λ (rs : List Machine). get_or rs c.args.machine c.index-as_slice-machine.result) c.as_slice.ensures
    ∙ get_or_from_slice_get e.machines c.args.machine row c.index-as_slice-machine.result found in
    let same = c.as_slice-datastores.ensures ∙ ap (λ (r : Machine). r.datastores) rows in
    let P : ℕ → List ℕ → Type 0 = λ x xs. Contains xs x in
    let at_a = contained_at ds a (subst (P a) (sym same) first) in
    let at_b = contained_at ds b (subst (P b) (sym same) second) in
    ap (root ps) (sym at_a.2) ∙ c.loop-datastore.invariant.joined at_a.0 (omega (arith, at_a.1))
    ∙ sym (c.loop-datastore.invariant.joined at_b.0 (omega (arith, at_b.1))) ∙ ap (root ps) at_b.2
