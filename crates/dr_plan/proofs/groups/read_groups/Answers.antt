use Rattle.std.proofs.Common.{◌≡◌, ◌∙◌, ℕ, List, [], length, sym, ap, arith}
use Rattle.std.proofs.lemmas.List.{length-map}
use Rattle.dr_inventory.specs.declared.estate.GroupRow.{GroupRow}
use Rattle.dr_plan.specs.Faults.{unknown_groups}
use Rattle.dr_plan.proofs.FirstLaws.{unknown_group_told, groups_known, group_twice_told, groups_once}
use Rattle.dr_plan.proofs.LookupLaws.{places_fit}
use Rattle.dr_plan.proofs.groups.read_groups.Goals.{In_default}
use Rattle.dr_plan.proofs.groups.read_groups.Goals as goal

-- each group that the row names is declared
known : (c : In_default) → unknown_groups c.args.estate.now c.args.row.now ≡ []
known c =
    groups_known c.args.estate.now c.deref.result.now c.as_slice.result.now c.args.row.now c.in_ok-places.places c.in_ok-places.ensures (c.deref.ensures.value ∙ c.in_ok-names.ensures) c.as_slice.ensures c.in_default.ensures

pub returns-in-Some-clause-stops : goal.returns-in-Some-clause-stops
returns-in-Some-clause-stops c = λ members.
    unknown_group_told c.args.estate.now members c.deref.result.now c.as_slice.result.now c.args.row.now c.in_ok-places.places c.in-Some.name c.in_ok-places.ensures (c.deref.ensures.value ∙ c.in_ok-names.ensures) c.as_slice.ensures c.in-Some.ensures

pub returns-in-Some-2-clause-stops : goal.returns-in-Some-2-clause-stops
returns-in-Some-2-clause-stops c = λ members.
    group_twice_told c.args.estate.now members c.as_slice-2.result.now c.args.row.now c.in-Some-2.name
    (known (goal.at.returns-in-Some-2-clause-stops c).In_default)
    c.as_slice-2.ensures (sym c.in-Some-2.is ∙ c.in_ok-name.ensures)

pub numbers_of-requires : goal.numbers_of-requires
numbers_of-requires c =
    let name : GroupRow → List ℕ = λ g. g.name in
    places_fit c.deref.result.now c.in_ok-places.places c.in_ok-places.ensures
    (let long : length c.deref.result.now ≡ length c.args.estate.now.groups = ap length (c.deref.ensures.value ∙ c.in_ok-names.ensures) ∙ length-map c.args.estate.now.groups name in
    omega (arith, long, c.requires.limits.groups))

pub returns-clause-right : goal.returns-clause-right
returns-clause-right c = record {
  known = known (goal.at.returns-clause-right c).In_default;
  once = groups_once c.as_slice-2.result.now c.args.row.now c.as_slice-2.ensures (sym c.in_default-2.is ∙ c.in_ok-name.ensures);
}
