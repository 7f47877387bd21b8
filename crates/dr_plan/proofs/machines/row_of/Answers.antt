use Rattle.std.proofs.Common.{◌∙◌, ◌<◌, length, get_or, sym, ap, arith, rules}
use Rattle.dr_plan.proofs.LookupLaws.{row_within, row_there, no_row}
use Rattle.dr_plan.proofs.machines.row_of.Goals as goal

pub offset_bounds-as_slice-place : goal.offset_bounds-as_slice-place
offset_bounds-as_slice-place c =
    let here : c.in-Some.place.now < length c.args.row.now.machine = row_within c.args.row.now c.args.places.now c.args.name.now c.in-Some.place.now c.requires (sym c.in-Some.ensures.value) in
    let within : c.in-Some.place.now < length c.as_slice.result.now = omega (arith, here, ap length c.as_slice.ensures) in
    search rules

pub bounds-as_slice-place : goal.bounds-as_slice-place
bounds-as_slice-place c =
    let here : c.in-Some.place.now < length c.args.row.now.machine = row_within c.args.row.now c.args.places.now c.args.name.now c.in-Some.place.now c.requires (sym c.in-Some.ensures.value) in
    omega (arith, here, ap length c.as_slice.ensures)

pub returns-in-Some : goal.returns-in-Some
returns-in-Some c =
    let x = c.index-as_slice-place.result in
    let k = c.in-Some.place.now in
    sym (row_there c.args.row.now c.args.places.now c.args.name.now k x c.requires (sym c.in-Some.ensures.value) (c.index-as_slice-place.is ∙ ap (λ xs. get_or xs k x) c.as_slice.ensures))

pub returns-in-None : goal.returns-in-None
returns-in-None c = sym (no_row c.args.row.now c.args.places.now c.args.name.now c.requires (sym c.in-None.ensures.value))
