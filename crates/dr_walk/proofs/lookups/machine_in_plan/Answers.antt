use Rattle.std.specs.Prelude.{◌<◌, length}
use Rattle.std.proofs.Common.{sym, rules}
use Rattle.std.proofs.lemmas.List.Sorted.{answers_always}
use Rattle.dr_walk.proofs.SearchLaws.{find_fails, none_found, found_told}
use Rattle.dr_walk.proofs.lookups.machine_in_plan.Goals as goal

pub returns-in-Ok : goal.returns-in-Ok
returns-in-Ok c = λ up.
    let same = c.as_slice-machines.ensures in
    let within : c.in-Ok.i < length c.args.plan.now.machines = rw same at c.in-Ok.ensures.bound in
    found_told (λ m. m.machine) c.args.machine c.args.plan.now.machines up c.in-Ok.i c.get.result within
    (let found = c.in-Ok.ensures.position (λ m. m.machine) (answers_always _ _ _ (λ f a r q k. search rules)) in rw same at found)
    (let first = c.get.ensures.lookup.1 in rw same at first) (let is = c.get.ensures.lookup.3 in rw same at is)

pub returns-in-Err : goal.returns-in-Err
returns-in-Err c = λ up.
    sym (find_fails (λ m. m.machine) c.args.machine c.args.plan.now.machines
    (none_found (λ m. m.machine) c.args.machine c.args.plan.now.machines c.in-Err.field-0 up (let none = c.in-Err.ensures.position (λ m. m.machine) (answers_always _ _ _ (λ f a r q k. search rules)) in rw c.as_slice-machines.ensures at none)))
