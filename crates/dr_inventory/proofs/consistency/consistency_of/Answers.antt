use Rattle.std.proofs.Common.{◌≡◌, ◌∙◌, ◌++◌, ◌∷◌, [], ◌^◌, map, take, unwrap_or, sym, ap, arith}
use Rattle.dr_inventory.specs.Places.{number_in}
use Rattle.dr_inventory.specs.Numbers.{consistency_of}
use Rattle.dr_inventory.proofs.LeastLaws.{least_in_small, default_small, mapped_more}
use Rattle.dr_inventory.proofs.consistency.consistency_of.Goals as goal

pub entry_of-requires-clause-least_fit : goal.entry_of-requires-clause-least_fit
entry_of-requires-clause-least_fit c = λ q.
    rw (c.in_ok-least_devices.ensures q) (least_in_small (number_in c.args.devices.now) (2 ^ 32) (omega arith) (λ n. default_small _ (c.requires n)) c.args.groups.now q)

pub loop-name-preserved : goal.loop-name-preserved
loop-name-preserved c =
    let f = number_in c.args.devices.now in
    let x = c.name-item.result in
    let value : c.entry_of.result ≡ consistency_of f c.args.groups.now x = c.entry_of.ensures ∙ ap (λ o. unwrap_or o (f x)) (c.in_ok-least_devices.ensures x) in
    c.in_ok-push.ensures.items
    ∙ ap (λ ns. ns ++ c.entry_of.result ∷ []) c.loop-name.invariant
    ∙ ap (λ n. map (consistency_of f c.args.groups.now) (take c.loop-name.name-index c.args.names.now) ++ n ∷ []) value
    ∙ sym (mapped_more (consistency_of f c.args.groups.now) c.args.names.now c.loop-name.name-index x c.loop-name-test.true c.name-item.is)
