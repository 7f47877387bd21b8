use Rattle.std.proofs.Common.{◌≡◌, ◌∙◌, true, map, string_bytes, sym, ap}
use Rattle.toml.specs.View.{table_view}
use Rattle.dr_inventory.specs.Shapes.{is_named, unnamed, below, shown}
use Rattle.dr_base.specs.declared.estate_fault.EstateFault.TheVariants.{Key}
use Rattle.std.proofs.Common.{Err}
use Rattle.dr_inventory.proofs.Keys.{keys_view, only_first, only_none, is_one, is_none}
use Rattle.dr_inventory.proofs.table_keys.no_others.Goals as goal

pub loop-key-init : goal.loop-key-init
loop-key-init c =
    let known = map (λ n. n.now) c.args.names.now in
    (tt, tt, ap (unnamed known) (ap (map string_bytes) (c.into_iter-key-iterator.ensures.into_iter_gives ∙ c.keys-key-items.ensures.rest) ∙ sym (keys_view c.args.table.now.entries)))

pub loop-key-preserved : goal.loop-key-preserved
loop-key-preserved c =
    let known = map (λ n. n.now) c.args.names.now in
    let k = string_bytes c.in-Some.key.now in
    let named : is_named known k ≡ true = rw c.as_str.ensures.value at (sym c.is_named.ensures ∙ c.if-not-is_named.false) in
    (tt, tt, sym (ap (λ ks. unnamed known (map string_bytes ks)) c.in-Some.ensures.steps ∙ is_one known k (map string_bytes c.next.new.self) named) ∙ c.loop-key.invariant.2)

pub returns-then-not-is_named : goal.returns-then-not-is_named
returns-then-not-is_named c =
    let known = map (λ n. n.now) c.args.names.now in
    let k = string_bytes c.in-Some.key.now in
    let other = rw c.as_str.ensures.value at (sym c.is_named.ensures ∙ c.if-not-is_named.true) in
    let first = sym c.loop-key.invariant.2 ∙ ap (λ ks. unnamed known (map string_bytes ks)) c.in-Some.ensures.steps ∙ is_none known k (map string_bytes c.next.new.self) other in
    only_first c.args.walk.strict known c.args.path.now (table_view c.args.table.now) k _ first
    ∙ ap (λ x. Err (Key x)) (sym (c.new.ensures ∙ c.in_ok-whole.ensures ∙ ap (below c.args.path.now) (c.deref.ensures.value ∙ c.in_ok-text.ensures ∙ ap shown c.as_bytes.ensures.value)))

pub returns : goal.returns
returns c =
    let known = map (λ n. n.now) c.args.names.now in
    only_none c.args.walk.strict known c.args.path.now (table_view c.args.table.now)
    (sym c.loop-key.invariant.2 ∙ ap (λ ks. unnamed known (map string_bytes ks)) c.in-None.ensures.steps.0)
