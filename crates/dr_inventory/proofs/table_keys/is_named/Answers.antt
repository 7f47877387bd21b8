use Rattle.std.proofs.Common.{◌≡◌, ◌∙◌, ◌<◌, false, ap, sym, List, ℕ, [], map, length, get_or, bytes_eq, Bor}
use Rattle.std.proofs.lemmas.List.{get_or-map, length-map}
use Rattle.std.proofs.lemmas.List.Folds.{list_any_more, list_any_at}
use Rattle.dr_inventory.proofs.table_keys.is_named.Goals as goal

-- the name at a place, in the list of names without their references
at : (names : List (Bor (List ℕ))) (i : ℕ) (d : Bor (List ℕ)) → i < length names → get_or (map (λ n. n.now) names) i [] ≡ (get_or names i d).now
at names i d h = get_or-map (λ n. n.now) names i d [] h

within : (names : List (Bor (List ℕ))) (i : ℕ) → i < length names → i < length (map (λ n. n.now) names)
within names i h = rw (length-map names (λ n. n.now)) h

pub returns-then-eq : goal.returns-then-eq
returns-then-eq c =
    let names = c.args.names.now in
    let h = within names c.loop-name.name-index c.loop-name-test.true in
    sym (list_any_at (λ n. bytes_eq n c.args.key.now) (map (λ n. n.now) names) c.loop-name.name-index [] h
    (ap (λ n. bytes_eq n c.args.key.now) (at names c.loop-name.name-index _ c.loop-name-test.true) ∙ sym c.eq.ensures ∙ c.if-eq.true))

pub loop-name-preserved : goal.loop-name-preserved
loop-name-preserved c =
    let names = c.args.names.now in
    let h = within names c.loop-name.name-index c.loop-name-test.true in
    let here : bytes_eq (get_or (map (λ n. n.now) names) c.loop-name.name-index []) c.args.key.now ≡ false =
    ap (λ n. bytes_eq n c.args.key.now) (at names c.loop-name.name-index _ c.loop-name-test.true) ∙ sym c.eq.ensures ∙ c.if-eq.false in
    list_any_more (λ n. bytes_eq n c.args.key.now) (map (λ n. n.now) names) c.loop-name.name-index [] h ∙ rw (c.loop-name.invariant) here
