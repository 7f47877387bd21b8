use Rattle.std.proofs.Common.{◌≡◌, ◌∙◌, map, take, ap, arith}
use Rattle.std.proofs.lemmas.List.{take_min, take_all}
use Rattle.dr_inventory.specs.Shapes.{shown_byte}
use Rattle.dr_inventory.proofs.table_keys.shown_key.Goals as goal

pub returns : goal.returns
returns c =
    let first = take c.min.result c.args.key.now in
    let all : take c.loop-b.b-index first ≡ first = take_all c.loop-b.b-index first (omega arith) in
    let same : first ≡ take 64 c.args.key.now = ap (λ n. take n c.args.key.now) (c.min.ensures ∙ omega arith) ∙ take_min 64 c.args.key.now in
    c.loop-b.invariant ∙ ap (map shown_byte) (all ∙ same)
