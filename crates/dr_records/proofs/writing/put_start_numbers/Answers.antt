use Rattle.std.proofs.Common.{◌≡◌, [], ◌∷◌, ◌++◌}
use Rattle.dr_records.specs.Spelling.{four_bytes, eight_bytes, op_byte, flag_byte}
use Rattle.dr_records.proofs.Lists.{six_parts}
use Rattle.dr_records.proofs.writing.put_start_numbers.Goals as goal

pub returns-clause-items : goal.returns-clause-items
returns-clause-items c =
    let row = c.args.row.now in
    let op : c.put_byte.new.out.items ≡ c.put_four.new.out.items ++ op_byte row.op ∷ [] = rw c.byte_of_op.ensures at c.put_byte.ensures.items in
    let forced : c.put_byte-2.new.out.items ≡ c.put_byte.new.out.items ++ flag_byte row.forced ∷ [] = rw c.byte_of_flag.ensures at c.put_byte-2.ensures.items in
    six_parts c.args.out.now.items (four_bytes row.run) (op_byte row.op ∷ []) (flag_byte row.forced ∷ []) (four_bytes row.plan) (four_bytes row.over) (eight_bytes row.moment) _ _ _ _ _ _ c.put_four.ensures.items op forced c.put_four-2.ensures.items c.put_four-3.ensures.items c.put_eight.ensures.items
