use Rattle.std.proofs.Common.{◌≡◌, ◌++◌}
use Rattle.dr_records.specs.Spelling.{four_bytes, start_numbers, name_text, list_text, pair_text}
use Rattle.dr_records.proofs.Lists.{four_parts}
use Rattle.dr_records.proofs.writing.put_start.Goals as goal

pub returns : goal.returns
returns c =
    let row = c.args.row.now in
    let groups : c.put_numbers.new.out.items ≡ c.put_name.new.out.items ++ list_text four_bytes row.groups = rw c.as_slice.ensures at c.put_numbers.ensures.items in
    let pairs : c.put_pairs.new.out.items ≡ c.put_numbers.new.out.items ++ list_text pair_text row.pairs = rw c.as_slice-2.ensures at c.put_pairs.ensures.items in
    record { items = four_parts c.args.out.now.items (start_numbers row) (name_text row.id) (list_text four_bytes row.groups) (list_text pair_text row.pairs) _ _ _ _ c.put_start_numbers.ensures.items c.put_name.ensures.items groups pairs }
