use Rattle.std.proofs.Common.{rules}
use Rattle.std.proofs.lemmas.Iterator.Search.{all_from_yields_List}
use Rattle.std.proofs.lemmas.Iterator.Splits.{YieldsList-from_slice_split}
use Rattle.dr_base.specs.Names.{is_name}
use Rattle.dr_base.specs.Paths.{is_slash}
use Rattle.dr_base.proofs.path.all_parts_are_names.Goals as goal
use borrow.Author.Tests.{tests}

pub returns : goal.returns
returns c = all_from_yields_List is_name _ _ _ c.all.ensures.ran (YieldsList-from_slice_split _ is_slash c.args.bytes.now c.split.ensures.rest c.split.ensures.done c.split.ensures.closure (λ x b q k. search (rules, tests))) (λ x b q k. search (rules, tests))
