use Rattle.dr_meaning.specs.Types.{StartPair}
use Rattle.dr_replay.proofs.PairLists.{all_agree}
use Rattle.dr_replay.proofs.starts.names_pairs.Goals as goal

pub returns-then-rows-pairs : goal.returns-then-rows-pairs
returns-then-rows-pairs c =
    rw (c.agree.ensures, ← c.as_slice-rows.ensures, ← c.as_slice-pairs.ensures)
    (all_agree (λ (p : StartPair). p.pair) c.as_slice-rows.result.now c.as_slice-pairs.result.now c.if-rows-pairs.true)
