-- Before any run the outside is sound by none.
use Rattle.std.specs.Prelude.{◌≡◌, ℕ, ◌<◌, ◌≤◌, []}
use Rattle.std.proofs.Common.{sym, ap, ◌∙◌, subst}
use Rattle.dr_base.specs.Sides.{other}
use Rattle.dr_groups.specs.Groups.{IsPairOf, IsMachineOf}
use Rattle.dr_outside.specs.BySide.{at}
use Rattle.dr_meaning.specs.Types.{Side, Pair, Estate}
use Rattle.dr_meaning.specs.Opening.{IsOpeningPair}
use Rattle.dr_meaning.specs.Worlds.{World, IsOpeningPost}
use Rattle.dr_meaning.specs.Runs.{Setting, named_side}
use Rattle.dr_meaning.specs.Fits.{IsReplicating, FitsPair}
use Rattle.dr_meaning.specs.Sound.{IsSoundBy}

replicating : (side : Side) (pair : Pair) → pair.source ≡ side → IsOpeningPair side pair → IsReplicating pair
replicating side pair source opens = record {
  line = subst (λ s. (at (other s) pair.content).line ≡ (at s pair.content).line) (sym source) opens.line;
  behind = subst (λ s. (at (other s) pair.content).writes ≤ (at s pair.content).writes) (sym source) opens.behind;
}

opening_fits : (estate : Estate) (g k : ℕ) (pair : Pair) → IsOpeningPair (named_side estate g) pair → FitsPair estate [] g k pair
opening_fits estate g k pair opens = record {
  frame = opens.frame;
  numbers = record { live = λ live. replicating (named_side estate g) pair (ap (λ f. f.source) opens.frame) opens; split = λ split. tt; writes = tt };
}

pub opening_sound : (setting : Setting) (w : World) → ((g p : ℕ) → IsPairOf setting.estate g p → p < w.pair_count → IsOpeningPair (named_side setting.estate g) (w.pair p))
    → ((g m : ℕ) (side : Side) → IsMachineOf setting.estate g m → m < w.machine_count → IsOpeningPost (named_side setting.estate g) side (at side (w.post m))) → IsSoundBy setting [] w
opening_sound setting w pairs posts = record {
  pairs = λ g p of_group there. opening_fits setting.estate g p (w.pair p) (pairs g p of_group there);
  machines = λ g m of_group there side. posts g m side of_group there;
  consistent = λ g p q p_of q_of p_there q_there same. (pairs g p p_of p_there).frame ∙ sym (pairs g q q_of q_there).frame;
  codes = tt;
  in_order = λ g run last all_last up. absurd cc;
}
