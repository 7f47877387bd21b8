-- The parts of a kept command's text, joined.
use Rattle.std.proofs.Common.{ℕ, List, Option, refl}
use Rattle.std.specs.Prelude.{codes, decimal}
use Rattle.dr_base.specs.declared.side.Side.{Side}
use Rattle.dr_outside.specs.declared.machine.Kept.{Kept}
use Rattle.dr_lab.specs.Fields.{field, Taken, NoneThere}
use Rattle.dr_lab.specs.PairText.{IsLarge}
use Rattle.dr_lab.specs.MachineText.{IsName}
use Rattle.dr_lab.specs.KeptText.{IsCode, whose_word, kept_text, IsKept}
use Rattle.dr_lab.proofs.Joins.{Both, both_text, Any, remade, remade_none}

abbrev pub name_field : List ℕ → List ℕ
name_field = field (codes "name ") 10

abbrev pub side_text : Option Side × List ℕ → List ℕ
side_text = both_text (λ side. field (codes "side ") 32 (whose_word side)) name_field

abbrev pub code_text : ℕ × (Option Side × List ℕ) → List ℕ
code_text = both_text (λ code. field (codes "code ") 32 (decimal code)) side_text

abbrev pub token_text : ℕ × (ℕ × (Option Side × List ℕ)) → List ℕ
token_text = both_text (λ token. field (codes "token ") 32 (decimal token)) code_text

abbrev pub IsSide : Option Side × List ℕ → Type 0
IsSide = Both Any IsName

abbrev pub IsRest : ℕ × (Option Side × List ℕ) → Type 0
IsRest = Both IsCode IsSide

abbrev kept_of : ℕ × (ℕ × (Option Side × List ℕ)) → Kept
kept_of p = record { token = p.0; code = p.1.0; side = p.1.1.0; name = p.1.1.1 }

abbrev parts_of : Kept → ℕ × (ℕ × (Option Side × List ℕ))
parts_of kept = (kept.token, (kept.code, (kept.side, kept.name)))

pub kept_made : {bytes rest : List ℕ} {p : ℕ × (ℕ × (Option Side × List ℕ))} → Taken (Both IsLarge IsRest) token_text bytes p rest → Taken IsKept kept_text bytes (kept_of p) rest
unfolding kept_text
kept_made t = remade IsKept kept_text kept_of parts_of (λ a h. (h.0, (h.1.0, h.1.1.1))) (λ c h. (h.0, (h.1.0, (tt, h.1.1)))) (λ c h. refl) (λ a h. refl) t

pub kept_none : {bytes : List ℕ} → NoneThere (Both IsLarge IsRest) token_text bytes → NoneThere IsKept kept_text bytes
unfolding kept_text
kept_none t = remade_none IsKept kept_text parts_of (λ c h. (h.0, (h.1.0, (tt, h.1.1)))) (λ c h. refl) t
