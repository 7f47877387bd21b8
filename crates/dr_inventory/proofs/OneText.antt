-- A text is that of one estate.
use Rattle.std.specs.Prelude.{◌≡◌, ℕ, List, unwrap_or, Result, Ok, Err}
use Rattle.std.proofs.Common.{sym, ap, ◌∙◌}
use Rattle.dr_base.specs.declared.estate_fault.EstateFault.{EstateFault}
use Rattle.dr_inventory.specs.declared.estate.Estate.{Estate}
use Rattle.dr_inventory.specs.Estates.{IsEstateText, reading}

abbrev ok_or : Estate → Result Estate EstateFault → Estate
ok_or e (Ok d) = d
ok_or e (Err f) = e

-- the estate of a text is one
pub one_estate : (bytes : List ℕ) (d e : Estate) → IsEstateText bytes d → IsEstateText bytes e → d ≡ e
one_estate bytes d e a b =
    let tables : a.table ≡ b.table = ap (λ o. unwrap_or o a.table) (sym a.is_table.parsed ∙ b.is_table.parsed) in
    ap (ok_or d) (sym a.value ∙ ap reading tables ∙ b.value)
