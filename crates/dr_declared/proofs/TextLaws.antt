-- The first fault of a text is one, and an estate's text has none.
use Rattle.std.proofs.Common.{◌≡◌, ℕ, List, inl, inr, sym, ap, ◌∙◌, arith}
use Rattle.std.specs.Prelude.{Result, Ok, Err, unwrap_or}
use Rattle.dr_base.specs.declared.estate_fault.EstateFault.{EstateFault}
use Rattle.dr_inventory.specs.declared.estate.Estate.{Estate}
use Rattle.dr_inventory.specs.Estates.{ReadsAs, IsEstateText, IsTextFault, reading}

-- bytes read in one way
one_text : (bytes : List ℕ) (r s : Result Estate EstateFault) → ReadsAs bytes r → ReadsAs bytes s → r ≡ s
one_text bytes r s a b =
    let tables : a.table ≡ b.table = ap (λ o. unwrap_or o a.table) (sym a.is_table.parsed ∙ b.is_table.parsed) in
    sym a.value ∙ ap reading tables ∙ b.value

-- text that reads isn't too long, and a table's
one_way : (bytes : List ℕ) (fault : EstateFault) (r : Result Estate EstateFault) → IsTextFault bytes fault → ReadsAs bytes r → r ≡ Err fault
one_way bytes fault r is reads = elim is [
  | inl long ↦ absurd (omega (arith, long.long, reads.short))
  | inr rest ↦ elim rest [
    | inl no_table ↦ absurd (no_table.no_table.none reads.table reads.is_table)
    | inr faulty ↦ one_text bytes r (Err fault) reads faulty
  ]
]

-- the fault that was found
abbrev fault_or : EstateFault → Result Estate EstateFault → EstateFault
fault_or none (Ok estate) = none
fault_or none (Err fault) = fault

-- the first fault of a text is one
pub one_text_fault : (bytes : List ℕ) (f g : EstateFault) → IsTextFault bytes f → IsTextFault bytes g → f ≡ g
one_text_fault bytes f g a b = elim a [
  | inl long ↦ elim b [
    | inl also ↦ long.told ∙ sym also.told
    | inr rest ↦ elim rest [
      | inl no_table ↦ absurd (omega (arith, long.long, no_table.no_table.short))
      | inr faulty ↦ absurd (omega (arith, long.long, faulty.short))
    ]
  ]
  | inr rest ↦ elim rest [
    | inl no_table ↦ elim b [
      | inl long ↦ absurd (omega (arith, long.long, no_table.no_table.short))
      | inr more ↦ elim more [
        | inl also ↦ no_table.told ∙ sym also.told
        | inr faulty ↦ absurd (no_table.no_table.none faulty.table faulty.is_table)
      ]
    ]
    | inr faulty ↦ ap (fault_or f) (one_way bytes g (Err f) b faulty)
  ]
]

-- an estate's text has no fault
pub no_text_fault : (bytes : List ℕ) (estate : Estate) (f : EstateFault) → IsEstateText bytes estate → IsTextFault bytes f → ⊥
no_text_fault bytes estate f text fault = (let e : Ok estate ≡ Err f = one_way bytes f (Ok estate) fault text in cc e)
